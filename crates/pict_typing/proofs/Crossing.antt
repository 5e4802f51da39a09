-- Replacements crossed with renamings, one after another.
use Rattle.std.proofs.lemmas.List.{map-append}
use Rattle.std.proofs.Common.{◌≡◌, ℕ, suc, ◌+◌, List, [], ◌∷◌, ◌++◌, map, refl, sym, ◌∙◌, ap, ap₂, subst, arith}
use Rattle.std.proofs.Math.Path.{fun_ext}
use Rattle.pict_types.specs.Types.{PlainType, Rec, PlainTypes, no_type, types, PlainLabels, no_label, labels, PlainArg, Plain}
use Rattle.pict_types.specs.Renaming.{rename, rename_types, rename_labels, moved}
use Rattle.pict_types.specs.Replacing.{Replacement, replace, replace_types, replace_labels, replacement_beyond, with_arg, unfolding_of, rename_head}
use Rattle.pict_types.specs.NormalTypes.{ReplacesNormal}
use Rattle.pict_types.proofs.Composed.{argument_crosses, rename_head_same}
use Rattle.pict_types.proofs.Renamed.{rename_same, Stays, renamed_alike}
use Rattle.pict_types.proofs.Replaced.{Crosses, replace_renamed, heads_alike, one_binder}
use Rattle.pict_typing.specs.Worlds.{shifted}

still : Stays (λ i. i)
still = record { each = λ i. refl }

-- renamings that move nothing
crosses_still : (r : Replacement) → Crosses r r (λ i. i) (λ i. i)
crosses_still r = record { types_ = λ i. sym (rename_same (r.type_of i) still); heads_ = λ i. sym (rename_head_same (r.head_of i)) }

moved_none : moved 0 0 ≡ (λ i. i)
moved_none = fun_ext (λ i. omega arith)

-- h after f is e, and k after g is d
crosses_joined : {q r s : Replacement} {f g h k e d : ℕ → ℕ} → Crosses r s f g → Crosses q r h k → ((i : ℕ) → e i ≡ h (f i)) → ((i : ℕ) → k (g i) ≡ d i) → Crosses q s e d
crosses_joined {q = q} {r = r} {s = s} {f = f} {g = g} {h = h} {k = k} {e = e} {d = d} x y a b = record { types_ = go; heads_ = go2 }
  where
    go : (i : ℕ) → q.type_of (e i) ≡ rename d (s.type_of i)
    go i = ap q.type_of (a i) ∙ y.types_ (f i) ∙ ap (rename k) (x.types_ i) ∙ renamed_alike k g (λ j. j) d (s.type_of i) b ∙ rename_same (rename d (s.type_of i)) still

    go2 : (i : ℕ) → q.head_of (e i) ≡ rename_head d (s.head_of i)
    go2 i = ap q.head_of (a i) ∙ y.heads_ (f i) ∙ ap (rename_head k) (x.heads_ i) ∙ heads_alike k g (λ j. j) d (s.head_of i) b ∙ rename_head_same (rename_head d (s.head_of i))

-- ---- q puts for the variables past n new ones what r puts for them

-- in the same context
abbrev pub Drops : ℕ → Replacement → Replacement → Type 0
Drops n q r = Crosses q r (moved n 0) (λ i. i)

pub drops_none : (r : Replacement) → Drops 0 r r
drops_none r = subst (λ f. Crosses r r f (λ i. i)) (sym moved_none) (crosses_still r)

pub drops_more : (m n : ℕ) {q r s : Replacement} → Drops m r s → Drops n q r → Drops (m + n) q s
drops_more m n x y = crosses_joined x y (λ i. omega arith) (λ i. refl)

-- of the new variables the first has the argument
pub drops_field : (n : ℕ) {q s : Replacement} (a : PlainArg) → Drops n q (with_arg a s) → Drops (n + 1) q s
drops_field n {s = s} a x = crosses_joined first x (λ i. omega arith) (λ i. refl)
  where
    first : Crosses (with_arg a s) s suc (λ i. i)
    first = record { types_ = λ i. sym (rename_same (s.type_of i) still); heads_ = λ i. sym (rename_head_same (s.head_of i)) }

drops_type : (n : ℕ) {q r : Replacement} (t : PlainType) → Drops n q r → replace q (shifted n t) ≡ replace r t
drops_type n {r = r} t x = replace_renamed t x ∙ rename_same (replace r t) still

pub drops_types : (n : ℕ) {q r : Replacement} (t : PlainTypes) → Drops n q r → replace_types q (rename_types (moved n 0) t) ≡ replace_types r t
drops_types n no_type x = refl
drops_types n (types t ts) x = ap₂ types (drops_type n t x) (drops_types n ts x)

pub drops_labels : (n : ℕ) {q r : Replacement} (t : PlainLabels) → Drops n q r → replace_labels q (rename_labels (moved n 0) t) ≡ replace_labels r t
drops_labels n no_label x = refl
drops_labels n (labels l t ts) x = ap₂ (labels l) (drops_type n t x) (drops_labels n ts x)

-- in a context with n new variables too
abbrev pub Passes : ℕ → Replacement → Replacement → Type 0
Passes n q r = Crosses q r (moved n 0) (moved n 0)

pub passes_none : (r : Replacement) → Passes 0 r r
passes_none r = subst (λ f. Crosses r r f f) (sym moved_none) (crosses_still r)

pub passes_more : (m n : ℕ) {q r s : Replacement} → Passes m r s → Passes n q r → Passes (m + n) q s
passes_more m n x y = crosses_joined x y (λ i. omega arith) (λ i. omega arith)

pub passes_field : (n : ℕ) {q s : Replacement} → Passes n q (replacement_beyond s) → Passes (n + 1) q s
passes_field n {s = s} x = crosses_joined (one_binder s) x (λ i. omega arith) (λ i. omega arith)

-- an unfolding, replaced, is the unfolding of the replaced type
pub unfolding_replaced : {r : Replacement} (t : PlainType) → ReplacesNormal r → replace r (unfolding_of t) ≡ unfolding_of (replace (replacement_beyond r) t)
unfolding_replaced {r = r} t x = argument_crosses (Plain (Rec t)) r t x

-- ---- lists

list_crosses : {f g : ℕ → ℕ} {q r : Replacement} (ts : List PlainType) → Crosses q r f g → map (replace q) (map (rename f) ts) ≡ map (rename g) (map (replace r) ts)
list_crosses [] x = refl
list_crosses (t ∷ ts) x = ap₂ (λ a b. a ∷ b) (replace_renamed t x) (list_crosses ts x)

list_same : (ts : List PlainType) → map (rename (λ i. i)) ts ≡ ts
list_same [] = refl
list_same (t ∷ ts) = ap₂ (λ a b. a ∷ b) (rename_same t still) (list_same ts)

pub list_drops : (n : ℕ) (ts us : List PlainType) {q r : Replacement} → Drops n q r → map (replace r) ts ++ map (replace q) us ≡ map (replace q) (map (shifted n) ts ++ us)
list_drops n ts us {q = q} {r = r} x = ap (λ k. k ++ map (replace q) us) (sym (list_crosses ts x ∙ list_same (map (replace r) ts))) ∙ sym (map-append (replace q) (map (shifted n) ts) us)

pub list_passes : (n : ℕ) (ts us : List PlainType) {q r : Replacement} → Passes n q r → map (shifted n) (map (replace r) ts) ++ map (replace q) us ≡ map (replace q) (map (shifted n) ts ++ us)
list_passes n ts us {q = q} x = ap (λ k. k ++ map (replace q) us) (sym (list_crosses ts x)) ∙ sym (map-append (replace q) (map (shifted n) ts) us)
