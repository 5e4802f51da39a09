-- Environments that grow, and that are cut back.
use Rattle.std.proofs.Common.{◌≡◌, ℕ, suc, ◌+◌, ◌-◌, ◌<◌, ◌≤◌, List, [], ◌∷◌, ◌++◌, length, map, reverse, take, drop, max, refl, sym, ◌∙◌, ap, ap₂, arith}
use Rattle.std.proofs.lemmas.List.{append-nil, length-map, length-reverse, take_all, take-append-le}
use Rattle.pict_types.specs.Plain.{plain_bound}
use Rattle.pict_types.specs.Renaming.{moved}
use Rattle.pict_types.specs.Entries.{PlainEntry, PlainContext, Variable, variables, EntryIsWellFormed, EntriesAreWellFormed}
use Rattle.pict_types.specs.PlainContext.{type_context}
use Rattle.pict_types.proofs.Inside.{known_behind}
use Rattle.pict_types.proofs.Congruent.{three}
use Rattle.pict_rules.specs.Environments.{Environment, KnownType, KnownValue, entries_of, extended, only_types, rename_values}
use Rattle.pict_infer.specs.declared.env.Env.{Env}
use Rattle.pict_infer.specs.declared.env.Place.{Place}
use Rattle.pict_infer.specs.declared.known.Known.{Known}
use Rattle.pict_infer.specs.declared.known.Binder.{Binder}
use Rattle.pict_infer.specs.declared.added.Added.{Added}
use Rattle.pict_infer.specs.Knowing.{known_values, known_type, known_types, names_known, deepest}
use Rattle.pict_infer.specs.Adding.{extension_of}
use Rattle.pict_infer.specs.Environments.{environment_of, known_entries, known_names, GrewFrom, IsPlaceOf}
use Rattle.pict_infer.proofs.Depths.{values_both, types_length, deepest_both, values_opened}
use Rattle.pict_syntax.proofs.ListLemmas.{map_reverse}
use Rattle.pict_rules.proofs.OwnBinders.{opened_count}

pub environment : (ns ms : List (List ℕ)) (c d : PlainContext) (vs ws : List KnownValue) → ns ≡ ms → c ≡ d → vs ≡ ws → (let e : Environment = record { names = ns; context = c; values = vs } in e) ≡ record { names = ms; context = d; values = ws }
environment ns ms c d vs ws p q r = three (λ (n : List (List ℕ)) (x : PlainContext) (v : List KnownValue). let e : Environment = record { names = n; context = x; values = v } in e) p q r

-- type variables are opened
pub opened_types : (e : Env) (ns : List (List ℕ)) (c : PlainContext) (bs : List KnownType) → ns ≡ known_names e → c ≡ entries_of bs ++ known_entries e → (let d : Environment = record { names = ns; context = c; values = known_values (length (variables c)) e.values.items } in d) ≡ extended (environment_of e) (only_types bs)
opened_types e ns c bs p q =
    environment ns _ c _ (known_values (length (variables c)) e.values.items) _ p q
    (ap (λ n. known_values n e.values.items) (ap (λ x. length (variables x)) q ∙ opened_count bs (known_entries e))
    ∙ values_opened (length (type_context e.context)) (length bs) e.values.items e.placed)

-- and what a pattern adds
pub added_all : (e : Env) (x : Added) (ns : List (List ℕ)) (c : PlainContext) (vs : List Known) → ns ≡ known_names e → c ≡ entries_of (known_types x.binders.items) ++ known_entries e → vs ≡ e.values.items ++ x.values.items → x.base ≡ length (type_context e.context)
    → (let d : Environment = record { names = ns; context = c; values = known_values (length (variables c)) vs } in d) ≡ extended (environment_of e) (extension_of x)
added_all e x ns c vs p q r b =
    environment ns _ c _ (known_values (length (variables c)) vs) _ p q
    (ap₂ (λ n w. known_values n w) count r ∙ values_both (x.base + m) e.values.items x.values.items ∙ ap (λ z. known_values (x.base + m) x.values.items ++ z) old)
  where
    m : ℕ
    m = length x.binders.items

    count : length (variables c) ≡ x.base + length x.binders.items
    count = ap (λ z. length (variables z)) q ∙ omega (arith, opened_count (known_types x.binders.items) (known_entries e), types_length x.binders.items, b)

    old : known_values (x.base + length x.binders.items) e.values.items ≡ rename_values (moved (length (known_types x.binders.items)) 0) (known_values (length (type_context e.context)) e.values.items)
    old = ap (λ n. known_values n e.values.items) (omega (arith, types_length x.binders.items, b))
        ∙ values_opened (length (type_context e.context)) (length (known_types x.binders.items)) e.values.items e.placed

pub grew_types : (e d : Env) (inner : PlainContext) → known_names d ≡ known_names e → known_entries d ≡ inner ++ known_entries e → d.values.items ≡ e.values.items → GrewFrom e d
grew_types e d inner p q r = record { texts = p; inner = inner; entries = q; nearer = []; values = r ∙ sym (append-nil e.values.items) }

-- the type variables that are still to be opened, the next one last
pub all_left : (bs : List Binder) (c : PlainContext) → entries_of (map known_type (reverse bs)) ++ c ≡ entries_of (known_types bs) ++ c
all_left bs c = ap (λ z. entries_of z ++ c) (map_reverse known_type bs)

pub entry_next : (ns : List (List ℕ)) (rest : List Binder) (b : Binder) (c : PlainContext) → EntriesAreWellFormed ns (entries_of (map known_type (rest ++ b ∷ [])) ++ c) → EntryIsWellFormed ns (variables c) (Variable (plain_bound b.bound))
entry_next ns [] b c h = h.0
entry_next ns (x ∷ rest) b c h = entry_next ns rest b c h.1

pub one_opened : (rest : List Binder) (b : Binder) (c : PlainContext) → entries_of (map known_type (rest ++ b ∷ [])) ++ c ≡ entries_of (map known_type rest) ++ (record { name = b.name.0; what = Variable (plain_bound b.bound) } ∷ c)
one_opened [] b c = refl
one_opened (x ∷ rest) b c = ap (λ (z : PlainContext). let y : PlainEntry = record { name = x.name.0; what = Variable (plain_bound x.bound) } in y ∷ z) (one_opened rest b c)

-- a value that is known next

pub placed_so_far : (vs rest : List Known) (all more : List Known) → vs ++ rest ≡ all ++ more → deepest vs ≤ max (deepest all) (deepest more)
placed_so_far vs rest all more h = omega (arith, deepest_both vs rest, deepest_both all more, ap deepest h)

-- what is cut off
pub drop_inner : {A : Type 0} (xs ys : List A) (n : ℕ) → n ≡ length xs → drop n (xs ++ ys) ≡ ys
drop_inner [] ys n h = ap (λ k. drop k ys) h
drop_inner (x ∷ xs) ys n h = ap (λ k. drop k ((x ∷ xs) ++ ys)) h ∙ drop_inner xs ys (length xs) refl

pub take_outer : {A : Type 0} (xs ys : List A) (n : ℕ) → n ≡ length xs → take n (xs ++ ys) ≡ xs
take_outer xs ys n h = take-append-le n xs ys (omega (arith, h)) ∙ take_all n xs (omega (arith, h))

length_both : {A : Type 0} (xs ys : List A) → length (xs ++ ys) ≡ length xs + length ys
length_both [] ys = omega arith
length_both (x ∷ xs) ys = omega (arith, length_both xs ys)

pub entries_back : (p : Place) (before now : Env) → IsPlaceOf p before → GrewFrom before now → drop (length (known_entries now) - p.entries) (known_entries now) ≡ known_entries before
entries_back p before now i g =
    ap (λ z. drop (length z - p.entries) z) g.entries
    ∙ drop_inner g.inner (known_entries before) _ (omega (arith, i.entries, length_both g.inner (known_entries before)))

pub values_back : (p : Place) (before now : Env) → IsPlaceOf p before → GrewFrom before now → take p.values now.values.items ≡ before.values.items
values_back p before now i g = ap (take p.values) g.values ∙ take_outer before.values.items g.nearer p.values i.values

pub place_within : (p : Place) (before now : Env) → IsPlaceOf p before → GrewFrom before now → p.values ≤ length now.values.items
place_within p before now i g = omega (arith, i.values, ap length g.values, length_both before.values.items g.nearer)

pub names_cut : (vs : List Known) (n : ℕ) → n ≤ length vs → names_known (take n vs) ≡ drop (length vs - n) (names_known vs)
names_cut vs n h = ap (λ k. names_known (take k vs)) (omega (arith, h)) ∙ known_behind (λ v. v.name.0) vs (length vs - n) (omega arith)

pub names_length : (vs : List Known) → length (names_known vs) ≡ length vs
names_length vs =
    let m : length (map (λ (v : Known). v.name.0) vs) ≡ length vs = simp length-map refl in
    length-reverse (map (λ (v : Known). v.name.0) vs) ∙ m

-- one less, and as many are left
pub cut_more : {A : Type 0} (xs ys : List A) (left : ℕ) → ys ≡ drop 1 xs → left < length xs → drop (length ys - left) ys ≡ drop (length xs - left) xs
cut_more [] ys left e h = absurd (omega (arith, h))
cut_more (x ∷ xs) ys left e h =
    let n : length (x ∷ xs) - left ≡ suc (length xs - left) = omega (arith, h) in
    ap (λ l. drop (length l - left) l) e ∙ sym (ap (λ k. drop k (x ∷ xs)) n)

pub nothing_cut : {A : Type 0} (xs : List A) (left : ℕ) → length xs ≤ left → drop (length xs - left) xs ≡ xs
nothing_cut xs left h = ap (λ k. drop k xs) (zero_left (length xs) left h)
  where
    zero_left : (n m : ℕ) → n ≤ m → n - m ≡ 0
    zero_left n m h = omega (arith, h)
