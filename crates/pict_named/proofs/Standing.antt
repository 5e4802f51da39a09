-- What stands around each place of an outline, by identifiers in place of numbers.
use Rattle.std.proofs.Common.{◌≡◌, ℕ, suc, nat_eq, Bool, true, false, if◌then◌else◌, List, [], ◌∷◌, ◌++◌, length, Option, Some, None, slice_get, refl, sym, ◌∙◌, ap, subst, append-nil, append_assoc, length-append, eqb-true, eq-eqb, true≢false, arith}
use Rattle.pict_syntax.specs.declared.id.Id.{Id}
use Rattle.pict_binders.specs.declared.binders.Binder.{Binder}
use Rattle.pict_binders.specs.Numbered.{nearest}
use Rattle.pict_scope.specs.Outlines.{Outline, empty, ◌▸◌, closed, value_use, type_use, binds_value, binds_type, binds_all, defines, pattern_value, pattern_type, pattern, group, once}
use Rattle.pict_named.specs.Phrases.{Use, AreOthers, IsNearest}
use Rattle.pict_named.specs.Laws.{HaveBinders}

-- the binders around a place, and those of the pattern that is being read, the last first
pub record Ids : Type 0 where
  pub values : List Id
  pub types_ : List Id
  pub pattern_values : List Id
  pub pattern_types : List Id

abbrev pub no_pattern : Ids → Ids
no_pattern g = record g { pattern_values = []; pattern_types = [] }

-- what is bound inside ends with it
abbrev pub ends : Ids → Ids → Ids
ends g h = record h { values = g.values; types_ = g.types_ }

abbrev pub with_type : Id → Ids → Ids
with_type x g = record g { types_ = x ∷ g.types_ }

abbrev pub with_pattern_type : Id → Ids → Ids
with_pattern_type x g = record g { types_ = x ∷ g.types_; pattern_types = x ∷ g.pattern_types }

abbrev pub with_pattern : Ids → Ids → Ids
with_pattern inside g = record g { values = inside.pattern_values ++ g.values; types_ = inside.pattern_types ++ g.types_ }

abbrev pub onto : List Id → List Id → List Id
onto [] around = around
onto (x ∷ xs) around = onto xs (x ∷ around)

unfoldable pub stands : Outline → Ids → Ids
stands empty g = g
stands (o ▸ p) g = stands p (stands o g)
stands (closed o) g = ends g (stands o g)
stands (value_use s n) g = g
stands (type_use s n) g = g
stands (binds_value x) g = record g { values = x ∷ g.values }
stands (binds_type x o) g = with_type x (stands o g)
stands (binds_all xs) g = record g { values = onto xs g.values }
stands (defines x) g = g
stands (pattern_value x) g = record g { pattern_values = x ∷ g.pattern_values }
stands (pattern_type x o) g = with_pattern_type x (stands o g)
stands (pattern o p) g = with_pattern (stands o (no_pattern g)) (stands p g)
stands (group o) g = stands o g
stands (once c x) g = g

-- the uses of an outline
unfoldable pub value_uses_of : Outline → Ids → List Use
value_uses_of empty g = []
value_uses_of (o ▸ p) g = value_uses_of o g ++ value_uses_of p (stands o g)
value_uses_of (closed o) g = value_uses_of o g
value_uses_of (value_use s n) g = record { name = n; around = g.values } ∷ []
value_uses_of (type_use s n) g = []
value_uses_of (binds_value x) g = []
value_uses_of (binds_type x o) g = value_uses_of o g
value_uses_of (binds_all xs) g = []
value_uses_of (defines x) g = []
value_uses_of (pattern_value x) g = []
value_uses_of (pattern_type x o) g = value_uses_of o g
value_uses_of (pattern o p) g = value_uses_of o (no_pattern g) ++ value_uses_of p g
value_uses_of (group o) g = value_uses_of o g
value_uses_of (once c x) g = []

unfoldable pub type_uses_of : Outline → Ids → List Use
type_uses_of empty g = []
type_uses_of (o ▸ p) g = type_uses_of o g ++ type_uses_of p (stands o g)
type_uses_of (closed o) g = type_uses_of o g
type_uses_of (value_use s n) g = []
type_uses_of (type_use s n) g = record { name = n; around = g.types_ } ∷ []
type_uses_of (binds_value x) g = []
type_uses_of (binds_type x o) g = type_uses_of o g
type_uses_of (binds_all xs) g = []
type_uses_of (defines x) g = []
type_uses_of (pattern_value x) g = []
type_uses_of (pattern_type x o) g = type_uses_of o g
type_uses_of (pattern o p) g = type_uses_of o (no_pattern g) ++ type_uses_of p g
type_uses_of (group o) g = type_uses_of o g
type_uses_of (once c x) g = []

abbrev pub some : {A : Type 0} → A → Option A
some x = Some x

abbrev pub id_at : List Id → ℕ → Option Id
id_at all k = slice_get all k

-- the binders are these identifiers, by their numbers
abbrev pub Match : List Id → List Binder → List Id → Type 0
Match all [] [] = Unit {0}
Match all [] (x ∷ xs) = ⊥
Match all (b ∷ bs) [] = ⊥
Match all (b ∷ bs) (x ∷ xs) = (id_at all b.number ≡ Some x) × (b.name ≡ x.name.0) × Match all bs xs

pub match_both : (all : List Id) (bs cs : List Binder) (xs ys : List Id) → Match all bs xs → Match all cs ys → Match all (bs ++ cs) (xs ++ ys)
match_both all [] cs [] ys h k = k
match_both all [] cs (x ∷ xs) ys h k = absurd h
match_both all (b ∷ bs) cs [] ys h k = absurd h
match_both all (b ∷ bs) cs (x ∷ xs) ys h k = (h.0, h.1, match_both all bs cs xs ys h.2 k)

-- what is known of a use: its binder, or that it has none
pub record Found (all : List Id) (n : ℕ) (xs : List Id) (k : ℕ) : Type 0 where
  pub binder : Id
  pub at_ : id_at all k ≡ Some binder
  pub is_nearest : IsNearest n xs binder

abbrev IsFound : List Id → ℕ → List Id → Option ℕ → Type 0
IsFound all n xs (Some k) = Found all n xs k
IsFound all n xs None = AreOthers n xs

no_way : {P : Type 0} {b : Bool} → b ≡ true → b ≡ false → P
no_way h k = absurd (true≢false (sym h ∙ k))

differs : (m n : ℕ) → nat_eq m n ≡ false → m ≡ n → ⊥
differs m n h e = no_way (eq-eqb m n e) h

found_further : (all : List Id) (n : ℕ) (x : Id) (xs : List Id) (o : Option ℕ) → (x.name.0 ≡ n → ⊥) → IsFound all n xs o → IsFound all n (x ∷ xs) o
found_further all n x xs (Some k) h f =
    let i = f.is_nearest in
    record { binder = f.binder; at_ = f.at_; is_nearest = record { nearer = x ∷ i.nearer; further = i.further; holds = ap (λ z. x ∷ z) i.holds; named = i.named; none_nearer = (h, i.none_nearer) } }
found_further all n x xs None h f = (h, f)

found : (all : List Id) (bs : List Binder) (xs : List Id) (n : ℕ) → Match all bs xs → IsFound all n xs (nearest bs n)
found all [] [] n h = tt
found all [] (x ∷ xs) n h = absurd h
found all (b ∷ bs) [] n h = absurd h
found all (b ∷ bs) (x ∷ xs) n h = go (nat_eq b.name n) refl (found all bs xs n h.2)
  where
    go : (t : Bool) → nat_eq b.name n ≡ t → IsFound all n xs (nearest bs n) → IsFound all n (x ∷ xs) (if t then Some b.number else nearest bs n)
    go true q f = record { binder = x; at_ = h.0; is_nearest = record { nearer = []; further = xs; holds = refl; named = sym h.1 ∙ eqb-true b.name n q; none_nearer = tt } }
    go false q f = found_further all n x xs (nearest bs n) (λ e. differs b.name n q (h.1 ∙ e)) f

pub found_some : (all : List Id) (bs : List Binder) (xs : List Id) (n k : ℕ) → Match all bs xs → nearest bs n ≡ Some k → Found all n xs k
found_some all bs xs n k h e = subst (IsFound all n xs) e (found all bs xs n h)

pub found_none : (all : List Id) (bs : List Binder) (xs : List Id) (n : ℕ) → Match all bs xs → nearest bs n ≡ None → AreOthers n xs
found_none all bs xs n h e = subst (IsFound all n xs) e (found all bs xs n h)

-- uses and what they mean, one after the other
pub binders_both : (bound : List Id) (us vs : List Use) (ks ls : List ℕ) → HaveBinders bound us ks → HaveBinders bound vs ls → HaveBinders bound (us ++ vs) (ks ++ ls)
binders_both bound [] vs [] ls h k = k
binders_both bound [] vs (x ∷ ks) ls h k = absurd h
binders_both bound (u ∷ us) vs [] ls h k = absurd h
binders_both bound (u ∷ us) vs (x ∷ ks) ls h k = (h.0, binders_both bound us vs ks ls h.1 k)

-- the identifier that stands behind those before it
there : (before after : List Id) (x : Id) → id_at (before ++ x ∷ after) (length before) ≡ Some x
there [] after x = refl
there (m ∷ before) after x = there before after x

pub nothing_bound : (before : List Id) {n : ℕ} → n ≡ length before → n ≡ length (before ++ [])
nothing_bound before h = h ∙ ap length (sym (append-nil before))

pub one_further : (before : List Id) (x : Id) {n : ℕ} → n ≡ length before → suc n ≡ length (before ++ x ∷ [])
one_further before x h = let e = length-append before (x ∷ []) in omega (arith, h, e)

pub first_part : (before bs cs after all : List Id) → all ≡ before ++ ((bs ++ cs) ++ after) → all ≡ before ++ (bs ++ (cs ++ after))
first_part before bs cs after all h = h ∙ ap (λ x. before ++ x) (append_assoc bs cs after)

pub second_part : (before bs cs after all : List Id) → all ≡ before ++ ((bs ++ cs) ++ after) → all ≡ (before ++ bs) ++ (cs ++ after)
second_part before bs cs after all h = first_part before bs cs after all h ∙ sym (append_assoc before bs (cs ++ after))

pub behind_one : (before bs after all : List Id) (x : Id) → all ≡ before ++ ((x ∷ bs) ++ after) → all ≡ (before ++ x ∷ []) ++ (bs ++ after)
behind_one before bs after all x h = h ∙ sym (append_assoc before (x ∷ []) (bs ++ after))

pub at_place : (before bs after all : List Id) (x : Id) (n : ℕ) → all ≡ before ++ ((x ∷ bs) ++ after) → n ≡ length before → id_at all n ≡ Some x
at_place before bs after all x n h e = ap (λ z. id_at z n) h ∙ (ap (id_at (before ++ (x ∷ (bs ++ after)))) e ∙ there before (bs ++ after) x)
