-- Binding a name inside, and forgetting it again.
use Rattle.std.proofs.Common.{◌≡◌, ℕ, ◌+◌, Bool, true, false, cond, nat_eq, nat_lt, List, [], ◌∷◌, ◌++◌, length, Option, Some, None, refl, sym, ◌∙◌, ap, subst, arith, ◌⊎◌, inl, inr}
use Rattle.std.specs.Prelude.{if◌then◌else◌, IsSome}
use Rattle.std.proofs.lemmas.Bool.{eqb-true, eq-eqb}
use Rattle.std.specs.Ordering.{nat_cmp, is_eq}
use Rattle.std.specs.declared.cmp.Ordering.TheVariants.{Less, Equal, Greater}
use Rattle.std.specs.BTreeMap.{BTreeMap, IsUnchanged, get, is_at}
use Rattle.std.specs.Map.{lookup}
use borrow.Author.Tests.{ltb-true}
use Rattle.pict_binders.specs.Names.{level_of}
use Rattle.pict_binders.specs.Tables.{SetsLevel, names_onto, names_of, KeepOuter, StandsFor}
use Rattle.pict_binders.specs.declared.nearest.Binder.{Binder}

pub names_onto_snoc : (around : List ℕ) (bs : List Binder) (b : Binder) → names_onto around (bs ++ b ∷ []) ≡ b.name ∷ names_onto around bs
names_onto_snoc around [] b = refl
names_onto_snoc around (c ∷ bs) b = names_onto_snoc (c.name ∷ around) bs b

length_names_onto : (around : List ℕ) (bs : List Binder) → length (names_onto around bs) ≡ length around + length bs
length_names_onto around [] = omega arith
length_names_onto around (c ∷ bs) = let ih = length_names_onto (c.name ∷ around) bs in omega arith

pub length_names : (bs : List Binder) → length (names_of bs) ≡ length bs
length_names bs = omega (arith, length_names_onto [] bs)

keep_one_more : (around : List ℕ) (bs : List Binder) (b : Binder) → KeepOuter around bs → b.outer ≡ level_of (names_onto around bs) b.name → KeepOuter around (bs ++ b ∷ [])
keep_one_more around [] b keep is = (is, tt)
keep_one_more around (c ∷ bs) b keep is = (keep.0, keep_one_more (c.name ∷ around) bs b keep.1 is)

record KeepsLast (around : List ℕ) (bs : List Binder) (b : Binder) : Type 0 where
  front : KeepOuter around bs
  last : b.outer ≡ level_of (names_onto around bs) b.name

keep_one_less : (around : List ℕ) (bs : List Binder) (b : Binder) → KeepOuter around (bs ++ b ∷ []) → KeepsLast around bs b
keep_one_less around [] b keep = record { front = tt; last = keep.0 }
keep_one_less around (c ∷ bs) b keep =
    let less = keep_one_less (c.name ∷ around) bs b keep.1 in
    record { front = (keep.0, less.front); last = less.last }

-- what a map says of one key changed
same_key : (x y : ℕ) → is_eq (nat_cmp x y) ≡ nat_eq x y
same_key x y = go (nat_lt x y) (nat_eq x y) refl refl
  where
    go : (a b : Bool) → nat_lt x y ≡ a → nat_eq x y ≡ b → is_eq (cond a Less (cond b Equal Greater)) ≡ b
    go true true p q = absurd (omega (arith, ltb-true x y p, eqb-true x y q))
    go true false p q = refl
    go false true p q = refl
    go false false p q = refl

pub sets_level : (old new : BTreeMap ℕ ℕ) (name : ℕ) (level : Option ℕ) → ((q : ℕ) → get nat_cmp new q ≡ cond (is_eq (nat_cmp name q)) level (get nat_cmp old q)) → SetsLevel old new name level
sets_level old new name level h q = h q ∙ ap (λ t. if t then level else get nat_cmp old q) (same_key name q)

pub bound : (bs : List Binder) (b : Binder) (old new : BTreeMap ℕ ℕ) (level : ℕ) → StandsFor bs old → SetsLevel old new b.name (Some level) → level ≡ length bs → b.outer ≡ get nat_cmp old b.name → StandsFor (bs ++ b ∷ []) new
bound bs b old new level stands set is outer = record {
  table = λ q. set q
      ∙ ap (λ l. if nat_eq b.name q then Some level else l) (stands.table q)
      ∙ ap (λ l. if nat_eq b.name q then Some l else level_of (names_of bs) q) (is ∙ sym (length_names bs))
      ∙ ap (λ names. level_of names q) (sym (names_onto_snoc [] bs b));
  outer = keep_one_more [] bs b stands.outer (outer ∙ stands.table b.name);
}

-- a map with the same entries
pub unchanged : (bs : List Binder) (old new : BTreeMap ℕ ℕ) → StandsFor bs old → IsUnchanged old new → StandsFor bs new
unchanged bs old new stands same = record { table = λ q. ap (lookup (is_at (nat_cmp q))) same ∙ stands.table q; outer = stands.outer }

pub has_no_level : {o : Option ℕ} → o ≡ None → IsSome o → ⊥
has_no_level e s = let z : false ≡ true = subst IsSome e s in cc

pub has_level : (bs : List Binder) (b : Binder) (levels : BTreeMap ℕ ℕ) → StandsFor (bs ++ b ∷ []) levels → IsSome (get nat_cmp levels b.name)
has_level bs b levels stands =
    let some : get nat_cmp levels b.name ≡ Some (length (names_of bs)) = stands.table b.name ∙ ap (λ names. level_of names b.name) (names_onto_snoc [] bs b) ∙ ap (λ t. if t then Some (length (names_of bs)) else level_of (names_of bs) b.name) (eq-eqb b.name b.name refl) in
    let P : Option ℕ → Type 0 = IsSome in
    subst P (sym some) refl

one_of : (t : Bool) → (t ≡ true) ⊎ (t ≡ false)
one_of true = inl refl
one_of false = inr refl

unbound_at : (bs : List Binder) (b : Binder) (old new : BTreeMap ℕ ℕ) (q : ℕ) → StandsFor (bs ++ b ∷ []) old → SetsLevel old new b.name b.outer → (nat_eq b.name q ≡ true) ⊎ (nat_eq b.name q ≡ false) → get nat_cmp new q ≡ level_of (names_of bs) q
unbound_at bs b old new q stands set (inl same) =
    set q ∙ ap (λ t. if t then b.outer else get nat_cmp old q) same ∙ (keep_one_less [] bs b stands.outer).last ∙ ap (level_of (names_of bs)) (eqb-true b.name q same)
unbound_at bs b old new q stands set (inr other) =
    set q ∙ ap (λ t. if t then b.outer else get nat_cmp old q) other ∙ stands.table q ∙ ap (λ names. level_of names q) (names_onto_snoc [] bs b)
    ∙ ap (λ t. if t then Some (length (names_of bs)) else level_of (names_of bs) q) other

pub unbound : (bs : List Binder) (b : Binder) (old new : BTreeMap ℕ ℕ) → StandsFor (bs ++ b ∷ []) old → SetsLevel old new b.name b.outer → StandsFor bs new
unbound bs b old new stands set = record {
  table = λ q. unbound_at bs b old new q stands set (one_of (nat_eq b.name q));
  outer = (keep_one_less [] bs b stands.outer).front;
}
