-- The target of each use is the nearest binder whose scope holds it.
use Rattle.std.proofs.Common.{◌≡◌, ℕ, suc, ◌+◌, ◌<◌, nat_eq, Bool, true, false, if◌then◌else◌, not, List, [], ◌∷◌, map, length, Some, slice_get, refl, sym, ◌∙◌, ap, subst, append-nil, eqb-true, arith}
use Rattle.std.specs.List.{position_or_len}
use Rattle.pict_syntax.specs.declared.id.Id.{Id}
use Rattle.pict_scope.specs.declared.target.Target.{Target}
use Rattle.pict_scope.specs.declared.target.Target.TheVariants.{Prim, Binder}
use Rattle.pict_scope.specs.Marks.{value_meanings, binders_read, by_place}
use Rattle.pict_scope.specs.Forms.{in_decs}
use Rattle.pict_scope.specs.Scopes.{outermost, program_marks, type_targets, value_targets}
use Rattle.pict_scope.specs.Laws.{AreAmongBinders}
use Rattle.pict_scope.proofs.BindersRead.{targets_are_binders}
use Rattle.pict_named.specs.Phrases.{Use}
use Rattle.pict_named.specs.Binders.{types_bound, values_bound}
use Rattle.pict_named.specs.Laws.{HaveBinders, TypeTargetsAreNearest, AreTargetsOf, ValueTargetsAreNearest}
use Rattle.pict_named.proofs.Standing.{Ids, some, id_at, value_uses_of}
use Rattle.pict_named.proofs.Types.{goes}
use Rattle.pict_named.proofs.Values.{numbered, goes_on}
use Rattle.pict_named.proofs.Trees.{program_reads}
use Rattle.pict_named.proofs.Defining.{all_defined}

-- around a whole program nothing is bound
abbrev nobody : Ids
nobody = record { values = []; types_ = []; pattern_values = []; pattern_types = [] }

pub type_targets_nearest : TypeTargetsAreNearest
type_targets_nearest texts p h =
    let all = types_bound (in_decs p) in
    subst (λ us. HaveBinders all us (type_targets texts p)) ((program_reads p).types_ nobody)
    (goes all [] [] (in_decs p) (outermost texts) nobody (sym (append-nil all)) refl (record { types_ = tt; pattern_types = tt }) h).used

same_head : {A : Type 0} {x y : A} {xs ys : List A} → x ∷ xs ≡ y ∷ ys → x ≡ y
same_head h = cc

same_tail : {A : Type 0} {x y : A} {xs ys : List A} → x ∷ xs ≡ y ∷ ys → xs ≡ ys
same_tail h = cc

-- what has a number is at the place of the number
place_named : (all : List Id) (order : List ℕ) (bound : List Id) (k : ℕ) (x : Id) → map (id_at all) order ≡ map some bound → id_at all k ≡ Some x → position_or_len (λ m. nat_eq k m) order < length order → slice_get bound (position_or_len (λ m. nat_eq k m) order) ≡ Some x
place_named all [] bound k x h e lt = absurd (omega (arith, lt))
place_named all (o ∷ order) [] k x h e lt = absurd cc
place_named all (o ∷ order) (b ∷ bound) k x h e lt = go (nat_eq k o) refl lt (place_named all order bound k x (same_tail h) e)
  where
    go : (t : Bool) → nat_eq k o ≡ t → (if not t then 1 + position_or_len (λ m. nat_eq k m) order else 0) < length (o ∷ order)
        → (position_or_len (λ m. nat_eq k m) order < length order → slice_get bound (position_or_len (λ m. nat_eq k m) order) ≡ Some x)
        → slice_get (b ∷ bound) (if not t then 1 + position_or_len (λ m. nat_eq k m) order else 0) ≡ Some x
    go true q l f = sym (same_head h) ∙ (ap (id_at all) (sym (eqb-true k o q)) ∙ e)
    go false q l f = let one : 1 + position_or_len (λ m. nat_eq k m) order ≡ suc (position_or_len (λ m. nat_eq k m) order) = omega arith in ap (slice_get (b ∷ bound)) one ∙ f (omega (arith, l))

targets_of : (texts : List (List ℕ)) (all : List Id) (order : List ℕ) (bound : List Id) (us : List Use) (ts : List Target) → map (id_at all) order ≡ map some bound → AreTargetsOf texts all us ts → AreAmongBinders (length order) (map (by_place order) ts) → AreTargetsOf texts bound us (map (by_place order) ts)
targets_of texts all order bound [] [] h m a = tt
targets_of texts all order bound [] (t ∷ ts) h m a = absurd m
targets_of texts all order bound (u ∷ us) [] h m a = absurd m
targets_of texts all order bound (u ∷ us) (Prim q ∷ ts) h m a = (m.0, targets_of texts all order bound us ts h m.1 a.1)
targets_of texts all order bound (u ∷ us) (Binder k ∷ ts) h m a =
    (record { binder = m.0.binder; stands = place_named all order bound k m.0.binder h m.0.stands a.0; is_nearest = m.0.is_nearest }, targets_of texts all order bound us ts h m.1 a.1)

pub value_targets_nearest : ValueTargetsAreNearest
value_targets_nearest texts p h =
    let all = numbered (in_decs p) in
    let bound = values_bound (in_decs p) in
    let g = goes_on texts all [] [] (in_decs p) (outermost texts) nobody (sym (append-nil all)) refl (record { values = tt; pattern_values = tt }) refl (all_defined p nobody (outermost texts) h) h in
    subst (λ us. AreTargetsOf texts bound us (value_targets texts p)) ((program_reads p).values nobody)
    (targets_of texts all (binders_read (program_marks texts p)) bound (value_uses_of (in_decs p) nobody) (value_meanings (program_marks texts p)) g.bound g.used (targets_are_binders texts p h))
