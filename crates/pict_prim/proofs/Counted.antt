-- Records by the number of their positional fields.
use Rattle.std.proofs.Common.{◌≡◌, ◌≢◌, List, [], ◌∷◌, length, map, Option, None, refl}
use Rattle.pict_core.specs.Term.{Val, Labelled, Record}
use Rattle.pict_core.specs.Plain.{plain_val, vals_of}
use Rattle.pict_core.specs.Primitives.{Effect, at_two, at_three}
use Rattle.pict_core.specs.declared.value.CoreVal.{CoreVal}

pub not_two : (xs : List CoreVal) (ls : Labelled) → length xs ≢ 2 → (f : Val → Val → Option Effect) → at_two (Record (vals_of (map plain_val xs)) ls) f ≡ None
not_two [] ls n f = refl
not_two (v ∷ []) ls n f = refl
not_two (v ∷ k ∷ []) ls n f = absurd (n refl)
not_two (v ∷ k ∷ x ∷ xs) ls n f = refl

pub not_three : (xs : List CoreVal) (ls : Labelled) → length xs ≢ 3 → (f : Val → Val → Val → Option Effect) → at_three (Record (vals_of (map plain_val xs)) ls) f ≡ None
not_three [] ls n f = refl
not_three (v ∷ []) ls n f = refl
not_three (v ∷ w ∷ []) ls n f = refl
not_three (v ∷ w ∷ k ∷ []) ls n f = absurd (n refl)
not_three (v ∷ w ∷ k ∷ x ∷ xs) ls n f = refl
