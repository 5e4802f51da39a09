-- What is found stays at its place.
use Rattle.std.proofs.Common.{◌≡◌, ℕ, zero, suc, [], ◌∷◌, length, Option, Some, slice_get, refl, ◌∙◌, ap}
use Rattle.pict_types.specs.Types.{PlainArg}
use Rattle.pict_rules.specs.Found.{Slot, open_slot, filled, Found, matched}
use Rattle.pict_bridge.proofs.FoundStays.{SlotStays, Stays, matched_stays}
use Rattle.pict_found.specs.Laws.{FoundStays}

abbrev some : Slot → Option Slot
some x = Some x

slot_kept : (x y : Slot) (a : PlainArg) → SlotStays x y → some x ≡ Some (filled a) → some y ≡ Some (filled a)
slot_kept (open_slot b) y a h e = absurd cc
slot_kept (filled d) y a h e = ap some h ∙ e

place_kept : (f g : Found) (i : ℕ) (a : PlainArg) → Stays f g → slice_get f i ≡ Some (filled a) → slice_get g i ≡ Some (filled a)
place_kept [] [] i a h e = e
place_kept [] (y ∷ g) i a h e = absurd h
place_kept (x ∷ f) [] i a h e = absurd h
place_kept (x ∷ f) (y ∷ g) zero a h e = slot_kept x y a h.0 e
place_kept (x ∷ f) (y ∷ g) (suc i) a h e = place_kept f g i a h.1 e

as_long : (f g : Found) → Stays f g → length g ≡ length f
as_long [] [] h = refl
as_long [] (y ∷ g) h = absurd h
as_long (x ∷ f) [] h = absurd h
as_long (x ∷ f) (y ∷ g) h = ap suc (as_long f g h.1)

pub found_kept : FoundStays
found_kept = record {
  kept = λ c d w g f i a e. place_kept f (matched c d w g f) i a (matched_stays c d w g f) e;
  as_many = λ c d w g f. as_long f (matched c d w g f) (matched_stays c d w g f);
}
