-- What is found, as the rules of typing see it.
use Rattle.std.specs.Prelude.{◌≡◌, ◌⊎◌, ℕ, List, [], ◌∷◌, Option, Some, None, Result, Ok, Err, slice_get}
use Rattle.std.specs.declared.alloc.AllocError.{AllocError}
use Rattle.pict_types.specs.declared.types.Ty.{Ty}
use Rattle.pict_types.specs.Types.{PlainBound, Free, PlainBounds, no_bound, bounds, Plain}
use Rattle.pict_types.specs.Plain.{plain}
use Rattle.pict_rules.specs.Found.{open_slot, filled}
use Rattle.pict_rules.specs.Found as Rules
use Rattle.pict_match.specs.declared.found.Found.{Found}

abbrev pub first_bound : PlainBounds → PlainBound
first_bound no_bound = Free
first_bound (bounds b bs) = b

abbrev pub later_bounds : PlainBounds → PlainBounds
later_bounds no_bound = no_bound
later_bounds (bounds b bs) = bs

-- for type fields with these bounds the arguments that are found, in order; a bound that lacks is none
abbrev pub slots : PlainBounds → List (Option Ty) → Rules.Found
slots bs [] = []
slots bs (None ∷ ts) = open_slot (first_bound bs) ∷ slots (later_bounds bs) ts
slots bs (Some t ∷ ts) = filled (Plain (plain t)) ∷ slots (later_bounds bs) ts

-- what is found for the type fields of a record with these bounds
abbrev pub found_of : PlainBounds → Found → Rules.Found
found_of bs f = slots bs f.list.items

-- the same without the bounds, on which no matching hangs
abbrev pub found_in : Found → Rules.Found
found_in f = found_of no_bound f

-- each type field stands as it did before, or as it does where all is found
pub record IsPartly (before all now : Rules.Found) : Type 0 where
  pub each : (i : ℕ) → (slice_get now i ≡ slice_get before i) ⊎ (slice_get now i ≡ slice_get all i)

-- a call adds this to what was found before, or a part of it, where it wants memory
abbrev pub Finds : Result (Unit {0}) AllocError → (Rules.Found → Rules.Found) → Rules.Found → Rules.Found → Type 0
Finds (Ok x) adds before now = now ≡ adds before
Finds (Err e) adds before now = IsPartly before (adds before) now
