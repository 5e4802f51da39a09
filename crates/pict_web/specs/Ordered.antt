-- What stands after a call for all orders of a program's steps.
use Rattle.std.specs.Prelude.{◌≡◌, ◌⊎◌, ℕ, List, []}
use Rattle.pict_core.specs.Term.{Process}
use Rattle.pict_core.specs.Places.{Place}
use Rattle.pict_way.specs.Way.{IsWay}
use Rattle.pict_web.specs.Told.{Telling}

-- the replay file of choices that the process can make, or nothing
abbrev pub WayOf : List (List ℕ) → Process → List ℕ → Type 0
WayOf names core told = (told ≡ []) ⊎ (places : List Place) × IsWay names core places told

-- of an accepted file: where a way is asked for (1), that of such choices
abbrev pub orders_of : ℕ → Telling
orders_of what accepted told = what ≡ 1 → WayOf accepted.front.names accepted.front.core told
