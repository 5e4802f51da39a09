-- What is told of the end of a run.
use Rattle.std.specs.Prelude.{◌≡◌, List, Option, Some, None}
use Rattle.pict_core.specs.Configuration.{Entry}
use Rattle.pict_stepper.specs.declared.run.End.{End}
use Rattle.pict_stepper.specs.declared.run.End.TheVariants as end
use Rattle.pict_waits.specs.declared.telling.Told.{Told}
use Rattle.pict_waits.specs.Waiting.{waits_of, all_wait}

-- of these entries those who wait are told, and whether they all wait for messages, and none is left
pub record Tells (es : List Entry) (t : Told) : Type 0 where
  pub waits : t.waits.items ≡ waits_of es
  pub all_wait : t.all_wait ≡ all_wait (waits_of es)

-- where nothing is ready any more, who waits is told; else nothing
abbrev pub TellsEnd : End → List Entry → Option Told → Type 0
TellsEnd end.Finished es (Some t) = Tells es t
TellsEnd end.Finished es None = ⊥
TellsEnd _ es t = t ≡ None
