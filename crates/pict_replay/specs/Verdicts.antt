-- What a verdict says of choices and lines.
use Rattle.std.specs.Prelude.{List}
use Rattle.pict_core.specs.Term.{Process}
use Rattle.pict_core.specs.Places.{Place}
use Rattle.pict_replay.specs.Replayed.{Line, Agrees, IsFault}
use Rattle.pict_replay.specs.declared.judging.Verdict.{Verdict}
use Rattle.pict_replay.specs.declared.judging.Verdict.TheVariants.{Yes, No}

abbrev pub IsVerdict : Process → List Place → List Line → Verdict → Type 0
IsVerdict p choices lines Yes = Agrees p choices lines
IsVerdict p choices lines (No number) = IsFault p choices lines number
