use Rattle.std.proofs.Common.{map, length}
use Rattle.pict_replay.specs.Files.{BeginsWithChoices}
use Rattle.pict_replay.specs.Plain.{place_of}
use Rattle.pict_replay.proofs.choices.begin_choices.Given as goal

abbrev pub invariant-lines : goal.invariant-lines
invariant-lines l = record { before : BeginsWithChoices l.text (map place_of l.choices.items) l.rest }

abbrev pub decreases-lines : goal.decreases-lines
decreases-lines l = length l.rest
