use Rattle.std.proofs.Common.{◌≡◌, ◌++◌, map, take}
use Rattle.pict_orders.specs.Plain.{place_of}
use Rattle.pict_replay.specs.Files.{choices_text}
use Rattle.pict_way.proofs.file.write_choices.Given as goal

abbrev pub invariant-loop-choice : goal.invariant-loop-choice
invariant-loop-choice l = l.out.items ≡ l.fn.out.items ++ choices_text (map place_of (take l.choice-index l.choices))
