-- The arguments so far.
use Rattle.std.proofs.Common.{take}
use Rattle.pict_types.specs.Plain.{plain_args}
use Rattle.pict_lines.proofs.Finding.{AreFound}
use Rattle.pict_lines.proofs.fields.all_found.Given as goal

abbrev pub invariant-loop-x : goal.invariant-loop-x
invariant-loop-x l = AreFound (take l.x-index l.x-items) (plain_args l.args.items)
