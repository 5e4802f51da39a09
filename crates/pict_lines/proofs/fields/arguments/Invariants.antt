-- The arguments so far.
use Rattle.std.proofs.Common.{◌≡◌, map, take}
use Rattle.pict_types.specs.Plain.{plain_args, plain_bounds}
use Rattle.pict_rules.specs.Found.{argument_in}
use Rattle.pict_match.specs.PlainFound.{slots}
use Rattle.pict_lines.proofs.fields.arguments.Given as goal

abbrev pub invariant-loop-i : goal.invariant-loop-i
invariant-loop-i l = plain_args l.args.items ≡ map argument_in (slots (plain_bounds l.bs) (take l.i l.x-items))
