-- None are written, or as many.
use Rattle.std.proofs.Common.{◌∙◌, sym, length, eqb-true}
use Rattle.pict_types.specs.Plain.{plain_bounds}
use Rattle.pict_lines.proofs.CountEnds.{no_arguments, some_arguments}
use Rattle.pict_lines.proofs.counts.none_or_as_many.Goals as goal

pub returns-then-is_empty : goal.returns-then-is_empty
returns-then-is_empty c = no_arguments c.args.ts.now (plain_bounds c.args.bs.now) (eqb-true (length c.args.ts.now) 0 (sym c.is_empty.ensures ∙ c.if-is_empty.true))

pub returns : goal.returns
returns c = some_arguments c.args.ts.now c.args.bs.now (sym c.is_empty.ensures ∙ c.if-is_empty.false)
