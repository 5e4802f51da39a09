use Rattle.std.proofs.Common.{sym}
use Rattle.pict_heap.specs.HeapState.{value_of}
use Rattle.pict_prim.proofs.Shapes.{none_of_int}
use Rattle.pict_prim.proofs.Bases.{no_int}
use Rattle.pict_prim.proofs.deciding.act_on_operands.Goals as goal

pub returns-in_default-w-clause-effect : goal.returns-in_default-w-clause-effect
returns-in_default-w-clause-effect c h = sym (none_of_int (value_of h c.args.v) _ (λ a. no_int h c.args.w c.in_default-w.not-Int _))

pub returns-in_default-clause-effect : goal.returns-in_default-clause-effect
returns-in_default-clause-effect c h = sym (no_int h c.args.v c.in_default.not-Int _)
