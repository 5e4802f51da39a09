use Rattle.std.proofs.Common.{sym, ◌∙◌}
use Rattle.pict_heap.specs.HeapState.{value_of}
use Rattle.pict_prim.proofs.Shapes.{has_two, two_of}
use Rattle.pict_prim.proofs.deciding.act_on_pair.Goals as goal

pub field-v-requires-clause-there : goal.field-v-requires-clause-there
field-v-requires-clause-there c = (has_two (value_of c.args.heap.now c.args.argument) c.requires.two).0

pub field-k-requires-clause-there : goal.field-k-requires-clause-there
field-k-requires-clause-there c = (has_two (value_of c.args.heap.now c.args.argument) c.requires.two).1

pub returns-clause-effect : goal.returns-clause-effect
returns-clause-effect c =
    c.act_on_two.ensures.effect
    ∙ sym (two_of c.args.p (value_of c.args.heap.now c.args.argument) _ _ c.requires.two c.field-v.ensures.value c.field-k.ensures.value)

pub returns-clause-need : goal.returns-clause-need
returns-clause-need c = c.act_on_two.ensures.need (value_of c.args.heap.now c.args.argument)
