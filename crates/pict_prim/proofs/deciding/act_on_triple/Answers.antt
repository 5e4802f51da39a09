use Rattle.std.proofs.Common.{sym, ◌∙◌}
use Rattle.pict_heap.specs.HeapState.{value_of}
use Rattle.pict_prim.proofs.Shapes.{has_three, three_of}
use Rattle.pict_prim.proofs.Needs.{three_needed, if_needs}
use Rattle.pict_prim.proofs.deciding.act_on_triple.Goals as goal

pub field-v-requires-clause-there : goal.field-v-requires-clause-there
field-v-requires-clause-there c = (has_three (value_of c.args.heap.now c.args.argument) c.requires.three).0

pub field-w-requires-clause-there : goal.field-w-requires-clause-there
field-w-requires-clause-there c = (has_three (value_of c.args.heap.now c.args.argument) c.requires.three).1

pub field-k-requires-clause-there : goal.field-k-requires-clause-there
field-k-requires-clause-there c = (has_three (value_of c.args.heap.now c.args.argument) c.requires.three).2

pub returns-clause-effect : goal.returns-clause-effect
returns-clause-effect c =
    c.act_on_three.ensures.effect
    ∙ sym (three_of c.args.p (value_of c.args.heap.now c.args.argument) _ _ _ c.requires.three c.field-v.ensures.value c.field-w.ensures.value c.field-k.ensures.value)

pub returns-clause-need : goal.returns-clause-need
returns-clause-need c =
    let t = three_needed c.args.p (value_of c.args.heap.now c.args.argument) _ _ _ c.requires.three c.field-v.ensures.value c.field-w.ensures.value c.field-k.ensures.value in
    if_needs c.args.heap.now c.act_on_three.result _ _ t.1 (c.act_on_three.ensures.need t.0)
