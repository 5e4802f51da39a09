use Rattle.std.proofs.Common.{sym, ◌∙◌}
use Rattle.pict_heap.specs.HeapState.{value_of}
use Rattle.pict_prim.proofs.Shapes.{simple_by, other_of}
use Rattle.pict_prim.proofs.deciding.act_on.Goals as goal

pub returns-in-None-clause-effect : goal.returns-in-None-clause-effect
returns-in-None-clause-effect c =
    c.act_on_simple.ensures.effect c.args.heap.now ∙ sym (simple_by c.args.p (value_of c.args.heap.now c.args.argument) (sym c.in-None.ensures))

pub returns-in-Some-clause-effect : goal.returns-in-Some-clause-effect
returns-in-Some-clause-effect c =
    sym (other_of c.args.p (value_of c.args.heap.now c.args.argument) c.in-Some.field-0 (sym c.count.ensures ∙ c.in-Some.is) c.in-Some.field-0-test.0.1 c.in-Some.field-0-test.1)

pub returns-in-None-clause-words : goal.returns-in-None-clause-words
returns-in-None-clause-words c = c.act_on_simple.ensures.words c.args.heap.now c.requires

pub returns-in-None-clause-need : goal.returns-in-None-clause-need
returns-in-None-clause-need c = c.act_on_simple.ensures.need c.args.heap.now (value_of c.args.heap.now c.args.argument)
