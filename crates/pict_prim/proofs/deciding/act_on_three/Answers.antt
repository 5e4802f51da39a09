use Rattle.std.proofs.Common.{sym, ap, ◌∙◌}
use Rattle.pict_heap.specs.HeapState.{value_of}
use Rattle.pict_prim.specs.Needed.{needed, of_three}
use Rattle.pict_prim.proofs.Shapes.{three_numbers}
use Rattle.pict_prim.proofs.Needs.{if_needs, operands_need}
use Rattle.pict_prim.proofs.deciding.act_on_three.Goals as goal

pub returns-in-Join-clause-words : goal.returns-in-Join-clause-words
returns-in-Join-clause-words c = c.join.ensures.words c.args.heap.now c.requires.first c.requires.second c.requires.target

pub returns-in_default-clause-effect : goal.returns-in_default-clause-effect
returns-in_default-clause-effect c =
    c.act_on_operands.ensures.effect c.args.heap.now ∙ sym (three_numbers c.args.p c.in_default.not-Join c.in_default.not-Nth _ _ _)

pub returns-in_default-clause-words : goal.returns-in_default-clause-words
returns-in_default-clause-words c = c.act_on_operands.ensures.words c.args.heap.now c.requires.target

pub returns-in-Join-clause-need : goal.returns-in-Join-clause-need
returns-in-Join-clause-need c ls =
    if_needs c.args.heap.now c.join.result _ _ (ap (λ p. needed p (of_three (value_of c.args.heap.now c.args.v) (value_of c.args.heap.now c.args.w) (value_of c.args.heap.now c.args.k) ls)) (sym c.in-Join.is))
    (c.join.ensures.need c.args.heap.now ls)

pub returns-in-Nth-clause-need : goal.returns-in-Nth-clause-need
returns-in-Nth-clause-need c ls =
    let v = of_three (value_of c.args.heap.now c.args.v) (value_of c.args.heap.now c.args.w) (value_of c.args.heap.now c.args.k) ls in
    if_needs c.args.heap.now c.nth.result _ _ (ap (λ p. needed p v) (sym c.in-Nth.is)) (c.nth.ensures.need c.args.heap.now v)

pub returns-in_default-clause-need : goal.returns-in_default-clause-need
returns-in_default-clause-need c ls =
    operands_need c.args.p c.in_default.not-Join c.args.heap.now _ _ _ _ c.act_on_operands.result (c.act_on_operands.ensures.effect c.args.heap.now) c.act_on_operands.ensures.plain
