use Rattle.std.proofs.Common.{sym, ◌∙◌}
use Rattle.pict_prim.proofs.Shapes.{two_words, three_words, other_words}
use Rattle.pict_prim.proofs.deciding.act_on_fields.Goals as goal

pub returns-then-fields-eq2-clause-effect : goal.returns-then-fields-eq2-clause-effect
returns-then-fields-eq2-clause-effect c ls = c.act_on_two.ensures.effect ∙ sym (two_words c.args.p c.args.heap.now ls c.args.fields.now _ _ c.if-fields-eq2.true)

pub returns-then-fields-eq3-clause-effect : goal.returns-then-fields-eq3-clause-effect
returns-then-fields-eq3-clause-effect c ls = c.act_on_three.ensures.effect ∙ sym (three_words c.args.p c.args.heap.now ls c.args.fields.now _ _ _ c.if-fields-eq3.true)

pub returns-else-fields-eq3-clause-effect : goal.returns-else-fields-eq3-clause-effect
returns-else-fields-eq3-clause-effect c ls = sym (other_words c.args.p c.args.heap.now ls c.args.fields.now c.if-fields-eq2.false c.if-fields-eq3.false)
