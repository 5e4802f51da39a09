use Rattle.std.proofs.Common.{length, cond, sym, ap, ◌∙◌}
use Rattle.pict_picker.proofs.Counts.{count_outputs, count_inputs, begins_with_output, begins_as_node}
use Rattle.pict_picker.proofs.partners.count_partners.Goals as goal

pub returns-then-sends : goal.returns-then-sends
returns-then-sends c core h k parked apart =
    let ws = c.args.list.now.items in
    c.len-then-sends.ensures ∙ sym (ap (λ b. cond b (length ws) 0) c.if-sends.true)
    ∙ sym (count_inputs core h k ws c.args.sends (begins_as_node ws c.get.result.now c.in-Node.field-0 c.in-Node.field-1 c.get.ensures c.in-Node.is) parked apart)

pub returns-else-sends : goal.returns-else-sends
returns-else-sends c core h k parked apart =
    let ws = c.args.list.now.items in
    sym (ap (λ b. cond b (length ws) 0) c.if-sends.false)
    ∙ sym (count_inputs core h k ws c.args.sends (begins_as_node ws c.get.result.now c.in-Node.field-0 c.in-Node.field-1 c.get.ensures c.in-Node.is) parked apart)

pub returns-then-sends-2 : goal.returns-then-sends-2
returns-then-sends-2 c core h k parked apart =
    let ws = c.args.list.now.items in
    sym (ap (λ b. cond b 0 (length ws)) c.if-sends-2.true)
    ∙ sym (count_outputs core h k ws c.args.sends (begins_with_output ws c.get.result.now c.in-Output.field-0 c.get.ensures c.in-Output.is) parked apart)

pub returns-else-sends-2 : goal.returns-else-sends-2
returns-else-sends-2 c core h k parked apart =
    let ws = c.args.list.now.items in
    c.len-else-sends-2.ensures ∙ sym (ap (λ b. cond b 0 (length ws)) c.if-sends-2.false)
    ∙ sym (count_outputs core h k ws c.args.sends (begins_with_output ws c.get.result.now c.in-Output.field-0 c.get.ensures c.in-Output.is) parked apart)
