use Rattle.std.proofs.Common.{true, false, map, sym, ap, ◌∙◌, option_map}
use Rattle.pict_code.specs.Plain.{plain_op}
use Rattle.pict_code.specs.Standing.{value_at}
use Rattle.pict_desk.specs.Known.{operand_value}
use Rattle.pict_picker.specs.Partners.{stands_by}
use Rattle.pict_picker.specs.Waiting.{pair_value}
use Rattle.pict_picker.proofs.partners.channel_of_op.Goals as goal

pub returns-in-Out : goal.returns-in-Out
returns-in-Out c h pairs =
    let value = operand_value (value_at c.args.levels.now (map (pair_value h) c.args.frame.now)) in
    c.on_side.ensures ∙ ap (option_map (λ k. (k, true))) (c.channel_in_frame.ensures h pairs) ∙ sym (ap (λ o. stands_by value (plain_op o)) c.in-Out.is)

pub returns-in-In : goal.returns-in-In
returns-in-In c h pairs =
    let value = operand_value (value_at c.args.levels.now (map (pair_value h) c.args.frame.now)) in
    c.on_side-in-In.ensures ∙ ap (option_map (λ k. (k, false))) (c.channel_in_frame-in-In.ensures h pairs) ∙ sym (ap (λ o. stands_by value (plain_op o)) c.in-In.is)

pub returns-in-Serve : goal.returns-in-Serve
returns-in-Serve c h pairs =
    let value = operand_value (value_at c.args.levels.now (map (pair_value h) c.args.frame.now)) in
    c.on_side-in-Serve.ensures ∙ ap (option_map (λ k. (k, false))) (c.channel_in_frame-in-Serve.ensures h pairs) ∙ sym (ap (λ o. stands_by value (plain_op o)) c.in-Serve.is)
