use Rattle.std.proofs.Common.{map, sym, ap, ◌∙◌}
use Rattle.pict_core.specs.Plain.{plain_val}
use Rattle.pict_desk.specs.AtHand.{channel_named}
use Rattle.pict_desk.specs.Known.{operand_value}
use Rattle.pict_code.specs.Standing.{value_at}
use Rattle.pict_desk.proofs.Recording.{plain_var}
use Rattle.pict_picker.specs.Waiting.{pair_value}
use Rattle.pict_picker.proofs.partners.channel_in_frame.Goals as goal

pub returns-in-Var : goal.returns-in-Var
returns-in-Var c h pairs =
    let value = value_at c.args.levels.now (map (pair_value h) c.args.frame.now) in
    c.channel_of_level.ensures h pairs
    ∙ ap channel_named (sym (ap (λ v. operand_value value (plain_val v)) c.in-Var.is ∙ ap (operand_value value) (plain_var c.in-Var.level)))
