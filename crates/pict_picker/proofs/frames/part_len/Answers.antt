use Rattle.std.proofs.Common.{map, ap, ◌∙◌, sym}
use Rattle.pict_code.specs.Plain.{plain_node, plain_op}
use Rattle.pict_code.specs.declared.instruction.Op.{Op}
use Rattle.pict_picker.specs.Parts.{part_width}
use Rattle.pict_picker.proofs.Widths.{no_width}
use Rattle.pict_picker.proofs.frames.part_len.Goals as goal

pub returns-in-In : goal.returns-in-In
returns-in-In c = c.frame_len.ensures ∙ ap (λ (o : Op). part_width (map plain_node c.args.code.now) (plain_op o)) (sym c.in-In.is)

pub returns-in-Serve : goal.returns-in-Serve
returns-in-Serve c = c.frame_len-in-Serve.ensures ∙ ap (λ (o : Op). part_width (map plain_node c.args.code.now) (plain_op o)) (sym c.in-Serve.is)

pub returns-in_default : goal.returns-in_default
returns-in_default c = no_width (map plain_node c.args.code.now) c.args.op.now c.in_default.not-In c.in_default.not-Serve
