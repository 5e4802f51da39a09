use Rattle.std.proofs.Common.{map, ap, ◌∙◌, sym}
use Rattle.pict_code.specs.Plain.{plain_node}
use Rattle.pict_picker.specs.Parts.{waiting_width}
use Rattle.pict_picker.proofs.frames.waiting_len.Goals as goal

pub returns-in-Node : goal.returns-in-Node
returns-in-Node c = c.reader_len.ensures ∙ ap (waiting_width (map plain_node c.args.code.now)) (sym c.in-Node.is)

pub returns-in-Output : goal.returns-in-Output
returns-in-Output c = ap (waiting_width (map plain_node c.args.code.now)) (sym c.in-Output.is)
