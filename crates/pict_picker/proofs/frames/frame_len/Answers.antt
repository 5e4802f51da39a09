use Rattle.std.proofs.Common.{◌≡◌, length, refl, ap, ◌∙◌, sym, Some}
use Rattle.std.proofs.lemmas.Option.{slice_get_read, slice_get_past}
use Rattle.std.specs.List.{slice_get}
use Rattle.pict_picker.specs.Parts.{frame_width}
use Rattle.pict_picker.proofs.Widths.{node_there, node_missing}
use Rattle.pict_picker.proofs.frames.frame_len.Goals as goal

pub returns-in-Some : goal.returns-in-Some
returns-in-Some c =
    let code = c.args.code.now in
    let node = c.in-Some.node.now in
    let at = c.in-Some.ensures.lookup in
    let there : slice_get code c.args.number ≡ Some node = slice_get_read code (length code) c.args.number node refl at.3.0 at.1 in
    c.len.ensures ∙ c.deref.result.now.ok.0 ∙ ap (λ v. length v.items) c.deref.ensures ∙ sym (ap frame_width (node_there code c.args.number node there))

pub returns-in-None : goal.returns-in-None
returns-in-None c = let code = c.args.code.now in sym (ap frame_width (node_missing code c.args.number (slice_get_past code c.args.number c.in-None.ensures.lookup.3)))
