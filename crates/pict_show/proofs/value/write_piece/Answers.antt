use Rattle.std.proofs.Common.{◌∷◌, [], map, sym, ap, ◌∙◌}
use Rattle.pict_core.specs.Plain.{plain_val, plain_field, vals_of, labelled_of}
use Rattle.pict_show.specs.Values.{value_text}
use Rattle.pict_show.specs.Pending.{pending, fields_text, piece_text}
use Rattle.pict_core.proofs.Fields.{plain_val-Fields}
use Rattle.pict_show.proofs.Pieces.{byte_written}
use Rattle.pict_show.proofs.value.write_piece.Goals as goal
use Rattle.pict_syntax.proofs.ListLemmas.{on_ok}

pub returns-in_ok-push-in-Fields-clause-text : goal.returns-in_ok-push-in-Fields-clause-text
returns-in_ok-push-in-Fields-clause-text c =
    let vs = vals_of (map plain_val c.deref.result.now) in
    let ls = labelled_of (map plain_field c.deref-in-Fields.result.now) in
    let names = c.args.names.now in
    on_ok c.write_field.result
    (λ e. byte_written 91 c.args.out.now.items c.push.new.self.items c.write_field.new.out.items (pending names c.write_field.new.pieces.items []) (fields_text names vs ls) (pending names c.args.pieces.now.items []) (piece_text names c.args.piece)
    c.in_ok-push-in-Fields.ensures.items e
    (ap (piece_text names) c.in-Value.is ∙ ap (λ v. value_text names (plain_val v)) c.in-Fields.is ∙ ap (value_text names) (plain_val-Fields c.in-Fields.positional c.in-Fields.labelled)
    ∙ ap (λ l. 91 ∷ fields_text names (vals_of (map plain_val l)) (labelled_of (map plain_field c.in-Fields.labelled.items))) (sym c.deref.ensures.value)
    ∙ ap (λ l. 91 ∷ fields_text names vs (labelled_of (map plain_field l))) (sym c.deref-in-Fields.ensures.value)))
    c.write_field.ensures.text
