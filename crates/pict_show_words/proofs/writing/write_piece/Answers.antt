use Rattle.std.proofs.Common.{◌∷◌, [], sym, ap, ◌∙◌}
use Rattle.std.proofs.lemmas.Result.{on_ok_weaker}
use Rattle.pict_show.specs.Values.{value_text}
use Rattle.pict_show.specs.Pending.{fields_text}
use Rattle.pict_show.proofs.Pieces.{byte_written}
use Rattle.pict_heap.specs.HeapState.{value_of}
use Rattle.pict_show_words.specs.Fields.{positional_from, labelled_from}
use Rattle.pict_show_words.specs.Pending.{pending, piece_text}
use Rattle.pict_show_words.proofs.Pieces.{record_text}
use Rattle.pict_show_words.proofs.writing.write_piece.Goals as goal

pub returns-in_ok-push-in-Fields-clause-text : goal.returns-in_ok-push-in-Fields-clause-text
returns-in_ok-push-in-Fields-clause-text c =
    let names = c.args.names.now in
    let h = c.args.heap.now in
    let v = value_of h c.in-Value.word in
    on_ok_weaker c.write_field.result
    (λ e. byte_written 91 c.args.out.now.items c.push.new.self.items c.write_field.new.out.items (pending names h c.write_field.new.pieces.items [])
    (fields_text names (positional_from 0 v) (labelled_from 0 v)) (pending names h c.args.pieces.now.items []) (piece_text names h c.args.piece)
    c.in_ok-push-in-Fields.ensures.items e
    (ap (piece_text names h) c.in-Value.is
    ∙ ap (λ w. value_text names (value_of h w)) c.in-Fields.is
    ∙ record_text names h c.in-Fields.field-0
    ∙ ap (λ w. 91 ∷ fields_text names (positional_from 0 (value_of h w)) (labelled_from 0 (value_of h w))) (sym c.in-Fields.is)))
    c.write_field.ensures.text
