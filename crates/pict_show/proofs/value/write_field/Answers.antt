use Rattle.std.proofs.Common.{◌++◌, [], map, ap, sym, refl, ◌∙◌}
use Rattle.pict_core.specs.Plain.{plain_field, labelled_of}
use Rattle.pict_show.specs.Pending.{pending}
use Rattle.pict_show.proofs.Pieces.{two_pushed, at_positional, at_labelled, label_written}
use Rattle.pict_syntax.specs.Names.{text_of}
use Rattle.pict_show.proofs.value.write_field.Goals as goal

pub returns-in_ok-push-2-clause-text : goal.returns-in_ok-push-2-clause-text
returns-in_ok-push-2-clause-text c =
    ap (λ t. c.args.out.now.items ++ t)
    (two_pushed c.args.names.now _ _ _ _ _ _ c.in_ok-push.ensures.items c.in_ok-push-2.ensures.items
    (at_positional c.args.names.now c.args.positional.now c.index-positional-0.result (labelled_of (map plain_field c.args.labelled.now)) (sym c.is_empty.ensures ∙ c.if-not-is_empty.true) c.index-positional-0.is))

pub returns-in_ok-push-5-clause-text : goal.returns-in_ok-push-5-clause-text
returns-in_ok-push-5-clause-text c =
    label_written c.args.out.now.items _ _ (text_of c.args.names.now c.index-labelled-0.result.0.0) _ _ (pending c.args.names.now c.args.pieces.now.items []) _
    (c.in_ok-extend_from_slice.ensures.items ∙ ap (λ t. c.args.out.now.items ++ t) c.text.ensures.text ∙ ap (λ f. c.args.out.now.items ++ text_of c.args.names.now f.0.0) (sym c.index-labelled-0.is)) c.in_ok-push-3.ensures.items
    (two_pushed c.args.names.now _ _ _ _ _ _ c.in_ok-push-4.ensures.items c.in_ok-push-5.ensures.items refl)
    (at_labelled c.args.names.now c.args.positional.now c.args.labelled.now c.index-labelled-0.result c.index-labelled-0-then-not-is_empty-2.result
    (sym c.is_empty.ensures ∙ c.if-not-is_empty.false) (sym c.is_empty-else-not-is_empty.ensures ∙ c.if-not-is_empty-2.true) c.index-labelled-0.is c.index-labelled-0-then-not-is_empty-2.is)
