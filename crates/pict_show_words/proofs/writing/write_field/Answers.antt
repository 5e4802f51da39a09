use Rattle.std.proofs.Common.{◌++◌, ◌∷◌, [], refl, sym, ap, ◌∙◌, append_assoc}
use Rattle.pict_syntax.specs.Names.{text_of}
use Rattle.pict_show.specs.Values.{value_text}
use Rattle.pict_show.specs.Pending.{rest_text}
use Rattle.pict_show.proofs.Pieces.{label_written}
use Rattle.pict_heap.specs.HeapState.{value_of}
use Rattle.pict_show_words.specs.Fields.{positional_from, labelled_from}
use Rattle.pict_show_words.specs.Pending.{pending}
use Rattle.pict_show_words.proofs.Pieces.{none_found, at_positional, at_labelled, fields_end, two_pushed}
use Rattle.pict_show_words.proofs.writing.write_field.Goals as goal

pub returns-in_ok-push-2-clause-text : goal.returns-in_ok-push-2-clause-text
returns-in_ok-push-2-clause-text c =
    let names = c.args.names.now in
    let h = c.args.heap.now in
    let v = value_of h c.args.whole in
    let x = value_of h c.in-Some.field in
    ap (λ t. c.args.out.now.items ++ t)
    (two_pushed names h _ _ _ _ _ _ c.in_ok-push.ensures.items c.in_ok-push-2.ensures.items
    (at_positional names v c.args.positional c.args.labelled x (sym c.in-Some.ensures.value)
    ∙ ap (λ n. value_text names x ++ rest_text names (positional_from n v) (labelled_from c.args.labelled v)) (sym c.in_ok-positional.ensures)))

pub returns-in_ok-push-5-clause-text : goal.returns-in_ok-push-5-clause-text
returns-in_ok-push-5-clause-text c =
    let names = c.args.names.now in
    let h = c.args.heap.now in
    let v = value_of h c.args.whole in
    let x = value_of h c.in-Some-label_at.field in
    let label = text_of names c.in-Some-label_at.label.0 in
    label_written c.args.out.now.items _ _ label _ _ (pending names h c.args.pieces.now.items []) _
    (c.in_ok-extend_from_slice.ensures.items ∙ ap (λ t. c.args.out.now.items ++ t) c.text.ensures.text) c.in_ok-push-3.ensures.items
    (two_pushed names h _ _ _ _ _ _ c.in_ok-push-4.ensures.items c.in_ok-push-5.ensures.items refl)
    (at_labelled names v c.args.positional c.args.labelled c.in-Some-label_at.label.0 x
    (none_found (value_of h) c.positional.result _ c.positional.ensures.value (λ w e. c.in_default.not-Some w e)) (sym c.in-Some-label_at.ensures.value)
    ∙ ap (λ n. label ++ (61 ∷ (value_text names x ++ rest_text names (positional_from c.args.positional v) (labelled_from n v)))) (sym c.in_ok-labelled.ensures))

pub returns-in_ok-push-6-clause-text : goal.returns-in_ok-push-6-clause-text
returns-in_ok-push-6-clause-text c =
    let names = c.args.names.now in
    let h = c.args.heap.now in
    let v = value_of h c.args.whole in
    let out = c.args.out.now.items in
    let left = pending names h c.args.pieces.now.items [] in
    ap (λ t. t ++ left) c.in_ok-push-6.ensures.items
    ∙ append_assoc out (93 ∷ []) left
    ∙ ap (λ t. out ++ (t ++ left))
    (sym (fields_end names v c.args.positional c.args.labelled
    (none_found (value_of h) c.positional.result _ c.positional.ensures.value (λ w e. c.in_default.not-Some w e))
    (none_found (λ field. (field.0.0, value_of h field.1)) c.label_at.result _ c.label_at.ensures.value (λ f e. c.in_default-label_at.not-Some f e))))
