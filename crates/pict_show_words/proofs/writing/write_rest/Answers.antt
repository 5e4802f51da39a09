use Rattle.std.proofs.Common.{◌≡◌, ◌++◌, ◌∷◌, [], None, sym, ap, ◌∙◌, append_assoc}
use Rattle.std.proofs.lemmas.Result.{on_ok_weaker}
use Rattle.pict_show.specs.Pending.{rest_text, fields_text}
use Rattle.pict_show.proofs.Pieces.{byte_written}
use Rattle.pict_heap.specs.Fields.{positional_field, labelled_field_at}
use Rattle.pict_heap.specs.HeapState.{value_of}
use Rattle.pict_show_words.specs.Fields.{positional_from, labelled_from}
use Rattle.pict_show_words.specs.Pending.{pending}
use Rattle.pict_show_words.proofs.Pieces.{none_is, some_is, rest_ends, rest_goes_on}
use Rattle.pict_show_words.proofs.writing.write_rest.Goals as goal
use Rattle.pict_show_words.proofs.writing.write_rest.Goals.{else-is_none-via-then-is_none+else-is_none-2, else-is_none-via-else-is_none}

pub returns-then-is_none-2-clause-text : goal.returns-then-is_none-2-clause-text
returns-then-is_none-2-clause-text c =
    let names = c.args.names.now in
    let h = c.args.heap.now in
    let v = value_of h c.args.whole in
    let out = c.args.out.now.items in
    let left = pending names h c.args.pieces.now.items [] in
    ap (λ t. t ++ left) c.in_ok-push.ensures.items
    ∙ append_assoc out (93 ∷ []) left
    ∙ ap (λ t. out ++ (t ++ left))
    (sym (rest_ends names v c.args.positional c.args.labelled
    (none_is (value_of h) c.positional.result _ c.positional.ensures.value c.if-is_none.ensures)
    (none_is (λ field. (field.0.0, value_of h field.1)) c.label_at.result _ c.label_at.ensures.value c.if-is_none-2.ensures)))

pub returns-clause-text : goal.returns-clause-text
returns-clause-text c =
    let names = c.args.names.now in
    let h = c.args.heap.now in
    let v = value_of h c.args.whole in
    let i = c.args.positional in
    let j = c.args.labelled in
    let some : positional_field v i ≡ None → labelled_field_at v j ≡ None → ⊥ =
    λ a b. elim c.else-is_none.branch [
      | else-is_none-via-then-is_none+else-is_none-2 w ↦ some_is (λ field. (field.0.0, value_of h field.1)) w.label_at.result _ w.label_at.ensures.value w.if-is_none-2.ensures b
      | else-is_none-via-else-is_none w ↦ some_is (value_of h) c.positional.result _ c.positional.ensures.value w.if-is_none.ensures a
    ] in
    on_ok_weaker c.write_field.result
    (λ e. byte_written 32 c.args.out.now.items c.push-2.new.self.items c.write_field.new.out.items (pending names h c.write_field.new.pieces.items [])
    (fields_text names (positional_from i v) (labelled_from j v)) (pending names h c.args.pieces.now.items []) (rest_text names (positional_from i v) (labelled_from j v))
    c.in_ok-push-2.ensures.items e (rest_goes_on names v i j some))
    c.write_field.ensures.text
