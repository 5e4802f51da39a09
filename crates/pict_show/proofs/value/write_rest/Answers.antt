use Rattle.std.proofs.Common.{◌≡◌, [], map, length, arith}
use Rattle.pict_core.specs.Plain.{plain_val, plain_field, vals_of, labelled_of}
use Rattle.pict_show.specs.Pending.{pending, fields_text, rest_text}
use Rattle.pict_show.proofs.Pieces.{byte_written, rest_is}
use Rattle.pict_show.proofs.value.write_rest.Goals as goal
use Rattle.pict_show.proofs.value.write_rest.Goals.{else-is_empty-via-then-is_empty+else-is_empty-2, else-is_empty-via-else-is_empty}
use Rattle.pict_syntax.proofs.ListLemmas.{on_ok}

pub returns-clause-text : goal.returns-clause-text
returns-clause-text c =
    let vs = vals_of (map plain_val c.args.positional.now) in
    let ls = labelled_of (map plain_field c.args.labelled.now) in
    let names = c.args.names.now in
    let some : ¬ ((length c.args.positional.now ≡ 0) × (length c.args.labelled.now ≡ 0)) =
    λ b. elim c.else-is_empty.branch [
      | else-is_empty-via-then-is_empty+else-is_empty-2 w ↦ grind (arith, w.is_empty-then-is_empty.ensures, w.if-is_empty-2.false, b.1)
      | else-is_empty-via-else-is_empty w ↦ grind (arith, c.is_empty.ensures, w.if-is_empty.false, b.0)
    ] in
    on_ok c.write_field.result
    (λ e. byte_written 32 c.args.out.now.items c.push-2.new.self.items c.write_field.new.out.items (pending names c.write_field.new.pieces.items []) (fields_text names vs ls) (pending names c.args.pieces.now.items []) (rest_text names vs ls)
    c.in_ok-push-2.ensures.items e (rest_is names c.args.positional.now c.args.labelled.now some))
    c.write_field.ensures.text
