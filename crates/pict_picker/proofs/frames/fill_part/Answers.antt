use Rattle.std.proofs.Common.{ℕ, ◌<◌, List, length, map, refl, sym, ap, ◌∙◌, subst, arith}
use Rattle.std.specs.List.{All}
use Rattle.pict_code.specs.Plain.{plain_node}
use Rattle.pict_code.specs.declared.instruction.Node as written
use Rattle.pict_desk.specs.Code.{core_in}
use Rattle.pict_desk.specs.Known.{pair_at}
use Rattle.pict_desk.proofs.Numbered.{frame_below}
use Rattle.pict_picker.specs.Parts.{frame_width}
use Rattle.pict_picker.proofs.Acts.{node_read}
use Rattle.pict_picker.proofs.Widths.{node_there, read_there}
use Rattle.pict_picker.proofs.frames.fill_part.Goals as goal

pub write_values-requires-clause-inside : goal.write_values-requires-clause-inside
write_values-requires-clause-inside c =
    let code = c.args.code.now in
    let node = c.index-code-number.result in
    let core = core_in code in
    let inside = frame_below core (length c.args.desk.now.values.items) c.requires.desk.levels c.args.number (plain_node node)
    (node_read code c.requires.code c.args.number node c.requires.inside c.index-code-number.is) in
    subst (λ (vs : List (ℕ × ℕ)). All (λ level. level < length vs) c.deref-3.result.now) (sym c.deref.ensures.value)
    (subst (All (λ level. level < length c.args.desk.now.values.items)) (ap (λ (n : written.Node). n.frame.value.items) c.index-code-number.is ∙ sym (c.deref-3.ensures.value ∙ ap (λ v. v.items) c.deref-2.ensures)) inside)

pub write_values-requires-clause-room : goal.write_values-requires-clause-room
write_values-requires-clause-room c =
    let code = c.args.code.now in
    let node = c.index-code-number.result in
    let wide = ap frame_width (node_there code c.args.number node (read_there code c.args.number node c.requires.inside c.index-code-number.is)) in
    let many = ap length ((c.deref-3.ensures.value ∙ ap (λ v. v.items) c.deref-2.ensures) ∙ sym (ap (λ (n : written.Node). n.frame.value.items) c.index-code-number.is)) in
    omega (arith, c.requires.room, wide, many)

pub returns : goal.returns
returns c =
    let code = c.args.code.now in
    let node = c.index-code-number.result in (
      refl,
      record {
        node = plain_node node;
        at = node_read code c.requires.code c.args.number node c.requires.inside c.index-code-number.is;
        is = c.write_values.ensures ∙ ap (λ (vs : List (ℕ × ℕ)). map (pair_at vs) c.deref-3.result.now) c.deref.ensures.value
            ∙ ap (map (pair_at c.args.desk.now.values.items)) ((c.deref-3.ensures.value ∙ ap (λ v. v.items) c.deref-2.ensures) ∙ sym (ap (λ (n : written.Node). n.frame.value.items) c.index-code-number.is));
      },
    )
