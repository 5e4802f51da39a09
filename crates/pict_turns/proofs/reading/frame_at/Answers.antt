use Rattle.std.proofs.Common.{length, refl, sym, ap, ◌∙◌, option_map}
use Rattle.std.proofs.lemmas.Option.{slice_get-map, slice_get_read}
use Rattle.pict_code.specs.Plain.{plain_node}
use Rattle.pict_code.specs.declared.instruction.Node as written
use Rattle.pict_turns.proofs.reading.frame_at.Goals as goal

pub returns : goal.returns
returns c =
    let node = c.index-code-number.result in
    record {
      node = plain_node node;
      at = slice_get-map plain_node c.args.code.now c.args.number
          ∙ ap (option_map plain_node) (slice_get_read c.args.code.now (length c.args.code.now) c.args.number node refl c.requires c.index-code-number.is);
      is = ap (λ (n : written.Node). n.frame.value.items) c.index-code-number.is ∙ sym (c.deref-2.ensures.value ∙ ap (λ v. v.items) c.deref.ensures);
    }
