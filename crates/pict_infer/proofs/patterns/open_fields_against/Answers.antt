-- The own type variables of fields are known, or the fields are refused.
use Rattle.std.proofs.Common.{refl}
use Rattle.pict_syntax.specs.PlainTrees.{field_pats_of}
use Rattle.pict_infer.proofs.MadeKnown.{fields_open_answer}
use Rattle.pict_infer.proofs.patterns.open_fields_against.Goals as goal

pub returns : goal.returns
returns c = record {
  answer =
      fields_open_answer c.args.env.now _ c.args.span (field_pats_of c.args.fields.now) c.args.binders.now c.args.positional.now c.args.labelled.now c.open_parts_against.result c.requires.right refl
      c.open_parts_against.ensures.answer c.open_parts_against.ensures.base;
}
