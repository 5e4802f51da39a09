-- Patterns use no value, so that what is judged without values is judged with them.
use Rattle.std.proofs.Common.{refl}
use Rattle.pict_syntax.specs.PlainTrees.{field_pats_of}
use Rattle.pict_infer.proofs.MadeGiven.{fields_answer}
use Rattle.pict_infer.proofs.given.open_fields.Goals as goal

pub returns : goal.returns
returns c = record { answer = fields_answer c.args.env.now _ (field_pats_of c.args.fields.now) c.open_parts.result c.requires.right c.open_parts.ensures.answer c.open_parts.ensures.base refl }
