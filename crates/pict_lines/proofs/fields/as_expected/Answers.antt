-- No type is expected.
use Rattle.std.proofs.Common.{Bor}
use Rattle.pict_types.specs.declared.types.Ty.{Ty}
use Rattle.pict_types.specs.Plain.{plain}
use Rattle.pict_infer.specs.Environments.{environment_of}
use Rattle.pict_lines.proofs.WithinBounds.{none_expected}
use Rattle.pict_lines.proofs.fields.as_expected.Goals as goal

pub returns-in-None : goal.returns-in-None
returns-in-None c = none_expected (environment_of c.args.env.now) c.args.expected (λ (t : Bor Ty). plain t.now) (plain c.args.t.now) c.args.at c.in-None.is
