-- No result type is written.
use Rattle.std.proofs.Common.{sym, subst}
use Rattle.pict_types.specs.Plain.{plain}
use Rattle.pict_rules.specs.Rules.{ok}
use Rattle.pict_rules.specs.Derivations.{Runs, give_}
use Rattle.pict_infer.specs.Environments.{environment_of}
use Rattle.pict_infer.proofs.Forms.{not_annotated}
use Rattle.pict_lines.specs.Definitions.{body_type}
use Rattle.pict_lines.proofs.answers.body_type.Goals as goal

pub returns-in-None : goal.returns-in-None
returns-in-None c =
    subst (λ r. Runs (body_type (environment_of c.args.env.now) r (plain c.args.answer)) (ok (plain c.args.answer))) (sym (not_annotated c.args.annotation.now c.in-None.is)) give_
