-- The counted part holds what was put into it.
use Rattle.std.proofs.Common.{◌≡◌, rules, subst}
use Rattle.pict_types.specs.Plain.{plain}
use Rattle.pict_types.specs.Types.{PlainType, Chan, Respond}
use Rattle.pict_infer.specs.Answering.{IsAnswer}
use Rattle.pict_infer.specs.Environments.{environment_of}
use Rattle.pict_lines.specs.Lines.{formed}
use Rattle.pict_lines.proofs.parts.responder.Goals as goal

pub returns : goal.returns
returns c =
    let e : plain c.in_ok-new.field-0.value ≡ plain c.args.r = search rules in
    subst (λ (z : PlainType). IsAnswer (formed (environment_of c.args.env.now) (Chan Respond z) c.args.span) plain c.limited.result) e c.limited.ensures
