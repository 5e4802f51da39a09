-- The record type, within the limits.
use Rattle.pict_types.specs.Plain.{plain}
use Rattle.std.proofs.Common.{subst}
use Rattle.pict_infer.specs.Answering.{IsAnswer}
use Rattle.pict_infer.specs.Environments.{environment_of}
use Rattle.pict_lines.specs.Lines.{formed}
use Rattle.pict_lines.proofs.records.record_type.Goals as goal

pub returns : goal.returns
returns c = subst (λ z. IsAnswer (formed (environment_of c.args.env.now) z c.args.span) plain c.limited.result) c.in_ok-t.ensures c.limited.ensures
