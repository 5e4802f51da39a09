-- The limits, and then the type.
use Rattle.pict_types.specs.Plain.{plain}
use Rattle.pict_infer.specs.Environments.{environment_of}
use Rattle.pict_lines.proofs.Stepping.{limited_ok, limited_refused}
use Rattle.pict_lines.proofs.parts.limited.Goals as goal

pub returns-in-Ok : goal.returns-in-Ok
returns-in-Ok c = limited_ok (environment_of c.args.env.now) (plain c.args.t) c.args.span c.in-Ok.ensures

pub returns-in-Err : goal.returns-in-Err
returns-in-Err c = limited_refused (environment_of c.args.env.now) (plain c.args.t) c.args.span c.in-Err.e c.in-Err.ensures
