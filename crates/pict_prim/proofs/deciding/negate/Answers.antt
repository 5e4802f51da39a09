use Rattle.std.proofs.Common.{sym}
use Rattle.pict_prim.proofs.Bases.{no_bool}
use Rattle.pict_prim.proofs.deciding.negate.Goals as goal

pub returns-in_default-clause-effect : goal.returns-in_default-clause-effect
returns-in_default-clause-effect c h = sym (no_bool h c.args.b c.in_default.not-Bool _)
