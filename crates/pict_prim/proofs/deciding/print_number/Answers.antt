use Rattle.std.proofs.Common.{sym}
use Rattle.pict_prim.proofs.Bases.{no_int}
use Rattle.pict_prim.proofs.deciding.print_number.Goals as goal

pub returns-in_default-clause-effect : goal.returns-in_default-clause-effect
returns-in_default-clause-effect c h = sym (no_int h c.args.argument c.in_default.not-Int _)
