use Rattle.std.proofs.Common.{sym}
use Rattle.pict_prim.proofs.Bases.{no_char}
use Rattle.pict_prim.proofs.deciding.ord.Goals as goal

pub returns-in_default-clause-effect : goal.returns-in_default-clause-effect
returns-in_default-clause-effect c h = sym (no_char h c.args.c c.in_default.not-Char _)
