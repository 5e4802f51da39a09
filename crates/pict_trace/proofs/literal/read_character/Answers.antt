use Rattle.std.proofs.Common.{◌∷◌}
use Rattle.pict_trace.proofs.Literals.{character_only}
use Rattle.pict_trace.proofs.literal.read_character.Goals as goal

pub returns-in-None-clause-bad : goal.returns-in-None-clause-bad
returns-in-None-clause-bad c e = character_only c.args.after.now (λ byte rest small ends. c.byte_at.ensures.none c.in-None.is byte (39 ∷ rest) small)
