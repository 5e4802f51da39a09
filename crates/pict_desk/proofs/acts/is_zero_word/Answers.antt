use Rattle.std.proofs.Common.{pos}
use Rattle.pict_desk.proofs.Hand.{no_number}
use Rattle.pict_desk.proofs.acts.is_zero_word.Goals as goal

pub returns-in_default : goal.returns-in_default
returns-in_default c h = (λ t. cc, λ is. absurd (no_number h c.args.word c.in_default.not-Int (pos 0) is))
