use Rattle.pict_desk.proofs.Hand.{word_decimal, no_number}
use Rattle.pict_desk.proofs.acts.decimal_len.Goals as goal

pub returns-in-Int-clause-value : goal.returns-in-Int-clause-value
returns-in-Int-clause-value c h n fits is = word_decimal h c.args.word c.in-Int.field-0 n c.in-Int.is fits is

pub returns-in_default-clause-value : goal.returns-in_default-clause-value
returns-in_default-clause-value c h n fits is = absurd (no_number h c.args.word c.in_default.not-Int n is)
