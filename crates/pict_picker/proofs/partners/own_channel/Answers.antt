use Rattle.std.proofs.Common.{sym, ap, ◌∙◌}
use Rattle.pict_picker.specs.Partners.{channel_in}
use Rattle.pict_picker.proofs.partners.own_channel.Goals as goal

pub returns-in-Some : goal.returns-in-Some
returns-in-Some c h waits = ap channel_in (sym c.in-Some.is ∙ c.channel_of_waiting.ensures h waits)

pub returns-in-None : goal.returns-in-None
returns-in-None c h waits = ap channel_in (sym c.in-None.is ∙ c.channel_of_waiting.ensures h waits)
