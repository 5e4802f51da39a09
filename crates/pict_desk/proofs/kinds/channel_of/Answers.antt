use Rattle.pict_desk.proofs.Tagged.{channel_elsewhere}
use Rattle.pict_desk.proofs.kinds.channel_of.Goals as goal

pub returns-else-pair-eq-CHANNEL : goal.returns-else-pair-eq-CHANNEL
returns-else-pair-eq-CHANNEL c h is = channel_elsewhere h c.args.pair is c.if-pair-eq-CHANNEL.false
