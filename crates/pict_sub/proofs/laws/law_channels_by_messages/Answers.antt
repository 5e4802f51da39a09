use Rattle.pict_sub.proofs.Inversion.{channels, above_channel, below_channel}
use Rattle.pict_sub.proofs.laws.law_channels_by_messages.Goals as goal

pub returns-clause-between : goal.returns-clause-between
returns-clause-between c = channels

pub returns-clause-above : goal.returns-clause-above
returns-clause-above c = above_channel

pub returns-clause-below : goal.returns-clause-below
returns-clause-below c = below_channel
