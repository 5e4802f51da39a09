use Rattle.pict_blocks.proofs.Opening.{news_make_channels}
use Rattle.pict_blocks.proofs.laws.law_news_make_channels.Goals as goal

pub returns : goal.returns
returns c = news_make_channels
