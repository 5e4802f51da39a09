use Rattle.pict_typing.proofs.Conclusions.{messages_received}
use Rattle.pict_typing.proofs.laws.law_messages_are_received.Goals as goal

pub returns : goal.returns
returns c = messages_received
