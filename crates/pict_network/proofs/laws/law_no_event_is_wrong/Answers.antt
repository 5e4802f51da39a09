use Rattle.pict_network.proofs.Running.{no_event_is_wrong}
use Rattle.pict_network.proofs.laws.law_no_event_is_wrong.Goals as goal

pub returns : goal.returns
returns c = no_event_is_wrong
