use Rattle.pict_bridge.proofs.Packing.{packed_at_once}
use Rattle.pict_bridge.proofs.laws.law_packed_at_once.Goals as goal

pub returns : goal.returns
returns c = packed_at_once
