use Rattle.pict_gather.proofs.OneReading.{one_reading}
use Rattle.pict_gather.proofs.laws.law_one_reading.Goals as goal

pub returns : goal.returns
returns c = one_reading
