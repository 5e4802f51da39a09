use Rattle.pict_sub.proofs.Inversion.{records}
use Rattle.pict_sub.proofs.laws.law_records_by_parts.Goals as goal

pub returns : goal.returns
returns c = records
