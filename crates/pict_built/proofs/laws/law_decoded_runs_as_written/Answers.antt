use Rattle.pict_built.proofs.Written.{runs_as_written}
use Rattle.pict_built.proofs.laws.law_decoded_runs_as_written.Goals as goal

pub returns : goal.returns
returns c = runs_as_written
