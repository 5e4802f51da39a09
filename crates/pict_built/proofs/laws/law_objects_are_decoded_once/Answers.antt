use Rattle.pict_built.proofs.Labels.{decoded_once}
use Rattle.pict_built.proofs.laws.law_objects_are_decoded_once.Goals as goal

pub returns : goal.returns
returns c = decoded_once
