use Rattle.pict_object.proofs.Whole.{objects_are_read_once}
use Rattle.pict_object.proofs.laws.law_objects_are_read_once.Goals as goal

pub returns : goal.returns
returns c = objects_are_read_once
