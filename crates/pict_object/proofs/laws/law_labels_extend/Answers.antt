use Rattle.pict_object.proofs.Whole.{labels_extend}
use Rattle.pict_object.proofs.laws.law_labels_extend.Goals as goal

pub returns : goal.returns
returns c = labels_extend
