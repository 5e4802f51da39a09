use Rattle.pict_sound.proofs.NeverWrong.{well_typed_is_not_wrong}
use Rattle.pict_sound.proofs.typing_laws.law_not_wrong.Goals as goal

pub returns : goal.returns
returns c = well_typed_is_not_wrong
