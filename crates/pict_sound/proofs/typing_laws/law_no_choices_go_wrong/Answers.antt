use Rattle.pict_sound.proofs.NeverWrong.{no_choices_go_wrong, typed_is_never_wrong}
use Rattle.pict_sound.proofs.typing_laws.law_no_choices_go_wrong.Goals as goal

pub returns-clause-choices : goal.returns-clause-choices
returns-clause-choices c = no_choices_go_wrong

pub returns-clause-opening : goal.returns-clause-opening
returns-clause-opening c = typed_is_never_wrong
