use Rattle.pict_sound.proofs.NeverWrong.{typed_runs_are_not_wrong, typed_steps_are_not_wrong}
use Rattle.pict_sound.proofs.typing_laws.law_typed_runs_are_right.Goals as goal

pub returns-clause-steps : goal.returns-clause-steps
returns-clause-steps c = typed_steps_are_not_wrong

pub returns-clause-ends : goal.returns-clause-ends
returns-clause-ends c = typed_runs_are_not_wrong
