use Rattle.pict_sound.proofs.Programs.{program_is_never_wrong, program_steps_are_not_wrong, program_runs_are_not_wrong}
use Rattle.pict_sound.proofs.source_laws.law_never_wrong.Goals as goal

pub returns-clause-any_order : goal.returns-clause-any_order
returns-clause-any_order c = program_is_never_wrong

pub returns-clause-steps : goal.returns-clause-steps
returns-clause-steps c = program_steps_are_not_wrong

pub returns-clause-ends : goal.returns-clause-ends
returns-clause-ends c = program_runs_are_not_wrong
