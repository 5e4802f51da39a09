-- Typed programs are never wrong, since their core processes are typed.
use Rattle.pict_translation.specs.Translation.{program_core}
use Rattle.pict_bridge.proofs.SourceToCore.{source_to_core}
use Rattle.pict_sound.specs.SourceLaws.{ProgramIsNeverWrong, ProgramStepsAreNotWrong, ProgramRunsAreNotWrong}
use Rattle.pict_sound.proofs.NeverWrong.{typed_is_never_wrong, typed_steps_are_not_wrong, typed_runs_are_not_wrong}

pub program_is_never_wrong : ProgramIsNeverWrong
program_is_never_wrong names program C typed = typed_is_never_wrong names (program_core names program) C (source_to_core names program typed)

pub program_steps_are_not_wrong : ProgramStepsAreNotWrong
program_steps_are_not_wrong names program n labels C typed = typed_steps_are_not_wrong names (program_core names program) n labels C (source_to_core names program typed)

pub program_runs_are_not_wrong : ProgramRunsAreNotWrong
program_runs_are_not_wrong names program fuel labels typed = typed_runs_are_not_wrong names (program_core names program) fuel labels (source_to_core names program typed)
