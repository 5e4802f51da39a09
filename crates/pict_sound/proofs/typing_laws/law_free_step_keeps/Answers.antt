use Rattle.pict_sound.proofs.NeverWrong.{free_steps_keep_typing}
use Rattle.pict_sound.proofs.typing_laws.law_free_step_keeps.Goals as goal

pub returns : goal.returns
returns c = free_steps_keep_typing
