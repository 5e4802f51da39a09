use Rattle.pict_words.proofs.Some.{law}
use Rattle.pict_words.proofs.words.law_one_command.Goals as goal

pub returns : goal.returns
returns c = law
