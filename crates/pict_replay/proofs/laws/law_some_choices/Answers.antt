use Rattle.pict_replay.proofs.SomeReading.{some_choices}
use Rattle.pict_replay.proofs.laws.law_some_choices.Goals as goal

pub returns : goal.returns
returns c = some_choices
