use Rattle.pict_replay.proofs.OneReading.{choices_are_read_once}
use Rattle.pict_replay.proofs.laws.law_choices_are_read_once.Goals as goal

pub returns : goal.returns
returns c = choices_are_read_once
