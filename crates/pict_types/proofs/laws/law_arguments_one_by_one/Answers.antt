-- The last argument after the others, and before a replacement.
use Rattle.pict_types.proofs.Composed.{arguments_one_by_one, argument_crosses}
use Rattle.pict_types.proofs.laws.law_arguments_one_by_one.Goals as goal

pub returns : goal.returns
returns c = record {
  last = arguments_one_by_one;
  places = argument_crosses;
}
