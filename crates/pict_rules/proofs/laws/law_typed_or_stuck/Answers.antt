use Rattle.pict_rules.proofs.TypedOrStuck.{typed_or_stuck}
use Rattle.pict_rules.proofs.laws.law_typed_or_stuck.Goals as goal

pub returns : goal.returns
returns c = typed_or_stuck
