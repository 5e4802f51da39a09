use Rattle.pict_rules.specs.Rules.{pattern_against}
use Rattle.pict_bridge.proofs.PatternSteps.{patterns_open}
use Rattle.pict_bridge.proofs.laws.law_patterns_open.Goals as goal

pub returns : goal.returns
returns c = λ names program e p t x d f clean r h i. patterns_open names program clean e (pattern_against p t) x r h d f i
