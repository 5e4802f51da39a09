use Rattle.pict_codes.proofs.PatternAsks.{pattern_codes_only}
use Rattle.pict_codes.proofs.laws.law_pattern_codes.Goals as goal

pub returns : goal.returns
returns c = pattern_codes_only
