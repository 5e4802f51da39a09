use Rattle.pict_parse.proofs.Loop.{Kept}
use Rattle.pict_parse.proofs.declarations.parse_declarations.Given as goal

abbrev pub invariant-loop-token : goal.invariant-loop-token
invariant-loop-token l = Kept l.tokens l.token-index l.state
