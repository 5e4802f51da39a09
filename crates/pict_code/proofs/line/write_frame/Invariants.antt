use Rattle.std.proofs.Common.{◌≡◌, ◌++◌, ◌∷◌, true, map, take}
use Rattle.pict_code.specs.Listing.{variable_text}
use Rattle.pict_code.specs.Written.{spaced}
use Rattle.pict_code.proofs.line.write_frame.Given as goal

abbrev pub invariant-loop-index : goal.invariant-loop-index
invariant-loop-index l = l.line.items ≡ l.fn.line.items ++ (123 ∷ spaced true (map variable_text (take l.index l.frame)))
