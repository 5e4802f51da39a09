use Rattle.std.proofs.Common.{◌≡◌, ◌++◌, ◌∷◌, map, take}
use Rattle.pict_syntax.specs.Tokens.{items_bytes}
use Rattle.pict_show.specs.Values.{item_of}
use Rattle.pict_show.proofs.quoted.write_quoted.Given as goal

abbrev pub invariant-loop-byte : goal.invariant-loop-byte
invariant-loop-byte l = l.out.items ≡ l.fn.out.items ++ (l.quote ∷ items_bytes (map (item_of l.quote) (take l.byte-index l.bytes)))
