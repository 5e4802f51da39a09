use Rattle.std.proofs.Common.{◌≡◌, ◌++◌, length, map}
use Rattle.pict_syntax.specs.Tokens.{items_bytes}
use Rattle.pict_show.specs.Values.{item_of}
use Rattle.pict_trace.specs.Readable.{AreBytes}
use Rattle.pict_trace.proofs.Strings.{Must}
use Rattle.pict_trace.proofs.literal.string_bytes.Given as goal

abbrev pub invariant-items : goal.invariant-items
invariant-items l = record {
  sofar : l.after ≡ items_bytes (map (item_of 34) l.bytes.items) ++ l.rest;
  are : AreBytes l.bytes.items;
  must : Must l.after l.rest;
}

abbrev pub decreases-items : goal.decreases-items
decreases-items l = length l.rest
