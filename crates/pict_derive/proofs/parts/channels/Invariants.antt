use Rattle.std.proofs.Common.{◌≡◌, ◌+◌, List, map, take}
use Rattle.pict_core.specs.Term.{Val}
use Rattle.pict_translation.specs.Placed.{Placed, new_channels, variables}
use Rattle.pict_derive.specs.Built.{surround, with_levels}
use Rattle.pict_derive.proofs.parts.channels.Given as goal

-- the channels so far stand around the rest, and their names are bound to them
abbrev pub invariant-loop-part : goal.invariant-loop-part
invariant-loop-part l = record {
  built : (f : List Val → Placed) → surround l.fn.outer (new_channels l.part-index f) ≡ surround l.outer (f (variables l.fn.outer.depth l.part-index));
  depth : l.outer.depth ≡ l.fn.outer.depth + l.part-index;
  scope : l.scope ≡ with_levels (map (λ d. d.id.name.0) (take l.part-index l.parts)) l.fn.outer.depth l.fn.scope;
}
