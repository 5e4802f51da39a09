use Rattle.std.proofs.Common.{sym}
use Rattle.pict_heap.proofs.Look.{no_text}
use Rattle.pict_heap.proofs.heap.Heap.bytes.Goals as goal

pub returns-in_default : goal.returns-in_default
returns-in_default c = sym (no_text c.self.inside _ _ c.self.view_is c.self.invariant c.requires c.in_default.not-Text)
