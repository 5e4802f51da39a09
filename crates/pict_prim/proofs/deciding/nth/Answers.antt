use Rattle.std.proofs.Common.{sym}
use Rattle.pict_heap.specs.HeapState.{value_of}
use Rattle.pict_prim.proofs.Bases.{no_int, none_of_text}
use Rattle.pict_prim.proofs.deciding.nth.Goals as goal

pub returns-in_default-clause-effect : goal.returns-in_default-clause-effect
returns-in_default-clause-effect c =
    sym (none_of_text (value_of c.args.heap.now c.args.s) _ (λ bytes. no_int c.args.heap.now c.args.n c.in_default.not-Int _))
