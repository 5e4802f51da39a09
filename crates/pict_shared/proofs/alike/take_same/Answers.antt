use Rattle.std.proofs.Common.{arith}
use Rattle.pict_shared.proofs.Taking.{takes_at}
use Rattle.pict_shared.proofs.alike.take_same.Goals as goal

pub returns-then-becomes : goal.returns-then-becomes
returns-then-becomes c = λ t. takes_at c.args.names.now c.args.left.now.items c.loop-i.left.items c.remove.new.self.items c.loop-i.i c.index.result.now c.deref.result.now _
    c.loop-i.invariant (omega arith) c.index.ensures c.deref.ensures (c.becomes.ensures c.if-becomes.true) c.remove.ensures.items
