use Rattle.pict_shared.proofs.Taking.{taken_next}
use Rattle.pict_shared.proofs.alike.are_rearranged.Goals as goal

pub loop-other-preserved : goal.loop-other-preserved
loop-other-preserved c = λ r. c.loop-other.invariant
    (taken_next c.args.names.now _ _ c.args.others.now c.loop-other.other-index c.other-item.result _ c.loop-other-test.true c.other-item.is c.deref.ensures (c.take_same.ensures c.if-not-take_same.false) r)
