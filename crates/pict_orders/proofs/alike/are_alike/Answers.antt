use Rattle.std.proofs.Common.{arith}
use Rattle.pict_orders.proofs.Renaming.{permutes_by, alike_by}
use Rattle.pict_orders.proofs.alike.are_alike.Goals as goal

pub returns : goal.returns
returns c = alike_by _ c.args.one.now c.args.other.now _ _ c.args.names.now (omega arith) (omega arith)
    (permutes_by c.args.names.now c.args.back.now (c.are_inverse.ensures c.if-not-are_inverse.false)) c.deref.ensures.value c.deref-2.ensures.value c.are_rearranged.ensures
