use Rattle.std.proofs.Common.{length, take, subst}
use Rattle.pict_web.specs.Told.{IsCopied}
use Rattle.pict_web.specs.Ordered.{orders_of}
use Rattle.pict_web.proofs.Telling.{told_in, told_none}
use Rattle.pict_web.proofs.orders.pict_web_orders.Goals as goal

pub returns-in-Ok-clause-ordered : goal.returns-in-Ok-clause-ordered
returns-in-Ok-clause-ordered c =
    let out = c.hand_over.new.out in
    let printed = c.hand_over.new.lengths.printed in
    let copied = subst (λ text. IsCopied text (length out) c.hand_over.result (take printed out)) c.deref.ensures.value c.hand_over.ensures.copied in
    told_in (orders_of c.args.what) c.args.bare _ c.in-Ok.text.items out printed c.hand_over.result c.number.result c.number.ensures c.in-Ok.ensures copied

pub returns-in-Err-clause-ordered : goal.returns-in-Err-clause-ordered
returns-in-Err-clause-ordered c = told_none (orders_of c.args.what) c.args.bare _ _ c.in-Err.status _ c.number-in-Err.ensures c.in-Err.ensures
