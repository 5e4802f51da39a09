use Rattle.std.proofs.Common.{ap, sym, subst}
use Rattle.pict_outside.specs.Entries.{pairs_of}
use Rattle.pict_outside.specs.Texts.{texts_of}
use Rattle.pict_gather.specs.Phases.{accepts}
use Rattle.pict_front.specs.Answers.{plain_front}
use Rattle.pict_top.proofs.Short.{front_short}
use Rattle.pict_web.specs.Told.{SaysNothing}
use Rattle.pict_web.specs.Ordered.{orders_of}
use Rattle.pict_web.proofs.Telling.{refused_says, accepted_says}
use Rattle.pict_web.proofs.orders.told_over.Goals as goal

pub orders_of-requires-clause-short : goal.orders_of-requires-clause-short
orders_of-requires-clause-short c =
    front_short _ c.prelude_unless-prelude.result _ (accepts (record { sources = _; front = plain_front c.in-Ok.front }))
    c.prelude_unless-prelude.ensures.short c.in-Ok.ensures.answer

pub returns-in-Err : goal.returns-in-Err
returns-in-Err c =
    subst (SaysNothing c.args.bare (texts_of (pairs_of c.args.entries.items))) (sym c.status_of.ensures)
    (refused_says c.args.bare c.new-shelf.result.pairs (pairs_of c.args.entries.items) _ c.in-Err.error _
    (ap (λ s. s.pairs) c.new-shelf.ensures) c.prelude_unless-prelude.ensures.is c.in-Err.ensures.answer c.in-Err.ensures.failed)

pub returns : goal.returns
returns c =
    accepted_says (orders_of c.args.what) c.args.bare c.new-shelf.result.pairs (pairs_of c.args.entries.items) _
    (record { sources = _; front = plain_front c.in-Ok.front }) _
    (ap (λ s. s.pairs) c.new-shelf.ensures) c.prelude_unless-prelude.ensures.is c.in-Ok.ensures.answer c.orders_of.ensures
