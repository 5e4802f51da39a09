use Rattle.pict_desk.proofs.Reckoning.{two_words}
use Rattle.pict_desk.proofs.acts.two_at_hand.Goals as goal

pub returns : goal.returns
returns c h pairs =
    two_words h c.args.values.now c.args.fields.now c.index-fields-0.result c.index-fields-1.result c.in_ok-v.v c.in_ok-k.k c.if-fields-ne2.false c.index-fields-0.is c.index-fields-1.is
    (c.in_ok-v.ensures.word h pairs) (c.in_ok-k.ensures.word h pairs)
