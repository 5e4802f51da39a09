use Rattle.pict_desk.proofs.Reckoning.{three_words}
use Rattle.pict_desk.proofs.acts.three_at_hand.Goals as goal

pub returns : goal.returns
returns c h pairs =
    three_words h c.args.values.now c.args.fields.now c.index-fields-0.result c.index-fields-1.result c.index-fields-2.result c.in_ok-v.v c.in_ok-w.w c.in_ok-k.k c.if-fields-ne3.false
    c.index-fields-0.is c.index-fields-1.is c.index-fields-2.is (c.in_ok-v.ensures.word h pairs) (c.in_ok-w.ensures.word h pairs) (c.in_ok-k.ensures.word h pairs)
