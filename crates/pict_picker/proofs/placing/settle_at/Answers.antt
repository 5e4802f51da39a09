use Rattle.std.proofs.Common.{◌∙◌, arith}
use Rattle.pict_picker.specs.Picker.{channel_items}
use Rattle.pict_picker.proofs.Channels.{settled, as_many_items}
use Rattle.pict_picker.proofs.placing.settle_at.Goals as goal

pub returns-then-stays-clause-items : goal.returns-then-stays-clause-items
returns-then-stays-clause-items c w there =
    let old = c.args.lists.now in
    settled (channel_items old) (channel_items c.take_at-taken.new.lists) (channel_items c.push_at.new.lists) c.args.channel c.args.j w c.take_at-taken.result c.args.stays
    (omega (arith, c.requires.there, as_many_items old.channels.items)) c.take_at-taken.ensures.items c.push_at.ensures.items c.take_at-taken.ensures.taken there c.if-stays.true

pub returns-then-stays-clause-len : goal.returns-then-stays-clause-len
returns-then-stays-clause-len c = c.push_at.ensures.len ∙ c.take_at-taken.ensures.len
