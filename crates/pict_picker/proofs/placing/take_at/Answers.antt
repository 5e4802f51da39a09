use Rattle.std.proofs.Common.{sym, ap, ◌∙◌}
use Rattle.std.specs.List.{slice_set}
use Rattle.pict_view.specs.Placed.{without}
use Rattle.pict_picker.specs.Picker.{items_of}
use Rattle.pict_picker.proofs.Channels.{items_set, items_lent, room_set, room_lent}
use Rattle.pict_picker.proofs.placing.take_at.Goals as goal

pub returns-clause-items : goal.returns-clause-items
returns-clause-items c =
    let rs = c.args.lists.now.channels.items in
    items_set rs c.args.channel c.remove.new.self
    ∙ ap (slice_set (items_of rs) c.args.channel)
    (c.remove.ensures.items ∙ ap (without c.args.j) (sym (items_lent rs c.args.channel c.index_mut.result.now c.requires.there c.index_mut.ensures.value)))

pub returns-clause-room : goal.returns-clause-room
returns-clause-room c =
    let rs = c.args.lists.now.channels.items in
    room_set rs c.args.channel c.remove.new.self c.requires.there ∙ c.remove.ensures.room
    ∙ sym (room_lent rs c.args.channel c.index_mut.result.now c.requires.there c.index_mut.ensures.value)
