use Rattle.std.proofs.Common.{◌∷◌, [], ◌++◌, List, sym, ap, ◌∙◌}
use Rattle.std.specs.List.{slice_set}
use Rattle.pict_picker.specs.Picker.{items_of}
use Rattle.pict_picker.specs.declared.waiting.Waiting.{Waiting}
use Rattle.pict_picker.proofs.Channels.{items_set, items_lent}
use Rattle.pict_picker.proofs.placing.push_at.Goals as goal

pub returns-clause-items : goal.returns-clause-items
returns-clause-items c =
    let rs = c.args.lists.now.channels.items in
    items_set rs c.args.channel c.push.new.self
    ∙ ap (slice_set (items_of rs) c.args.channel)
    (c.push.ensures.items ∙ ap (λ (ws : List Waiting). ws ++ c.args.waiting ∷ []) (sym (items_lent rs c.args.channel c.index_mut.result.now c.requires.there c.index_mut.ensures.value)))
