use Rattle.std.proofs.Common.{refl, sym, ap, ◌∙◌, Some, slice_set}
use Rattle.pict_desk.specs.Code.{core_in}
use Rattle.pict_sites.proofs.Lists.{got_same}
use Rattle.pict_sites.proofs.Standings.{lent_working, lent_stand}
use Rattle.pict_sites.proofs.sites.Sites.lend.Goals as goal

pub returns-clause-working : goal.returns-clause-working
returns-clause-working c =
    let core = core_in c.args.code.now in
    let n = c.args.self.now in
    let at = got_same n.queues.items c.args.s c.index_mut.result.now c.requires.there c.index_mut.ensures.value ∙ ap Some (sym c.swap.ensures.x_after) in
    lent_working core c.args.s n _ c.requires.sites c.swap.new.x at c.requires.there (ap (slice_set n.queues.items c.args.s) c.swap.ensures.y_after) refl refl refl c.take_turn.ensures.acting c.take_turn.ensures.takes

pub returns-clause-stands : goal.returns-clause-stands
returns-clause-stands c N st =
    let core = core_in c.args.code.now in
    let n = c.args.self.now in
    let at = got_same n.queues.items c.args.s c.index_mut.result.now c.requires.there c.index_mut.ensures.value ∙ ap Some (sym c.swap.ensures.x_after) in
    lent_stand core c.args.s n _ c.requires.sites c.swap.new.x at c.requires.there (ap (slice_set n.queues.items c.args.s) c.swap.ensures.y_after) refl refl refl c.take_turn.ensures.acting c.take_turn.ensures.takes N st
