use Rattle.std.proofs.Common.{refl, ap, subst, slice_set}
use Rattle.pict_desk.specs.Code.{core_in}
use Rattle.pict_turns.specs.Acting.{IsStore}
use Rattle.pict_turns.specs.declared.store.Store.{Store}
use Rattle.pict_sites.proofs.Standings.{settled_sites, settled_stand}
use Rattle.pict_sites.proofs.sites.Sites.settle.Goals as goal

pub returns-clause-sites : goal.returns-clause-sites
returns-clause-sites c =
    let core = core_in c.args.code.now in
    let n = c.args.self.now in
    let back = c.return_turn.ensures in
    settled_sites core c.args.s n _ c.requires.working c.return_turn.new.store.queues (ap (slice_set n.queues.items c.args.s) c.swap.ensures.y_after) refl refl refl
    (ap (λ (x : Store). x.desk) back.rest) (ap (λ (x : Store). x.turn) back.rest) (subst (IsStore core) back.rest back.store) back.ready back.others back.queues

pub returns-clause-stands : goal.returns-clause-stands
returns-clause-stands c N st =
    let core = core_in c.args.code.now in
    let n = c.args.self.now in
    let back = c.return_turn.ensures in
    settled_stand core c.args.s n _ c.requires.working c.return_turn.new.store.queues (ap (slice_set n.queues.items c.args.s) c.swap.ensures.y_after) refl refl refl
    (ap (λ (x : Store). x.desk) back.rest) (ap (λ (x : Store). x.turn) back.rest) (subst (IsStore core) back.rest back.store) back.ready back.others back.queues N st
