use Rattle.std.proofs.Common.{List, inl, refl, sym, ap, ◌∙◌, subst, slice_get, arith}
use Rattle.std.specs.Vec.{with_items}
use Rattle.pict_queue.specs.QueuesState.{QueuesState}
use Rattle.pict_desk.specs.Code.{core_in}
use Rattle.pict_turns.proofs.Room.{refused_still, reserves_nothing}
use Rattle.pict_network.specs.Events.{act_at}
use Rattle.pict_network.specs.SiteView.{IsNoFork}
use Rattle.pict_sites.specs.Standing.{channel_at, other_home, home_in}
use Rattle.pict_sites.proofs.Acts.{refused_happens, step_right}
use Rattle.pict_sites.proofs.Lists.{taken_back}
use Rattle.pict_sites.proofs.Openings.{kept_items, kept_many, kept_reserved, new_shape, unopened_working, unopened_stand, did_opened, did_opens}
use Rattle.pict_sites.proofs.sites.Sites.open.Goals as goal

pub returns-in_err-reserve_queues-clause-working : goal.returns-in_err-reserve_queues-clause-working
returns-in_err-reserve_queues-clause-working c =
    let core = core_in c.args.code.now in
    let n = c.args.self.now in
    let r = refused_still core n.store n.store (reserves_nothing n.store) c.requires.working.store in
    unopened_working core c.args.s n _ c.requires.working c.requires.acts.2.acting r
    (kept_reserved n.queues c.deref_mut.result.now c.reserve_queues.new.sites c.deref_mut.ensures.value c.reserve_queues.ensures.count c.reserve_queues.ensures.same)
    (kept_many n.queues c.deref_mut.result.now c.reserve_queues.new.sites c.deref_mut.ensures.value c.reserve_queues.ensures.count) refl refl refl

pub returns-in_err-reserve_queues-clause-happens : goal.returns-in_err-reserve_queues-clause-happens
returns-in_err-reserve_queues-clause-happens c =
    let core = core_in c.args.code.now in
    let n = c.args.self.now in
    let r = refused_still core n.store n.store (reserves_nothing n.store) c.requires.working.store in
    refused_happens n.store.desk.heap _ _ (λ N. act_at N c.args.s) c.from_residual.result c.from_residual.ensures.0
    (unopened_stand core c.args.s n _ c.requires.working c.requires.acts.2.acting r
    (kept_reserved n.queues c.deref_mut.result.now c.reserve_queues.new.sites c.deref_mut.ensures.value c.reserve_queues.ensures.count c.reserve_queues.ensures.same)
    (kept_many n.queues c.deref_mut.result.now c.reserve_queues.new.sites c.deref_mut.ensures.value c.reserve_queues.ensures.count) refl refl refl)

pub returns-in_err-push-clause-working : goal.returns-in_err-push-clause-working
returns-in_err-push-clause-working c =
    let core = core_in c.args.code.now in
    let n = c.args.self.now in
    let r = refused_still core n.store n.store (reserves_nothing n.store) c.requires.working.store in
    unopened_working core c.args.s n _ c.requires.working c.requires.acts.2.acting r
    (kept_reserved n.queues c.deref_mut.result.now c.reserve_queues.new.sites c.deref_mut.ensures.value c.reserve_queues.ensures.count c.reserve_queues.ensures.same)
    (kept_many n.queues c.deref_mut.result.now c.reserve_queues.new.sites c.deref_mut.ensures.value c.reserve_queues.ensures.count) refl refl c.in_err-push.ensures.items

pub returns-in_err-push-clause-happens : goal.returns-in_err-push-clause-happens
returns-in_err-push-clause-happens c =
    let core = core_in c.args.code.now in
    let n = c.args.self.now in
    let r = refused_still core n.store n.store (reserves_nothing n.store) c.requires.working.store in
    refused_happens n.store.desk.heap _ _ (λ N. act_at N c.args.s) c.from_residual-in_err-push.result c.from_residual-in_err-push.ensures.0
    (unopened_stand core c.args.s n _ c.requires.working c.requires.acts.2.acting r
    (kept_reserved n.queues c.deref_mut.result.now c.reserve_queues.new.sites c.deref_mut.ensures.value c.reserve_queues.ensures.count c.reserve_queues.ensures.same)
    (kept_many n.queues c.deref_mut.result.now c.reserve_queues.new.sites c.deref_mut.ensures.value c.reserve_queues.ensures.count) refl refl c.in_err-push.ensures.items)

pub step-requires-clause-may : goal.step-requires-clause-may
step-requires-clause-may c =
    let core = core_in c.args.code.now in
    let n = c.args.self.now in
    let acts = c.requires.acts in
    let shape = (new_shape core n.store acts.0 acts.1 acts.2).1 in
    record {
      code_is = c.requires.code;
      acting = acts.2.acting;
      few = let few = c.requires.few in let own = c.requires.working.channels in omega (arith, few, own);
      right = step_right core c.args.s n acts.2.acting c.requires.right.network c.requires.right.stands (inl (subst IsNoFork (sym shape) tt))
          (ap (λ p. other_home c.args.s (home_in n.homes.items (channel_at p))) shape) c.requires.right.right;
    }

pub returns-in-Ok-clause-working : goal.returns-in-Ok-clause-working
returns-in-Ok-clause-working c =
    let core = core_in c.args.code.now in
    let n = c.args.self.now in
    let acts = c.requires.acts in
    let shape = new_shape core n.store acts.0 acts.1 acts.2 in
    let mid = with_items n.queues c.reserve_queues.new.sites in
    let last = kept_items mid c.deref_mut-in-Ok.result.now c.add_queues.new.sites c.deref_mut-in-Ok.ensures.value c.add_queues.ensures.count in
    did_opened core c.args.s n _ c.requires.working acts.2.acting mid.items
    (kept_reserved n.queues c.deref_mut.result.now c.reserve_queues.new.sites c.deref_mut.ensures.value c.reserve_queues.ensures.count c.reserve_queues.ensures.same)
    (λ t q at.
    let x = c.add_queues.ensures.gains t q (ap (λ (xs : List QueuesState). slice_get xs t) (sym last) ∙ at) in
    (x.0, ap (λ (xs : List QueuesState). slice_get xs t) (sym c.deref_mut-in-Ok.ensures.value) ∙ x.1, x.2))
    (kept_many mid c.deref_mut-in-Ok.result.now c.add_queues.new.sites c.deref_mut-in-Ok.ensures.value c.add_queues.ensures.count
    ∙ kept_many n.queues c.deref_mut.result.now c.reserve_queues.new.sites c.deref_mut.ensures.value c.reserve_queues.ensures.count) refl refl c.in_ok-push.ensures.items
    shape.0 shape.1 c.requires.right.network c.requires.right.stands c.in-Ok.did c.in-Ok.ensures

pub returns-in-Ok-clause-happens : goal.returns-in-Ok-clause-happens
returns-in-Ok-clause-happens c N st =
    let core = core_in c.args.code.now in
    let n = c.args.self.now in
    let acts = c.requires.acts in
    let shape = new_shape core n.store acts.0 acts.1 acts.2 in
    let mid = with_items n.queues c.reserve_queues.new.sites in
    let last = kept_items mid c.deref_mut-in-Ok.result.now c.add_queues.new.sites c.deref_mut-in-Ok.ensures.value c.add_queues.ensures.count in
    did_opens core c.args.s n _ c.requires.working acts.2.acting mid.items
    (kept_reserved n.queues c.deref_mut.result.now c.reserve_queues.new.sites c.deref_mut.ensures.value c.reserve_queues.ensures.count c.reserve_queues.ensures.same)
    (λ t q at.
    let x = c.add_queues.ensures.gains t q (ap (λ (xs : List QueuesState). slice_get xs t) (sym last) ∙ at) in
    (x.0, ap (λ (xs : List QueuesState). slice_get xs t) (sym c.deref_mut-in-Ok.ensures.value) ∙ x.1, x.2))
    (kept_many mid c.deref_mut-in-Ok.result.now c.add_queues.new.sites c.deref_mut-in-Ok.ensures.value c.add_queues.ensures.count
    ∙ kept_many n.queues c.deref_mut.result.now c.reserve_queues.new.sites c.deref_mut.ensures.value c.reserve_queues.ensures.count) refl refl c.in_ok-push.ensures.items
    shape.0 shape.1 N st c.in-Ok.did c.in-Ok.ensures

pub returns-in-Err-clause-working : goal.returns-in-Err-clause-working
returns-in-Err-clause-working c =
    let some = c.pop-home.ensures.variant.1 (let more = c.in_ok-push.ensures.len in omega (arith, more)) in
    let n = c.args.self.now in
    unopened_working (core_in c.args.code.now) c.args.s n _ c.requires.working c.requires.acts.2.acting c.in-Err.ensures
    (kept_reserved n.queues c.deref_mut.result.now c.reserve_queues.new.sites c.deref_mut.ensures.value c.reserve_queues.ensures.count c.reserve_queues.ensures.same)
    (kept_many n.queues c.deref_mut.result.now c.reserve_queues.new.sites c.deref_mut.ensures.value c.reserve_queues.ensures.count) refl refl (taken_back _ _ _ _ _ c.in_ok-push.ensures.items c.pop-home.ensures.items some)

pub returns-in-Err-clause-happens : goal.returns-in-Err-clause-happens
returns-in-Err-clause-happens c =
    let some = c.pop-home.ensures.variant.1 (let more = c.in_ok-push.ensures.len in omega (arith, more)) in
    let n = c.args.self.now in
    unopened_stand (core_in c.args.code.now) c.args.s n _ c.requires.working c.requires.acts.2.acting c.in-Err.ensures
    (kept_reserved n.queues c.deref_mut.result.now c.reserve_queues.new.sites c.deref_mut.ensures.value c.reserve_queues.ensures.count c.reserve_queues.ensures.same)
    (kept_many n.queues c.deref_mut.result.now c.reserve_queues.new.sites c.deref_mut.ensures.value c.reserve_queues.ensures.count) refl refl (taken_back _ _ _ _ _ c.in_ok-push.ensures.items c.pop-home.ensures.items some)
