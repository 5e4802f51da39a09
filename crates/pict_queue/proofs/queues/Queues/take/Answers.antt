use Rattle.std.specs.List.{list_any}
use Rattle.std.proofs.Common.{sym, eqb, ◌≡◌, ℕ, List, [], length, replicate, refl, ◌∙◌, ap, arith, ◌≢◌, subst, None, IsTrue}
use Rattle.std.proofs.lemmas.List.{length-replicate}
use Rattle.std.specs.Option.{is_some, unwrap_or}
use Rattle.std.specs.FinMap.{get}
use Rattle.pict_region.specs.RegionState.{width_of}
use Rattle.pict_region.proofs.Uses.{get_inserted, get_insert_apart}
use Rattle.pict_queue.specs.declared.queues.Queues.TheInside.{Inside}
use Rattle.pict_queue.proofs.Orders.{held_if_apart, ThreadsStay, apart_changed, absent_if_new}
use Rattle.pict_queue.proofs.Calls.{lists_kept}
use Rattle.pict_queue.specs.Threads.{queues_state}
use Rattle.pict_queue.proofs.Kept.{contents_beside, held_beside, one_more_beside, taken_apart}
use Rattle.pict_queue.proofs.queues.Queues.take.Goals as goal

after : (c : goal.After-take) → Inside
after c = record { region = c.take.new.self; ends = c.self.inside.ends; spare = c.self.inside.spare }

stays : (c : goal.After-take) → ThreadsStay c.self.inside.region c.take.new.self c.self.inside.ends.queues.items
stays c =
    let block : List ℕ = replicate c.args.width 0 in
    let found = ap (λ m. get m c.take.result) c.take.ensures.live ∙ get_inserted c.self.inside.region.live c.take.result block in
    let wide : width_of c.take.new.self c.take.result ≡ c.args.width = ap (λ o. length (unwrap_or o [])) found ∙ length-replicate c.args.width 0 in
    apart_changed c.self.inside.region c.take.new.self c.self.inside.ends.queues.items c.take.result c.self.invariant.threaded
    (absent_if_new c.self.inside.region c.self.inside.ends.queues.items c.take.result c.self.invariant.threaded c.take.ensures.fresh)
    (λ other apart. ap (λ m. get m other) c.take.ensures.live ∙ get_insert_apart c.self.inside.region.live c.take.result block other apart)
    (λ live. (omega (arith, c.requires.wide, wide), c.take.ensures.small))

pub invariant_of-self : goal.invariant_of-self
invariant_of-self c = record { threaded = (stays c).threaded; room = c.self.invariant.room }

pub returns-clause-lists : goal.returns-clause-lists
unfolding after
returns-clause-lists c = lists_kept c.self.inside (after c) _ c.self.view_is refl (stays c)

pub returns-clause-held : goal.returns-clause-held
unfolding after
returns-clause-held c =
    let block : List ℕ = replicate c.args.width 0 in
    let found = ap (λ m. get m c.take.result) c.take.ensures.live ∙ get_inserted c.self.inside.region.live c.take.result block in
    held_if_apart (after c) c.take.result (record {
      live = ap is_some found;
      absent = λ q. ap (list_any (eqb c.take.result)) ((stays c).same q)
          ∙ absent_if_new c.self.inside.region c.self.inside.ends.queues.items c.take.result c.self.invariant.threaded c.take.ensures.fresh q;
    })

others : (c : goal.After-take) (other : ℕ) → other ≢ c.take.result → get c.take.new.self.live other ≡ get c.args.self.now.region.live other
others c other apart =
    ap (λ m. get m other) c.take.ensures.live ∙ get_insert_apart c.self.inside.region.live c.take.result (replicate c.args.width 0) other apart
    ∙ ap (λ s. get s.region.live other) c.self.view_is

fresh : (c : goal.After-take) → get c.args.self.now.region.live c.take.result ≡ None
fresh c = ap (λ s. get s.region.live c.take.result) (sym c.self.view_is) ∙ c.take.ensures.fresh

pub returns-clause-apart : goal.returns-clause-apart
returns-clause-apart c other held = taken_apart c.args.self.now c.take.result other (fresh c) held

pub returns-clause-contents : goal.returns-clause-contents
unfolding after
returns-clause-contents c =
    contents_beside c.args.self.now (queues_state (after c)) c.take.result (others c) (returns-clause-lists c)
    (λ queue stands. (returns-clause-held c).apart queue (subst (λ l. IsTrue (list_any (eqb c.take.result) l)) (sym (returns-clause-lists c queue)) stands))

pub returns-clause-kept : goal.returns-clause-kept
unfolding after
returns-clause-kept c other held =
    held_beside c.args.self.now (queues_state (after c)) c.take.result (others c) (returns-clause-lists c) other (returns-clause-apart c other held) held

pub returns-clause-more : goal.returns-clause-more
unfolding after
returns-clause-more c = one_more_beside c.args.self.now (queues_state (after c)) c.take.result (others c) (returns-clause-lists c)
