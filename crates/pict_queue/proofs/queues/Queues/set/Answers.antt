use Rattle.std.specs.List.{list_any}
use Rattle.std.proofs.Common.{eqb, ◌≡◌, ℕ, List, [], length, set, refl, ◌∙◌, ap, arith, ◌≢◌}
use Rattle.std.proofs.lemmas.List.{length-set}
use Rattle.std.specs.Option.{is_some, unwrap_or}
use Rattle.std.specs.FinMap.{get}
use Rattle.pict_region.specs.RegionState.{words_of, width_of}
use Rattle.pict_region.proofs.Uses.{get_inserted, get_insert_apart}
use Rattle.pict_queue.specs.declared.queues.Queues.TheInside.{Inside}
use Rattle.pict_queue.proofs.Orders.{StandsApart, apart_if_held, held_if_apart, ThreadsStay, apart_changed}
use Rattle.pict_queue.proofs.Calls.{lists_kept}
use Rattle.pict_queue.specs.Threads.{queues_state}
use Rattle.pict_queue.proofs.Kept.{contents_beside, held_beside, one_more_beside, no_more_if_held}
use Rattle.pict_queue.proofs.queues.Queues.set.Goals as goal

after : (c : goal.After-set) → Inside
after c = record { region = c.set.new.self; ends = c.self.inside.ends; spare = c.self.inside.spare }

held : (c : goal.After-set) → StandsApart c.self.inside.region c.self.inside.ends.queues.items c.args.b.now
held c = apart_if_held c.self.inside _ c.args.b.now c.self.view_is c.requires.held

stays : (c : goal.After-set) → ThreadsStay c.self.inside.region c.set.new.self c.self.inside.ends.queues.items
stays c =
    let block : List ℕ = set (words_of c.self.inside.region c.args.b.now) c.args.i c.args.word in
    let found = ap (λ m. get m c.args.b.now) c.set.ensures.live ∙ get_inserted c.self.inside.region.live c.args.b.now block in
    let same : width_of c.set.new.self c.args.b.now ≡ width_of c.self.inside.region c.args.b.now =
    ap (λ o. length (unwrap_or o [])) found ∙ length-set (words_of c.self.inside.region c.args.b.now) c.args.i c.args.word in
    apart_changed c.self.inside.region c.set.new.self c.self.inside.ends.queues.items c.args.b.now c.self.invariant.threaded (held c).absent
    (λ other apart. ap (λ m. get m other) c.set.ensures.live ∙ get_insert_apart c.self.inside.region.live c.args.b.now block other apart)
    (λ live. (omega (arith, c.self.invariant.threaded.wide c.args.b.now (held c).live, same), c.self.invariant.threaded.small c.args.b.now (held c).live))

pub invariant_of-self : goal.invariant_of-self
invariant_of-self c = record { threaded = (stays c).threaded; room = c.self.invariant.room }

pub returns-clause-lists : goal.returns-clause-lists
unfolding after
returns-clause-lists c = lists_kept c.self.inside (after c) _ c.self.view_is refl (stays c)

pub returns-clause-held : goal.returns-clause-held
unfolding after
returns-clause-held c =
    let block : List ℕ = set (words_of c.self.inside.region c.args.b.now) c.args.i c.args.word in
    let found = ap (λ m. get m c.args.b.now) c.set.ensures.live ∙ get_inserted c.self.inside.region.live c.args.b.now block in
    held_if_apart (after c) c.args.b.now (record {
      live = ap is_some found;
      absent = λ q. ap (list_any (eqb c.args.b.now)) ((stays c).same q) ∙ (held c).absent q;
    })

others : (c : goal.After-set) (other : ℕ) → other ≢ c.args.b.now → get c.set.new.self.live other ≡ get c.args.self.now.region.live other
others c other apart =
    ap (λ m. get m other) c.set.ensures.live
    ∙ get_insert_apart c.self.inside.region.live c.args.b.now (set (words_of c.self.inside.region c.args.b.now) c.args.i c.args.word) other apart
    ∙ ap (λ s. get s.region.live other) c.self.view_is

pub returns-clause-contents : goal.returns-clause-contents
unfolding after
returns-clause-contents c = contents_beside c.args.self.now (queues_state (after c)) c.args.b.now (others c) (returns-clause-lists c) c.requires.held.apart

pub returns-clause-kept : goal.returns-clause-kept
unfolding after
returns-clause-kept c = held_beside c.args.self.now (queues_state (after c)) c.args.b.now (others c) (returns-clause-lists c)

pub returns-clause-no_more : goal.returns-clause-no_more
unfolding after
returns-clause-no_more c =
    no_more_if_held c.args.self.now (queues_state (after c)) c.args.b.now c.requires.held
    (one_more_beside c.args.self.now (queues_state (after c)) c.args.b.now (others c) (returns-clause-lists c))
