use Rattle.std.proofs.Common.{◌<◌, ◌+◌, ◌++◌, ◌∷◌, [], ℕ, List, length, set, refl, ◌∙◌, ap, arith}
use Rattle.pict_region.specs.Values.{gathered}
use Rattle.pict_queue.specs.Contents.{contents, held_words}
use Rattle.pict_queue.specs.declared.ends.Queue.{Queue}
use Rattle.pict_queue.specs.declared.queues.Queues.TheInside.{Inside}
use Rattle.pict_queue.specs.Ends.{queue_in}
use Rattle.pict_queue.specs.Threads.{queues_state, AreQueuesSound}
use Rattle.pict_queue.proofs.Calls.{queue_there, ends_found}
use Rattle.pict_queue.proofs.Orders.{last_in, ends_length}
use Rattle.pict_queue.proofs.Gathering.{GainsBlock, standing, gathers, gathers_sound, gathers_there}
use Rattle.pict_queue.proofs.Pushing.{PushesBlock, pushes_block}
use Rattle.pict_queue.proofs.queues.Queues.push_gathered.Goals as goal

pub gather_last-block-requires-clause-queue : goal.gather_last-block-requires-clause-queue
gather_last-block-requires-clause-queue c = queue_there c.self.inside _ c.args.q.0 c.self.view_is c.requires.queue

pub gather_last-block-requires-clause-live : goal.gather_last-block-requires-clause-live
gather_last-block-requires-clause-live c some =
    let last : ℕ = (queue_in c.self.inside.ends.queues.items c.args.q.0).last in
    c.self.invariant.threaded.live c.args.q.0 last (last_in c.self.inside.region c.self.inside.ends.queues.items c.args.q.0 c.self.invariant.threaded some)

pub gather_last-block-requires-clause-linked : goal.gather_last-block-requires-clause-linked
gather_last-block-requires-clause-linked c some =
    let last : ℕ = (queue_in c.self.inside.ends.queues.items c.args.q.0).last in
    let wide = c.self.invariant.threaded.wide last
    (c.self.invariant.threaded.live c.args.q.0 last (last_in c.self.inside.region c.self.inside.ends.queues.items c.args.q.0 c.self.invariant.threaded some)) in
    omega (arith, wide)

pub overflow_add-queue : goal.overflow_add-queue
unfolding standing
overflow_add-queue c =
    let a = c.self.inside in
    let old = c.args.self.now in
    let r = c.gather_last-block in
    let block : ℕ = r.result.1 in
    let words : List ℕ = c.args.word ∷ gathered c.args.values.now c.args.indices.now in
    let queue : Queue = queue_in a.ends.queues.items c.args.q.0 in
    let mid : Inside = standing a r.new.region r.ensures.live.between.live in
    let held = (gathers a r.new.region old block r.result.0.last words c.self.view_is c.self.invariant r.ensures.fresh r.ensures.small (omega arith) r.ensures.live).held in
    let sound = gathers_sound a r.new.region old block r.result.0.last words c.self.view_is c.self.invariant r.ensures.fresh r.ensures.small (omega arith) r.ensures.live in
    let there = gathers_there a r.new.region old block r.result.0.last words c.self.view_is c.self.invariant r.ensures.fresh r.ensures.small (omega arith) r.ensures.live c.args.q.0 c.requires.queue in
    let found = ends_found mid (queues_state mid) c.args.q.0 block block queue r.result.0 refl sound there held refl refl r.ensures.queue in
    let same = ap (λ (q : Queue). q.length) r.ensures.queue ∙ ends_length queue block in
    omega (arith, found.fits, same)

words : (c : goal.After-put) → List ℕ
words c = c.args.word ∷ gathered c.args.values.now c.args.indices.now

between : (c : goal.After-put) → Inside
between c = standing c.self.inside c.gather_last-block.new.region c.gather_last-block.ensures.live.between.live

gains : (c : goal.After-put) → GainsBlock c.self.inside (between c) c.args.self.now c.gather_last-block.result.1 (words c)
unfolding words between
gains c =
    let r = c.gather_last-block in
    gathers c.self.inside r.new.region c.args.self.now r.result.1 r.result.0.last (words c) c.self.view_is c.self.invariant r.ensures.fresh r.ensures.small (omega arith) r.ensures.live

sound : (c : goal.After-put) → AreQueuesSound (between c)
unfolding words between
sound c =
    let r = c.gather_last-block in
    gathers_sound c.self.inside r.new.region c.args.self.now r.result.1 r.result.0.last (words c) c.self.view_is c.self.invariant r.ensures.fresh r.ensures.small (omega arith) r.ensures.live

there : (c : goal.After-put) → c.args.q.0 < length (queues_state (between c)).queues
unfolding words between
there c =
    let r = c.gather_last-block in
    gathers_there c.self.inside r.new.region c.args.self.now r.result.1 r.result.0.last (words c) c.self.view_is c.self.invariant r.ensures.fresh r.ensures.small (omega arith) r.ensures.live c.args.q.0 c.requires.queue

after : (c : goal.After-put) → Inside
after c = record { region = c.gather_last-block.new.region; ends = c.put.new.self; spare = c.self.inside.spare }

pushes : (c : goal.After-put) → PushesBlock (queues_state (between c)) (after c) c.args.q.0 c.gather_last-block.result.1
unfolding words between after standing
pushes c =
    let block : ℕ = c.gather_last-block.result.1 in
    let ends : Queue = c.gather_last-block.result.0 in
    pushes_block (between c) (after c) (queues_state (between c)) c.args.q.0 block ends refl (sound c) (there c) (gains c).held (record {
      ends_are = c.gather_last-block.ensures.queue;
      live = c.gather_last-block.ensures.live.linked;
      free = refl;
      queues = c.put.ensures.items ∙ ap (λ (n : ℕ). let q : Queue = record { first = ends.first; last = n; length = ends.length + 1 } in set c.self.inside.ends.queues.items c.args.q.0 q) c.number-number.ensures;
      spare = refl;
    })

pub invariant_of-self : goal.invariant_of-self
unfolding after
invariant_of-self c = record { threaded = (pushes c).threaded; room = omega (arith, c.self.invariant.room, c.put.ensures.len, c.put.ensures.capacity) }

pub returns-clause-pushed : goal.returns-clause-pushed
unfolding words after between standing
returns-clause-pushed c =
    let g = gains c in
    (pushes c).pushed ∙ ap (λ (ws : List (List ℕ)). ws ++ held_words (between c).region c.gather_last-block.result.1 ∷ []) (g.contents c.args.q.0)
    ∙ ap (λ (ws : List ℕ). contents c.args.self.now c.args.q.0 ++ ws ∷ []) g.words_are

pub returns-clause-other_contents : goal.returns-clause-other_contents
unfolding after between standing
returns-clause-other_contents c other apart = (pushes c).other_contents other apart ∙ (gains c).contents other

pub returns-clause-lists : goal.returns-clause-lists
unfolding after between standing
returns-clause-lists c other apart = (pushes c).others other apart ∙ (gains c).lists other

pub returns-clause-kept : goal.returns-clause-kept
unfolding after between standing
returns-clause-kept c other held =
    let first = (gains c).kept other held in
    let second = (pushes c).kept other ((gains c).apart other held) first.held in
    record { held = second.held; words = second.words ∙ first.words }

pub returns-clause-no_more : goal.returns-clause-no_more
unfolding after between standing
returns-clause-no_more c other held =
    let gone = (pushes c).gone other held in
    (gains c).more other gone.1 gone.0

pub returns-clause-queues : goal.returns-clause-queues
unfolding after between standing
returns-clause-queues c = (pushes c).rest.queues ∙ ap (λ s. length s.queues) c.self.view_is

pub returns-clause-once : goal.returns-clause-once
unfolding after
returns-clause-once c = (pushes c).once
