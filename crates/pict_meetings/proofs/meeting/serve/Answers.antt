use Rattle.std.proofs.Common.{ℕ, ◌+◌, ◌<◌, ◌≤◌, List, [], ◌≡◌, ◌++◌, length, map, drop, get_or, sym, ap, ◌∙◌, subst, arith}
use Rattle.std.specs.List.{All, AllByRecursion}
use Rattle.std.specs.Option.{IsSome}
use Rattle.pict_core.specs.Matching.{match_value}
use Rattle.pict_code.specs.Plain.{plain_node, plain_pat}
use Rattle.pict_code.specs.ReadBack.{unleveled}
use Rattle.pict_region.specs.RegionState.{blocks}
use Rattle.pict_queue.specs.QueuesState.{QueuesState, IsHeld}
use Rattle.pict_queue.specs.Contents.{contents}
use Rattle.pict_view.specs.Moved.{if_replicated}
use Rattle.pict_blocks.proofs.Held.{works_blocks}
use Rattle.pict_desk.specs.Binding.{levels_of, BindsPattern}
use Rattle.pict_meetings.specs.Sent.{sent_value}
use Rattle.pict_desk.specs.Pairs.{ArePairs}
use Rattle.pict_desk.specs.Code.{core_in}
use Rattle.pict_blocks.specs.Parts.{block_width}
use Rattle.pict_turns.specs.Turns.{turn_cost}
use Rattle.pict_turns.specs.declared.store.Store.{Store}
use Rattle.pict_turns.specs.declared.turn.Turn.TheVariants.{Nobody}
use Rattle.pict_turns.proofs.Adding.{used_last, used_same, adds_part}
use Rattle.pict_turns.proofs.AfterReading.{no_more_read}
use Rattle.pict_turns.proofs.Handing.{made_last}
use Rattle.pict_turns.proofs.Numbered.{coded_inside}
use Rattle.pict_desk.proofs.Numbered.{coded_at, in_code, same_frame}
use Rattle.pict_turns.proofs.Turns.{set_aside}
use Rattle.pict_meetings.proofs.Inputs.{pattern_rises, pattern_inside, part_inside}
use Rattle.pict_meetings.proofs.Meets.{reader_met}
use Rattle.pict_meetings.proofs.Readying.{Readies, alone_last}
use Rattle.pict_meetings.proofs.Serving.{input_coded, serves_part, serves_fits, waiting_read, first_read, can_serve}
use Rattle.pict_meetings.proofs.meeting.serve.Goals as goal

pub frame_at-frame-requires : goal.frame_at-frame-requires
frame_at-frame-requires c =
    let core = core_in c.args.code.now in
    let p = plain_pat c.args.pattern.now in
    let i = input_coded _ c.args.number c.args.part c.args.replicated p c.requires.code c.requires.input in
    in_code c.args.code.now c.requires.code c.args.part (part_inside core p c.args.part (serves_part core c.args.number c.args.part c.args.replicated p i))

pub read_waiting-requires-clause-store : goal.read_waiting-requires-clause-store
read_waiting-requires-clause-store c = rw c.set.ensures (set_aside (core_in c.args.code.now) c.args.store.now c.requires.sends.1.acting.store)

pub bind_sent-requires-clause-fits : goal.bind_sent-requires-clause-fits
bind_sent-requires-clause-fits c =
    let core = core_in c.args.code.now in
    let p = plain_pat c.args.pattern.now in
    let i = input_coded _ c.args.number c.args.part c.args.replicated p c.requires.code c.requires.input in
    let reads = (rw c.set.ensures at c.read_waiting.ensures.reads) in
    subst (λ h. IsSome (match_value (unleveled p) (sent_value h c.args.sent))) (sym reads.read.rest.heap)
    (serves_fits core c.args.number c.args.part c.args.replicated p i c.args.store.now c.read_waiting.new.store c.args.channel c.args.sent
    c.requires.sends.0 c.requires.code.closed c.requires.sends.1 c.requires.queue reads c.requires.right)

pub bind_sent-requires-clause-inside : goal.bind_sent-requires-clause-inside
bind_sent-requires-clause-inside c =
    let core = core_in c.args.code.now in
    let p = plain_pat c.args.pattern.now in
    let i = input_coded _ c.args.number c.args.part c.args.replicated p c.requires.code c.requires.input in
    subst (λ (n : ℕ). AllByRecursion (λ level. level < n) (levels_of p)) (sym (rw c.set.ensures at c.read_waiting.ensures.reads).read.rest.levels)
    (pattern_inside core p c.args.part (serves_part core c.args.number c.args.part c.args.replicated p i) c.args.store.now c.requires.sends.1.acting.store)

pub bind_sent-requires-clause-rising : goal.bind_sent-requires-clause-rising
bind_sent-requires-clause-rising c =
    let core = core_in c.args.code.now in
    let p = plain_pat c.args.pattern.now in
    let i = input_coded _ c.args.number c.args.part c.args.replicated p c.requires.code c.requires.input in
    pattern_rises core p c.args.part (serves_part core c.args.number c.args.part c.args.replicated p i)

pub make_ready-requires-clause-can : goal.make_ready-requires-clause-can
make_ready-requires-clause-can c =
    let frame = c.frame_at-frame.result.now in
    can_serve (core_in c.args.code.now) c.args.store.now c.read_waiting.new.store c.bind_sent.new.store c.args.channel c.args.number c.args.replicated frame
    c.settle.new.queues (rw c.set.ensures at c.read_waiting.ensures.reads) c.bind_sent.ensures.rest c.settle.ensures.spare (c.requires.can frame c.frame_at-frame.ensures)

pub make_ready-requires-clause-inside : goal.make_ready-requires-clause-inside
make_ready-requires-clause-inside c =
    let inside = coded_inside c.args.code.now c.requires.code c.args.store.now c.requires.sends.1.acting.store c.args.part c.frame_at-frame.result.now c.frame_at-frame.ensures in
    subst (λ (n : ℕ). All (λ level. level < n) c.frame_at-frame.result.now) (sym (c.bind_sent.ensures.levels ∙ (rw c.set.ensures at c.read_waiting.ensures.reads).read.rest.levels)) inside

pub make_ready-requires-clause-pairs : goal.make_ready-requires-clause-pairs
make_ready-requires-clause-pairs c =
    let bound = c.bind_sent.new.store in
    subst (λ h. ArePairs h bound.desk.values.items) (sym (ap (λ (s : Store). s.desk.heap) c.bind_sent.ensures.rest)) c.bind_sent.ensures.pairs

pub returns-clause-done : goal.returns-clause-done
returns-clause-done c =
    let core = core_in c.args.code.now in
    let p = plain_pat c.args.pattern.now in
    let i = input_coded _ c.args.number c.args.part c.args.replicated p c.requires.code c.requires.input in
    let old = c.args.store.now in
    let taken = c.read_waiting.new.store in
    let bound = c.bind_sent.new.store in
    let new = c.make_ready.new.store in
    let reads = (rw c.set.ensures at c.read_waiting.ensures.reads) in
    let rest = c.bind_sent.ensures.rest in
    let frame = c.frame_at-frame.result.now in
    let waiting = waiting_read old taken c.args.channel c.args.number reads in
    let left : contents c.settle.new.queues (c.args.channel + 1) ≡ reads.others ++ if_replicated c.args.replicated reads.words =
    c.settle.ensures.waiting ∙ ap (λ (ws : List (List ℕ)). drop 1 ws ++ if_replicated c.args.replicated (get_or ws 0 [])) waiting in
    let f = c.frame_at-frame.ensures in
    let at = coded_at c.args.code.now c.requires.code c.args.part frame f in
    let can = can_serve core old taken bound c.args.channel c.args.number c.args.replicated frame c.settle.new.queues reads rest c.settle.ensures.spare (c.requires.can frame f) in
    let readies = alone_last core bound new c.args.part frame (ap (λ (s : Store). s.turn) rest ∙ reads.read.rest.turn) can
    (c.make_ready.ensures.last core (record { node = f.node; at = at; is = f.is })) in
    reader_met core old taken bound new c.args.channel c.args.number c.args.part c.args.replicated p c.args.sent c.requires.sends.0
    c.requires.code.closed c.requires.sends.1 c.requires.queue reads i
    (ap (λ (s : Store). s.desk.heap) rest ∙ reads.read.rest.heap)
    (ap (λ (s : Store). contents s.queues (c.args.channel + 1)) rest ∙ left)
    (λ queue apart. ap (λ (s : Store). contents s.queues queue) rest ∙ c.settle.ensures.others queue apart)
    (ap (λ (s : Store). length s.queues.queues) rest ∙ c.settle.ensures.queues)
    (subst (λ h. BindsPattern h p (sent_value h c.args.sent) taken.desk.values.items bound.desk.values.items) reads.read.rest.heap c.bind_sent.ensures.binds)
    c.bind_sent.ensures.levels
    (subst (λ h. ArePairs h bound.desk.values.items) reads.read.rest.heap c.bind_sent.ensures.pairs)
    f.node at
    (subst (λ (ls : List ℕ). Readies core bound new [] c.args.part ls) (sym f.is) readies)
    (λ other held. no_more_read (record old { turn = Nobody }) taken reads.read.rest other
    (c.settle.ensures.no_more other (subst (λ (s : Store). IsHeld s.queues other) rest (c.make_ready.ensures.no_more other held))))
    (let read = ap (λ (q : QueuesState). length q.queues + q.spare_queues) reads.read.rest.queues in
    let first = c.settle.ensures.queues in
    let left = c.settle.ensures.spare_queues in
    let bind = ap (λ (s : Store). length s.queues.queues + s.queues.spare_queues) rest in
    let same = readies.queues in
    let last = c.make_ready.ensures.spare_queues in
    omega (arith, read, first, left, bind, same, last))

pub returns-clause-turn : goal.returns-clause-turn
returns-clause-turn c = λ frame has_frame.
    let core = core_in c.args.code.now in
    let old = c.args.store.now in
    let taken = c.read_waiting.new.store in
    let bound = c.bind_sent.new.store in
    let new = c.make_ready.new.store in
    let reads = (rw c.set.ensures at c.read_waiting.ensures.reads) in
    let rest = c.bind_sent.ensures.rest in
    let own = c.frame_at-frame.result.now in
    let f = c.frame_at-frame.ensures in
    let can = can_serve core old taken bound c.args.channel c.args.number c.args.replicated own c.settle.new.queues reads rest c.settle.ensures.spare (c.requires.can own f) in
    subst (λ (ls : List ℕ). turn_cost core new ≤ block_width ls + 4) (same_frame (map plain_node c.args.code.now) c.args.part own frame f has_frame)
    (made_last core bound new c.args.part own (ap (λ (s : Store). s.turn) rest ∙ reads.read.rest.turn) can.block
    (c.make_ready.ensures.last core (record { node = f.node; at = coded_at c.args.code.now c.requires.code c.args.part own f; is = f.is }))).cost

pub returns-clause-blocks : goal.returns-clause-blocks
returns-clause-blocks c = λ width.
    c.make_ready.ensures.blocks width ∙ ap (λ (s : Store). blocks s.queues.region width) c.bind_sent.ensures.rest ∙ c.settle.ensures.blocks width
    ∙ works_blocks c.args.store.now.queues c.read_waiting.new.store.queues (rw c.set.ensures at c.read_waiting.ensures.reads).read.rest.queues width

pub settle-requires-clause-some : goal.settle-requires-clause-some
settle-requires-clause-some c =
    let reads = (rw c.set.ensures at c.read_waiting.ensures.reads) in
    let first = ap length (first_read c.args.store.now c.read_waiting.new.store c.args.channel c.args.number reads) in
    let words = ap length reads.read.is.words_are in
    omega (arith, first, words)

pub returns-clause-adds : goal.returns-clause-adds
returns-clause-adds c =
    let core = core_in c.args.code.now in
    let old = c.args.store.now in
    let bound = c.bind_sent.new.store in
    let new = c.make_ready.new.store in
    let own = c.frame_at-frame.result.now in
    let f = c.frame_at-frame.ensures in
    adds_part (map plain_node c.args.code.now) old new c.args.part own f
    (used_same old.desk.heap bound.desk.heap new.desk.heap.room _ (ap (λ (s : Store). s.desk.heap) c.bind_sent.ensures.rest ∙ (rw c.set.ensures at c.read_waiting.ensures.reads).read.rest.heap)
    (used_last core bound new c.args.part own (c.make_ready.ensures.last core (record { node = f.node; at = coded_at c.args.code.now c.requires.code c.args.part own f; is = f.is }))))
