use Rattle.std.proofs.Common.{ℕ, List, ◌<◌, ◌∷◌, [], length, refl, sym, ap, subst}
use Rattle.pict_syntax.specs.declared.limits.TheConstants.{NARROW_LIMIT}
use Rattle.pict_region.specs.RegionState.{words_of}
use Rattle.pict_queue.specs.Contents.{held_words}
use Rattle.pict_desk.specs.Code.{core_in}
use Rattle.pict_turns.specs.declared.store.Store.{Store}
use Rattle.pict_turns.proofs.Held.{has_read_by}
use Rattle.pict_turns.proofs.AfterReading.{reads_aside}
use Rattle.pict_turns.proofs.Numbered.{coded_inside}
use Rattle.pict_desk.proofs.Numbered.{coded_frame, coded_rising, in_code}
use Rattle.pict_turns.proofs.Taking.{node_low, node_read, read_frame_is, wide_held, wide_taken}
use Rattle.pict_turns.proofs.turning.read_wide_node.Goals as goal

pub frame_at-requires : goal.frame_at-requires
frame_at-requires c =
    let core = core_in c.args.code.now in
    let s = c.args.store.now in
    in_code c.args.code.now c.requires.code c.args.number
    (node_low core s.desk.heap c.args.number (held_words s.queues.region c.args.block.now) c.requires.is.0 c.requires.is.1)

pub read_wide-pair-requires-clause-inside : goal.read_wide-pair-requires-clause-inside
read_wide-pair-requires-clause-inside c = coded_inside c.args.code.now c.requires.code c.args.store.now c.requires.store c.args.number c.frame_at.result.now c.frame_at.ensures

pub read_wide-pair-requires-clause-rising : goal.read_wide-pair-requires-clause-rising
read_wide-pair-requires-clause-rising c = coded_rising c.args.code.now c.requires.code c.args.number c.frame_at.result.now c.frame_at.ensures

pub returns-clause-read : goal.returns-clause-read
returns-clause-read c =
    let core = core_in c.args.code.now in
    let s = c.args.store.now in
    let n : Store = record s { desk = c.read_wide-pair.new.desk; queues = c.read_wide-pair.new.queues } in
    let pair = c.read_wide-pair.result in
    let words = held_words s.queues.region c.args.block.now in
    let f = coded_frame c.args.code.now c.requires.code c.args.number c.frame_at.result.now c.frame_at.ensures in
    let read = node_read core s n c.args.number words c.frame_at.result.now c.requires.is.0 c.requires.is.1 f (has_read_by s c.read_wide-pair.new.queues c.read_wide-pair.new.desk words c.frame_at.result.now c.read_wide-pair.ensures.rest c.read_wide-pair.ensures.read) in
    let many : NARROW_LIMIT < length read.node.frame =
    subst (λ (ls : List ℕ). NARROW_LIMIT < length ls) (sym (read_frame_is core s n c.args.number words c.frame_at.result.now read f)) (c.requires.wide c.frame_at.result.now c.frame_at.ensures) in
    let ws = words_of s.queues.region c.args.block.now in
    rw c.set.ensures (record {
      words = ap (λ (us : List ℕ). us ∷ [])
          (sym (wide_held core s n c.args.number words c.requires.is.0 c.requires.is.1 read many pair ws refl c.read_wide-pair.ensures.first c.read_wide-pair.ensures.second));
      turn = wide_taken core s n c.args.number words c.requires.is.0 c.requires.is.1 read many pair ws refl c.read_wide-pair.ensures.first c.read_wide-pair.ensures.second;
      rest = reads_aside s n read.rest;
    })
