use Rattle.std.proofs.Common.{ℕ, suc, ◌≡◌, ◌≤◌, ◌+◌, ◌*◌, List, length, drop, sym, ap, ◌∙◌, subst, arith}
use Rattle.std.proofs.lemmas.List.{with_items_is, length-drop, take_all}
use Rattle.std.specs.Vec.{with_items}
use Rattle.pict_queue.specs.QueuesState.{QueuesState}
use Rattle.pict_queue.specs.Contents.{held_words}
use Rattle.pict_blocks.specs.Framed.{gathered}
use Rattle.pict_desk.specs.Known.{pair_at, value_in}
use Rattle.pict_region.specs.RegionState.{words_of}
use Rattle.pict_blocks.specs.Blocks.{frame_values}
use Rattle.pict_blocks.proofs.Costs.{costs_by, costs_up}
use Rattle.pict_blocks.proofs.Holding.{width_narrow}
use Rattle.pict_blocks.proofs.Standing.{frame_back}
use Rattle.pict_blocks.specs.Holding.{HoldWords}
use Rattle.pict_blocks.proofs.WordsHeld.{held_length, whole_length, behind_number, pairs_read, has_read_frame}
use Rattle.pict_blocks.proofs.reading.read_narrow.Goals as goal

pub scatter_and_give-requires-clause-inside : goal.scatter_and_give-requires-clause-inside
scatter_and_give-requires-clause-inside c =
    let h = c.requires.holds in
    let whole = whole_length (words_of c.args.queues.now.region c.args.block) (suc h.0) h.1 h.2 in
    let held = held_length c.args.desk.now.heap (length c.args.frame.now) h.1 h.3 in
    omega (arith, whole, held)

pub returns-clause-read : goal.returns-clause-read
returns-clause-read c =
    let d = c.args.desk.now in
    let frame = c.args.frame.now in
    let values = c.scatter_and_give.new.values in
    let h = c.requires.holds in
    let ws = words_of c.args.queues.now.region c.args.block in
    let many : length ws ≡ 2 + 2 * length frame =
    (let whole = whole_length ws (suc h.0) h.1 h.2 in
    let held = held_length d.heap (length frame) h.1 h.3 in
    omega (arith, whole, held)) in
    let words : gathered values frame ≡ h.1 = c.scatter_and_give.ensures.words
    ∙ take_all (2 * length frame) (drop 2 ws) (omega (arith, length-drop 2 ws, many)) ∙ behind_number ws h.0 h.1 h.2 in
    let held : drop 1 (held_words c.args.queues.now.region c.args.block) ≡ gathered values frame = ap (drop 1) h.2 ∙ sym words in
    let before : c.deref_mut.result.now ≡ d.values.items = c.deref_mut.ensures.value in
    let same : length values ≡ length d.values.items = c.scatter_and_give.ensures.len ∙ ap length before in
    has_read_frame d (with_items d.values values) (held_words c.args.queues.now.region c.args.block) frame values
    (with_items_is d.values values (same ∙ sym d.values.ok.0)) same
    (pairs_read d.heap d.values.items values frame (subst (HoldWords d.heap (length frame)) (sym words) h.3)
    (λ level none. c.scatter_and_give.ensures.others level none ∙ ap (λ (vs : List (ℕ × ℕ)). pair_at vs level) before) c.requires.pairs)
    (ap (frame_values (value_in d.heap) (length frame)) held ∙ frame_back d.heap values frame (length frame) c.requires.narrow)
    (λ few. held)

pub returns-clause-freed : goal.returns-clause-freed
returns-clause-freed c = record {
  contents = c.scatter_and_give.ensures.contents;
  spare = c.scatter_and_give.ensures.spare;
  widths = c.scatter_and_give.ensures.widths;
  queues = ap (λ (q : QueuesState). q.queues) c.scatter_and_give.ensures.rest;
  spare_queues = ap (λ (q : QueuesState). q.spare_queues) c.scatter_and_give.ensures.rest;
  gone = c.scatter_and_give.ensures.gone;
  blocks = c.scatter_and_give.ensures.blocks;
}

pub returns-clause-cost : goal.returns-clause-cost
returns-clause-cost c =
    let w = width_narrow c.args.frame.now c.requires.narrow in
    costs_up c.args.queues.now c.scatter_and_give.new.self (2 * length c.args.frame.now + 1) _ (omega (arith, w))
    (costs_by c.args.queues.now c.scatter_and_give.new.self (2 * length c.args.frame.now + 1) c.scatter_and_give.ensures.work)
