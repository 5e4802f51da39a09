use Rattle.std.proofs.Common.{ℕ, ◌*◌, ◌≤◌, ◌≡◌, List, length, take, drop, refl, sym, ap, ◌∙◌, subst, arith}
use Rattle.std.proofs.lemmas.List.{with_items_is, take_all}
use Rattle.std.specs.Vec.{with_items}
use Rattle.pict_queue.specs.QueuesState.{queue_blocks}
use Rattle.pict_queue.specs.Contents.{first_words}
use Rattle.pict_blocks.specs.Framed.{gathered}
use Rattle.pict_desk.specs.Known.{pair_at, value_in}
use Rattle.pict_blocks.specs.Blocks.{frame_values}
use Rattle.pict_blocks.proofs.Standing.{frame_back}
use Rattle.pict_blocks.specs.Holding.{HoldWords}
use Rattle.pict_turns.proofs.Held.{has_read}
use Rattle.pict_blocks.proofs.WordsHeld.{held_length, first_block, pairs_read}
use Rattle.pict_turns.proofs.reading.read_first_narrow.Goals as goal

pub scatter_first-requires-clause-some : goal.scatter_first-requires-clause-some
scatter_first-requires-clause-some c =
    let s = c.args.store.now.queues in
    let some : 1 ≤ length (first_words s c.args.queue.0) = let e = ap length c.requires.holds.2 in omega (arith, e) in
    let e = ap length (first_block s.region (queue_blocks s c.args.queue.0) (first_words s c.args.queue.0) refl some).is in
    omega (arith, e)

pub scatter_first-requires-clause-inside : goal.scatter_first-requires-clause-inside
scatter_first-requires-clause-inside c =
    let h = c.requires.holds in
    let whole = ap length h.2 in
    let held = held_length c.args.store.now.desk.heap (length c.args.frame.now) h.1 h.3 in
    omega (arith, whole, held)

pub returns-clause-read : goal.returns-clause-read
returns-clause-read c =
    let s = c.args.store.now in
    let frame = c.args.frame.now in
    let values = c.scatter_first.new.values in
    let h = c.requires.holds in
    let first = first_words s.queues c.args.queue.0 in
    let words : gathered values frame ≡ h.1 =
    c.scatter_first.ensures.words ∙ ap (λ (ws : List ℕ). take (2 * length frame) (drop 1 ws)) h.2
    ∙ take_all (2 * length frame) h.1 (let held = held_length s.desk.heap (length frame) h.1 h.3 in omega (arith, held)) in
    let held : drop 1 first ≡ gathered values frame = ap (drop 1) h.2 ∙ sym words in
    let before : c.deref_mut.result.now ≡ s.desk.values.items = c.deref_mut.ensures.value in
    let same : length values ≡ length s.desk.values.items = c.scatter_first.ensures.len ∙ ap length before in
    has_read s c.scatter_first.new.self (with_items s.desk.values values) first frame values
    (with_items_is s.desk.values values (same ∙ sym s.desk.values.ok.0)) c.scatter_first.ensures.rest same
    (pairs_read s.desk.heap s.desk.values.items values frame (subst (HoldWords s.desk.heap (length frame)) (sym words) h.3)
    (λ level none. c.scatter_first.ensures.others level none ∙ ap (λ (vs : List (ℕ × ℕ)). pair_at vs level) before) c.requires.pairs)
    (ap (frame_values (value_in s.desk.heap) (length frame)) held ∙ frame_back s.desk.heap values frame (length frame) c.requires.narrow)
    (λ few. held)
