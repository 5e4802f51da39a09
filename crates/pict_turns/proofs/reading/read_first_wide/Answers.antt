use Rattle.std.proofs.Common.{ℕ, suc, ◌≡◌, true, nat_lt, cond, List, [], ◌∷◌, length, drop, get_or, sym, ap, ◌∙◌, subst, arith}
use Rattle.std.proofs.lemmas.Bool.Decides.{nat_tests}
use Rattle.std.proofs.lemmas.List.{with_items_is}
use Rattle.std.specs.Vec.{with_items}
use Rattle.pict_syntax.specs.declared.limits.TheConstants.{NARROW_LIMIT}
use Rattle.pict_queue.specs.QueuesState.{QueuesState}
use Rattle.pict_queue.specs.Contents.{first_words}
use Rattle.pict_blocks.specs.Blocks.{values_in_words, frame_values}
use Rattle.pict_desk.specs.Known.{value_in, value_fields}
use Rattle.pict_desk.specs.Pairs.{IsPair, ArePairs}
use Rattle.pict_turns.proofs.AfterReading.{works_more}
use Rattle.pict_turns.proofs.Held.{has_read}
use Rattle.pict_turns.proofs.reading.read_first_wide.Goals as goal

pub first_word-tag-requires-clause-inside : goal.first_word-tag-requires-clause-inside
first_word-tag-requires-clause-inside c =
    let h = c.requires.holds in
    let e = ap length (h.2 ∙ ap (λ (us : List ℕ). suc h.0 ∷ us) h.3.is) in omega (arith, e)

pub first_word-payload-requires-clause-inside : goal.first_word-payload-requires-clause-inside
first_word-payload-requires-clause-inside c =
    let h = c.requires.holds in
    let same = ap (λ (s : QueuesState). first_words s c.args.queue.0) c.first_word-tag.ensures.rest in
    let e = ap length (same ∙ h.2 ∙ ap (λ (us : List ℕ). suc h.0 ∷ us) h.3.is) in omega (arith, e)

pub read_record-requires-clause-fields : goal.read_record-requires-clause-fields
read_record-requires-clause-fields c =
    let s = c.args.store.now in
    let h = c.requires.holds in
    let r = h.3 in
    let whole : first_words s.queues c.args.queue.0 ≡ suc h.0 ∷ r.pair.0 ∷ r.pair.1 ∷ [] = h.2 ∙ ap (λ (us : List ℕ). suc h.0 ∷ us) r.is in
    let tag : c.first_word-tag.result ≡ r.pair.0 = c.first_word-tag.ensures.word ∙ ap (λ (ws : List ℕ). get_or ws 1 0) whole in
    let payload : c.first_word-payload.result ≡ r.pair.1 =
    c.first_word-payload.ensures.word ∙ ap (λ (x : QueuesState). get_or (first_words x c.args.queue.0) 2 0) c.first_word-tag.ensures.rest ∙ ap (λ (ws : List ℕ). get_or ws 2 0) whole in
    ap (λ (n : ℕ). length (value_fields (value_in s.desk.heap n c.first_word-payload.result))) tag
    ∙ ap (λ (n : ℕ). length (value_fields (value_in s.desk.heap r.pair.0 n))) payload ∙ r.many

pub returns-clause-read : goal.returns-clause-read
returns-clause-read c =
    let s = c.args.store.now in
    let frame = c.args.frame.now in
    let values = c.read_record.new.values in
    let h = c.requires.holds in
    let r = h.3 in
    let first = first_words s.queues c.args.queue.0 in
    let whole : first ≡ suc h.0 ∷ r.pair.0 ∷ r.pair.1 ∷ [] = h.2 ∙ ap (λ (us : List ℕ). suc h.0 ∷ us) r.is in
    let tag : c.first_word-tag.result ≡ r.pair.0 = c.first_word-tag.ensures.word ∙ ap (λ (ws : List ℕ). get_or ws 1 0) whole in
    let payload : c.first_word-payload.result ≡ r.pair.1 =
    c.first_word-payload.ensures.word ∙ ap (λ (x : QueuesState). get_or (first_words x c.args.queue.0) 2 0) c.first_word-tag.ensures.rest ∙ ap (λ (ws : List ℕ). get_or ws 2 0) whole in
    let test : nat_lt NARROW_LIMIT (length frame) ≡ true = let many = c.requires.wide in grind (arith, nat_tests) in
    let before : c.deref_mut.result.now ≡ s.desk.values.items = c.deref_mut.ensures.value in
    let same : length values ≡ length s.desk.values.items = c.read_record.ensures.len ∙ ap length before in
    has_read s c.first_word-payload.new.queues (with_items s.desk.values values) first frame values
    (with_items_is s.desk.values values (same ∙ sym s.desk.values.ok.0))
    (works_more s.queues c.first_word-tag.new.queues c.first_word-payload.new.queues c.first_word-tag.ensures.rest c.first_word-payload.ensures.rest) same
    (c.read_record.ensures.pairs (subst (ArePairs s.desk.heap) (sym before) c.requires.pairs))
    (ap (frame_values (value_in s.desk.heap) (length frame)) (ap (drop 1) h.2 ∙ r.is)
    ∙ ap (λ b. cond b (value_fields (value_in s.desk.heap r.pair.0 r.pair.1)) (values_in_words (value_in s.desk.heap) (r.pair.0 ∷ r.pair.1 ∷ []))) test
    ∙ ap (λ (n : ℕ). value_fields (value_in s.desk.heap n r.pair.1)) (sym tag) ∙ ap (λ (n : ℕ). value_fields (value_in s.desk.heap c.first_word-tag.result n)) (sym payload)
    ∙ sym c.read_record.ensures.read)
    (λ few. let many = c.requires.wide in absurd (omega (arith, few, many)))

pub read_record-requires-clause-pair : goal.read_record-requires-clause-pair
read_record-requires-clause-pair c =
    let s = c.args.store.now in
    let h = c.requires.holds in
    let r = h.3 in
    let whole : first_words s.queues c.args.queue.0 ≡ suc h.0 ∷ r.pair.0 ∷ r.pair.1 ∷ [] = h.2 ∙ ap (λ (us : List ℕ). suc h.0 ∷ us) r.is in
    let tag : c.first_word-tag.result ≡ r.pair.0 = c.first_word-tag.ensures.word ∙ ap (λ (ws : List ℕ). get_or ws 1 0) whole in
    let payload : c.first_word-payload.result ≡ r.pair.1 =
    c.first_word-payload.ensures.word ∙ ap (λ (x : QueuesState). get_or (first_words x c.args.queue.0) 2 0) c.first_word-tag.ensures.rest ∙ ap (λ (ws : List ℕ). get_or ws 2 0) whole in
    subst (λ (n : ℕ). IsPair s.desk.heap (n, c.first_word-payload.result)) (sym tag) (subst (λ (n : ℕ). IsPair s.desk.heap (r.pair.0, n)) (sym payload) r.word)
