use Rattle.std.proofs.Common.{ℕ, suc, ◌≡◌, true, nat_lt, cond, List, [], ◌∷◌, length, drop, sym, ap, ◌∙◌, subst, arith}
use Rattle.std.proofs.lemmas.Bool.Decides.{nat_tests}
use Rattle.std.proofs.lemmas.List.{with_items_is}
use Rattle.std.specs.Vec.{with_items}
use Rattle.pict_syntax.specs.declared.limits.TheConstants.{NARROW_LIMIT}
use Rattle.pict_queue.specs.Contents.{held_words}
use Rattle.pict_region.specs.RegionState.{words_of}
use Rattle.pict_blocks.specs.Blocks.{values_in_words, frame_values}
use Rattle.pict_desk.specs.Known.{value_in, value_fields}
use Rattle.pict_desk.specs.Pairs.{IsPair, ArePairs}
use Rattle.pict_blocks.proofs.Written.{works_of}
use Rattle.pict_blocks.proofs.WordsHeld.{pair_behind, whole_length, has_read_frame}
use Rattle.pict_blocks.proofs.reading.read_wide.Goals as goal

pub get_pair-pair-requires-clause-inside : goal.get_pair-pair-requires-clause-inside
get_pair-pair-requires-clause-inside c =
    let h = c.requires.holds in
    let r = h.3 in
    let long = whole_length (words_of c.args.queues.now.region c.args.block.now) (suc h.0) (r.pair.0 ∷ r.pair.1 ∷ []) (h.2 ∙ ap (λ (us : List ℕ). suc h.0 ∷ us) r.is) in
    omega (arith, long)

pub read_record-requires-clause-pair : goal.read_record-requires-clause-pair
read_record-requires-clause-pair c =
    let d = c.args.desk.now in
    let h = c.requires.holds in
    let r = h.3 in
    let pair = c.get_pair-pair.result in
    let p = pair_behind (words_of c.args.queues.now.region c.args.block.now) h.0 r.pair.0 r.pair.1 (h.2 ∙ ap (λ (us : List ℕ). suc h.0 ∷ us) r.is) in
    let tag : pair.0 ≡ r.pair.0 = c.get_pair-pair.ensures.first ∙ p.0 in
    let payload : pair.1 ≡ r.pair.1 = c.get_pair-pair.ensures.second ∙ p.1 in
    subst (λ (n : ℕ). IsPair d.heap (n, pair.1)) (sym tag) (subst (λ (n : ℕ). IsPair d.heap (r.pair.0, n)) (sym payload) r.word)

pub read_record-requires-clause-fields : goal.read_record-requires-clause-fields
read_record-requires-clause-fields c =
    let d = c.args.desk.now in
    let h = c.requires.holds in
    let r = h.3 in
    let pair = c.get_pair-pair.result in
    let p = pair_behind (words_of c.args.queues.now.region c.args.block.now) h.0 r.pair.0 r.pair.1 (h.2 ∙ ap (λ (us : List ℕ). suc h.0 ∷ us) r.is) in
    let tag : pair.0 ≡ r.pair.0 = c.get_pair-pair.ensures.first ∙ p.0 in
    let payload : pair.1 ≡ r.pair.1 = c.get_pair-pair.ensures.second ∙ p.1 in
    ap (λ (n : ℕ). length (value_fields (value_in d.heap n pair.1))) tag ∙ ap (λ (n : ℕ). length (value_fields (value_in d.heap r.pair.0 n))) payload ∙ r.many

pub returns-clause-read : goal.returns-clause-read
returns-clause-read c =
    let d = c.args.desk.now in
    let frame = c.args.frame.now in
    let values = c.read_record.new.values in
    let h = c.requires.holds in
    let r = h.3 in
    let pair = c.get_pair-pair.result in
    let p = pair_behind (words_of c.args.queues.now.region c.args.block.now) h.0 r.pair.0 r.pair.1 (h.2 ∙ ap (λ (us : List ℕ). suc h.0 ∷ us) r.is) in
    let tag : pair.0 ≡ r.pair.0 = c.get_pair-pair.ensures.first ∙ p.0 in
    let payload : pair.1 ≡ r.pair.1 = c.get_pair-pair.ensures.second ∙ p.1 in
    let test : nat_lt NARROW_LIMIT (length frame) ≡ true = let many = c.requires.wide in grind (arith, nat_tests) in
    let before : c.deref_mut.result.now ≡ d.values.items = c.deref_mut.ensures.value in
    let same : length values ≡ length d.values.items = c.read_record.ensures.len ∙ ap length before in
    has_read_frame d (with_items d.values values) (held_words c.args.queues.now.region c.args.block.now) frame values
    (with_items_is d.values values (same ∙ sym d.values.ok.0))
    same
    (c.read_record.ensures.pairs (subst (ArePairs d.heap) (sym before) c.requires.pairs))
    (ap (frame_values (value_in d.heap) (length frame)) (ap (drop 1) h.2 ∙ r.is)
    ∙ ap (λ b. cond b (value_fields (value_in d.heap r.pair.0 r.pair.1)) (values_in_words (value_in d.heap) (r.pair.0 ∷ r.pair.1 ∷ []))) test
    ∙ ap (λ (n : ℕ). value_fields (value_in d.heap n r.pair.1)) (sym tag) ∙ ap (λ (n : ℕ). value_fields (value_in d.heap pair.0 n)) (sym payload)
    ∙ sym c.read_record.ensures.read)
    (λ few. let many = c.requires.wide in absurd (omega (arith, few, many)))

pub returns-clause-rest : goal.returns-clause-rest
returns-clause-rest c = works_of c.args.queues.now c.get_pair-pair.new.self _ c.get_pair-pair.ensures.rest
