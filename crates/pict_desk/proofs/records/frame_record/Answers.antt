use Rattle.std.proofs.Common.{◌∙◌, map, refl, sym, ap, subst, get_or}
use Rattle.std.proofs.lemmas.List.Elements.{All-from_recursion}
use Rattle.std.specs.List.{All, IsDistinct}
use Rattle.pict_core.specs.Plain.{vals_of}
use Rattle.pict_heap.specs.HeapState.{value_of, IsWord}
use Rattle.pict_desk.specs.Known.{known, list_of_vals, value_fields}
use Rattle.pict_desk.proofs.Making.{pair_packed, level_piled, take_whole}
use Rattle.pict_desk.proofs.Pairs.{value_packed}
use Rattle.pict_desk.proofs.Reading.{list_back}
use Rattle.pict_desk.proofs.Recording.{slice_top}
use Rattle.pict_desk.proofs.records.frame_record.Goals as goal

pub word_at-word-requires : goal.word_at-word-requires
word_at-word-requires c = pair_packed c.args.heap.now c.args.values.now c.requires.pairs _

pub loop-level-preserved : goal.loop-level-preserved
loop-level-preserved c =
    level_piled c.args.heap.now c.args.values.now c.args.frame.now c.loop-level.level-index (get_or c.args.frame.now c.loop-level.level-index 0) c.args.pending.now c.loop-level.pending
    (record c.loop-level.pending { words = c.push_reserved.new.self }) c.word_at-word.result c.requires.pairs c.loop-level-test.true refl c.word_at-word.ensures
    c.loop-level.invariant c.push_reserved.ensures.items c.push_reserved.ensures.capacity refl

pub add_record-made-requires-clause-words : goal.add_record-made-requires-clause-words
add_record-made-requires-clause-words c =
    let piled = c.loop-level.invariant in
    let top = slice_top c.len-start.result c.deref.result.now c.args.pending.now.words.items piled.made (c.len-start.ensures ∙ c.args.pending.now.words.ok.0) (c.deref.ensures.value ∙ piled.words) in
    subst (All (IsWord c.args.heap.now)) (sym top) (All-from_recursion (IsWord c.args.heap.now) piled.made piled.are)

pub add_record-made-requires-clause-distinct : goal.add_record-made-requires-clause-distinct
unfolding IsDistinct
add_record-made-requires-clause-distinct c = tt

pub returns-clause-fields : goal.returns-clause-fields
returns-clause-fields c =
    let piled = c.loop-level.invariant in
    let top = slice_top c.len-start.result c.deref.result.now c.args.pending.now.words.items piled.made (c.len-start.ensures ∙ c.args.pending.now.words.ok.0) (c.deref.ensures.value ∙ piled.words) in
    ap value_fields (value_packed c.add_record-made.new.self c.add_record-made.result c.pack.result c.pack.ensures.fits (sym c.pack.ensures.pair) ∙ c.add_record-made.ensures.value)
    ∙ ap (λ ws. list_of_vals (vals_of (map (value_of c.args.heap.now) ws))) top
    ∙ list_back (map (value_of c.args.heap.now) piled.made)
    ∙ piled.stand
    ∙ ap (map (known c.args.heap.now c.args.values.now)) (take_whole c.args.frame.now c.loop-level.level-index c.loop-level-test.false)
