use Rattle.std.proofs.Common.{◌+◌, ◌-◌, List, eqb, length, map, take, drop, ap, subst, sym, ◌∙◌, arith}
use Rattle.std.specs.List.{All, IsDistinct}
use Rattle.pict_syntax.specs.declared.name.Name.{Name}
use Rattle.pict_heap.specs.HeapState.{IsWord, UsesRoom, record_of}
use Rattle.pict_heap.specs.declared.word.Word.{Word}
use Rattle.pict_desk.proofs.Recording.{slice_at}
use Rattle.pict_desk.proofs.operands.close_record.Goals as goal

pub add_record-made-requires-clause-fields : goal.add_record-made-requires-clause-fields
add_record-made-requires-clause-fields c =
    let words = ap length (slice_at c.args.words c.deref.result.now c.args.pending.now.words.items c.deref.ensures.value) in
    let labels = ap length (slice_at c.args.labels c.deref-2.result.now c.args.pending.now.labelled.items c.deref-2.ensures.value) in
    omega (arith, words, labels, c.requires.fields)

pub add_record-made-requires-clause-countable : goal.add_record-made-requires-clause-countable
add_record-made-requires-clause-countable c =
    let words = ap length (slice_at c.args.words c.deref.result.now c.args.pending.now.words.items c.deref.ensures.value) in
    omega (arith, words, c.requires.countable)

pub add_record-made-requires-clause-words : goal.add_record-made-requires-clause-words
add_record-made-requires-clause-words c =
    subst (All (IsWord c.args.heap.now)) (sym (slice_at c.args.words c.deref.result.now c.args.pending.now.words.items c.deref.ensures.value)) c.requires.are

pub add_record-made-requires-clause-labelled_words : goal.add_record-made-requires-clause-labelled_words
add_record-made-requires-clause-labelled_words c =
    subst (All (λ (f : Name × Word). IsWord c.args.heap.now f.1)) (sym (slice_at c.args.labels c.deref-2.result.now c.args.pending.now.labelled.items c.deref-2.ensures.value)) c.requires.are_labelled

pub add_record-made-requires-clause-distinct : goal.add_record-made-requires-clause-distinct
add_record-made-requires-clause-distinct c =
    subst (λ (fs : List (Name × Word)). IsDistinct eqb (map (λ (f : Name × Word). f.0.0) fs)) (sym (slice_at c.args.labels c.deref-2.result.now c.args.pending.now.labelled.items c.deref-2.ensures.value)) c.requires.distinct

pub returns-clause-value : goal.returns-clause-value
returns-clause-value c =
    c.add_record-made.ensures.value
    ∙ ap (λ ws. record_of c.args.heap.now ws (take (length c.deref-2.result.now - c.args.labels) (drop c.args.labels c.deref-2.result.now))) (slice_at c.args.words c.deref.result.now c.args.pending.now.words.items c.deref.ensures.value)
    ∙ ap (record_of c.args.heap.now (drop c.args.words c.args.pending.now.words.items)) (slice_at c.args.labels c.deref-2.result.now c.args.pending.now.labelled.items c.deref-2.ensures.value)

pub returns-clause-used : goal.returns-clause-used
returns-clause-used c =
    let words = ap length (slice_at c.args.words c.deref.result.now c.args.pending.now.words.items c.deref.ensures.value) in
    let labels = ap length (slice_at c.args.labels c.deref-2.result.now c.args.pending.now.labelled.items c.deref-2.ensures.value) in
    subst (λ k. UsesRoom c.args.heap.now.room c.add_record-made.new.self.room 1 k 0 0)
    (ap (λ k. k + length (take (length c.deref-2.result.now - c.args.labels) (drop c.args.labels c.deref-2.result.now))) words ∙ ap (λ k. length (drop c.args.words c.args.pending.now.words.items) + k) labels)
    c.add_record-made.ensures.room
