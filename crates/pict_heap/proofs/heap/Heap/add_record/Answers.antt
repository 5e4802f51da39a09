use Rattle.std.proofs.Common.{◌≡◌, ◌∙◌, ◌+◌, length, take, drop, refl, ap, subst, arith}
use Rattle.std.specs.List.Sorted.{IsPermutation}
use Rattle.pict_heap.proofs.Index.{tail_sorted}
use Rattle.pict_heap.specs.declared.heap.Heap.TheInside.{Inside}
use Rattle.pict_heap.proofs.Growth.{AddsRecord, record_added, kept_by_record, new_record, given_words}
use Rattle.pict_heap.proofs.heap.Heap.add_record.Goals as goal

after : (c : goal.After-push_reserved) → Inside
after c = record {
  bytes = c.self.inside.bytes;
  texts = c.self.inside.texts;
  words = c.append-positional.new.list;
  labelled = c.append-labelled.new.list;
  sorted = c.sort_from.new.list;
  records = c.push_reserved.new.self;
}

adds : (c : goal.After-push_reserved) → AddsRecord c.self.inside (after c) (record { positional = c.args.positional.now; labelled = c.args.labelled.now })
unfolding after
adds c =
    let words : c.self.inside.words.len ≡ length c.self.inside.words.items = c.self.inside.words.ok.0 in
    let labels : c.self.inside.labelled.len ≡ length c.self.inside.labelled.items = c.self.inside.labelled.ok.0 in
    let start : c.append-by_label.result.start ≡ length c.self.inside.sorted.items = ap (λ p. p.start) c.append-by_label.ensures.slice ∙ c.self.inside.sorted.ok.0 in
    let tail = tail_sorted c.self.inside.sorted.items c.sort_from.new.list.items c.args.labelled.now c.append-by_label.result.start start
    (c.sort_from.ensures.before ∙ ap (take c.append-by_label.result.start) c.append-by_label.ensures.items)
    (subst (λ fs. IsPermutation (drop c.append-by_label.result.start fs) (drop c.append-by_label.result.start c.sort_from.new.list.items)) c.append-by_label.ensures.items c.sort_from.ensures.after)
    c.sort_from.ensures.sorted c.requires.distinct in
    record_added c.self.inside (after c) c.args.positional.now c.args.labelled.now (drop c.append-by_label.result.start c.sort_from.new.list.items) c.append-positional.result c.append-labelled.result c.self.invariant
    (given_words c.self.inside _ c.args.positional.now c.args.labelled.now c.self.view_is c.requires.words c.requires.labelled_words) c.requires.countable
    c.append-positional.ensures.items
    (ap (λ p. p.start) c.append-positional.ensures.slice ∙ words)
    (ap (λ p. p.end) c.append-positional.ensures.slice ∙ ap (λ n. n + length c.args.positional.now) words)
    c.append-labelled.ensures.items
    (ap (λ p. p.start) c.append-labelled.ensures.slice ∙ labels)
    (ap (λ p. p.end) c.append-labelled.ensures.slice ∙ ap (λ n. n + length c.args.labelled.now) labels)
    c.push_reserved.ensures.items refl refl tail.whole tail.in_order tail.as_many

pub invariant_of-self : goal.invariant_of-self
unfolding after
invariant_of-self c = (adds c).sound

pub returns-clause-value : goal.returns-clause-value
unfolding after
returns-clause-value c =
    let records : c.self.inside.records.len ≡ length c.self.inside.records.items = c.self.inside.records.ok.0 in
    new_record c.self.inside (after c) _ c.len-number.result _ c.self.view_is (adds c) (c.len-number.ensures ∙ records)

pub returns-clause-keeps : goal.returns-clause-keeps
unfolding after
returns-clause-keeps c = kept_by_record c.self.inside (after c) _ _ c.self.view_is c.self.invariant (adds c)

pub append-by_label-requires : goal.append-by_label-requires
append-by_label-requires c = omega (arith, c.requires.fields, ap (λ h. h.room.fields) c.self.view_is, c.self.inside.sorted.ok)
