use Rattle.std.proofs.Common.{◌≡◌, ◌∙◌, refl, ap, length, ◌+◌}
use Rattle.pict_heap.specs.declared.heap.Heap.TheInside.{Inside}
use Rattle.pict_heap.proofs.Growth.{AddsText, text_added, kept_by_text}
use Rattle.pict_heap.proofs.heap.Heap.add_text.Goals as goal

after : (c : goal.After-push_reserved) → Inside
after c = record {
  bytes = c.append-text.new.list;
  texts = c.push_reserved.new.self;
  words = c.self.inside.words;
  labelled = c.self.inside.labelled;
  sorted = c.self.inside.sorted;
  records = c.self.inside.records;
}

adds : (c : goal.After-push_reserved) → AddsText c.self.inside (after c) c.args.bytes.now
unfolding after
adds c =
    let len : c.self.inside.bytes.len ≡ length c.self.inside.bytes.items = c.self.inside.bytes.ok.0 in
    text_added c.self.inside (after c) c.args.bytes.now c.append-text.result c.self.invariant c.append-text.ensures.items
    (ap (λ p. p.start) c.append-text.ensures.slice ∙ len)
    (ap (λ p. p.end) c.append-text.ensures.slice ∙ ap (λ n. n + length c.args.bytes.now) len)
    c.push_reserved.ensures.items refl refl refl refl

pub invariant_of-self : goal.invariant_of-self
unfolding after
invariant_of-self c = (adds c).sound

pub returns-clause-keeps : goal.returns-clause-keeps
unfolding after
returns-clause-keeps c = kept_by_text c.self.inside (after c) _ c.args.bytes.now c.self.view_is c.self.invariant (adds c)
