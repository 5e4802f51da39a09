use Rattle.std.proofs.Common.{◌∙◌, ap}
use Rattle.std.specs.List.{slice_get, slice_range}
use Rattle.pict_heap.specs.HeapState.{IsWord}
use Rattle.pict_heap.proofs.Look.{record_read, positional_read, found_word}
use Rattle.pict_heap.proofs.heap.Heap.positional.Goals as goal

pub returns-in-Fields-clause-value : goal.returns-in-Fields-clause-value
returns-in-Fields-clause-value c =
    let reads = record_read c.self.inside _ _ _ _ c.self.view_is c.self.invariant c.requires c.in-Fields.is c.index.ensures in
    positional_read c.self.inside _ _ _ _ _ _ reads c.in-Fields.is (c.item.ensures ∙ ap (λ ws. slice_get (slice_range ws c.index.result.now.positional.start c.index.result.now.positional.end) c.args.i) c.deref.ensures.value)

pub returns-in-Fields-clause-word : goal.returns-in-Fields-clause-word
returns-in-Fields-clause-word c =
    let reads = record_read c.self.inside _ _ _ _ c.self.view_is c.self.invariant c.requires c.in-Fields.is c.index.ensures in
    found_word (IsWord c.args.self.now) _ _ _ reads.positional (c.item.ensures ∙ ap (λ ws. slice_get (slice_range ws c.index.result.now.positional.start c.index.result.now.positional.end) c.args.i) c.deref.ensures.value)
