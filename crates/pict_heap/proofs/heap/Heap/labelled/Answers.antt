use Rattle.std.proofs.Common.{◌∙◌, ap, sym, subst}
use Rattle.std.specs.List.{slice_range}
use Rattle.pict_heap.specs.HeapState.{IsWord, word_with_label}
use Rattle.pict_heap.specs.Layout.{AreRising}
use Rattle.pict_heap.proofs.Look.{record_read, labelled_read, found_labelled}
use Rattle.pict_heap.proofs.heap.Heap.labelled.Goals as goal

pub returns-in-Fields-clause-value : goal.returns-in-Fields-clause-value
returns-in-Fields-clause-value c =
    let reads = record_read c.self.inside _ _ _ _ c.self.view_is c.self.invariant c.requires c.in-Fields.is c.index.ensures in
    labelled_read c.self.inside _ _ _ _ _ _ reads c.in-Fields.is (c.with_label.ensures ∙ ap (λ ws. word_with_label c.args.l.0 (slice_range ws c.index.result.now.labelled.start c.index.result.now.labelled.end)) c.deref.ensures.value ∙ reads.index.same c.args.l.0)

pub returns-in-Fields-clause-word : goal.returns-in-Fields-clause-word
returns-in-Fields-clause-word c =
    let reads = record_read c.self.inside _ _ _ _ c.self.view_is c.self.invariant c.requires c.in-Fields.is c.index.ensures in
    found_labelled (IsWord c.args.self.now) _ _ _ reads.labelled (c.with_label.ensures ∙ ap (λ ws. word_with_label c.args.l.0 (slice_range ws c.index.result.now.labelled.start c.index.result.now.labelled.end)) c.deref.ensures.value ∙ reads.index.same c.args.l.0)

pub with_label-requires : goal.with_label-requires
with_label-requires c =
    let reads = record_read c.self.inside _ _ _ _ c.self.view_is c.self.invariant c.requires c.in-Fields.is c.index.ensures in
    let slice = c.index.result.now.labelled in
    subst (λ ws. AreRising (slice_range ws slice.start slice.end)) (sym c.deref.ensures.value) reads.index.rising
