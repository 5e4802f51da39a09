use Rattle.std.proofs.Common.{rules}
use Rattle.std.proofs.lemmas.List.Sorted.{answers_always}
use Rattle.pict_heap.proofs.Index.{none_between, key_found}
use Rattle.pict_heap.specs.Layout.{label_of, no_field}
use Rattle.pict_heap.proofs.heap.with_label.Goals as goal

pub returns-in-Ok : goal.returns-in-Ok
returns-in-Ok c =
    let found = c.in-Ok.ensures.position label_of (answers_always _ _ _ (λ f a r g called. search rules)) in
    key_found c.args.fields.now c.in-Ok.place c.args.label.0 c.requires c.in-Ok.ensures.bound (found no_field)

pub returns-in-Err : goal.returns-in-Err
returns-in-Err c =
    let parted = c.in-Err.ensures.position label_of (answers_always _ _ _ (λ f a r g called. search rules)) in
    none_between c.args.fields.now c.in-Err.field-0 c.args.label.0 c.requires parted
