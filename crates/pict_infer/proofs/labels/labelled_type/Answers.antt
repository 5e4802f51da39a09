-- The search compares with the label, and the comparisons rise.
use Rattle.std.proofs.Common.{rules}
use Rattle.std.proofs.lemmas.Fn.{always_returns_same}
use Rattle.pict_syntax.specs.declared.name.Name.{Name}
use Rattle.pict_syntax.specs.Labels.{label_cmp}
use Rattle.pict_syntax.proofs.LabelLemmas.{equal_labels}
use Rattle.pict_types.specs.declared.types.Ty.{Ty}
use Rattle.pict_infer.proofs.LabelPlaces.{label_absent, label_at, labels_rise}
use Rattle.pict_infer.proofs.labels.labelled_type.Goals as goal

pub returns-in-Ok-clause-some : goal.returns-in-Ok-clause-some
returns-in-Ok-clause-some c =
    let ns = c.args.names.now in
    let l = c.args.label.0 in
    let fs = c.args.fields.now in
    let d = c.index-fields-at.result in
    let equal = c.in-Ok.ensures.position (λ (f : Name × Ty). label_cmp ns f.0.0 l) (always_returns_same _ _ _ (λ a r f k. search rules)) in
    label_at ns l c.in-Ok.at fs d c.requires.ordered c.in-Ok.ensures.bound (equal_labels ns _ l (equal d))

pub returns-in-Err-clause-none : goal.returns-in-Err-clause-none
returns-in-Err-clause-none c =
    let ns = c.args.names.now in
    let l = c.args.label.0 in
    let fs = c.args.fields.now in
    let parted = c.in-Err.ensures.position (λ (f : Name × Ty). label_cmp ns f.0.0 l) (always_returns_same _ _ _ (λ a r f k. search rules)) in
    label_absent ns l c.in-Err.field-0 fs (parted (labels_rise ns l fs c.requires.ordered))
