use Rattle.std.proofs.Common.{◌≡◌, inl, inr, Some, slice_get, sym, ap, ◌∙◌, subst, get_or, arith}
use Rattle.std.proofs.lemmas.Bool.{cases_lt, eq-eqb}
use Rattle.pict_core.specs.declared.value.CoreVal.{CoreVal}
use Rattle.pict_syntax.specs.declared.name.Name.{Name}
use Rattle.pict_shapes.specs.Fitting.{labels_in}
use Rattle.pict_shapes.proofs.Matched.{label_is}
use Rattle.pict_shapes.proofs.matching.place_between.Goals as goal

pub loop-place-preserved : goal.loop-place-preserved
loop-place-preserved c k low less e = elim (cases_lt k c.loop-place.place) [
  | inl earlier ↦ c.loop-place.invariant k low earlier e
  | inr late ↦
      let fs = c.args.fields.now in
      let f = c.index-fields-place.result in
      let last : k ≡ c.loop-place.place = omega (arith, late, less) in
      let same = label_is fs c.loop-place.place c.args.label.0 f c.index-fields-place.is (subst (λ j. slice_get (labels_in fs) j ≡ Some c.args.label.0) last e) in
      let both = c.if-eq.ensures ∙ eq-eqb (get_or fs c.loop-place.place f).0.0 c.args.label.0 (ap (λ (x : Name × CoreVal). x.0.0) (sym c.index-fields-place.is) ∙ same) in
      cc
]
