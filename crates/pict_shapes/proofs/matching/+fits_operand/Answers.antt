use Rattle.std.proofs.Common.{rules, ◌≡◌, ◌<◌, ◌+◌, length, map, drop, cond, false, refl, sym, ap, ◌∙◌, subst, arith}
use Rattle.pict_code.specs.Plain.{plain_pat}
use Rattle.pict_code.specs.ReadBack.{unleveled}
use Rattle.pict_code.specs.declared.pattern.CodePat.{the_lemmas}
use Rattle.pict_core.specs.Closed.{IsOver}
use Rattle.pict_core.specs.Matching.{match_value, match_labelled}
use Rattle.pict_core.specs.Plain.{plain_val, plain_field, vals_of, labelled_of}
use Rattle.pict_core.specs.Term.{Record}
use Rattle.pict_core.specs.declared.value.CoreVal.{CoreVal}
use Rattle.pict_desk.specs.Arguments.{operand_in}
use Rattle.pict_syntax.specs.declared.name.Name.{Name}
use Rattle.pict_desk.proofs.Making.{over_at, labelled_over_at}
use Rattle.pict_desk.proofs.Recording.{record_val}
use Rattle.pict_shapes.specs.Fitting.{is_found, values_in, fields_in}
use Rattle.pict_shapes.proofs.Found.{labels, pattern_found}
use Rattle.pict_shapes.proofs.Matched.{record_in, not_even, label_there, no_label_there}
use Rattle.pict_shapes.proofs.matching.+fits_operand.Goals as goal

-- ---- fields with labels

pub fits_fields-fits_operand-requires : goal.fits_fields-fits_operand-requires
fits_fields-fits_operand-requires t c = (
  search (rules, the_lemmas),
  (
    subst (λ (f : Name × CoreVal). IsOver (length c.args.values.now) 0 (plain_val f.1)) c.index-fields-place.is
        (labelled_over_at (length c.args.values.now) c.args.fields.now c.in-Some.place c.index-fields-place.result c.in-Some.ensures.within c.index-fields-place.is c.requires.over),
    c.requires.pairs,
  ),
)

pub fits_fields-returns-then-not-fits_operand : goal.fits_fields-returns-then-not-fits_operand
fits_fields-returns-then-not-fits_operand t c =
    let l = c.loop-part in
    let here = c.fits_operand.ensures ∙ ap (λ (f : Name × CoreVal). is_found (match_value (unleveled (plain_pat c.part-item.result.1)) (operand_in c.args.heap.now c.args.values.now (plain_val f.1)))) (sym c.index-fields-place.is) in
    sym (l.invariant.so_far
    ∙ label_there c.args.heap.now c.args.values.now c.args.patterns.now c.args.fields.now l.part-index c.part-item.result c.loop-part-test.true c.part-item.is c.in-Some.place c.index-fields-place.result c.requires.distinct c.in-Some.ensures.some c.index-fields-place.is
    ∙ ap (λ b. cond b (is_found (match_labelled (labels (drop (l.part-index + 1) c.args.patterns.now)) (fields_in c.args.heap.now c.args.values.now c.args.fields.now))) false) (sym here ∙ c.if-not-fits_operand.true))

pub fits_fields-returns-in-None : goal.fits_fields-returns-in-None
fits_fields-returns-in-None t c =
    let l = c.loop-part in
    sym (l.invariant.so_far
    ∙ no_label_there c.args.heap.now c.args.values.now c.args.patterns.now c.args.fields.now l.part-index c.part-item.result c.loop-part-test.true c.part-item.is (c.place_of.ensures.none c.in-None.is))

pub fits_fields-loop-part-preserved : goal.fits_fields-loop-part-preserved
fits_fields-loop-part-preserved t c =
    let l = c.loop-part in
    let here = c.fits_operand.ensures ∙ ap (λ (f : Name × CoreVal). is_found (match_value (unleveled (plain_pat c.part-item.result.1)) (operand_in c.args.heap.now c.args.values.now (plain_val f.1)))) (sym c.index-fields-place.is) in
    record {
      from = let low = c.in-Some.ensures.within in omega (arith, low);
      so_far = l.invariant.so_far
          ∙ label_there c.args.heap.now c.args.values.now c.args.patterns.now c.args.fields.now l.part-index c.part-item.result c.loop-part-test.true c.part-item.is c.in-Some.place c.index-fields-place.result c.requires.distinct c.in-Some.ensures.some c.index-fields-place.is
          ∙ ap (λ b. cond b (is_found (match_labelled (labels (drop (l.part-index + 1) c.args.patterns.now)) (fields_in c.args.heap.now c.args.values.now c.args.fields.now))) false) (sym here ∙ c.if-not-fits_operand.false);
    }

-- ---- a record

pub fits_operand-fits_operands-requires : goal.fits_operand-fits_operands-requires
fits_operand-fits_operands-requires t c =
    let r = c.in-Fields-operand in
    let is = record_val c.args.operand.now r.operands r.fields c.deref-in-Fields-operand.result.now r.fields.items r.is c.deref-in-Fields-operand.ensures.value refl in
    let over : IsOver (length c.args.values.now) 0 (Record (vals_of (map plain_val c.deref-in-Fields-operand.result.now)) (labelled_of (map plain_field r.fields.items))) = subst (IsOver (length c.args.values.now) 0) is c.requires.over in
    (search (rules, the_lemmas), (over.0, c.requires.pairs))

pub fits_operand-fits_fields-requires : goal.fits_operand-fits_fields-requires
fits_operand-fits_fields-requires t c =
    let r = c.in-Fields-operand in
    let is = record_val c.args.operand.now r.operands r.fields r.operands.items c.deref-then-fits_operands-2.result.now r.is refl c.deref-then-fits_operands-2.ensures.value in
    let over : IsOver (length c.args.values.now) 0 (Record (vals_of (map plain_val r.operands.items)) (labelled_of (map plain_field c.deref-then-fits_operands-2.result.now))) = subst (IsOver (length c.args.values.now) 0) is c.requires.over in
    (search (rules, the_lemmas), (over.1, (over.2, c.requires.pairs)))

pub fits_operand-fits-requires : goal.fits_operand-fits-requires
fits_operand-fits-requires t c = record { word = (c.in-Some.ensures.word c.args.heap.now c.requires.pairs).word }

pub fits_operand-returns-then-fits_operands : goal.fits_operand-returns-then-fits_operands
fits_operand-returns-then-fits_operands t c =
    let r = c.in-Fields-operand in
    let h = c.args.heap.now in
    let values = c.args.values.now in
    let ps = c.deref.result.now in
    let ls = c.deref-then-fits_operands.result.now in
    let os = c.deref-in-Fields-operand.result.now in
    let fs = c.deref-then-fits_operands-2.result.now in
    c.fits_fields.ensures
    ∙ sym (ap (λ v. is_found (match_value (unleveled (plain_pat c.args.pattern.now)) v)) (record_in h values c.args.operand.now r.operands r.fields os fs r.is c.deref-in-Fields-operand.ensures.value c.deref-then-fits_operands-2.ensures.value)
    ∙ pattern_found c.args.pattern.now c.in-Fields.positional c.in-Fields.labelled ps ls c.in-Fields.is c.deref.ensures.value c.deref-then-fits_operands.ensures.value (Record (values_in h values os) (fields_in h values fs))
    ∙ ap (λ b. cond b (is_found (match_labelled (labels ls) (fields_in h values fs))) false) (sym c.fits_operands.ensures ∙ c.if-fits_operands.true))

pub fits_operand-returns-else-fits_operands : goal.fits_operand-returns-else-fits_operands
fits_operand-returns-else-fits_operands t c =
    let r = c.in-Fields-operand in
    let h = c.args.heap.now in
    let values = c.args.values.now in
    let ps = c.deref.result.now in
    let os = c.deref-in-Fields-operand.result.now in
    sym (ap (λ v. is_found (match_value (unleveled (plain_pat c.args.pattern.now)) v)) (record_in h values c.args.operand.now r.operands r.fields os r.fields.items r.is c.deref-in-Fields-operand.ensures.value refl)
    ∙ pattern_found c.args.pattern.now c.in-Fields.positional c.in-Fields.labelled ps c.in-Fields.labelled.items c.in-Fields.is c.deref.ensures.value refl (Record (values_in h values os) (fields_in h values r.fields.items))
    ∙ ap (λ b. cond b (is_found (match_labelled (labels c.in-Fields.labelled.items) (fields_in h values r.fields.items))) false) (sym c.fits_operands.ensures ∙ c.if-fits_operands.false))

-- ---- positional fields

pub fits_operands-returns-then-patterns-operands : goal.fits_operands-returns-then-patterns-operands
fits_operands-returns-then-patterns-operands t c = sym (not_even c.args.heap.now c.args.values.now c.args.patterns.now c.args.operands.now c.if-patterns-operands.true)

pub fits_operands-fits_operand-requires : goal.fits_operands-fits_operand-requires
fits_operands-fits_operand-requires t c =
    let same : length c.args.patterns.now ≡ length c.args.operands.now = c.if-patterns-operands.false in
    let low : c.loop-i.i < length c.args.operands.now = omega (arith, same, c.loop-i-test.true) in (
      search (rules, the_lemmas),
      (over_at (length c.args.values.now) c.args.operands.now c.loop-i.i c.index-operands-i.result low c.index-operands-i.is c.requires.over, c.requires.pairs),
    )
