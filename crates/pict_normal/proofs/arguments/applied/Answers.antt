-- The body with its arguments measures what it does over their measures, and is built where that is within the limits.
use Rattle.pict_syntax.specs.declared.limits.TheConstants.{HEIGHT_LIMIT, WEIGHT_LIMIT}
use Rattle.std.proofs.Common.{◌≡◌, ◌≤◌, ◌∙◌, length, map, refl, sym, ap, ap₂, arith}
use Rattle.pict_types.specs.Types.{PlainTypes, count_types}
use Rattle.pict_types.specs.Filling.{put_for}
use Rattle.pict_normal.specs.Made.{AreArguments, IsReason, kept_of}
use Rattle.pict_types.specs.Measures.{weigh, weights, rise, heights}
use Rattle.pict_types.specs.Plain.{plain, plain_types}
use Rattle.pict_types.specs.PlainContext.{type_context}
use Rattle.pict_types.specs.Around.{weights_inside, heights_inside}
use Rattle.pict_types.specs.Replacing.{fill}
use Rattle.pict_normal.proofs.Applied.{body_built}
use Rattle.pict_normal.proofs.Behind.{applied_weighs, applied_rises}
use Rattle.pict_normal.proofs.Making.{passed_on, reason_by}
use Rattle.pict_normal.proofs.Operating.{arguments_count}
use Rattle.pict_normal.proofs.arguments.applied.Goals as goal

pub returns-in_err-measures-clause-reason : goal.returns-in_err-measures-clause-reason
returns-in_err-measures-clause-reason c =
    let err = c.in_err-measures.field-0.0 in
    passed_on (λ e. (us : PlainTypes) → AreArguments (weights_inside c.args.inner.now (weights (type_context c.args.c.now))) (heights_inside c.args.inner.now (heights (type_context c.args.c.now))) c.args.args.now us → IsReason (weigh (weights_inside c.args.inner.now (weights (type_context c.args.c.now))) (fill (put_for us c.args.by) (plain c.args.body.now))) e) c.from_residual-in_err-measures.result err c.from_residual-in_err-measures.ensures.1 (λ us x.
    let ms = c.args.inner.now in
    let ws = weights (type_context c.args.c.now) in
    let hs = heights (type_context c.args.c.now) in
    let body = plain c.args.body.now in
    let kept = ap plain_types c.deref.ensures.value ∙ x.kept in
    let count = ap length c.as_slice.ensures.value ∙ arguments_count c.args.args.now x in
    let is : plain c.in_ok-cleaned.cleaned ≡ fill (put_for (kept_of us) (count_types us)) body = c.in_ok-cleaned.ensures ∙ ap₂ (λ y n. fill (put_for y n) body) kept count in
    let weight = applied_weighs c.measures_inside.result.weight c.deref-2.result.now ms ws c.args.by us _ body c.requires.under c.measures_inside.ensures.weight (ap (λ y. map (λ m. m.weight) y) c.deref-2.ensures.value ∙ x.weights) is in
    reason_by c.measures_inside.result.weight (weigh (weights_inside ms ws) (fill (put_for us c.args.by) body)) err (λ h. omega (arith, h, weight)) c.in_err-measures.ensures.reason)

pub returns-clause-made : goal.returns-clause-made
returns-clause-made c = λ us x.
    let ms = c.args.inner.now in
    let ws = weights (type_context c.args.c.now) in
    let hs = heights (type_context c.args.c.now) in
    let body = plain c.args.body.now in
    let kept = ap plain_types c.deref.ensures.value ∙ x.kept in
    let count = ap length c.as_slice.ensures.value ∙ arguments_count c.args.args.now x in
    let is : plain c.in_ok-cleaned.cleaned ≡ fill (put_for (kept_of us) (count_types us)) body = c.in_ok-cleaned.ensures ∙ ap₂ (λ y n. fill (put_for y n) body) kept count in
    let weight = applied_weighs c.measures_inside.result.weight c.deref-2.result.now ms ws c.args.by us _ body c.requires.under c.measures_inside.ensures.weight (ap (λ y. map (λ m. m.weight) y) c.deref-2.ensures.value ∙ x.weights) is in
    let height = ap (λ m. m.height) c.in_ok-measures.ensures.same ∙ applied_rises c.measures_inside.result.height c.deref-2.result.now ms hs c.args.by us _ body c.requires.under c.measures_inside.ensures.height (ap (λ y. map (λ m. m.height) y) c.deref-2.ensures.value ∙ x.heights) is in
    let light = c.in_ok-measures.ensures.light in
    let same = ap (λ m. m.weight) c.in_ok-measures.ensures.same in
    record {
      weight = omega (arith, same, weight, light);
      light = light;
      height = height;
      made = tt;
      low = tt;
      missing = c.if-is_within.ensures.no refl light;
    }

pub returns-then-is_within-clause-made : goal.returns-then-is_within-clause-made
returns-then-is_within-clause-made c = λ us x.
    let ms = c.args.inner.now in
    let ws = weights (type_context c.args.c.now) in
    let hs = heights (type_context c.args.c.now) in
    let body = plain c.args.body.now in
    let kept = ap plain_types c.deref.ensures.value ∙ x.kept in
    let count = ap length c.as_slice.ensures.value ∙ arguments_count c.args.args.now x in
    let is : plain c.in_ok-cleaned.cleaned ≡ fill (put_for (kept_of us) (count_types us)) body = c.in_ok-cleaned.ensures ∙ ap₂ (λ y n. fill (put_for y n) body) kept count in
    let weight = applied_weighs c.measures_inside.result.weight c.deref-2.result.now ms ws c.args.by us _ body c.requires.under c.measures_inside.ensures.weight (ap (λ y. map (λ m. m.weight) y) c.deref-2.ensures.value ∙ x.weights) is in
    let height = ap (λ m. m.height) c.in_ok-measures.ensures.same ∙ applied_rises c.measures_inside.result.height c.deref-2.result.now ms hs c.args.by us _ body c.requires.under c.measures_inside.ensures.height (ap (λ y. map (λ m. m.height) y) c.deref-2.ensures.value ∙ x.heights) is in
    let light = c.in_ok-measures.ensures.light in
    let same = ap (λ m. m.weight) c.in_ok-measures.ensures.same in
    let within = c.if-is_within.ensures.yes refl in
    let few : weigh (weights_inside ms ws) (fill (put_for us c.args.by) body) ≤ WEIGHT_LIMIT = omega (arith, same, weight, light) in
    let low : rise (heights_inside ms hs) (fill (put_for us c.args.by) body) ≤ HEIGHT_LIMIT = omega (arith, height, within.1) in
    let built = ap plain_types c.deref-then-is_within.ensures.value ∙ x.types_ in
    let made = c.in_ok-fill_type.ensures ∙ ap (λ y. fill (put_for y c.args.by) body) built ∙ sym (body_built (weights_inside ms ws) (heights_inside ms hs) c.args.by us body few low) in
    c.new.ensures.made (weights_inside ms ws) (heights_inside ms hs) (fill (put_for us c.args.by) body) made (same ∙ weight) height
