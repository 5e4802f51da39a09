-- The arguments of an operator variable, and one type field more of a block.
use Rattle.std.proofs.Common.{◌≡◌, suc, ◌+◌, ◌-◌, ◌<◌, ◌≤◌, ◌∷◌, ◌++◌, length, max, map, reverse, take, get_or, ◌∙◌, sym, ap, arith, drop}
use Rattle.pict_types.specs.Types.{bounds}
use Rattle.pict_types.specs.Measures.{held, size, size_types, size_bounds, weigh, weigh_types, weigh_variable, rise, rise_types, rise_variable}
use Rattle.pict_types.specs.Plain.{plain, plain_types, plain_bound, plain_bounds, plain_labels}
use Rattle.pict_types.specs.Around.{around_weights, around_heights, weigh_parts, rise_parts}
use Rattle.pict_types.proofs.Rows.{plain_is_apply, bounds_drop, size_bounds_part}
use Rattle.pict_types.proofs.Around.{weights_more, heights_more}
use Rattle.pict_types.proofs.Held.{weigh_parts_step, rise_parts_step}
use Rattle.pict_types.proofs.measure.+measure.Goals as goal

pub measure-measure_types-requires : goal.measure-measure_types-requires
measure-measure_types-requires t c =
    let e = plain_is_apply c.args.t.now c.in-Apply.field-0 c.in-Apply.ts c.in-Apply.is in
    let h : size (plain c.args.t.now) ≡ suc (size_types (plain_types c.deref-in-Apply.result.now)) = ap size e ∙ ap (λ x. suc (size_types (plain_types x))) (sym (c.deref-in-Apply.ensures.value ∙ ap (λ v. v.items) c.deref.ensures)) in
    (omega (arith, h), c.requires.linked)

pub measure-returns-in-Apply-clause-weight : goal.measure-returns-in-Apply-clause-weight
measure-returns-in-Apply-clause-weight t c =
    let e = plain_is_apply c.args.t.now c.in-Apply.field-0 c.in-Apply.ts c.in-Apply.is in
    let h : weigh (around_weights c.args.around.now) (plain c.args.t.now) ≡ suc (weigh_types (around_weights c.args.around.now) (plain_types c.deref-in-Apply.result.now)) = ap (weigh (around_weights c.args.around.now)) e ∙ ap (λ x. suc (weigh_types (around_weights c.args.around.now) (plain_types x))) (sym (c.deref-in-Apply.ensures.value ∙ ap (λ v. v.items) c.deref.ensures)) in
    omega (arith, h, c.measure_types.ensures.weight, c.above.ensures.weight)

pub measure-returns-in-Apply-clause-height : goal.measure-returns-in-Apply-clause-height
measure-returns-in-Apply-clause-height t c =
    let e = plain_is_apply c.args.t.now c.in-Apply.field-0 c.in-Apply.ts c.in-Apply.is in
    let h : rise (around_heights c.args.around.now) (plain c.args.t.now) ≡ suc (rise_types (around_heights c.args.around.now) (plain_types c.deref-in-Apply.result.now)) = ap (rise (around_heights c.args.around.now)) e ∙ ap (λ x. suc (rise_types (around_heights c.args.around.now) (plain_types x))) (sym (c.deref-in-Apply.ensures.value ∙ ap (λ v. v.items) c.deref.ensures)) in
    omega (arith, h, c.measure_types.ensures.height, c.above.ensures.height)

pub measure_block-loop-k-preserved : goal.measure_block-loop-k-preserved
measure_block-loop-k-preserved t c =
    let bs = c.args.binders.now in
    let k = c.loop-k.k in
    let m = c.measure_bound-field.result in
    let inside : k < length bs = omega arith in
    let room : k < length c.loop-k.known = omega arith in
    let ws = reverse (map (λ x. x.weight) (take k c.loop-k.known)) ++ around_weights c.args.around.now in
    let hs = reverse (map (λ x. x.height) (take k c.loop-k.known)) ++ around_heights c.args.around.now in
    let b = plain_bound (get_or bs k c.index-binders-k.result) in
    let ps = plain_types c.args.r.now.positional.items in
    let ls = plain_labels c.args.r.now.labelled.items in
    let rest = plain_bounds (drop (k + 1) bs) in
    let is : plain_bound c.index-binders-k.result ≡ b = ap plain_bound c.index-binders-k.is in
    let parts : plain_bounds (drop k bs) ≡ bounds b rest = bounds_drop bs k c.index-binders-k.result inside in
    let weighs : m.weight ≡ held (weigh_variable ws b) = c.measure_bound-field.ensures.weight ∙ ap (λ v. held (weigh_variable v (plain_bound c.index-binders-k.result))) c.inside.ensures.weights ∙ ap (λ x. held (weigh_variable ws x)) is in
    let rises : m.height ≡ held (rise_variable hs b) = c.measure_bound-field.ensures.height ∙ ap (λ v. held (rise_variable v (plain_bound c.index-binders-k.result))) c.inside.ensures.heights ∙ ap (λ x. held (rise_variable hs x)) is in
    record {
      weight =
          ap (λ x. held (c.beside-all.result.weight + weigh_parts x rest ps ls)) (weights_more c.loop-k.known k m (around_weights c.args.around.now) room)
          ∙ ap (λ x. held (x + weigh_parts (m.weight ∷ ws) rest ps ls)) c.beside-all.ensures.weight
          ∙ weigh_parts_step c.loop-k.all.weight m.weight ws b rest ps ls weighs
          ∙ ap (λ x. held (c.loop-k.all.weight + weigh_parts ws x ps ls)) (sym parts)
          ∙ c.loop-k.invariant.weight;
      height =
          ap (λ x. held (max c.beside-all.result.height (rise_parts x rest ps ls))) (heights_more c.loop-k.known k m (around_heights c.args.around.now) room)
          ∙ ap (λ x. held (max x (rise_parts (m.height ∷ hs) rest ps ls))) c.beside-all.ensures.height
          ∙ rise_parts_step c.loop-k.all.height m.height hs b rest ps ls rises
          ∙ ap (λ x. held (max c.loop-k.all.height (rise_parts hs x ps ls))) (sym parts)
          ∙ c.loop-k.invariant.height;
      weight_fits = omega (arith, c.beside-all.ensures.weight);
      height_fits = omega (arith, c.beside-all.ensures.height, c.loop-k.invariant.height_fits, rises);
    }

pub measure_block-measure_record-rest-requires : goal.measure_block-measure_record-rest-requires
measure_block-measure_record-rest-requires t c =
    let bs = c.args.binders.now in
    let n = c.min-count.result in
    let h : size_bounds (plain_bounds (take (length bs - n) (drop n bs))) + n ≤ size_bounds (plain_bounds bs) = size_bounds_part bs (length bs - n) n (omega arith) in
    (omega (arith, h), c.inside-2.ensures.linked)
