-- What is measured over the held measures of the outer variables is held itself.
use Rattle.std.proofs.Common.{◌≡◌, ◌-◌, ◌∙◌, ap, length, map, reverse, take, drop, arith}
use Rattle.std.proofs.lemmas.List.{drop-map}
use Rattle.pict_types.specs.Measures.{held, weigh, rise, weights, heights}
use Rattle.pict_types.specs.Plain.{plain}
use Rattle.pict_types.specs.PlainContext.{plain_context, type_context}
use Rattle.pict_types.proofs.Entries.{count_known}
use Rattle.pict_types.proofs.Inside.{known_behind, weighs_inside, rises_inside}
use Rattle.pict_types.proofs.context.Context.measures_inside.Goals as goal

pub slice_bounds-outer-count : goal.slice_bounds-outer-count
slice_bounds-outer-count c =
    let n = count_known c.args.self.now.known.items (plain_context c.args.self.now) c.args.self.now.placed in
    let m : length c.as_slice-known.result.now ≡ length c.args.self.now.known.items = ap length c.as_slice-known.ensures.value in
    omega (arith, n, m, c.requires.by)

pub returns-clause-weight : goal.returns-clause-weight
returns-clause-weight c =
    let s = c.args.self.now in
    let xs = c.as_slice-known.result.now in
    let n = count_known s.known.items (plain_context s) s.placed in
    let m : length xs ≡ length s.known.items = ap length c.as_slice-known.ensures.value in
    let ws = weights (type_context s) in
    let outer : reverse (map (λ k. k.measures.weight) (take (length xs - c.args.by) xs)) ≡ map held (drop c.args.by ws) =
    known_behind (λ k. k.measures.weight) xs c.args.by (omega (arith, n, m, c.requires.by))
    ∙ ap (λ x. drop c.args.by (reverse (map (λ k. k.measures.weight) x))) c.as_slice-known.ensures.value
    ∙ ap (drop c.args.by) s.weighed
    ∙ drop-map held c.args.by ws in
    weighs_inside c.measure.result.weight c.args.inner.now (reverse (map (λ k. k.measures.weight) (take (length xs - c.args.by) xs))) (drop c.args.by ws) (plain c.args.t.now) (c.measure.ensures.weight ∙ ap (λ x. held (weigh x (plain c.args.t.now))) c.inside.ensures.weights) outer

pub returns-clause-height : goal.returns-clause-height
returns-clause-height c =
    let s = c.args.self.now in
    let xs = c.as_slice-known.result.now in
    let n = count_known s.known.items (plain_context s) s.placed in
    let m : length xs ≡ length s.known.items = ap length c.as_slice-known.ensures.value in
    let ws = heights (type_context s) in
    let outer : reverse (map (λ k. k.measures.height) (take (length xs - c.args.by) xs)) ≡ map held (drop c.args.by ws) =
    known_behind (λ k. k.measures.height) xs c.args.by (omega (arith, n, m, c.requires.by))
    ∙ ap (λ x. drop c.args.by (reverse (map (λ k. k.measures.height) x))) c.as_slice-known.ensures.value
    ∙ ap (drop c.args.by) s.measured
    ∙ drop-map held c.args.by ws in
    rises_inside c.measure.result.height c.args.inner.now (reverse (map (λ k. k.measures.height) (take (length xs - c.args.by) xs))) (drop c.args.by ws) (plain c.args.t.now) (c.measure.ensures.height ∙ ap (λ x. held (rise x (plain c.args.t.now))) c.inside.ensures.heights) outer
