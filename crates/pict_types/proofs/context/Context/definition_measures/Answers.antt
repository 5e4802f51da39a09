-- The measures that are read are those of the definition.
use Rattle.std.proofs.Common.{◌≡◌, List, length, map, reverse, ◌∙◌, ap, arith}
use Rattle.pict_types.specs.declared.context.Context.{Context}
use Rattle.pict_types.specs.declared.measure.Measures.{Measures}
use Rattle.pict_types.specs.PlainContext.{plain_context}
use Rattle.pict_types.proofs.EntryMeasures.{count_sizes, definition_rises, definition_weighs}
use Rattle.pict_types.proofs.context.Context.definition_measures.Goals as goal

sizes_there : (c : Context) (ms : List Measures) → ms ≡ c.sizes.items → length ms ≡ length (plain_context c)
sizes_there c ms e = ap length e ∙ count_sizes c.sizes.items (plain_context c) c.entries_weighed

pub overflow_sub-result : goal.overflow_sub-result
overflow_sub-result c = omega (arith, sizes_there c.args.self.now c.as_slice-sizes.result.now c.as_slice-sizes.ensures.value, c.requires.entry)

pub overflow_sub-result-2 : goal.overflow_sub-result-2
overflow_sub-result-2 c = omega (arith, sizes_there c.args.self.now c.as_slice-sizes.result.now c.as_slice-sizes.ensures.value, c.requires.entry)

pub bounds-sizes-sizes : goal.bounds-sizes-sizes
bounds-sizes-sizes c = omega (arith, sizes_there c.args.self.now c.as_slice-sizes.result.now c.as_slice-sizes.ensures.value, c.requires.entry)

pub returns-clause-weight : goal.returns-clause-weight
returns-clause-weight c = λ a is.
    let s = c.args.self.now in
    let ms = c.as_slice-sizes.result.now in
    definition_weighs ms (plain_context s) c.args.i _ a (ap (λ x. reverse (map (λ y. y.weight) x)) c.as_slice-sizes.ensures.value ∙ s.entries_weighed) (omega (arith, sizes_there s ms c.as_slice-sizes.ensures.value, c.requires.entry)) is

pub returns-clause-height : goal.returns-clause-height
returns-clause-height c = λ a is.
    let s = c.args.self.now in
    let ms = c.as_slice-sizes.result.now in
    definition_rises ms (plain_context s) c.args.i _ a (ap (λ x. reverse (map (λ y. y.height) x)) c.as_slice-sizes.ensures.value ∙ s.entries_measured) (omega (arith, sizes_there s ms c.as_slice-sizes.ensures.value, c.requires.entry)) is
