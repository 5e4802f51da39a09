-- What is measured over the held measures of the variables is held itself.
use Rattle.std.proofs.Common.{◌∙◌, ap, map, reverse}
use Rattle.pict_types.specs.Measures.{held, weigh, rise, weights, heights}
use Rattle.pict_types.specs.Plain.{plain}
use Rattle.pict_types.specs.PlainContext.{type_context}
use Rattle.pict_types.proofs.Entries.{weighs_held_under, rises_held_under}
use Rattle.pict_types.proofs.context.Context.measures_with.Goals as goal

pub returns-clause-weight : goal.returns-clause-weight
returns-clause-weight c =
    weighs_held_under c.measure.result.weight c.args.variable.weight (reverse (map (λ k. k.measures.weight) c.deref.result.now)) (weights (type_context c.args.self.now)) (plain c.args.t.now) (c.measure.ensures.weight ∙ ap (λ x. held (weigh x (plain c.args.t.now))) c.inside.ensures.weights)
    (ap (λ x. reverse (map (λ k. k.measures.weight) x)) c.deref.ensures.value ∙ c.args.self.now.weighed)

pub returns-clause-height : goal.returns-clause-height
returns-clause-height c =
    rises_held_under c.measure.result.height c.args.variable.height (reverse (map (λ k. k.measures.height) c.deref.result.now)) (heights (type_context c.args.self.now)) (plain c.args.t.now) (c.measure.ensures.height ∙ ap (λ x. held (rise x (plain c.args.t.now))) c.inside.ensures.heights)
    (ap (λ x. reverse (map (λ k. k.measures.height) x)) c.deref.ensures.value ∙ c.args.self.now.measured)
