-- The measures of a definition are those that it has where it stands, and of another type they are taken outside the binders.
use Rattle.std.proofs.Common.{◌-◌, length, drop, sym, ◌∙◌, ap}
use Rattle.pict_types.specs.Counting.{variables_inside}
use Rattle.pict_types.specs.Entries.{Definition}
use Rattle.pict_types.specs.Measures.{held, weigh, weights, rise, heights}
use Rattle.pict_types.specs.Plain.{plain}
use Rattle.pict_types.specs.PlainContext.{plain_context}
use Rattle.pict_types.specs.Replacing.{type_in}
use Rattle.pict_types.proofs.Counting.{inside_length}
use Rattle.pict_normal.specs.Putting.{variables_in, weights_in, heights_in}
use Rattle.pict_normal.proofs.Behind.{heights_behind, moved_rises, moved_weighs, weights_behind}
use Rattle.pict_normal.proofs.Defined.{defined_put, definition_rises, definition_weighs}
use Rattle.pict_normal.proofs.replacement.put_measures.Goals as goal

pub definition_measures-requires : goal.definition_measures-requires
definition_measures-requires c =
    let d = c.in-Some.ensures in
    record { entry = inside_length (plain_context c.args.puts.now.context.now) c.in-Some.place (Definition d.arg) d.there }

pub returns-in-Some-clause-weight : goal.returns-in-Some-clause-weight
returns-in-Some-clause-weight c =
    let p = c.args.puts.now in
    let ms = c.args.inner.now in
    let d = c.in-Some.ensures in
    let k = variables_inside c.in-Some.place (plain_context p.context.now) in
    c.definition_measures.ensures.weight d.arg d.there
    ∙ ap held (definition_weighs ms (weights (variables_in p)) k (type_in d.arg) ∙ ap (weigh (weights_in p ms)) (sym (defined_put p ms c.args.i c.in-Some.place d)))

pub returns-in-None-clause-weight : goal.returns-in-None-clause-weight
returns-in-None-clause-weight c =
    let p = c.args.puts.now in
    let ms = c.args.inner.now in
    let by = c.args.by in
    let t = plain c.args.t.now in
    let same = moved_weighs (weights_in p ms) (drop (by - length ms) (weights (variables_in p))) by t (weights_behind ms (weights (variables_in p)) by c.requires.inside) in
    c.measures_inside.ensures.weight ∙ ap held (same ∙ ap (weigh (weights_in p ms)) c.requires.put)

pub returns-in-Some-clause-height : goal.returns-in-Some-clause-height
returns-in-Some-clause-height c =
    let p = c.args.puts.now in
    let ms = c.args.inner.now in
    let d = c.in-Some.ensures in
    let k = variables_inside c.in-Some.place (plain_context p.context.now) in
    c.definition_measures.ensures.height d.arg d.there
    ∙ ap held (definition_rises ms (heights (variables_in p)) k (type_in d.arg) ∙ ap (rise (heights_in p ms)) (sym (defined_put p ms c.args.i c.in-Some.place d)))

pub returns-in-None-clause-height : goal.returns-in-None-clause-height
returns-in-None-clause-height c =
    let p = c.args.puts.now in
    let ms = c.args.inner.now in
    let by = c.args.by in
    let t = plain c.args.t.now in
    let same = moved_rises (heights_in p ms) (drop (by - length ms) (heights (variables_in p))) by t (heights_behind ms (heights (variables_in p)) by c.requires.inside) in
    c.measures_inside.ensures.height ∙ ap held (same ∙ ap (rise (heights_in p ms)) c.requires.put)
