-- One more item is the last of the row.
use Rattle.std.proofs.Common.{◌∙◌, ap}
use Rattle.pict_normal.specs.Normal.{and_type}
use Rattle.pict_types.specs.Plain.{plain_types}
use Rattle.pict_normal.proofs.arguments.Arguments.push.Goals as goal
use Rattle.pict_normal.proofs.Trees.{types_and}

pub returns-clause-kept : goal.returns-clause-kept
returns-clause-kept c = λ ws hs t h.
    ap plain_types c.in_ok-push-2.ensures.items
    ∙ types_and c.args.self.now.kept.items c.kept_part.result
    ∙ ap (and_type (plain_types c.args.self.now.kept.items)) (c.kept_part.ensures.kept ws hs t h)

pub returns-clause-types : goal.returns-clause-types
returns-clause-types c = λ ws hs t h.
    ap plain_types c.in_ok-push-3.ensures.items
    ∙ types_and c.args.self.now.types.items c.built_part.result
    ∙ ap (and_type (plain_types c.args.self.now.types.items)) (c.built_part.ensures.built ws hs t h)
