-- What a pattern adds.
use Rattle.std.proofs.Common.{◌≡◌, ◌+◌, length, ◌∙◌, ap, arith}
use Rattle.pict_types.specs.Entries.{variables}
use Rattle.pict_types.specs.PlainContext.{names_of, plain_context, type_context}
use Rattle.pict_infer.specs.Knowing.{known_types}
use Rattle.pict_infer.proofs.Depths.{types_length}
use Rattle.pict_infer.proofs.Growing.{added_all}
use Rattle.pict_infer.proofs.env.Env.add.Goals as goal
use Rattle.pict_syntax.proofs.ListLemmas.{on_ok}
use Rattle.pict_rules.proofs.OwnBinders.{opened_count}

pub invariant_of-self-2-clause-named : goal.invariant_of-self-2-clause-named
invariant_of-self-2-clause-named c = c.add_values.ensures.named

pub invariant_of-self-2-clause-placed : goal.invariant_of-self-2-clause-placed
invariant_of-self-2-clause-placed c =
    let bs = c.args.added.binders.items in
    let count : length (type_context c.add_types.new.context) ≡ length (type_context c.args.self.now.context) + length (known_types bs) =
    ap (λ z. length (variables z)) c.in_ok-add_types.ensures.added ∙ opened_count (known_types bs) (plain_context c.args.self.now.context) in
    omega (arith, c.add_values.ensures.placed, count, types_length bs, c.args.self.now.placed, c.args.added.placed, c.requires.may.base)

pub returns-clause-known : goal.returns-clause-known
returns-clause-known c =
    on_ok c.add_values.result (λ h. added_all c.args.self.now c.args.added (names_of c.add_types.new.context) (plain_context c.add_types.new.context) c.add_values.new.values.items c.in_ok-add_types.ensures.names c.in_ok-add_types.ensures.added h c.requires.may.base) c.add_values.ensures.added
