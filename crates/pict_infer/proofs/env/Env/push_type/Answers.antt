-- One type variable more.
use Rattle.std.proofs.Common.{refl, [], ◌∷◌}
use Rattle.pict_types.specs.Plain.{plain_bound}
use Rattle.pict_types.specs.PlainContext.{names_of, plain_context}
use Rattle.pict_infer.proofs.Growing.{grew_types, opened_types}
use Rattle.pict_infer.proofs.env.Env.push_type.Goals as goal
use Rattle.pict_syntax.proofs.ListLemmas.{on_ok}

pub returns-clause-known : goal.returns-clause-known
returns-clause-known c =
    on_ok c.push.result (λ h. opened_types c.args.self.now (names_of c.push.new.self) (plain_context c.push.new.self) (record { name = c.args.name.0; bound = plain_bound c.args.bound } ∷ []) c.push.ensures.names h) c.push.ensures.pushed

pub returns-clause-grew : goal.returns-clause-grew
returns-clause-grew c = on_ok c.push.result (λ h. grew_types c.args.self.now _ (_ ∷ []) c.push.ensures.names h refl) c.push.ensures.pushed
