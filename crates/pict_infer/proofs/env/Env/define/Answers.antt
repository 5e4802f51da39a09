-- One entry more.
use Rattle.std.proofs.Common.{refl, [], ◌∷◌}
use Rattle.pict_infer.proofs.Growing.{grew_types}
use Rattle.pict_infer.proofs.env.Env.define.Goals as goal
use Rattle.pict_syntax.proofs.ListLemmas.{on_ok}

pub returns-clause-grew : goal.returns-clause-grew
returns-clause-grew c = on_ok c.push.result (λ h. grew_types c.args.self.now _ (_ ∷ []) c.push.ensures.names h refl) c.push.ensures.pushed
