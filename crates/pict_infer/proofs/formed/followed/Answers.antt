-- A type that is no variable is its own exposure.
use Rattle.std.proofs.Common.{sym, ◌∙◌}
use Rattle.pict_types.specs.Plain.{plain}
use Rattle.pict_types.specs.PlainContext.{type_context}
use Rattle.pict_infer.proofs.Forming.{exposed_itself}
use Rattle.pict_infer.proofs.formed.followed.Goals as goal

pub returns-clause-none : goal.returns-clause-none
returns-clause-none c = exposed_itself (type_context c.args.c.now) (plain c.args.t.now) (sym c.is_variable.ensures ∙ c.if-is_variable.false)
