-- Each bound that is followed weighs one less.
use Rattle.std.proofs.Common.{◌-◌, ◌*◌}
use Rattle.pict_types.specs.Types.{Var}
use Rattle.pict_types.specs.Plain.{plain}
use Rattle.pict_types.specs.Measures.{weight_of}
use Rattle.pict_sub.specs.Scopes.{scope_context}
use Rattle.pict_sub.proofs.exposing.+exposed.Given as goal

abbrev pub decreases-expose_in : goal.decreases-expose_in
decreases-expose_in l = 2 * weight_of (scope_context l.scope.now) (plain l.t.now)

abbrev pub decreases-expose_variable : goal.decreases-expose_variable
decreases-expose_variable l = 2 * weight_of (scope_context l.scope.now) (Var l.i) - 1
