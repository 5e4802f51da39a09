-- What is left of the marks says what all do.
use Rattle.std.proofs.Common.{◌≡◌, drop}
use Rattle.pict_types.specs.Plain.{plain}
use Rattle.pict_types.specs.PlainContext.{type_context}
use Rattle.pict_types.specs.Variance.{body_varies, under_parameters}
use Rattle.pict_types.proofs.variance.body_varies.Given as goal

abbrev pub invariant-loop-k : goal.invariant-loop-k
invariant-loop-k l = body_varies (under_parameters l.params (type_context l.c)) (drop l.k l.marks) (plain l.t) ≡ body_varies (under_parameters l.params (type_context l.c)) l.marks (plain l.t)
