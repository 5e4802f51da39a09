-- What is left decides as the whole does, and has paid for what was passed.
use Rattle.std.proofs.Common.{◌≡◌, ◌+◌, ◌-◌, ◌*◌, ◌≤◌, ◌↔◌, drop, length}
use Rattle.pict_types.specs.Types.{Var, Apply, Chan}
use Rattle.pict_types.specs.Kinds.{LabelsAreWellFormed, kinds}
use Rattle.pict_types.specs.Plain.{plain, plain_cap, plain_record, plain_types, plain_labels}
use Rattle.pict_types.specs.Measures.{weight_of, weights, weigh_types, weigh_labels}
use Rattle.pict_sub.specs.Scopes.{scope_context, scope_names}
use Rattle.pict_sub.specs.Subtyping.{AreByMarks, AreSubtypes, HasLabels}
use Rattle.pict_sub.proofs.subtyping.+below.Given as goal

abbrev pub decreases-is_below : goal.decreases-is_below
decreases-is_below g l = 4 * (weight_of (scope_context l.scope.now) (plain l.s.now) + weight_of (scope_context l.scope.now) (plain l.t.now))

abbrev pub decreases-variable_is_below : goal.decreases-variable_is_below
decreases-variable_is_below g l = 4 * (weight_of (scope_context l.scope.now) (Var l.i) + weight_of (scope_context l.scope.now) (plain l.t.now)) - 1

abbrev pub decreases-bound_is_below : goal.decreases-bound_is_below
decreases-bound_is_below g l = 4 * (weight_of (scope_context l.scope.now) (Var l.i) + weight_of (scope_context l.scope.now) (plain l.t.now)) - 2

abbrev pub decreases-channel_is_below : goal.decreases-channel_is_below
decreases-channel_is_below g l = 4 * (weight_of (scope_context l.scope.now) (Chan (plain_cap l.m) (plain l.a.now)) + weight_of (scope_context l.scope.now) (plain l.t.now)) - 1

abbrev pub decreases-record_is_below : goal.decreases-record_is_below
decreases-record_is_below g l = 4 * (weight_of (scope_context l.scope.now) (plain_record l.r.now) + weight_of (scope_context l.scope.now) (plain l.t.now)) - 1

abbrev pub decreases-fields_are_below : goal.decreases-fields_are_below
decreases-fields_are_below g l = 4 * (weight_of (scope_context l.scope.now) (plain_record l.r.now) + weight_of (scope_context l.scope.now) (plain_record l.q.now)) - 2

abbrev pub decreases-applied_is_below : goal.decreases-applied_is_below
decreases-applied_is_below g l = 4 * (weight_of (scope_context l.scope.now) (Apply l.i (plain_types l.ss.now)) + weight_of (scope_context l.scope.now) (plain l.t.now)) - 1

abbrev pub decreases-argument_is_below : goal.decreases-argument_is_below
decreases-argument_is_below g l = 4 * (weight_of (scope_context l.scope.now) (plain l.s.now) + weight_of (scope_context l.scope.now) (plain l.t.now)) + 1

abbrev pub decreases-arguments_are_below : goal.decreases-arguments_are_below
decreases-arguments_are_below g l = 4 * (weigh_types (weights (scope_context l.scope.now)) (plain_types l.ss.now) + weigh_types (weights (scope_context l.scope.now)) (plain_types l.ts.now)) + 2

abbrev pub invariant-arguments_are_below-loop-i : goal.invariant-arguments_are_below-loop-i
invariant-arguments_are_below-loop-i g l = record {
  first : length l.ss ≡ length l.marks;
  second : length l.ts ≡ length l.marks;
  same : AreByMarks (scope_context l.scope) l.marks (plain_types l.ss) (plain_types l.ts) ↔ AreByMarks (scope_context l.scope) (drop l.i l.marks) (plain_types (drop l.i l.ss)) (plain_types (drop l.i l.ts));
  paid : l.steps + (weigh_types (weights (scope_context l.scope)) (plain_types (drop l.i l.ss)) + weigh_types (weights (scope_context l.scope)) (plain_types (drop l.i l.ts))) ≤ l.initial.steps + (weigh_types (weights (scope_context l.scope)) (plain_types l.ss) + weigh_types (weights (scope_context l.scope)) (plain_types l.ts));
}

abbrev pub decreases-rows_are_below : goal.decreases-rows_are_below
decreases-rows_are_below g l = 4 * (weigh_types (weights (scope_context l.scope.now)) (plain_types l.ss.now) + weigh_types (weights (scope_context l.scope.now)) (plain_types l.ts.now)) + 1

abbrev pub decreases-labels_are_below : goal.decreases-labels_are_below
decreases-labels_are_below g l = 4 * (weigh_labels (weights (scope_context l.scope.now)) (plain_labels l.ls.now) + weigh_labels (weights (scope_context l.scope.now)) (plain_labels l.ms.now)) + 1

abbrev pub invariant-rows_are_below-loop-i : goal.invariant-rows_are_below-loop-i
invariant-rows_are_below-loop-i g l = record {
  long : length l.ss ≡ length l.ts;
  same : AreSubtypes (scope_context l.scope) (plain_types l.ss) (plain_types l.ts) ↔ AreSubtypes (scope_context l.scope) (plain_types (drop l.i l.ss)) (plain_types (drop l.i l.ts));
  paid : l.steps + (weigh_types (weights (scope_context l.scope)) (plain_types (drop l.i l.ss)) + weigh_types (weights (scope_context l.scope)) (plain_types (drop l.i l.ts))) ≤ l.initial.steps + (weigh_types (weights (scope_context l.scope)) (plain_types l.ss) + weigh_types (weights (scope_context l.scope)) (plain_types l.ts));
}

abbrev pub invariant-labels_are_below-loop-l : goal.invariant-labels_are_below-loop-l
invariant-labels_are_below-loop-l g l = record {
  inside : l.j ≤ length l.ms;
  same : HasLabels (scope_context l.scope) (plain_labels l.ls) (plain_labels l.ms) ↔ HasLabels (scope_context l.scope) (plain_labels (drop l.l-index l.ls)) (plain_labels (drop l.j l.ms));
  left : LabelsAreWellFormed (scope_names l.scope) (kinds (scope_context l.scope)) (plain_labels (drop l.l-index l.ls));
  right : LabelsAreWellFormed (scope_names l.scope) (kinds (scope_context l.scope)) (plain_labels (drop l.j l.ms));
  paid : l.steps + (weigh_labels (weights (scope_context l.scope)) (plain_labels (drop l.l-index l.ls)) + weigh_labels (weights (scope_context l.scope)) (plain_labels (drop l.j l.ms))) ≤ l.initial.steps + (weigh_labels (weights (scope_context l.scope)) (plain_labels l.ls) + weigh_labels (weights (scope_context l.scope)) (plain_labels l.ms));
}
