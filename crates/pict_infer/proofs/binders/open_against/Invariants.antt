-- The type binders so far are open, with the bounds of the first type fields.
use Rattle.std.proofs.Common.{◌≤◌, length, take}
use Rattle.pict_syntax.specs.Trees.{no_binders}
use Rattle.pict_syntax.specs.PlainTrees.{binders_on}
use Rattle.pict_types.specs.Plain.{plain_bounds}
use Rattle.pict_types.specs.PlainContext.{type_context}
use Rattle.pict_rules.specs.Rules.{binders_against}
use Rattle.pict_rules.specs.Typing.{rule}
use Rattle.pict_infer.specs.Opening.{HasOpened}
use Rattle.pict_infer.specs.Places.{environment_in}
use Rattle.pict_infer.proofs.binders.open_against.Given as goal

abbrev pub invariant-loop-i : goal.invariant-loop-i
invariant-loop-i l = record {
  so_far : HasOpened (environment_in l.fn.c) (environment_in l.c) (rule (environment_in l.fn.c) (binders_against (binders_on no_binders (take l.i l.bs)) (plain_bounds l.fields))) (plain_bounds (take l.i l.fields));
  grows : length (type_context l.fn.c) ≤ length (type_context l.c);
}
