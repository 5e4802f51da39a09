-- What each loop of the cycle keeps.
use Rattle.std.proofs.Common.{◌≡◌, length, take, List, drop, reverse}
use Rattle.pict_syntax.specs.Trees.{no_labelled_vals, no_vals, no_decs, no_procs}
use Rattle.pict_syntax.specs.PlainTrees.{labelled_vals_on, vals_on, decs_on, procs_on}
use Rattle.pict_types.specs.Plain.{plain_labels, plain_types}
use Rattle.pict_normal.proofs.LabelOrder.{in_order}
use Rattle.pict_rules.specs.Rules.{labelled_values_fit, labelled_values_give, ok, values_fit, values_give, declarations, processes, Signature}
use Rattle.pict_rules.specs.Typing.{rule}
use Rattle.pict_rules.specs.Derivations.{Runs}
use Rattle.pict_rules.specs.Environments.{context_of}
use Rattle.pict_infer.specs.Environments.{environment_of, known_names, IsAsBefore, GrewFrom}
use Rattle.pict_lines.specs.Reading.{found_for}
use Rattle.pict_check.proofs.Entering.{IsEntering}
use Rattle.pict_check.proofs.Finishing.{IsFinishing}
use Rattle.pict_lines.specs.Definitions.{AreInside}
use Rattle.pict_check.proofs.DefinitionEnds.{ArePast}
use Rattle.pict_check.proofs.+values.Given as goal

abbrev pub invariant-values::values_give-loop-v : goal.invariant-values::values_give-loop-v
invariant-values::values_give-loop-v l = record {
  so_far : Runs (rule (environment_of l.fn.env) (values_give (vals_on no_vals (take l.v-index l.vs)))) (ok (plain_types l.types.items));
  same : IsAsBefore l.fn.env l.env;
}

abbrev pub invariant-values::labelled_values_give-loop-l : goal.invariant-values::labelled_values_give-loop-l
invariant-values::labelled_values_give-loop-l l = record {
  so_far : Runs (rule (environment_of l.fn.env) (labelled_values_give (labelled_vals_on no_labelled_vals (take l.l-index l.ls))))
      (ok (in_order (known_names l.fn.env) (plain_labels l.types.items)));
  same : IsAsBefore l.fn.env l.env;
}

abbrev pub invariant-fitting::values_fit-loop-i : goal.invariant-fitting::values_fit-loop-i
invariant-fitting::values_fit-loop-i l = record {
  so_far : Runs (rule (environment_of l.fn.env) (values_fit l.span (vals_on no_vals (take l.i l.vs)) (plain_types l.ts) (found_for l.bs l.fn.found))) (ok (found_for l.bs l.found));
  count : length l.found.list.items ≡ length l.bs;
  same : IsAsBefore l.fn.env l.env;
}

abbrev pub invariant-fitting::labelled_values_fit-loop-l : goal.invariant-fitting::labelled_values_fit-loop-l
invariant-fitting::labelled_values_fit-loop-l l = record {
  so_far : Runs (rule (environment_of l.fn.env) (labelled_values_fit l.span (labelled_vals_on no_labelled_vals (take l.l-index l.ls)) (plain_labels l.ts) (found_for l.bs l.fn.found)))
      (ok (found_for l.bs l.found));
  count : length l.found.list.items ≡ length l.bs;
  same : IsAsBefore l.fn.env l.env;
}

abbrev pub invariant-chains::enter-loop-i : goal.invariant-chains::enter-loop-i
invariant-chains::enter-loop-i l = record {
  same : IsAsBefore l.fn.env l.env;
  entering : IsEntering (environment_of l.fn.env) l.o l.vs l.fn.expected l.frames.items l.inside l.i;
}

abbrev pub invariant-chains::finish-up : goal.invariant-chains::finish-up
invariant-chains::finish-up l = record {
  same : IsAsBefore l.fn.env l.env;
  finishing : IsFinishing (environment_of l.fn.env) l.o l.vs l.expected l.frames.items l.at l.given;
}

abbrev pub decreases-chains::finish-up : goal.decreases-chains::finish-up
decreases-chains::finish-up l = length l.frames.items

abbrev pub invariant-declarations::declarations-loop-d : goal.invariant-declarations::declarations-loop-d
invariant-declarations::declarations-loop-d l = record {
  so_far : Runs (rule (environment_of l.fn.env) (declarations (decs_on no_decs (take l.d-index l.ds)))) (ok (environment_of l.env));
  grew : GrewFrom l.fn.env l.env;
}

abbrev pub invariant-processes::processes-loop-p : goal.invariant-processes::processes-loop-p
invariant-processes::processes-loop-p l = record {
  so_far : Runs (rule (environment_of l.fn.env) (processes (procs_on no_procs (take l.p-index l.ps)))) (ok tt);
  same : IsAsBefore l.fn.env l.env;
}

abbrev pub invariant-definitions::bodies-loop-d : goal.invariant-definitions::bodies-loop-d
invariant-definitions::bodies-loop-d l = record {
  left : reverse l.rest.items ≡ drop l.d-index l.fn.insides.items;
  past : (ss : List Signature) → AreInside (length (context_of (environment_of l.fn.env))) l.ds l.fn.insides.items ss → ArePast (environment_of l.fn.env) ss l.d-index;
  same : IsAsBefore l.fn.env l.env;
}
