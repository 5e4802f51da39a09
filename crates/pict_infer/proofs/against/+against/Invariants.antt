-- What the patterns so far add is kept, and the context is as it was.
use Rattle.std.proofs.Common.{◌≡◌, length, take}
use Rattle.pict_syntax.specs.Trees.{no_labelled_pats, no_pats}
use Rattle.pict_syntax.specs.PlainTrees.{labelled_pats_on, pats_on}
use Rattle.pict_types.specs.Plain.{plain_labels, plain_types}
use Rattle.pict_types.specs.PlainContext.{type_context}
use Rattle.pict_rules.specs.Rules.{labelled_patterns_against, ok, patterns_against}
use Rattle.pict_rules.specs.Typing.{rule}
use Rattle.pict_rules.specs.Derivations.{Runs}
use Rattle.pict_infer.specs.Adding.{extension_of}
use Rattle.pict_infer.specs.Places.{environment_in}
use Rattle.pict_infer.proofs.against.+against.Given as goal

abbrev pub invariant-all_against-loop-i : goal.invariant-all_against-loop-i
invariant-all_against-loop-i l = record {
  so_far : Runs (rule (environment_in l.fn.c) (patterns_against (pats_on no_pats (take l.i l.ps)) (plain_types l.ts))) (ok (extension_of l.added));
  base : l.added.base ≡ length (type_context l.fn.c);
  same : environment_in l.c ≡ environment_in l.fn.c;
}

abbrev pub invariant-labelled_against-loop-l : goal.invariant-labelled_against-loop-l
invariant-labelled_against-loop-l l = record {
  so_far : Runs (rule (environment_in l.fn.c) (labelled_patterns_against (labelled_pats_on no_labelled_pats (take l.l-index l.ls)) (plain_labels l.fields))) (ok (extension_of l.added));
  base : l.added.base ≡ length (type_context l.fn.c);
  same : environment_in l.c ≡ environment_in l.fn.c;
}
