-- The patterns so far give what is kept so far, and the context is as it was.
use Rattle.std.proofs.Common.{◌≡◌, length, take}
use Rattle.pict_syntax.specs.Trees.{no_labelled_pats, no_pats}
use Rattle.pict_syntax.specs.PlainTrees.{labelled_pats_on, pats_on}
use Rattle.pict_types.specs.Plain.{plain_labels, plain_types}
use Rattle.pict_types.specs.PlainContext.{names_of, type_context}
use Rattle.pict_normal.proofs.LabelOrder.{in_order}
use Rattle.pict_rules.specs.Rules.{labelled_patterns_give, ok, patterns_give}
use Rattle.pict_rules.specs.Typing.{rule}
use Rattle.pict_rules.specs.Derivations.{Runs}
use Rattle.pict_infer.specs.Adding.{extension_of}
use Rattle.pict_infer.specs.Places.{environment_in}
use Rattle.pict_infer.proofs.giving.+giving.Given as goal

abbrev pub invariant-give_all-loop-p : goal.invariant-give_all-loop-p
invariant-give_all-loop-p l = record {
  so_far : Runs (rule (environment_in l.fn.c) (patterns_give (pats_on no_pats (take l.p-index l.ps)))) (ok (record { have = plain_types l.have.items; adds = extension_of l.adds }));
  base : l.adds.base ≡ length (type_context l.fn.c);
  same : environment_in l.c ≡ environment_in l.fn.c;
}

abbrev pub invariant-give_labelled-loop-l : goal.invariant-give_labelled-loop-l
invariant-give_labelled-loop-l l = record {
  so_far : Runs (rule (environment_in l.fn.c) (labelled_patterns_give (labelled_pats_on no_labelled_pats (take l.l-index l.ls))))
      (ok (record { have = in_order (names_of l.fn.c) (plain_labels l.have.items); adds = extension_of l.adds }));
  base : l.adds.base ≡ length (type_context l.fn.c);
  same : environment_in l.c ≡ environment_in l.fn.c;
}
