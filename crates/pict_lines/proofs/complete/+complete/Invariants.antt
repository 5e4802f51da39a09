-- Whether all so far are complete.
use Rattle.std.proofs.Common.{◌≡◌, take}
use Rattle.pict_syntax.specs.PlainTrees.{labelled_pats_on, pats_on}
use Rattle.pict_syntax.specs.Trees.{no_labelled_pats, no_pats}
use Rattle.pict_rules.specs.Complete.{are_complete, are_labels_complete}
use Rattle.pict_infer.specs.Environments.{known_entries, known_names, IsAsBefore}
use Rattle.pict_lines.proofs.complete.+complete.Given as goal

abbrev pub invariant-are_complete-loop-p : goal.invariant-are_complete-loop-p
invariant-are_complete-loop-p l = record {
  so_far : l.complete ≡ are_complete (known_names l.fn.env) (known_entries l.fn.env) (pats_on no_pats (take l.p-index l.ps));
  same : IsAsBefore l.fn.env l.env;
}

abbrev pub invariant-are_labels_complete-loop-l : goal.invariant-are_labels_complete-loop-l
invariant-are_labels_complete-loop-l l = record {
  so_far : l.complete ≡ are_labels_complete (known_names l.fn.env) (known_entries l.fn.env) (labelled_pats_on no_labelled_pats (take l.l-index l.ls));
  same : IsAsBefore l.fn.env l.env;
}
