-- The items so far are those of the patterns so far.
use Rattle.std.proofs.Common.{◌≡◌, take}
use Rattle.pict_syntax.specs.Trees.{no_pats, no_labelled_pats}
use Rattle.pict_syntax.specs.PlainTrees.{pats_on, labelled_pats_on}
use Rattle.pict_unused.specs.Items.{then_pats, then_labelled_pats}
use Rattle.pict_unused.proofs.patterns.+patterns.Given as goal

abbrev pub invariant-patterns-loop-p : goal.invariant-patterns-loop-p
invariant-patterns-loop-p l = l.out.items ≡ then_pats l.fn.out.items (pats_on no_pats (take l.p-index l.ps))

abbrev pub invariant-labelled_patterns-loop-l : goal.invariant-labelled_patterns-loop-l
invariant-labelled_patterns-loop-l l = l.out.items ≡ then_labelled_pats l.fn.out.items (labelled_pats_on no_labelled_pats (take l.l-index l.ls))
