-- The items so far are read.
use Rattle.std.proofs.Common.{take}
use Rattle.pict_scope.specs.Held.{each, in_labelled_pat, in_pat_tree}
use Rattle.pict_scope.specs.Reads.{Reads}
use Rattle.pict_scope.proofs.patterns.+patterns.Given as goal

abbrev pub invariant-read_pats-loop-p : goal.invariant-read_pats-loop-p
invariant-read_pats-loop-p l = Reads (each in_pat_tree (take l.p-index l.ps)) l.fn.r l.r

abbrev pub invariant-read_labelled_pats-loop-l : goal.invariant-read_labelled_pats-loop-l
invariant-read_labelled_pats-loop-l l = Reads (each in_labelled_pat (take l.l-index l.ls)) l.fn.r l.r
