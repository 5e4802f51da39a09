-- The items so far are read.
use Rattle.std.proofs.Common.{take}
use Rattle.pict_scope.specs.Held.{each, in_dec_tree, in_definition, in_labelled_val, in_proc_tree, in_val_tree}
use Rattle.pict_scope.specs.Reads.{Reads}
use Rattle.pict_scope.proofs.values.+values.Given as goal

abbrev pub invariant-read_vals-loop-v : goal.invariant-read_vals-loop-v
invariant-read_vals-loop-v l = Reads (each in_val_tree (take l.v-index l.vs)) l.fn.r l.r

abbrev pub invariant-read_labelled_vals-loop-l : goal.invariant-read_labelled_vals-loop-l
invariant-read_labelled_vals-loop-l l = Reads (each in_labelled_val (take l.l-index l.ls)) l.fn.r l.r

abbrev pub invariant-read_procs-loop-p : goal.invariant-read_procs-loop-p
invariant-read_procs-loop-p l = Reads (each in_proc_tree (take l.p-index l.ps)) l.fn.r l.r

abbrev pub invariant-read_decs-loop-d : goal.invariant-read_decs-loop-d
invariant-read_decs-loop-d l = Reads (each in_dec_tree (take l.d-index l.ds)) l.fn.r l.r

abbrev pub invariant-read_each_definition-loop-d : goal.invariant-read_each_definition-loop-d
invariant-read_each_definition-loop-d l = Reads (each in_definition (take l.d-index l.ds)) l.fn.r l.r
