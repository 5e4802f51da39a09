use Rattle.std.proofs.Common.{◌≡◌, ◌∷◌, [], ◌++◌, ℕ, List, length, map, take, drop}
use Rattle.pict_syntax.specs.Trees.{no_vals, no_labelled_vals, no_decs, no_procs, no_definitions}
use Rattle.pict_syntax.specs.PlainTrees.{vals_on, labelled_vals_on, decs_on, procs_on, definitions_on}
use Rattle.pict_core.specs.Term.{Val, Var}
use Rattle.pict_core.specs.Plain.{plain_val}
use Rattle.pict_translation.specs.Arguments.{right, left}
use Rattle.pict_translation.specs.Placed.{Placed, served, side_by_side, variables}
use Rattle.pict_translation.specs.Simple.{Around, use_of}
use Rattle.pict_translation.specs.Translation.{with_vals, with_labelled, decs_core, procs_core, servers, arguments}
use Rattle.pict_derive.specs.Built.{Extends, field_of, place, surround}
use Rattle.pict_derive.proofs.BuildSteps.{argument_of, process_of, server_of}
use Rattle.pict_derive.proofs.build.+build.Given as goal

-- the values so far are taken, and the names are as they were
abbrev pub invariant-values-loop-tree : goal.invariant-values-loop-tree
invariant-values-loop-tree l = record {
  built : (f : List Val → Placed) → surround l.fn.outer (with_vals (place l.names l.fn.scope) (vals_on no_vals (take l.tree-index l.trees)) f) ≡ surround l.outer (f (map plain_val l.found.items));
  same : l.scope ≡ l.fn.scope;
}

abbrev pub invariant-labelled-loop-tree : goal.invariant-labelled-loop-tree
invariant-labelled-loop-tree l = record {
  built : (f : List (ℕ × Val) → Placed) → surround l.fn.outer (with_labelled (place l.names l.fn.scope) (labelled_vals_on no_labelled_vals (take l.tree-index l.trees)) f) ≡ surround l.outer (f (map field_of l.found.items));
  same : l.scope ≡ l.fn.scope;
}

-- the declarations so far stand around the rest
abbrev pub invariant-decs-loop-tree : goal.invariant-decs-loop-tree
invariant-decs-loop-tree l = record {
  built : (rest : Around → Placed) → surround l.fn.outer (decs_core (place l.names l.fn.scope) (decs_on no_decs (take l.tree-index l.trees)) rest) ≡ surround l.outer (rest (place l.names l.scope));
  grown : Extends l.fn.scope l.scope;
}

-- what is left is still to be put there
abbrev pub invariant-serve-loop-part : goal.invariant-serve-loop-part
invariant-serve-loop-part l = record {
  built : (rest : Placed) → surround l.fn.outer (served (servers (place l.names l.fn.scope) (definitions_on no_definitions l.parts)) (variables l.first (length l.parts)) rest) ≡ surround l.outer (served (map (server_of (place l.names l.fn.scope)) (drop l.part-index l.parts)) (variables l.level (length (drop l.part-index l.parts))) rest);
  same : l.scope ≡ l.fn.scope;
}

abbrev pub invariant-group-loop-tree : goal.invariant-group-loop-tree
invariant-group-loop-tree l = record {
  built : side_by_side (procs_core (place l.names l.fn.scope) (procs_on no_procs l.fn.trees)) l.fn.depth ≡ surround l.outer (side_by_side (map (process_of (place l.names l.fn.scope)) (drop l.tree-index l.before) ++ process_of (place l.names l.fn.scope) l.last ∷ []));
  same : l.scope ≡ l.fn.scope;
}

abbrev pub invariant-right-loop-tree : goal.invariant-right-loop-tree
invariant-right-loop-tree l = record {
  built : (right (use_of (place l.names l.fn.scope) l.head.0) l.at (arguments (place l.names l.fn.scope) (vals_on no_vals l.fn.trees))).sent (Var l.fn.k) l.fn.depth
      ≡ surround l.outer ((right (use_of (place l.names l.fn.scope) l.head.0) l.at (map (argument_of (place l.names l.fn.scope)) (drop l.tree-index l.first) ++ argument_of (place l.names l.fn.scope) l.second ∷ argument_of (place l.names l.fn.scope) l.last ∷ [])).sent (Var l.answer));
  same : l.scope ≡ l.fn.scope;
}

abbrev pub invariant-left-loop-tree : goal.invariant-left-loop-tree
invariant-left-loop-tree l = record {
  built : (left (use_of (place l.names l.fn.scope) l.head.0) l.at (arguments (place l.names l.fn.scope) (vals_on no_vals l.fn.trees))).sent (Var l.fn.k) l.fn.depth
      ≡ surround l.outer ((left (use_of (place l.names l.fn.scope) l.head.0) l.at (argument_of (place l.names l.fn.scope) l.first ∷ argument_of (place l.names l.fn.scope) l.second ∷ map (argument_of (place l.names l.fn.scope)) l.tree-iterator.iter.rest.now)).sent (Var l.answer));
  same : l.scope ≡ l.fn.scope;
}
