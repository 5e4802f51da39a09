-- The type variables that are open and those that are left are all.
use Rattle.std.proofs.Common.{◌≡◌, ◌≤◌, ◌++◌, length, map, vec_len}
use Rattle.pict_types.specs.PlainContext.{names_of, plain_context, type_context}
use Rattle.pict_rules.specs.Environments.{entries_of}
use Rattle.pict_infer.specs.Knowing.{known_type, known_types}
use Rattle.pict_infer.proofs.env.add_types.Given as goal

abbrev pub invariant-loop-b : goal.invariant-loop-b
invariant-loop-b l = record {
  all : entries_of (map known_type l.rest.items) ++ plain_context l.context ≡ entries_of (known_types l.fn.binders.items) ++ plain_context l.fn.context;
  names : names_of l.context ≡ names_of l.fn.context;
  grows : length (type_context l.fn.context) ≤ length (type_context l.context);
}

abbrev pub decreases-loop-b : goal.decreases-loop-b
decreases-loop-b l = vec_len l.rest
