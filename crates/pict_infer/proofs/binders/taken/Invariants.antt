-- The variables that were taken and the entries that are left are all.
use Rattle.std.proofs.Common.{◌≡◌, ◌≤◌, ◌+◌, ◌-◌, ◌++◌, length, map, vec_len}
use Rattle.std.specs.Vec.{vec_capacity}
use Rattle.pict_types.specs.PlainContext.{names_of, plain_context}
use Rattle.pict_rules.specs.Environments.{entries_of}
use Rattle.pict_infer.specs.Knowing.{known_type}
use Rattle.pict_infer.specs.Places.{IsUnderVariables}
use Rattle.pict_infer.proofs.binders.taken.Given as goal

abbrev pub invariant-loop-c : goal.invariant-loop-c
invariant-loop-c l = record {
  under : IsUnderVariables l.left (plain_context l.c);
  taken : plain_context l.fn.c ≡ entries_of (map known_type l.own.items) ++ plain_context l.c;
  names : names_of l.c ≡ names_of l.fn.c;
  room : vec_len l.own + (length (plain_context l.c) - l.left) ≤ vec_capacity l.own;
}

abbrev pub decreases-loop-c : goal.decreases-loop-c
decreases-loop-c l = length (plain_context l.c)
