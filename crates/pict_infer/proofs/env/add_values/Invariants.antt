-- The values that are known and those that are left are all.
use Rattle.std.proofs.Common.{◌≡◌, ◌++◌, reverse, vec_len}
use Rattle.pict_infer.specs.Knowing.{names_known}
use Rattle.pict_infer.proofs.env.add_values.Given as goal

abbrev pub invariant-loop-known : goal.invariant-loop-known
invariant-loop-known l = record {
  all : l.values.items ++ reverse l.rest.items ≡ l.fn.values.items ++ l.fn.added.items;
  named : l.names ≡ names_known l.values.items;
}

abbrev pub decreases-loop-known : goal.decreases-loop-known
decreases-loop-known l = vec_len l.rest
