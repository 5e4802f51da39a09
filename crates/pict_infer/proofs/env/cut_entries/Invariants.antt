-- As many as are left stay.
use Rattle.std.proofs.Common.{◌≡◌, ◌-◌, length, drop}
use Rattle.pict_types.specs.PlainContext.{names_of, plain_context}
use Rattle.pict_infer.proofs.env.cut_entries.Given as goal

abbrev pub invariant-loop-context : goal.invariant-loop-context
invariant-loop-context l = record {
  entries : drop (length (plain_context l.context) - l.left) (plain_context l.context) ≡ drop (length (plain_context l.fn.context) - l.left) (plain_context l.fn.context);
  names : names_of l.context ≡ names_of l.fn.context;
}

abbrev pub decreases-loop-context : goal.decreases-loop-context
decreases-loop-context l = length (plain_context l.context)
