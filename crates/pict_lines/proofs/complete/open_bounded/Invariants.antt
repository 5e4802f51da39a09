-- The type binders so far are open, and known by their names and kinds.
use Rattle.std.proofs.Common.{◌≡◌, take}
use Rattle.pict_syntax.specs.PlainTrees.{binders_on}
use Rattle.pict_syntax.specs.Trees.{no_binders}
use Rattle.pict_normal.specs.BinderEntries.{entries_under}
use Rattle.pict_rules.specs.Complete.{are_bounded}
use Rattle.pict_infer.specs.Environments.{known_entries, known_names, GrewFrom}
use Rattle.pict_lines.proofs.complete.open_bounded.Given as goal

abbrev pub invariant-loop-b : goal.invariant-loop-b
invariant-loop-b l = record {
  so_far : l.bounded ≡ are_bounded (known_names l.fn.env) (known_entries l.fn.env) (binders_on no_binders (take l.b-index l.bs));
  entries : known_entries l.env ≡ entries_under (known_entries l.fn.env) (binders_on no_binders (take l.b-index l.bs));
  grew : GrewFrom l.fn.env l.env;
}
