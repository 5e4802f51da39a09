-- The parameters so far are open.
use Rattle.std.proofs.Common.{◌≡◌, take}
use Rattle.pict_rules.specs.Clauses.{with_parameters_named}
use Rattle.pict_infer.specs.Environments.{known_entries, GrewFrom}
use Rattle.pict_lines.proofs.types.open_parameters.Given as goal

abbrev pub invariant-loop-x : goal.invariant-loop-x
invariant-loop-x l = record {
  entries : known_entries l.env ≡ with_parameters_named (take l.x-index l.params) (known_entries l.fn.env);
  grew : GrewFrom l.fn.env l.env;
}
