-- The arguments so far.
use Rattle.std.proofs.Common.{take}
use Rattle.pict_syntax.specs.PlainTrees.{types_on}
use Rattle.pict_syntax.specs.Trees.{no_types}
use Rattle.pict_types.specs.Plain.{plain_args, plain_bounds}
use Rattle.pict_rules.specs.Rules.{ok, written_arguments}
use Rattle.pict_rules.specs.Typing.{rule}
use Rattle.pict_rules.specs.Derivations.{Runs}
use Rattle.pict_infer.specs.Environments.{environment_of}
use Rattle.pict_lines.proofs.records.written_arguments.Given as goal

abbrev pub invariant-loop-i : goal.invariant-loop-i
invariant-loop-i l = Runs (rule (environment_of l.env) (written_arguments l.span (types_on no_types (take l.i l.ts)) (plain_bounds l.bs))) (ok (plain_args l.args.items))
