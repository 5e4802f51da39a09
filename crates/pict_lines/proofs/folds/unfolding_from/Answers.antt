-- A recursive type, and its unfolding.
use Rattle.std.proofs.Common.{rules}
use Rattle.pict_types.specs.Plain.{plain}
use Rattle.pict_infer.specs.Environments.{environment_of}
use Rattle.pict_lines.proofs.Stepping.{fold_unfolds, recursive_is, recursive_refused}
use Rattle.pict_lines.proofs.folds.unfolding_from.Goals as goal

pub returns-in_err-recursive-clause-answer : goal.returns-in_err-recursive-clause-answer
returns-in_err-recursive-clause-answer c = search (rules, recursive_refused)

pub unfolded-requires-clause-recursive : goal.unfolded-requires-clause-recursive
unfolded-requires-clause-recursive c = recursive_is (plain c.args.t.now) c.args.at c.in_ok-recursive.ensures

pub returns-clause-answer : goal.returns-clause-answer
returns-clause-answer c =
    fold_unfolds plain (environment_of c.args.env.now) (plain c.args.t.now) c.args.at c.args.span c.unfolded.result (recursive_is (plain c.args.t.now) c.args.at c.in_ok-recursive.ensures) c.unfolded.ensures.answer
