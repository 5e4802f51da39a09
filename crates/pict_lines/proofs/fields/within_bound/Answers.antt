-- There is no bound.
use Rattle.std.proofs.Common.{sym, subst}
use Rattle.pict_types.specs.declared.types.Bound.{Bound}
use Rattle.pict_types.specs.Plain.{plain_arg, plain_args, plain_bound}
use Rattle.pict_rules.specs.Rules.{ok}
use Rattle.pict_rules.specs.Derivations.{Runs, give_}
use Rattle.pict_infer.specs.Environments.{environment_of}
use Rattle.pict_lines.specs.Lines.{within_one}
use Rattle.pict_lines.proofs.fields.within_bound.Goals as goal

pub returns-in-Free : goal.returns-in-Free
returns-in-Free c =
    subst (λ (b : Bound). Runs (within_one (environment_of c.args.env.now) c.args.node (plain_bound b) (plain_args c.args.earlier.now) (plain_arg c.args.a.now) c.args.at) (ok tt)) (sym c.in-Free.is) give_

pub returns-in-Operator : goal.returns-in-Operator
returns-in-Operator c =
    subst (λ (b : Bound). Runs (within_one (environment_of c.args.env.now) c.args.node (plain_bound b) (plain_args c.args.earlier.now) (plain_arg c.args.a.now) c.args.at) (ok tt)) (sym c.in-Operator.is) give_
