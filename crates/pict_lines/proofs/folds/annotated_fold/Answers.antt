-- There is no annotation.
use Rattle.std.proofs.Common.{sym, subst}
use Rattle.pict_syntax.specs.declared.code.Code.TheVariants.{Y7}
use Rattle.pict_rules.specs.Rules.{stuck}
use Rattle.pict_rules.specs.Derivations.{Runs, refuse_}
use Rattle.pict_infer.specs.Environments.{environment_of}
use Rattle.pict_infer.proofs.Forms.{not_annotated}
use Rattle.pict_lines.specs.Lines as lines
use Rattle.pict_lines.proofs.folds.annotated_fold.Goals as goal

pub returns-in-None-clause-answer : goal.returns-in-None-clause-answer
returns-in-None-clause-answer c =
    subst (λ r. Runs (lines.fold_annotated (environment_of c.args.env.now) r c.args.span) (stuck Y7 c.args.span)) (sym (not_annotated c.args.annotation.now c.in-None.is)) refuse_
