-- There is no annotation.
use Rattle.std.proofs.Common.{◌∙◌, ap, sym, subst}
use Rattle.pict_syntax.specs.Trees.{bind_pat}
use Rattle.pict_types.specs.Plain.{plain}
use Rattle.pict_rules.specs.Environments.{one_value}
use Rattle.pict_rules.specs.Rules.{ok, pattern_against}
use Rattle.pict_rules.specs.Typing.{rule}
use Rattle.pict_rules.specs.Derivations.{Runs}
use Rattle.pict_infer.specs.Adding.{extension_of}
use Rattle.pict_infer.specs.Places.{environment_in}
use Rattle.pict_infer.proofs.Forms.{not_annotated}
use Rattle.pict_infer.proofs.PatternLines.{variable_alone}
use Rattle.pict_infer.proofs.against.variable_against.Goals as goal

pub returns-in_ok-value-in-None-clause-answer : goal.returns-in_ok-value-in-None-clause-answer
returns-in_ok-value-in-None-clause-answer c =
    let e = environment_in c.args.c.now in
    let t = plain c.args.t.now in
    let x = extension_of c.in_ok-value-in-None.field-0 in
    subst (λ r. Runs (rule e (pattern_against (bind_pat c.args.span c.args.id r) t)) (ok x)) (sym (not_annotated c.args.annotation.now c.in-None.is))
    (variable_alone e c.args.span c.args.id t x (c.in_ok-value-in-None.ensures.value ∙ ap (one_value c.args.id) c.in_ok-copy-in-None.ensures.same))
