-- There is no annotation.
use Rattle.std.proofs.Common.{sym, subst}
use Rattle.pict_syntax.specs.Trees.{any_pat}
use Rattle.pict_types.specs.Plain.{plain}
use Rattle.pict_rules.specs.Rules.{ok, pattern_against}
use Rattle.pict_rules.specs.Typing.{rule}
use Rattle.pict_rules.specs.Derivations.{Runs}
use Rattle.pict_infer.specs.Adding.{extension_of}
use Rattle.pict_infer.specs.Places.{environment_in}
use Rattle.pict_infer.proofs.Forms.{not_annotated}
use Rattle.pict_infer.proofs.PatternLines.{any_alone}
use Rattle.pict_infer.proofs.against.any_against.Goals as goal

pub returns-in-None-clause-answer : goal.returns-in-None-clause-answer
returns-in-None-clause-answer c =
    let e = environment_in c.args.c.now in
    let t = plain c.args.t.now in
    subst (λ r. Runs (rule e (pattern_against (any_pat c.args.span r) t)) (ok (extension_of c.nothing.result))) (sym (not_annotated c.args.annotation.now c.in-None.is))
    (any_alone e c.args.span t (extension_of c.nothing.result) c.nothing.ensures.nothing)
