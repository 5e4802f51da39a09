-- A type within the limits, and one past a limit.
use Rattle.std.proofs.Common.{◌≤◌, ◌∙◌, ap, Some, arith}
use Rattle.pict_syntax.specs.declared.limits.TheConstants.{HEIGHT_LIMIT, WEIGHT_LIMIT}
use Rattle.pict_syntax.specs.declared.code.Code.TheVariants.{K4}
use Rattle.pict_types.specs.Measures.{weight_of, height_of}
use Rattle.pict_types.specs.Plain.{plain}
use Rattle.pict_types.specs.PlainContext.{plain_context, type_context}
use Rattle.pict_normal.specs.Normal.{size_stop}
use Rattle.pict_rules.specs.Clauses.{done}
use Rattle.pict_rules.specs.Derivations.{give_}
use Rattle.pict_infer.specs.declared.error.InferError.TheVariants.{Named}
use Rattle.pict_infer.specs.declared.error.Told.TheVariants.{Nothing}
use Rattle.pict_infer.proofs.Forming.{clear, stopped, size_past, past_limit}
use Rattle.pict_infer.proofs.formed.within_limits.Goals as goal
use Rattle.pict_normal.proofs.Expanded.{size_clear}

pub returns-in-None : goal.returns-in-None
returns-in-None c =
    let d = plain_context c.args.c.now in
    let t = plain c.args.t.now in
    let w : weight_of (type_context c.args.c.now) t ≤ WEIGHT_LIMIT = omega (arith, c.measures.ensures.weight, c.in-None.ensures.none.0) in
    let h : height_of (type_context c.args.c.now) t ≤ HEIGHT_LIMIT = omega (arith, c.measures.ensures.height, c.in-None.ensures.none.1) in
    clear (size_stop d t c.args.span) (size_clear d t c.args.span w h) give_

pub returns-in-Some : goal.returns-in-Some
returns-in-Some c =
    let d = plain_context c.args.c.now in
    let t = plain c.args.t.now in
    let m = c.measures.result in
    stopped (size_stop d t c.args.span) done (Named K4 c.args.span Nothing) (size_past d t c.args.span (λ a b.
    past_limit c.in-Some.field-0 m.weight m.height (λ e. c.too_big.ensures.weight (c.in-Some.is ∙ ap Some e)) (λ e. (c.too_big.ensures.height (c.in-Some.is ∙ ap Some e)).1)
    (omega (arith, a, c.measures.ensures.weight)) (omega (arith, b, c.measures.ensures.height))))
