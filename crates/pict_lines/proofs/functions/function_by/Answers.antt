-- The fields of the record are a copy.
use Rattle.std.proofs.Common.{◌≡◌, ◌∙◌, sym, subst, Some, None}
use Rattle.std.specs.Prelude.{IfNone, IfOk, IfSome}
use Rattle.pict_types.proofs.Rows.{record_is}
use Rattle.pict_rules.specs.Shapes.{function_by, respond_or_write}
use Rattle.pict_lines.specs.Functions.{function_of}
use Rattle.pict_lines.proofs.functions.function_by.Goals as goal

pub returns-in_ok-copy-in-Fields-clause-none : goal.returns-in_ok-copy-in-Fields-clause-none
returns-in_ok-copy-in-Fields-clause-none c =
    let t = c.args.r.now in
    let same = c.in_ok-copy-in-Fields.ensures.same ∙ sym (record_is t c.in-Fields.r c.deref.result.now c.in-Fields.is c.deref.ensures) in
    subst (λ u. IfOk c.function_in.result (λ o. IfNone o (function_by (λ bs. respond_or_write) u ≡ None))) same c.function_in.ensures.none

pub returns-in_ok-copy-in-Fields-clause-some : goal.returns-in_ok-copy-in-Fields-clause-some
returns-in_ok-copy-in-Fields-clause-some c =
    let t = c.args.r.now in
    let same = c.in_ok-copy-in-Fields.ensures.same ∙ sym (record_is t c.in-Fields.r c.deref.result.now c.in-Fields.is c.deref.ensures) in
    subst (λ u. IfOk c.function_in.result (λ o. IfSome o (λ f. function_by (λ bs. respond_or_write) u ≡ Some (function_of f)))) same c.function_in.ensures.some
