-- The raw form with what the entries mean put into it is the normal form.
use Rattle.pict_syntax.specs.declared.limits.TheConstants.{HEIGHT_LIMIT}
use Rattle.std.proofs.Common.{◌≡◌, ◌≤◌, ◌<◌, ℕ, List, [], Some, None, sym, ◌∙◌, ap, subst, arith, rules}
use Rattle.std.specs.Prelude.{IfSome, IfNone}
use Rattle.std.specs.Result.{IsOkAnd}
use Rattle.std.proofs.lemmas.Result.{IfOk-weaker}
use Rattle.pict_syntax.specs.declared.code.Code.TheVariants.{K4}
use Rattle.pict_syntax.specs.declared.span.Span.{Span}
use Rattle.pict_syntax.specs.Trees.{TypeTree}
use Rattle.pict_syntax.specs.PlainTrees.{type_of}
use Rattle.pict_types.specs.Kinds.{IsWellFormed, kinds}
use Rattle.pict_normal.specs.declared.made.MakeError.{MakeError}
use Rattle.pict_normal.specs.declared.made.MakeError.TheVariants.{TooHeavy, Memory}
use Rattle.pict_normal.specs.Made.{IsReason}
use Rattle.pict_types.specs.Measures.{weight_of, height_of}
use Rattle.pict_normal.specs.Meanings.{entry_kinds, meanings}
use Rattle.pict_normal.specs.Normal.{kind_stop, kind_stops, normal, size_stop}
use Rattle.pict_types.specs.Entries.{PlainContext, variables}
use Rattle.pict_types.specs.Plain.{plain}
use Rattle.pict_types.specs.PlainContext.{names_of, plain_context, type_context}
use Rattle.pict_normal.specs.Refusals.{IsRefusal, kind_error}
use Rattle.pict_types.specs.Replacing.{replace}
use Rattle.pict_types.specs.WithinLimits.{IsWithinLimits}
use Rattle.pict_normal.proofs.RawNormal.{raw_normal}
use Rattle.pict_normal.proofs.RawFormed.{raw_formed}
use Rattle.pict_normal.proofs.RawSteps.{passed_up}
use Rattle.pict_normal.proofs.Making.{err_both, ok_both}
use Rattle.pict_normal.proofs.Expanded.{normal_formed, allowed, refused_whole, first_refusal}
use Rattle.pict_normal.proofs.expansion.expand.Goals as goal
use Rattle.pict_syntax.specs.Grammar.{type_span}

pub made_entries-requires : goal.made_entries-requires
made_entries-requires c =
    let ns = names_of c.args.c.now in
    let d = plain_context c.args.c.now in
    record { formed = subst (IsWellFormed ns (entry_kinds d)) (sym c.in_ok-raw.ensures.raw) (raw_formed ns d (type_of c.args.t.now) c.requires.labels c.in_ok-raw.ensures.kinds) }

pub returns-in_err-raw-clause-refused : goal.returns-in_err-raw-clause-refused
returns-in_err-raw-clause-refused c =
    let ns = names_of c.args.c.now in
    let d = plain_context c.args.c.now in
    let t = type_of c.args.t.now in
    passed_up _ c.in_err-raw.field-0.0 (λ e. IsRefusal (kind_stop ns d t) e) (search rules)
    (first_refusal (kind_stops ns d t) (size_stop d (normal ns d t) (type_span t)) c.in_err-raw.field-0.0 c.in_err-raw.ensures.first)

pub returns-clause-normal : goal.returns-clause-normal
returns-clause-normal c =
    let ns = names_of c.args.c.now in
    let d = plain_context c.args.c.now in
    let t = type_of c.args.t.now in
    let is : replace (meanings d) (plain c.in_ok-raw.raw) ≡ normal ns d t = ap (replace (meanings d)) c.in_ok-raw.ensures.raw ∙ sym (raw_normal ns d t c.in_ok-raw.ensures.kinds) in
    IfOk-weaker c.kept.result (λ u. IsOkAnd c.made_entries.result (λ m. m.ty ≡ Some u)) (λ u. plain u ≡ normal ns d t)
    (λ u p. ok_both c.made_entries.result (λ m h e. subst (λ o. IfSome o (λ v. plain v ≡ replace (meanings d) (plain c.in_ok-raw.raw))) e h.made ∙ is) c.made_entries.ensures.made p)
    c.kept.ensures.ok

pub returns-clause-formed : goal.returns-clause-formed
returns-clause-formed c =
    let ns = names_of c.args.c.now in
    let d = plain_context c.args.c.now in
    let t = type_of c.args.t.now in
    let ks = kinds (type_context c.args.c.now) in
    IfOk-weaker c.kept.result (λ u. plain u ≡ normal ns d t) (λ u. IsWellFormed ns ks (plain u))
    (λ u p. subst (IsWellFormed ns ks) (sym p) (normal_formed ns d t c.args.c.now.formed c.requires.labels c.in_ok-raw.ensures.kinds))
    (returns-clause-normal c)

pub returns-clause-allowed : goal.returns-clause-allowed
returns-clause-allowed c =
    let ns = names_of c.args.c.now in
    let d = plain_context c.args.c.now in
    let t = type_of c.args.t.now in
    let is : replace (meanings d) (plain c.in_ok-raw.raw) ≡ normal ns d t = ap (replace (meanings d)) c.in_ok-raw.ensures.raw ∙ sym (raw_normal ns d t c.in_ok-raw.ensures.kinds) in
    let w = ap (weight_of (type_context c.args.c.now)) is in
    let r = ap (height_of (type_context c.args.c.now)) is in
    IfOk-weaker c.kept.result (λ u. IsOkAnd c.made_entries.result (λ m. m.ty ≡ Some u)) (λ u. kind_stop ns d t ≡ None)
    (λ u p. ok_both c.made_entries.result (λ m h e.
    let low = subst (λ o. IfSome o (λ v. m.measures.height ≤ HEIGHT_LIMIT)) e h.low in
    allowed ns d t c.in_ok-raw.ensures.kinds (omega (arith, w, h.weight, h.light)) (omega (arith, r, h.height, low))) c.made_entries.ensures.made p)
    c.kept.ensures.ok

pub returns-clause-within : goal.returns-clause-within
returns-clause-within c =
    let d = plain_context c.args.c.now in
    let k = type_context c.args.c.now in
    let t = replace (meanings d) (plain c.in_ok-raw.raw) in
    IfOk-weaker c.kept.result (λ u. IsOkAnd c.made_entries.result (λ m. m.ty ≡ Some u)) (λ u. IsWithinLimits k (plain u))
    (λ u p. ok_both c.made_entries.result (λ m h e.
    let same : plain u ≡ t = subst (λ o. IfSome o (λ v. plain v ≡ t)) e h.made in
    let low : m.measures.height ≤ HEIGHT_LIMIT = subst (λ o. IfSome o (λ v. m.measures.height ≤ HEIGHT_LIMIT)) e h.low in
    let w = ap (weight_of k) same in
    let r = ap (height_of k) same in
    (omega (arith, w, h.weight, h.light), omega (arith, r, h.height, low))) c.made_entries.ensures.made p)
    c.kept.ensures.ok

refused_by : (ns : List (List ℕ)) (d : PlainContext) (t : TypeTree) (s : Span) (reason : MakeError) (n : ℕ) → s ≡ type_span t → kind_stops ns d t ≡ [] → n ≡ weight_of (variables d) (normal ns d t) → IsReason n reason → IsRefusal (kind_stop ns d t) (kind_error s reason)
refused_by ns d t s TooHeavy n e k w h = refused_whole ns d t k (λ a b. omega (arith, a, w, h)) ∙ ap (λ x. Some (K4, x)) (sym e)
refused_by ns d t s Memory n e k w h = tt

pub returns-clause-refused : goal.returns-clause-refused
returns-clause-refused c =
    let ns = names_of c.args.c.now in
    let d = plain_context c.args.c.now in
    let t = type_of c.args.t.now in
    let is : replace (meanings d) (plain c.in_ok-raw.raw) ≡ normal ns d t = ap (replace (meanings d)) c.in_ok-raw.ensures.raw ∙ sym (raw_normal ns d t c.in_ok-raw.ensures.kinds) in
    let w = ap (weight_of (type_context c.args.c.now)) is in
    let r = ap (height_of (type_context c.args.c.now)) is in
    let none = c.in_ok-raw.ensures.kinds in
    err_both c.kept.result c.made_entries.result (λ m h e p.
    let missing : HEIGHT_LIMIT < m.measures.height = subst (λ o. IfNone o (HEIGHT_LIMIT < m.measures.height)) p.0 h.missing in
    subst (λ x. IsRefusal (kind_stop ns d t) x) (sym p.1)
    (refused_whole ns d t none (λ a b. omega (arith, b, r, h.height, missing)) ∙ ap (λ s. Some (K4, s)) (sym c.span_of.ensures)))
    (λ y h e p. subst (λ x. IsRefusal (kind_stop ns d t) x) (sym p) (refused_by ns d t c.span_of.result y (weight_of (type_context c.args.c.now) (replace (meanings d) (plain c.in_ok-raw.raw))) c.span_of.ensures none w h))
    c.made_entries.ensures.made c.made_entries.ensures.reason c.kept.ensures.missing c.kept.ensures.reason
