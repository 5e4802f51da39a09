-- Operator variables, recursive types, and one type field more.
use Rattle.std.proofs.Common.{◌≡◌, suc, ◌+◌, drop, get_or, ◌||◌, false, ◌∙◌, sym, ap, subst, arith}
use Rattle.std.specs.Prelude.{IfOk}
use Rattle.pict_types.specs.Types.{Rec}
use Rattle.pict_types.specs.Measures.{size, size_types}
use Rattle.pict_types.specs.Mentions.{mentions, mentions_types, mentions_bound, mentions_bounds, outside, outside_times}
use Rattle.pict_types.specs.Among.{is_among}
use Rattle.pict_types.specs.Plain.{plain, plain_bound, plain_types, plain_bounds}
use Rattle.pict_types.proofs.Rows.{apply_is, bounds_drop}
use Rattle.pict_types.proofs.mentioning.+mentions.Goals as goal

pub type_mentions-types_mention-requires : goal.type_mentions-types_mention-requires
type_mentions-types_mention-requires t c =
    let e = apply_is c.args.t.now c.in-Apply.i c.in-Apply.ts c.deref-in-Apply.result.now c.in-Apply.is (c.deref-in-Apply.ensures.value ∙ ap (λ v. v.items) c.deref.ensures) in
    let h : size (plain c.args.t.now) ≡ suc (size_types (plain_types c.deref-in-Apply.result.now)) = ap size e in
    (omega (arith, h), tt)

pub type_mentions-returns-else-is_among : goal.type_mentions-returns-else-is_among
type_mentions-returns-else-is_among t c =
    let f = outside_times c.args.under (is_among c.args.variables.now) in
    let e = apply_is c.args.t.now c.in-Apply.i c.in-Apply.ts c.deref-in-Apply.result.now c.in-Apply.is (c.deref-in-Apply.ensures.value ∙ ap (λ v. v.items) c.deref.ensures) in
    let n : f c.in-Apply.i ≡ false = sym c.is_among-in-Apply.ensures ∙ c.if-is_among.false in
    c.in_ok-rest-in-Apply.ensures
    ∙ sym (ap (λ x. x || mentions_types f (plain_types c.deref-in-Apply.result.now)) n)
    ∙ ap (mentions f) (sym e)

pub type_mentions-returns-in_ok-deeper-in-Rec : goal.type_mentions-returns-in_ok-deeper-in-Rec
type_mentions-returns-in_ok-deeper-in-Rec t c =
    let p = is_among c.args.variables.now in
    let b = plain c.deref-in-Rec.result.now in
    let e : plain c.args.t.now ≡ Rec b = ap plain c.in-Rec.is ∙ ap (λ x. Rec (plain x)) (sym c.deref-in-Rec.ensures) in
    let d : c.in_ok-deeper-in-Rec.field-0 ≡ suc c.args.under = c.in_ok-deeper-in-Rec.ensures ∙ omega arith in
    let is : mentions (outside_times c.in_ok-deeper-in-Rec.field-0 p) b ≡ mentions (outside_times c.args.under p) (plain c.args.t.now) =
    ap (λ n. mentions (outside_times n p) b) d ∙ ap (mentions (outside_times c.args.under p)) (sym e) in
    subst (λ x. IfOk c.type_mentions-in-Rec.result (λ r. r ≡ x)) is c.type_mentions-in-Rec.ensures

pub bounds_mention-loop-i-preserved : goal.bounds_mention-loop-i-preserved
bounds_mention-loop-i-preserved t c =
    let bs = c.args.bs.now in
    let i = c.loop-i.i in
    let p = is_among c.args.variables.now in
    let f = outside_times (c.args.under + i) p in
    let b = plain_bound (get_or bs i c.index-bs-i.result) in
    let rest = plain_bounds (drop (i + 1) bs) in
    let said : c.in_ok-bound_mentions.field-0 ≡ mentions_bound f b =
    c.in_ok-bound_mentions.ensures
    ∙ ap (λ n. mentions_bound (outside_times n p) (plain_bound c.index-bs-i.result)) c.in_ok-deeper.ensures
    ∙ ap (λ y. mentions_bound f (plain_bound y)) c.index-bs-i.is in
    let n : mentions_bound f b ≡ false = sym said ∙ c.if-branch.false in
    let next : c.args.under + (i + 1) ≡ suc (c.args.under + i) = omega arith in
    ap (λ k. mentions_bounds (outside_times k p) rest) next
    ∙ sym (ap (λ x. x || mentions_bounds (outside f) rest) n)
    ∙ ap (mentions_bounds f) (sym (bounds_drop bs i c.index-bs-i.result c.loop-i-test.true))
    ∙ c.loop-i.invariant
