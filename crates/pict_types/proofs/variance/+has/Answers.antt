-- Operator variables, and one type field more.
use Rattle.std.proofs.Common.{◌≡◌, suc, ◌+◌, drop, get_or, ◌||◌, true, false, ◌∙◌, sym, ap, arith}
use Rattle.pict_types.specs.Measures.{size, size_types}
use Rattle.pict_types.specs.Mentions.{mentions, mentions_types, mentions_bound, mentions_bounds, outside}
use Rattle.pict_types.specs.Variance.{only}
use Rattle.pict_types.specs.Bodies.{seen}
use Rattle.pict_types.specs.Plain.{plain, plain_bound, plain_types, plain_bounds}
use Rattle.pict_types.proofs.Rows.{apply_is, bounds_drop}
use Rattle.pict_types.proofs.Bodies.{outside_only, past_take}
use Rattle.pict_types.proofs.variance.+has.Goals as goal

pub type_has-types_have-requires : goal.type_has-types_have-requires
type_has-types_have-requires t c =
    let e = apply_is c.args.t.now c.in-Apply.i c.in-Apply.ts c.deref-else-is_parameter.result.now c.in-Apply.is (c.deref-else-is_parameter.ensures.value ∙ ap (λ v. v.items) c.deref.ensures) in
    let h : size (plain c.args.t.now) ≡ suc (size_types (plain_types c.deref-else-is_parameter.result.now)) = ap size e in
    (omega (arith, h), tt)

pub type_has-returns-else-is_parameter : goal.type_has-returns-else-is_parameter
type_has-returns-else-is_parameter t c =
    let f = only (seen c.args.body.now c.args.x) in
    let e = apply_is c.args.t.now c.in-Apply.i c.in-Apply.ts c.deref-else-is_parameter.result.now c.in-Apply.is (c.deref-else-is_parameter.ensures.value ∙ ap (λ v. v.items) c.deref.ensures) in
    let n : f c.in-Apply.i ≡ false = sym c.is_parameter-in-Apply.ensures ∙ c.if-is_parameter.false in
    c.types_have.ensures
    ∙ sym (ap (λ x. x || mentions_types f (plain_types c.deref-else-is_parameter.result.now)) n)
    ∙ ap (mentions f) (sym e)

pub bounds_have-returns-then-bound_has : goal.bounds_have-returns-then-bound_has
bounds_have-returns-then-bound_has t c =
    let bs = c.args.bs.now in
    let i = c.loop-i.i in
    let y = seen c.args.body.now c.args.x in
    let f = only (i + y) in
    let b = plain_bound (get_or bs i c.index-bs-i.result) in
    let rest = plain_bounds (drop (i + 1) bs) in
    let said : c.bound_has.result ≡ mentions_bound f b =
    c.bound_has.ensures
    ∙ ap (λ n. mentions_bound (only n) (plain_bound c.index-bs-i.result)) (past_take bs i y c.loop-i.auto.i-end)
    ∙ ap (λ z. mentions_bound f (plain_bound z)) c.index-bs-i.is in
    let yes : mentions_bound f b ≡ true = sym said ∙ c.if-bound_has.true in
    sym (ap (λ x. x || mentions_bounds (outside f) rest) yes)
    ∙ ap (mentions_bounds f) (sym (bounds_drop bs i c.index-bs-i.result c.loop-i-test.true))
    ∙ c.loop-i.invariant

pub bounds_have-loop-i-preserved : goal.bounds_have-loop-i-preserved
bounds_have-loop-i-preserved t c =
    let bs = c.args.bs.now in
    let i = c.loop-i.i in
    let y = seen c.args.body.now c.args.x in
    let f = only (i + y) in
    let b = plain_bound (get_or bs i c.index-bs-i.result) in
    let rest = plain_bounds (drop (i + 1) bs) in
    let said : c.bound_has.result ≡ mentions_bound f b =
    c.bound_has.ensures
    ∙ ap (λ n. mentions_bound (only n) (plain_bound c.index-bs-i.result)) (past_take bs i y c.loop-i.auto.i-end)
    ∙ ap (λ z. mentions_bound f (plain_bound z)) c.index-bs-i.is in
    let n : mentions_bound f b ≡ false = sym said ∙ c.if-bound_has.false in
    let next : i + 1 + y ≡ suc (i + y) = omega arith in
    ap (λ k. mentions_bounds (only k) rest) next
    ∙ ap (λ q. mentions_bounds q rest) (sym (outside_only (i + y)))
    ∙ sym (ap (λ x. x || mentions_bounds (outside f) rest) n)
    ∙ ap (mentions_bounds f) (sym (bounds_drop bs i c.index-bs-i.result c.loop-i-test.true))
    ∙ c.loop-i.invariant
