-- Operator variables, recursive types, and one type field more.
use Rattle.std.proofs.Common.{◌≡◌, suc, ◌+◌, ◌<◌, length, drop, ◌∙◌, sym, ap, ap₂, arith}
use Rattle.pict_types.specs.Types.{Rec, bounds}
use Rattle.pict_types.specs.Measures.{size, size_types}
use Rattle.pict_types.specs.Replacing.{apply_variable, fill, fill_bound, fill_bounds, filling_beyond}
use Rattle.pict_types.specs.Filling.{filling_past, put_for}
use Rattle.pict_types.specs.Plain.{plain, plain_bound, plain_types, plain_bounds}
use Rattle.pict_types.proofs.Rows.{apply_is, bounds_drop}
use Rattle.pict_types.proofs.same_filled.+is_filled.Goals as goal

pub is_filled-are_filled-requires : goal.is_filled-are_filled-requires
is_filled-are_filled-requires t c =
    let e = apply_is c.args.t.now c.in-Apply-Apply.i c.in-Apply-Apply.ts c.deref-then-is_head.result.now c.in-Apply-Apply.is-0 (c.deref-then-is_head.ensures.value ∙ ap (λ v. v.items) c.deref.ensures) in
    let h : size (plain c.args.t.now) ≡ suc (size_types (plain_types c.deref-then-is_head.result.now)) = ap size e in
    (omega (arith, h), tt)

pub is_filled-returns-in_ok-are_filled-in-Apply-Apply : goal.is_filled-returns-in_ok-are_filled-in-Apply-Apply
is_filled-returns-in_ok-are_filled-in-Apply-Apply t c h =
    let d = apply_is c.args.u.now c.in-Apply-Apply.j c.in-Apply-Apply.vs c.deref-then-is_head-3.result.now c.in-Apply-Apply.is-1 (c.deref-then-is_head-3.ensures.value ∙ ap (λ v. v.items) c.deref-then-is_head-2.ensures) in
    let e = apply_is c.args.t.now c.in-Apply-Apply.i c.in-Apply-Apply.ts c.deref-then-is_head.result.now c.in-Apply-Apply.is-0 (c.deref-then-is_head.ensures.value ∙ ap (λ v. v.items) c.deref.ensures) in
    let j = sym (c.is_head.ensures c.if-is_head.true) ∙ c.in_ok-head-in-Apply-Apply.ensures in
    d
    ∙ ap₂ apply_variable j (c.in_ok-are_filled-in-Apply-Apply.ensures h)
    ∙ ap (fill (filling_past c.args.under (put_for (plain_types c.args.us.now) c.args.by))) (sym e)

pub is_filled-returns-in_ok-same-in-Rec-Rec : goal.is_filled-returns-in_ok-same-in-Rec-Rec
is_filled-returns-in_ok-same-in-Rec-Rec t c h =
    let s = put_for (plain_types c.args.us.now) c.args.by in
    let b = plain c.deref-in-Rec-Rec.result.now in
    let e : plain c.args.t.now ≡ Rec b = ap plain c.in-Rec-Rec.is-0 ∙ ap (λ x. Rec (plain x)) (sym c.deref-in-Rec-Rec.ensures) in
    let d : plain c.args.u.now ≡ Rec (plain c.deref-in-Rec-Rec-2.result.now) =
    ap plain c.in-Rec-Rec.is-1 ∙ ap (λ x. Rec (plain x)) (sym c.deref-in-Rec-Rec-2.ensures) in
    let n : c.in_ok-inside-in-Rec-Rec.inside ≡ suc c.args.under = c.in_ok-inside-in-Rec-Rec.ensures ∙ omega arith in
    d
    ∙ ap Rec (c.in_ok-same-in-Rec-Rec.ensures h)
    ∙ ap (λ k. Rec (fill (filling_past k s) b)) n
    ∙ ap (fill (filling_past c.args.under s)) (sym e)

pub are_bounds_filled-loop-i-preserved : goal.are_bounds_filled-loop-i-preserved
are_bounds_filled-loop-i-preserved t c =
    let bs = c.args.bs.now in
    let ds = c.args.ds.now in
    let i = c.loop-i.i in
    let s = put_for (plain_types c.args.us.now) c.args.by in
    let f = filling_past (c.args.under + i) s in
    let y = c.index-bs-i.result in
    let x = c.index-ds-i.result in
    let rest = plain_bounds (drop (i + 1) bs) in
    let left = plain_bounds (drop (i + 1) ds) in
    let first : plain_bound x ≡ fill_bound f (plain_bound y) =
    c.in_ok-is_bound_filled.ensures c.if-not-branch.false
    ∙ ap (λ n. fill_bound (filling_past n s) (plain_bound y)) c.in_ok-deeper.ensures in
    let next : c.args.under + (i + 1) ≡ suc (c.args.under + i) = omega arith in
    let further : fill_bounds (filling_past (c.args.under + (i + 1)) s) rest ≡ fill_bounds (filling_beyond f) rest =
    ap (λ n. fill_bounds (filling_past n s) rest) next in
    let whole : plain_bounds (drop i bs) ≡ bounds (plain_bound y) rest =
    bounds_drop bs i y c.loop-i-test.true ∙ ap (λ z. bounds (plain_bound z) rest) (sym c.index-bs-i.is) in
    let there : i < length ds = omega (arith, c.loop-i-test.true, c.loop-i.invariant.long) in
    let all : plain_bounds (drop i ds) ≡ bounds (plain_bound x) left =
    bounds_drop ds i x there ∙ ap (λ z. bounds (plain_bound z) left) (sym c.index-ds-i.is) in
    record {
      long = c.loop-i.invariant.long;
      same = λ h. c.loop-i.invariant.same (all ∙ ap₂ bounds first (h ∙ further) ∙ ap (fill_bounds f) (sym whole));
    }
