-- Operator variables, recursive types, and one type field more.
use Rattle.std.proofs.Common.{◌≡◌, suc, ◌+◌, ◌<◌, length, drop, ◌∙◌, sym, ap, ap₂, arith}
use Rattle.pict_types.specs.Types.{Apply, Rec, bounds}
use Rattle.pict_types.specs.Measures.{size, size_types}
use Rattle.pict_types.specs.Renaming.{rename, rename_bound, rename_bounds, beyond, beyond_times}
use Rattle.pict_types.specs.Renumbering.{renumbered}
use Rattle.pict_types.specs.Plain.{plain, plain_bound, plain_types, plain_bounds}
use Rattle.pict_types.proofs.Rows.{apply_is, bounds_drop}
use Rattle.pict_types.proofs.same_renumbered.+is_renumbered.Goals as goal

pub is_renumbered-are_renumbered-requires : goal.is_renumbered-are_renumbered-requires
is_renumbered-are_renumbered-requires t c =
    let e = apply_is c.args.t.now c.in-Apply-Apply.i c.in-Apply-Apply.ts c.deref-then-branch-j.result.now c.in-Apply-Apply.is-0 (c.deref-then-branch-j.ensures.value ∙ ap (λ v. v.items) c.deref.ensures) in
    let h : size (plain c.args.t.now) ≡ suc (size_types (plain_types c.deref-then-branch-j.result.now)) = ap size e in
    (omega (arith, h), tt)

pub is_renumbered-returns-in_ok-are_renumbered-in-Apply-Apply : goal.is_renumbered-returns-in_ok-are_renumbered-in-Apply-Apply
is_renumbered-returns-in_ok-are_renumbered-in-Apply-Apply t c h =
    let d = apply_is c.args.u.now c.in-Apply-Apply.j c.in-Apply-Apply.us c.deref-then-branch-j-3.result.now c.in-Apply-Apply.is-1 (c.deref-then-branch-j-3.ensures.value ∙ ap (λ v. v.items) c.deref-then-branch-j-2.ensures) in
    let e = apply_is c.args.t.now c.in-Apply-Apply.i c.in-Apply-Apply.ts c.deref-then-branch-j.result.now c.in-Apply-Apply.is-0 (c.deref-then-branch-j.ensures.value ∙ ap (λ v. v.items) c.deref.ensures) in
    let j = sym c.if-branch-j.true ∙ c.in_ok-renumber_variable-in-Apply-Apply.ensures in
    d ∙ ap₂ Apply j (c.in_ok-are_renumbered-in-Apply-Apply.ensures h) ∙ ap (rename (beyond_times c.args.from (renumbered c.args.how))) (sym e)

pub is_renumbered-returns-in_ok-same-in-Rec-Rec : goal.is_renumbered-returns-in_ok-same-in-Rec-Rec
is_renumbered-returns-in_ok-same-in-Rec-Rec t c h =
    let f = renumbered c.args.how in
    let b = plain c.deref-in-Rec-Rec.result.now in
    let e : plain c.args.t.now ≡ Rec b = ap plain c.in-Rec-Rec.is-0 ∙ ap (λ x. Rec (plain x)) (sym c.deref-in-Rec-Rec.ensures) in
    let d : plain c.args.u.now ≡ Rec (plain c.deref-in-Rec-Rec-2.result.now) =
    ap plain c.in-Rec-Rec.is-1 ∙ ap (λ x. Rec (plain x)) (sym c.deref-in-Rec-Rec-2.ensures) in
    let n : c.in_ok-inside-in-Rec-Rec.inside ≡ suc c.args.from = c.in_ok-inside-in-Rec-Rec.ensures ∙ omega arith in
    d
    ∙ ap Rec (c.in_ok-same-in-Rec-Rec.ensures h)
    ∙ ap (λ k. Rec (rename (beyond_times k f) b)) n
    ∙ ap (rename (beyond_times c.args.from f)) (sym e)

pub are_bounds_renumbered-loop-i-preserved : goal.are_bounds_renumbered-loop-i-preserved
are_bounds_renumbered-loop-i-preserved t c =
    let bs = c.args.bs.now in
    let ds = c.args.ds.now in
    let i = c.loop-i.i in
    let g = renumbered c.args.how in
    let f = beyond_times (c.args.from + i) g in
    let y = c.index-bs-i.result in
    let x = c.index-ds-i.result in
    let rest = plain_bounds (drop (i + 1) bs) in
    let left = plain_bounds (drop (i + 1) ds) in
    let first : plain_bound x ≡ rename_bound f (plain_bound y) =
    c.in_ok-is_bound_renumbered.ensures c.if-not-branch.false
    ∙ ap (λ n. rename_bound (beyond_times n g) (plain_bound y)) c.in_ok-deeper.ensures in
    let next : c.args.from + (i + 1) ≡ suc (c.args.from + i) = omega arith in
    let further : rename_bounds (beyond_times (c.args.from + (i + 1)) g) rest ≡ rename_bounds (beyond f) rest =
    ap (λ n. rename_bounds (beyond_times n g) rest) next in
    let whole : plain_bounds (drop i bs) ≡ bounds (plain_bound y) rest =
    bounds_drop bs i y c.loop-i-test.true ∙ ap (λ z. bounds (plain_bound z) rest) (sym c.index-bs-i.is) in
    let there : i < length ds = omega (arith, c.loop-i-test.true, c.loop-i.invariant.long) in
    let all : plain_bounds (drop i ds) ≡ bounds (plain_bound x) left =
    bounds_drop ds i x there ∙ ap (λ z. bounds (plain_bound z) left) (sym c.index-ds-i.is) in
    record {
      long = c.loop-i.invariant.long;
      same = λ h. c.loop-i.invariant.same (all ∙ ap₂ bounds first (h ∙ further) ∙ ap (rename_bounds f) (sym whole));
    }
