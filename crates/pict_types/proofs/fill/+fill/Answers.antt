-- Operator variables, recursive types, and one field more.
use Rattle.std.proofs.Common.{◌≡◌, suc, ◌+◌, drop, ◌∙◌, sym, ap, ap₂, arith}
use Rattle.pict_types.specs.Types.{Rec, bounds, labels}
use Rattle.pict_types.specs.Measures.{size, size_types}
use Rattle.pict_types.specs.Replacing.{apply_variable, fill, fill_bound, fill_bounds, fill_labels, filling_beyond}
use Rattle.pict_types.specs.Filling.{filling_past, put_for}
use Rattle.pict_types.specs.Renumbering.{changed, changed_bound}
use Rattle.pict_types.specs.Plain.{plain, plain_bound, plain_types, plain_bounds, plain_labels}
use Rattle.pict_types.proofs.Rows.{apply_is, bounds_drop, bounds_push, then_bounds, labels_drop, labels_push, then_labels}
use Rattle.pict_types.proofs.fill.+fill.Goals as goal

pub filled_anew-filled_types-requires : goal.filled_anew-filled_types-requires
filled_anew-filled_types-requires t c =
    let e = apply_is c.args.t.now c.in-Apply.i c.in-Apply.ts c.deref-in-Apply.result.now c.in-Apply.is (c.deref-in-Apply.ensures.value ∙ ap (λ v. v.items) c.deref.ensures) in
    let h : size (plain c.args.t.now) ≡ suc (size_types (plain_types c.deref-in-Apply.result.now)) = ap size e in
    (omega (arith, h), tt)

pub filled_anew-returns-then-is_head : goal.filled_anew-returns-then-is_head
filled_anew-returns-then-is_head t c =
    let e = apply_is c.args.t.now c.in-Apply.i c.in-Apply.ts c.deref-in-Apply.result.now c.in-Apply.is (c.deref-in-Apply.ensures.value ∙ ap (λ v. v.items) c.deref.ensures) in
    let h = sym c.in_ok-head-in-Apply.ensures ∙ c.is_head.ensures c.if-is_head.true in
    e ∙ sym (ap₂ apply_variable h (c.in_ok-row-in-Apply.ensures.same c.if-row.true)) ∙ ap (fill (filling_past c.args.under (put_for (plain_types c.args.us.now) c.args.by))) (sym e)

pub filled_anew-returns-in_ok-applied-in-Apply : goal.filled_anew-returns-in_ok-applied-in-Apply
filled_anew-returns-in_ok-applied-in-Apply t c =
    let e = apply_is c.args.t.now c.in-Apply.i c.in-Apply.ts c.deref-in-Apply.result.now c.in-Apply.is (c.deref-in-Apply.ensures.value ∙ ap (λ v. v.items) c.deref.ensures) in
    c.in_ok-applied-in-Apply.ensures
    ∙ ap₂ apply_variable c.in_ok-head-in-Apply.ensures c.in_ok-row-in-Apply.ensures.row
    ∙ ap (fill (filling_past c.args.under (put_for (plain_types c.args.us.now) c.args.by))) (sym e)

pub filled_anew-returns-in-None-3 : goal.filled_anew-returns-in-None-3
filled_anew-returns-in-None-3 t c =
    let s = put_for (plain_types c.args.us.now) c.args.by in
    let b = plain c.deref-in-Rec.result.now in
    let e : plain c.args.t.now ≡ Rec b = ap plain c.in-Rec.is ∙ ap (λ x. Rec (plain x)) (sym c.deref-in-Rec.ensures) in
    let d : c.in_ok-inside-in-Rec.inside ≡ suc c.args.under = c.in_ok-inside-in-Rec.ensures ∙ omega arith in
    e
    ∙ ap (λ o. Rec (changed o b)) (sym c.in-None-3.is)
    ∙ ap Rec c.in_ok-filled_type-in-Rec.ensures
    ∙ ap (λ n. Rec (fill (filling_past n s) b)) d
    ∙ ap (fill (filling_past c.args.under (put_for (plain_types c.args.us.now) c.args.by))) (sym e)

pub filled_anew-returns-in_ok-new-in-Some-3 : goal.filled_anew-returns-in_ok-new-in-Some-3
filled_anew-returns-in_ok-new-in-Some-3 t c =
    let s = put_for (plain_types c.args.us.now) c.args.by in
    let b = plain c.deref-in-Rec.result.now in
    let e : plain c.args.t.now ≡ Rec b = ap plain c.in-Rec.is ∙ ap (λ x. Rec (plain x)) (sym c.deref-in-Rec.ensures) in
    let d : c.in_ok-inside-in-Rec.inside ≡ suc c.args.under = c.in_ok-inside-in-Rec.ensures ∙ omega arith in
    ap (λ x. Rec (plain x)) c.in_ok-new-in-Some-3.ensures.ok
    ∙ ap (λ o. Rec (changed o b)) (sym c.in-Some-3.is)
    ∙ ap Rec c.in_ok-filled_type-in-Rec.ensures
    ∙ ap (λ n. Rec (fill (filling_past n s) b)) d
    ∙ ap (fill (filling_past c.args.under (put_for (plain_types c.args.us.now) c.args.by))) (sym e)

pub filled_bounds-loop-i-preserved : goal.filled_bounds-loop-i-preserved
filled_bounds-loop-i-preserved t c =
    let bs = c.args.bs.now in
    let i = c.loop-i.i in
    let s = put_for (plain_types c.args.us.now) c.args.by in
    let f = filling_past (c.args.under + i) s in
    let y = c.index-bs-i.result in
    let x = c.in_ok-d.d in
    let o = c.in_ok-made.made in
    let rest = plain_bounds (drop (i + 1) bs) in
    let left = fill_bounds (filling_past (c.args.under + (i + 1)) s) rest in
    let said : changed_bound o (plain_bound y) ≡ fill_bound f (plain_bound y) =
    c.in_ok-made.ensures ∙ ap (λ n. fill_bound (filling_past n s) (plain_bound y)) c.in_ok-deeper.ensures in
    let first : plain_bound x ≡ fill_bound f (plain_bound y) = c.in_ok-d.ensures ∙ said in
    let next : c.args.under + (i + 1) ≡ suc (c.args.under + i) = omega arith in
    let further : left ≡ fill_bounds (filling_beyond f) rest = ap (λ n. fill_bounds (filling_past n s) rest) next in
    let whole : plain_bounds (drop i bs) ≡ bounds (plain_bound y) rest =
    bounds_drop bs i y c.loop-i-test.true ∙ ap (λ z. bounds (plain_bound z) rest) (sym c.index-bs-i.is) in
    let all : bounds (plain_bound x) left ≡ fill_bounds f (plain_bounds (drop i bs)) =
    ap₂ bounds first further ∙ ap (fill_bounds f) (sym whole) in (
      ap (λ z. then_bounds (plain_bounds z) left) c.in_ok-push.ensures.items
          ∙ bounds_push c.loop-i.items.items x left
          ∙ ap (then_bounds (plain_bounds c.loop-i.items.items)) all
          ∙ c.loop-i.invariant.0,
      λ h r.
          let stays : fill_bound f (plain_bound y) ≡ plain_bound y = sym said ∙ ap (λ p. changed_bound p (plain_bound y)) (c.is_left.ensures (c.both-same.ensures.right h)) in
          c.loop-i.invariant.1 (c.both-same.ensures.left h)
          (ap (fill_bounds f) whole ∙ ap₂ bounds stays (sym further ∙ r) ∙ sym whole),
    )

pub filled_labels-loop-l-preserved : goal.filled_labels-loop-l-preserved
filled_labels-loop-l-preserved t c =
    let ls = c.args.ls.now in
    let i = c.loop-l.l-index in
    let f = (filling_past c.args.under (put_for (plain_types c.args.us.now) c.args.by)) in
    let y = c.l-item.result in
    let x = c.in_ok-u.u in
    let rest = plain_labels (drop (i + 1) ls) in
    let first : plain x ≡ fill f (plain y.1) = c.in_ok-u.ensures ∙ c.in_ok-made.ensures in
    let whole : plain_labels (drop i ls) ≡ labels y.0.0 (plain y.1) rest =
    labels_drop ls i y c.loop-l-test.true ∙ ap (λ z. labels z.0.0 (plain z.1) rest) (sym c.l-item.is) in
    let all : labels y.0.0 (plain x) (fill_labels f rest) ≡ fill_labels f (plain_labels (drop i ls)) =
    ap (λ z. labels y.0.0 z (fill_labels f rest)) first ∙ ap (fill_labels f) (sym whole) in (
      ap (λ z. then_labels (plain_labels z) (fill_labels f rest)) c.in_ok-push.ensures.items
          ∙ labels_push c.loop-l.items.items (y.0, x) (fill_labels f rest)
          ∙ ap (then_labels (plain_labels c.loop-l.items.items)) all
          ∙ c.loop-l.invariant.0,
      λ h r.
          let stays : fill f (plain y.1) ≡ plain y.1 = sym c.in_ok-made.ensures ∙ ap (λ p. changed p (plain y.1)) (c.is_left.ensures (c.both-same.ensures.right h)) in
          c.loop-l.invariant.1 (c.both-same.ensures.left h)
          (ap (fill_labels f) whole ∙ ap₂ (labels y.0.0) stays r ∙ sym whole),
    )
