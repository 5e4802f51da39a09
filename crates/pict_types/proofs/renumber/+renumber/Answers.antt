-- Operator variables, recursive types, and one type field more.
use Rattle.std.proofs.Common.{◌≡◌, suc, ◌+◌, drop, ◌∙◌, sym, ap, ap₂, arith}
use Rattle.pict_types.specs.Types.{Apply, Rec, bounds, labels}
use Rattle.pict_types.specs.Measures.{size, size_types}
use Rattle.pict_types.specs.Renaming.{rename, rename_bound, rename_bounds, rename_labels, beyond, beyond_times}
use Rattle.pict_types.specs.Renumbering.{changed, changed_bound, renumbered}
use Rattle.pict_types.specs.Plain.{plain, plain_bound, plain_types, plain_bounds, plain_labels}
use Rattle.pict_types.proofs.Rows.{apply_is, plain_apply, bounds_drop, bounds_push, then_bounds, labels_drop, labels_push, then_labels}
use Rattle.pict_types.proofs.renumber.+renumber.Goals as goal

pub changed_anew-changed_types-requires : goal.changed_anew-changed_types-requires
changed_anew-changed_types-requires t c =
    let e = apply_is c.args.t.now c.in-Apply.i c.in-Apply.ts c.deref-in-Apply.result.now c.in-Apply.is (c.deref-in-Apply.ensures.value ∙ ap (λ v. v.items) c.deref.ensures) in
    let h : size (plain c.args.t.now) ≡ suc (size_types (plain_types c.deref-in-Apply.result.now)) = ap size e in
    (omega (arith, h), tt)

pub changed_anew-returns-then-row : goal.changed_anew-returns-then-row
changed_anew-returns-then-row t c =
    let e = apply_is c.args.t.now c.in-Apply.i c.in-Apply.ts c.deref-in-Apply.result.now c.in-Apply.is (c.deref-in-Apply.ensures.value ∙ ap (λ v. v.items) c.deref.ensures) in
    let j = sym c.in_ok-j-in-Apply.ensures ∙ c.if-j-i-2.true in
    e ∙ sym (ap₂ Apply j (c.in_ok-row-in-Apply.ensures.same c.if-row.true)) ∙ ap (rename (beyond_times c.args.from (renumbered c.args.how))) (sym e)

pub changed_anew-returns-in_ok-new-in-Apply : goal.changed_anew-returns-in_ok-new-in-Apply
changed_anew-returns-in_ok-new-in-Apply t c =
    let e = apply_is c.args.t.now c.in-Apply.i c.in-Apply.ts c.deref-in-Apply.result.now c.in-Apply.is (c.deref-in-Apply.ensures.value ∙ ap (λ v. v.items) c.deref.ensures) in
    plain_apply c.in_ok-j-in-Apply.j c.in_ok-new-in-Apply.field-0
    ∙ ap (λ v. Apply c.in_ok-j-in-Apply.j (plain_types v.items)) c.in_ok-new-in-Apply.ensures.ok
    ∙ ap₂ Apply c.in_ok-j-in-Apply.ensures c.in_ok-row-in-Apply.ensures.row
    ∙ ap (rename (beyond_times c.args.from (renumbered c.args.how))) (sym e)

pub changed_anew-returns-in-None-3 : goal.changed_anew-returns-in-None-3
changed_anew-returns-in-None-3 t c =
    let f = renumbered c.args.how in
    let b = plain c.deref-in-Rec.result.now in
    let e : plain c.args.t.now ≡ Rec b = ap plain c.in-Rec.is ∙ ap (λ x. Rec (plain x)) (sym c.deref-in-Rec.ensures) in
    let d : c.in_ok-inside-in-Rec.inside ≡ suc c.args.from = c.in_ok-inside-in-Rec.ensures ∙ omega arith in
    e
    ∙ ap (λ o. Rec (changed o b)) (sym c.in-None-3.is)
    ∙ ap Rec c.in_ok-changed_type-in-Rec.ensures
    ∙ ap (λ n. Rec (rename (beyond_times n f) b)) d
    ∙ ap (rename (beyond_times c.args.from f)) (sym e)

pub changed_anew-returns-in_ok-new-in-Some-3 : goal.changed_anew-returns-in_ok-new-in-Some-3
changed_anew-returns-in_ok-new-in-Some-3 t c =
    let f = renumbered c.args.how in
    let b = plain c.deref-in-Rec.result.now in
    let e : plain c.args.t.now ≡ Rec b = ap plain c.in-Rec.is ∙ ap (λ x. Rec (plain x)) (sym c.deref-in-Rec.ensures) in
    let d : c.in_ok-inside-in-Rec.inside ≡ suc c.args.from = c.in_ok-inside-in-Rec.ensures ∙ omega arith in
    ap (λ x. Rec (plain x)) c.in_ok-new-in-Some-3.ensures.ok
    ∙ ap (λ o. Rec (changed o b)) (sym c.in-Some-3.is)
    ∙ ap Rec c.in_ok-changed_type-in-Rec.ensures
    ∙ ap (λ n. Rec (rename (beyond_times n f) b)) d
    ∙ ap (rename (beyond_times c.args.from f)) (sym e)

pub changed_bounds-loop-i-preserved : goal.changed_bounds-loop-i-preserved
changed_bounds-loop-i-preserved t c =
    let bs = c.args.bs.now in
    let i = c.loop-i.i in
    let g = renumbered c.args.how in
    let f = beyond_times (c.args.from + i) g in
    let y = c.index-bs-i.result in
    let x = c.in_ok-d.d in
    let o = c.in_ok-made.made in
    let rest = plain_bounds (drop (i + 1) bs) in
    let left = rename_bounds (beyond_times (c.args.from + (i + 1)) g) rest in
    let said : changed_bound o (plain_bound y) ≡ rename_bound f (plain_bound y) =
    c.in_ok-made.ensures ∙ ap (λ n. rename_bound (beyond_times n g) (plain_bound y)) c.in_ok-deeper.ensures in
    let first : plain_bound x ≡ rename_bound f (plain_bound y) = c.in_ok-d.ensures ∙ said in
    let next : c.args.from + (i + 1) ≡ suc (c.args.from + i) = omega arith in
    let further : left ≡ rename_bounds (beyond f) rest = ap (λ n. rename_bounds (beyond_times n g) rest) next in
    let whole : plain_bounds (drop i bs) ≡ bounds (plain_bound y) rest =
    bounds_drop bs i y c.loop-i-test.true ∙ ap (λ z. bounds (plain_bound z) rest) (sym c.index-bs-i.is) in
    let all : bounds (plain_bound x) left ≡ rename_bounds f (plain_bounds (drop i bs)) =
    ap₂ bounds first further ∙ ap (rename_bounds f) (sym whole) in (
      ap (λ z. then_bounds (plain_bounds z) left) c.in_ok-push.ensures.items
          ∙ bounds_push c.loop-i.items.items x left
          ∙ ap (then_bounds (plain_bounds c.loop-i.items.items)) all
          ∙ c.loop-i.invariant.0,
      λ h r.
          let stays : rename_bound f (plain_bound y) ≡ plain_bound y = sym said ∙ ap (λ p. changed_bound p (plain_bound y)) (c.is_left.ensures (c.both-same.ensures.right h)) in
          c.loop-i.invariant.1 (c.both-same.ensures.left h)
          (ap (rename_bounds f) whole ∙ ap₂ bounds stays (sym further ∙ r) ∙ sym whole),
    )

pub changed_labels-loop-l-preserved : goal.changed_labels-loop-l-preserved
changed_labels-loop-l-preserved t c =
    let ls = c.args.ls.now in
    let i = c.loop-l.l-index in
    let f = beyond_times c.args.from (renumbered c.args.how) in
    let y = c.l-item.result in
    let x = c.in_ok-u.u in
    let o = c.in_ok-made.made in
    let rest = plain_labels (drop (i + 1) ls) in
    let first : plain x ≡ rename f (plain y.1) = c.in_ok-u.ensures ∙ c.in_ok-made.ensures in
    let whole : plain_labels (drop i ls) ≡ labels y.0.0 (plain y.1) rest =
    labels_drop ls i y c.loop-l-test.true ∙ ap (λ z. labels z.0.0 (plain z.1) rest) (sym c.l-item.is) in
    let all : labels y.0.0 (plain x) (rename_labels f rest) ≡ rename_labels f (plain_labels (drop i ls)) =
    ap (λ z. labels y.0.0 z (rename_labels f rest)) first ∙ ap (rename_labels f) (sym whole) in (
      ap (λ z. then_labels (plain_labels z) (rename_labels f rest)) c.in_ok-push.ensures.items
          ∙ labels_push c.loop-l.items.items (y.0, x) (rename_labels f rest)
          ∙ ap (then_labels (plain_labels c.loop-l.items.items)) all
          ∙ c.loop-l.invariant.0,
      λ h r.
          let stays : rename f (plain y.1) ≡ plain y.1 = sym c.in_ok-made.ensures ∙ ap (λ p. changed p (plain y.1)) (c.is_left.ensures (c.both-same.ensures.right h)) in
          c.loop-l.invariant.1 (c.both-same.ensures.left h)
          (ap (rename_labels f) whole ∙ ap₂ (labels y.0.0) stays r ∙ sym whole),
    )
