-- A part is smaller, and its marks are those of the whole.
use Rattle.std.proofs.Common.{◌≡◌, suc, ◌+◌, length, get_or, refl, sym, ◌∙◌, ap, arith}
use Rattle.std.specs.Prelude.{◌||◌, ◌&&◌}
use Rattle.std.proofs.lemmas.Result.{on_ok_weaker}
use Rattle.pict_types.specs.Types.{count_bounds}
use Rattle.pict_types.specs.Measures.{size, size_bound, size_types, size_labels, size_bounds}
use Rattle.pict_types.specs.Plain.{plain, plain_bound, plain_record, plain_types, plain_labels, plain_bounds}
use Rattle.pict_types.proofs.Rows.{apply_is, record_is, count_bounds_length, size_bounds_reach}
use Rattle.pict_normal.specs.Uses.{uses, uses_types, uses_labels, uses_bounds}
use Rattle.pict_normal.proofs.Marking.{marked_as, marked_three}
use Rattle.pict_normal.proofs.uses.+uses.Goals as goal
use Rattle.pict_types.proofs.Items.{item_size, label_size}

pub mark_bounds-mark_bound-requires : goal.mark_bounds-mark_bound-requires
mark_bounds-mark_bound-requires t c =
    let bs = c.args.bs.now in
    let x = c.index-bs-k.result in
    let e : size_bound (plain_bound x) ≡ size_bound (plain_bound (get_or bs c.loop-k.k x)) = ap (λ y. size_bound (plain_bound y)) c.index-bs-k.is in
    let h = size_bounds_reach bs c.loop-k.k x c.loop-k-test.true in
    omega (arith, e, h)

pub mark_labels-mark_type-requires : goal.mark_labels-mark_type-requires
mark_labels-mark_type-requires t c =
    let h = label_size c.args.ls.now c.loop-l.l-index c.l-item.result c.loop-l-test.true c.l-item.is in
    omega (arith, h)

pub mark_types-mark_type-requires : goal.mark_types-mark_type-requires
mark_types-mark_type-requires t c =
    let h = item_size c.args.ts.now c.loop-t.t-index c.t-item.result c.loop-t-test.true c.t-item.is in
    omega (arith, h)

pub mark_record-mark_types-requires : goal.mark_record-mark_types-requires
mark_record-mark_types-requires t c =
    let r = c.args.r.now in
    let h : size (plain_record r) ≡ suc (size_bounds (plain_bounds r.binders.items) + size_types (plain_types r.positional.items) + size_labels (plain_labels r.labelled.items)) = refl in
    let p : size_types (plain_types c.deref-2.result.now) ≡ size_types (plain_types r.positional.items) = ap (λ x. size_types (plain_types x)) c.deref-2.ensures.value in
    omega (arith, h, p)

pub mark_record-mark_labels-requires : goal.mark_record-mark_labels-requires
mark_record-mark_labels-requires t c =
    let r = c.args.r.now in
    let h : size (plain_record r) ≡ suc (size_bounds (plain_bounds r.binders.items) + size_types (plain_types r.positional.items) + size_labels (plain_labels r.labelled.items)) = refl in
    let p : size_labels (plain_labels c.deref-3.result.now) ≡ size_labels (plain_labels r.labelled.items) = ap (λ x. size_labels (plain_labels x)) c.deref-3.ensures.value in
    omega (arith, h, p)

three : {A B C D : Type 0} (k : A → B → C → D) {a a' : A} {b b' : B} {c c' : C} → a ≡ a' → b ≡ b' → c ≡ c' → k a b c ≡ k a' b' c'
three k p q r = cc

pub mark_record-returns : goal.mark_record-returns
mark_record-returns t c =
    let r = c.args.r.now in
    let n = length c.args.used.now in
    let d = c.args.depth in
    let count : d + count_bounds (plain_bounds r.binders.items) ≡ c.in_ok-inside.inside = omega (arith, c.in_ok-inside.ensures, ap length c.as_slice.ensures.value, count_bounds_length r.binders.items) in
    let first = c.mark_bounds.auto.used in
    let second = c.mark_types.auto.used in
    on_ok_weaker c.mark_labels.result
    (λ last. marked_three (λ i. uses n d i (plain_record r))
    (λ i. three (λ x y z. x || (y || z))
    (ap (λ x. uses_bounds n d i (plain_bounds x)) (sym c.deref.ensures.value))
    (three (λ m k x. uses_types m k i (plain_types x)) (sym first) count (sym c.deref-2.ensures.value))
    (three (λ m k x. uses_labels m k i (plain_labels x)) (sym (second ∙ first)) count (sym c.deref-3.ensures.value)))
    first second c.in_ok-mark_bounds.ensures c.in_ok-mark_types.ensures last)
    c.mark_labels.ensures

pub mark_type-mark_types-requires : goal.mark_type-mark_types-requires
mark_type-mark_types-requires t c =
    let e = apply_is c.args.t.now c.in-Apply.j c.in-Apply.ts c.deref-then-takes_arguments.result.now c.in-Apply.is (c.deref-then-takes_arguments.ensures.value ∙ ap (λ v. v.items) c.deref.ensures) in
    let h : size (plain c.args.t.now) ≡ suc (size_types (plain_types c.deref-then-takes_arguments.result.now)) = ap size e in
    omega (arith, h)

pub mark_type-mark_record-requires : goal.mark_type-mark_record-requires
mark_type-mark_record-requires t c =
    let r = c.deref-in-Fields.result.now in
    let e = record_is c.args.t.now c.in-Fields.r r c.in-Fields.is c.deref-in-Fields.ensures in
    let h : size (plain c.args.t.now) ≡ size (plain_record r) = ap size e in
    omega (arith, h)

pub mark_type-returns-then-takes_arguments : goal.mark_type-returns-then-takes_arguments
mark_type-returns-then-takes_arguments t c =
    let n = length c.args.used.now in
    let d = c.args.depth in
    let e = apply_is c.args.t.now c.in-Apply.j c.in-Apply.ts c.deref-then-takes_arguments.result.now c.in-Apply.is (c.deref-then-takes_arguments.ensures.value ∙ ap (λ v. v.items) c.deref.ensures) in
    let takes = sym c.takes_arguments.ensures ∙ c.if-takes_arguments.true in
    on_ok_weaker c.mark_types.result (marked_as (λ i. uses n d i (plain c.args.t.now)) (λ i. ap (uses n d i) e ∙ ap (λ b. b && uses_types n d i (plain_types c.deref-then-takes_arguments.result.now)) takes)) c.mark_types.ensures

pub mark_type-returns-in-Fields : goal.mark_type-returns-in-Fields
mark_type-returns-in-Fields t c =
    let n = length c.args.used.now in
    let d = c.args.depth in
    on_ok_weaker c.mark_record.result (marked_as (λ i. uses n d i (plain c.args.t.now)) (λ i. ap (uses n d i) (record_is c.args.t.now c.in-Fields.r c.deref-in-Fields.result.now c.in-Fields.is c.deref-in-Fields.ensures))) c.mark_record.ensures
