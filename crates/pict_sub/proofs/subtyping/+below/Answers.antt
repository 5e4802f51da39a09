-- The answers on records and on their labels.
use Rattle.std.proofs.Common.{◌≡◌, suc, ◌+◌, ◌<◌, length, drop, refl, sym, ◌∙◌, ap, subst, arith, true, false, Some}
use Rattle.pict_types.specs.Types.{Var, under, count_types}
use Rattle.pict_types.specs.Kinds.{kinds, kind_at, operator_of, IsWellFormed}
use Rattle.pict_types.specs.Measures.{weigh_types, weigh_labels, weigh_bounds, weights, weight_of}
use Rattle.pict_types.specs.Plain.{plain, plain_record, plain_types, plain_bounds, plain_labels}
use Rattle.pict_sub.specs.Scopes.{scope_context, scope_names}
use Rattle.pict_sub.specs.Subtyping.{IsSubtype, same}
use Rattle.pict_sub.proofs.Below.{ready_as, weigh_as, parts_as, other_fields, second_decides, pass_label, take_label, miss_label, end_labels, all_found}
use Rattle.pict_types.proofs.Rows.{labels_end, count_types_length}
use Rattle.pict_sub.proofs.Marked.{operator_there, marks_there, applied_to}
use Rattle.pict_sub.proofs.subtyping.+below.Goals as goal
use Rattle.pict_types.proofs.Sizes.{size_weight_bounds, weight_positive}
use Rattle.pict_types.proofs.Items.{label_read, label_weighs, label_rest}

pub variable_is_below-returns-clause-answer : goal.variable_is_below-returns-clause-answer
variable_is_below-returns-clause-answer g t c =
    let e : plain c.args.t.now ≡ Var c.args.i = c.in-Some.ensures.some ∙ ap Var (sym c.if-i-j.true) in
    (λ h. subst (IsSubtype (scope_context c.args.scope.now) (Var c.args.i)) (sym e) same, λ d. refl)

pub fields_are_below-returns-then-not-equal_bounds-clause-answer : goal.fields_are_below-returns-then-not-equal_bounds-clause-answer
fields_are_below-returns-then-not-equal_bounds-clause-answer g t c =
    let r = c.args.r.now in
    let q = c.args.q.now in
    let ctx = scope_context c.args.scope.now in
    let ns = scope_names c.args.scope.now in
    let other : plain_bounds r.binders.items ≡ plain_bounds q.binders.items → false ≡ true = λ e. c.if-not-equal_bounds.ensures.answer.1 (ap plain_bounds c.deref.ensures.value ∙ e ∙ sym (ap plain_bounds c.deref-2.ensures.value)) in
    (λ h. cc, λ d. absurd (other_fields ns _ ctx (plain_bounds r.binders.items) (plain_bounds q.binders.items) (plain_types r.positional.items) (plain_types q.positional.items) (plain_labels r.labelled.items) (plain_labels q.labelled.items) c.requires.r.1.1 (λ e. let z = other e in cc) d))

pub fields_are_below-returns-then-not-equal_bounds-clause-cost : goal.fields_are_below-returns-then-not-equal_bounds-clause-cost
fields_are_below-returns-then-not-equal_bounds-clause-cost g t c =
    let r = c.args.r.now in
    let q = c.args.q.now in
    let ctx = scope_context c.args.scope.now in
    let ns = scope_names c.args.scope.now in
    let paid : weigh_bounds (weights ctx) (plain_bounds c.deref.result.now) ≡ weigh_bounds (weights ctx) (plain_bounds r.binders.items) = ap (λ x. weigh_bounds (weights ctx) (plain_bounds x)) c.deref.ensures.value in
    let size = size_weight_bounds ctx (plain_bounds c.deref.result.now) in
    omega (arith, paid, size, c.equal_bounds.ensures.cost)

pub fields_are_below-rows_are_below-requires : goal.fields_are_below-rows_are_below-requires
fields_are_below-rows_are_below-requires g t c =
    let r = c.args.r.now in
    let q = c.args.q.now in
    let ctx = scope_context c.args.scope.now in
    let ns = scope_names c.args.scope.now in
    let bs3 : plain_bounds c.deref-3.result.now ≡ plain_bounds r.binders.items = ap plain_bounds c.deref-3.ensures.value in
    let both : plain_bounds r.binders.items ≡ plain_bounds q.binders.items =
    sym (ap plain_bounds c.deref.ensures.value) ∙ c.if-not-equal_bounds.ensures.answer.0 refl ∙ ap plain_bounds c.deref-2.ensures.value in
    let ps4 : plain_types c.deref-4.result.now ≡ plain_types r.positional.items = ap plain_types c.deref-4.ensures.value in
    let qs5 : plain_types c.deref-5.result.now ≡ plain_types q.positional.items = ap plain_types c.deref-5.ensures.value in
    let ls6 : plain_labels r.labelled.items ≡ plain_labels r.labelled.items = refl in
    let ms7 : plain_labels q.labelled.items ≡ plain_labels q.labelled.items = refl in
    let xs = plain_bounds c.deref-3.result.now in
    let wr : weight_of ctx (plain_record r) ≡ suc (weigh_bounds (weights ctx) xs + (weigh_types (weights (under ctx xs)) (plain_types c.deref-4.result.now) + weigh_labels (weights (under ctx xs)) (plain_labels r.labelled.items))) = weigh_as ctx xs (plain_bounds r.binders.items) _ (plain_types r.positional.items) _ (plain_labels r.labelled.items) bs3 ps4 ls6 in
    let wq : weight_of ctx (plain_record q) ≡ suc (weigh_bounds (weights ctx) xs + (weigh_types (weights (under ctx xs)) (plain_types c.deref-5.result.now) + weigh_labels (weights (under ctx xs)) (plain_labels q.labelled.items))) = weigh_as ctx xs (plain_bounds q.binders.items) _ (plain_types q.positional.items) _ (plain_labels q.labelled.items) (bs3 ∙ both) qs5 ms7 in
    let rr = ready_as ns ctx (plain_bounds c.deref-3.result.now) (plain_bounds r.binders.items) _ (plain_types r.positional.items) _ (plain_labels r.labelled.items) bs3 ps4 ls6 c.requires.context c.requires.r in
    let rq = ready_as ns ctx (plain_bounds c.deref-3.result.now) (plain_bounds q.binders.items) _ (plain_types q.positional.items) _ (plain_labels q.labelled.items) (bs3 ∙ both) qs5 ms7 c.requires.context c.requires.q in
    λ κs h. (omega (arith, wr, wq), (h, (rr.context, (rr.rows, rq.rows))))

pub fields_are_below-labels_are_below-requires : goal.fields_are_below-labels_are_below-requires
fields_are_below-labels_are_below-requires g t c =
    let r = c.args.r.now in
    let q = c.args.q.now in
    let ctx = scope_context c.args.scope.now in
    let ns = scope_names c.args.scope.now in
    let bs3 : plain_bounds c.deref-3.result.now ≡ plain_bounds r.binders.items = ap plain_bounds c.deref-3.ensures.value in
    let both : plain_bounds r.binders.items ≡ plain_bounds q.binders.items =
    sym (ap plain_bounds c.deref.ensures.value) ∙ c.if-not-equal_bounds.ensures.answer.0 refl ∙ ap plain_bounds c.deref-2.ensures.value in
    let ps4 : plain_types c.deref-4.result.now ≡ plain_types r.positional.items = ap plain_types c.deref-4.ensures.value in
    let qs5 : plain_types c.deref-5.result.now ≡ plain_types q.positional.items = ap plain_types c.deref-5.ensures.value in
    let ls6 : plain_labels c.deref-6.result.now ≡ plain_labels r.labelled.items = ap plain_labels c.deref-6.ensures.value in
    let ms7 : plain_labels c.deref-7.result.now ≡ plain_labels q.labelled.items = ap plain_labels c.deref-7.ensures.value in
    let xs = plain_bounds c.deref-3.result.now in
    let wr : weight_of ctx (plain_record r) ≡ suc (weigh_bounds (weights ctx) xs + (weigh_types (weights (under ctx xs)) (plain_types c.deref-4.result.now) + weigh_labels (weights (under ctx xs)) (plain_labels c.deref-6.result.now))) = weigh_as ctx xs (plain_bounds r.binders.items) _ (plain_types r.positional.items) _ (plain_labels r.labelled.items) bs3 ps4 ls6 in
    let wq : weight_of ctx (plain_record q) ≡ suc (weigh_bounds (weights ctx) xs + (weigh_types (weights (under ctx xs)) (plain_types c.deref-5.result.now) + weigh_labels (weights (under ctx xs)) (plain_labels c.deref-7.result.now))) = weigh_as ctx xs (plain_bounds q.binders.items) _ (plain_types q.positional.items) _ (plain_labels q.labelled.items) (bs3 ∙ both) qs5 ms7 in
    let rr = ready_as ns ctx (plain_bounds c.deref-3.result.now) (plain_bounds r.binders.items) _ (plain_types r.positional.items) _ (plain_labels r.labelled.items) bs3 ps4 ls6 c.requires.context c.requires.r in
    let rq = ready_as ns ctx (plain_bounds c.deref-3.result.now) (plain_bounds q.binders.items) _ (plain_types q.positional.items) _ (plain_labels q.labelled.items) (bs3 ∙ both) qs5 ms7 c.requires.context c.requires.q in
    λ κs h. (omega (arith, wr, wq), (h, (rr.context, (rr.labelled, rq.labelled))))

pub fields_are_below-returns-in_err-rows_are_below-clause-cost : goal.fields_are_below-returns-in_err-rows_are_below-clause-cost
fields_are_below-returns-in_err-rows_are_below-clause-cost g t c =
    let r = c.args.r.now in
    let q = c.args.q.now in
    let ctx = scope_context c.args.scope.now in
    let ns = scope_names c.args.scope.now in
    let bs3 : plain_bounds c.deref-3.result.now ≡ plain_bounds r.binders.items = ap plain_bounds c.deref-3.ensures.value in
    let both : plain_bounds r.binders.items ≡ plain_bounds q.binders.items =
    sym (ap plain_bounds c.deref.ensures.value) ∙ c.if-not-equal_bounds.ensures.answer.0 refl ∙ ap plain_bounds c.deref-2.ensures.value in
    let ps4 : plain_types c.deref-4.result.now ≡ plain_types r.positional.items = ap plain_types c.deref-4.ensures.value in
    let qs5 : plain_types c.deref-5.result.now ≡ plain_types q.positional.items = ap plain_types c.deref-5.ensures.value in
    let ls6 : plain_labels r.labelled.items ≡ plain_labels r.labelled.items = refl in
    let ms7 : plain_labels q.labelled.items ≡ plain_labels q.labelled.items = refl in
    let xs = plain_bounds c.deref-3.result.now in
    let wr : weight_of ctx (plain_record r) ≡ suc (weigh_bounds (weights ctx) xs + (weigh_types (weights (under ctx xs)) (plain_types c.deref-4.result.now) + weigh_labels (weights (under ctx xs)) (plain_labels r.labelled.items))) = weigh_as ctx xs (plain_bounds r.binders.items) _ (plain_types r.positional.items) _ (plain_labels r.labelled.items) bs3 ps4 ls6 in
    let wq : weight_of ctx (plain_record q) ≡ suc (weigh_bounds (weights ctx) xs + (weigh_types (weights (under ctx xs)) (plain_types c.deref-5.result.now) + weigh_labels (weights (under ctx xs)) (plain_labels q.labelled.items))) = weigh_as ctx xs (plain_bounds q.binders.items) _ (plain_types q.positional.items) _ (plain_labels q.labelled.items) (bs3 ∙ both) qs5 ms7 in
    let paid : weigh_bounds (weights ctx) (plain_bounds c.deref.result.now) ≡ weigh_bounds (weights ctx) (plain_bounds c.deref-3.result.now) = ap (λ x. weigh_bounds (weights ctx) (plain_bounds x)) (c.deref.ensures.value ∙ sym c.deref-3.ensures.value) in
    let size = size_weight_bounds ctx (plain_bounds c.deref.result.now) in
    omega (arith, wr, wq, paid, size, c.equal_bounds.ensures.cost, c.rows_are_below.ensures.cost)

pub fields_are_below-returns-then-not-branch-clause-cost : goal.fields_are_below-returns-then-not-branch-clause-cost
fields_are_below-returns-then-not-branch-clause-cost g t c =
    let r = c.args.r.now in
    let q = c.args.q.now in
    let ctx = scope_context c.args.scope.now in
    let ns = scope_names c.args.scope.now in
    let bs3 : plain_bounds c.deref-3.result.now ≡ plain_bounds r.binders.items = ap plain_bounds c.deref-3.ensures.value in
    let both : plain_bounds r.binders.items ≡ plain_bounds q.binders.items =
    sym (ap plain_bounds c.deref.ensures.value) ∙ c.if-not-equal_bounds.ensures.answer.0 refl ∙ ap plain_bounds c.deref-2.ensures.value in
    let ps4 : plain_types c.deref-4.result.now ≡ plain_types r.positional.items = ap plain_types c.deref-4.ensures.value in
    let qs5 : plain_types c.deref-5.result.now ≡ plain_types q.positional.items = ap plain_types c.deref-5.ensures.value in
    let ls6 : plain_labels r.labelled.items ≡ plain_labels r.labelled.items = refl in
    let ms7 : plain_labels q.labelled.items ≡ plain_labels q.labelled.items = refl in
    let xs = plain_bounds c.deref-3.result.now in
    let wr : weight_of ctx (plain_record r) ≡ suc (weigh_bounds (weights ctx) xs + (weigh_types (weights (under ctx xs)) (plain_types c.deref-4.result.now) + weigh_labels (weights (under ctx xs)) (plain_labels r.labelled.items))) = weigh_as ctx xs (plain_bounds r.binders.items) _ (plain_types r.positional.items) _ (plain_labels r.labelled.items) bs3 ps4 ls6 in
    let wq : weight_of ctx (plain_record q) ≡ suc (weigh_bounds (weights ctx) xs + (weigh_types (weights (under ctx xs)) (plain_types c.deref-5.result.now) + weigh_labels (weights (under ctx xs)) (plain_labels q.labelled.items))) = weigh_as ctx xs (plain_bounds q.binders.items) _ (plain_types q.positional.items) _ (plain_labels q.labelled.items) (bs3 ∙ both) qs5 ms7 in
    let paid : weigh_bounds (weights ctx) (plain_bounds c.deref.result.now) ≡ weigh_bounds (weights ctx) (plain_bounds c.deref-3.result.now) = ap (λ x. weigh_bounds (weights ctx) (plain_bounds x)) (c.deref.ensures.value ∙ sym c.deref-3.ensures.value) in
    let size = size_weight_bounds ctx (plain_bounds c.deref.result.now) in
    omega (arith, wr, wq, paid, size, c.equal_bounds.ensures.cost, c.rows_are_below.ensures.cost)

pub fields_are_below-returns-clause-cost : goal.fields_are_below-returns-clause-cost
fields_are_below-returns-clause-cost g t c =
    let r = c.args.r.now in
    let q = c.args.q.now in
    let ctx = scope_context c.args.scope.now in
    let ns = scope_names c.args.scope.now in
    let bs3 : plain_bounds c.deref-3.result.now ≡ plain_bounds r.binders.items = ap plain_bounds c.deref-3.ensures.value in
    let both : plain_bounds r.binders.items ≡ plain_bounds q.binders.items =
    sym (ap plain_bounds c.deref.ensures.value) ∙ c.if-not-equal_bounds.ensures.answer.0 refl ∙ ap plain_bounds c.deref-2.ensures.value in
    let ps4 : plain_types c.deref-4.result.now ≡ plain_types r.positional.items = ap plain_types c.deref-4.ensures.value in
    let qs5 : plain_types c.deref-5.result.now ≡ plain_types q.positional.items = ap plain_types c.deref-5.ensures.value in
    let ls6 : plain_labels c.deref-6.result.now ≡ plain_labels r.labelled.items = ap plain_labels c.deref-6.ensures.value in
    let ms7 : plain_labels c.deref-7.result.now ≡ plain_labels q.labelled.items = ap plain_labels c.deref-7.ensures.value in
    let xs = plain_bounds c.deref-3.result.now in
    let wr : weight_of ctx (plain_record r) ≡ suc (weigh_bounds (weights ctx) xs + (weigh_types (weights (under ctx xs)) (plain_types c.deref-4.result.now) + weigh_labels (weights (under ctx xs)) (plain_labels c.deref-6.result.now))) = weigh_as ctx xs (plain_bounds r.binders.items) _ (plain_types r.positional.items) _ (plain_labels r.labelled.items) bs3 ps4 ls6 in
    let wq : weight_of ctx (plain_record q) ≡ suc (weigh_bounds (weights ctx) xs + (weigh_types (weights (under ctx xs)) (plain_types c.deref-5.result.now) + weigh_labels (weights (under ctx xs)) (plain_labels c.deref-7.result.now))) = weigh_as ctx xs (plain_bounds q.binders.items) _ (plain_types q.positional.items) _ (plain_labels q.labelled.items) (bs3 ∙ both) qs5 ms7 in
    let paid : weigh_bounds (weights ctx) (plain_bounds c.deref.result.now) ≡ weigh_bounds (weights ctx) (plain_bounds c.deref-3.result.now) = ap (λ x. weigh_bounds (weights ctx) (plain_bounds x)) (c.deref.ensures.value ∙ sym c.deref-3.ensures.value) in
    let size = size_weight_bounds ctx (plain_bounds c.deref.result.now) in
    omega (arith, wr, wq, paid, size, c.equal_bounds.ensures.cost, c.rows_are_below.ensures.cost, c.labels_are_below.ensures.cost)

pub fields_are_below-returns-then-not-branch-clause-answer : goal.fields_are_below-returns-then-not-branch-clause-answer
fields_are_below-returns-then-not-branch-clause-answer g t c =
    let r = c.args.r.now in
    let q = c.args.q.now in
    let ctx = scope_context c.args.scope.now in
    let ns = scope_names c.args.scope.now in
    let bs3 : plain_bounds c.deref-3.result.now ≡ plain_bounds r.binders.items = ap plain_bounds c.deref-3.ensures.value in
    let both : plain_bounds r.binders.items ≡ plain_bounds q.binders.items =
    sym (ap plain_bounds c.deref.ensures.value) ∙ c.if-not-equal_bounds.ensures.answer.0 refl ∙ ap plain_bounds c.deref-2.ensures.value in
    let ps4 : plain_types c.deref-4.result.now ≡ plain_types r.positional.items = ap plain_types c.deref-4.ensures.value in
    let qs5 : plain_types c.deref-5.result.now ≡ plain_types q.positional.items = ap plain_types c.deref-5.ensures.value in
    let ls6 : plain_labels r.labelled.items ≡ plain_labels r.labelled.items = refl in
    let ms7 : plain_labels q.labelled.items ≡ plain_labels q.labelled.items = refl in
    let parts = parts_as ns _ ctx (plain_bounds c.deref-3.result.now) (plain_bounds r.binders.items) (plain_bounds q.binders.items) _ (plain_types r.positional.items) _ (plain_types q.positional.items) _ (plain_labels r.labelled.items) _ (plain_labels q.labelled.items) bs3 both ps4 qs5 ls6 ms7 c.requires.r.1.1 in
    (λ h. cc, λ d. sym c.if-not-branch.true ∙ c.in_ok-rows_are_below.ensures.answer.1 (parts.0 d).0)

pub fields_are_below-returns-clause-answer : goal.fields_are_below-returns-clause-answer
fields_are_below-returns-clause-answer g t c =
    let r = c.args.r.now in
    let q = c.args.q.now in
    let ctx = scope_context c.args.scope.now in
    let ns = scope_names c.args.scope.now in
    let bs3 : plain_bounds c.deref-3.result.now ≡ plain_bounds r.binders.items = ap plain_bounds c.deref-3.ensures.value in
    let both : plain_bounds r.binders.items ≡ plain_bounds q.binders.items =
    sym (ap plain_bounds c.deref.ensures.value) ∙ c.if-not-equal_bounds.ensures.answer.0 refl ∙ ap plain_bounds c.deref-2.ensures.value in
    let ps4 : plain_types c.deref-4.result.now ≡ plain_types r.positional.items = ap plain_types c.deref-4.ensures.value in
    let qs5 : plain_types c.deref-5.result.now ≡ plain_types q.positional.items = ap plain_types c.deref-5.ensures.value in
    let ls6 : plain_labels c.deref-6.result.now ≡ plain_labels r.labelled.items = ap plain_labels c.deref-6.ensures.value in
    let ms7 : plain_labels c.deref-7.result.now ≡ plain_labels q.labelled.items = ap plain_labels c.deref-7.ensures.value in
    let parts = parts_as ns _ ctx (plain_bounds c.deref-3.result.now) (plain_bounds r.binders.items) (plain_bounds q.binders.items) _ (plain_types r.positional.items) _ (plain_types q.positional.items) _ (plain_labels r.labelled.items) _ (plain_labels q.labelled.items) bs3 both ps4 qs5 ls6 ms7 c.requires.r.1.1 in
    second_decides c.labels_are_below.result (c.in_ok-rows_are_below.ensures.answer.0 c.if-not-branch.false) parts c.labels_are_below.ensures.answer

pub labels_are_below-returns-then-j-ms-clause-answer : goal.labels_are_below-returns-then-j-ms-clause-answer
labels_are_below-returns-then-j-ms-clause-answer g t c =
    (λ h. end_labels (scope_context c.args.scope.now) (labels_end c.args.ms.now c.loop-l.j (omega (arith, c.if-j-ms.true))) c.loop-l.invariant.same, λ x. refl)

pub labels_are_below-loop-l-preserved-then-l-m : goal.labels_are_below-loop-l-preserved-then-l-m
labels_are_below-loop-l-preserved-then-l-m g t c =
    let ctx = scope_context c.args.scope.now in
    let ns = scope_names c.args.scope.now in
    let i = c.loop-l.l-index in
    let j = c.loop-l.j in
    let l = c.l-item.result in
    let ltest : i < length c.args.ls.now = c.loop-l-test.true in
    let p = label_read c.args.ls.now i l c.l-item.is ltest in
    let m = c.index-ms-j.result in
    let mtest : j < length c.args.ms.now = omega (arith, c.if-j-ms.false, c.loop-l.invariant.inside) in
    let q = label_read c.args.ms.now j m c.index-ms-j.is mtest in
    let ls' = plain_labels (drop (i + 1) c.args.ls.now) in
    let ms' = plain_labels (drop (j + 1) c.args.ms.now) in
    record {
      inside = c.loop-l.invariant.inside;
      same = pass_label ns (kinds ctx) ctx ls' ms' l.0.0 m.0.0 (plain l.1) (plain m.1) p q c.if-l-m.true c.loop-l.invariant.left c.loop-l.invariant.right c.loop-l.invariant.same;
      left = label_rest ns (kinds ctx) l.0.0 (plain l.1) ls' p c.loop-l.invariant.left;
      right = c.loop-l.invariant.right;
      paid = omega (arith, label_weighs (weights ctx) l.0.0 (plain l.1) ls' p, weight_positive ctx (plain l.1), c.tick.ensures.counted, c.loop-l.invariant.paid);
    }

pub labels_are_below-returns-then-not-branch-clause-answer : goal.labels_are_below-returns-then-not-branch-clause-answer
labels_are_below-returns-then-not-branch-clause-answer g t c =
    let ctx = scope_context c.args.scope.now in
    let ns = scope_names c.args.scope.now in
    let i = c.loop-l.l-index in
    let j = c.loop-l.j in
    let l = c.l-item.result in
    let ltest : i < length c.args.ls.now = c.loop-l-test.true in
    let p = label_read c.args.ls.now i l c.l-item.is ltest in
    let m = c.index-ms-j.result in
    let mtest : j < length c.args.ms.now = omega (arith, c.if-j-ms.false, c.loop-l.invariant.inside) in
    let q = label_read c.args.ms.now j m c.index-ms-j.is mtest in
    let ls' = plain_labels (drop (i + 1) c.args.ls.now) in
    let ms' = plain_labels (drop (j + 1) c.args.ms.now) in
    let no : IsSubtype ctx (plain l.1) (plain m.1) → ⊥ = λ d. let z : false ≡ true = sym c.if-not-branch.true ∙ c.in_ok-is_below.ensures.answer.1 d in cc in
    (λ h. cc, λ x. absurd (miss_label ns (kinds ctx) ctx ls' ms' l.0.0 m.0.0 (plain l.1) (plain m.1) p q c.if-l-m.false c.loop-l.invariant.left c.loop-l.invariant.right no c.loop-l.invariant.same x))

pub labels_are_below-loop-l-preserved : goal.labels_are_below-loop-l-preserved
labels_are_below-loop-l-preserved g t c =
    let ctx = scope_context c.args.scope.now in
    let ns = scope_names c.args.scope.now in
    let i = c.loop-l.l-index in
    let j = c.loop-l.j in
    let l = c.l-item.result in
    let ltest : i < length c.args.ls.now = c.loop-l-test.true in
    let p = label_read c.args.ls.now i l c.l-item.is ltest in
    let m = c.index-ms-j.result in
    let mtest : j < length c.args.ms.now = omega (arith, c.if-j-ms.false, c.loop-l.invariant.inside) in
    let q = label_read c.args.ms.now j m c.index-ms-j.is mtest in
    let ls' = plain_labels (drop (i + 1) c.args.ls.now) in
    let ms' = plain_labels (drop (j + 1) c.args.ms.now) in
    record {
      inside = omega (arith, mtest);
      same = take_label ns (kinds ctx) ctx ls' ms' l.0.0 m.0.0 (plain l.1) (plain m.1) p q c.if-l-m.false c.loop-l.invariant.left c.loop-l.invariant.right (c.in_ok-is_below.ensures.answer.0 c.if-not-branch.false) c.loop-l.invariant.same;
      left = label_rest ns (kinds ctx) l.0.0 (plain l.1) ls' p c.loop-l.invariant.left;
      right = label_rest ns (kinds ctx) m.0.0 (plain m.1) ms' q c.loop-l.invariant.right;
      paid = omega (arith, label_weighs (weights ctx) l.0.0 (plain l.1) ls' p, label_weighs (weights ctx) m.0.0 (plain m.1) ms' q, c.in_ok-is_below.ensures.cost, c.loop-l.invariant.paid);
    }

pub labels_are_below-returns-clause-answer : goal.labels_are_below-returns-clause-answer
labels_are_below-returns-clause-answer g t c =
    all_found (scope_context c.args.scope.now) c.args.ls.now c.args.ms.now c.loop-l.l-index c.loop-l.j c.loop-l-test.false c.loop-l.invariant.inside c.loop-l.invariant.same

pub applied_is_below-returns-then-i-j-clause-answer : goal.applied_is_below-returns-then-i-j-clause-answer
applied_is_below-returns-then-i-j-clause-answer g t c =
    let ctx = scope_context c.args.scope.now in
    let o = operator_there ctx c.args.i _ c.requires.s.0 in
    let e = applied_to ctx c.args.i c.in-Some.j o.0 (plain_types c.args.ss.now) (plain_types c.in-Some.ts.now) (plain c.args.t.now) c.in-Some.ensures.some o.1 o.2 in
    (λ h. cc, λ d. absurd (c.if-i-j.true (e.0 d).0))

pub applied_is_below-unreachable-requires : goal.applied_is_below-unreachable-requires
applied_is_below-unreachable-requires g t c =
    let o = operator_there (scope_context c.args.scope.now) c.args.i _ c.requires.s.0 in
    c.in-None-marks_in.ensures.none o.0 o.1

pub applied_is_below-arguments_are_below-requires : goal.applied_is_below-arguments_are_below-requires
applied_is_below-arguments_are_below-requires g t c =
    let ctx = scope_context c.args.scope.now in
    let ns = scope_names c.args.scope.now in
    let ms = c.in-Some-marks_in.marks.now in
    let e = c.in-Some.ensures.some in
    let w = subst (IsWellFormed ns (kinds ctx)) e c.requires.t in
    let k : kind_at (kinds ctx) c.args.i ≡ Some (operator_of (count_types (plain_types c.in-Some.ts.now))) = ap (kind_at (kinds ctx)) c.if-i-j.false ∙ w.0 in
    let p : weight_of ctx (plain c.args.t.now) ≡ suc (weigh_types (weights ctx) (plain_types c.in-Some.ts.now)) = ap (weight_of ctx) e in
    let m = c.in-Some-marks_in.ensures.some in
    let l : length c.args.ss.now ≡ length ms = sym (count_types_length c.args.ss.now) ∙ sym (marks_there ctx c.args.i _ ms c.requires.s.0 m) in
    let r : length c.in-Some.ts.now ≡ length ms = sym (count_types_length c.in-Some.ts.now) ∙ sym (marks_there ctx c.args.i _ ms k m) in
    λ κs h. (omega (arith, p), (h, (c.requires.context, (c.requires.s.1, (w.1, (l, r))))))

pub applied_is_below-returns-in-Some-marks_in-clause-answer : goal.applied_is_below-returns-in-Some-marks_in-clause-answer
applied_is_below-returns-in-Some-marks_in-clause-answer g t c =
    let ctx = scope_context c.args.scope.now in
    let ms = c.in-Some-marks_in.marks.now in
    let m = c.in-Some-marks_in.ensures.some in
    let n = marks_there ctx c.args.i _ ms c.requires.s.0 m in
    second_decides c.arguments_are_below.result c.if-i-j.false (applied_to ctx c.args.i c.in-Some.j ms (plain_types c.args.ss.now) (plain_types c.in-Some.ts.now) (plain c.args.t.now) c.in-Some.ensures.some m n) c.arguments_are_below.ensures.answer
