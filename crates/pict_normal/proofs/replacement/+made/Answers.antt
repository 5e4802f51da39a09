-- The parts of a type are placed where it is, and what is made of them stands for it.
use Rattle.std.proofs.Common.{◌≡◌, suc, ◌+◌, ◌-◌, [], ◌∷◌, ◌++◌, length, get_or, false, IfOk, IfErr, refl, sym, ◌∙◌, ap, subst, arith}
use Rattle.pict_types.specs.declared.measure.Measures.{Measures}
use Rattle.pict_types.specs.declared.types.Ty.TheVariants.{Top as Top_, Int as Int_, Char as Char_, Str as Str_, Bool as Bool_}
use Rattle.pict_types.specs.Types.{Top, Int, Char, Str, Boolean, Apply, Chan, Rec, Fields, PlainTypes, count_types}
use Rattle.pict_types.specs.Kinds.{IsWellFormed, AreWellFormed, LabelsAreWellFormed}
use Rattle.pict_normal.specs.Made.{AreArguments, IsMade, IsMadeBound, IsReason, counted, only_used, used_as, weight_used}
use Rattle.pict_types.specs.Measures.{size, size_types, size_labels, size_bounds, weigh, weigh_types, weigh_labels, weigh_bounds, weigh_variable}
use Rattle.pict_types.specs.Filling.{put_for}
use Rattle.pict_types.specs.Plain.{plain, plain_cap, plain_bound, plain_record, plain_types, plain_labels, plain_bounds}
use Rattle.pict_normal.specs.Putting.{HasRoom, put_head, context_names, variables_in, weights_in, heights_in, replacement_in, replacement_of}
use Rattle.pict_types.specs.Renaming.{rename, moved}
use Rattle.pict_types.specs.Replacing.{variable, apply_head, bound_by, fill, replacement_past, replacement_beyond, replace, replace_bound, replace_bounds, replace_labels, replace_types}
use Rattle.pict_normal.proofs.Bounding.{bounds_step, bounds_all, bounds_done, bounds_reason}
use Rattle.pict_normal.proofs.Making.{fields_done, if_err, if_ok, leaf_is, passed_on, reason_by}
use Rattle.pict_normal.proofs.Operating.{measured_count, operator_count, operator_items}
use Rattle.pict_normal.proofs.Parts.{part_same, makes_same, leaf_made, body_made, body_reason, head_made, operator_is, reason_same, reasons_same, record_fields, types_step, types_all, types_reason, labels_step, labels_all, labels_reason, arguments_step, arguments_all, arguments_reason, weight_reason, weight_step, types_under_reason, labels_under_reason}
use Rattle.pict_normal.proofs.Placing.{placed_part, placed_same, placed_rec, placed_under, placed_item, placed_label, placed_bound}
use Rattle.pict_normal.proofs.Used.{AreTheUsed, only_used_same, used_weigh}
use Rattle.pict_types.proofs.Rows.{apply_is, record_is}
use Rattle.pict_normal.proofs.replacement.+made.Goals as goal
use Rattle.pict_types.proofs.Within.{bound_weight}
use Rattle.pict_types.proofs.Items.{item_size, label_size, bound_size}

pub made_type-returns-in-Top-clause-made : goal.made_type-returns-in-Top-clause-made
made_type-returns-in-Top-clause-made t c =
    let p = c.args.puts.now in
    let ms = c.args.inner.now.items in
    leaf_made p ms c.args.t.now Top_ c.in-Top.is (leaf_is c.leaf.result Top_ Top c.leaf.ensures.measures c.leaf.ensures.ty refl refl refl)

pub made_type-returns-in-Int-clause-made : goal.made_type-returns-in-Int-clause-made
made_type-returns-in-Int-clause-made t c =
    let p = c.args.puts.now in
    let ms = c.args.inner.now.items in
    leaf_made p ms c.args.t.now Int_ c.in-Int.is (leaf_is c.leaf-in-Int.result Int_ Int c.leaf-in-Int.ensures.measures c.leaf-in-Int.ensures.ty refl refl refl)

pub made_type-returns-in-Char-clause-made : goal.made_type-returns-in-Char-clause-made
made_type-returns-in-Char-clause-made t c =
    let p = c.args.puts.now in
    let ms = c.args.inner.now.items in
    leaf_made p ms c.args.t.now Char_ c.in-Char.is (leaf_is c.leaf-in-Char.result Char_ Char c.leaf-in-Char.ensures.measures c.leaf-in-Char.ensures.ty refl refl refl)

pub made_type-returns-in-Str-clause-made : goal.made_type-returns-in-Str-clause-made
made_type-returns-in-Str-clause-made t c =
    let p = c.args.puts.now in
    let ms = c.args.inner.now.items in
    leaf_made p ms c.args.t.now Str_ c.in-Str.is (leaf_is c.leaf-in-Str.result Str_ Str c.leaf-in-Str.ensures.measures c.leaf-in-Str.ensures.ty refl refl refl)

pub made_type-returns-in-Bool-clause-made : goal.made_type-returns-in-Bool-clause-made
made_type-returns-in-Bool-clause-made t c =
    let p = c.args.puts.now in
    let ms = c.args.inner.now.items in
    leaf_made p ms c.args.t.now Bool_ c.in-Bool.is (leaf_is c.leaf-in-Bool.result Bool_ Boolean c.leaf-in-Bool.ensures.measures c.leaf-in-Bool.ensures.ty refl refl refl)

pub made_type-made_apply-requires : goal.made_type-made_apply-requires
made_type-made_apply-requires t c =
    let p = c.args.puts.now in
    let ts = plain_types c.deref-in-Apply-2.result.now in
    let e = apply_is c.args.t.now c.in-Apply.i c.in-Apply.ts c.deref-in-Apply-2.result.now c.in-Apply.is (c.deref-in-Apply-2.ensures.value ∙ ap (λ v. v.items) c.deref-in-Apply.ensures) in
    let h : size (plain c.args.t.now) ≡ suc (size_types ts) = ap size e in
    (omega (arith, h), placed_part (λ ks. IsWellFormed (context_names p) ks (Apply c.in-Apply.i ts)) (λ ks w. subst (IsWellFormed (context_names p) ks) e w) c.requires.placed)

pub made_type-returns-in-Apply-clause-made : goal.made_type-returns-in-Apply-clause-made
made_type-returns-in-Apply-clause-made t c =
    let p = c.args.puts.now in
    let ms = c.args.inner.now.items in
    let e = apply_is c.args.t.now c.in-Apply.i c.in-Apply.ts c.deref-in-Apply-2.result.now c.in-Apply.is (c.deref-in-Apply-2.ensures.value ∙ ap (λ v. v.items) c.deref-in-Apply.ensures) in
    makes_same p c.made_apply.result ms ms (Apply c.in-Apply.i (plain_types c.deref-in-Apply-2.result.now)) (plain c.args.t.now) refl (sym e) c.made_apply.ensures.made

pub made_type-returns-in-Apply-clause-reason : goal.made_type-returns-in-Apply-clause-reason
made_type-returns-in-Apply-clause-reason t c =
    let p = c.args.puts.now in
    let ms = c.args.inner.now.items in
    let e = apply_is c.args.t.now c.in-Apply.i c.in-Apply.ts c.deref-in-Apply-2.result.now c.in-Apply.is (c.deref-in-Apply-2.ensures.value ∙ ap (λ v. v.items) c.deref-in-Apply.ensures) in
    reasons_same p c.made_apply.result ms (Apply c.in-Apply.i (plain_types c.deref-in-Apply-2.result.now)) (plain c.args.t.now) (sym e) c.made_apply.ensures.reason

pub made_type-made_record-requires : goal.made_type-made_record-requires
made_type-made_record-requires t c =
    let p = c.args.puts.now in
    let r = c.deref-in-Fields.result.now in
    let e = record_is c.args.t.now c.in-Fields.r r c.in-Fields.is c.deref-in-Fields.ensures in
    let h : size (plain c.args.t.now) ≡ size (plain_record r) = ap size e in
    (omega (arith, h), placed_part (λ ks. IsWellFormed (context_names p) ks (plain_record r)) (λ ks w. subst (IsWellFormed (context_names p) ks) e w) c.requires.placed)

pub made_type-returns-in-Fields-clause-made : goal.made_type-returns-in-Fields-clause-made
made_type-returns-in-Fields-clause-made t c =
    let p = c.args.puts.now in
    let ms = c.args.inner.now.items in
    let r = c.deref-in-Fields.result.now in
    let e = record_is c.args.t.now c.in-Fields.r r c.in-Fields.is c.deref-in-Fields.ensures in
    makes_same p c.made_record.result ms ms (plain_record r) (plain c.args.t.now) refl (sym e) c.made_record.ensures.made

pub made_type-returns-in-Fields-clause-reason : goal.made_type-returns-in-Fields-clause-reason
made_type-returns-in-Fields-clause-reason t c =
    let p = c.args.puts.now in
    let ms = c.args.inner.now.items in
    let r = c.deref-in-Fields.result.now in
    let e = record_is c.args.t.now c.in-Fields.r r c.in-Fields.is c.deref-in-Fields.ensures in
    reasons_same p c.made_record.result ms (plain_record r) (plain c.args.t.now) (sym e) c.made_record.ensures.reason

pub made_type-made_type-requires-in-Rec : goal.made_type-made_type-requires-in-Rec
made_type-made_type-requires-in-Rec t c =
    let p = c.args.puts.now in
    let b = plain c.deref-in-Rec.result.now in
    let e : plain c.args.t.now ≡ Rec b = ap plain c.in-Rec.is ∙ ap (λ x. Rec (plain x)) (sym c.deref-in-Rec.ensures) in
    let h : size (plain c.args.t.now) ≡ suc (size b) = ap size e in
    let whole = placed_part (λ ks. IsWellFormed (context_names p) ks (Rec b)) (λ ks w. subst (IsWellFormed (context_names p) ks) e w) c.requires.placed in
    (omega (arith, h), placed_same {ms = c.args.inner.now.items ++ record { weight = 1; height = 1 } ∷ []} c.push.new.self.items c.in_ok-push-in-Rec.ensures.items (placed_rec b (record { weight = 1; height = 1 }) whole))

pub made_type-returns-in_ok-body-in-Rec-clause-made : goal.made_type-returns-in_ok-body-in-Rec-clause-made
made_type-returns-in_ok-body-in-Rec-clause-made t c =
    let p = c.args.puts.now in
    let ms = c.args.inner.now.items in
    let b = plain c.deref-in-Rec.result.now in
    let e : plain c.args.t.now ≡ Rec b = ap plain c.in-Rec.is ∙ ap (λ x. Rec (plain x)) (sym c.deref-in-Rec.ensures) in
    let one : Measures = record { weight = 1; height = 1 } in
    let part = body_made p ms c.push.new.self.items one b c.in_ok-push-in-Rec.ensures.items c.in_ok-body-in-Rec.ensures.made in
    if_ok c.recursive.result (λ m f. part_same p {m = m} ms ms (Rec b) (plain c.args.t.now) refl (sym e) (f (weights_in p ms) (heights_in p ms) (replace (replacement_beyond (replacement_in p ms)) b) part)) c.recursive.ensures.made

pub made_type-returns-in_ok-body-in-Rec-clause-reason : goal.made_type-returns-in_ok-body-in-Rec-clause-reason
made_type-returns-in_ok-body-in-Rec-clause-reason t c =
    let p = c.args.puts.now in
    let ms = c.args.inner.now.items in
    let b = plain c.deref-in-Rec.result.now in
    let e : plain c.args.t.now ≡ Rec b = ap plain c.in-Rec.is ∙ ap (λ x. Rec (plain x)) (sym c.deref-in-Rec.ensures) in
    let one : Measures = record { weight = 1; height = 1 } in
    let part = body_made p ms c.push.new.self.items one b c.in_ok-push-in-Rec.ensures.items c.in_ok-body-in-Rec.ensures.made in
    if_err c.recursive.result (λ y f. reason_same p y ms ms (Rec b) (plain c.args.t.now) refl (sym e) (f (weights_in p ms) (heights_in p ms) (replace (replacement_beyond (replacement_in p ms)) b) part)) c.recursive.ensures.reason

pub made_type-returns-in_err-body-in-Rec-clause-reason : goal.made_type-returns-in_err-body-in-Rec-clause-reason
made_type-returns-in_err-body-in-Rec-clause-reason t c =
    let p = c.args.puts.now in
    let ms = c.args.inner.now.items in
    let b = plain c.deref-in-Rec.result.now in
    let e : plain c.args.t.now ≡ Rec b = ap plain c.in-Rec.is ∙ ap (λ x. Rec (plain x)) (sym c.deref-in-Rec.ensures) in
    let one : Measures = record { weight = 1; height = 1 } in
    let err = c.in_err-body-in-Rec.field-0.0 in
    passed_on (IsReason (weigh (weights_in p ms) (replace (replacement_in p ms) (plain c.args.t.now)))) c.from_residual-in_err-body-in-Rec.result err c.from_residual-in_err-body-in-Rec.ensures.1
    (reason_same p err ms ms (Rec b) (plain c.args.t.now) refl (sym e) (body_reason p err ms c.push.new.self.items one b c.in_ok-push-in-Rec.ensures.items refl c.in_err-body-in-Rec.ensures.reason))

pub made_type-returns-in_err-made_type-in-Chan-clause-reason : goal.made_type-returns-in_err-made_type-in-Chan-clause-reason
made_type-returns-in_err-made_type-in-Chan-clause-reason t c =
    let p = c.args.puts.now in
    let ms = c.args.inner.now.items in
    let b = plain c.deref-in-Chan.result.now in
    let e : plain c.args.t.now ≡ Chan (plain_cap c.in-Chan.cap) b = ap plain c.in-Chan.is ∙ ap (λ x. Chan (plain_cap c.in-Chan.cap) (plain x)) (sym c.deref-in-Chan.ensures) in
    let err = c.in_err-made_type-in-Chan.field-0.0 in
    passed_on (IsReason (weigh (weights_in p ms) (replace (replacement_in p ms) (plain c.args.t.now)))) c.from_residual.result err c.from_residual.ensures.1
    (reason_same p err ms ms (Chan (plain_cap c.in-Chan.cap) b) (plain c.args.t.now) refl (sym e)
    (reason_by (weigh (weights_in p ms) (replace (replacement_in p ms) b)) (weigh (weights_in p ms) (replace (replacement_in p ms) (Chan (plain_cap c.in-Chan.cap) b))) err (λ h. omega (arith, h)) c.in_err-made_type-in-Chan.ensures.reason))

pub made_type-returns-in_ok-made_type-in-Chan-clause-reason : goal.made_type-returns-in_ok-made_type-in-Chan-clause-reason
made_type-returns-in_ok-made_type-in-Chan-clause-reason t c =
    let p = c.args.puts.now in
    let ms = c.args.inner.now.items in
    let b = plain c.deref-in-Chan.result.now in
    let e : plain c.args.t.now ≡ Chan (plain_cap c.in-Chan.cap) b = ap plain c.in-Chan.is ∙ ap (λ x. Chan (plain_cap c.in-Chan.cap) (plain x)) (sym c.deref-in-Chan.ensures) in
    if_err c.channel.result (λ y f. reason_same p y ms ms (Chan (plain_cap c.in-Chan.cap) b) (plain c.args.t.now) refl (sym e) (f (weights_in p ms) (heights_in p ms) (replace (replacement_in p ms) b) c.in_ok-made_type-in-Chan.ensures.made)) c.channel.ensures.reason

pub made_apply-applied-requires : goal.made_apply-applied-requires
made_apply-applied-requires t c =
    let p = c.args.puts.now in
    let ms = c.args.inner.now.items in
    let ts = plain_types c.args.ts.now in
    let n = c.in-Operator.params in
    let depth : length c.as_slice.result.now ≡ length ms = ap length c.as_slice.ensures.value in
    let inner : length c.deref-in-Operator.result.now ≡ length ms = ap length (c.deref-in-Operator.ensures.value ∙ c.in_ok-args-in-Operator.ensures.inner) in
    let fits = subst (HasRoom (length (variables_in p)) (length c.as_slice.result.now) c.args.i) c.in-Operator.is c.in_ok-put.ensures.room in
    let head = sym (ap put_head c.in-Operator.is) ∙ c.in_ok-put.ensures.head ∙ ap (λ y. (replacement_past (length y) (replacement_of p)).head_of c.args.i) c.as_slice.ensures.value in
    let count = operator_count c.args.i ts n (rename (moved c.in-Operator.by n) (plain c.in-Operator.body.now)) c.requires.placed head in
    record {
      under = omega (arith, fits.0, depth, inner);
      by = omega (arith, fits.1, depth, inner);
      few = omega (arith, c.in_ok-used-in-Operator.ensures.few, count, measured_count c.in_ok-args-in-Operator.args (replace_types (replacement_in p ms) ts) c.deref.result.now c.in_ok-args-in-Operator.ensures.made);
    }

pub made_apply-returns-in_ok-made_types-in-Variable-clause-made : goal.made_apply-returns-in_ok-made_types-in-Variable-clause-made
made_apply-returns-in_ok-made_types-in-Variable-clause-made t c =
    let p = c.args.puts.now in
    let ms = c.args.inner.now.items in
    let ts = plain_types c.args.ts.now in
    let head = sym (ap put_head c.in-Variable.is) ∙ c.in_ok-put.ensures.head ∙ ap (λ y. (replacement_past (length y) (replacement_of p)).head_of c.args.i) c.as_slice.ensures.value in
    if_ok c.applied_variable.result (λ m f. head_made {m = m} (replacement_in p ms) c.args.i ts (variable c.in-Variable.k) head (f (weights_in p ms) (heights_in p ms) (replace_types (replacement_in p ms) ts) c.in_ok-made_types-in-Variable.ensures.made)) c.applied_variable.ensures.made

pub made_apply-returns-in_ok-made_types-in-Variable-clause-reason : goal.made_apply-returns-in_ok-made_types-in-Variable-clause-reason
made_apply-returns-in_ok-made_types-in-Variable-clause-reason t c =
    let p = c.args.puts.now in
    let ms = c.args.inner.now.items in
    let ts = plain_types c.args.ts.now in
    let head = sym (ap put_head c.in-Variable.is) ∙ c.in_ok-put.ensures.head ∙ ap (λ y. (replacement_past (length y) (replacement_of p)).head_of c.args.i) c.as_slice.ensures.value in
    let us = replace_types (replacement_in p ms) ts in
    let is : Apply c.in-Variable.k us ≡ replace (replacement_in p ms) (Apply c.args.i ts) = ap (λ k. apply_head k us) head in
    if_err c.applied_variable.result (λ y f. subst (λ u. IsReason (weigh (weights_in p ms) u) y) is (f (weights_in p ms) (heights_in p ms) us c.in_ok-made_types-in-Variable.ensures.made)) c.applied_variable.ensures.reason

pub made_apply-returns-in_err-made_types-in-Variable-clause-reason : goal.made_apply-returns-in_err-made_types-in-Variable-clause-reason
made_apply-returns-in_err-made_types-in-Variable-clause-reason t c =
    let p = c.args.puts.now in
    let ms = c.args.inner.now.items in
    let ts = plain_types c.args.ts.now in
    let head = sym (ap put_head c.in-Variable.is) ∙ c.in_ok-put.ensures.head ∙ ap (λ y. (replacement_past (length y) (replacement_of p)).head_of c.args.i) c.as_slice.ensures.value in
    let us = replace_types (replacement_in p ms) ts in
    let is : Apply c.in-Variable.k us ≡ replace (replacement_in p ms) (Apply c.args.i ts) = ap (λ k. apply_head k us) head in
    let err = c.in_err-made_types-in-Variable.field-0.0 in
    passed_on (IsReason (weigh (weights_in p ms) (replace (replacement_in p ms) (Apply c.args.i ts)))) c.from_residual-in_err-made_types-in-Variable.result err c.from_residual-in_err-made_types-in-Variable.ensures.1
    (subst (λ u. IsReason (weigh (weights_in p ms) u) err) is
    (reason_by (weigh_types (weights_in p ms) us) (weigh (weights_in p ms) (Apply c.in-Variable.k us)) err (λ h. omega (arith, h)) c.in_err-made_types-in-Variable.ensures.reason))

pub made_apply-returns-in_err-args-in-Operator-clause-reason : goal.made_apply-returns-in_err-args-in-Operator-clause-reason
made_apply-returns-in_err-args-in-Operator-clause-reason t c =
    let p = c.args.puts.now in
    let ms = c.args.inner.now.items in
    let ts = plain_types c.args.ts.now in
    let n = c.in-Operator.params in
    let body = plain c.in-Operator.body.now in
    let by = c.in-Operator.by in
    let us = replace_types (replacement_in p ms) ts in
    let head = sym (ap put_head c.in-Operator.is) ∙ c.in_ok-put.ensures.head ∙ ap (λ y. (replacement_past (length y) (replacement_of p)).head_of c.args.i) c.as_slice.ensures.value in
    let count = operator_count c.args.i ts n (rename (moved by n) body) c.requires.placed head in
    let whole = operator_is n by (replacement_in p ms) c.args.i ts body count head in
    let used = c.in_ok-used-in-Operator.used.items in
    let given : c.deref.result.now ≡ used = c.deref.ensures.value in
    let marks : AreTheUsed used (count_types us) body = subst (λ k. AreTheUsed used k body) count c.in_ok-used-in-Operator.ensures.used in
    let err = c.in_err-args-in-Operator.field-0.0 in
    passed_on (IsReason (weigh (weights_in p ms) (replace (replacement_in p ms) (Apply c.args.i ts)))) c.from_residual-in_err-args-in-Operator.result err c.from_residual-in_err-args-in-Operator.ensures.1
    (subst (λ u. IsReason (weigh (weights_in p ms) u) err) whole
    (reason_by (weight_used (weights_in p ms) used us) (weigh (weights_in p ms) (fill (put_for us by) body)) err (λ h. omega (arith, h, used_weigh (weights_in p ms) used us by body marks))
    (subst (λ y. IsReason (weight_used (weights_in p ms) y us) err) given c.in_err-args-in-Operator.ensures.reason)))

pub made_apply-returns-in_ok-args-in-Operator-clause-reason : goal.made_apply-returns-in_ok-args-in-Operator-clause-reason
made_apply-returns-in_ok-args-in-Operator-clause-reason t c =
    let p = c.args.puts.now in
    let ms = c.args.inner.now.items in
    let ts = plain_types c.args.ts.now in
    let n = c.in-Operator.params in
    let body = plain c.in-Operator.body.now in
    let by = c.in-Operator.by in
    let us = replace_types (replacement_in p ms) ts in
    let head = sym (ap put_head c.in-Operator.is) ∙ c.in_ok-put.ensures.head ∙ ap (λ y. (replacement_past (length y) (replacement_of p)).head_of c.args.i) c.as_slice.ensures.value in
    let count = operator_count c.args.i ts n (rename (moved by n) body) c.requires.placed head in
    let whole = operator_is n by (replacement_in p ms) c.args.i ts body count head in
    let used = c.in_ok-used-in-Operator.used.items in
    let given : c.deref.result.now ≡ used = c.deref.ensures.value in
    let marks : AreTheUsed used (count_types us) body = subst (λ k. AreTheUsed used k body) count c.in_ok-used-in-Operator.ensures.used in
    let a = c.in_ok-args-in-Operator.args in
    let same = c.deref-in-Operator.ensures.value ∙ c.in_ok-args-in-Operator.ensures.inner in
    let args = subst (λ y. AreArguments (weights_in p ms) (heights_in p ms) a (only_used y us)) given c.in_ok-args-in-Operator.ensures.made in
    let is = only_used_same used us by body marks ∙ whole in
    if_err c.applied.result (λ y f. subst (λ u. IsReason (weigh (weights_in p ms) u) y) is
    (subst (λ k. (vs : PlainTypes) → AreArguments (weights_in p k) (heights_in p k) a vs → IsReason (weigh (weights_in p k) (fill (put_for vs by) body)) y) same f (only_used used us) args)) c.applied.ensures.reason

pub made_apply-made_arguments-requires : goal.made_apply-made_arguments-requires
made_apply-made_arguments-requires t c =
    let p = c.args.puts.now in
    let ts = plain_types c.args.ts.now in
    let n = c.in-Operator.params in
    let head = sym (ap put_head c.in-Operator.is) ∙ c.in_ok-put.ensures.head ∙ ap (λ y. (replacement_past (length y) (replacement_of p)).head_of c.args.i) c.as_slice.ensures.value in
    let items : n ≡ length c.args.ts.now = operator_items c.args.i c.args.ts.now n (rename (moved c.in-Operator.by n) (plain c.in-Operator.body.now)) c.requires.placed head in
    (omega arith, (placed_part (λ ks. AreWellFormed (context_names p) ks ts) (λ ks w. w.1) c.requires.placed, (ap length c.deref.ensures.value ∙ c.in_ok-used-in-Operator.ensures.count ∙ items, omega (arith, items, c.in_ok-used-in-Operator.ensures.few))))

pub made_apply-returns-in_ok-args-in-Operator-clause-made : goal.made_apply-returns-in_ok-args-in-Operator-clause-made
made_apply-returns-in_ok-args-in-Operator-clause-made t c =
    let p = c.args.puts.now in
    let ms = c.args.inner.now.items in
    let ts = plain_types c.args.ts.now in
    let n = c.in-Operator.params in
    let body = plain c.in-Operator.body.now in
    let by = c.in-Operator.by in
    let us = replace_types (replacement_in p ms) ts in
    let head = sym (ap put_head c.in-Operator.is) ∙ c.in_ok-put.ensures.head ∙ ap (λ y. (replacement_past (length y) (replacement_of p)).head_of c.args.i) c.as_slice.ensures.value in
    let count = operator_count c.args.i ts n (rename (moved by n) body) c.requires.placed head in
    let whole = operator_is n by (replacement_in p ms) c.args.i ts body count head in
    let used = c.in_ok-used-in-Operator.used.items in
    let given : c.deref.result.now ≡ used = c.deref.ensures.value in
    let marks : AreTheUsed used (count_types us) body = subst (λ k. AreTheUsed used k body) count c.in_ok-used-in-Operator.ensures.used in
    let a = c.in_ok-args-in-Operator.args in
    let same = c.deref-in-Operator.ensures.value ∙ c.in_ok-args-in-Operator.ensures.inner in
    let args = subst (λ y. AreArguments (weights_in p ms) (heights_in p ms) a (only_used y us)) given c.in_ok-args-in-Operator.ensures.made in
    let is = only_used_same used us by body marks ∙ whole in
    if_ok c.applied.result (λ m f. subst (IsMade (weights_in p ms) (heights_in p ms) m) is
    (subst (λ k. (vs : PlainTypes) → AreArguments (weights_in p k) (heights_in p k) a vs → IsMade (weights_in p k) (heights_in p k) m (fill (put_for vs by) body)) same f (only_used used us) args)) c.applied.ensures.made

pub made_arguments-made_argument-requires : goal.made_arguments-made_argument-requires
made_arguments-made_argument-requires t c =
    let x = c.index-ts-k.result in
    let h = item_size c.args.ts.now c.loop-k.k x c.loop-k-test.true c.index-ts-k.is in
    (omega (arith, h), placed_item c.loop-k.inner.items c.args.ts.now c.loop-k.k x c.loop-k.invariant.inner c.loop-k-test.true c.index-ts-k.is c.requires.placed)

pub made_arguments-overflow_cast-place : goal.made_arguments-overflow_cast-place
made_arguments-overflow_cast-place t c = omega (arith, c.requires.few)

pub made_arguments-loop-k-preserved : goal.made_arguments-loop-k-preserved
made_arguments-loop-k-preserved t c =
    let p = c.args.puts.now in
    let ms = c.args.inner.now.items in
    let place = length c.args.ts.now - 1 - c.loop-k.k in
    let mark = get_or c.args.used.now place false in
    record {
      args = arguments_step p ms c.loop-k.inner.items c.args.ts.now c.args.used.now c.loop-k.k c.index-ts-k.result mark c.in_ok-part.part place c.push.new.self c.loop-k-test.true c.index-ts-k.is c.loop-k.invariant.inner refl refl c.loop-k.invariant.args c.in_ok-part.ensures.made c.in_ok-push.ensures.measures c.in_ok-push.ensures.kept c.in_ok-push.ensures.types;
      weight = weight_step p ms c.loop-k.inner.items c.args.ts.now c.args.used.now c.loop-k.k c.index-ts-k.result mark c.in_ok-part.part place c.loop-k.together.weight c.in_ok-together.together.weight c.loop-k-test.true c.index-ts-k.is c.loop-k.invariant.inner refl refl c.loop-k.invariant.weight c.in_ok-part.ensures.made c.in_ok-together.ensures.weight;
      inner = c.in_ok-part.ensures.inner ∙ c.loop-k.invariant.inner;
    }

pub made_arguments-returns-clause-made : goal.made_arguments-returns-clause-made
made_arguments-returns-clause-made t c =
    arguments_all c.args.puts.now c.args.inner.now.items c.args.ts.now c.args.used.now c.loop-k.k c.loop-k-test.false c.loop-k.invariant.args

pub made_arguments-returns-in_err-part-clause-reason : goal.made_arguments-returns-in_err-part-clause-reason
made_arguments-returns-in_err-part-clause-reason t c =
    let p = c.args.puts.now in
    let ms = c.args.inner.now.items in
    let err = c.in_err-part.field-0.0 in
    let place = length c.args.ts.now - 1 - c.loop-k.k in
    passed_on (IsReason (weight_used (weights_in p ms) c.args.used.now (replace_types (replacement_in p ms) (plain_types c.args.ts.now)))) c.from_residual.result err c.from_residual.ensures.1
    (arguments_reason p err ms c.loop-k.inner.items c.args.ts.now c.args.used.now c.loop-k.k c.index-ts-k.result (get_or c.args.used.now place false) place c.loop-k.together.weight c.loop-k-test.true c.index-ts-k.is c.loop-k.invariant.inner refl refl c.loop-k.invariant.weight c.in_err-part.ensures.reason)

pub made_arguments-returns-in_err-together-clause-reason : goal.made_arguments-returns-in_err-together-clause-reason
made_arguments-returns-in_err-together-clause-reason t c =
    let p = c.args.puts.now in
    let ms = c.args.inner.now.items in
    let err = c.in_err-together.field-0.0 in
    let place = length c.args.ts.now - 1 - c.loop-k.k in
    let mark = get_or c.args.used.now place false in
    let part = c.in_ok-part.part in
    passed_on (IsReason (weight_used (weights_in p ms) c.args.used.now (replace_types (replacement_in p ms) (plain_types c.args.ts.now)))) c.from_residual-in_err-together.result err c.from_residual-in_err-together.ensures.1
    (weight_reason p err ms c.loop-k.inner.items c.args.ts.now c.args.used.now c.loop-k.k c.index-ts-k.result mark part place c.loop-k.together.weight (c.loop-k.together.weight + counted mark part.measures.weight) c.loop-k-test.true c.index-ts-k.is c.loop-k.invariant.inner refl refl c.loop-k.invariant.weight c.in_ok-part.ensures.made refl c.in_err-together.ensures.reason)

pub made_argument-returns-then-used-clause-made : goal.made_argument-returns-then-used-clause-made
made_argument-returns-then-used-clause-made t c =
    let p = c.args.puts.now in
    let ms = c.args.inner.now.items in
    subst (λ b. IfOk c.made_type.result (λ m. IsMade (weights_in p ms) (heights_in p ms) m (used_as b (replace (replacement_in p ms) (plain c.args.t.now))))) (sym c.if-used.true) c.made_type.ensures.made

pub made_argument-returns-then-used-clause-reason : goal.made_argument-returns-then-used-clause-reason
made_argument-returns-then-used-clause-reason t c =
    let p = c.args.puts.now in
    let ms = c.args.inner.now.items in
    subst (λ b. IfErr c.made_type.result (λ e. IsReason (weigh (weights_in p ms) (used_as b (replace (replacement_in p ms) (plain c.args.t.now)))) e)) (sym c.if-used.true) c.made_type.ensures.reason

pub made_argument-returns-else-used-clause-made : goal.made_argument-returns-else-used-clause-made
made_argument-returns-else-used-clause-made t c =
    let p = c.args.puts.now in
    let ms = c.args.inner.now.items in
    subst (λ b. IsMade (weights_in p ms) (heights_in p ms) c.leaf.result (used_as b (replace (replacement_in p ms) (plain c.args.t.now)))) (sym c.if-used.false) (leaf_is c.leaf.result Top_ Top c.leaf.ensures.measures c.leaf.ensures.ty refl refl refl)

pub made_types-made_type-requires : goal.made_types-made_type-requires
made_types-made_type-requires t c =
    let x = c.t-item.result in
    (omega (arith, item_size c.args.ts.now c.loop-t.t-index x c.loop-t-test.true c.t-item.is), placed_item c.loop-t.inner.items c.args.ts.now c.loop-t.t-index x c.loop-t.invariant.inner c.loop-t-test.true c.t-item.is c.requires.placed)

pub made_types-loop-t-preserved : goal.made_types-loop-t-preserved
made_types-loop-t-preserved t c = record {
  row = types_step c.args.puts.now c.args.inner.now.items c.loop-t.inner.items c.args.ts.now c.loop-t.t-index c.t-item.result c.in_ok-part.part c.in_ok-row.row c.loop-t-test.true c.t-item.is c.loop-t.invariant.inner c.loop-t.invariant.row c.in_ok-part.ensures.made c.in_ok-row.ensures.weight c.in_ok-row.ensures.light c.in_ok-row.ensures.height c.in_ok-row.ensures.grown c.in_ok-row.ensures.missing;
  inner = c.in_ok-part.ensures.inner ∙ c.loop-t.invariant.inner;
}

pub made_types-returns-clause-made : goal.made_types-returns-clause-made
made_types-returns-clause-made t c = types_all c.args.puts.now c.args.inner.now.items c.args.ts.now c.loop-t.t-index c.loop-t-test.false c.loop-t.invariant.row

pub made_types-returns-in_err-part-clause-reason : goal.made_types-returns-in_err-part-clause-reason
made_types-returns-in_err-part-clause-reason t c =
    let p = c.args.puts.now in
    let ms = c.args.inner.now.items in
    let err = c.in_err-part.field-0.0 in
    let x = c.t-item.result in
    passed_on (IsReason (weigh_types (weights_in p ms) (replace_types (replacement_in p ms) (plain_types c.args.ts.now)))) c.from_residual.result err c.from_residual.ensures.1
    (types_reason p err ms c.loop-t.inner.items c.args.ts.now c.loop-t.t-index x (weigh (weights_in p c.loop-t.inner.items) (replace (replacement_in p c.loop-t.inner.items) (plain x))) c.loop-t-test.true c.t-item.is c.loop-t.invariant.inner c.loop-t.invariant.row (omega arith) c.in_err-part.ensures.reason)

pub made_types-returns-in_err-row-clause-reason : goal.made_types-returns-in_err-row-clause-reason
made_types-returns-in_err-row-clause-reason t c =
    let p = c.args.puts.now in
    let ms = c.args.inner.now.items in
    let err = c.in_err-row.field-0.0 in
    let part = c.in_ok-part.ensures.made in
    passed_on (IsReason (weigh_types (weights_in p ms) (replace_types (replacement_in p ms) (plain_types c.args.ts.now)))) c.from_residual-in_err-row.result err c.from_residual-in_err-row.ensures.1
    (types_reason p err ms c.loop-t.inner.items c.args.ts.now c.loop-t.t-index c.t-item.result (c.loop-t.row.measures.weight + c.in_ok-part.part.measures.weight) c.loop-t-test.true c.t-item.is c.loop-t.invariant.inner c.loop-t.invariant.row (omega (arith, part.weight)) c.in_err-row.ensures.reason)

pub made_labels-made_type-requires : goal.made_labels-made_type-requires
made_labels-made_type-requires t c =
    let x = c.l-item.result in
    (omega (arith, label_size c.args.ls.now c.loop-l.l-index x c.loop-l-test.true c.l-item.is), placed_label c.loop-l.inner.items c.args.ls.now c.loop-l.l-index x c.loop-l.invariant.inner c.loop-l-test.true c.l-item.is c.requires.placed)

pub made_labels-loop-l-preserved : goal.made_labels-loop-l-preserved
made_labels-loop-l-preserved t c = record {
  row = labels_step c.args.puts.now c.args.inner.now.items c.loop-l.inner.items c.args.ls.now c.loop-l.l-index c.l-item.result c.in_ok-measures.field-0 c.labelled_part.result c.in_ok-row.row c.loop-l-test.true c.l-item.is c.loop-l.invariant.inner c.loop-l.invariant.row c.in_ok-measures.ensures.made c.labelled_part.ensures.some c.labelled_part.ensures.none c.in_ok-row.ensures.weight c.in_ok-row.ensures.light c.in_ok-row.ensures.height c.in_ok-row.ensures.grown c.in_ok-row.ensures.missing;
  inner = c.in_ok-measures.ensures.inner ∙ c.loop-l.invariant.inner;
}

pub made_labels-returns-clause-made : goal.made_labels-returns-clause-made
made_labels-returns-clause-made t c = labels_all c.args.puts.now c.args.inner.now.items c.args.ls.now c.loop-l.l-index c.loop-l-test.false c.loop-l.invariant.row

pub made_labels-returns-in_err-measures-clause-reason : goal.made_labels-returns-in_err-measures-clause-reason
made_labels-returns-in_err-measures-clause-reason t c =
    let p = c.args.puts.now in
    let ms = c.args.inner.now.items in
    let err = c.in_err-measures.field-0.0 in
    let x = c.l-item.result in
    passed_on (IsReason (weigh_labels (weights_in p ms) (replace_labels (replacement_in p ms) (plain_labels c.args.ls.now)))) c.from_residual.result err c.from_residual.ensures.1
    (labels_reason p err ms c.loop-l.inner.items c.args.ls.now c.loop-l.l-index x (weigh (weights_in p c.loop-l.inner.items) (replace (replacement_in p c.loop-l.inner.items) (plain x.1))) c.loop-l-test.true c.l-item.is c.loop-l.invariant.inner c.loop-l.invariant.row (omega arith) c.in_err-measures.ensures.reason)

pub made_labels-returns-in_err-row-clause-reason : goal.made_labels-returns-in_err-row-clause-reason
made_labels-returns-in_err-row-clause-reason t c =
    let p = c.args.puts.now in
    let ms = c.args.inner.now.items in
    let err = c.in_err-row.field-0.0 in
    let part = c.in_ok-measures.ensures.made in
    passed_on (IsReason (weigh_labels (weights_in p ms) (replace_labels (replacement_in p ms) (plain_labels c.args.ls.now)))) c.from_residual-in_err-row.result err c.from_residual-in_err-row.ensures.1
    (labels_reason p err ms c.loop-l.inner.items c.args.ls.now c.loop-l.l-index c.l-item.result (c.loop-l.row.measures.weight + c.in_ok-measures.field-0.measures.weight) c.loop-l-test.true c.l-item.is c.loop-l.invariant.inner c.loop-l.invariant.row (omega (arith, part.weight)) c.in_err-row.ensures.reason)

pub made_bound-returns-in_ok-made_type-in-Below-clause-made : goal.made_bound-returns-in_ok-made_type-in-Below-clause-made
made_bound-returns-in_ok-made_type-in-Below-clause-made t c =
    let p = c.args.puts.now in
    let ms = c.args.inner.now.items in
    if_ok c.bound_of.result (λ m f. subst (λ y. IsMadeBound (weights_in p ms) (heights_in p ms) m (replace_bound (replacement_in p ms) (plain_bound y))) (sym c.in-Below.is)
    (f (weights_in p ms) (heights_in p ms) (replace (replacement_in p ms) (plain c.in-Below.t)) c.in_ok-made_type-in-Below.ensures.made)) c.bound_of.ensures.made

pub made_bound-returns-in_ok-made_type-in-Below-clause-reason : goal.made_bound-returns-in_ok-made_type-in-Below-clause-reason
made_bound-returns-in_ok-made_type-in-Below-clause-reason t c =
    let p = c.args.puts.now in
    let ms = c.args.inner.now.items in
    if_err c.bound_of.result (λ e f. subst (λ y. IsReason (weigh_variable (weights_in p ms) (replace_bound (replacement_in p ms) (plain_bound y))) e) (sym c.in-Below.is)
    (f (weights_in p ms) (heights_in p ms) (replace (replacement_in p ms) (plain c.in-Below.t)) c.in_ok-made_type-in-Below.ensures.made)) c.bound_of.ensures.reason

pub made_bound-returns-in_err-made_type-in-Below-clause-reason : goal.made_bound-returns-in_err-made_type-in-Below-clause-reason
made_bound-returns-in_err-made_type-in-Below-clause-reason t c =
    let p = c.args.puts.now in
    let ms = c.args.inner.now.items in
    let err = c.in_err-made_type-in-Below.field-0.0 in
    let u = replace (replacement_in p ms) (plain c.in-Below.t) in
    passed_on (IsReason (weigh_variable (weights_in p ms) (replace_bound (replacement_in p ms) (plain_bound c.args.b.now)))) c.from_residual.result err c.from_residual.ensures.1
    (subst (λ y. IsReason (weigh_variable (weights_in p ms) (replace_bound (replacement_in p ms) (plain_bound y))) err) (sym c.in-Below.is)
    (reason_by (weigh (weights_in p ms) u) (weigh_variable (weights_in p ms) (bound_by u)) err (λ h. omega (arith, h, bound_weight (weights_in p ms) u (weigh_variable (weights_in p ms) (bound_by u)) (omega arith))) c.in_err-made_type-in-Below.ensures.reason))

pub made_bounds-made_bound-requires : goal.made_bounds-made_bound-requires
made_bounds-made_bound-requires t c =
    let x = c.b-item.result in
    (omega (arith, bound_size c.args.bs.now c.loop-b.b-index x c.loop-b-test.true c.b-item.is), placed_bound c.args.bs.now c.loop-b.b-index x c.loop-b-test.true c.b-item.is c.loop-b.invariant.placed)

pub made_bounds-loop-b-preserved : goal.made_bounds-loop-b-preserved
made_bounds-loop-b-preserved t c =
    bounds_step c.args.bs.now c.loop-b.b-index c.b-item.result c.in_ok-part.part c.in_ok-row.row c.push.new.self.items c.loop-b-test.true c.b-item.is (c.in_ok-push.ensures.items ∙ ap (λ y. y ++ c.in_ok-part.part.measures ∷ []) c.in_ok-part.ensures.inner) c.loop-b.invariant c.in_ok-part.ensures.made c.in_ok-row.ensures.weight c.in_ok-row.ensures.light c.in_ok-row.ensures.height c.in_ok-row.ensures.grown c.in_ok-row.ensures.missing

pub made_bounds-returns-clause-made : goal.made_bounds-returns-clause-made
made_bounds-returns-clause-made t c =
    let y = bounds_all c.args.bs.now c.loop-b.b-index c.loop-b-test.false c.loop-b.invariant in
    fields_done y.made.row_

pub made_bounds-returns-in_err-part-clause-reason : goal.made_bounds-returns-in_err-part-clause-reason
made_bounds-returns-in_err-part-clause-reason t c =
    let p = c.args.puts.now in
    let ms = c.args.inner.now.items in
    let err = c.in_err-part.field-0.0 in
    let x = c.b-item.result in
    passed_on (IsReason (weigh_bounds (weights_in p ms) (replace_bounds (replacement_in p ms) (plain_bounds c.args.bs.now)))) c.from_residual.result err c.from_residual.ensures.1
    (bounds_reason err c.args.bs.now c.loop-b.b-index x (weigh_variable (weights_in p c.loop-b.inner.items) (replace_bound (replacement_in p c.loop-b.inner.items) (plain_bound x))) c.loop-b-test.true c.b-item.is c.loop-b.invariant (omega arith) c.in_err-part.ensures.reason)

pub made_bounds-returns-in_err-row-clause-reason : goal.made_bounds-returns-in_err-row-clause-reason
made_bounds-returns-in_err-row-clause-reason t c =
    let p = c.args.puts.now in
    let ms = c.args.inner.now.items in
    let err = c.in_err-row.field-0.0 in
    let part = c.in_ok-part.ensures.made in
    passed_on (IsReason (weigh_bounds (weights_in p ms) (replace_bounds (replacement_in p ms) (plain_bounds c.args.bs.now)))) c.from_residual-in_err-row.result err c.from_residual-in_err-row.ensures.1
    (bounds_reason err c.args.bs.now c.loop-b.b-index c.b-item.result (c.loop-b.row.measures.weight + c.in_ok-part.part.measures.weight) c.loop-b-test.true c.b-item.is c.loop-b.invariant (omega (arith, part.weight)) c.in_err-row.ensures.reason)

pub made_bounds-returns-clause-inner : goal.made_bounds-returns-clause-inner
made_bounds-returns-clause-inner t c = bounds_done (bounds_all c.args.bs.now c.loop-b.b-index c.loop-b-test.false c.loop-b.invariant)

three : {A B C D : Type 0} (k : A → B → C → D) {a a' : A} {b b' : B} {c c' : C} → a ≡ a' → b ≡ b' → c ≡ c' → k a b c ≡ k a' b' c'
three k p q r = cc

pub made_record-made_types-requires : goal.made_record-made_types-requires
made_record-made_types-requires t c =
    let p = c.args.puts.now in
    let r = c.args.r.now in
    let bs = plain_bounds c.deref.result.now in
    let ps = plain_types c.deref-2.result.now in
    let same : plain_bounds r.binders.items ≡ bs = ap plain_bounds (sym c.deref.ensures.value) in
    let fields : plain_types r.positional.items ≡ ps = ap plain_types (sym c.deref-2.ensures.value) in
    let e : plain_record r ≡ Fields bs ps (plain_labels r.labelled.items) = three Fields same fields refl in
    let h : size (plain_record r) ≡ suc (size_bounds bs + size_types ps + size_labels (plain_labels r.labelled.items)) = ap size e in
    (omega (arith, h), placed_under c.made_bounds.new.inner.items bs (λ ks. AreWellFormed (context_names p) ks ps) c.in_ok-binders.ensures.inner (λ ks w. (subst (IsWellFormed (context_names p) ks) e w).1.0) c.requires.placed)

pub made_record-made_labels-requires : goal.made_record-made_labels-requires
made_record-made_labels-requires t c =
    let p = c.args.puts.now in
    let r = c.args.r.now in
    let bs = plain_bounds c.deref.result.now in
    let ls = plain_labels c.deref-3.result.now in
    let same : plain_bounds r.binders.items ≡ bs = ap plain_bounds (sym c.deref.ensures.value) in
    let fields : plain_labels r.labelled.items ≡ ls = ap plain_labels (sym c.deref-3.ensures.value) in
    let e : plain_record r ≡ Fields bs (plain_types r.positional.items) ls = three Fields same refl fields in
    let h : size (plain_record r) ≡ suc (size_bounds bs + size_types (plain_types r.positional.items) + size_labels ls) = ap size e in
    (omega (arith, h), placed_same c.made_types.new.inner.items c.in_ok-positional.ensures.inner (placed_under c.made_bounds.new.inner.items bs (λ ks. LabelsAreWellFormed (context_names p) ks ls) c.in_ok-binders.ensures.inner (λ ks w. (subst (IsWellFormed (context_names p) ks) e w).1.1) c.requires.placed))

pub made_record-returns-clause-made : goal.made_record-returns-clause-made
made_record-returns-clause-made t c =
    let p = c.args.puts.now in
    let ms = c.args.inner.now.items in
    let r = c.args.r.now in
    let bs = plain_bounds c.deref.result.now in
    let ps = plain_types c.deref-2.result.now in
    let ls = plain_labels c.deref-3.result.now in
    let e : Fields bs ps ls ≡ plain_record r = three Fields (ap plain_bounds c.deref.ensures.value) (ap plain_types c.deref-2.ensures.value) (ap plain_labels c.deref-3.ensures.value) in
    let fields = record_fields p ms c.made_bounds.new.inner.items c.made_types.new.inner.items bs ps ls c.in_ok-binders.binders c.in_ok-positional.positional c.in_ok-labelled.labelled c.in_ok-binders.ensures.inner c.in_ok-positional.ensures.inner c.in_ok-binders.ensures.made c.in_ok-positional.ensures.made c.in_ok-labelled.ensures.made in
    if_ok c.fields.result (λ m f. part_same p {m = m} ms ms (Fields bs ps ls) (plain_record r) refl e (fields (λ ws hs bs ps ls. IsMade ws hs m (Fields bs ps ls)) f)) c.fields.ensures.made

pub made_record-returns-in_err-binders-clause-reason : goal.made_record-returns-in_err-binders-clause-reason
made_record-returns-in_err-binders-clause-reason t c =
    let p = c.args.puts.now in
    let ms = c.args.inner.now.items in
    let r = c.args.r.now in
    let err = c.in_err-binders.field-0.0 in
    let bs = plain_bounds c.deref.result.now in
    let e : Fields bs (plain_types r.positional.items) (plain_labels r.labelled.items) ≡ plain_record r = three Fields (ap plain_bounds c.deref.ensures.value) refl refl in
    passed_on (IsReason (weigh (weights_in p ms) (replace (replacement_in p ms) (plain_record r)))) c.from_residual.result err c.from_residual.ensures.1
    (reason_same p err ms ms (Fields bs (plain_types r.positional.items) (plain_labels r.labelled.items)) (plain_record r) refl e
    (reason_by (weigh_bounds (weights_in p ms) (replace_bounds (replacement_in p ms) bs)) (weigh (weights_in p ms) (replace (replacement_in p ms) (Fields bs (plain_types r.positional.items) (plain_labels r.labelled.items)))) err (λ h. omega (arith, h)) c.in_err-binders.ensures.reason))

pub made_record-returns-in_err-positional-clause-reason : goal.made_record-returns-in_err-positional-clause-reason
made_record-returns-in_err-positional-clause-reason t c =
    let p = c.args.puts.now in
    let ms = c.args.inner.now.items in
    let r = c.args.r.now in
    let err = c.in_err-positional.field-0.0 in
    let bs = plain_bounds c.deref.result.now in
    let ps = plain_types c.deref-2.result.now in
    let e : Fields bs ps (plain_labels r.labelled.items) ≡ plain_record r = three Fields (ap plain_bounds c.deref.ensures.value) (ap plain_types c.deref-2.ensures.value) refl in
    passed_on (IsReason (weigh (weights_in p ms) (replace (replacement_in p ms) (plain_record r)))) c.from_residual-in_err-positional.result err c.from_residual-in_err-positional.ensures.1
    (reason_same p err ms ms (Fields bs ps (plain_labels r.labelled.items)) (plain_record r) refl e
    (types_under_reason err ms c.made_bounds.new.inner.items bs ps (plain_labels r.labelled.items) c.in_ok-binders.ensures.inner c.in_err-positional.ensures.reason))

pub made_record-returns-in_err-labelled-clause-reason : goal.made_record-returns-in_err-labelled-clause-reason
made_record-returns-in_err-labelled-clause-reason t c =
    let p = c.args.puts.now in
    let ms = c.args.inner.now.items in
    let r = c.args.r.now in
    let err = c.in_err-labelled.field-0.0 in
    let bs = plain_bounds c.deref.result.now in
    let ls = plain_labels c.deref-3.result.now in
    let e : Fields bs (plain_types r.positional.items) ls ≡ plain_record r = three Fields (ap plain_bounds c.deref.ensures.value) refl (ap plain_labels c.deref-3.ensures.value) in
    passed_on (IsReason (weigh (weights_in p ms) (replace (replacement_in p ms) (plain_record r)))) c.from_residual-in_err-labelled.result err c.from_residual-in_err-labelled.ensures.1
    (reason_same p err ms ms (Fields bs (plain_types r.positional.items) ls) (plain_record r) refl e
    (labels_under_reason err ms c.made_bounds.new.inner.items bs (plain_types r.positional.items) ls c.in_ok-binders.ensures.inner
    (subst (λ k. IsReason (weigh_labels (weights_in p k) (replace_labels (replacement_in p k) ls)) err) c.in_ok-positional.ensures.inner c.in_err-labelled.ensures.reason)))

pub made_record-returns-clause-reason : goal.made_record-returns-clause-reason
made_record-returns-clause-reason t c =
    let p = c.args.puts.now in
    let ms = c.args.inner.now.items in
    let r = c.args.r.now in
    let bs = plain_bounds c.deref.result.now in
    let ps = plain_types c.deref-2.result.now in
    let ls = plain_labels c.deref-3.result.now in
    let e : Fields bs ps ls ≡ plain_record r = three Fields (ap plain_bounds c.deref.ensures.value) (ap plain_types c.deref-2.ensures.value) (ap plain_labels c.deref-3.ensures.value) in
    let fields = record_fields p ms c.made_bounds.new.inner.items c.made_types.new.inner.items bs ps ls c.in_ok-binders.binders c.in_ok-positional.positional c.in_ok-labelled.labelled c.in_ok-binders.ensures.inner c.in_ok-positional.ensures.inner c.in_ok-binders.ensures.made c.in_ok-positional.ensures.made c.in_ok-labelled.ensures.made in
    if_err c.fields.result (λ y f. reason_same p y ms ms (Fields bs ps ls) (plain_record r) refl e (fields (λ ws hs bs ps ls. IsReason (weigh ws (Fields bs ps ls)) y) f)) c.fields.ensures.reason
