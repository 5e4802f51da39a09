-- Each form of a pattern, the fields of a record, and lists of patterns.
use Rattle.std.proofs.Common.{◌≡◌, length, refl, sym, ◌∙◌, ap, ap₂, subst, arith, rules}
use Rattle.pict_syntax.specs.declared.pattern.Pat.{Pat as RPat, the_lemmas}
use Rattle.pict_syntax.specs.declared.pattern.FieldPats.{FieldPats as RFieldPats}
use Rattle.pict_syntax.specs.Trees.{Pat, fields_pat, fold_pat, no_labelled_pats, no_pats}
use Rattle.pict_syntax.specs.PlainTrees.{annotation_of, field_pats_of, labelled_pats_on, pat_of, pats_on}
use Rattle.pict_syntax.specs.Labels.{by_number, in_label_order}
use Rattle.pict_types.specs.declared.types.Ty.TheVariants.{Fields}
use Rattle.pict_types.specs.Plain.{plain, plain_labels, plain_record, plain_types}
use Rattle.pict_types.specs.PlainContext.{type_context}
use Rattle.pict_types.specs.Types.{PlainBounds, Fields as PlainFields}
use Rattle.pict_types.proofs.Rows.{plain_fields}
use Rattle.pict_rules.specs.Environments.{Environment, joined_extensions, within}
use Rattle.pict_rules.specs.Rules.{fields_, fields_give, labelled_patterns_give, ok, pattern_, pattern_gives, patterns_give, TypedFields}
use Rattle.pict_rules.specs.Clauses.{with_own}
use Rattle.pict_rules.specs.Derivations.{Runs}
use Rattle.pict_rules.specs.Typing.{rule}
use Rattle.pict_infer.specs.Adding.{extension_of}
use Rattle.pict_infer.specs.Answering.{IsAnswer, IsRefused}
use Rattle.pict_infer.specs.Asking.{IsWellAsked}
use Rattle.pict_infer.specs.Giving.{typed_all, typed_labelled, typed_pattern}
use Rattle.pict_infer.specs.Places.{environment_in}
use Rattle.pict_infer.specs.Steps.{limited}
use Rattle.pict_infer.proofs.Closed.{as_many, as_many_more, base_back, no_fewer, record_closed, room_for}
use Rattle.pict_infer.proofs.Forms.{any_is, bind_is, fields_is, fold_is, parts_read}
use Rattle.pict_infer.proofs.Handed.{answer_err, fields_err}
use Rattle.pict_infer.proofs.GivingAsked.{asked_in, binders_asked, labelled_asked, labelled_pat_asked, pat_asked, positional_asked, refused_in, runs_in}
use Rattle.pict_infer.proofs.GivingLines.{binders_refused, fields_typed, label_refused, labelled_refused, labels_end, labels_more, labels_start, pattern_refused, patterns_more, patterns_start, positional_refused, record_refused, record_too_big, record_typed}
use Rattle.pict_infer.proofs.giving.+giving.Goals as goal

-- the forms
pub give-variable_gives-requires : goal.give-variable_gives-requires
give-variable_gives-requires t c = record {
  right = subst (λ (p : Pat). IsWellAsked pattern_ (environment_in c.args.c.now) (pattern_gives p)) (bind_is c.args.p.now c.in-Bind.span c.in-Bind.id c.in-Bind.annotation c.in-Bind.is) c.requires.right;
}

pub give-returns-in-Bind-clause-answer : goal.give-returns-in-Bind-clause-answer
give-returns-in-Bind-clause-answer t c =
    subst (λ (p : Pat). IsAnswer (rule (environment_in c.args.c.now) (pattern_gives p)) typed_pattern c.variable_gives.result) (sym (bind_is c.args.p.now c.in-Bind.span c.in-Bind.id c.in-Bind.annotation c.in-Bind.is)) c.variable_gives.ensures.answer

pub give-any_gives-requires : goal.give-any_gives-requires
give-any_gives-requires t c = record {
  right = subst (λ (p : Pat). IsWellAsked pattern_ (environment_in c.args.c.now) (pattern_gives p)) (any_is c.args.p.now c.in-Any.span c.in-Any.annotation c.in-Any.is) c.requires.right;
}

pub give-returns-in-Any-clause-answer : goal.give-returns-in-Any-clause-answer
give-returns-in-Any-clause-answer t c =
    subst (λ (p : Pat). IsAnswer (rule (environment_in c.args.c.now) (pattern_gives p)) typed_pattern c.any_gives.result) (sym (any_is c.args.p.now c.in-Any.span c.in-Any.annotation c.in-Any.is)) c.any_gives.ensures.answer

pub give-give_record-requires : goal.give-give_record-requires
give-give_record-requires t c =
    let is = fields_is c.args.p.now c.in-Fields.span c.in-Fields.parts c.in-Fields.is ∙ ap (λ (f : RFieldPats). fields_pat c.in-Fields.span (field_pats_of f)) (sym c.deref.ensures) in
    (search (rules, the_lemmas), subst (λ (p : Pat). IsWellAsked pattern_ (environment_in c.args.c.now) (pattern_gives p)) is c.requires.right)

pub give-returns-in-Fields-clause-answer : goal.give-returns-in-Fields-clause-answer
give-returns-in-Fields-clause-answer t c =
    let is = fields_is c.args.p.now c.in-Fields.span c.in-Fields.parts c.in-Fields.is ∙ ap (λ (f : RFieldPats). fields_pat c.in-Fields.span (field_pats_of f)) (sym c.deref.ensures) in
    subst (λ (p : Pat). IsAnswer (rule (environment_in c.args.c.now) (pattern_gives p)) typed_pattern c.give_record.result) (sym is) c.give_record.ensures.answer

pub give-fold_gives-requires : goal.give-fold_gives-requires
give-fold_gives-requires t c =
    let is = fold_is c.args.p.now c.in-Fold.span c.in-Fold.annotation c.in-Fold.inner c.in-Fold.is ∙ ap (λ (q : RPat). fold_pat c.in-Fold.span (annotation_of c.in-Fold.annotation) (pat_of q)) (sym c.deref-in-Fold.ensures) in
    record { right = subst (λ (p : Pat). IsWellAsked pattern_ (environment_in c.args.c.now) (pattern_gives p)) is c.requires.right }

pub give-returns-in-Fold-clause-answer : goal.give-returns-in-Fold-clause-answer
give-returns-in-Fold-clause-answer t c =
    let is = fold_is c.args.p.now c.in-Fold.span c.in-Fold.annotation c.in-Fold.inner c.in-Fold.is ∙ ap (λ (q : RPat). fold_pat c.in-Fold.span (annotation_of c.in-Fold.annotation) (pat_of q)) (sym c.deref-in-Fold.ensures) in
    subst (λ (p : Pat). IsAnswer (rule (environment_in c.args.c.now) (pattern_gives p)) typed_pattern c.fold_gives.result) (sym is) c.fold_gives.ensures.answer

-- patterns side by side
pub give_all-loop-p-init : goal.give_all-loop-p-init
give_all-loop-p-init t c = record {
  so_far = patterns_start (environment_in c.args.c.now) c.new-have.result.items (extension_of c.nothing-adds.result) c.new-have.ensures.items c.nothing-adds.ensures.nothing;
  base = c.nothing-adds.ensures.base ∙ c.variables.ensures.count;
  same = refl;
}

pub give_all-give-requires : goal.give_all-give-requires
give_all-give-requires t c =
    (search (rules, the_lemmas), asked_in (environment_in c.loop-p.c) (environment_in c.args.c.now) c.loop-p.invariant.same (pat_asked (environment_in c.args.c.now) c.args.ps.now c.loop-p.p-index c.p-item.result c.loop-p-test.true c.p-item.is c.requires.right))

pub give_all-returns-in_err-one-clause-answer : goal.give_all-returns-in_err-one-clause-answer
give_all-returns-in_err-one-clause-answer t c =
    let e = environment_in c.args.c.now in
    let p = c.p-item.result in
    let err = c.in_err-one.field-0.0 in
    answer_err (rule e (patterns_give (pats_on no_pats c.args.ps.now))) typed_all c.from_residual.result err c.from_residual.ensures.1
    (pattern_refused e c.args.ps.now c.loop-p.p-index p _ err c.loop-p-test.true c.p-item.is c.loop-p.invariant.so_far
    (refused_in (pattern_gives (pat_of p)) err (environment_in c.loop-p.c) e c.loop-p.invariant.same c.in_err-one.ensures.answer))

pub give_all-loop-p-preserved : goal.give_all-loop-p-preserved
give_all-loop-p-preserved t c =
    let e = environment_in c.args.c.now in
    let p = c.p-item.result in
    record {
      so_far =
          patterns_more e c.args.ps.now c.loop-p.p-index p c.loop-p.have.items c.push.new.self.items c.in_ok-one.one.has (extension_of c.loop-p.adds) (extension_of c.in_ok-one.one.adds) (extension_of c.in_ok-adds.adds)
          c.loop-p-test.true c.p-item.is c.loop-p.invariant.so_far (runs_in (pattern_gives (pat_of p)) (environment_in c.loop-p.c) e c.loop-p.invariant.same c.in_ok-one.ensures.answer) c.in_ok-push.ensures.items c.in_ok-adds.ensures.joined;
      base = c.in_ok-adds.ensures.base ∙ c.loop-p.invariant.base;
      same = c.in_ok-one.ensures.same ∙ c.loop-p.invariant.same;
    }

-- labelled patterns
pub give_labelled-loop-l-init : goal.give_labelled-loop-l-init
give_labelled-loop-l-init t c = record {
  so_far = labels_start (environment_in c.args.c.now) c.new-have.result.items (extension_of c.nothing-adds.result) c.new-have.ensures.items c.nothing-adds.ensures.nothing;
  base = c.nothing-adds.ensures.base ∙ c.variables.ensures.count;
  same = refl;
}

pub give_labelled-give-requires : goal.give_labelled-give-requires
give_labelled-give-requires t c =
    (search (rules, the_lemmas), asked_in (environment_in c.loop-l.c) (environment_in c.args.c.now) c.loop-l.invariant.same (labelled_pat_asked (environment_in c.args.c.now) c.args.ls.now c.loop-l.l-index c.l-item.result c.loop-l-test.true c.l-item.is c.requires.right))

pub give_labelled-returns-in_err-one-clause-answer : goal.give_labelled-returns-in_err-one-clause-answer
give_labelled-returns-in_err-one-clause-answer t c =
    let e = environment_in c.args.c.now in
    let l = c.l-item.result in
    let err = c.in_err-one.field-0.0 in
    answer_err (rule e (labelled_patterns_give (labelled_pats_on no_labelled_pats c.args.ls.now))) typed_labelled c.from_residual.result err c.from_residual.ensures.1
    (label_refused e c.args.ls.now c.loop-l.l-index l _ err c.loop-l-test.true c.l-item.is c.loop-l.invariant.so_far
    (refused_in (pattern_gives (pat_of l.pat)) err (environment_in c.loop-l.c) e c.loop-l.invariant.same c.in_err-one.ensures.answer))

pub give_labelled-loop-l-preserved : goal.give_labelled-loop-l-preserved
give_labelled-loop-l-preserved t c =
    let e = environment_in c.args.c.now in
    let l = c.l-item.result in
    record {
      so_far =
          labels_more e c.args.ls.now c.loop-l.l-index l c.loop-l.have.items c.push.new.self.items c.in_ok-one.one.has (extension_of c.loop-l.adds) (extension_of c.in_ok-one.one.adds) (extension_of c.in_ok-adds.adds)
          c.loop-l-test.true c.l-item.is c.loop-l.invariant.so_far (runs_in (pattern_gives (pat_of l.pat)) (environment_in c.loop-l.c) e c.loop-l.invariant.same c.in_ok-one.ensures.answer) c.in_ok-push.ensures.items c.in_ok-adds.ensures.joined;
      base = c.in_ok-adds.ensures.base ∙ c.loop-l.invariant.base;
      same = c.in_ok-one.ensures.same ∙ c.loop-l.invariant.same;
    }

pub give_labelled-returns-clause-answer : goal.give_labelled-returns-clause-answer
give_labelled-returns-clause-answer t c =
    let us = c.loop-l.have.items in
    let vs = c.sort_labels.new.items.items in
    let names = c.names.ensures.same ∙ ap (λ (z : Environment). z.names) c.loop-l.invariant.same in
    labels_end (environment_in c.args.c.now) c.args.ls.now c.loop-l.l-index us vs (extension_of c.loop-l.adds) (omega arith) c.loop-l.invariant.so_far
    (subst (λ ns. by_number vs ≡ in_label_order ns (by_number us)) names c.in_ok-sort_labels.ensures.sorted)

-- a record
pub give_record-returns-in_err-fields-clause-answer : goal.give_record-returns-in_err-fields-clause-answer
give_record-returns-in_err-fields-clause-answer t c =
    let e = environment_in c.args.c.now in
    let f = field_pats_of c.args.parts.now in
    let err = c.in_err-fields.field-0.0 in
    answer_err (rule e (pattern_gives (fields_pat c.args.span f))) typed_pattern c.from_residual.result err c.from_residual.ensures.1 (record_refused e c.args.span f err c.in_err-fields.ensures.answer)

pub give_record-returns-in_err-within_limits-clause-answer : goal.give_record-returns-in_err-within_limits-clause-answer
give_record-returns-in_err-within_limits-clause-answer t c =
    let e = environment_in c.args.c.now in
    let f = field_pats_of c.args.parts.now in
    let h = c.in_ok-fields.ensures.answer in
    let v = c.in_ok-new.field-0 in
    let read = plain_fields v ∙ ap plain_record c.in_ok-new.ensures.ok ∙ h.has in
    let back = record_closed c.args.c.now c.open_parts.new.c c.taken.new.c h.given.own c.in_ok-own.own.items c.len-before.result h.inside c.in_ok-own.ensures.taken c.in_ok-own.ensures.left c.len-before.ensures c.taken.ensures.names in
    let err = c.in_err-within_limits.field-0.0 in
    answer_err (rule e (pattern_gives (fields_pat c.args.span f))) typed_pattern c.from_residual-in_err-within_limits.result err c.from_residual-in_err-within_limits.ensures.1
    (record_too_big e c.args.span f h.given (plain (Fields v)) err h.gives read (subst (λ (d : Environment). IsRefused (limited d (plain (Fields v)) c.args.span) err) back.same c.in_err-within_limits.ensures))

pub give_record-returns-in_err-new-clause-grows : goal.give_record-returns-in_err-new-clause-grows
give_record-returns-in_err-new-clause-grows t c =
    let h = c.in_ok-fields.ensures.answer in
    let back = record_closed c.args.c.now c.open_parts.new.c c.taken.new.c h.given.own c.in_ok-own.own.items c.len-before.result h.inside c.in_ok-own.ensures.taken c.in_ok-own.ensures.left c.len-before.ensures c.taken.ensures.names in
    no_fewer (length (type_context c.args.c.now)) (length (type_context c.taken.new.c)) (as_many c.args.c.now c.taken.new.c back.same)

pub give_record-returns-in_err-within_limits-clause-grows : goal.give_record-returns-in_err-within_limits-clause-grows
give_record-returns-in_err-within_limits-clause-grows t c =
    let h = c.in_ok-fields.ensures.answer in
    let back = record_closed c.args.c.now c.open_parts.new.c c.taken.new.c h.given.own c.in_ok-own.own.items c.len-before.result h.inside c.in_ok-own.ensures.taken c.in_ok-own.ensures.left c.len-before.ensures c.taken.ensures.names in
    no_fewer (length (type_context c.args.c.now)) (length (type_context c.taken.new.c)) (as_many c.args.c.now c.taken.new.c back.same)

pub give_record-under-requires : goal.give_record-under-requires
give_record-under-requires t c =
    let h = c.in_ok-fields.ensures.answer in
    let back = record_closed c.args.c.now c.open_parts.new.c c.taken.new.c h.given.own c.in_ok-own.own.items c.len-before.result h.inside c.in_ok-own.ensures.taken c.in_ok-own.ensures.left c.len-before.ensures c.taken.ensures.names in
    record { base = room_for (length (type_context c.open_parts.new.c)) (length (type_context c.args.c.now)) (length c.in_ok-own.own.items) c.in_ok-fields.fields.adds.base (as_many_more c.args.c.now c.open_parts.new.c h.given.own c.in_ok-own.own.items h.inside back.own_) c.in_ok-fields.ensures.base }

pub give_record-returns-in_err-adds-clause-grows : goal.give_record-returns-in_err-adds-clause-grows
give_record-returns-in_err-adds-clause-grows t c =
    let h = c.in_ok-fields.ensures.answer in
    let back = record_closed c.args.c.now c.open_parts.new.c c.taken.new.c h.given.own c.in_ok-own.own.items c.len-before.result h.inside c.in_ok-own.ensures.taken c.in_ok-own.ensures.left c.len-before.ensures c.taken.ensures.names in
    no_fewer (length (type_context c.args.c.now)) (length (type_context c.taken.new.c)) (as_many c.args.c.now c.taken.new.c back.same)

pub give_record-returns-clause-answer : goal.give_record-returns-clause-answer
give_record-returns-clause-answer t c =
    let e = environment_in c.args.c.now in
    let h = c.in_ok-fields.ensures.answer in
    let v = c.in_ok-new.field-0 in
    let read = plain_fields v ∙ ap plain_record c.in_ok-new.ensures.ok ∙ h.has in
    let back = record_closed c.args.c.now c.open_parts.new.c c.taken.new.c h.given.own c.in_ok-own.own.items c.len-before.result h.inside c.in_ok-own.ensures.taken c.in_ok-own.ensures.left c.len-before.ensures c.taken.ensures.names in
    record_typed e c.args.span (field_pats_of c.args.parts.now) h.given (plain (Fields v)) (extension_of c.in_ok-adds.adds) h.gives read
    (subst (λ (d : Environment). Runs (limited d (plain (Fields v)) c.args.span) (ok tt)) back.same c.in_ok-within_limits.ensures) (c.in_ok-adds.ensures.under ∙ ap₂ within back.own_ h.adds)

pub give_record-returns-clause-base : goal.give_record-returns-clause-base
give_record-returns-clause-base t c =
    let h = c.in_ok-fields.ensures.answer in
    let back = record_closed c.args.c.now c.open_parts.new.c c.taken.new.c h.given.own c.in_ok-own.own.items c.len-before.result h.inside c.in_ok-own.ensures.taken c.in_ok-own.ensures.left c.len-before.ensures c.taken.ensures.names in
    base_back (length (type_context c.open_parts.new.c)) (length (type_context c.args.c.now)) (length c.in_ok-own.own.items) c.in_ok-fields.fields.adds.base c.in_ok-adds.adds.base (as_many_more c.args.c.now c.open_parts.new.c h.given.own c.in_ok-own.own.items h.inside back.own_) c.in_ok-fields.ensures.base c.in_ok-adds.ensures.base

pub give_record-returns-clause-same : goal.give_record-returns-clause-same
give_record-returns-clause-same t c =
    let h = c.in_ok-fields.ensures.answer in
    let back = record_closed c.args.c.now c.open_parts.new.c c.taken.new.c h.given.own c.in_ok-own.own.items c.len-before.result h.inside c.in_ok-own.ensures.taken c.in_ok-own.ensures.left c.len-before.ensures c.taken.ensures.names in
    back.same

pub give_record-returns-clause-grows : goal.give_record-returns-clause-grows
give_record-returns-clause-grows t c =
    let h = c.in_ok-fields.ensures.answer in
    let back = record_closed c.args.c.now c.open_parts.new.c c.taken.new.c h.given.own c.in_ok-own.own.items c.len-before.result h.inside c.in_ok-own.ensures.taken c.in_ok-own.ensures.left c.len-before.ensures c.taken.ensures.names in
    no_fewer (length (type_context c.args.c.now)) (length (type_context c.taken.new.c)) (as_many c.args.c.now c.taken.new.c back.same)

-- the fields
pub open_parts-open_giving-requires : goal.open_parts-open_giving-requires
open_parts-open_giving-requires t c =
    let e = environment_in c.args.c.now in
    let f = c.args.parts.now in
    let is = parts_read f c.deref.result.now _ _ c.deref.ensures.value refl refl in
    record { right = binders_asked e _ _ _ (subst (λ g. IsWellAsked fields_ e (fields_give g)) is c.requires.right) }

pub open_parts-returns-in_err-binders-clause-answer : goal.open_parts-returns-in_err-binders-clause-answer
open_parts-returns-in_err-binders-clause-answer t c =
    let e = environment_in c.args.c.now in
    let f = c.args.parts.now in
    let is = parts_read f c.deref.result.now _ _ c.deref.ensures.value refl refl in
    let err = c.in_err-binders.field-0.0 in
    fields_err e (environment_in c.open_giving.new.c) (field_pats_of f) c.from_residual.result err c.from_residual.ensures.1
    (subst (λ g. IsRefused (rule e (fields_give g)) err) (sym is) (binders_refused e _ _ _ err c.in_err-binders.ensures.answer))

pub open_parts-give_all-requires : goal.open_parts-give_all-requires
open_parts-give_all-requires t c =
    let e = environment_in c.args.c.now in
    let o = c.in_ok-binders.ensures.answer in
    let is = parts_read c.args.parts.now c.deref.result.now c.deref-2.result.now _ c.deref.ensures.value c.deref-2.ensures.value refl in
    let asked = subst (λ g. IsWellAsked fields_ e (fields_give g)) is c.requires.right in
    (search (rules, the_lemmas), asked_in (environment_in c.open_giving.new.c) (with_own e o.own) o.inside (positional_asked e _ _ _ o.own asked o.gives))

pub open_parts-returns-in_err-positional-clause-answer : goal.open_parts-returns-in_err-positional-clause-answer
open_parts-returns-in_err-positional-clause-answer t c =
    let e = environment_in c.args.c.now in
    let f = c.args.parts.now in
    let o = c.in_ok-binders.ensures.answer in
    let ps = pats_on no_pats c.deref-2.result.now in
    let is = parts_read f c.deref.result.now c.deref-2.result.now _ c.deref.ensures.value c.deref-2.ensures.value refl in
    let err = c.in_err-positional.field-0.0 in
    fields_err e (environment_in c.give_all.new.c) (field_pats_of f) c.from_residual-in_err-positional.result err c.from_residual-in_err-positional.ensures.1
    (subst (λ g. IsRefused (rule e (fields_give g)) err) (sym is)
    (positional_refused e _ ps _ o.own err o.gives (refused_in (patterns_give ps) err (environment_in c.open_giving.new.c) (with_own e o.own) o.inside c.in_err-positional.ensures.answer)))

pub open_parts-give_labelled-requires : goal.open_parts-give_labelled-requires
open_parts-give_labelled-requires t c =
    let e = environment_in c.args.c.now in
    let o = c.in_ok-binders.ensures.answer in
    let ps = pats_on no_pats c.deref-2.result.now in
    let is = parts_read c.args.parts.now c.deref.result.now c.deref-2.result.now c.deref-3.result.now c.deref.ensures.value c.deref-2.ensures.value c.deref-3.ensures.value in
    let asked = subst (λ g. IsWellAsked fields_ e (fields_give g)) is c.requires.right in
    let given = runs_in (patterns_give ps) (environment_in c.open_giving.new.c) (with_own e o.own) o.inside c.in_ok-positional.ensures.answer in
    (search (rules, the_lemmas), asked_in (environment_in c.give_all.new.c) (with_own e o.own) (c.in_ok-positional.ensures.same ∙ o.inside) (labelled_asked e _ ps _ o.own _ asked o.gives given))

pub open_parts-returns-in_err-labelled-clause-answer : goal.open_parts-returns-in_err-labelled-clause-answer
open_parts-returns-in_err-labelled-clause-answer t c =
    let e = environment_in c.args.c.now in
    let f = c.args.parts.now in
    let o = c.in_ok-binders.ensures.answer in
    let ps = pats_on no_pats c.deref-2.result.now in
    let ls = labelled_pats_on no_labelled_pats c.deref-3.result.now in
    let is = parts_read f c.deref.result.now c.deref-2.result.now c.deref-3.result.now c.deref.ensures.value c.deref-2.ensures.value c.deref-3.ensures.value in
    let given = runs_in (patterns_give ps) (environment_in c.open_giving.new.c) (with_own e o.own) o.inside c.in_ok-positional.ensures.answer in
    let err = c.in_err-labelled.field-0.0 in
    fields_err e (environment_in c.give_labelled.new.c) (field_pats_of f) c.from_residual-in_err-labelled.result err c.from_residual-in_err-labelled.ensures.1
    (subst (λ g. IsRefused (rule e (fields_give g)) err) (sym is)
    (labelled_refused e _ ps ls o.own _ err o.gives given (refused_in (labelled_patterns_give ls) err (environment_in c.give_all.new.c) (with_own e o.own) (c.in_ok-positional.ensures.same ∙ o.inside) c.in_err-labelled.ensures.answer)))

pub open_parts-returns-clause-answer : goal.open_parts-returns-clause-answer
open_parts-returns-clause-answer t c =
    let e = environment_in c.args.c.now in
    let f = c.args.parts.now in
    let o = c.in_ok-binders.ensures.answer in
    let ps = pats_on no_pats c.deref-2.result.now in
    let ls = labelled_pats_on no_labelled_pats c.deref-3.result.now in
    let is = parts_read f c.deref.result.now c.deref-2.result.now c.deref-3.result.now c.deref.ensures.value c.deref-2.ensures.value c.deref-3.ensures.value in
    let first = runs_in (patterns_give ps) (environment_in c.open_giving.new.c) (with_own e o.own) o.inside c.in_ok-positional.ensures.answer in
    let second = runs_in (labelled_patterns_give ls) (environment_in c.give_all.new.c) (with_own e o.own) (c.in_ok-positional.ensures.same ∙ o.inside) c.in_ok-labelled.ensures.answer in
    let g : TypedFields = record { own = o.own; positional = plain_types c.in_ok-positional.positional.have.items; labelled = plain_labels c.in_ok-labelled.labelled.have.items; adds = joined_extensions (extension_of c.in_ok-positional.positional.adds) (extension_of c.in_ok-labelled.labelled.adds) } in
    record {
      given = g;
      gives = subst (λ h. Runs (rule e (fields_give h)) (ok g)) (sym is) (fields_typed e _ ps ls o.own _ _ o.gives first second);
      inside = c.in_ok-labelled.ensures.same ∙ c.in_ok-positional.ensures.same ∙ o.inside;
      has = ap (λ (b : PlainBounds). PlainFields b g.positional g.labelled) (sym o.has);
      adds = c.in_ok-adds.ensures.joined;
    }
