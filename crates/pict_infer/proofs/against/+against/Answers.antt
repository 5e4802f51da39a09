-- Each way in which a pattern ends against a type, and what its parts are asked.
use Rattle.std.proofs.Common.{rules, ◌≡◌, ◌<◌, ◌+◌, ◌∙◌, ap, ap₂, arith, length, refl, sym, subst, take}
use Rattle.pict_syntax.specs.declared.code.Code.TheVariants.{Y5}
use Rattle.pict_syntax.specs.declared.pattern.Pat.{the_lemmas}
use Rattle.pict_syntax.specs.declared.pattern.Pat.TheViews.{out-FieldPats}
use Rattle.pict_syntax.specs.PlainTrees.{annotation_of, field_pats_of, labelled_pats_on, pat_of, pats_on}
use Rattle.pict_syntax.specs.Trees.{fields_pat, no_labelled_pats, no_pats}
use Rattle.pict_types.specs.Kinds.{kinds, LabelsAreWellFormed}
use Rattle.pict_types.specs.Plain.{plain, plain_bounds, plain_labels, plain_types}
use Rattle.pict_types.specs.PlainContext.{names_of, type_context}
use Rattle.pict_types.specs.Types.{type_at}
use Rattle.pict_sub.specs.Exposing.{exposure}
use Rattle.pict_scope.specs.DistinctLabels.{PatHasDistinctLabels}
use Rattle.pict_rules.specs.Environments.{Environment, joined_extensions, within}
use Rattle.pict_rules.specs.Regular.{IsRegular, kinds_in}
use Rattle.pict_types.proofs.Congruent.{three}
use Rattle.pict_types.proofs.Rows.{count_bounds_length, count_types_length}
use Rattle.pict_rules.specs.Rules.{extension_, fields_against, labelled_patterns_against, ok, opened_, OpenedFields, pattern_against, patterns_against, stuck}
use Rattle.pict_rules.specs.Typing.{rule}
use Rattle.pict_rules.specs.Derivations.{Runs}
use Rattle.pict_rules.proofs.Regularity.{label_formed}
use Rattle.pict_infer.specs.Adding.{extension_of}
use Rattle.pict_infer.specs.Against.{against_record, at_label, closed_fields}
use Rattle.pict_infer.specs.Answering.{IsAnswer, IsRefused}
use Rattle.pict_infer.specs.Asking.{IsWellAsked}
use Rattle.pict_infer.specs.Ordering.{AreInOrder}
use Rattle.pict_infer.specs.Places.{environment_in}
use Rattle.pict_infer.proofs.AskedParts.{fields_asked, formed_at, inner_asked, labelled_asked, nth_type_is, own_asked, pattern_asked, positional_asked}
use Rattle.pict_infer.specs.Opening.{against_fields}
use Rattle.pict_infer.proofs.Closed.{as_many, as_many_more, base_back, no_fewer, record_closed, room_for}
use Rattle.pict_infer.proofs.Forming.{changed_or_same_is}
use Rattle.pict_infer.proofs.Forms.{any_is, as_many_binders, as_many_patterns, bind_is, count_of_binders, count_of_pats, fields_is, fold_is, parts_read}
use Rattle.pict_infer.proofs.Handed.{against_err, answer_err}
use Rattle.pict_infer.proofs.LabelPlaces.{formed_in_order}
use Rattle.pict_infer.proofs.PatternLines.{at_label_lacks, at_label_there, all_typed, binders_differ, closed_ok, closed_refused, counted, counted_refused, fold_inner, fold_refused_first, label_refused, labelled_refused, no_label, no_pattern, no_record, one_label_more, one_pattern_more, own_refused, pattern_refused, patterns_differ, positional_refused, record_answer}
use Rattle.pict_infer.proofs.PatternPlaces.{labelled_distinct}
use Rattle.pict_infer.proofs.against.+against.Goals as goal
use Rattle.pict_scope.proofs.PatternForms.{field_pats_are}

pub against-variable_against-requires-clause-labels : goal.against-variable_against-requires-clause-labels
against-variable_against-requires-clause-labels t c = subst (λ z. PatHasDistinctLabels z) (bind_is c.args.p.now c.in-Bind.span c.in-Bind.id c.in-Bind.annotation c.in-Bind.is) c.requires.right.labels

pub against-any_against-requires-clause-labels : goal.against-any_against-requires-clause-labels
against-any_against-requires-clause-labels t c = subst (λ z. PatHasDistinctLabels z) (any_is c.args.p.now c.in-Any.span c.in-Any.annotation c.in-Any.is) c.requires.right.labels

pub against-record_against-requires : goal.against-record_against-requires
against-record_against-requires t c =
    let is = fields_is c.args.p.now c.in-Fields.span c.in-Fields.parts c.in-Fields.is ∙ ap (λ f. fields_pat c.in-Fields.span (field_pats_of f)) (sym c.deref.ensures) in
    (search (rules, the_lemmas), subst (λ z. IsWellAsked extension_ (environment_in c.args.c.now) (pattern_against z (plain c.args.t.now))) is c.requires.right)

pub against-fold_against-requires-clause-labels : goal.against-fold_against-requires-clause-labels
against-fold_against-requires-clause-labels t c =
    (subst (λ z. PatHasDistinctLabels z) (fold_is c.args.p.now c.in-Fold.span c.in-Fold.annotation c.in-Fold.inner c.in-Fold.is) c.requires.right.labels).0

pub against-returns-in_err-unfolding-in-Fold-clause-answer : goal.against-returns-in_err-unfolding-in-Fold-clause-answer
against-returns-in_err-unfolding-in-Fold-clause-answer t c =
    let e = environment_in c.args.c.now in
    let u = plain c.args.t.now in
    let err = c.in_err-unfolding-in-Fold.field-0.0 in
    answer_err (rule e (pattern_against (pat_of c.args.p.now) u)) extension_of c.from_residual.result err c.from_residual.ensures.1
    (subst (λ z. IsRefused (rule e (pattern_against z u)) err) (sym (fold_is c.args.p.now c.in-Fold.span c.in-Fold.annotation c.in-Fold.inner c.in-Fold.is))
    (fold_refused_first e c.in-Fold.span (annotation_of c.in-Fold.annotation) (pat_of c.in-Fold.inner.value) u err c.in_err-unfolding-in-Fold.ensures.answer))

pub against-against-requires : goal.against-against-requires
against-against-requires t c =
    let e = environment_in c.args.c.now in
    let u = plain c.args.t.now in
    let r = annotation_of c.in-Fold.annotation in
    let a = subst (λ z. IsWellAsked extension_ e (pattern_against z u)) (fold_is c.args.p.now c.in-Fold.span c.in-Fold.annotation c.in-Fold.inner c.in-Fold.is) c.requires.right in (
      search (rules, the_lemmas),
      subst (λ q. IsWellAsked extension_ e (pattern_against (pat_of q) (plain c.in_ok-unfolding-in-Fold.unfolding))) (sym c.deref-in-Fold.ensures)
          (inner_asked e c.in-Fold.span r (pat_of c.in-Fold.inner.value) u (plain c.in_ok-unfolding-in-Fold.unfolding) a c.in_ok-unfolding-in-Fold.ensures.formed),
    )

pub against-returns-in-Bind-clause-answer : goal.against-returns-in-Bind-clause-answer
against-returns-in-Bind-clause-answer t c =
    subst (λ z. IsAnswer (rule (environment_in c.args.c.now) (pattern_against z (plain c.args.t.now))) extension_of c.variable_against.result)
    (sym (bind_is c.args.p.now c.in-Bind.span c.in-Bind.id c.in-Bind.annotation c.in-Bind.is)) c.variable_against.ensures.answer

pub against-returns-in-Any-clause-answer : goal.against-returns-in-Any-clause-answer
against-returns-in-Any-clause-answer t c =
    subst (λ z. IsAnswer (rule (environment_in c.args.c.now) (pattern_against z (plain c.args.t.now))) extension_of c.any_against.result)
    (sym (any_is c.args.p.now c.in-Any.span c.in-Any.annotation c.in-Any.is)) c.any_against.ensures.answer

pub against-returns-in-Fields-clause-answer : goal.against-returns-in-Fields-clause-answer
against-returns-in-Fields-clause-answer t c =
    let is = fields_is c.args.p.now c.in-Fields.span c.in-Fields.parts c.in-Fields.is ∙ ap (λ f. fields_pat c.in-Fields.span (field_pats_of f)) (sym c.deref.ensures) in
    subst (λ z. IsAnswer (rule (environment_in c.args.c.now) (pattern_against z (plain c.args.t.now))) extension_of c.record_against.result) (sym is) c.record_against.ensures.answer

pub against-returns-in_ok-unfolding-in-Fold-clause-answer : goal.against-returns-in_ok-unfolding-in-Fold-clause-answer
against-returns-in_ok-unfolding-in-Fold-clause-answer t c =
    let e = environment_in c.args.c.now in
    let u = plain c.args.t.now in
    subst (λ z. IsAnswer (rule e (pattern_against z u)) extension_of c.against.result) (sym (fold_is c.args.p.now c.in-Fold.span c.in-Fold.annotation c.in-Fold.inner c.in-Fold.is))
    (fold_inner e c.in-Fold.span (annotation_of c.in-Fold.annotation) (pat_of c.in-Fold.inner.value) u (plain c.in_ok-unfolding-in-Fold.unfolding) extension_of c.against.result c.in_ok-unfolding-in-Fold.ensures.answer
    (subst (λ q. IsAnswer (rule e (pattern_against (pat_of q) (plain c.in_ok-unfolding-in-Fold.unfolding))) extension_of c.against.result) c.deref-in-Fold.ensures c.against.ensures.answer))

pub all_against-loop-i-init : goal.all_against-loop-i-init
all_against-loop-i-init t c = record {
  so_far = no_pattern (environment_in c.args.c.now) c.args.ps.now (plain_types c.args.ts.now) (extension_of c.nothing-added.result) c.nothing-added.ensures.nothing;
  base = c.nothing-added.ensures.base ∙ c.variables.ensures.count;
  same = refl;
}

pub all_against-against-requires : goal.all_against-against-requires
all_against-against-requires t c =
    let k : c.loop-i.i < length c.args.ts.now = omega (arith, c.loop-i-test.true, c.requires.count) in (
      search (rules, the_lemmas),
      pattern_asked (environment_in c.args.c.now) (environment_in c.loop-i.c) c.args.ps.now c.args.ts.now c.loop-i.i c.index-ps-i.result c.index-ts-i.result c.requires.right c.loop-i-test.true c.index-ps-i.is k c.index-ts-i.is
          c.loop-i.invariant.same,
    )

pub all_against-returns-in_err-one-clause-answer : goal.all_against-returns-in_err-one-clause-answer
all_against-returns-in_err-one-clause-answer t c =
    let e = environment_in c.args.c.now in
    let p = c.index-ps-i.result in
    let ts = c.args.ts.now in
    let err = c.in_err-one.field-0.0 in
    let k : c.loop-i.i < length ts = omega (arith, c.loop-i-test.true, c.requires.count) in
    let here = subst (λ z. IsRefused (rule z (pattern_against (pat_of p) (plain c.index-ts-i.result))) err) c.loop-i.invariant.same c.in_err-one.ensures.answer in
    answer_err (rule e (patterns_against (pats_on no_pats c.args.ps.now) (plain_types ts))) extension_of c.from_residual.result err c.from_residual.ensures.1
    (pattern_refused e c.args.ps.now c.loop-i.i p (plain_types ts) (extension_of c.loop-i.added) err c.loop-i-test.true c.index-ps-i.is c.loop-i.invariant.so_far
    (subst (λ u. IsRefused (rule e (pattern_against (pat_of p) u)) err) (sym (nth_type_is ts c.loop-i.i c.index-ts-i.result k c.index-ts-i.is)) here))

pub all_against-loop-i-preserved : goal.all_against-loop-i-preserved
all_against-loop-i-preserved t c =
    let e = environment_in c.args.c.now in
    let p = c.index-ps-i.result in
    let ts = c.args.ts.now in
    let k : c.loop-i.i < length ts = omega (arith, c.loop-i-test.true, c.requires.count) in
    let x = extension_of c.loop-i.added in
    let y = extension_of c.in_ok-one.one in
    let here = subst (λ z. Runs (rule z (pattern_against (pat_of p) (plain c.index-ts-i.result))) (ok y)) c.loop-i.invariant.same c.in_ok-one.ensures.answer in
    record {
      so_far =
          subst (λ z. Runs (rule e (patterns_against (pats_on no_pats (take (c.loop-i.i + 1) c.args.ps.now)) (plain_types ts))) (ok z)) (sym c.in_ok-added.ensures.joined)
          (one_pattern_more e c.args.ps.now c.loop-i.i p (plain_types ts) x y c.loop-i-test.true c.index-ps-i.is c.loop-i.invariant.so_far
          (subst (λ u. Runs (rule e (pattern_against (pat_of p) u)) (ok y)) (sym (nth_type_is ts c.loop-i.i c.index-ts-i.result k c.index-ts-i.is)) here));
      base = c.in_ok-added.ensures.base ∙ c.loop-i.invariant.base;
      same = c.in_ok-one.ensures.same ∙ c.loop-i.invariant.same;
    }

pub labelled_against-loop-l-init : goal.labelled_against-loop-l-init
labelled_against-loop-l-init t c = record {
  so_far = no_label (environment_in c.args.c.now) c.args.ls.now (plain_labels c.args.fields.now) (extension_of c.nothing-added.result) c.nothing-added.ensures.nothing;
  base = c.nothing-added.ensures.base ∙ c.variables.ensures.count;
  same = refl;
}

pub labelled_against-label_against-requires : goal.labelled_against-label_against-requires
labelled_against-label_against-requires t c =
    let e = environment_in c.args.c.now in (
      search (rules, the_lemmas),
      (
        labelled_distinct c.args.ls.now c.loop-l.l-index c.l-item.result c.loop-l-test.true c.l-item.is c.requires.right.labels,
        (
          subst (λ z. IsRegular z) (sym c.loop-l.invariant.same) c.requires.right.regular,
          subst (λ (z : Environment). LabelsAreWellFormed z.names (kinds_in z) (plain_labels c.args.fields.now)) (sym c.loop-l.invariant.same) c.requires.right.asked,
        ),
      ),
    )

pub labelled_against-returns-in_err-one-clause-answer : goal.labelled_against-returns-in_err-one-clause-answer
labelled_against-returns-in_err-one-clause-answer t c =
    let e = environment_in c.args.c.now in
    let l = c.l-item.result in
    let ms = plain_labels c.args.fields.now in
    let err = c.in_err-one.field-0.0 in
    answer_err (rule e (labelled_patterns_against (labelled_pats_on no_labelled_pats c.args.ls.now) ms)) extension_of c.from_residual.result err c.from_residual.ensures.1
    (label_refused e c.args.ls.now c.loop-l.l-index l ms (extension_of c.loop-l.added) err c.loop-l-test.true c.l-item.is c.loop-l.invariant.so_far
    (subst (λ z. IsRefused (at_label z l.label.name.0 (pat_of l.pat) ms) err) c.loop-l.invariant.same c.in_err-one.ensures.answer))

pub labelled_against-loop-l-preserved : goal.labelled_against-loop-l-preserved
labelled_against-loop-l-preserved t c =
    let e = environment_in c.args.c.now in
    let l = c.l-item.result in
    let ms = plain_labels c.args.fields.now in
    let x = extension_of c.loop-l.added in
    let y = extension_of c.in_ok-one.one in
    record {
      so_far =
          subst (λ z. Runs (rule e (labelled_patterns_against (labelled_pats_on no_labelled_pats (take (c.loop-l.l-index + 1) c.args.ls.now)) ms)) (ok z)) (sym c.in_ok-added.ensures.joined)
          (one_label_more e c.args.ls.now c.loop-l.l-index l ms x y c.loop-l-test.true c.l-item.is c.loop-l.invariant.so_far
          (subst (λ z. Runs (at_label z l.label.name.0 (pat_of l.pat) ms) (ok y)) c.loop-l.invariant.same c.in_ok-one.ensures.answer));
      base = c.in_ok-added.ensures.base ∙ c.loop-l.invariant.base;
      same = c.in_ok-one.ensures.same ∙ c.loop-l.invariant.same;
    }

pub label_against-labelled_type-requires : goal.label_against-labelled_type-requires
label_against-labelled_type-requires t c = record {
  ordered =
      subst (λ n. AreInOrder n (plain_labels c.args.fields.now)) (sym c.names.ensures.same)
      (formed_in_order (names_of c.args.c.now) (kinds (type_context c.args.c.now)) (plain_labels c.args.fields.now) c.requires.formed);
}

pub label_against-returns-in-None-clause-answer : goal.label_against-returns-in-None-clause-answer
label_against-returns-in-None-clause-answer t c =
    let l = c.args.l.now in
    at_label_lacks (environment_in c.args.c.now) l.label.name.0 (pat_of l.pat) (plain_labels c.args.fields.now) c.pat_span.result c.in-None.ensures.none c.pat_span.ensures

pub label_against-against-requires : goal.label_against-against-requires
label_against-against-requires t c =
    let e = environment_in c.args.c.now in
    let l = c.args.l.now in
    let ms = plain_labels c.args.fields.now in (
      search (rules, the_lemmas),
      record {
        labels = c.requires.labels;
        regular = c.requires.regular;
        asked = formed_at e.names (kinds_in e) (type_at l.label.name.0 ms) (plain c.in-Some.t.now) c.in-Some.ensures.some (label_formed e.names (kinds_in e) l.label.name.0 ms c.requires.formed);
      },
    )

pub label_against-returns-in-Some-clause-answer : goal.label_against-returns-in-Some-clause-answer
label_against-returns-in-Some-clause-answer t c =
    let l = c.args.l.now in
    at_label_there (environment_in c.args.c.now) l.label.name.0 (pat_of l.pat) (plain_labels c.args.fields.now) (plain c.in-Some.t.now) extension_of c.against.result c.in-Some.ensures.some c.against.ensures.answer

pub record_against-returns-in-None-clause-answer : goal.record_against-returns-in-None-clause-answer
record_against-returns-in-None-clause-answer t c =
    let u = c.args.t.now in
    let is = c.changed_or_same.ensures ∙ changed_or_same_is (exposure (type_context c.args.c.now) (plain u)) c.in_ok-followed.followed u c.in_ok-followed.ensures.none c.in_ok-followed.ensures.some in
    no_record (environment_in c.args.c.now) c.args.span (field_pats_of c.args.parts.now) (plain u) (plain c.changed_or_same.result.now) (sym is) c.in-None.ensures.none

pub record_against-parts_against-requires : goal.record_against-parts_against-requires
record_against-parts_against-requires t c =
    let u = c.args.t.now in
    let r = c.in-Some.r.now in
    let is = c.changed_or_same.ensures ∙ changed_or_same_is (exposure (type_context c.args.c.now) (plain u)) c.in_ok-followed.followed u c.in_ok-followed.ensures.none c.in_ok-followed.ensures.some in (
      search (rules, the_lemmas),
      fields_asked (environment_in c.args.c.now) c.args.span (field_pats_of c.args.parts.now) (plain u) (plain_bounds r.binders.items) (plain_types r.positional.items) (plain_labels r.labelled.items) c.requires.right
          (sym is ∙ c.in-Some.ensures.some),
    )

pub record_against-returns-clause-answer : goal.record_against-returns-clause-answer
record_against-returns-clause-answer t c =
    let u = c.args.t.now in
    let r = c.in-Some.r.now in
    let is = c.changed_or_same.ensures ∙ changed_or_same_is (exposure (type_context c.args.c.now) (plain u)) c.in_ok-followed.followed u c.in_ok-followed.ensures.none c.in_ok-followed.ensures.some in
    record_answer (environment_in c.args.c.now) c.args.span (field_pats_of c.args.parts.now) (plain u) (plain_bounds r.binders.items) (plain_types r.positional.items) (plain_labels r.labelled.items) extension_of
    c.parts_against.result (sym is ∙ c.in-Some.ensures.some) c.parts_against.ensures.answer

pub parts_against-returns-in_err-adds-clause-answer : goal.parts_against-returns-in_err-adds-clause-answer
parts_against-returns-in_err-adds-clause-answer t c =
    let e = environment_in c.args.c.now in
    let f = field_pats_of c.args.parts.now in
    let j = against_record c.args.span f c.args.r.now in
    let is = three (against_fields c.args.span f) c.deref.ensures.value c.deref-2.ensures.value c.deref-3.ensures.value in
    let err = c.in_err-adds.field-0.0 in
    answer_err (closed_fields e j) extension_of c.from_residual.result err c.from_residual.ensures.1
    (closed_refused e j err (subst (λ k. IsRefused (rule e k) err) is c.in_err-adds.ensures.answer))

pub parts_against-under-requires : goal.parts_against-under-requires
parts_against-under-requires t c =
    let h = c.in_ok-adds.ensures.answer in
    let back = record_closed c.args.c.now c.open_parts_against.new.c c.taken.new.c h.given.own c.in_ok-own.own.items c.len-before.result h.inside c.in_ok-own.ensures.taken c.in_ok-own.ensures.left c.len-before.ensures c.taken.ensures.names in
    record {
      base = room_for (length (type_context c.open_parts_against.new.c)) (length (type_context c.args.c.now)) (length c.in_ok-own.own.items) c.in_ok-adds.adds.base
          (as_many_more c.args.c.now c.open_parts_against.new.c h.given.own c.in_ok-own.own.items h.inside back.own_) c.in_ok-adds.ensures.base;
    }

pub parts_against-returns-in_err-under-clause-grows : goal.parts_against-returns-in_err-under-clause-grows
parts_against-returns-in_err-under-clause-grows t c =
    let h = c.in_ok-adds.ensures.answer in
    let back = record_closed c.args.c.now c.open_parts_against.new.c c.taken.new.c h.given.own c.in_ok-own.own.items c.len-before.result h.inside c.in_ok-own.ensures.taken c.in_ok-own.ensures.left c.len-before.ensures c.taken.ensures.names in
    no_fewer (length (type_context c.args.c.now)) (length (type_context c.taken.new.c)) (as_many c.args.c.now c.taken.new.c back.same)

pub parts_against-returns-clause-answer : goal.parts_against-returns-clause-answer
parts_against-returns-clause-answer t c =
    let e = environment_in c.args.c.now in
    let f = field_pats_of c.args.parts.now in
    let h = c.in_ok-adds.ensures.answer in
    let is = three (against_fields c.args.span f) c.deref.ensures.value c.deref-2.ensures.value c.deref-3.ensures.value in
    let back = record_closed c.args.c.now c.open_parts_against.new.c c.taken.new.c h.given.own c.in_ok-own.own.items c.len-before.result h.inside c.in_ok-own.ensures.taken c.in_ok-own.ensures.left c.len-before.ensures c.taken.ensures.names in
    let z = extension_of c.in_ok-under.field-0 in
    subst (λ k. Runs (closed_fields e k) (ok z)) is
    (closed_ok e (against_fields c.args.span f c.deref.result.now c.deref-2.result.now c.deref-3.result.now) h.given z h.gives (c.in_ok-under.ensures.under ∙ ap₂ within back.own_ h.adds))

pub parts_against-returns-clause-base : goal.parts_against-returns-clause-base
parts_against-returns-clause-base t c =
    let h = c.in_ok-adds.ensures.answer in
    let back = record_closed c.args.c.now c.open_parts_against.new.c c.taken.new.c h.given.own c.in_ok-own.own.items c.len-before.result h.inside c.in_ok-own.ensures.taken c.in_ok-own.ensures.left c.len-before.ensures c.taken.ensures.names in
    base_back (length (type_context c.open_parts_against.new.c)) (length (type_context c.args.c.now)) (length c.in_ok-own.own.items) c.in_ok-adds.adds.base c.in_ok-under.field-0.base
    (as_many_more c.args.c.now c.open_parts_against.new.c h.given.own c.in_ok-own.own.items h.inside back.own_) c.in_ok-adds.ensures.base c.in_ok-under.ensures.base

pub parts_against-returns-clause-same : goal.parts_against-returns-clause-same
parts_against-returns-clause-same t c =
    let h = c.in_ok-adds.ensures.answer in
    let back = record_closed c.args.c.now c.open_parts_against.new.c c.taken.new.c h.given.own c.in_ok-own.own.items c.len-before.result h.inside c.in_ok-own.ensures.taken c.in_ok-own.ensures.left c.len-before.ensures c.taken.ensures.names in
    back.same

pub parts_against-returns-clause-grows : goal.parts_against-returns-clause-grows
parts_against-returns-clause-grows t c =
    let h = c.in_ok-adds.ensures.answer in
    let back = record_closed c.args.c.now c.open_parts_against.new.c c.taken.new.c h.given.own c.in_ok-own.own.items c.len-before.result h.inside c.in_ok-own.ensures.taken c.in_ok-own.ensures.left c.len-before.ensures c.taken.ensures.names in
    no_fewer (length (type_context c.args.c.now)) (length (type_context c.taken.new.c)) (as_many c.args.c.now c.taken.new.c back.same)

-- the fields
pub open_parts_against-returns-then-len-binders-clause-answer : goal.open_parts_against-returns-then-len-binders-clause-answer
open_parts_against-returns-then-len-binders-clause-answer t c =
    let e = environment_in c.args.c.now in
    let f = c.args.parts.now in
    let xs = (out-FieldPats f).binders.items in
    let differ : length xs ≡ length c.args.binders.now → ⊥ = λ q. omega (arith, q, c.if-len-binders.true, c.len.ensures, (out-FieldPats f).binders.ok.0) in
    subst (λ g. Runs (rule e (fields_against c.args.span g (plain_bounds c.args.binders.now) (plain_types c.args.positional.now) (plain_labels c.args.labelled.now))) (stuck Y5 c.args.span)) (sym (field_pats_are f))
    (binders_differ e c.args.span _ _ _ _ _ _ (λ q. differ (sym (count_of_binders xs) ∙ q ∙ count_bounds_length c.args.binders.now)))

pub open_parts_against-returns-then-len-positional-clause-answer : goal.open_parts_against-returns-then-len-positional-clause-answer
open_parts_against-returns-then-len-positional-clause-answer t c =
    let e = environment_in c.args.c.now in
    let f = c.args.parts.now in
    let xs = (out-FieldPats f).binders.items in
    let ps = (out-FieldPats f).positional.items in
    let n : length xs ≡ length c.args.binders.now = omega (arith, c.if-len-binders.false, c.len.ensures, (out-FieldPats f).binders.ok.0) in
    let differ : length ps ≡ length c.args.positional.now → ⊥ = λ q. omega (arith, q, c.if-len-positional.true, c.len-2.ensures, (out-FieldPats f).positional.ok.0) in
    subst (λ g. Runs (rule e (fields_against c.args.span g (plain_bounds c.args.binders.now) (plain_types c.args.positional.now) (plain_labels c.args.labelled.now))) (stuck Y5 c.args.span)) (sym (field_pats_are f))
    (patterns_differ e c.args.span _ _ _ _ _ _ (as_many_binders xs c.args.binders.now n) (λ q. differ (sym (count_of_pats ps) ∙ q ∙ count_types_length c.args.positional.now)))

pub open_parts_against-open_against-requires-clause-right : goal.open_parts_against-open_against-requires-clause-right
open_parts_against-open_against-requires-clause-right t c =
    let e = environment_in c.args.c.now in
    let f = c.args.parts.now in
    let ps = (out-FieldPats f).positional.items in
    let n : length c.deref.result.now ≡ length c.args.binders.now = omega (arith, c.if-len-binders.false, c.len.ensures, (out-FieldPats f).binders.ok.0, ap length c.deref.ensures.value) in
    let m : length ps ≡ length c.args.positional.now = omega (arith, c.if-len-positional.false, c.len-2.ensures, (out-FieldPats f).positional.ok.0) in
    let is = parts_read f c.deref.result.now _ _ c.deref.ensures.value refl refl in
    own_asked e c.args.span _ _ _ (plain_bounds c.args.binders.now) (plain_types c.args.positional.now) (plain_labels c.args.labelled.now)
    (subst (λ g. IsWellAsked opened_ e (fields_against c.args.span g (plain_bounds c.args.binders.now) (plain_types c.args.positional.now) (plain_labels c.args.labelled.now))) is c.requires.right)
    (as_many_binders c.deref.result.now c.args.binders.now n) (as_many_patterns ps c.args.positional.now m)

pub open_parts_against-returns-in_err-open_against-clause-answer : goal.open_parts_against-returns-in_err-open_against-clause-answer
open_parts_against-returns-in_err-open_against-clause-answer t c =
    let e = environment_in c.args.c.now in
    let f = c.args.parts.now in
    let ps = (out-FieldPats f).positional.items in
    let n : length c.deref.result.now ≡ length c.args.binders.now = omega (arith, c.if-len-binders.false, c.len.ensures, (out-FieldPats f).binders.ok.0, ap length c.deref.ensures.value) in
    let m : length ps ≡ length c.args.positional.now = omega (arith, c.if-len-positional.false, c.len-2.ensures, (out-FieldPats f).positional.ok.0) in
    let is = parts_read f c.deref.result.now _ _ c.deref.ensures.value refl refl in
    let err = c.in_err-open_against.field-0.0 in
    against_err e (environment_in c.open_against.new.c) (against_fields c.args.span (field_pats_of f) c.args.binders.now c.args.positional.now c.args.labelled.now) c.from_residual.result err c.from_residual.ensures.1
    (subst (λ g. IsRefused (rule e (fields_against c.args.span g (plain_bounds c.args.binders.now) (plain_types c.args.positional.now) (plain_labels c.args.labelled.now))) err) (sym is)
    (counted_refused e c.args.span _ _ _ _ _ _ err (as_many_binders c.deref.result.now c.args.binders.now n) (as_many_patterns ps c.args.positional.now m) (own_refused e _ _ _ _ _ _ err c.in_err-open_against.ensures.answer)))

pub open_parts_against-all_against-requires : goal.open_parts_against-all_against-requires
open_parts_against-all_against-requires t c =
    let e = environment_in c.args.c.now in
    let f = c.args.parts.now in
    let o = c.in_ok-open_against.ensures.answer in
    let n : length c.deref.result.now ≡ length c.args.binders.now = omega (arith, c.if-len-binders.false, c.len.ensures, (out-FieldPats f).binders.ok.0, ap length c.deref.ensures.value) in
    let m : length c.deref-2.result.now ≡ length c.args.positional.now = omega (arith, c.if-len-positional.false, c.len-2.ensures, (out-FieldPats f).positional.ok.0, ap length c.deref-2.ensures.value) in
    let is = parts_read f c.deref.result.now c.deref-2.result.now _ c.deref.ensures.value c.deref-2.ensures.value refl in
    let asked = subst (λ g. IsWellAsked opened_ e (fields_against c.args.span g (plain_bounds c.args.binders.now) (plain_types c.args.positional.now) (plain_labels c.args.labelled.now))) is c.requires.right in (
      search (rules, the_lemmas),
      (
        m,
        positional_asked e (environment_in c.open_against.new.c) c.args.span _ _ _ _ _ _ o.own asked (as_many_binders c.deref.result.now c.args.binders.now n) (as_many_patterns c.deref-2.result.now c.args.positional.now m) o.gives o.inside,
      ),
    )

pub open_parts_against-returns-in_err-first-clause-answer : goal.open_parts_against-returns-in_err-first-clause-answer
open_parts_against-returns-in_err-first-clause-answer t c =
    let e = environment_in c.args.c.now in
    let f = c.args.parts.now in
    let o = c.in_ok-open_against.ensures.answer in
    let n : length c.deref.result.now ≡ length c.args.binders.now = omega (arith, c.if-len-binders.false, c.len.ensures, (out-FieldPats f).binders.ok.0, ap length c.deref.ensures.value) in
    let m : length c.deref-2.result.now ≡ length c.args.positional.now = omega (arith, c.if-len-positional.false, c.len-2.ensures, (out-FieldPats f).positional.ok.0, ap length c.deref-2.ensures.value) in
    let is = parts_read f c.deref.result.now c.deref-2.result.now _ c.deref.ensures.value c.deref-2.ensures.value refl in
    let err = c.in_err-first.field-0.0 in
    against_err e (environment_in c.all_against.new.c) (against_fields c.args.span (field_pats_of f) c.args.binders.now c.args.positional.now c.args.labelled.now) c.from_residual-in_err-first.result err
    c.from_residual-in_err-first.ensures.1
    (subst (λ g. IsRefused (rule e (fields_against c.args.span g (plain_bounds c.args.binders.now) (plain_types c.args.positional.now) (plain_labels c.args.labelled.now))) err) (sym is)
    (counted_refused e c.args.span _ _ _ _ _ _ err (as_many_binders c.deref.result.now c.args.binders.now n) (as_many_patterns c.deref-2.result.now c.args.positional.now m)
    (positional_refused e (environment_in c.open_against.new.c) _ _ _ _ _ _ o.own err o.gives o.inside c.in_err-first.ensures.answer)))

pub open_parts_against-labelled_against-requires : goal.open_parts_against-labelled_against-requires
open_parts_against-labelled_against-requires t c =
    let e = environment_in c.args.c.now in
    let f = c.args.parts.now in
    let d = environment_in c.all_against.new.c in
    let o = c.in_ok-open_against.ensures.answer in
    let x = extension_of c.in_ok-first.first in
    let n : length c.deref.result.now ≡ length c.args.binders.now = omega (arith, c.if-len-binders.false, c.len.ensures, (out-FieldPats f).binders.ok.0, ap length c.deref.ensures.value) in
    let m : length c.deref-2.result.now ≡ length c.args.positional.now = omega (arith, c.if-len-positional.false, c.len-2.ensures, (out-FieldPats f).positional.ok.0, ap length c.deref-2.ensures.value) in
    let is = parts_read f c.deref.result.now c.deref-2.result.now c.deref-3.result.now c.deref.ensures.value c.deref-2.ensures.value c.deref-3.ensures.value in
    let asked = subst (λ g. IsWellAsked opened_ e (fields_against c.args.span g (plain_bounds c.args.binders.now) (plain_types c.args.positional.now) (plain_labels c.args.labelled.now))) is c.requires.right in
    let first = subst (λ z. Runs (rule z (patterns_against (pats_on no_pats c.deref-2.result.now) (plain_types c.args.positional.now))) (ok x)) (sym c.in_ok-first.ensures.same) c.in_ok-first.ensures.answer in (
      search (rules, the_lemmas),
      labelled_asked e d c.args.span _ _ _ _ _ _ o.own x asked (as_many_binders c.deref.result.now c.args.binders.now n) (as_many_patterns c.deref-2.result.now c.args.positional.now m) o.gives (c.in_ok-first.ensures.same ∙ o.inside) first,
    )

pub open_parts_against-returns-in_err-second-clause-answer : goal.open_parts_against-returns-in_err-second-clause-answer
open_parts_against-returns-in_err-second-clause-answer t c =
    let e = environment_in c.args.c.now in
    let f = c.args.parts.now in
    let d = environment_in c.all_against.new.c in
    let o = c.in_ok-open_against.ensures.answer in
    let x = extension_of c.in_ok-first.first in
    let n : length c.deref.result.now ≡ length c.args.binders.now = omega (arith, c.if-len-binders.false, c.len.ensures, (out-FieldPats f).binders.ok.0, ap length c.deref.ensures.value) in
    let m : length c.deref-2.result.now ≡ length c.args.positional.now = omega (arith, c.if-len-positional.false, c.len-2.ensures, (out-FieldPats f).positional.ok.0, ap length c.deref-2.ensures.value) in
    let is = parts_read f c.deref.result.now c.deref-2.result.now c.deref-3.result.now c.deref.ensures.value c.deref-2.ensures.value c.deref-3.ensures.value in
    let first = subst (λ z. Runs (rule z (patterns_against (pats_on no_pats c.deref-2.result.now) (plain_types c.args.positional.now))) (ok x)) (sym c.in_ok-first.ensures.same) c.in_ok-first.ensures.answer in
    let err = c.in_err-second.field-0.0 in
    against_err e (environment_in c.labelled_against.new.c) (against_fields c.args.span (field_pats_of f) c.args.binders.now c.args.positional.now c.args.labelled.now) c.from_residual-in_err-second.result err
    c.from_residual-in_err-second.ensures.1
    (subst (λ g. IsRefused (rule e (fields_against c.args.span g (plain_bounds c.args.binders.now) (plain_types c.args.positional.now) (plain_labels c.args.labelled.now))) err) (sym is)
    (counted_refused e c.args.span _ _ _ _ _ _ err (as_many_binders c.deref.result.now c.args.binders.now n) (as_many_patterns c.deref-2.result.now c.args.positional.now m)
    (labelled_refused e d _ _ _ _ _ _ o.own x err o.gives (c.in_ok-first.ensures.same ∙ o.inside) first c.in_err-second.ensures.answer)))

pub open_parts_against-returns-clause-answer : goal.open_parts_against-returns-clause-answer
open_parts_against-returns-clause-answer t c =
    let e = environment_in c.args.c.now in
    let f = c.args.parts.now in
    let d = environment_in c.all_against.new.c in
    let o = c.in_ok-open_against.ensures.answer in
    let x = extension_of c.in_ok-first.first in
    let y = extension_of c.in_ok-second.second in
    let n : length c.deref.result.now ≡ length c.args.binders.now = omega (arith, c.if-len-binders.false, c.len.ensures, (out-FieldPats f).binders.ok.0, ap length c.deref.ensures.value) in
    let m : length c.deref-2.result.now ≡ length c.args.positional.now = omega (arith, c.if-len-positional.false, c.len-2.ensures, (out-FieldPats f).positional.ok.0, ap length c.deref-2.ensures.value) in
    let is = parts_read f c.deref.result.now c.deref-2.result.now c.deref-3.result.now c.deref.ensures.value c.deref-2.ensures.value c.deref-3.ensures.value in
    let first = subst (λ z. Runs (rule z (patterns_against (pats_on no_pats c.deref-2.result.now) (plain_types c.args.positional.now))) (ok x)) (sym c.in_ok-first.ensures.same) c.in_ok-first.ensures.answer in
    let g : OpenedFields = record { own = o.own; adds = joined_extensions x y } in
    record {
      given = g;
      gives =
          subst (λ h. Runs (rule e (fields_against c.args.span h (plain_bounds c.args.binders.now) (plain_types c.args.positional.now) (plain_labels c.args.labelled.now))) (ok g)) (sym is)
          (counted e c.args.span _ _ _ _ _ _ (ok g) (as_many_binders c.deref.result.now c.args.binders.now n) (as_many_patterns c.deref-2.result.now c.args.positional.now m)
          (all_typed e d _ _ _ _ _ _ o.own x y o.gives (c.in_ok-first.ensures.same ∙ o.inside) first c.in_ok-second.ensures.answer));
      inside = c.in_ok-second.ensures.same ∙ c.in_ok-first.ensures.same ∙ o.inside;
      adds = c.in_ok-join.ensures.joined;
    }
