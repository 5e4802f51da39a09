-- Lists, binders and records of raw forms, and the first refusal among them.
use Rattle.std.proofs.Common.{◌≡◌, suc, ◌+◌, true, false, ◌∷◌, ◌++◌, length, drop, refl, sym, ◌∙◌, ap, ap₂, subst, arith, rules}
use Rattle.pict_syntax.specs.Trees.{no_types, no_binders, no_labelled_types, fields_type}
use Rattle.std.specs.Option.{option_map}
use Rattle.pict_syntax.specs.PlainTrees.{kind_of, type_of, binder_of, types_on, binders_on, labelled_types_on}
use Rattle.pict_normal.specs.Around.{around, scope_of}
use Rattle.pict_normal.specs.BinderEntries.{bound_entry, entries_under}
use Rattle.pict_normal.specs.Meanings.{meanings}
use Rattle.pict_types.specs.Types.{is_top}
use Rattle.pict_normal.specs.Normal.{meaning, count_trees, apply_stops, kind_stops, types_stops, labels_stops, binders_stops, binder_stops}
use Rattle.pict_types.specs.Plain.{plain, plain_record, plain_types, plain_labels, plain_bounds}
use Rattle.pict_types.specs.PlainContext.{names_of, plain_context}
use Rattle.pict_types.specs.Places.{entry_names}
use Rattle.pict_normal.specs.Sizes.{nodes, nodes_of_binder, nodes_of_binders, nodes_of_types, nodes_of_labels}
use Rattle.pict_normal.specs.Raw.{raw, raw_binders, raw_binder}
use Rattle.pict_normal.specs.Refusals.{IsFirst}
use Rattle.pict_types.specs.Replacing.{apply_variable, replace}
use Rattle.pict_normal.proofs.LabelOrder.{unsorted, in_order, ordered, fields_sorted}
use Rattle.pict_normal.proofs.BinderPlaces.{forgotten}
use Rattle.pict_types.proofs.Rows.{plain_fields}
use Rattle.pict_normal.proofs.Refused.{operator_fits, operator_refused}
use Rattle.pict_normal.proofs.RawSteps.{passed_up, types_raw, types_kinds, types_refused, labels_raw, labels_kinds, labels_refused, binders_raw, binders_kinds, binders_refused, binders_inner, record_raw, record_kinds, record_refused_types, record_refused_labels}
use Rattle.pict_normal.proofs.Trees.{fields_tree, apply_tree, count_trees_on, first_before, first_after, none_both, labelled_end, nodes_of_binder_item, nodes_of_label_item}
use Rattle.pict_normal.proofs.raw.+raw.Goals as goal
use Rattle.pict_syntax.proofs.TypeLists.{binders_none, labelled_types_none}

pub operator_bound-returns-then-becomes_top-clause-kinds : goal.operator_bound-returns-then-becomes_top-clause-kinds
operator_bound-returns-then-becomes_top-clause-kinds t c =
    let top : true ≡ is_top (replace (meanings (around c.args.inner.now c.args.c.now)) (plain c.in-Ok.t)) =
    sym c.if-becomes_top.true ∙ c.becomes_top.ensures ∙ ap (λ s. is_top (replace (meanings (s ++ plain_context c.args.c.now)) (plain c.in-Ok.t))) c.in-Ok.ensures.inner in
    operator_fits (names_of c.args.c.now) (around c.args.inner.now c.args.c.now) c.args.at c.args.marks.now (type_of c.args.t.now) (plain c.in-Ok.t) c.in-Ok.ensures.kinds c.in-Ok.ensures.raw top

pub operator_bound-returns-else-becomes_top-clause-first : goal.operator_bound-returns-else-becomes_top-clause-first
operator_bound-returns-else-becomes_top-clause-first t c =
    let top : false ≡ is_top (replace (meanings (around c.args.inner.now c.args.c.now)) (plain c.in-Ok.t)) =
    sym c.if-becomes_top.false ∙ c.becomes_top.ensures ∙ ap (λ s. is_top (replace (meanings (s ++ plain_context c.args.c.now)) (plain c.in-Ok.t))) c.in-Ok.ensures.inner in
    operator_refused (names_of c.args.c.now) (around c.args.inner.now c.args.c.now) c.args.at c.args.marks.now (type_of c.args.t.now) (plain c.in-Ok.t) c.in-Ok.ensures.kinds c.in-Ok.ensures.raw top

pub raw_binders-loop-b-init : goal.raw_binders-loop-b-init
raw_binders-loop-b-init t c =
    let ns = names_of c.args.c.now in
    let d = around c.args.inner.now c.args.c.now in
    record {
      raw = ap plain_bounds c.new-bounds.ensures.items ∙ sym (ap (raw_binders ns (entry_names d)) (binders_none no_binders));
      kinds = ap (binders_stops ns d) (binders_none no_binders);
      inner = sym (ap (entries_under (scope_of c.args.inner.now)) (binders_none no_binders));
    }

pub raw_binders-raw_binder-requires : goal.raw_binders-raw_binder-requires
raw_binders-raw_binder-requires t c =
    let bs = c.args.bs.now in
    let i = c.loop-b.b-index in
    let ctx = plain_context c.args.c.now in
    let h = nodes_of_binder_item bs i c.b-item.result c.loop-b-test.true in
    let e = ap (λ y. nodes_of_binder (binder_of y)) c.b-item.is in
    omega (arith, h, e)

pub raw_binders-returns-in_err-raw_binder-clause-first : goal.raw_binders-returns-in_err-raw_binder-clause-first
raw_binders-returns-in_err-raw_binder-clause-first t c =
    let ns = names_of c.args.c.now in
    let ctx = plain_context c.args.c.now in
    let s = scope_of c.loop-b.inner in
    let err = c.in_err-raw_binder.field-0.0 in
    passed_up c.from_residual.result err (λ e. IsFirst (binders_stops ns (around c.args.inner.now c.args.c.now) (binders_on no_binders c.args.bs.now)) e) c.from_residual.ensures.1
    (binders_refused ns ctx (scope_of c.args.inner.now) s c.args.bs.now c.loop-b.b-index c.b-item.result err c.loop-b-test.true c.loop-b.invariant.inner c.loop-b.invariant.kinds
    (subst (λ y. IsFirst (binder_stops ns (s ++ ctx) (binder_of y)) err) c.b-item.is c.in_err-raw_binder.ensures.first))

pub raw_binders-loop-b-preserved : goal.raw_binders-loop-b-preserved
raw_binders-loop-b-preserved t c =
    let ns = names_of c.args.c.now in
    let ctx = plain_context c.args.c.now in
    let e = scope_of c.args.inner.now in
    let s = scope_of c.loop-b.inner in
    let bs = c.args.bs.now in
    let i = c.loop-b.b-index in
    let x = c.b-item.result in
    let is = c.b-item.is in
    record {
      raw =
          ap plain_bounds c.in_ok-push.ensures.items
          ∙ binders_raw ns ctx e s bs i x c.loop-b.bounds.items c.in_ok-raw_binder.field-0 c.loop-b-test.true c.loop-b.invariant.inner c.loop-b.invariant.raw
          (c.in_ok-raw_binder.ensures.raw ∙ ap (λ y. raw_binder ns (entry_names (s ++ ctx)) (binder_of y)) is);
      kinds =
          binders_kinds ns ctx e s bs i x c.loop-b-test.true c.loop-b.invariant.inner c.loop-b.invariant.kinds
          (ap (λ y. binder_stops ns (s ++ ctx) (binder_of y)) (sym is) ∙ c.in_ok-raw_binder.ensures.kinds);
      inner =
          binders_inner e (scope_of c.push-in-loop-b.new.self) bs i x c.loop-b-test.true
          (c.in_ok-push-2.ensures ∙ ap₂ (λ u v. u ∷ v) (ap (bound_entry c.b-item.result.id.name.0) c.in_ok-copy_kind.ensures ∙ ap (λ y. bound_entry y.id.name.0 (option_map kind_of y.kind)) is) (c.in_ok-raw_binder.ensures.inner ∙ c.loop-b.invariant.inner));
    }

pub raw_labels-loop-l-init : goal.raw_labels-loop-l-init
raw_labels-loop-l-init t c =
    let ns = names_of c.args.c.now in
    let d = around c.args.inner.now c.args.c.now in
    record {
      raw = ap plain_labels c.new-labelled.ensures.items ∙ sym (ap (unsorted ns (entry_names d)) (labelled_types_none no_labelled_types));
      kinds = ap (labels_stops ns d) (labelled_types_none no_labelled_types);
      inner = refl;
    }

pub raw_labels-raw_type-requires : goal.raw_labels-raw_type-requires
raw_labels-raw_type-requires t c =
    let ls = c.args.ls.now in
    let h = nodes_of_label_item ls c.loop-l.l-index c.l-item.result c.loop-l-test.true in
    let e = ap (λ y. nodes (type_of y.of)) c.l-item.is in
    omega (arith, h, e)

pub raw_labels-returns-in_err-raw_type-clause-first : goal.raw_labels-returns-in_err-raw_type-clause-first
raw_labels-returns-in_err-raw_type-clause-first t c =
    let ns = names_of c.args.c.now in
    let ctx = plain_context c.args.c.now in
    let e = scope_of c.loop-l.inner in
    let err = c.in_err-raw_type.field-0.0 in
    passed_up _ err (λ e. IsFirst (labels_stops ns (around c.args.inner.now c.args.c.now) (labelled_types_on no_labelled_types c.args.ls.now)) e) (search rules)
    (labels_refused ns ctx (scope_of c.args.inner.now) e c.args.ls.now c.loop-l.l-index c.l-item.result err c.loop-l-test.true c.loop-l.invariant.inner c.loop-l.invariant.kinds
    (subst (λ y. IsFirst (kind_stops ns (e ++ ctx) (type_of y.of)) err) c.l-item.is c.in_err-raw_type.ensures.first))

pub raw_labels-loop-l-preserved : goal.raw_labels-loop-l-preserved
raw_labels-loop-l-preserved t c =
    let ns = names_of c.args.c.now in
    let ctx = plain_context c.args.c.now in
    let d = scope_of c.args.inner.now in
    let e = scope_of c.loop-l.inner in
    let ls = c.args.ls.now in
    let i = c.loop-l.l-index in
    let x = c.l-item.result in
    let is = c.l-item.is in
    record {
      raw =
          ap plain_labels c.in_ok-push.ensures.items
          ∙ labels_raw ns ctx d e ls i x c.loop-l.labelled.items (x.label.name, c.in_ok-raw_type.field-0) c.loop-l-test.true c.loop-l.invariant.inner c.loop-l.invariant.raw
          (ap (λ y. y.label.name) is) (c.in_ok-raw_type.ensures.raw ∙ ap (λ y. raw ns (entry_names (e ++ ctx)) (type_of y.of)) is);
      kinds =
          labels_kinds ns ctx d e ls i x c.loop-l-test.true c.loop-l.invariant.inner c.loop-l.invariant.kinds
          (ap (λ y. kind_stops ns (e ++ ctx) (type_of y.of)) (sym is) ∙ c.in_ok-raw_type.ensures.kinds);
      inner = c.in_ok-raw_type.ensures.inner ∙ c.loop-l.invariant.inner;
    }

pub raw_labels-returns-clause-raw : goal.raw_labels-returns-clause-raw
raw_labels-returns-clause-raw t c =
    let ns = names_of c.args.c.now in
    let ms = entry_names (around c.args.inner.now c.args.c.now) in
    let ls = c.args.ls.now in
    fields_sorted c.names.result.now c.loop-l.labelled.items c.sort_labels.new.items.items c.in_ok-sort_labels.ensures.sorted
    ∙ ap₂ in_order c.names.ensures.same (c.loop-l.invariant.raw ∙ ap (unsorted ns ms) (labelled_end ls c.loop-l.l-index c.loop-l-test.false))
    ∙ ordered ns ms (labelled_types_on no_labelled_types ls)

pub raw_types-returns-in_err-raw_type-clause-first : goal.raw_types-returns-in_err-raw_type-clause-first
raw_types-returns-in_err-raw_type-clause-first t c =
    let ns = names_of c.args.c.now in
    let ctx = plain_context c.args.c.now in
    let e = scope_of c.loop-t.inner in
    let err = c.in_err-raw_type.field-0.0 in
    passed_up _ err (λ e. IsFirst (types_stops ns (around c.args.inner.now c.args.c.now) (types_on no_types c.args.ts.now)) e) (search rules)
    (types_refused ns ctx (scope_of c.args.inner.now) e c.args.ts.now c.loop-t.t-index c.t-item.result err c.loop-t-test.true c.loop-t.invariant.inner c.loop-t.invariant.kinds
    (subst (λ y. IsFirst (kind_stops ns (e ++ ctx) (type_of y)) err) c.t-item.is c.in_err-raw_type.ensures.first))

pub raw_types-loop-t-preserved : goal.raw_types-loop-t-preserved
raw_types-loop-t-preserved t c =
    let ns = names_of c.args.c.now in
    let ctx = plain_context c.args.c.now in
    let d = scope_of c.args.inner.now in
    let e = scope_of c.loop-t.inner in
    let ts = c.args.ts.now in
    let i = c.loop-t.t-index in
    let x = c.t-item.result in
    let is = c.t-item.is in
    record {
      raw =
          ap plain_types c.in_ok-push.ensures.items
          ∙ types_raw ns ctx d e ts i x c.loop-t.types.items c.in_ok-raw_type.field-0 c.loop-t-test.true c.loop-t.invariant.inner c.loop-t.invariant.raw
          (c.in_ok-raw_type.ensures.raw ∙ ap (λ y. raw ns (entry_names (e ++ ctx)) (type_of y)) is);
      kinds =
          types_kinds ns ctx d e ts i x c.loop-t-test.true c.loop-t.invariant.inner c.loop-t.invariant.kinds
          (ap (λ y. kind_stops ns (e ++ ctx) (type_of y)) (sym is) ∙ c.in_ok-raw_type.ensures.kinds);
      inner = c.in_ok-raw_type.ensures.inner ∙ c.loop-t.invariant.inner;
    }

pub raw_record-returns-in_err-positional-clause-first : goal.raw_record-returns-in_err-positional-clause-first
raw_record-returns-in_err-positional-clause-first t c = λ sp.
    let ns = names_of c.args.c.now in
    let ctx = plain_context c.args.c.now in
    let bs = binders_on no_binders c.args.bs.now in
    let ts = types_on no_types c.args.ts.now in
    let ls = labelled_types_on no_labelled_types c.args.ls.now in
    let err = c.in_err-positional.field-0.0 in
    passed_up _ err (λ e. IsFirst (kind_stops ns (around c.args.inner.now c.args.c.now) (fields_type sp bs ts ls)) e) (search rules)
    (record_refused_types ns ctx (scope_of c.args.inner.now) (scope_of c.raw_binders.new.inner) sp bs ts ls err c.in_ok-binders.ensures.inner c.in_ok-binders.ensures.kinds c.in_err-positional.ensures.first)

pub raw_record-returns-in_err-labelled-clause-first : goal.raw_record-returns-in_err-labelled-clause-first
raw_record-returns-in_err-labelled-clause-first t c = λ sp.
    let ns = names_of c.args.c.now in
    let ctx = plain_context c.args.c.now in
    let bs = binders_on no_binders c.args.bs.now in
    let ts = types_on no_types c.args.ts.now in
    let ls = labelled_types_on no_labelled_types c.args.ls.now in
    let err = c.in_err-labelled.field-0.0 in
    passed_up _ err (λ e. IsFirst (kind_stops ns (around c.args.inner.now c.args.c.now) (fields_type sp bs ts ls)) e) (search rules)
    (record_refused_labels ns ctx (scope_of c.args.inner.now) (scope_of c.raw_binders.new.inner) (scope_of c.raw_types.new.inner) sp bs ts ls err c.in_ok-binders.ensures.inner c.in_ok-positional.ensures.inner c.in_ok-binders.ensures.kinds c.in_ok-positional.ensures.kinds c.in_err-labelled.ensures.first)

pub raw_record-returns-clause-raw : goal.raw_record-returns-clause-raw
raw_record-returns-clause-raw t c = λ sp.
    let ctx = plain_context c.args.c.now in
    record_raw (names_of c.args.c.now) ctx (scope_of c.args.inner.now) (scope_of c.raw_binders.new.inner) (scope_of c.raw_types.new.inner) sp (binders_on no_binders c.args.bs.now) (types_on no_types c.args.ts.now) (labelled_types_on no_labelled_types c.args.ls.now)
    (plain_bounds c.in_ok-binders.binders.items) (plain_types c.in_ok-positional.positional.items) (plain_labels c.in_ok-labelled.labelled.items)
    c.in_ok-binders.ensures.inner c.in_ok-positional.ensures.inner c.in_ok-binders.ensures.raw c.in_ok-positional.ensures.raw c.in_ok-labelled.ensures.raw

pub raw_record-returns-clause-kinds : goal.raw_record-returns-clause-kinds
raw_record-returns-clause-kinds t c = λ sp.
    let ctx = plain_context c.args.c.now in
    record_kinds (names_of c.args.c.now) ctx (scope_of c.args.inner.now) (scope_of c.raw_binders.new.inner) (scope_of c.raw_types.new.inner) sp (binders_on no_binders c.args.bs.now) (types_on no_types c.args.ts.now) (labelled_types_on no_labelled_types c.args.ls.now)
    c.in_ok-binders.ensures.inner c.in_ok-positional.ensures.inner c.in_ok-binders.ensures.kinds c.in_ok-positional.ensures.kinds c.in_ok-labelled.ensures.kinds

pub raw_record-returns-clause-inner : goal.raw_record-returns-clause-inner
raw_record-returns-clause-inner t c =
    let bs = c.args.bs.now in
    c.pop_all.ensures
    ∙ ap (drop (length bs)) (c.in_ok-labelled.ensures.inner ∙ c.in_ok-positional.ensures.inner ∙ c.in_ok-binders.ensures.inner)
    ∙ forgotten (scope_of c.args.inner.now) bs (length bs) refl

pub raw_type-raw_record-requires : goal.raw_type-raw_record-requires
raw_type-raw_record-requires t c =
    let e = fields_tree c.args.t.now c.in-Fields.field-0 c.in-Fields.bs c.in-Fields.ts c.in-Fields.ls c.deref-in-Fields.result.now c.deref-in-Fields-2.result.now c.deref-in-Fields-3.result.now c.in-Fields.is c.deref-in-Fields.ensures.value c.deref-in-Fields-2.ensures.value c.deref-in-Fields-3.ensures.value in
    let h : nodes (type_of c.args.t.now) ≡ suc (nodes_of_binders (binders_on no_binders c.deref-in-Fields.result.now) + nodes_of_types (types_on no_types c.deref-in-Fields-2.result.now) + nodes_of_labels (labelled_types_on no_labelled_types c.deref-in-Fields-3.result.now)) = ap nodes e in
    omega (arith, h)

pub raw_type-returns-in_err-raw_record-in-Fields-clause-first : goal.raw_type-returns-in_err-raw_record-in-Fields-clause-first
raw_type-returns-in_err-raw_record-in-Fields-clause-first t c =
    let d = around c.args.inner.now c.args.c.now in
    let err = c.in_err-raw_record-in-Fields.field-0.0 in
    let e = fields_tree c.args.t.now c.in-Fields.field-0 c.in-Fields.bs c.in-Fields.ts c.in-Fields.ls c.deref-in-Fields.result.now c.deref-in-Fields-2.result.now c.deref-in-Fields-3.result.now c.in-Fields.is c.deref-in-Fields.ensures.value c.deref-in-Fields-2.ensures.value c.deref-in-Fields-3.ensures.value in
    passed_up c.from_residual.result err (λ x. IsFirst (kind_stops (names_of c.args.c.now) d (type_of c.args.t.now)) x) c.from_residual.ensures.1
    (subst (λ y. IsFirst (kind_stops (names_of c.args.c.now) d y) err) (sym e) (c.in_err-raw_record-in-Fields.ensures.first c.in-Fields.field-0))

pub raw_type-returns-in_ok-new-in-Fields-clause-raw : goal.raw_type-returns-in_ok-new-in-Fields-clause-raw
raw_type-returns-in_ok-new-in-Fields-clause-raw t c =
    let d = around c.args.inner.now c.args.c.now in
    let e = fields_tree c.args.t.now c.in-Fields.field-0 c.in-Fields.bs c.in-Fields.ts c.in-Fields.ls c.deref-in-Fields.result.now c.deref-in-Fields-2.result.now c.deref-in-Fields-3.result.now c.in-Fields.is c.deref-in-Fields.ensures.value c.deref-in-Fields-2.ensures.value c.deref-in-Fields-3.ensures.value in
    plain_fields c.in_ok-new-in-Fields.field-0 ∙ ap plain_record c.in_ok-new-in-Fields.ensures.ok ∙ c.in_ok-raw_record-in-Fields.ensures.raw c.in-Fields.field-0 ∙ ap (raw (names_of c.args.c.now) (entry_names d)) (sym e)

pub raw_type-returns-in_ok-new-in-Fields-clause-kinds : goal.raw_type-returns-in_ok-new-in-Fields-clause-kinds
raw_type-returns-in_ok-new-in-Fields-clause-kinds t c =
    let d = around c.args.inner.now c.args.c.now in
    let e = fields_tree c.args.t.now c.in-Fields.field-0 c.in-Fields.bs c.in-Fields.ts c.in-Fields.ls c.deref-in-Fields.result.now c.deref-in-Fields-2.result.now c.deref-in-Fields-3.result.now c.in-Fields.is c.deref-in-Fields.ensures.value c.deref-in-Fields-2.ensures.value c.deref-in-Fields-3.ensures.value in
    ap (kind_stops (names_of c.args.c.now) d) e ∙ c.in_ok-raw_record-in-Fields.ensures.kinds c.in-Fields.field-0

pub raw_type-returns-in_err-head-in-Apply-clause-first : goal.raw_type-returns-in_err-head-in-Apply-clause-first
raw_type-returns-in_err-head-in-Apply-clause-first t c =
    let ns = names_of c.args.c.now in
    let d = around c.args.inner.now c.args.c.now in
    let err = c.in_err-head-in-Apply.field-0.0 in
    let ts = types_on no_types c.in-Apply.ts.items in
    let m = meaning d c.in-Apply.id.name.0 in
    let e = apply_tree c.args.t.now c.in-Apply.span c.in-Apply.id c.in-Apply.ts c.in-Apply.ts.items c.in-Apply.is refl in
    let n : length c.as_slice.result.now ≡ count_trees ts = ap length c.as_slice.ensures.value ∙ sym (count_trees_on c.in-Apply.ts.items) in
    passed_up c.from_residual-in_err-head-in-Apply.result err (λ x. IsFirst (kind_stops ns d (type_of c.args.t.now)) x) c.from_residual-in_err-head-in-Apply.ensures.1
    (subst (λ y. IsFirst (kind_stops ns d y) err) (sym e)
    (first_before (apply_stops c.in-Apply.span m (count_trees ts)) (types_stops ns d ts) err (subst (λ k. IsFirst (apply_stops c.in-Apply.span m k) err) n c.in_err-head-in-Apply.ensures.first)))

pub raw_type-raw_types-requires : goal.raw_type-raw_types-requires
raw_type-raw_types-requires t c =
    let e = apply_tree c.args.t.now c.in-Apply.span c.in-Apply.id c.in-Apply.ts c.deref-in-Apply.result.now c.in-Apply.is c.deref-in-Apply.ensures.value in
    let h : nodes (type_of c.args.t.now) ≡ suc (nodes_of_types (types_on no_types c.deref-in-Apply.result.now)) = ap nodes e in
    omega (arith, h)

pub raw_type-returns-in_err-raw_types-in-Apply-clause-first : goal.raw_type-returns-in_err-raw_types-in-Apply-clause-first
raw_type-returns-in_err-raw_types-in-Apply-clause-first t c =
    let ns = names_of c.args.c.now in
    let d = around c.args.inner.now c.args.c.now in
    let err = c.in_err-raw_types-in-Apply.field-0.0 in
    let xs = c.deref-in-Apply.result.now in
    let ts = types_on no_types xs in
    let m = meaning d c.in-Apply.id.name.0 in
    let e = apply_tree c.args.t.now c.in-Apply.span c.in-Apply.id c.in-Apply.ts xs c.in-Apply.is c.deref-in-Apply.ensures.value in
    let n : length c.as_slice.result.now ≡ count_trees ts = ap length (c.as_slice.ensures.value ∙ sym c.deref-in-Apply.ensures.value) ∙ sym (count_trees_on xs) in
    passed_up c.from_residual-in_err-raw_types-in-Apply.result err (λ x. IsFirst (kind_stops ns d (type_of c.args.t.now)) x) c.from_residual-in_err-raw_types-in-Apply.ensures.1
    (subst (λ y. IsFirst (kind_stops ns d y) err) (sym e)
    (first_after (apply_stops c.in-Apply.span m (count_trees ts)) (types_stops ns d ts) err (sym (ap (apply_stops c.in-Apply.span m) n) ∙ c.in_ok-head-in-Apply.ensures.kinds) c.in_err-raw_types-in-Apply.ensures.first))

pub raw_type-returns-in_ok-apply_head-in-Apply-clause-raw : goal.raw_type-returns-in_ok-apply_head-in-Apply-clause-raw
raw_type-returns-in_ok-apply_head-in-Apply-clause-raw t c =
    let d = around c.args.inner.now c.args.c.now in
    let e = apply_tree c.args.t.now c.in-Apply.span c.in-Apply.id c.in-Apply.ts c.deref-in-Apply.result.now c.in-Apply.is c.deref-in-Apply.ensures.value in
    c.in_ok-apply_head-in-Apply.ensures ∙ ap₂ apply_variable c.in_ok-head-in-Apply.ensures.raw c.in_ok-raw_types-in-Apply.ensures.raw ∙ ap (raw (names_of c.args.c.now) (entry_names d)) (sym e)

pub raw_type-returns-in_ok-apply_head-in-Apply-clause-kinds : goal.raw_type-returns-in_ok-apply_head-in-Apply-clause-kinds
raw_type-returns-in_ok-apply_head-in-Apply-clause-kinds t c =
    let ns = names_of c.args.c.now in
    let d = around c.args.inner.now c.args.c.now in
    let xs = c.deref-in-Apply.result.now in
    let ts = types_on no_types xs in
    let m = meaning d c.in-Apply.id.name.0 in
    let e = apply_tree c.args.t.now c.in-Apply.span c.in-Apply.id c.in-Apply.ts xs c.in-Apply.is c.deref-in-Apply.ensures.value in
    let n : length c.as_slice.result.now ≡ count_trees ts = ap length (c.as_slice.ensures.value ∙ sym c.deref-in-Apply.ensures.value) ∙ sym (count_trees_on xs) in
    ap (kind_stops ns d) e
    ∙ none_both (apply_stops c.in-Apply.span m (count_trees ts)) (types_stops ns d ts) (sym (ap (apply_stops c.in-Apply.span m) n) ∙ c.in_ok-head-in-Apply.ensures.kinds) c.in_ok-raw_types-in-Apply.ensures.kinds
