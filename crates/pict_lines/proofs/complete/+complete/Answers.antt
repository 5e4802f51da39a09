-- Each form of a pattern, the fields of a record, and lists of patterns.
use Rattle.std.proofs.Common.{◌≡◌, ◌&&◌, IfOk, refl, sym, ◌∙◌, ap, subst, rules}
use Rattle.pict_syntax.specs.declared.pattern.FieldPats.{FieldPats as RFieldPats}
use Rattle.pict_syntax.specs.declared.pattern.Pat.{Pat as RPat, the_lemmas}
use Rattle.pict_syntax.specs.PlainTrees.{annotation_of, field_pats_of, pat_of}
use Rattle.pict_syntax.specs.Trees.{Pat, fields_pat, fold_pat, no_labelled_pats, no_pats}
use Rattle.pict_syntax.proofs.PatternLists.{labelled_pats_none, pats_none}
use Rattle.pict_scope.specs.DistinctLabels.{FieldPatsHaveDistinctLabels, PatHasDistinctLabels}
use Rattle.pict_rules.specs.Complete.{are_complete, are_labels_complete, is_complete}
use Rattle.pict_infer.specs.Environments.{known_entries, known_names}
use Rattle.pict_infer.proofs.Forms.{fields_is, fold_is, parts_read}
use Rattle.pict_infer.proofs.PatternPlaces.{labelled_distinct, pat_distinct}
use Rattle.pict_lines.proofs.CompleteEnds.{any_complete, bind_complete, complete_still, fields_complete, fold_complete, label_complete, pattern_complete}
use Rattle.pict_lines.proofs.Kept.{grew_kept, grown_from, kept_here, kept_twice}
use Rattle.pict_lines.proofs.complete.+complete.Goals as goal

-- the forms
pub is_complete-are_fields_complete-requires : goal.is_complete-are_fields_complete-requires
is_complete-are_fields_complete-requires t c =
    let is = fields_is c.args.p.now c.in-Fields.field-0 c.in-Fields.parts c.in-Fields.is ∙ ap (λ (f : RFieldPats). fields_pat c.in-Fields.field-0 (field_pats_of f)) (sym c.deref.ensures) in
    (search (rules, the_lemmas), subst PatHasDistinctLabels is c.requires.labels)

pub is_complete-is_complete-requires : goal.is_complete-is_complete-requires
is_complete-is_complete-requires t c =
    let i = c.in-Fold in
    let is = fold_is c.args.p.now i.field-0 i.annotation i.inner i.is ∙ ap (λ (q : RPat). fold_pat i.field-0 (annotation_of i.annotation) (pat_of q)) (sym c.deref-in-Fold.ensures) in
    (search (rules, the_lemmas), (subst PatHasDistinctLabels is c.requires.labels).1)

pub is_complete-returns-in-Bind-clause-complete : goal.is_complete-returns-in-Bind-clause-complete
is_complete-returns-in-Bind-clause-complete t c =
    let i = c.in-Bind in
    bind_complete (known_names c.args.env.now) (known_entries c.args.env.now) c.args.p.now i.field-0 i.field-1 i.annotation c.is_some.result i.is c.is_some.ensures

pub is_complete-returns-in-Any-clause-complete : goal.is_complete-returns-in-Any-clause-complete
is_complete-returns-in-Any-clause-complete t c =
    let i = c.in-Any in
    any_complete (known_names c.args.env.now) (known_entries c.args.env.now) c.args.p.now i.field-0 i.annotation c.is_some-in-Any.result i.is c.is_some-in-Any.ensures

pub is_complete-returns-in-Fields-clause-complete : goal.is_complete-returns-in-Fields-clause-complete
is_complete-returns-in-Fields-clause-complete t c =
    let i = c.in-Fields in
    let is = fields_is c.args.p.now i.field-0 i.parts i.is ∙ ap (λ (f : RFieldPats). fields_pat i.field-0 (field_pats_of f)) (sym c.deref.ensures) in
    subst (λ (p : Pat). IfOk c.are_fields_complete.result (λ b. b ≡ is_complete (known_names c.args.env.now) (known_entries c.args.env.now) p)) (sym is) c.are_fields_complete.ensures.complete

pub is_complete-returns-in_ok-complete-in-Fold-clause-complete : goal.is_complete-returns-in_ok-complete-in-Fold-clause-complete
is_complete-returns-in_ok-complete-in-Fold-clause-complete t c =
    let i = c.in-Fold in
    let inner = c.in_ok-complete-in-Fold in
    fold_complete (known_names c.args.env.now) (known_entries c.args.env.now) c.args.p.now i.field-0 i.annotation i.inner c.deref-in-Fold.result.now c.is_some-in-Fold.result inner.complete c.both.result
    i.is c.deref-in-Fold.ensures c.is_some-in-Fold.ensures inner.ensures.complete c.both.ensures

-- the fields of a record
pub are_fields_complete-open_bounded-requires : goal.are_fields_complete-open_bounded-requires
are_fields_complete-open_bounded-requires t c =
    record { labels = (subst FieldPatsHaveDistinctLabels (parts_read c.args.parts.now c.deref.result.now _ _ c.deref.ensures.value refl refl) c.requires.labels).0 }

pub are_fields_complete-are_complete-requires : goal.are_fields_complete-are_complete-requires
are_fields_complete-are_complete-requires t c =
    (search (rules, the_lemmas), (subst FieldPatsHaveDistinctLabels (parts_read c.args.parts.now _ c.deref-2.result.now _ refl c.deref-2.ensures.value refl) c.requires.labels).1.0)

pub are_fields_complete-are_labels_complete-requires : goal.are_fields_complete-are_labels_complete-requires
are_fields_complete-are_labels_complete-requires t c =
    (search (rules, the_lemmas), (subst FieldPatsHaveDistinctLabels (parts_read c.args.parts.now _ _ c.deref-3.result.now refl refl c.deref-3.ensures.value) c.requires.labels).1.1)

pub are_fields_complete-cut-requires : goal.are_fields_complete-cut-requires
are_fields_complete-cut-requires t c =
    let opened = c.open_bounded.new.env in
    let mid = c.are_complete.new.env in
    let last = c.are_labels_complete.new.env in
    let still = kept_twice opened mid last c.in_ok-positional.ensures.same c.in_ok-labelled.ensures.same in
    record { grown = grown_from c.place-outer.result c.args.env.now last c.place-outer.ensures (grew_kept c.args.env.now opened last c.in_ok-bounded.ensures.grew still) }

pub are_fields_complete-returns-clause-complete : goal.are_fields_complete-returns-clause-complete
are_fields_complete-returns-clause-complete t c =
    let xs = c.deref.result.now in
    let ys = c.deref-2.result.now in
    let zs = c.deref-3.result.now in
    let b = c.in_ok-bounded in
    let is = parts_read c.args.parts.now xs ys zs c.deref.ensures.value c.deref-2.ensures.value c.deref-3.ensures.value in
    fields_complete c.args.env.now c.open_bounded.new.env c.are_complete.new.env c.args.parts.now xs ys zs b.bounded c.in_ok-positional.positional c.in_ok-labelled.labelled c.both-2.result is b.ensures.bounded b.ensures.grew.texts
    b.ensures.entries c.in_ok-positional.ensures.same c.in_ok-positional.ensures.complete c.in_ok-labelled.ensures.complete (c.both-2.ensures ∙ ap (λ z. b.bounded && z) c.both.ensures)

-- patterns side by side
pub are_complete-loop-p-init : goal.are_complete-loop-p-init
are_complete-loop-p-init t c = record {
  so_far = ap (are_complete (known_names c.args.env.now) (known_entries c.args.env.now)) (sym (pats_none no_pats));
  same = kept_here c.args.env.now;
}

pub are_complete-is_complete-requires : goal.are_complete-is_complete-requires
are_complete-is_complete-requires t c = (search (rules, the_lemmas), pat_distinct c.args.ps.now c.loop-p.p-index c.p-item.result c.loop-p-test.true c.p-item.is c.requires.labels)

pub are_complete-loop-p-preserved : goal.are_complete-loop-p-preserved
are_complete-loop-p-preserved t c =
    let e = c.args.env.now in
    let p = c.p-item.result in
    let one = c.in_ok-one.ensures.complete ∙ complete_still e c.loop-p.env (pat_of p) c.loop-p.invariant.same in
    record {
      so_far = pattern_complete (known_names e) (known_entries e) c.args.ps.now c.loop-p.p-index p c.loop-p.complete c.in_ok-one.one c.both-complete.result c.loop-p-test.true c.p-item.is c.loop-p.invariant.so_far one c.both-complete.ensures;
      same = kept_twice e c.loop-p.env c.is_complete.new.env c.loop-p.invariant.same c.in_ok-one.ensures.same;
    }

-- labelled patterns
pub are_labels_complete-loop-l-init : goal.are_labels_complete-loop-l-init
are_labels_complete-loop-l-init t c = record {
  so_far = ap (are_labels_complete (known_names c.args.env.now) (known_entries c.args.env.now)) (sym (labelled_pats_none no_labelled_pats));
  same = kept_here c.args.env.now;
}

pub are_labels_complete-is_complete-requires : goal.are_labels_complete-is_complete-requires
are_labels_complete-is_complete-requires t c = (search (rules, the_lemmas), labelled_distinct c.args.ls.now c.loop-l.l-index c.l-item.result c.loop-l-test.true c.l-item.is c.requires.labels)

pub are_labels_complete-loop-l-preserved : goal.are_labels_complete-loop-l-preserved
are_labels_complete-loop-l-preserved t c =
    let e = c.args.env.now in
    let l = c.l-item.result in
    let one = c.in_ok-one.ensures.complete ∙ complete_still e c.loop-l.env (pat_of l.pat) c.loop-l.invariant.same in
    record {
      so_far = label_complete (known_names e) (known_entries e) c.args.ls.now c.loop-l.l-index l c.loop-l.complete c.in_ok-one.one c.both-complete.result c.loop-l-test.true c.l-item.is c.loop-l.invariant.so_far one c.both-complete.ensures;
      same = kept_twice e c.loop-l.env c.is_complete.new.env c.loop-l.invariant.same c.in_ok-one.ensures.same;
    }
