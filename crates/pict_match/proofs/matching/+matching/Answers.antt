-- Operator variables, records, and one more of a row.
use Rattle.std.proofs.Common.{◌≡◌, suc, ◌+◌, ◌<◌, length, drop, refl, sym, ◌∙◌, ap, ap₂, subst, subst₂, take, List, arith}
use Rattle.pict_types.specs.declared.types.Bound.{Bound}
use Rattle.pict_types.specs.Types.{Apply, under}
use Rattle.pict_types.specs.Kinds.{IsWellFormed, kinds}
use Rattle.pict_types.specs.Measures.{size, size_types, size_labels}
use Rattle.pict_types.specs.Plain.{plain, plain_bound, plain_bounds, plain_labels, plain_record, plain_types}
use Rattle.pict_types.proofs.Rows.{apply_is, record_is, labels_end}
use Rattle.pict_sub.specs.Exposing.{exposure}
use Rattle.pict_sub.specs.Scopes.{scope_context}
use Rattle.pict_types.proofs.Items.{bound_size, item_size, label_read, label_size, types_formed}
use Rattle.pict_sub.proofs.Below.{ready_as}
use Rattle.pict_rules.specs.Found as Rules
use Rattle.pict_rules.specs.Found.{matched, matched_bound, matched_bounds, matched_labels, matched_types}
use Rattle.pict_match.specs.Formed.{IsFormed, AreFormed, LabelsAreFormed, BoundIsFormed}
use Rattle.pict_match.specs.Parts.{by_arguments, by_records}
use Rattle.pict_match.specs.PlainFound.{Finds, IsPartly, found_in}
use Rattle.pict_match.proofs.Growing.{bound_grows, bounds_grow, finds_err, finds_last, finds_same, grows_not, grows_on, labels_grow, matched_grows, partly_none, step_on, step_stops, types_grow}
use Rattle.pict_match.proofs.Lists.{IsLeft, bound_formed_at, bounds_next, context_at, given_bound_at, given_type, labels_out, pass_given, pass_wanted, take_both, types_next, type_formed_at, wanted_type}
use Rattle.pict_match.proofs.Records.{formed_labelled, formed_positional, records_total}
use Rattle.pict_match.proofs.Shown.{arguments_same, formed_arguments, shown_arguments, shown_fields}
use Rattle.pict_match.proofs.matching.+matching.Goals as goal

pub match_at-match_arguments-requires : goal.match_at-match_arguments-requires
match_at-match_arguments-requires t c =
    let e = apply_is c.args.wanted.now c.in-Apply.i c.in-Apply.ws c.deref-in-Apply.result.now c.in-Apply.is (c.deref-in-Apply.ensures.value ∙ ap (λ v. v.items) c.deref.ensures) in
    let h : size (plain c.args.wanted.now) ≡ suc (size_types (plain_types c.deref-in-Apply.result.now)) = ap size e in
    (omega (arith, h), (c.requires.context, (formed_arguments (subst (IsFormed c.args.names.now) e c.requires.wanted), c.requires.given)))

pub match_at-returns-in-Apply : goal.match_at-returns-in-Apply
match_at-returns-in-Apply t c =
    let e = apply_is c.args.wanted.now c.in-Apply.i c.in-Apply.ws c.deref-in-Apply.result.now c.in-Apply.is (c.deref-in-Apply.ensures.value ∙ ap (λ v. v.items) c.deref.ensures) in
    subst (λ x. Finds c.match_arguments.result (matched (scope_context c.args.scope.now) c.args.inner x (plain c.args.given.now)) (found_in c.args.found.now) (found_in c.match_arguments.new.found)) (sym e) c.match_arguments.ensures

pub match_arguments-match_types-requires : goal.match_arguments-match_types-requires
match_arguments-match_types-requires t c =
    let e : Apply c.in-Apply.j (plain_types c.deref-then-is_same_head.result.now) ≡ exposure (scope_context c.args.scope.now) (plain c.args.given.now) =
    sym (apply_is c.changed_or_same.result.now c.in-Apply.j c.in-Apply.us c.deref-then-is_same_head.result.now c.in-Apply.is (c.deref-then-is_same_head.ensures.value ∙ ap (λ v. v.items) c.deref.ensures)) ∙ c.changed_or_same.ensures ∙ c.in_ok-followed.ensures in
    (omega arith, (c.requires.context, (c.requires.wanted, shown_arguments c.args.names.now (scope_context c.args.scope.now) (plain c.args.given.now) c.in-Apply.j (plain_types c.deref-then-is_same_head.result.now) c.requires.context c.requires.given e)))

pub match_arguments-returns-then-is_same_head : goal.match_arguments-returns-then-is_same_head
match_arguments-returns-then-is_same_head t c =
    let ctx = scope_context c.args.scope.now in
    let f = found_in c.args.found.now in
    let ws = plain_types c.args.wanted.now in
    let us = plain_types c.deref-then-is_same_head.result.now in
    let e : Apply c.in-Apply.j us ≡ exposure ctx (plain c.args.given.now) =
    sym (apply_is c.changed_or_same.result.now c.in-Apply.j c.in-Apply.us c.deref-then-is_same_head.result.now c.in-Apply.is (c.deref-then-is_same_head.ensures.value ∙ ap (λ v. v.items) c.deref.ensures)) ∙ c.changed_or_same.ensures ∙ c.in_ok-followed.ensures in
    let is = arguments_same ctx c.args.inner c.args.i c.in-Apply.j ws us (plain c.args.given.now) f e (sym c.is_same_head.ensures ∙ c.if-is_same_head.true) in
    finds_same c.match_types.result (matched_types ctx c.args.inner ws us) (by_arguments ctx c.args.inner c.args.i ws (plain c.args.given.now)) f (found_in c.match_types.new.found) is c.match_types.ensures

pub match_record-match_records-requires : goal.match_record-match_records-requires
match_record-match_records-requires t c =
    let e : plain_record c.deref.result.now ≡ exposure (scope_context c.args.scope.now) (plain c.args.given.now) =
    sym (record_is c.changed_or_same.result.now c.in-Fields.q c.deref.result.now c.in-Fields.is c.deref.ensures) ∙ c.changed_or_same.ensures ∙ c.in_ok-followed.ensures in
    (omega arith, (c.requires.context, (c.requires.wanted, shown_fields c.args.names.now (scope_context c.args.scope.now) (plain c.args.given.now) _ _ _ c.requires.context c.requires.given e)))

pub match_records-match_types-requires : goal.match_records-match_types-requires
match_records-match_types-requires t c =
    let names = c.args.names.now in
    let ctx = scope_context c.args.scope.now in
    let r = c.args.wanted.now in
    let q = c.args.given.now in
    let rows = ready_as names ctx (plain_bounds c.deref-3.result.now) (plain_bounds q.binders.items) (plain_types c.deref-5.result.now) (plain_types q.positional.items) (plain_labels q.labelled.items) (plain_labels q.labelled.items) (ap plain_bounds c.deref-3.ensures.value) (ap plain_types c.deref-5.ensures.value) refl c.requires.context c.requires.given in
    let less : size_types (plain_types c.deref-4.result.now) ≡ size_types (plain_types r.positional.items) = ap (λ x. size_types (plain_types x)) c.deref-4.ensures.value in
    let formed = subst (λ x. AreFormed names (plain_types x)) (sym c.deref-4.ensures.value) (formed_positional c.requires.wanted) in
    (omega (arith, less), (rows.context, (formed, rows.rows)))

pub match_records-match_labels-requires : goal.match_records-match_labels-requires
match_records-match_labels-requires t c =
    let names = c.args.names.now in
    let ctx = scope_context c.args.scope.now in
    let r = c.args.wanted.now in
    let q = c.args.given.now in
    let rows = ready_as names ctx (plain_bounds c.deref-3.result.now) (plain_bounds q.binders.items) (plain_types q.positional.items) (plain_types q.positional.items) (plain_labels c.deref-7.result.now) (plain_labels q.labelled.items) (ap plain_bounds c.deref-3.ensures.value) refl (ap plain_labels c.deref-7.ensures.value) c.requires.context c.requires.given in
    let less : size_labels (plain_labels c.deref-6.result.now) ≡ size_labels (plain_labels r.labelled.items) = ap (λ x. size_labels (plain_labels x)) c.deref-6.ensures.value in
    let formed = subst (λ x. LabelsAreFormed names (plain_labels x)) (sym c.deref-6.ensures.value) (formed_labelled c.requires.wanted) in
    (omega (arith, less), (rows.context, (formed, rows.labelled)))

pub match_types-match_at-requires : goal.match_types-match_at-requires
match_types-match_at-requires t c =
    let names = c.args.names.now in
    let ks = kinds (scope_context c.args.scope.now) in
    let i = c.loop-i.i in
    let in_wanted : i < length c.args.wanted.now = c.loop-i-test.true in
    let in_given : i < length c.args.given.now = omega arith in
    let formed = subst (λ x. IsFormed names (plain x)) (sym c.index-wanted-i.is) (type_formed_at c.args.wanted.now i c.index-wanted-i.result c.requires.wanted in_wanted) in
    let given = subst (λ x. IsWellFormed names ks (plain x)) (sym c.index-given-i.is) (types_formed names ks c.args.given.now i c.index-given-i.result c.requires.given in_given) in
    let less = item_size c.args.wanted.now i c.index-wanted-i.result in_wanted c.index-wanted-i.is in
    (omega (arith, less), (c.requires.context, (formed, given)))

pub match_labels-loop-i-preserved-in-Less : goal.match_labels-loop-i-preserved-in-Less
match_labels-loop-i-preserved-in-Less t c =
    let i = c.loop-i.i in
    let j = c.loop-i.j in
    let w = c.index-wanted-i.result in
    let g = c.index-given-j.result in
    let p = label_read c.args.wanted.now i w c.index-wanted-i.is c.loop-i-test.true in
    let q = label_read c.args.given.now j g c.index-given-j.is c.if-j-given.true in
    record {
      wanted_in = omega arith;
      given_in = c.loop-i.invariant.given_in;
      so_far = c.loop-i.invariant.so_far;
      left = pass_wanted c.args.names.now (scope_context c.args.scope.now) c.args.inner w.0.0 g.0.0 (plain w.1) (plain g.1) _ _ p q c.loop-i.invariant.left (sym c.compare_labels.ensures ∙ c.in-Less.is);
    }

pub match_labels-loop-i-preserved-in-Greater : goal.match_labels-loop-i-preserved-in-Greater
match_labels-loop-i-preserved-in-Greater t c =
    let i = c.loop-i.i in
    let j = c.loop-i.j in
    let w = c.index-wanted-i.result in
    let g = c.index-given-j.result in
    let p = label_read c.args.wanted.now i w c.index-wanted-i.is c.loop-i-test.true in
    let q = label_read c.args.given.now j g c.index-given-j.is c.if-j-given.true in
    record {
      wanted_in = c.loop-i.invariant.wanted_in;
      given_in = omega arith;
      so_far = c.loop-i.invariant.so_far;
      left = pass_given c.args.names.now (scope_context c.args.scope.now) c.args.inner w.0.0 g.0.0 (plain w.1) (plain g.1) _ _ p q c.loop-i.invariant.left (sym c.compare_labels.ensures ∙ c.in-Greater.is);
    }

pub match_labels-match_at-requires : goal.match_labels-match_at-requires
match_labels-match_at-requires t c =
    let names = c.args.names.now in
    let ctx = scope_context c.args.scope.now in
    let i = c.loop-i.i in
    let j = c.loop-i.j in
    let w = c.index-wanted-i.result in
    let g = c.index-given-j.result in
    let p = label_read c.args.wanted.now i w c.index-wanted-i.is c.loop-i-test.true in
    let q = label_read c.args.given.now j g c.index-given-j.is c.if-j-given.true in
    let less = label_size c.args.wanted.now i w c.loop-i-test.true c.index-wanted-i.is in (
      omega (arith, less),
      (
        c.requires.context,
        (
          wanted_type names ctx c.args.inner w.0.0 g.0.0 (plain w.1) (plain g.1) _ _ p q c.loop-i.invariant.left,
          given_type names ctx c.args.inner w.0.0 g.0.0 (plain w.1) (plain g.1) _ _ p q c.loop-i.invariant.left,
        ),
      ),
    )

pub match_labels-loop-i-preserved : goal.match_labels-loop-i-preserved
match_labels-loop-i-preserved t c =
    let names = c.args.names.now in
    let ctx = scope_context c.args.scope.now in
    let i = c.loop-i.i in
    let j = c.loop-i.j in
    let w = c.index-wanted-i.result in
    let g = c.index-given-j.result in
    let p = label_read c.args.wanted.now i w c.index-wanted-i.is c.loop-i-test.true in
    let q = label_read c.args.given.now j g c.index-given-j.is c.if-j-given.true in
    let next = take_both names ctx c.args.inner w.0.0 g.0.0 (plain w.1) (plain g.1) _ _ p q c.loop-i.invariant.left (sym c.compare_labels.ensures ∙ c.in-Equal.is) in
    record {
      wanted_in = omega arith;
      given_in = omega arith;
      so_far = step_on c.loop-i.invariant.so_far (matched_grows ctx c.args.inner (plain w.1) (plain g.1) (found_in c.loop-i.found)) c.in_ok-match_at-in-Equal.ensures;
      left = subst (λ f. IsLeft names ctx c.args.inner (plain_labels (drop (i + 1) c.args.wanted.now)) (plain_labels (drop (j + 1) c.args.given.now)) f (matched_labels ctx c.args.inner (plain_labels c.args.wanted.now) (plain_labels c.args.given.now) (found_in c.args.found.now))) (sym c.in_ok-match_at-in-Equal.ensures) next;
    }

pub match_labels-returns-else-j-given : goal.match_labels-returns-else-j-given
match_labels-returns-else-j-given t c =
    labels_out c.args.names.now (scope_context c.args.scope.now) c.args.inner _ _ (found_in c.loop-i.found) _ (labels_end c.args.given.now c.loop-i.j c.if-j-given.false) c.loop-i.invariant.left

pub match_bounds-match_bound-requires : goal.match_bounds-match_bound-requires
match_bounds-match_bound-requires t c =
    let names = c.args.names.now in
    let ctx = scope_context c.args.scope.now in
    let i = c.loop-i.i in
    let in_wanted : i < length c.args.wanted.now = c.loop-i-test.true in
    let in_given : i < length c.args.given.now = omega arith in
    let formed = subst (λ x. BoundIsFormed names (plain_bound x)) (sym c.index-wanted-i.is) (bound_formed_at c.args.wanted.now i c.index-wanted-i.result c.requires.wanted in_wanted) in
    let given = given_bound_at names ctx c.args.given.now i c.index-given-i.result c.index-given-i.is c.requires.given in_given in
    let less = bound_size c.args.wanted.now i c.index-wanted-i.result in_wanted c.index-wanted-i.is in
    (omega (arith, less), (context_at names ctx c.args.given.now i c.requires.context c.requires.given (omega arith), (formed, given)))

pub match_bounds-loop-i-preserved : goal.match_bounds-loop-i-preserved
match_bounds-loop-i-preserved t c =
    let ctx = scope_context c.args.scope.now in
    let i = c.loop-i.i in
    let n = c.in_ok-deeper.field-0 in
    let w = c.index-wanted-i.result in
    let g = c.index-given-i.result in
    let f = found_in c.loop-i.found in
    let in_given : i < length c.args.given.now = omega arith in
    record {
      so_far = step_on c.loop-i.invariant.so_far (bound_grows (under ctx (plain_bounds (take i c.args.given.now))) n (plain_bound w) (plain_bound g) f) c.in_ok-match_bound.ensures;
      left =
          ap (matched_bounds (under ctx (plain_bounds (take (i + 1) c.args.given.now))) (c.args.inner + (i + 1)) (plain_bounds (drop (i + 1) c.args.wanted.now)) (plain_bounds (drop (i + 1) c.args.given.now))) c.in_ok-match_bound.ensures
          ∙ bounds_next ctx c.args.inner n c.args.wanted.now c.args.given.now i w g f c.loop-i-test.true in_given c.index-wanted-i.is c.index-given-i.is c.in_ok-deeper.ensures
          ∙ c.loop-i.invariant.left;
    }

pub match_bounds-returns-in_err-deeper : goal.match_bounds-returns-in_err-deeper
match_bounds-returns-in_err-deeper t c =
    let ctx = scope_context c.args.scope.now in
    let i = c.loop-i.i in
    let f = found_in c.loop-i.found in
    let rest = bounds_grow (under ctx (plain_bounds (take i c.args.given.now))) (c.args.inner + i) (plain_bounds (drop i c.args.wanted.now)) (plain_bounds (drop i c.args.given.now)) f in
    finds_err c.from_residual.result c.in_err-deeper.field-0.0 (matched_bounds ctx c.args.inner (plain_bounds c.args.wanted.now) (plain_bounds c.args.given.now)) (found_in c.args.found.now) f c.from_residual.ensures.1
    (step_stops _ c.loop-i.invariant.so_far (grows_not f) rest c.loop-i.invariant.left (partly_none f f))

pub match_bounds-returns-in_err-match_bound : goal.match_bounds-returns-in_err-match_bound
match_bounds-returns-in_err-match_bound t c =
    let ctx = scope_context c.args.scope.now in
    let i = c.loop-i.i in
    let n = c.in_ok-deeper.field-0 in
    let w = c.index-wanted-i.result in
    let g = c.index-given-i.result in
    let f = found_in c.loop-i.found in
    let in_given : i < length c.args.given.now = omega arith in
    let now = under ctx (plain_bounds (take i c.args.given.now)) in
    let step = bound_grows now n (plain_bound w) (plain_bound g) f in
    let rest = bounds_grow (under ctx (plain_bounds (take (i + 1) c.args.given.now))) (c.args.inner + (i + 1)) (plain_bounds (drop (i + 1) c.args.wanted.now)) (plain_bounds (drop (i + 1) c.args.given.now)) (matched_bound now n (plain_bound w) (plain_bound g) f) in
    let total = bounds_next ctx c.args.inner n c.args.wanted.now c.args.given.now i w g f c.loop-i-test.true in_given c.index-wanted-i.is c.index-given-i.is c.in_ok-deeper.ensures ∙ c.loop-i.invariant.left in
    finds_err c.from_residual-in_err-match_bound.result c.in_err-match_bound.field-0.0 (matched_bounds ctx c.args.inner (plain_bounds c.args.wanted.now) (plain_bounds c.args.given.now)) (found_in c.args.found.now) (found_in c.match_bound.new.found) c.from_residual-in_err-match_bound.ensures.1
    (step_stops _ c.loop-i.invariant.so_far step rest total c.in_err-match_bound.ensures)

pub match_types-loop-i-preserved : goal.match_types-loop-i-preserved
match_types-loop-i-preserved t c =
    let ctx = scope_context c.args.scope.now in
    let i = c.loop-i.i in
    let w = c.index-wanted-i.result in
    let g = c.index-given-i.result in
    let f = found_in c.loop-i.found in
    let in_given : i < length c.args.given.now = omega arith in
    record {
      reached = omega arith;
      so_far = step_on c.loop-i.invariant.so_far (matched_grows ctx c.args.inner (plain w) (plain g) f) c.in_ok-match_at.ensures;
      left =
          ap (matched_types ctx c.args.inner (plain_types (drop (i + 1) c.args.wanted.now)) (plain_types (drop (i + 1) c.args.given.now))) c.in_ok-match_at.ensures
          ∙ types_next ctx c.args.inner c.args.wanted.now c.args.given.now i w g f c.loop-i-test.true in_given c.index-wanted-i.is c.index-given-i.is
          ∙ c.loop-i.invariant.left;
    }

pub match_types-returns-in_err-match_at : goal.match_types-returns-in_err-match_at
match_types-returns-in_err-match_at t c =
    let ctx = scope_context c.args.scope.now in
    let i = c.loop-i.i in
    let w = c.index-wanted-i.result in
    let g = c.index-given-i.result in
    let f = found_in c.loop-i.found in
    let in_given : i < length c.args.given.now = omega arith in
    let step = matched_grows ctx c.args.inner (plain w) (plain g) f in
    let rest = types_grow ctx c.args.inner (plain_types (drop (i + 1) c.args.wanted.now)) (plain_types (drop (i + 1) c.args.given.now)) (matched ctx c.args.inner (plain w) (plain g) f) in
    let total = types_next ctx c.args.inner c.args.wanted.now c.args.given.now i w g f c.loop-i-test.true in_given c.index-wanted-i.is c.index-given-i.is ∙ c.loop-i.invariant.left in
    finds_err c.from_residual.result c.in_err-match_at.field-0.0 (matched_types ctx c.args.inner (plain_types c.args.wanted.now) (plain_types c.args.given.now)) (found_in c.args.found.now) (found_in c.match_at.new.found) c.from_residual.ensures.1
    (step_stops _ c.loop-i.invariant.so_far step rest total c.in_err-match_at.ensures)

pub match_labels-returns-in_err-match_at-in-Equal : goal.match_labels-returns-in_err-match_at-in-Equal
match_labels-returns-in_err-match_at-in-Equal t c =
    let names = c.args.names.now in
    let ctx = scope_context c.args.scope.now in
    let i = c.loop-i.i in
    let j = c.loop-i.j in
    let w = c.index-wanted-i.result in
    let g = c.index-given-j.result in
    let f = found_in c.loop-i.found in
    let p = label_read c.args.wanted.now i w c.index-wanted-i.is c.loop-i-test.true in
    let q = label_read c.args.given.now j g c.index-given-j.is c.if-j-given.true in
    let next = take_both names ctx c.args.inner w.0.0 g.0.0 (plain w.1) (plain g.1) _ _ p q c.loop-i.invariant.left (sym c.compare_labels.ensures ∙ c.in-Equal.is) in
    let step = matched_grows ctx c.args.inner (plain w.1) (plain g.1) f in
    let rest = labels_grow ctx c.args.inner (plain_labels (drop (i + 1) c.args.wanted.now)) (plain_labels (drop (j + 1) c.args.given.now)) (matched ctx c.args.inner (plain w.1) (plain g.1) f) in
    finds_err c.from_residual.result c.in_err-match_at-in-Equal.field-0.0 (matched_labels ctx c.args.inner (plain_labels c.args.wanted.now) (plain_labels c.args.given.now)) (found_in c.args.found.now) (found_in c.match_at.new.found) c.from_residual.ensures.1
    (step_stops _ c.loop-i.invariant.so_far step rest next.gives c.in_err-match_at-in-Equal.ensures)

pub match_records-returns-in_err-match_bounds : goal.match_records-returns-in_err-match_bounds
match_records-returns-in_err-match_bounds t c =
    let ctx = scope_context c.args.scope.now in
    let d = c.args.inner in
    let n = c.in_ok-under.under in
    let r = c.args.wanted.now in
    let q = c.args.given.now in
    let f = found_in c.args.found.now in
    let h = found_in c.match_bounds.new.found in
    let cs = plain_bounds q.binders.items in
    let as_many : length r.binders.items ≡ length q.binders.items = omega (arith, r.binders.ok.0, q.binders.ok.0, c.len.ensures, c.len-2.ensures, c.if-len.false) in
    let as_many_types : length r.positional.items ≡ length q.positional.items = omega (arith, r.positional.ok.0, q.positional.ok.0, c.len-3.ensures, c.len-4.ensures, c.if-len-2.false) in
    let n_is : n ≡ d + length r.binders.items = omega (arith, r.binders.ok.0, c.len-5.ensures, c.in_ok-under.ensures) in
    let total = records_total ctx d r.binders.items q.binders.items r.positional.items q.positional.items (plain_labels r.labelled.items) (plain_labels q.labelled.items) f n as_many as_many_types n_is in
    let m = matched_bounds ctx d (plain_bounds r.binders.items) cs f in
    let said = subst₂ (λ x y. IsPartly f (matched_bounds ctx d (plain_bounds x) (plain_bounds y) f) h) c.deref.ensures.value c.deref-2.ensures.value c.in_err-match_bounds.ensures in
    let rest = grows_on (types_grow (under ctx cs) n (plain_types r.positional.items) (plain_types q.positional.items) m) (labels_grow (under ctx cs) n (plain_labels r.labelled.items) (plain_labels q.labelled.items) _) in
    finds_err c.from_residual-in_err-match_bounds.result c.in_err-match_bounds.field-0.0 (by_records ctx d r q) f h c.from_residual-in_err-match_bounds.ensures.1
    (step_stops _ (grows_not f) (bounds_grow ctx d (plain_bounds r.binders.items) cs f) rest total said)

pub match_records-returns-in_err-match_types : goal.match_records-returns-in_err-match_types
match_records-returns-in_err-match_types t c =
    let ctx = scope_context c.args.scope.now in
    let d = c.args.inner in
    let n = c.in_ok-under.under in
    let r = c.args.wanted.now in
    let q = c.args.given.now in
    let f = found_in c.args.found.now in
    let g = found_in c.match_bounds.new.found in
    let h = found_in c.match_types.new.found in
    let cs = plain_bounds q.binders.items in
    let as_many : length r.binders.items ≡ length q.binders.items = omega (arith, r.binders.ok.0, q.binders.ok.0, c.len.ensures, c.len-2.ensures, c.if-len.false) in
    let as_many_types : length r.positional.items ≡ length q.positional.items = omega (arith, r.positional.ok.0, q.positional.ok.0, c.len-3.ensures, c.len-4.ensures, c.if-len-2.false) in
    let n_is : n ≡ d + length r.binders.items = omega (arith, r.binders.ok.0, c.len-5.ensures, c.in_ok-under.ensures) in
    let total = records_total ctx d r.binders.items q.binders.items r.positional.items q.positional.items (plain_labels r.labelled.items) (plain_labels q.labelled.items) f n as_many as_many_types n_is in
    let m = matched_bounds ctx d (plain_bounds r.binders.items) cs f in
    let first : g ≡ m = c.in_ok-match_bounds.ensures ∙ ap₂ (λ x y. matched_bounds ctx d (plain_bounds x) (plain_bounds y) f) c.deref.ensures.value c.deref-2.ensures.value in
    let said = subst₂ (λ x y. IsPartly g (matched_types (under ctx (plain_bounds c.deref-3.result.now)) n (plain_types x) (plain_types y) g) h) c.deref-4.ensures.value c.deref-5.ensures.value c.in_err-match_types.ensures in
    let said_there = subst₂ (λ x y. IsPartly y (matched_types (under ctx (plain_bounds x)) n (plain_types r.positional.items) (plain_types q.positional.items) y) h) c.deref-3.ensures.value first said in
    finds_err c.from_residual-in_err-match_types.result c.in_err-match_types.field-0.0 (by_records ctx d r q) f h c.from_residual-in_err-match_types.ensures.1
    (step_stops _ (bounds_grow ctx d (plain_bounds r.binders.items) cs f) (types_grow (under ctx cs) n (plain_types r.positional.items) (plain_types q.positional.items) m) (labels_grow (under ctx cs) n (plain_labels r.labelled.items) (plain_labels q.labelled.items) _) total said_there)

pub match_records-returns : goal.match_records-returns
match_records-returns t c =
    let ctx = scope_context c.args.scope.now in
    let d = c.args.inner in
    let n = c.in_ok-under.under in
    let r = c.args.wanted.now in
    let q = c.args.given.now in
    let f = found_in c.args.found.now in
    let g = found_in c.match_types.new.found in
    let h = found_in c.match_labels.new.found in
    let cs = plain_bounds q.binders.items in
    let as_many : length r.binders.items ≡ length q.binders.items = omega (arith, r.binders.ok.0, q.binders.ok.0, c.len.ensures, c.len-2.ensures, c.if-len.false) in
    let as_many_types : length r.positional.items ≡ length q.positional.items = omega (arith, r.positional.ok.0, q.positional.ok.0, c.len-3.ensures, c.len-4.ensures, c.if-len-2.false) in
    let n_is : n ≡ d + length r.binders.items = omega (arith, r.binders.ok.0, c.len-5.ensures, c.in_ok-under.ensures) in
    let total = records_total ctx d r.binders.items q.binders.items r.positional.items q.positional.items (plain_labels r.labelled.items) (plain_labels q.labelled.items) f n as_many as_many_types n_is in
    let m = matched_bounds ctx d (plain_bounds r.binders.items) cs f in
    let types_in = λ (x : List Bound) (y : Rules.Found). matched_types (under ctx (plain_bounds x)) n (plain_types r.positional.items) (plain_types q.positional.items) y in
    let first : found_in c.match_bounds.new.found ≡ m = c.in_ok-match_bounds.ensures ∙ ap₂ (λ x y. matched_bounds ctx d (plain_bounds x) (plain_bounds y) f) c.deref.ensures.value c.deref-2.ensures.value in
    let second : g ≡ types_in q.binders.items m =
    c.in_ok-match_types.ensures
    ∙ ap₂ (λ x y. matched_types (under ctx (plain_bounds c.deref-3.result.now)) n (plain_types x) (plain_types y) (found_in c.match_bounds.new.found)) c.deref-4.ensures.value c.deref-5.ensures.value
    ∙ ap₂ types_in c.deref-3.ensures.value first in
    let labels_in = matched_labels (under ctx cs) n (plain_labels r.labelled.items) (plain_labels q.labelled.items) in
    let said = subst₂ (λ x y. Finds c.match_labels.result (matched_labels (under ctx (plain_bounds c.deref-3.result.now)) n (plain_labels x) (plain_labels y)) g h) c.deref-6.ensures.value c.deref-7.ensures.value c.match_labels.ensures in
    let said_there = subst (λ x. Finds c.match_labels.result (matched_labels (under ctx (plain_bounds x)) n (plain_labels r.labelled.items) (plain_labels q.labelled.items)) g h) c.deref-3.ensures.value said in
    let before = step_on (bounds_grow ctx d (plain_bounds r.binders.items) cs f) (types_grow (under ctx cs) n (plain_types r.positional.items) (plain_types q.positional.items) m) second in
    finds_last c.match_labels.result labels_in (by_records ctx d r q) f g h before (labels_grow (under ctx cs) n (plain_labels r.labelled.items) (plain_labels q.labelled.items) g) (ap labels_in second ∙ total) said_there
