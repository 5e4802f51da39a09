-- Declarations, and the definitions of a `def`.
use Rattle.std.proofs.Common.{rules, length, sym, ◌∙◌, ap, subst, arith, ◌-◌, Err, Ok}
use Rattle.pict_syntax.specs.declared.tree.Val.{the_lemmas}
use Rattle.pict_syntax.specs.Trees.{Dec, new_dec, let_dec, def_dec, alias_dec, operator_dec, no_decs, no_definitions}
use Rattle.pict_syntax.specs.PlainTrees.{annotation_of, type_of, val_of, abs_of, dec_of, definitions_on, pat_of, proc_of, field_pats_of}
use Rattle.pict_syntax.specs.Grammar.{val_span}
use Rattle.pict_syntax.proofs.DeclarationLists.{decs_none}
use Rattle.pict_types.specs.Plain.{plain}
use Rattle.pict_scope.specs.DistinctLabels.{DecHasDistinctLabels}
use Rattle.pict_rules.specs.Derivations.{Runs, give_}
use Rattle.pict_rules.specs.Environments.{Environment, context_of, extended}
use Rattle.pict_rules.specs.Rules.{nothing_, gives, has, ok, declaration, declarations, environment_, extension_, pattern_against, process, bodies, body}
use Rattle.pict_rules.specs.Typing.{rule}
use Rattle.pict_infer.specs.Answering.{IsAnswer, IsRefused, nothing}
use Rattle.pict_infer.specs.Asking.{IsWellAsked}
use Rattle.pict_infer.specs.Environments.{environment_of}
use Rattle.pict_infer.proofs.Handed.{answer_err}
use Rattle.pict_infer.specs.Adding.{extension_of}
use Rattle.pict_infer.specs.Giving.{typed_pattern}
use Rattle.pict_infer.proofs.MadeKnown.{grew_twice}
use Rattle.pict_lines.proofs.Kept.{answer_in, grew_kept, grown_from, kept_here, kept_twice}
use Rattle.pict_lines.specs.Operators.{type_if}
use Rattle.pict_lines.specs.Declaring.{defined, valued}
use Rattle.pict_lines.proofs.CompleteEnds.{complete_still}
use Rattle.pict_check.proofs.DeclarationEnds.{against_end, against_grew, await_asked, await_end, declaration_asked, declaration_more, declaration_refused, let_against_asked, let_has_asked, let_has_done, let_has_refused, let_pattern_asked, let_pattern_refused, let_value_asked, let_value_refused, placed, run_asked, run_end}
use Rattle.pict_check.proofs.DeclarationForms.{alias_read, await_read, def_read, let_form, let_read, new_read, operator_read, run_read}
use Rattle.pict_lines.proofs.Grown.{as_before_grew, result_grew, still_may}
use Rattle.pict_lines.proofs.AbstractionForms.{function_form, process_form}
use Rattle.pict_check.proofs.DefinitionEnds.{all_past, body_answer, next_body_asked, next_body_refused, definitions_answer, bodies_asked, signatures_refused, never_without, next_body, none_taken, one_past, judged_process_asked, process_judged, taken_next, judged_value_asked, value_judged, within_body}
use Rattle.pict_lines.specs.Definitions.{IsInside}
use Rattle.pict_check.proofs.+values.Goals as goal

-- each form of a declaration
pub declaration-new_channel-requires : goal.declarations::declaration-new_channel-requires
declaration-new_channel-requires t c =
    let e = environment_of c.args.env.now in
    let i = c.in-New in
    let is = new_read c.args.d.now i.field-0 i.id i.t c.deref.result.now i.is c.deref.ensures in
    record {
      right = placed e (new_dec i.field-0 i.id (type_of c.deref.result.now)) (new_dec i.id.span i.id (type_of c.deref.result.now))
          (subst (λ (d : Dec). IsWellAsked environment_ e (declaration d)) is c.requires.right) (λ h. h);
    }

pub declaration-returns-in-New-clause-answer : goal.declarations::declaration-returns-in-New-clause-answer
declaration-returns-in-New-clause-answer t c =
    let i = c.in-New in
    let is = new_read c.args.d.now i.field-0 i.id i.t c.deref.result.now i.is c.deref.ensures in
    subst (λ (d : Dec). IsAnswer (rule (environment_of c.args.env.now) (declaration d)) (λ _. environment_of c.new_channel.new.env) c.new_channel.result) (sym is) c.new_channel.ensures.answer

pub declaration-process-requires : goal.declarations::declaration-process-requires
declaration-process-requires t c =
    let e = environment_of c.args.env.now in
    let i = c.in-Run in
    let is = run_read c.args.d.now i.field-0 i.p c.deref-in-Run.result.now i.is c.deref-in-Run.ensures in
    (search (rules, the_lemmas), run_asked e i.field-0 (proc_of c.deref-in-Run.result.now) (subst (λ (d : Dec). IsWellAsked environment_ e (declaration d)) is c.requires.right))

pub declaration-returns-in-Run-clause-answer : goal.declarations::declaration-returns-in-Run-clause-answer
declaration-returns-in-Run-clause-answer t c =
    let i = c.in-Run in
    let is = run_read c.args.d.now i.field-0 i.p c.deref-in-Run.result.now i.is c.deref-in-Run.ensures in
    subst (λ (d : Dec). IsAnswer (rule (environment_of c.args.env.now) (declaration d)) (λ _. environment_of c.process.new.env) c.process.result) (sym is)
    (run_end c.args.env.now c.process.new.env i.field-0 (proc_of c.deref-in-Run.result.now) c.process.result c.process.ensures.same c.process.ensures.answer)

pub declaration-returns-in-Run-clause-grew : goal.declarations::declaration-returns-in-Run-clause-grew
declaration-returns-in-Run-clause-grew t c = result_grew c.process.result c.args.env.now c.process.new.env c.process.ensures.same

pub declaration-is_complete-requires : goal.declarations::declaration-is_complete-requires
declaration-is_complete-requires t c =
    let i = c.in-Let in
    let is = let_form c.args.d.now i.field-0 i.p i.v i.is in
    record { labels = (subst DecHasDistinctLabels is c.requires.right.labels).0 }

pub declaration-value_of_pattern-requires : goal.declarations::declaration-value_of_pattern-requires
declaration-value_of_pattern-requires t c =
    let e = environment_of c.args.env.now in
    let i = c.in-Let in
    let p = pat_of i.p in
    let v = val_of c.deref-then-complete.result.now in
    let is = let_read c.args.d.now i.field-0 i.p i.v c.deref-then-complete.result.now i.is c.deref-then-complete.ensures in
    let same = c.in_ok-complete-in-Let.ensures.same in
    let asked = placed e (let_dec i.field-0 p v) (valued p v) (subst (λ (d : Dec). IsWellAsked environment_ e (declaration d)) is c.requires.right) (λ h. h) in
    (search (rules, the_lemmas), (subst (λ (z : Environment). IsWellAsked environment_ z (declaration (valued p v))) (sym same.known) asked, complete_still c.args.env.now c.is_complete.new.env p same ∙ sym c.in_ok-complete-in-Let.ensures.complete ∙ c.if-complete.true))

pub declaration-value_against_pattern-requires : goal.declarations::declaration-value_against_pattern-requires
declaration-value_against_pattern-requires t c =
    let e = environment_of c.args.env.now in
    let i = c.in-Let in
    let p = pat_of i.p in
    let v = val_of c.deref-in-Let.result.now in
    let is = let_read c.args.d.now i.field-0 i.p i.v c.deref-in-Let.result.now i.is c.deref-in-Let.ensures in
    let same = c.in_ok-complete-in-Let.ensures.same in
    let asked = placed e (let_dec i.field-0 p v) (valued p v) (subst (λ (d : Dec). IsWellAsked environment_ e (declaration d)) is c.requires.right) (λ h. h) in
    (search (rules, the_lemmas), (subst (λ (z : Environment). IsWellAsked environment_ z (declaration (valued p v))) (sym same.known) asked, complete_still c.args.env.now c.is_complete.new.env p same ∙ sym c.in_ok-complete-in-Let.ensures.complete ∙ c.if-complete.false))

pub declaration-returns-then-complete-clause-answer : goal.declarations::declaration-returns-then-complete-clause-answer
declaration-returns-then-complete-clause-answer t c =
    let i = c.in-Let in
    let v = val_of c.deref-then-complete.result.now in
    let is = let_read c.args.d.now i.field-0 i.p i.v c.deref-then-complete.result.now i.is c.deref-then-complete.ensures in
    let r = c.value_of_pattern.result in
    let new = environment_of c.value_of_pattern.new.env in
    subst (λ (d : Dec). IsAnswer (rule (environment_of c.args.env.now) (declaration d)) (λ _. new) r) (sym is)
    (answer_in (declaration (valued (pat_of i.p) v)) (λ _. new) r (environment_of c.is_complete.new.env) (environment_of c.args.env.now) c.in_ok-complete-in-Let.ensures.same.known c.value_of_pattern.ensures.answer)

pub declaration-returns-else-complete-clause-answer : goal.declarations::declaration-returns-else-complete-clause-answer
declaration-returns-else-complete-clause-answer t c =
    let i = c.in-Let in
    let v = val_of c.deref-in-Let.result.now in
    let is = let_read c.args.d.now i.field-0 i.p i.v c.deref-in-Let.result.now i.is c.deref-in-Let.ensures in
    let r = c.value_against_pattern.result in
    let new = environment_of c.value_against_pattern.new.env in
    subst (λ (d : Dec). IsAnswer (rule (environment_of c.args.env.now) (declaration d)) (λ _. new) r) (sym is)
    (answer_in (declaration (valued (pat_of i.p) v)) (λ _. new) r (environment_of c.is_complete.new.env) (environment_of c.args.env.now) c.in_ok-complete-in-Let.ensures.same.known c.value_against_pattern.ensures.answer)

pub declaration-definitions-requires : goal.declarations::declaration-definitions-requires
declaration-definitions-requires t c =
    let e = environment_of c.args.env.now in
    let i = c.in-Def in
    let ds = definitions_on no_definitions c.deref-in-Def.result.now in
    let is = def_read c.args.d.now i.field-0 i.ds c.deref-in-Def.result.now i.is c.deref-in-Def.ensures.value in
    (search (rules, the_lemmas), placed e (def_dec i.field-0 ds) (defined ds) (subst (λ (d : Dec). IsWellAsked environment_ e (declaration d)) is c.requires.right) (λ h. h))

pub declaration-returns-in-Def-clause-answer : goal.declarations::declaration-returns-in-Def-clause-answer
declaration-returns-in-Def-clause-answer t c =
    let i = c.in-Def in
    let is = def_read c.args.d.now i.field-0 i.ds c.deref-in-Def.result.now i.is c.deref-in-Def.ensures.value in
    subst (λ (d : Dec). IsAnswer (rule (environment_of c.args.env.now) (declaration d)) (λ _. environment_of c.definitions.new.env) c.definitions.result) (sym is) c.definitions.ensures.answer

pub declaration-alias-requires : goal.declarations::declaration-alias-requires
declaration-alias-requires t c =
    let e = environment_of c.args.env.now in
    let i = c.in-Alias in
    let u = type_of c.deref-in-Alias.result.now in
    let is = alias_read c.args.d.now i.field-0 i.id i.t c.deref-in-Alias.result.now i.is c.deref-in-Alias.ensures in
    record { right = placed e (alias_dec i.field-0 i.id u) (alias_dec i.id.span i.id u) (subst (λ (d : Dec). IsWellAsked environment_ e (declaration d)) is c.requires.right) (λ h. h) }

pub declaration-returns-in-Alias-clause-answer : goal.declarations::declaration-returns-in-Alias-clause-answer
declaration-returns-in-Alias-clause-answer t c =
    let i = c.in-Alias in
    let is = alias_read c.args.d.now i.field-0 i.id i.t c.deref-in-Alias.result.now i.is c.deref-in-Alias.ensures in
    subst (λ (d : Dec). IsAnswer (rule (environment_of c.args.env.now) (declaration d)) (λ _. environment_of c.alias.new.env) c.alias.result) (sym is) c.alias.ensures.answer

pub declaration-operator-requires : goal.declarations::declaration-operator-requires
declaration-operator-requires t c =
    let e = environment_of c.args.env.now in
    let i = c.in-Operator in
    let xs = c.deref-in-Operator.result.now in
    let u = type_of c.deref-in-Operator-2.result.now in
    let is = operator_read c.args.d.now i.field-0 i.id i.params i.t xs c.deref-in-Operator-2.result.now i.is c.deref-in-Operator.ensures.value c.deref-in-Operator-2.ensures in
    record { right = placed e (operator_dec i.field-0 i.id xs u) (operator_dec i.id.span i.id xs u) (subst (λ (d : Dec). IsWellAsked environment_ e (declaration d)) is c.requires.right) (λ h. h) }

pub declaration-returns-in-Operator-clause-answer : goal.declarations::declaration-returns-in-Operator-clause-answer
declaration-returns-in-Operator-clause-answer t c =
    let i = c.in-Operator in
    let is = operator_read c.args.d.now i.field-0 i.id i.params i.t c.deref-in-Operator.result.now c.deref-in-Operator-2.result.now i.is c.deref-in-Operator.ensures.value c.deref-in-Operator-2.ensures in
    subst (λ (d : Dec). IsAnswer (rule (environment_of c.args.env.now) (declaration d)) (λ _. environment_of c.operator.new.env) c.operator.result) (sym is) c.operator.ensures.answer

pub declaration-has-requires : goal.declarations::declaration-has-requires
declaration-has-requires t c =
    let e = environment_of c.args.env.now in
    let i = c.in-Await in
    let v = val_of c.deref-in-Await.result.now in
    let is = await_read c.args.d.now i.field-0 i.v c.deref-in-Await.result.now i.is c.deref-in-Await.ensures in
    let asked = await_asked e i.field-0 v (subst (λ (d : Dec). IsWellAsked environment_ e (declaration d)) is c.requires.right) in
    (search (rules, the_lemmas), subst (λ u. IsWellAsked nothing_ e (has v u)) (sym c.in_ok-empty-in-Await.ensures) asked)

pub declaration-returns-in_ok-empty-in-Await-clause-answer : goal.declarations::declaration-returns-in_ok-empty-in-Await-clause-answer
declaration-returns-in_ok-empty-in-Await-clause-answer t c =
    let e = environment_of c.args.env.now in
    let i = c.in-Await in
    let v = val_of c.deref-in-Await.result.now in
    let is = await_read c.args.d.now i.field-0 i.v c.deref-in-Await.result.now i.is c.deref-in-Await.ensures in
    subst (λ (d : Dec). IsAnswer (rule e (declaration d)) (λ _. environment_of c.has.new.env) c.has.result) (sym is)
    (await_end c.args.env.now c.has.new.env i.field-0 v c.has.result c.has.ensures.same (subst (λ u. IsAnswer (rule e (has v u)) nothing c.has.result) c.in_ok-empty-in-Await.ensures c.has.ensures.answer))

pub declaration-returns-in_ok-empty-in-Await-clause-grew : goal.declarations::declaration-returns-in_ok-empty-in-Await-clause-grew
declaration-returns-in_ok-empty-in-Await-clause-grew t c = result_grew c.has.result c.args.env.now c.has.new.env c.has.ensures.same

-- a value that has the type of its pattern
pub value_of_pattern-typed_pattern-requires : goal.declarations::value_of_pattern-typed_pattern-requires
value_of_pattern-typed_pattern-requires t c =
    let v = val_of c.args.v.now in
    record { right = let_pattern_asked (environment_of c.args.env.now) (val_span v) (pat_of c.args.p.now) v c.requires.complete c.requires.right }

pub value_of_pattern-returns-in_err-typed-clause-answer : goal.declarations::value_of_pattern-returns-in_err-typed-clause-answer
value_of_pattern-returns-in_err-typed-clause-answer t c =
    let v = val_of c.args.v.now in
    let h = let_pattern_refused (environment_of c.args.env.now) (val_span v) (pat_of c.args.p.now) v c.in_err-typed.field-0.0 c.requires.complete c.in_err-typed.ensures.answer in
    search (rules, h)

pub value_of_pattern-has-requires : goal.declarations::value_of_pattern-has-requires
value_of_pattern-has-requires t c =
    let v = val_of c.args.v.now in
    let x = c.in_ok-typed.ensures.answer in
    let asked = let_has_asked (environment_of c.args.env.now) (val_span v) (pat_of c.args.p.now) v (typed_pattern c.in_ok-typed.typed) c.requires.complete c.requires.right x.holds in
    (search (rules, the_lemmas), subst (λ (z : Environment). IsWellAsked nothing_ z (has v (plain c.in_ok-typed.typed.has))) (sym x.same.known) asked)

pub value_of_pattern-returns-in-Err-clause-answer : goal.declarations::value_of_pattern-returns-in-Err-clause-answer
value_of_pattern-returns-in-Err-clause-answer t c =
    let v = val_of c.args.v.now in
    let x = c.in_ok-typed.ensures.answer in
    let_has_refused (environment_of c.args.env.now) (val_span v) (pat_of c.args.p.now) v (typed_pattern c.in_ok-typed.typed) c.in-Err.e c.requires.complete x.holds
    (subst (λ (z : Environment). IsRefused (rule z (has v (plain c.in_ok-typed.typed.has))) c.in-Err.e) x.same.known c.in-Err.ensures.answer)

pub value_of_pattern-add-requires : goal.declarations::value_of_pattern-add-requires
value_of_pattern-add-requires t c = record { may = still_may c.typed_pattern.new.env c.has.new.env c.in_ok-typed.typed.adds c.in-Ok.ensures.same c.in_ok-typed.ensures.answer.may }

pub value_of_pattern-returns-in_ok-add-in-Ok-clause-answer : goal.declarations::value_of_pattern-returns-in_ok-add-in-Ok-clause-answer
value_of_pattern-returns-in_ok-add-in-Ok-clause-answer t c =
    let v = val_of c.args.v.now in
    let x = c.in_ok-typed.ensures.answer in
    let held = subst (λ (z : Environment). Runs (rule z (has v (plain c.in_ok-typed.typed.has))) (ok tt)) x.same.known c.in-Ok.ensures.answer in
    let_has_done (environment_of c.args.env.now) (environment_of c.add.new.self) (val_span v) (pat_of c.args.p.now) v (typed_pattern c.in_ok-typed.typed) c.requires.complete x.holds held
    (c.in_ok-add-in-Ok.ensures.known ∙ ap (λ z. extended z (extension_of c.in_ok-typed.typed.adds)) (c.in-Ok.ensures.same.known ∙ x.same.known))

-- a value that its pattern goes against
pub value_against_pattern-gives-requires : goal.declarations::value_against_pattern-gives-requires
value_against_pattern-gives-requires t c =
    let v = val_of c.args.v.now in
    (search (rules, the_lemmas), let_value_asked (environment_of c.args.env.now) (val_span v) (pat_of c.args.p.now) v c.requires.incomplete c.requires.right)

pub value_against_pattern-returns-in_err-t-clause-answer : goal.declarations::value_against_pattern-returns-in_err-t-clause-answer
value_against_pattern-returns-in_err-t-clause-answer t c =
    let v = val_of c.args.v.now in
    let h = let_value_refused (environment_of c.args.env.now) (val_span v) (pat_of c.args.p.now) v c.in_err-t.field-0.0 c.requires.incomplete c.in_err-t.ensures.answer in
    search (rules, h)

pub value_against_pattern-pattern_against-requires : goal.declarations::value_against_pattern-pattern_against-requires
value_against_pattern-pattern_against-requires t c =
    let v = val_of c.args.v.now in
    let p = pat_of c.args.p.now in
    let u = plain c.in_ok-t.t in
    record {
      right = subst (λ (z : Environment). IsWellAsked extension_ z (pattern_against p u)) (sym c.in_ok-t.ensures.same.known)
          (let_against_asked (environment_of c.args.env.now) (val_span v) p v u c.requires.incomplete c.requires.right c.in_ok-t.ensures.answer);
    }

pub value_against_pattern-returns-clause-answer : goal.declarations::value_against_pattern-returns-clause-answer
value_against_pattern-returns-clause-answer t c =
    let v = val_of c.args.v.now in
    against_end c.args.env.now c.gives.new.env c.pattern_against.new.env (val_span v) (pat_of c.args.p.now) v (plain c.in_ok-t.t) c.pattern_against.result c.requires.incomplete c.in_ok-t.ensures.answer c.in_ok-t.ensures.same c.pattern_against.ensures.answer

pub value_against_pattern-returns-clause-grew : goal.declarations::value_against_pattern-returns-clause-grew
value_against_pattern-returns-clause-grew t c =
    against_grew c.args.env.now c.gives.new.env c.pattern_against.new.env (pattern_against (pat_of c.args.p.now) (plain c.in_ok-t.t)) c.pattern_against.result c.in_ok-t.ensures.same c.pattern_against.ensures.answer

-- declarations in order
pub declarations-loop-d-init : goal.declarations::declarations-loop-d-init
declarations-loop-d-init t c =
    let e = environment_of c.args.env.now in
    record {
      so_far = subst (λ z. Runs (rule e (declarations z)) (ok e)) (sym (decs_none no_decs)) give_;
      grew = as_before_grew c.args.env.now c.args.env.now (kept_here c.args.env.now);
    }

pub declarations-declaration-requires : goal.declarations::declarations-declaration-requires
declarations-declaration-requires t c =
    let e = environment_of c.args.env.now in
    let d = environment_of c.loop-d.env in
    let x = c.d-item.result in
    (search (rules, the_lemmas), subst (λ z. IsWellAsked environment_ d (declaration (dec_of z))) (sym c.d-item.is) (declaration_asked e d c.args.ds.now c.loop-d.d-index x c.loop-d-test.true c.requires.right c.loop-d.invariant.so_far))

pub declarations-returns-in_err-declaration-clause-answer : goal.declarations::declarations-returns-in_err-declaration-clause-answer
declarations-returns-in_err-declaration-clause-answer t c =
    let e = environment_of c.args.env.now in
    let d = environment_of c.loop-d.env in
    let x = c.d-item.result in
    let y = c.in_err-declaration.field-0.0 in
    let no = subst (λ z. IsRefused (rule d (declaration (dec_of z))) y) c.d-item.is c.in_err-declaration.ensures.answer in
    let h = declaration_refused e d c.args.ds.now c.loop-d.d-index x y c.loop-d-test.true c.loop-d.invariant.so_far no in
    search (rules, h)

pub declarations-loop-d-preserved : goal.declarations::declarations-loop-d-preserved
declarations-loop-d-preserved t c =
    let e = environment_of c.args.env.now in
    let d = environment_of c.loop-d.env in
    let f = environment_of c.declaration.new.env in
    let x = c.d-item.result in
    record {
      so_far = declaration_more e d f c.args.ds.now c.loop-d.d-index x c.loop-d-test.true c.loop-d.invariant.so_far
          (subst (λ z. Runs (rule d (declaration (dec_of z))) (ok f)) c.d-item.is c.in_ok-declaration.ensures.answer);
      grew = grew_twice c.args.env.now c.loop-d.env c.declaration.new.env c.loop-d.invariant.grew c.in_ok-declaration.ensures.grew;
    }

-- the signatures, and then the bodies
pub definitions-returns-in_err-insides-clause-answer : goal.definitions::definitions-returns-in_err-insides-clause-answer
definitions-returns-in_err-insides-clause-answer t c =
    let e = environment_of c.args.env.now in
    let ds = definitions_on no_definitions c.args.ds.now in
    let err = c.in_err-insides.field-0.0 in
    answer_err (rule e (declaration (defined ds))) (λ _. environment_of c.signed.new.env) c.from_residual.result err c.from_residual.ensures.1 (signatures_refused e ds err c.in_err-insides.ensures)

pub definitions-bodies-requires : goal.definitions::definitions-bodies-requires
definitions-bodies-requires t c = (search (rules, the_lemmas), bodies_asked c.args.env.now c.signed.new.env c.args.ds.now c.in_ok-insides.insides.items c.requires.right c.in_ok-insides.ensures)

pub definitions-returns-clause-answer : goal.definitions::definitions-returns-clause-answer
definitions-returns-clause-answer t c =
    definitions_answer c.args.env.now c.signed.new.env c.bodies.new.env c.args.ds.now c.in_ok-insides.insides.items c.bodies.result c.in_ok-insides.ensures c.bodies.ensures.answer c.bodies.ensures.same

-- the next body, and all
pub bodies-unreachable-requires : goal.definitions::bodies-unreachable-requires
bodies-unreachable-requires t c =
    none_taken (length (context_of (environment_of c.args.env.now))) c.args.ds.now c.args.insides.items c.requires.right.given c.loop-d.rest.items c.loop-d.d-index c.requires.right.inside c.loop-d-test.true (omega (arith, c.in_default.ensures.cases.0, c.loop-d.rest.ok.0)) c.loop-d.invariant.left

pub bodies-body-requires : goal.definitions::bodies-body-requires
bodies-body-requires t c =
    let taken = taken_next c.args.insides.items c.loop-d.rest.items c.pop.new.self.items c.loop-d.d-index c.in-Some.inside c.pop.result c.pop.ensures.items c.in-Some.is c.loop-d.invariant.left in
    (search (rules, the_lemmas), next_body_asked (environment_of c.args.env.now) (environment_of c.loop-d.env) c.args.ds.now c.args.insides.items c.loop-d.d-index c.d-item.result c.in-Some.inside c.loop-d.invariant.same.known c.loop-d-test.true c.d-item.is taken.item c.requires.right)

pub bodies-returns-in_err-body-clause-answer : goal.definitions::bodies-returns-in_err-body-clause-answer
bodies-returns-in_err-body-clause-answer t c = λ ss h.
    let e = environment_of c.args.env.now in
    let d = environment_of c.loop-d.env in
    let a = abs_of c.d-item.result.abs in
    let err = c.in_err-body.field-0.0 in
    let taken = taken_next c.args.insides.items c.loop-d.rest.items c.pop.new.self.items c.loop-d.d-index c.in-Some.inside c.pop.result c.pop.ensures.items c.in-Some.is c.loop-d.invariant.left in
    let next = next_body (length (context_of e)) c.args.ds.now c.args.insides.items ss c.loop-d.d-index c.d-item.result c.in-Some.inside h c.loop-d-test.true c.d-item.is taken.item in
    let here = subst (λ z. IsInside (length (context_of z)) a c.in-Some.inside next.given) (sym c.loop-d.invariant.same.known) next.inside in
    answer_err (rule e (bodies ss)) nothing c.from_residual.result err c.from_residual.ensures.1
    (next_body_refused e d (length (context_of e)) c.loop-d.d-index a c.in-Some.inside ss err next c.loop-d.invariant.same.known (c.loop-d.invariant.past ss h) (c.in_err-body.ensures.answer next.given here))

pub bodies-loop-d-preserved : goal.definitions::bodies-loop-d-preserved
bodies-loop-d-preserved t c =
    let e = environment_of c.args.env.now in
    let d = environment_of c.loop-d.env in
    let a = abs_of c.d-item.result.abs in
    let taken = taken_next c.args.insides.items c.loop-d.rest.items c.pop.new.self.items c.loop-d.d-index c.in-Some.inside c.pop.result c.pop.ensures.items c.in-Some.is c.loop-d.invariant.left in
    record {
      left = taken.left;
      past = λ ss h.
          let next = next_body (length (context_of e)) c.args.ds.now c.args.insides.items ss c.loop-d.d-index c.d-item.result c.in-Some.inside h c.loop-d-test.true c.d-item.is taken.item in
          let here = subst (λ z. IsInside (length (context_of z)) a c.in-Some.inside next.given) (sym c.loop-d.invariant.same.known) next.inside in
          one_past e d (length (context_of e)) c.loop-d.d-index a c.in-Some.inside ss next c.loop-d.invariant.same.known (c.loop-d.invariant.past ss h) (c.in_ok-body.ensures.answer next.given here);
      same = kept_twice c.args.env.now c.loop-d.env c.body.new.env c.loop-d.invariant.same c.in_ok-body.ensures.same;
    }

pub bodies-returns-clause-answer : goal.definitions::bodies-returns-clause-answer
bodies-returns-clause-answer t c = λ ss h.
    let e = environment_of c.args.env.now in
    all_past e (length (context_of e)) c.args.ds.now c.args.insides.items ss c.loop-d.d-index h c.loop-d-test.false (c.loop-d.invariant.past ss h)

-- what is known inside a body is known, and then cut back
pub body-judged_body-requires : goal.definitions::body-judged_body-requires
body-judged_body-requires t c =
    (search (rules, the_lemmas), within_body (environment_of c.args.env.now) (environment_of c.add.new.self) (abs_of c.args.abs.now) c.args.inside c.in_ok-add.ensures.known c.requires.right)

pub body-returns-in_err-judged_body-clause-answer : goal.definitions::body-returns-in_err-judged_body-clause-answer
body-returns-in_err-judged_body-clause-answer t c = λ s h.
    let e = environment_of c.args.env.now in
    let err = c.in_err-judged_body.field-0.0 in
    answer_err (rule (extended e s.adds) (body s.body)) nothing c.from_residual-in_err-judged_body.result err c.from_residual-in_err-judged_body.ensures.1
    (body_answer e (environment_of c.add.new.self) (length (context_of e)) (abs_of c.args.abs.now) c.args.inside s (Err err) c.in_ok-add.ensures.known h (c.in_err-judged_body.ensures.answer s.body h.body_))

pub body-cut-requires : goal.definitions::body-cut-requires
body-cut-requires t c = record {
  grown = grown_from c.place-outer.result c.args.env.now c.judged_body.new.env c.place-outer.ensures (grew_kept c.args.env.now c.add.new.self c.judged_body.new.env c.in_ok-add.ensures.grew c.in_ok-judged_body.ensures.same);
}

pub body-returns-clause-answer : goal.definitions::body-returns-clause-answer
body-returns-clause-answer t c = λ s h.
    let e = environment_of c.args.env.now in
    body_answer e (environment_of c.add.new.self) (length (context_of e)) (abs_of c.args.abs.now) c.args.inside s (Ok (tt {0})) c.in_ok-add.ensures.known h (c.in_ok-judged_body.ensures.answer s.body h.body_)

-- a process, or a value with the type of the answer
pub judged_body-process-requires : goal.definitions::judged_body-process-requires
judged_body-process-requires t c =
    let i = c.in-Process in
    let e = environment_of c.args.env.now in (
      search (rules, the_lemmas),
      subst (λ q. IsWellAsked nothing_ e (process (proc_of q))) (sym c.deref.ensures)
          (judged_process_asked e (abs_of c.args.abs.now) i.field-0 (pat_of i.field-1) (proc_of i.q.value) (type_if c.args.answer.now) (process_form c.args.abs.now i.field-0 i.field-1 i.q i.is) c.requires.right),
    )

pub judged_body-returns-in-Process-clause-answer : goal.definitions::judged_body-returns-in-Process-clause-answer
judged_body-returns-in-Process-clause-answer t c = λ b h.
    let i = c.in-Process in
    let e = environment_of c.args.env.now in
    process_judged e (abs_of c.args.abs.now) i.field-0 (pat_of i.field-1) (proc_of i.q.value) (type_if c.args.answer.now) b c.process.result (process_form c.args.abs.now i.field-0 i.field-1 i.q i.is) h
    (subst (λ q. IsAnswer (rule e (process (proc_of q))) nothing c.process.result) c.deref.ensures c.process.ensures.answer)

pub judged_body-has-requires : goal.definitions::judged_body-has-requires
judged_body-has-requires t c =
    let i = c.in-Function in
    let e = environment_of c.args.env.now in (
      search (rules, the_lemmas),
      subst (λ v. IsWellAsked nothing_ e (has (val_of v) (plain c.in-Some.t))) (sym c.deref-in-Some.ensures)
          (judged_value_asked e (abs_of c.args.abs.now) i.field-0 (field_pats_of i.field-1.value) (annotation_of i.field-2) (val_of i.v.value) (plain c.in-Some.t) (type_if c.args.answer.now)
          (function_form c.args.abs.now i.field-0 i.field-1 i.field-2 i.v i.is) (ap type_if c.in-Some.is) c.requires.right),
    )

pub judged_body-returns-in-Some-clause-answer : goal.definitions::judged_body-returns-in-Some-clause-answer
judged_body-returns-in-Some-clause-answer t c = λ b h.
    let i = c.in-Function in
    let e = environment_of c.args.env.now in
    value_judged e (abs_of c.args.abs.now) i.field-0 (field_pats_of i.field-1.value) (annotation_of i.field-2) (val_of i.v.value) (plain c.in-Some.t) (type_if c.args.answer.now) b c.has.result
    (function_form c.args.abs.now i.field-0 i.field-1 i.field-2 i.v i.is) (ap type_if c.in-Some.is) h
    (subst (λ v. IsAnswer (rule e (has (val_of v) (plain c.in-Some.t))) nothing c.has.result) c.deref-in-Some.ensures c.has.ensures.answer)

pub judged_body-unreachable-requires : goal.definitions::judged_body-unreachable-requires
judged_body-unreachable-requires t c =
    let i = c.in-Function in
    never_without (environment_of c.args.env.now) (abs_of c.args.abs.now) i.field-0 (field_pats_of i.field-1.value) (annotation_of i.field-2) (val_of i.v.value) (type_if c.args.answer.now)
    (function_form c.args.abs.now i.field-0 i.field-1 i.field-2 i.v i.is) (ap type_if c.in-None.is) c.requires.right
