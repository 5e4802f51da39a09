-- Abstractions, and what they go against.
use Rattle.std.proofs.Common.{rules, ◌≡◌, length, refl, sym, ◌∙◌, ap, subst, arith, None, Some, List, ◌-◌, ap₂, take, ℕ}
use Rattle.pict_syntax.specs.declared.tree.Val.{the_lemmas}
use Rattle.pict_syntax.specs.Trees.{function_abs}
use Rattle.pict_syntax.specs.PlainTrees.{annotation_of, type_of, val_of, abs_of, pat_of, proc_of, field_pats_of}
use Rattle.pict_syntax.specs.Grammar.{val_span}
use Rattle.pict_types.specs.Plain.{plain, plain_record}
use Rattle.pict_types.specs.declared.types.Ty.{Ty}
use Rattle.pict_rules.specs.Derivations.{Runs}
use Rattle.pict_rules.specs.Environments.{shifted_by, opened}
use Rattle.pict_rules.specs.Rules.{nothing_, type_, gives, has, ok, pattern_against, process, abstraction_against, abstraction_gives, opened_}
use Rattle.pict_rules.specs.Typing.{rule}
use Rattle.pict_infer.specs.Answering.{IsAnswer, IsRefused, nothing}
use Rattle.pict_infer.specs.Asking.{IsWellAsked}
use Rattle.pict_infer.specs.Environments.{environment_of}
use Rattle.pict_infer.proofs.Handed.{answer_err}
use Rattle.pict_infer.specs.Adding.{extension_of}
use Rattle.pict_infer.proofs.MadeKnown.{grew_twice}
use Rattle.pict_infer.proofs.Forms.{not_annotated}
use Rattle.pict_lines.specs.Functions.{IsNoFunction}
use Rattle.pict_lines.proofs.Ends.{on_any}
use Rattle.pict_lines.proofs.Kept.{grew_kept, grown_from}
use Rattle.pict_check.proofs.AbstractionEnds.{against_body_asked, against_body_refused, against_pattern_asked, against_pattern_refused, against_process_asked, against_process_refused, result_formed, body_type_refused, exposure_is, fields_known, fields_of_record, function_against, no_answer, no_record_refused, outside_given_at, outside_refused_at, own_fields_refused, pattern_asked, pattern_refused, process_against, process_body_asked, process_body_refused, process_gives, against_record_answer, record_answering, against_record_asked, taken_asked, taken_refused, typed_body_asked, typed_body_refused, typed_end, typed_result_refused, untyped_body_asked, untyped_body_refused, untyped_end, untyped_refused}
use Rattle.pict_lines.proofs.AbstractionForms.{annotation_read, function_form, function_read, process_form}
use Rattle.pict_lines.proofs.SignatureEnds.{argument_answer}
use Rattle.pict_lines.specs.Definitions.{function_with, record_answers}
use Rattle.pict_check.proofs.+values.Goals as goal

-- a process abstraction gives
pub abstraction_gives-pattern_gives-requires : goal.abstractions::abstraction_gives-pattern_gives-requires
abstraction_gives-pattern_gives-requires t c =
    let i = c.in-Process in
    let e = environment_of c.args.env.now in
    record {
      right = pattern_asked e i.field-0 (pat_of i.p) (proc_of i.q.value) (subst (λ a. IsWellAsked type_ e (abstraction_gives a)) (process_form c.args.abs.now i.field-0 i.p i.q i.is) c.requires.right);
    }

pub abstraction_gives-returns-in_err-given-in-Process-clause-answer : goal.abstractions::abstraction_gives-returns-in_err-given-in-Process-clause-answer
abstraction_gives-returns-in_err-given-in-Process-clause-answer t c =
    let i = c.in-Process in
    let e = environment_of c.args.env.now in
    let err = c.in_err-given-in-Process.field-0.0 in
    answer_err (rule e (abstraction_gives (abs_of c.args.abs.now))) plain c.from_residual.result err c.from_residual.ensures.1
    (subst (λ a. IsRefused (rule e (abstraction_gives a)) err) (sym (process_form c.args.abs.now i.field-0 i.p i.q i.is))
    (pattern_refused e i.field-0 (pat_of i.p) (proc_of i.q.value) err c.in_err-given-in-Process.ensures.answer))

pub abstraction_gives-process-requires : goal.abstractions::abstraction_gives-process-requires
abstraction_gives-process-requires t c =
    let i = c.in-Process in
    let e = environment_of c.args.env.now in
    let d = environment_of c.pattern_gives.new.env in
    let w = c.in_ok-given-in-Process.ensures.answer in (
      search (rules, the_lemmas),
      subst (λ q. IsWellAsked nothing_ d (process (proc_of q))) (sym c.deref.ensures)
          (process_body_asked e d i.field-0 (pat_of i.p) (proc_of i.q.value) (record { has = plain c.in_ok-given-in-Process.given; adds = w.adds }) w.known
          (subst (λ a. IsWellAsked type_ e (abstraction_gives a)) (process_form c.args.abs.now i.field-0 i.p i.q i.is) c.requires.right) w.holds),
    )

pub abstraction_gives-returns-in_err-process-in-Process-clause-answer : goal.abstractions::abstraction_gives-returns-in_err-process-in-Process-clause-answer
abstraction_gives-returns-in_err-process-in-Process-clause-answer t c =
    let i = c.in-Process in
    let e = environment_of c.args.env.now in
    let d = environment_of c.pattern_gives.new.env in
    let w = c.in_ok-given-in-Process.ensures.answer in
    let err = c.in_err-process-in-Process.field-0.0 in
    answer_err (rule e (abstraction_gives (abs_of c.args.abs.now))) plain c.from_residual-in_err-process-in-Process.result err c.from_residual-in_err-process-in-Process.ensures.1
    (subst (λ a. IsRefused (rule e (abstraction_gives a)) err) (sym (process_form c.args.abs.now i.field-0 i.p i.q i.is))
    (process_body_refused e d i.field-0 (pat_of i.p) (proc_of i.q.value) (record { has = plain c.in_ok-given-in-Process.given; adds = w.adds }) err w.known w.holds
    (subst (λ q. IsRefused (rule d (process (proc_of q))) err) c.deref.ensures c.in_err-process-in-Process.ensures.answer)))

pub abstraction_gives-cut-requires : goal.abstractions::abstraction_gives-cut-requires
abstraction_gives-cut-requires t c =
    let w = c.in_ok-given-in-Process.ensures.answer in
    record {
      grown = grown_from c.place-outer.result c.args.env.now c.process.new.env c.place-outer.ensures (grew_kept c.args.env.now c.pattern_gives.new.env c.process.new.env w.grew c.in_ok-process-in-Process.ensures.same);
    }

pub abstraction_gives-returns-in_ok-process-in-Process-clause-answer : goal.abstractions::abstraction_gives-returns-in_ok-process-in-Process-clause-answer
abstraction_gives-returns-in_ok-process-in-Process-clause-answer t c =
    let i = c.in-Process in
    let e = environment_of c.args.env.now in
    let d = environment_of c.pattern_gives.new.env in
    let w = c.in_ok-given-in-Process.ensures.answer in
    subst (λ a. Runs (rule e (abstraction_gives a)) (ok (plain c.in_ok-given-in-Process.given))) (sym (process_form c.args.abs.now i.field-0 i.p i.q i.is))
    (process_gives e d i.field-0 (pat_of i.p) (proc_of i.q.value) (record { has = plain c.in_ok-given-in-Process.given; adds = w.adds }) w.known w.holds
    (subst (λ q. Runs (rule d (process (proc_of q))) (ok tt)) c.deref.ensures c.in_ok-process-in-Process.ensures.answer))

-- a function gives

pub abstraction_gives-untyped_gives-requires : goal.abstractions::abstraction_gives-untyped_gives-requires
abstraction_gives-untyped_gives-requires t c =
    let i = c.in-Function in
    let e = environment_of c.args.env.now in
    let is = function_read c.args.abs.now i.span i.fields i.annotation i.v c.deref-in-None-2.result.now None c.deref-in-None.result.now i.is (not_annotated i.annotation c.in-None.is) c.deref-in-None-2.ensures c.deref-in-None.ensures in
    (search (rules, the_lemmas), subst (λ a. IsWellAsked type_ e (abstraction_gives a)) is c.requires.right)

pub abstraction_gives-returns-in-None-clause-answer : goal.abstractions::abstraction_gives-returns-in-None-clause-answer
abstraction_gives-returns-in-None-clause-answer t c =
    let i = c.in-Function in
    let e = environment_of c.args.env.now in
    let is = function_read c.args.abs.now i.span i.fields i.annotation i.v c.deref-in-None-2.result.now None c.deref-in-None.result.now i.is (not_annotated i.annotation c.in-None.is) c.deref-in-None-2.ensures c.deref-in-None.ensures in
    subst (λ a. IsAnswer (rule e (abstraction_gives a)) plain c.untyped_gives.result) (sym is) c.untyped_gives.ensures.answer

pub abstraction_gives-typed_gives-requires : goal.abstractions::abstraction_gives-typed_gives-requires
abstraction_gives-typed_gives-requires t c =
    let i = c.in-Function in
    let e = environment_of c.args.env.now in
    let is = function_read c.args.abs.now i.span i.fields i.annotation i.v c.deref-in-Some-2.result.now (Some (type_of c.deref-in-Some-3.result.now)) c.deref-in-Some.result.now i.is (annotation_read i.annotation c.in-Some.a c.deref-in-Some-3.result.now c.in-Some.is c.deref-in-Some-3.ensures) c.deref-in-Some-2.ensures c.deref-in-Some.ensures in
    (search (rules, the_lemmas), subst (λ a. IsWellAsked type_ e (abstraction_gives a)) is c.requires.right)

pub abstraction_gives-returns-in-Some-clause-answer : goal.abstractions::abstraction_gives-returns-in-Some-clause-answer
abstraction_gives-returns-in-Some-clause-answer t c =
    let i = c.in-Function in
    let e = environment_of c.args.env.now in
    let is = function_read c.args.abs.now i.span i.fields i.annotation i.v c.deref-in-Some-2.result.now (Some (type_of c.deref-in-Some-3.result.now)) c.deref-in-Some.result.now i.is (annotation_read i.annotation c.in-Some.a c.deref-in-Some-3.result.now c.in-Some.is c.deref-in-Some-3.ensures) c.deref-in-Some-2.ensures c.deref-in-Some.ensures in
    subst (λ a. IsAnswer (rule e (abstraction_gives a)) plain c.typed_gives.result) (sym is) c.typed_gives.ensures.answer

-- a function without a result type

pub untyped_gives-returns-in_err-own-clause-answer : goal.abstractions::untyped_gives-returns-in_err-own-clause-answer
untyped_gives-returns-in_err-own-clause-answer t c =
    let e = environment_of c.args.env.now in
    let s = c.args.span in
    let f = field_pats_of c.args.fields.now in
    let v = val_of c.args.v.now in
    let err = c.in_err-own.field-0.0 in
    answer_err (rule e (abstraction_gives (function_abs s f None v))) plain c.from_residual.result err c.from_residual.ensures.1 (own_fields_refused e s f None v err c.in_err-own.ensures.answer)

pub untyped_gives-gives-requires : goal.abstractions::untyped_gives-gives-requires
untyped_gives-gives-requires t c =
    let e = environment_of c.args.env.now in
    let s = c.args.span in
    let f = field_pats_of c.args.fields.now in
    let v = val_of c.args.v.now in
    let w = c.in_ok-own.ensures.answer in
    let d = environment_of c.add.new.self in
    let known = fields_known e (environment_of c.open_fields.new.env) d w.fields.own w.fields.adds (extension_of c.in_ok-own.own.adds) w.under.known w.adds c.in_ok-add.ensures.known in
    (search (rules, the_lemmas), untyped_body_asked e d s f v w.fields known c.requires.right w.holds)

pub untyped_gives-returns-in_err-given-clause-answer : goal.abstractions::untyped_gives-returns-in_err-given-clause-answer
untyped_gives-returns-in_err-given-clause-answer t c =
    let e = environment_of c.args.env.now in
    let s = c.args.span in
    let f = field_pats_of c.args.fields.now in
    let v = val_of c.args.v.now in
    let w = c.in_ok-own.ensures.answer in
    let d = environment_of c.add.new.self in
    let known = fields_known e (environment_of c.open_fields.new.env) d w.fields.own w.fields.adds (extension_of c.in_ok-own.own.adds) w.under.known w.adds c.in_ok-add.ensures.known in
    let err = c.in_err-given.field-0.0 in
    answer_err (rule e (abstraction_gives (function_abs s f None v))) plain c.from_residual-in_err-given.result err c.from_residual-in_err-given.ensures.1
    (untyped_body_refused e d s f v w.fields err known w.holds c.in_err-given.ensures.answer)

pub untyped_gives-returns-in_err-answer-clause-answer : goal.abstractions::untyped_gives-returns-in_err-answer-clause-answer
untyped_gives-returns-in_err-answer-clause-answer t c =
    let e = environment_of c.args.env.now in
    let s = c.args.span in
    let f = field_pats_of c.args.fields.now in
    let v = val_of c.args.v.now in
    let w = c.in_ok-own.ensures.answer in
    let d = environment_of c.add.new.self in
    let known = fields_known e (environment_of c.open_fields.new.env) d w.fields.own w.fields.adds (extension_of c.in_ok-own.own.adds) w.under.known w.adds c.in_ok-add.ensures.known in
    let err = c.in_err-answer.field-0.0 in
    answer_err (rule e (abstraction_gives (function_abs s f None v))) plain c.from_residual-in_err-answer.result err c.from_residual-in_err-answer.ensures.1
    (untyped_refused e d s f v w.fields (plain c.in_ok-given.given) err known w.holds c.in_ok-given.ensures.answer
    (outside_refused_at c.in_ok-inner.inner (opened w.fields.adds) (plain c.in_ok-given.given) c.val_span.result (val_span v) err (c.in_ok-inner.ensures ∙ ap opened w.adds) c.val_span.ensures c.in_err-answer.ensures))

pub untyped_gives-cut-requires : goal.abstractions::untyped_gives-cut-requires
untyped_gives-cut-requires t c =
    let w = c.in_ok-own.ensures.answer in
    let grew = grew_kept c.args.env.now c.add.new.self c.gives.new.env (grew_twice c.args.env.now c.open_fields.new.env c.add.new.self w.grew c.in_ok-add.ensures.grew) c.in_ok-given.ensures.same in
    record { grown = grown_from c.place-outer.result c.args.env.now c.gives.new.env c.place-outer.ensures grew }

pub untyped_gives-returns-clause-answer : goal.abstractions::untyped_gives-returns-clause-answer
untyped_gives-returns-clause-answer t c =
    let e = environment_of c.args.env.now in
    let s = c.args.span in
    let f = field_pats_of c.args.fields.now in
    let v = val_of c.args.v.now in
    let w = c.in_ok-own.ensures.answer in
    let grew = grew_kept c.args.env.now c.add.new.self c.gives.new.env (grew_twice c.args.env.now c.open_fields.new.env c.add.new.self w.grew c.in_ok-add.ensures.grew) c.in_ok-given.ensures.same in
    let d = environment_of c.add.new.self in
    let known = fields_known e (environment_of c.open_fields.new.env) d w.fields.own w.fields.adds (extension_of c.in_ok-own.own.adds) w.under.known w.adds c.in_ok-add.ensures.known in
    untyped_end plain e d s f v w.fields (plain c.in_ok-given.given) (plain c.in_ok-answer.answer) c.argument.result known w.holds c.in_ok-given.ensures.answer
    (outside_given_at c.in_ok-inner.inner (opened w.fields.adds) (plain c.in_ok-given.given) (plain c.in_ok-answer.answer) c.val_span.result (val_span v) (c.in_ok-inner.ensures ∙ ap opened w.adds) c.val_span.ensures c.in_ok-answer.ensures)
    (argument_answer plain e (environment_of c.cut.new.self) c.in_ok-own.own.has w.fields (plain c.in_ok-answer.answer) s c.argument.result (c.cut.ensures c.args.env.now c.place-outer.ensures grew).known w.record_ c.argument.ensures)

pub untyped_gives-returns-clause-same : goal.abstractions::untyped_gives-returns-clause-same
untyped_gives-returns-clause-same t c =
    let w = c.in_ok-own.ensures.answer in
    let grew = grew_kept c.args.env.now c.add.new.self c.gives.new.env (grew_twice c.args.env.now c.open_fields.new.env c.add.new.self w.grew c.in_ok-add.ensures.grew) c.in_ok-given.ensures.same in
    on_any c.argument.result (c.cut.ensures c.args.env.now c.place-outer.ensures grew)

-- a function with one

pub typed_gives-returns-in_err-own-clause-answer : goal.abstractions::typed_gives-returns-in_err-own-clause-answer
typed_gives-returns-in_err-own-clause-answer t c =
    let e = environment_of c.args.env.now in
    let s = c.args.span in
    let f = field_pats_of c.args.fields.now in
    let a = type_of c.args.a.now in
    let v = val_of c.args.v.now in
    let err = c.in_err-own.field-0.0 in
    answer_err (rule e (abstraction_gives (function_abs s f (Some a) v))) plain c.from_residual.result err c.from_residual.ensures.1 (own_fields_refused e s f (Some a) v err c.in_err-own.ensures.answer)

pub typed_gives-returns-in_err-answer-clause-answer : goal.abstractions::typed_gives-returns-in_err-answer-clause-answer
typed_gives-returns-in_err-answer-clause-answer t c =
    let e = environment_of c.args.env.now in
    let s = c.args.span in
    let f = field_pats_of c.args.fields.now in
    let a = type_of c.args.a.now in
    let v = val_of c.args.v.now in
    let w = c.in_ok-own.ensures.answer in
    let err = c.in_err-answer.field-0.0 in
    answer_err (rule e (abstraction_gives (function_abs s f (Some a) v))) plain c.from_residual-in_err-answer.result err c.from_residual-in_err-answer.ensures.1
    (typed_result_refused e (environment_of c.open_fields.new.env) s f a v w.fields err w.under.known w.holds c.in_err-answer.ensures.answer)

pub typed_gives-has-requires : goal.abstractions::typed_gives-has-requires
typed_gives-has-requires t c =
    let e = environment_of c.args.env.now in
    let s = c.args.span in
    let f = field_pats_of c.args.fields.now in
    let a = type_of c.args.a.now in
    let v = val_of c.args.v.now in
    let w = c.in_ok-own.ensures.answer in
    let d = environment_of c.add.new.self in
    let known = fields_known e (environment_of c.open_fields.new.env) d w.fields.own w.fields.adds (extension_of c.in_ok-own.own.adds) w.under.known w.adds c.in_ok-add.ensures.known in
    let past : plain c.changed_or_same.result.now ≡ shifted_by (opened w.fields.adds) (plain c.in_ok-answer.answer) = c.changed_or_same.ensures ∙ c.in_ok-wanted.ensures ∙ ap (λ x. shifted_by (opened x) (plain c.in_ok-answer.answer)) w.adds in (
      search (rules, the_lemmas),
      subst (λ z. IsWellAsked nothing_ d (has v z)) (sym past)
          (typed_body_asked e (environment_of c.open_fields.new.env) d s f a v w.fields (plain c.in_ok-answer.answer) w.under.known known c.requires.right w.holds c.in_ok-answer.ensures.answer),
    )

pub typed_gives-returns-in_err-has-clause-answer : goal.abstractions::typed_gives-returns-in_err-has-clause-answer
typed_gives-returns-in_err-has-clause-answer t c =
    let e = environment_of c.args.env.now in
    let s = c.args.span in
    let f = field_pats_of c.args.fields.now in
    let a = type_of c.args.a.now in
    let v = val_of c.args.v.now in
    let w = c.in_ok-own.ensures.answer in
    let d = environment_of c.add.new.self in
    let known = fields_known e (environment_of c.open_fields.new.env) d w.fields.own w.fields.adds (extension_of c.in_ok-own.own.adds) w.under.known w.adds c.in_ok-add.ensures.known in
    let past : plain c.changed_or_same.result.now ≡ shifted_by (opened w.fields.adds) (plain c.in_ok-answer.answer) = c.changed_or_same.ensures ∙ c.in_ok-wanted.ensures ∙ ap (λ x. shifted_by (opened x) (plain c.in_ok-answer.answer)) w.adds in
    let err = c.in_err-has.field-0.0 in
    answer_err (rule e (abstraction_gives (function_abs s f (Some a) v))) plain c.from_residual-in_err-has.result err c.from_residual-in_err-has.ensures.1
    (typed_body_refused e (environment_of c.open_fields.new.env) d s f a v w.fields (plain c.in_ok-answer.answer) err w.under.known known w.holds c.in_ok-answer.ensures.answer
    (subst (λ z. IsRefused (rule d (has v z)) err) past c.in_err-has.ensures.answer))

pub typed_gives-cut-requires : goal.abstractions::typed_gives-cut-requires
typed_gives-cut-requires t c =
    let w = c.in_ok-own.ensures.answer in
    let grew = grew_kept c.args.env.now c.add.new.self c.has.new.env (grew_twice c.args.env.now c.open_fields.new.env c.add.new.self w.grew c.in_ok-add.ensures.grew) c.in_ok-has.ensures.same in
    record { grown = grown_from c.place-outer.result c.args.env.now c.has.new.env c.place-outer.ensures grew }

pub typed_gives-returns-clause-answer : goal.abstractions::typed_gives-returns-clause-answer
typed_gives-returns-clause-answer t c =
    let e = environment_of c.args.env.now in
    let s = c.args.span in
    let f = field_pats_of c.args.fields.now in
    let a = type_of c.args.a.now in
    let v = val_of c.args.v.now in
    let w = c.in_ok-own.ensures.answer in
    let grew = grew_kept c.args.env.now c.add.new.self c.has.new.env (grew_twice c.args.env.now c.open_fields.new.env c.add.new.self w.grew c.in_ok-add.ensures.grew) c.in_ok-has.ensures.same in
    let d = environment_of c.add.new.self in
    let known = fields_known e (environment_of c.open_fields.new.env) d w.fields.own w.fields.adds (extension_of c.in_ok-own.own.adds) w.under.known w.adds c.in_ok-add.ensures.known in
    let past : plain c.changed_or_same.result.now ≡ shifted_by (opened w.fields.adds) (plain c.in_ok-answer.answer) = c.changed_or_same.ensures ∙ c.in_ok-wanted.ensures ∙ ap (λ x. shifted_by (opened x) (plain c.in_ok-answer.answer)) w.adds in
    typed_end plain e (environment_of c.open_fields.new.env) d s f a v w.fields (plain c.in_ok-answer.answer) c.argument.result w.under.known known w.holds c.in_ok-answer.ensures.answer
    (subst (λ z. Runs (rule d (has v z)) (ok tt)) past c.in_ok-has.ensures.answer)
    (argument_answer plain e (environment_of c.cut.new.self) c.in_ok-own.own.has w.fields (plain c.in_ok-answer.answer) s c.argument.result (c.cut.ensures c.args.env.now c.place-outer.ensures grew).known w.record_ c.argument.ensures)

pub typed_gives-returns-clause-same : goal.abstractions::typed_gives-returns-clause-same
typed_gives-returns-clause-same t c =
    let w = c.in_ok-own.ensures.answer in
    let grew = grew_kept c.args.env.now c.add.new.self c.has.new.env (grew_twice c.args.env.now c.open_fields.new.env c.add.new.self w.grew c.in_ok-add.ensures.grew) c.in_ok-has.ensures.same in
    on_any c.argument.result (c.cut.ensures c.args.env.now c.place-outer.ensures grew)

-- a process abstraction against a type

pub abstraction_against-pattern_against-requires : goal.abstractions::abstraction_against-pattern_against-requires
abstraction_against-pattern_against-requires t c =
    let i = c.in-Process in
    let e = environment_of c.args.env.now in
    let u = plain c.args.t.now in
    let p = pat_of i.p in
    let q = proc_of i.q.value in
    let is = process_form c.args.abs.now i.field-0 i.p i.q i.is in
    record { right = against_pattern_asked e i.field-0 p q u (subst (λ a. IsWellAsked nothing_ e (abstraction_against a u)) is c.requires.right) }

pub abstraction_against-returns-in_err-pattern_against-in-Process-clause-answer : goal.abstractions::abstraction_against-returns-in_err-pattern_against-in-Process-clause-answer
abstraction_against-returns-in_err-pattern_against-in-Process-clause-answer t c =
    let i = c.in-Process in
    let e = environment_of c.args.env.now in
    let u = plain c.args.t.now in
    let p = pat_of i.p in
    let q = proc_of i.q.value in
    let is = process_form c.args.abs.now i.field-0 i.p i.q i.is in
    let err = c.in_err-pattern_against-in-Process.field-0.0 in
    answer_err (rule e (abstraction_against (abs_of c.args.abs.now) u)) nothing c.from_residual.result err c.from_residual.ensures.1
    (subst (λ a. IsRefused (rule e (abstraction_against a u)) err) (sym is) (against_pattern_refused e i.field-0 p q u err c.in_err-pattern_against-in-Process.ensures.answer))

pub abstraction_against-process-requires : goal.abstractions::abstraction_against-process-requires
abstraction_against-process-requires t c =
    let i = c.in-Process in
    let e = environment_of c.args.env.now in
    let u = plain c.args.t.now in
    let p = pat_of i.p in
    let q = proc_of i.q.value in
    let is = process_form c.args.abs.now i.field-0 i.p i.q i.is in
    let d = environment_of c.pattern_against.new.env in
    let w = c.in_ok-pattern_against-in-Process.ensures.answer in (
      search (rules, the_lemmas),
      subst (λ z. IsWellAsked nothing_ d (process (proc_of z))) (sym c.deref.ensures)
          (against_process_asked e d i.field-0 p q u w.adds w.known (subst (λ a. IsWellAsked nothing_ e (abstraction_against a u)) is c.requires.right) w.holds),
    )

pub abstraction_against-returns-in_err-process-in-Process-clause-answer : goal.abstractions::abstraction_against-returns-in_err-process-in-Process-clause-answer
abstraction_against-returns-in_err-process-in-Process-clause-answer t c =
    let i = c.in-Process in
    let e = environment_of c.args.env.now in
    let u = plain c.args.t.now in
    let p = pat_of i.p in
    let q = proc_of i.q.value in
    let is = process_form c.args.abs.now i.field-0 i.p i.q i.is in
    let d = environment_of c.pattern_against.new.env in
    let w = c.in_ok-pattern_against-in-Process.ensures.answer in
    let err = c.in_err-process-in-Process.field-0.0 in
    answer_err (rule e (abstraction_against (abs_of c.args.abs.now) u)) nothing c.from_residual-in_err-process-in-Process.result err c.from_residual-in_err-process-in-Process.ensures.1
    (subst (λ a. IsRefused (rule e (abstraction_against a u)) err) (sym is)
    (against_process_refused e d i.field-0 p q u w.adds err w.known w.holds (subst (λ z. IsRefused (rule d (process (proc_of z))) err) c.deref.ensures c.in_err-process-in-Process.ensures.answer)))

pub abstraction_against-cut-requires : goal.abstractions::abstraction_against-cut-requires
abstraction_against-cut-requires t c =
    let w = c.in_ok-pattern_against-in-Process.ensures.answer in
    record {
      grown = grown_from c.place-outer.result c.args.env.now c.process.new.env c.place-outer.ensures (grew_kept c.args.env.now c.pattern_against.new.env c.process.new.env w.grew c.in_ok-process-in-Process.ensures.same);
    }

pub abstraction_against-returns-in-Process-clause-answer : goal.abstractions::abstraction_against-returns-in-Process-clause-answer
abstraction_against-returns-in-Process-clause-answer t c =
    let i = c.in-Process in
    let e = environment_of c.args.env.now in
    let u = plain c.args.t.now in
    let p = pat_of i.p in
    let q = proc_of i.q.value in
    let is = process_form c.args.abs.now i.field-0 i.p i.q i.is in
    let d = environment_of c.pattern_against.new.env in
    let w = c.in_ok-pattern_against-in-Process.ensures.answer in
    subst (λ a. Runs (rule e (abstraction_against a u)) (ok tt)) (sym is)
    (process_against e d i.field-0 p q u w.adds w.known w.holds (subst (λ z. Runs (rule d (process (proc_of z))) (ok tt)) c.deref.ensures c.in_ok-process-in-Process.ensures.answer))

-- a function against a type

pub abstraction_against-returns-in-None-clause-answer : goal.abstractions::abstraction_against-returns-in-None-clause-answer
abstraction_against-returns-in-None-clause-answer t c =
    let i = c.in-Function in
    let e = environment_of c.args.env.now in
    let u = plain c.args.t.now in
    let followed = c.in_ok-followed-in-Function in
    let shows = exposure_is e c.context.result.now followed.followed c.args.t.now (plain c.changed_or_same.result.now) c.context.ensures.entries followed.ensures.none followed.ensures.some c.changed_or_same.ensures in
    no_record_refused e (abs_of c.args.abs.now) i.span (field_pats_of i.fields.value) (annotation_of i.annotation) (val_of i.v.value) u (plain c.changed_or_same.result.now) (function_form c.args.abs.now i.span i.fields i.annotation i.v i.is) shows c.in-None.ensures.none

pub abstraction_against-function_against-requires : goal.abstractions::abstraction_against-function_against-requires
abstraction_against-function_against-requires t c =
    let i = c.in-Function in
    let e = environment_of c.args.env.now in
    let u = plain c.args.t.now in
    let followed = c.in_ok-followed-in-Function in
    let shows = exposure_is e c.context.result.now followed.followed c.args.t.now (plain c.changed_or_same.result.now) c.context.ensures.entries followed.ensures.none followed.ensures.some c.changed_or_same.ensures in
    let is = function_read c.args.abs.now i.span i.fields i.annotation i.v c.deref-in-Some-2.result.now (annotation_of i.annotation) c.deref-in-Some.result.now i.is refl c.deref-in-Some-2.ensures c.deref-in-Some.ensures in
    let r = c.in-Some.r.now in (
      search (rules, the_lemmas),
      against_record_asked e (abs_of c.args.abs.now) i.span (field_pats_of c.deref-in-Some-2.result.now) (annotation_of i.annotation) (val_of c.deref-in-Some.result.now) u r is (shows ∙ c.in-Some.ensures.some) c.requires.right,
    )

pub abstraction_against-returns-clause-answer : goal.abstractions::abstraction_against-returns-clause-answer
abstraction_against-returns-clause-answer t c =
    let i = c.in-Function in
    let e = environment_of c.args.env.now in
    let u = plain c.args.t.now in
    let followed = c.in_ok-followed-in-Function in
    let shows = exposure_is e c.context.result.now followed.followed c.args.t.now (plain c.changed_or_same.result.now) c.context.ensures.entries followed.ensures.none followed.ensures.some c.changed_or_same.ensures in
    let is = function_read c.args.abs.now i.span i.fields i.annotation i.v c.deref-in-Some-2.result.now (annotation_of i.annotation) c.deref-in-Some.result.now i.is refl c.deref-in-Some-2.ensures c.deref-in-Some.ensures in
    let r = c.in-Some.r.now in
    against_record_answer e (abs_of c.args.abs.now) i.span (field_pats_of c.deref-in-Some-2.result.now) (annotation_of i.annotation) (val_of c.deref-in-Some.result.now) u r c.function_against.result is (shows ∙ c.in-Some.ensures.some) c.function_against.ensures.answer

pub function_against-returns-in_err-answer-clause-answer : goal.abstractions::function_against-returns-in_err-answer-clause-answer
function_against-returns-in_err-answer-clause-answer t c =
    let e = environment_of c.args.env.now in
    let s = c.args.span in
    let f = field_pats_of c.args.fields.now in
    let a = annotation_of c.args.annotation.now in
    let v = val_of c.args.v.now in
    let r = c.args.r.now in
    let err = c.in_err-answer.field-0.0 in
    answer_err (rule e (abstraction_against (function_abs s f a v) (plain_record r))) nothing c.from_residual.result err c.from_residual.ensures.1
    (no_answer e s f a v (plain_record r) err (subst (λ o. IsNoFunction o s err) (sym (record_answering e r (record_answers e r) refl)) c.in_err-answer.ensures.refused))

pub function_against-open_fields_against-requires : goal.abstractions::function_against-open_fields_against-requires
function_against-open_fields_against-requires t c =
    let e = environment_of c.args.env.now in
    let s = c.args.span in
    let f = field_pats_of c.args.fields.now in
    let a = annotation_of c.args.annotation.now in
    let v = val_of c.args.v.now in
    let r = c.args.r.now in
    let g = function_with r (plain c.in_ok-answer.answer) in
    let takes = record_answering e r (Some g) c.in_ok-answer.ensures.ok in
    let n : c.len-count.result ≡ length r.positional.items = omega (arith, r.positional.ok.0) in
    let less = ap₂ (λ (k : ℕ) (ts : List Ty). take (k - 1) ts) n c.deref.ensures.value in
    let read = fields_of_record s f r (plain c.in_ok-answer.answer) c.deref-2.result.now (take (c.len-count.result - 1) c.deref.result.now) c.deref-3.result.now c.deref-2.ensures.value less c.deref-3.ensures.value in
    record { right = subst (λ j. IsWellAsked opened_ e j) (sym read) (taken_asked e s f a v (plain_record r) g takes c.requires.right) }

pub function_against-returns-in_err-adds-clause-answer : goal.abstractions::function_against-returns-in_err-adds-clause-answer
function_against-returns-in_err-adds-clause-answer t c =
    let e = environment_of c.args.env.now in
    let s = c.args.span in
    let f = field_pats_of c.args.fields.now in
    let a = annotation_of c.args.annotation.now in
    let v = val_of c.args.v.now in
    let r = c.args.r.now in
    let g = function_with r (plain c.in_ok-answer.answer) in
    let takes = record_answering e r (Some g) c.in_ok-answer.ensures.ok in
    let n : c.len-count.result ≡ length r.positional.items = omega (arith, r.positional.ok.0) in
    let less = ap₂ (λ (k : ℕ) (ts : List Ty). take (k - 1) ts) n c.deref.ensures.value in
    let read = fields_of_record s f r (plain c.in_ok-answer.answer) c.deref-2.result.now (take (c.len-count.result - 1) c.deref.result.now) c.deref-3.result.now c.deref-2.ensures.value less c.deref-3.ensures.value in
    let err = c.in_err-adds.field-0.0 in
    answer_err (rule e (abstraction_against (function_abs s f a v) (plain_record r))) nothing c.from_residual-in_err-adds.result err c.from_residual-in_err-adds.ensures.1
    (taken_refused e s f a v (plain_record r) g err takes (subst (λ j. IsRefused (rule e j) err) read c.in_err-adds.ensures.answer))

pub function_against-body_type-requires-clause-answer : goal.abstractions::function_against-body_type-requires-clause-answer
function_against-body_type-requires-clause-answer t c =
    let e = environment_of c.args.env.now in
    let s = c.args.span in
    let f = field_pats_of c.args.fields.now in
    let a = annotation_of c.args.annotation.now in
    let v = val_of c.args.v.now in
    let r = c.args.r.now in
    let g = function_with r (plain c.in_ok-answer.answer) in
    let takes = record_answering e r (Some g) c.in_ok-answer.ensures.ok in
    let n : c.len-count.result ≡ length r.positional.items = omega (arith, r.positional.ok.0) in
    let less = ap₂ (λ (k : ℕ) (ts : List Ty). take (k - 1) ts) n c.deref.ensures.value in
    let read = fields_of_record s f r (plain c.in_ok-answer.answer) c.deref-2.result.now (take (c.len-count.result - 1) c.deref.result.now) c.deref-3.result.now c.deref-2.ensures.value less c.deref-3.ensures.value in
    let w = c.in_ok-adds.ensures.answer in
    let mid = environment_of c.open_fields_against.new.env in
    let holds = subst (λ j. Runs (rule e j) (ok w.fields)) read w.holds in
    result_formed e mid s f a v (plain_record r) g w.fields takes w.known c.requires.right holds

pub function_against-returns-in_err-wanted-clause-answer : goal.abstractions::function_against-returns-in_err-wanted-clause-answer
function_against-returns-in_err-wanted-clause-answer t c =
    let e = environment_of c.args.env.now in
    let s = c.args.span in
    let f = field_pats_of c.args.fields.now in
    let a = annotation_of c.args.annotation.now in
    let v = val_of c.args.v.now in
    let r = c.args.r.now in
    let g = function_with r (plain c.in_ok-answer.answer) in
    let takes = record_answering e r (Some g) c.in_ok-answer.ensures.ok in
    let n : c.len-count.result ≡ length r.positional.items = omega (arith, r.positional.ok.0) in
    let less = ap₂ (λ (k : ℕ) (ts : List Ty). take (k - 1) ts) n c.deref.ensures.value in
    let read = fields_of_record s f r (plain c.in_ok-answer.answer) c.deref-2.result.now (take (c.len-count.result - 1) c.deref.result.now) c.deref-3.result.now c.deref-2.ensures.value less c.deref-3.ensures.value in
    let w = c.in_ok-adds.ensures.answer in
    let mid = environment_of c.open_fields_against.new.env in
    let holds = subst (λ j. Runs (rule e j) (ok w.fields)) read w.holds in
    let err = c.in_err-wanted.field-0.0 in
    answer_err (rule e (abstraction_against (function_abs s f a v) (plain_record r))) nothing c.from_residual-in_err-wanted.result err c.from_residual-in_err-wanted.ensures.1
    (body_type_refused e mid s f a v (plain_record r) g w.fields err takes w.known holds c.in_err-wanted.ensures)

pub function_against-has-requires : goal.abstractions::function_against-has-requires
function_against-has-requires t c =
    let e = environment_of c.args.env.now in
    let s = c.args.span in
    let f = field_pats_of c.args.fields.now in
    let a = annotation_of c.args.annotation.now in
    let v = val_of c.args.v.now in
    let r = c.args.r.now in
    let g = function_with r (plain c.in_ok-answer.answer) in
    let takes = record_answering e r (Some g) c.in_ok-answer.ensures.ok in
    let n : c.len-count.result ≡ length r.positional.items = omega (arith, r.positional.ok.0) in
    let less = ap₂ (λ (k : ℕ) (ts : List Ty). take (k - 1) ts) n c.deref.ensures.value in
    let read = fields_of_record s f r (plain c.in_ok-answer.answer) c.deref-2.result.now (take (c.len-count.result - 1) c.deref.result.now) c.deref-3.result.now c.deref-2.ensures.value less c.deref-3.ensures.value in
    let w = c.in_ok-adds.ensures.answer in
    let mid = environment_of c.open_fields_against.new.env in
    let holds = subst (λ j. Runs (rule e j) (ok w.fields)) read w.holds in
    let d = environment_of c.add.new.self in
    let known = fields_known e mid d w.fields.own w.fields.adds (extension_of c.in_ok-adds.adds) w.known w.adds c.in_ok-add.ensures.known in
    let past : plain c.changed_or_same.result.now ≡ shifted_by (opened w.fields.adds) (plain c.in_ok-wanted.wanted) = c.changed_or_same.ensures ∙ c.in_ok-inside.ensures ∙ ap (λ x. shifted_by (opened x) (plain c.in_ok-wanted.wanted)) w.adds in (
      search (rules, the_lemmas),
      subst (λ z. IsWellAsked nothing_ d (has v z)) (sym past)
          (against_body_asked e mid d s f a v (plain_record r) g w.fields (plain c.in_ok-wanted.wanted) takes w.known known c.requires.right holds c.in_ok-wanted.ensures),
    )

pub function_against-returns-in_err-has-clause-answer : goal.abstractions::function_against-returns-in_err-has-clause-answer
function_against-returns-in_err-has-clause-answer t c =
    let e = environment_of c.args.env.now in
    let s = c.args.span in
    let f = field_pats_of c.args.fields.now in
    let a = annotation_of c.args.annotation.now in
    let v = val_of c.args.v.now in
    let r = c.args.r.now in
    let g = function_with r (plain c.in_ok-answer.answer) in
    let takes = record_answering e r (Some g) c.in_ok-answer.ensures.ok in
    let n : c.len-count.result ≡ length r.positional.items = omega (arith, r.positional.ok.0) in
    let less = ap₂ (λ (k : ℕ) (ts : List Ty). take (k - 1) ts) n c.deref.ensures.value in
    let read = fields_of_record s f r (plain c.in_ok-answer.answer) c.deref-2.result.now (take (c.len-count.result - 1) c.deref.result.now) c.deref-3.result.now c.deref-2.ensures.value less c.deref-3.ensures.value in
    let w = c.in_ok-adds.ensures.answer in
    let mid = environment_of c.open_fields_against.new.env in
    let holds = subst (λ j. Runs (rule e j) (ok w.fields)) read w.holds in
    let d = environment_of c.add.new.self in
    let known = fields_known e mid d w.fields.own w.fields.adds (extension_of c.in_ok-adds.adds) w.known w.adds c.in_ok-add.ensures.known in
    let past : plain c.changed_or_same.result.now ≡ shifted_by (opened w.fields.adds) (plain c.in_ok-wanted.wanted) = c.changed_or_same.ensures ∙ c.in_ok-inside.ensures ∙ ap (λ x. shifted_by (opened x) (plain c.in_ok-wanted.wanted)) w.adds in
    let err = c.in_err-has.field-0.0 in
    answer_err (rule e (abstraction_against (function_abs s f a v) (plain_record r))) nothing c.from_residual-in_err-has.result err c.from_residual-in_err-has.ensures.1
    (against_body_refused e mid d s f a v (plain_record r) g w.fields (plain c.in_ok-wanted.wanted) err takes w.known known holds c.in_ok-wanted.ensures (subst (λ z. IsRefused (rule d (has v z)) err) past c.in_err-has.ensures.answer))

pub function_against-cut-requires : goal.abstractions::function_against-cut-requires
function_against-cut-requires t c =
    let grew = grew_kept c.args.env.now c.add.new.self c.has.new.env (grew_twice c.args.env.now c.open_fields_against.new.env c.add.new.self c.in_ok-adds.ensures.answer.grew c.in_ok-add.ensures.grew) c.in_ok-has.ensures.same in
    record { grown = grown_from c.place-outer.result c.args.env.now c.has.new.env c.place-outer.ensures grew }

pub function_against-returns-clause-answer : goal.abstractions::function_against-returns-clause-answer
function_against-returns-clause-answer t c =
    let e = environment_of c.args.env.now in
    let s = c.args.span in
    let f = field_pats_of c.args.fields.now in
    let a = annotation_of c.args.annotation.now in
    let v = val_of c.args.v.now in
    let r = c.args.r.now in
    let g = function_with r (plain c.in_ok-answer.answer) in
    let takes = record_answering e r (Some g) c.in_ok-answer.ensures.ok in
    let n : c.len-count.result ≡ length r.positional.items = omega (arith, r.positional.ok.0) in
    let less = ap₂ (λ (k : ℕ) (ts : List Ty). take (k - 1) ts) n c.deref.ensures.value in
    let read = fields_of_record s f r (plain c.in_ok-answer.answer) c.deref-2.result.now (take (c.len-count.result - 1) c.deref.result.now) c.deref-3.result.now c.deref-2.ensures.value less c.deref-3.ensures.value in
    let w = c.in_ok-adds.ensures.answer in
    let mid = environment_of c.open_fields_against.new.env in
    let holds = subst (λ j. Runs (rule e j) (ok w.fields)) read w.holds in
    let d = environment_of c.add.new.self in
    let known = fields_known e mid d w.fields.own w.fields.adds (extension_of c.in_ok-adds.adds) w.known w.adds c.in_ok-add.ensures.known in
    let past : plain c.changed_or_same.result.now ≡ shifted_by (opened w.fields.adds) (plain c.in_ok-wanted.wanted) = c.changed_or_same.ensures ∙ c.in_ok-inside.ensures ∙ ap (λ x. shifted_by (opened x) (plain c.in_ok-wanted.wanted)) w.adds in
    function_against e mid d s f a v (plain_record r) g w.fields (plain c.in_ok-wanted.wanted) takes w.known known holds c.in_ok-wanted.ensures (subst (λ z. Runs (rule d (has v z)) (ok tt)) past c.in_ok-has.ensures.answer)

pub function_against-returns-clause-same : goal.abstractions::function_against-returns-clause-same
function_against-returns-clause-same t c =
    let grew = grew_kept c.args.env.now c.add.new.self c.has.new.env (grew_twice c.args.env.now c.open_fields_against.new.env c.add.new.self c.in_ok-adds.ensures.answer.grew c.in_ok-add.ensures.grew) c.in_ok-has.ensures.same in
    c.cut.ensures c.args.env.now c.place-outer.ensures grew
