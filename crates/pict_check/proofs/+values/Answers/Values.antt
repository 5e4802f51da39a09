-- What values give, and what they have.
use Rattle.std.proofs.Common.{rules, ◌≡◌, length, refl, sym, ◌∙◌, ap, subst, arith, ◌-◌}
use Rattle.pict_syntax.specs.declared.code.Code.TheVariants.{Y4}
use Rattle.pict_syntax.specs.declared.tree.Abs.TheViews.{out-FieldVals}
use Rattle.pict_syntax.specs.declared.tree.Val.{the_lemmas}
use Rattle.pict_syntax.specs.Trees.{Val, fields_val, no_labelled_vals, no_types, no_vals, number_val, character_val, string_val, true_val, false_val}
use Rattle.pict_syntax.specs.PlainTrees.{field_vals_of, labelled_vals_on, types_on, val_of, vals_on}
use Rattle.pict_syntax.specs.Labels.{by_number, in_label_order}
use Rattle.pict_syntax.specs.Grammar.{val_span}
use Rattle.pict_types.specs.Plain.{plain, plain_args, plain_bounds, plain_labels, plain_record, plain_types}
use Rattle.pict_types.specs.Types.{PlainType, Int, Char, Str, Boolean, Chan as ChanType, Respond, Fields as FieldsType, no_bound}
use Rattle.pict_rules.specs.Clauses.{gives_below as below_rule}
use Rattle.pict_rules.specs.Derivations.{Runs, give_}
use Rattle.pict_rules.specs.Environments.{Environment}
use Rattle.pict_rules.specs.Found.{Found, none_found}
use Rattle.pict_rules.specs.Rules.{arguments_, nothing_, type_, gives, has, labelled_values_give, ok, values_give, abstraction_against, abstraction_gives}
use Rattle.pict_rules.specs.Typing.{rule}
use Rattle.pict_infer.specs.Answering.{IsAnswer, IsRefused, nothing}
use Rattle.pict_infer.specs.Asking.{IsWellAsked}
use Rattle.pict_infer.specs.Environments.{environment_of}
use Rattle.pict_infer.proofs.GivingAsked.{asked_in, refused_in, runs_in}
use Rattle.pict_infer.proofs.Handed.{answer_err}
use Rattle.pict_lines.specs.Lines.{either_type, formed}
use Rattle.pict_check.specs.Records.{fits_record}
use Rattle.pict_lines.specs.Reading.{found_for}
use Rattle.pict_lines.proofs.Ends.{refused_here}
use Rattle.pict_check.proofs.Forms.{channel_val, character_form, false_form, number_form, string_form, true_form}
use Rattle.pict_check.proofs.HasEnds.{has_end, has_no_asked, has_test, has_test_asked, has_yes, has_yes_asked, lambda_below_asked, lambda_below_end, lambda_sent_asked, lambda_sent_end, other_asked, other_end, record_asked, record_below_asked, record_below_end, record_done, record_refused}
use Rattle.pict_lines.proofs.Kept.{answer_in, given_there, kept_any, kept_here, kept_on, kept_twice, type_there}
use Rattle.pict_check.proofs.Read.{fields_read, if_read, lambda_read, parts_read}
use Rattle.pict_check.proofs.RecordEnds.{label_asked, label_more, label_refused, labels_asked, labels_end, labels_refused, labels_start, none_on, record_end, record_named, value_next_asked, value_next_more, value_next_refused, values_asked, values_refused, values_start}
use Rattle.pict_check.proofs.RowEnds.{all_values}
use Rattle.pict_check.proofs.ValueEnds.{below_there, if_end, if_no, if_test, if_yes, lambda_asked, lambda_end, lambda_refused, no_asked, test_asked, yes_asked}
use Rattle.pict_check.proofs.+values.Goals as goal
use Rattle.pict_scope.proofs.ValueForms.{field_vals_are}

-- VALUES

-- a value below a type

pub gives_below-gives-requires : goal.values::gives_below-gives-requires
gives_below-gives-requires t c = (search (rules, the_lemmas), c.requires.right)

pub gives_below-returns-in_err-s-clause-answer : goal.values::gives_below-returns-in_err-s-clause-answer
gives_below-returns-in_err-s-clause-answer t c =
    let e = environment_of c.args.env.now in
    let y = c.in_err-s.field-0.0 in
    let h : IsRefused (below_rule e (val_of c.args.v.now) (plain c.args.t.now) c.args.code) y = refused_here e (gives (val_of c.args.v.now)) _ y c.in_err-s.ensures.answer in
    search (rules, h)

pub gives_below-below-requires-clause-s : goal.values::gives_below-below-requires-clause-s
gives_below-below-requires-clause-s t c =
    given_there (environment_of c.gives.new.env) (environment_of c.args.env.now) (val_of c.args.v.now) (plain c.in_ok-s.s) c.in_ok-s.ensures.same.known c.requires.right c.in_ok-s.ensures.answer

pub gives_below-below-requires-clause-t : goal.values::gives_below-below-requires-clause-t
gives_below-below-requires-clause-t t c = type_there (environment_of c.gives.new.env) (environment_of c.args.env.now) (plain c.args.t.now) c.in_ok-s.ensures.same.known c.requires.t

pub gives_below-returns-clause-answer : goal.values::gives_below-returns-clause-answer
gives_below-returns-clause-answer t c =
    below_there (environment_of c.gives.new.env) (environment_of c.args.env.now) (val_of c.args.v.now) (plain c.args.t.now) (plain c.in_ok-s.s) c.args.code c.val_span.result c.below.result
    c.in_ok-s.ensures.same.known c.val_span.ensures c.in_ok-s.ensures.answer c.below.ensures

pub gives_below-returns-clause-same : goal.values::gives_below-returns-clause-same
gives_below-returns-clause-same t c = kept_any c.args.env.now c.gives.new.env c.below.result c.in_ok-s.ensures.same

-- what values give

pub gives-channel_gives-requires : goal.values::gives-channel_gives-requires
gives-channel_gives-requires t c =
    (search (rules, the_lemmas), subst (λ (v : Val). IsWellAsked type_ (environment_of c.args.env.now) (gives v)) (channel_val c.args.v.now c.in-OfChan.c c.in-OfChan.is) c.requires.right)

pub gives-returns-in-OfChan-clause-answer : goal.values::gives-returns-in-OfChan-clause-answer
gives-returns-in-OfChan-clause-answer t c =
    subst (λ (v : Val). IsAnswer (rule (environment_of c.args.env.now) (gives v)) plain c.channel_gives.result) (sym (channel_val c.args.v.now c.in-OfChan.c c.in-OfChan.is)) c.channel_gives.ensures.answer

pub gives-returns-in-Number-clause-answer : goal.values::gives-returns-in-Number-clause-answer
gives-returns-in-Number-clause-answer t c =
    subst (λ (v : Val). Runs (rule (environment_of c.args.env.now) (gives v)) (ok Int)) (sym (number_form c.args.v.now c.in-Number.field-0 c.in-Number.field-1 c.in-Number.is)) give_

pub gives-returns-in-Character-clause-answer : goal.values::gives-returns-in-Character-clause-answer
gives-returns-in-Character-clause-answer t c =
    subst (λ (v : Val). Runs (rule (environment_of c.args.env.now) (gives v)) (ok Char)) (sym (character_form c.args.v.now c.in-Character.field-0 c.in-Character.field-1 c.in-Character.is)) give_

pub gives-returns-in-String-clause-answer : goal.values::gives-returns-in-String-clause-answer
gives-returns-in-String-clause-answer t c =
    subst (λ (v : Val). Runs (rule (environment_of c.args.env.now) (gives v)) (ok Str)) (sym (string_form c.args.v.now c.in-String.field-0 c.in-String.field-1 c.in-String.is)) give_

pub gives-returns-in-True-clause-answer : goal.values::gives-returns-in-True-clause-answer
gives-returns-in-True-clause-answer t c =
    subst (λ (v : Val). Runs (rule (environment_of c.args.env.now) (gives v)) (ok Boolean)) (sym (true_form c.args.v.now c.in-True.field-0 c.in-True.is)) give_

pub gives-returns-in-False-clause-answer : goal.values::gives-returns-in-False-clause-answer
gives-returns-in-False-clause-answer t c =
    subst (λ (v : Val). Runs (rule (environment_of c.args.env.now) (gives v)) (ok Boolean)) (sym (false_form c.args.v.now c.in-False.field-0 c.in-False.is)) give_

pub gives-record_gives-requires : goal.values::gives-record_gives-requires
gives-record_gives-requires t c =
    let i = c.in-Fields in
    (search (rules, the_lemmas), subst (λ (v : Val). IsWellAsked type_ (environment_of c.args.env.now) (gives v)) (fields_read c.args.v.now i.span i.fields c.deref.result.now i.is c.deref.ensures) c.requires.right)

pub gives-returns-in-Fields-clause-answer : goal.values::gives-returns-in-Fields-clause-answer
gives-returns-in-Fields-clause-answer t c =
    let i = c.in-Fields in
    subst (λ (v : Val). IsAnswer (rule (environment_of c.args.env.now) (gives v)) plain c.record_gives.result) (sym (fields_read c.args.v.now i.span i.fields c.deref.result.now i.is c.deref.ensures)) c.record_gives.ensures.answer

pub gives-gives_below-requires : goal.values::gives-gives_below-requires
gives-gives_below-requires t c =
    let e = environment_of c.args.env.now in
    let i = c.in-If in
    let is = if_read c.args.v.now i.span i.test i.yes i.no c.deref-in-If.result.now i.yes.value i.no.value i.is c.deref-in-If.ensures refl refl in
    (search (rules, the_lemmas), (test_asked e i.span _ _ _ (subst (λ (v : Val). IsWellAsked type_ e (gives v)) is c.requires.right), tt))

pub gives-returns-in_err-gives_below-in-If-clause-answer : goal.values::gives-returns-in_err-gives_below-in-If-clause-answer
gives-returns-in_err-gives_below-in-If-clause-answer t c =
    let e = environment_of c.args.env.now in
    let i = c.in-If in
    let y = c.in_err-gives_below-in-If.field-0.0 in
    let is = if_read c.args.v.now i.span i.test i.yes i.no c.deref-in-If.result.now i.yes.value i.no.value i.is c.deref-in-If.ensures refl refl in
    let h : IsRefused (rule e (gives (val_of c.args.v.now))) y = subst (λ (v : Val). IsRefused (rule e (gives v)) y) (sym is) (if_test e i.span _ _ _ y c.in_err-gives_below-in-If.ensures.answer) in
    search (rules, h)

pub gives-gives-requires : goal.values::gives-gives-requires
gives-gives-requires t c =
    let e = environment_of c.args.env.now in
    let i = c.in-If in
    let k = c.in_ok-gives_below-in-If.ensures in
    let is = if_read c.args.v.now i.span i.test i.yes i.no c.deref-in-If.result.now c.deref-in-If-2.result.now i.no.value i.is c.deref-in-If.ensures c.deref-in-If-2.ensures refl in
    let w = subst (λ (v : Val). IsWellAsked type_ e (gives v)) is c.requires.right in
    (search (rules, the_lemmas), asked_in (environment_of c.gives_below.new.env) e k.same.known (yes_asked e i.span _ _ _ w k.answer))

pub gives-returns-in_err-s-in-If-clause-answer : goal.values::gives-returns-in_err-s-in-If-clause-answer
gives-returns-in_err-s-in-If-clause-answer t c =
    let e = environment_of c.args.env.now in
    let i = c.in-If in
    let y = c.in_err-s-in-If.field-0.0 in
    let k = c.in_ok-gives_below-in-If.ensures in
    let is = if_read c.args.v.now i.span i.test i.yes i.no c.deref-in-If.result.now c.deref-in-If-2.result.now i.no.value i.is c.deref-in-If.ensures c.deref-in-If-2.ensures refl in
    let h : IsRefused (rule e (gives (val_of c.args.v.now))) y =
    subst (λ (v : Val). IsRefused (rule e (gives v)) y) (sym is)
    (if_yes e i.span _ _ _ y k.answer (refused_in (gives (val_of c.deref-in-If-2.result.now)) y (environment_of c.gives_below.new.env) e k.same.known c.in_err-s-in-If.ensures.answer)) in
    search (rules, h)

pub gives-gives-requires-in-If : goal.values::gives-gives-requires-in-If
gives-gives-requires-in-If t c =
    let e = environment_of c.args.env.now in
    let i = c.in-If in
    let k = c.in_ok-gives_below-in-If.ensures in
    let l = c.in_ok-s-in-If.ensures in
    let is = if_read c.args.v.now i.span i.test i.yes i.no c.deref-in-If.result.now c.deref-in-If-2.result.now c.deref-in-If-3.result.now i.is c.deref-in-If.ensures c.deref-in-If-2.ensures c.deref-in-If-3.ensures in
    let w = subst (λ (v : Val). IsWellAsked type_ e (gives v)) is c.requires.right in
    let p = runs_in (gives (val_of c.deref-in-If-2.result.now)) (environment_of c.gives_below.new.env) e k.same.known l.answer in
    (search (rules, the_lemmas), asked_in (environment_of c.gives.new.env) e (l.same.known ∙ k.same.known) (no_asked e i.span _ _ _ _ w k.answer p))

pub gives-returns-in_err-t-in-If-clause-answer : goal.values::gives-returns-in_err-t-in-If-clause-answer
gives-returns-in_err-t-in-If-clause-answer t c =
    let e = environment_of c.args.env.now in
    let i = c.in-If in
    let y = c.in_err-t-in-If.field-0.0 in
    let k = c.in_ok-gives_below-in-If.ensures in
    let l = c.in_ok-s-in-If.ensures in
    let is = if_read c.args.v.now i.span i.test i.yes i.no c.deref-in-If.result.now c.deref-in-If-2.result.now c.deref-in-If-3.result.now i.is c.deref-in-If.ensures c.deref-in-If-2.ensures c.deref-in-If-3.ensures in
    let p = runs_in (gives (val_of c.deref-in-If-2.result.now)) (environment_of c.gives_below.new.env) e k.same.known l.answer in
    let h : IsRefused (rule e (gives (val_of c.args.v.now))) y =
    subst (λ (v : Val). IsRefused (rule e (gives v)) y) (sym is)
    (if_no e i.span _ _ _ _ y k.answer p (refused_in (gives (val_of c.deref-in-If-3.result.now)) y (environment_of c.gives.new.env) e (l.same.known ∙ k.same.known) c.in_err-t-in-If.ensures.answer)) in
    search (rules, h)

pub gives-either-requires-clause-s : goal.values::gives-either-requires-clause-s
gives-either-requires-clause-s t c =
    let e = environment_of c.args.env.now in
    let i = c.in-If in
    let k = c.in_ok-gives_below-in-If.ensures in
    let l = c.in_ok-s-in-If.ensures in
    let m = c.in_ok-t-in-If.ensures in
    let is = if_read c.args.v.now i.span i.test i.yes i.no c.deref-in-If.result.now c.deref-in-If-2.result.now i.no.value i.is c.deref-in-If.ensures c.deref-in-If-2.ensures refl in
    let w = subst (λ (v : Val). IsWellAsked type_ e (gives v)) is c.requires.right in
    let p = runs_in (gives (val_of c.deref-in-If-2.result.now)) (environment_of c.gives_below.new.env) e k.same.known l.answer in
    given_there (environment_of c.gives-in-If.new.env) e (val_of c.deref-in-If-2.result.now) (plain c.in_ok-s-in-If.s) (m.same.known ∙ l.same.known ∙ k.same.known) (yes_asked e i.span _ _ _ w k.answer) p

pub gives-either-requires-clause-t : goal.values::gives-either-requires-clause-t
gives-either-requires-clause-t t c =
    let e = environment_of c.args.env.now in
    let i = c.in-If in
    let k = c.in_ok-gives_below-in-If.ensures in
    let l = c.in_ok-s-in-If.ensures in
    let m = c.in_ok-t-in-If.ensures in
    let is = if_read c.args.v.now i.span i.test i.yes i.no c.deref-in-If.result.now c.deref-in-If-2.result.now c.deref-in-If-3.result.now i.is c.deref-in-If.ensures c.deref-in-If-2.ensures c.deref-in-If-3.ensures in
    let w = subst (λ (v : Val). IsWellAsked type_ e (gives v)) is c.requires.right in
    let p = runs_in (gives (val_of c.deref-in-If-2.result.now)) (environment_of c.gives_below.new.env) e k.same.known l.answer in
    let q = runs_in (gives (val_of c.deref-in-If-3.result.now)) (environment_of c.gives.new.env) e (l.same.known ∙ k.same.known) m.answer in
    given_there (environment_of c.gives-in-If.new.env) e (val_of c.deref-in-If-3.result.now) (plain c.in_ok-t-in-If.t) (m.same.known ∙ l.same.known ∙ k.same.known) (no_asked e i.span _ _ _ _ w k.answer p) q

pub gives-returns-in_ok-t-in-If-clause-answer : goal.values::gives-returns-in_ok-t-in-If-clause-answer
gives-returns-in_ok-t-in-If-clause-answer t c =
    let e = environment_of c.args.env.now in
    let i = c.in-If in
    let k = c.in_ok-gives_below-in-If.ensures in
    let l = c.in_ok-s-in-If.ensures in
    let m = c.in_ok-t-in-If.ensures in
    let is = if_read c.args.v.now i.span i.test i.yes i.no c.deref-in-If.result.now c.deref-in-If-2.result.now c.deref-in-If-3.result.now i.is c.deref-in-If.ensures c.deref-in-If-2.ensures c.deref-in-If-3.ensures in
    let p = runs_in (gives (val_of c.deref-in-If-2.result.now)) (environment_of c.gives_below.new.env) e k.same.known l.answer in
    let q = runs_in (gives (val_of c.deref-in-If-3.result.now)) (environment_of c.gives.new.env) e (l.same.known ∙ k.same.known) m.answer in
    subst (λ (v : Val). IsAnswer (rule e (gives v)) plain c.either.result) (sym is)
    (if_end e i.span _ _ _ _ _ c.either.result k.answer p q
    (subst (λ (d : Environment). IsAnswer (either_type d (plain c.in_ok-s-in-If.s) (plain c.in_ok-t-in-If.t) i.span) plain c.either.result) (m.same.known ∙ l.same.known ∙ k.same.known) c.either.ensures))

pub gives-returns-in_ok-t-in-If-clause-same : goal.values::gives-returns-in_ok-t-in-If-clause-same
gives-returns-in_ok-t-in-If-clause-same t c =
    let k = c.in_ok-gives_below-in-If.ensures.same in
    let l = c.in_ok-s-in-If.ensures.same in
    let m = c.in_ok-t-in-If.ensures.same in
    kept_any c.args.env.now c.gives-in-If.new.env c.either.result (kept_twice c.args.env.now c.gives_below.new.env c.gives-in-If.new.env k (kept_twice c.gives_below.new.env c.gives.new.env c.gives-in-If.new.env l m))

pub gives-abstraction_gives-requires : goal.values::gives-abstraction_gives-requires
gives-abstraction_gives-requires t c =
    let e = environment_of c.args.env.now in
    let i = c.in-Lambda in
    let is = lambda_read c.args.v.now i.span i.abs c.deref-in-Lambda.result.now i.is c.deref-in-Lambda.ensures in
    (search (rules, the_lemmas), lambda_asked e i.span _ (subst (λ (v : Val). IsWellAsked type_ e (gives v)) is c.requires.right))

pub gives-returns-in_err-r-in-Lambda-clause-answer : goal.values::gives-returns-in_err-r-in-Lambda-clause-answer
gives-returns-in_err-r-in-Lambda-clause-answer t c =
    let e = environment_of c.args.env.now in
    let i = c.in-Lambda in
    let y = c.in_err-r-in-Lambda.field-0.0 in
    let is = lambda_read c.args.v.now i.span i.abs c.deref-in-Lambda.result.now i.is c.deref-in-Lambda.ensures in
    let h : IsRefused (rule e (gives (val_of c.args.v.now))) y = subst (λ (v : Val). IsRefused (rule e (gives v)) y) (sym is) (lambda_refused e i.span _ y c.in_err-r-in-Lambda.ensures.answer) in
    search (rules, h)

pub gives-returns-in_ok-r-in-Lambda-clause-answer : goal.values::gives-returns-in_ok-r-in-Lambda-clause-answer
gives-returns-in_ok-r-in-Lambda-clause-answer t c =
    let e = environment_of c.args.env.now in
    let i = c.in-Lambda in
    let k = c.in_ok-r-in-Lambda.ensures in
    let is = lambda_read c.args.v.now i.span i.abs c.deref-in-Lambda.result.now i.is c.deref-in-Lambda.ensures in
    subst (λ (v : Val). IsAnswer (rule e (gives v)) plain c.responder.result) (sym is)
    (lambda_end e i.span _ (plain c.in_ok-r-in-Lambda.r) c.responder.result k.answer
    (subst (λ (d : Environment). IsAnswer (formed d (ChanType Respond (plain c.in_ok-r-in-Lambda.r)) i.span) plain c.responder.result) k.same.known c.responder.ensures))

pub gives-returns-in_ok-r-in-Lambda-clause-same : goal.values::gives-returns-in_ok-r-in-Lambda-clause-same
gives-returns-in_ok-r-in-Lambda-clause-same t c = kept_any c.args.env.now c.abstraction_gives.new.env c.responder.result c.in_ok-r-in-Lambda.ensures.same

-- the types of several values

pub values_give-loop-v-init : goal.values::values_give-loop-v-init
values_give-loop-v-init t c = record { so_far = values_start (environment_of c.args.env.now) c.new-types.result.items c.new-types.ensures.items; same = kept_here c.args.env.now }

pub values_give-gives-requires : goal.values::values_give-gives-requires
values_give-gives-requires t c =
    let e = environment_of c.args.env.now in
    let l = c.loop-v.invariant in
    (search (rules, the_lemmas), asked_in (environment_of c.loop-v.env) e l.same.known (value_next_asked e c.args.vs.now c.loop-v.v-index c.v-item.result _ c.loop-v-test.true c.v-item.is c.requires.right l.so_far))

pub values_give-returns-in_err-gives-clause-answer : goal.values::values_give-returns-in_err-gives-clause-answer
values_give-returns-in_err-gives-clause-answer t c =
    let e = environment_of c.args.env.now in
    let l = c.loop-v.invariant in
    let y = c.in_err-gives.field-0.0 in
    answer_err (rule e (values_give (vals_on no_vals c.args.vs.now))) (λ ts. plain_types ts.items) c.from_residual.result y c.from_residual.ensures.1
    (value_next_refused e c.args.vs.now c.loop-v.v-index c.v-item.result _ y c.loop-v-test.true c.v-item.is l.so_far
    (refused_in (gives (val_of c.v-item.result)) y (environment_of c.loop-v.env) e l.same.known c.in_err-gives.ensures.answer))

pub values_give-loop-v-preserved : goal.values::values_give-loop-v-preserved
values_give-loop-v-preserved t c =
    let e = environment_of c.args.env.now in
    let l = c.loop-v.invariant in
    let k = c.in_ok-gives.ensures in
    record {
      so_far =
          value_next_more e c.args.vs.now c.loop-v.v-index c.v-item.result c.loop-v.types.items c.push.new.self.items c.in_ok-gives.field-0 c.loop-v-test.true c.v-item.is c.in_ok-push.ensures.items l.so_far
          (runs_in (gives (val_of c.v-item.result)) (environment_of c.loop-v.env) e l.same.known k.answer);
      same = kept_twice c.args.env.now c.loop-v.env c.gives.new.env l.same k.same;
    }

pub values_give-returns-clause-answer : goal.values::values_give-returns-clause-answer
values_give-returns-clause-answer t c = all_values (environment_of c.args.env.now) c.args.vs.now c.loop-v.v-index _ c.loop-v-test.false c.loop-v.invariant.so_far

pub values_give-returns-clause-same : goal.values::values_give-returns-clause-same
values_give-returns-clause-same t c = c.loop-v.invariant.same

pub labelled_values_give-loop-l-init : goal.values::labelled_values_give-loop-l-init
labelled_values_give-loop-l-init t c = record { so_far = labels_start (environment_of c.args.env.now) c.new-types.result.items c.new-types.ensures.items; same = kept_here c.args.env.now }

pub labelled_values_give-gives-requires : goal.values::labelled_values_give-gives-requires
labelled_values_give-gives-requires t c =
    let e = environment_of c.args.env.now in
    let l = c.loop-l.invariant in
    (search (rules, the_lemmas), asked_in (environment_of c.loop-l.env) e l.same.known (label_asked e c.args.ls.now c.loop-l.l-index c.l-item.result _ c.loop-l-test.true c.l-item.is c.requires.right l.so_far))

pub labelled_values_give-returns-in_err-gives-clause-answer : goal.values::labelled_values_give-returns-in_err-gives-clause-answer
labelled_values_give-returns-in_err-gives-clause-answer t c =
    let e = environment_of c.args.env.now in
    let l = c.loop-l.invariant in
    let y = c.in_err-gives.field-0.0 in
    answer_err (rule e (labelled_values_give (labelled_vals_on no_labelled_vals c.args.ls.now))) (λ ts. plain_labels ts.items) c.from_residual.result y c.from_residual.ensures.1
    (label_refused e c.args.ls.now c.loop-l.l-index c.l-item.result _ y c.loop-l-test.true c.l-item.is l.so_far
    (refused_in (gives (val_of c.l-item.result.value)) y (environment_of c.loop-l.env) e l.same.known c.in_err-gives.ensures.answer))

pub labelled_values_give-loop-l-preserved : goal.values::labelled_values_give-loop-l-preserved
labelled_values_give-loop-l-preserved t c =
    let e = environment_of c.args.env.now in
    let l = c.loop-l.invariant in
    let k = c.in_ok-gives.ensures in
    record {
      so_far =
          label_more e c.args.ls.now c.loop-l.l-index c.l-item.result c.loop-l.types.items c.push.new.self.items c.in_ok-gives.field-0 c.loop-l-test.true c.l-item.is l.so_far
          (runs_in (gives (val_of c.l-item.result.value)) (environment_of c.loop-l.env) e l.same.known k.answer) c.in_ok-push.ensures.items;
      same = kept_twice c.args.env.now c.loop-l.env c.gives.new.env l.same k.same;
    }

pub labelled_values_give-returns-clause-answer : goal.values::labelled_values_give-returns-clause-answer
labelled_values_give-returns-clause-answer t c =
    let us = c.loop-l.types.items in
    let vs = c.sort_labels.new.items.items in
    let names = c.names.ensures.same ∙ c.context.ensures.names ∙ ap (λ (z : Environment). z.names) c.loop-l.invariant.same.known in
    labels_end (environment_of c.args.env.now) c.args.ls.now c.loop-l.l-index us vs (omega arith) c.loop-l.invariant.so_far
    (subst (λ ns. by_number vs ≡ in_label_order ns (by_number us)) names c.in_ok-sort_labels.ensures.sorted)

pub labelled_values_give-returns-clause-same : goal.values::labelled_values_give-returns-clause-same
labelled_values_give-returns-clause-same t c = c.loop-l.invariant.same

-- a record

pub record_gives-returns-then-not-is_empty-clause-answer : goal.values::record_gives-returns-then-not-is_empty-clause-answer
record_gives-returns-then-not-is_empty-clause-answer t c =
    let f = c.args.fields.now in
    let parts = out-FieldVals f in
    let none = none_on parts.type_arguments.items _ c.is_empty.result parts.type_arguments.ok.0 c.is_empty.ensures ∙ c.if-not-is_empty.true in
    record_named (environment_of c.args.env.now) c.args.span (field_vals_of f) (types_on no_types parts.type_arguments.items) (vals_on no_vals parts.positional.items) (labelled_vals_on no_labelled_vals parts.labelled.items) (field_vals_are f) none

pub record_gives-values_give-requires : goal.values::record_gives-values_give-requires
record_gives-values_give-requires t c =
    let e = environment_of c.args.env.now in
    let f = c.args.fields.now in
    let parts = out-FieldVals f in
    let none = none_on parts.type_arguments.items _ c.is_empty.result parts.type_arguments.ok.0 c.is_empty.ensures ∙ c.if-not-is_empty.false in
    (search (rules, the_lemmas), values_asked e c.args.span (field_vals_of f) _ _ _ (parts_read f parts.type_arguments.items c.deref.result.now parts.labelled.items refl c.deref.ensures.value refl) none c.requires.right)

pub record_gives-returns-in_err-positional-clause-answer : goal.values::record_gives-returns-in_err-positional-clause-answer
record_gives-returns-in_err-positional-clause-answer t c =
    let e = environment_of c.args.env.now in
    let f = c.args.fields.now in
    let parts = out-FieldVals f in
    let y = c.in_err-positional.field-0.0 in
    let none = none_on parts.type_arguments.items _ c.is_empty.result parts.type_arguments.ok.0 c.is_empty.ensures ∙ c.if-not-is_empty.false in
    let h : IsRefused (rule e (gives (fields_val c.args.span (field_vals_of f)))) y =
    values_refused e c.args.span (field_vals_of f) _ _ _ y (parts_read f parts.type_arguments.items c.deref.result.now parts.labelled.items refl c.deref.ensures.value refl) none c.in_err-positional.ensures.answer in
    search (rules, h)

pub record_gives-labelled_values_give-requires : goal.values::record_gives-labelled_values_give-requires
record_gives-labelled_values_give-requires t c =
    let e = environment_of c.args.env.now in
    let f = c.args.fields.now in
    let parts = out-FieldVals f in
    let k = c.in_ok-positional.ensures in
    let none = none_on parts.type_arguments.items _ c.is_empty.result parts.type_arguments.ok.0 c.is_empty.ensures ∙ c.if-not-is_empty.false in
    let is = parts_read f parts.type_arguments.items c.deref.result.now c.deref-2.result.now refl c.deref.ensures.value c.deref-2.ensures.value in
    (search (rules, the_lemmas), asked_in (environment_of c.values_give.new.env) e k.same.known (labels_asked e c.args.span (field_vals_of f) _ _ _ _ is none c.requires.right k.answer))

pub record_gives-returns-in_err-labelled-clause-answer : goal.values::record_gives-returns-in_err-labelled-clause-answer
record_gives-returns-in_err-labelled-clause-answer t c =
    let e = environment_of c.args.env.now in
    let f = c.args.fields.now in
    let parts = out-FieldVals f in
    let y = c.in_err-labelled.field-0.0 in
    let k = c.in_ok-positional.ensures in
    let none = none_on parts.type_arguments.items _ c.is_empty.result parts.type_arguments.ok.0 c.is_empty.ensures ∙ c.if-not-is_empty.false in
    let is = parts_read f parts.type_arguments.items c.deref.result.now c.deref-2.result.now refl c.deref.ensures.value c.deref-2.ensures.value in
    let h : IsRefused (rule e (gives (fields_val c.args.span (field_vals_of f)))) y =
    labels_refused e c.args.span (field_vals_of f) _ _ _ _ y is none k.answer
    (refused_in (labelled_values_give (labelled_vals_on no_labelled_vals c.deref-2.result.now)) y (environment_of c.values_give.new.env) e k.same.known c.in_err-labelled.ensures.answer) in
    search (rules, h)

pub record_gives-returns-clause-answer : goal.values::record_gives-returns-clause-answer
record_gives-returns-clause-answer t c =
    let e = environment_of c.args.env.now in
    let f = c.args.fields.now in
    let parts = out-FieldVals f in
    let k = c.in_ok-positional.ensures in
    let l = c.in_ok-labelled.ensures in
    let none = none_on parts.type_arguments.items _ c.is_empty.result parts.type_arguments.ok.0 c.is_empty.ensures ∙ c.if-not-is_empty.false in
    let is = parts_read f parts.type_arguments.items c.deref.result.now c.deref-2.result.now refl c.deref.ensures.value c.deref-2.ensures.value in
    record_end e c.args.span (field_vals_of f) _ _ _ _ _ c.record_type.result is none k.answer
    (runs_in (labelled_values_give (labelled_vals_on no_labelled_vals c.deref-2.result.now)) (environment_of c.values_give.new.env) e k.same.known l.answer)
    (subst (λ (d : Environment). IsAnswer (formed d (FieldsType no_bound (plain_types c.in_ok-positional.positional.items) (plain_labels c.in_ok-labelled.labelled.items)) c.args.span) plain c.record_type.result) (l.same.known ∙ k.same.known) c.record_type.ensures)

pub record_gives-returns-clause-same : goal.values::record_gives-returns-clause-same
record_gives-returns-clause-same t c =
    kept_any c.args.env.now c.labelled_values_give.new.env c.record_type.result (kept_twice c.args.env.now c.values_give.new.env c.labelled_values_give.new.env c.in_ok-positional.ensures.same c.in_ok-labelled.ensures.same)

-- a record has a record type

pub record_has-fields_fit-requires : goal.values::record_has-fields_fit-requires
record_has-fields_fit-requires t c =
    let e = environment_of c.args.env.now in
    let r = c.args.r.now in
    let g = c.in_ok-found.found in
    let w = record_asked e c.args.span (field_vals_of c.args.fields.now) (plain_bounds r.binders.items) (plain_types r.positional.items) (plain_labels r.labelled.items) c.requires.right in
    let is = subst (λ bs. found_for bs g ≡ none_found (plain_bounds bs)) c.deref.ensures.value c.in_ok-found.ensures.none in
    (search (rules, the_lemmas), (subst (λ (x : Found). IsWellAsked arguments_ e (fits_record c.args.span (field_vals_of c.args.fields.now) r x)) (sym is) w, subst (λ bs. length g.list.items ≡ length bs) c.deref.ensures.value c.in_ok-found.ensures.count))

pub record_has-returns-in_err-fields_fit-clause-answer : goal.values::record_has-returns-in_err-fields_fit-clause-answer
record_has-returns-in_err-fields_fit-clause-answer t c =
    let e = environment_of c.args.env.now in
    let r = c.args.r.now in
    let g = c.in_ok-found.found in
    let y = c.in_err-fields_fit.field-0.0 in
    let is = subst (λ bs. found_for bs g ≡ none_found (plain_bounds bs)) c.deref.ensures.value c.in_ok-found.ensures.none in
    let h : IsRefused (rule e (has (fields_val c.args.span (field_vals_of c.args.fields.now)) (plain_record r))) y =
    record_refused e c.args.span (field_vals_of c.args.fields.now) (plain_bounds r.binders.items) (plain_types r.positional.items) (plain_labels r.labelled.items) y
    (subst (λ (x : Found). IsRefused (rule e (fits_record c.args.span (field_vals_of c.args.fields.now) r x)) y) is c.in_err-fields_fit.ensures.answer) in
    search (rules, h)

pub record_has-returns-clause-answer : goal.values::record_has-returns-clause-answer
record_has-returns-clause-answer t c =
    let e = environment_of c.args.env.now in
    let r = c.args.r.now in
    let g = c.in_ok-found.found in
    let args = plain_args c.in_ok-fields_fit.field-0.items in
    let is = subst (λ bs. found_for bs g ≡ none_found (plain_bounds bs)) c.deref.ensures.value c.in_ok-found.ensures.none in
    record_done e c.args.span (field_vals_of c.args.fields.now) (plain_bounds r.binders.items) (plain_types r.positional.items) (plain_labels r.labelled.items) args
    (subst (λ (x : Found). Runs (rule e (fits_record c.args.span (field_vals_of c.args.fields.now) r x)) (ok args)) is c.in_ok-fields_fit.ensures.answer)

-- what values have

pub has-channel_has-requires : goal.values::has-channel_has-requires
has-channel_has-requires t c =
    (search (rules, the_lemmas), subst (λ (v : Val). IsWellAsked nothing_ (environment_of c.args.env.now) (has v (plain c.args.t.now))) (channel_val c.args.v.now c.in-OfChan.c c.in-OfChan.is) c.requires.right)

pub has-returns-in-OfChan-clause-answer : goal.values::has-returns-in-OfChan-clause-answer
has-returns-in-OfChan-clause-answer t c =
    subst (λ (v : Val). IsAnswer (rule (environment_of c.args.env.now) (has v (plain c.args.t.now))) nothing c.channel_has.result) (sym (channel_val c.args.v.now c.in-OfChan.c c.in-OfChan.is)) c.channel_has.ensures.answer

pub has-record_has-requires : goal.values::has-record_has-requires
has-record_has-requires t c =
    let e = environment_of c.args.env.now in
    let i = c.in-Fields in
    let is = fields_read c.args.v.now i.span i.fields c.deref.result.now i.is c.deref.ensures in
    let w = subst (λ (v : Val). IsWellAsked nothing_ e (has v (plain c.args.t.now))) is c.requires.right in
    (search (rules, the_lemmas), subst (λ (u : PlainType). IsWellAsked nothing_ e (has (fields_val i.span (field_vals_of c.deref.result.now)) u)) c.in-Some.ensures.some w)

pub has-returns-in-Some-clause-answer : goal.values::has-returns-in-Some-clause-answer
has-returns-in-Some-clause-answer t c =
    let e = environment_of c.args.env.now in
    let i = c.in-Fields in
    let is = fields_read c.args.v.now i.span i.fields c.deref.result.now i.is c.deref.ensures in
    subst (λ (v : Val). IsAnswer (rule e (has v (plain c.args.t.now))) nothing c.record_has.result) (sym is)
    (subst (λ (u : PlainType). IsAnswer (rule e (has (fields_val i.span (field_vals_of c.deref.result.now)) u)) nothing c.record_has.result) (sym c.in-Some.ensures.some) c.record_has.ensures.answer)

pub has-gives_below-requires : goal.values::has-gives_below-requires
has-gives_below-requires t c =
    let e = environment_of c.args.env.now in
    let i = c.in-Fields in
    let is = fields_read c.args.v.now i.span i.fields i.fields.value i.is refl in
    let w = subst (λ (v : Val). IsWellAsked nothing_ e (has v (plain c.args.t.now))) is c.requires.right in
    (search (rules, the_lemmas), (subst (λ (v : Val). IsWellAsked type_ e (gives v)) (sym is) (record_below_asked e i.span _ (plain c.args.t.now) c.in-None.ensures.none w), c.requires.right.asked))

pub has-returns-in-None-clause-answer : goal.values::has-returns-in-None-clause-answer
has-returns-in-None-clause-answer t c =
    let e = environment_of c.args.env.now in
    let i = c.in-Fields in
    let is = fields_read c.args.v.now i.span i.fields i.fields.value i.is refl in
    subst (λ (v : Val). IsAnswer (rule e (has v (plain c.args.t.now))) nothing c.gives_below.result) (sym is)
    (record_below_end e i.span _ (plain c.args.t.now) c.gives_below.result c.in-None.ensures.none
    (subst (λ (v : Val). IsAnswer (below_rule e v (plain c.args.t.now) Y4) nothing c.gives_below.result) is c.gives_below.ensures.answer))

pub has-gives_below-requires-in-If : goal.values::has-gives_below-requires-in-If
has-gives_below-requires-in-If t c =
    let e = environment_of c.args.env.now in
    let i = c.in-If in
    let is = if_read c.args.v.now i.field-0 i.test i.yes i.no c.deref-in-If.result.now i.yes.value i.no.value i.is c.deref-in-If.ensures refl refl in
    (search (rules, the_lemmas), (has_test_asked e i.field-0 _ _ _ _ (subst (λ (v : Val). IsWellAsked nothing_ e (has v (plain c.args.t.now))) is c.requires.right), tt))

pub has-returns-in_err-gives_below-in-If-clause-answer : goal.values::has-returns-in_err-gives_below-in-If-clause-answer
has-returns-in_err-gives_below-in-If-clause-answer t c =
    let e = environment_of c.args.env.now in
    let i = c.in-If in
    let y = c.in_err-gives_below-in-If.field-0.0 in
    let is = if_read c.args.v.now i.field-0 i.test i.yes i.no c.deref-in-If.result.now i.yes.value i.no.value i.is c.deref-in-If.ensures refl refl in
    let h : IsRefused (rule e (has (val_of c.args.v.now) (plain c.args.t.now))) y = subst (λ (v : Val). IsRefused (rule e (has v (plain c.args.t.now))) y) (sym is) (has_test e i.field-0 _ _ _ _ y c.in_err-gives_below-in-If.ensures.answer) in
    search (rules, h)

pub has-has-requires : goal.values::has-has-requires
has-has-requires t c =
    let e = environment_of c.args.env.now in
    let i = c.in-If in
    let k = c.in_ok-gives_below-in-If.ensures in
    let is = if_read c.args.v.now i.field-0 i.test i.yes i.no c.deref-in-If.result.now c.deref-in-If-2.result.now i.no.value i.is c.deref-in-If.ensures c.deref-in-If-2.ensures refl in
    let w = subst (λ (v : Val). IsWellAsked nothing_ e (has v (plain c.args.t.now))) is c.requires.right in
    (search (rules, the_lemmas), asked_in (environment_of c.gives_below-in-If.new.env) e k.same.known (has_yes_asked e i.field-0 _ _ _ _ w k.answer))

pub has-returns-in_err-has-in-If-clause-answer : goal.values::has-returns-in_err-has-in-If-clause-answer
has-returns-in_err-has-in-If-clause-answer t c =
    let e = environment_of c.args.env.now in
    let i = c.in-If in
    let y = c.in_err-has-in-If.field-0.0 in
    let k = c.in_ok-gives_below-in-If.ensures in
    let is = if_read c.args.v.now i.field-0 i.test i.yes i.no c.deref-in-If.result.now c.deref-in-If-2.result.now i.no.value i.is c.deref-in-If.ensures c.deref-in-If-2.ensures refl in
    let h : IsRefused (rule e (has (val_of c.args.v.now) (plain c.args.t.now))) y =
    subst (λ (v : Val). IsRefused (rule e (has v (plain c.args.t.now))) y) (sym is)
    (has_yes e i.field-0 _ _ _ _ y k.answer (refused_in (has (val_of c.deref-in-If-2.result.now) (plain c.args.t.now)) y (environment_of c.gives_below-in-If.new.env) e k.same.known c.in_err-has-in-If.ensures.answer)) in
    search (rules, h)

pub has-has-requires-in-If : goal.values::has-has-requires-in-If
has-has-requires-in-If t c =
    let e = environment_of c.args.env.now in
    let i = c.in-If in
    let k = c.in_ok-gives_below-in-If.ensures in
    let l = c.in_ok-has-in-If.ensures in
    let is = if_read c.args.v.now i.field-0 i.test i.yes i.no c.deref-in-If.result.now c.deref-in-If-2.result.now c.deref-in-If-3.result.now i.is c.deref-in-If.ensures c.deref-in-If-2.ensures c.deref-in-If-3.ensures in
    let w = subst (λ (v : Val). IsWellAsked nothing_ e (has v (plain c.args.t.now))) is c.requires.right in
    let p = runs_in (has (val_of c.deref-in-If-2.result.now) (plain c.args.t.now)) (environment_of c.gives_below-in-If.new.env) e k.same.known l.answer in
    (search (rules, the_lemmas), asked_in (environment_of c.has.new.env) e (l.same.known ∙ k.same.known) (has_no_asked e i.field-0 _ _ _ _ w k.answer p))

pub has-returns-in_ok-has-in-If-clause-answer : goal.values::has-returns-in_ok-has-in-If-clause-answer
has-returns-in_ok-has-in-If-clause-answer t c =
    let e = environment_of c.args.env.now in
    let i = c.in-If in
    let k = c.in_ok-gives_below-in-If.ensures in
    let l = c.in_ok-has-in-If.ensures in
    let is = if_read c.args.v.now i.field-0 i.test i.yes i.no c.deref-in-If.result.now c.deref-in-If-2.result.now c.deref-in-If-3.result.now i.is c.deref-in-If.ensures c.deref-in-If-2.ensures c.deref-in-If-3.ensures in
    let p = runs_in (has (val_of c.deref-in-If-2.result.now) (plain c.args.t.now)) (environment_of c.gives_below-in-If.new.env) e k.same.known l.answer in
    subst (λ (v : Val). IsAnswer (rule e (has v (plain c.args.t.now))) nothing c.has-in-If.result) (sym is)
    (has_end e i.field-0 _ _ _ _ c.has-in-If.result k.answer p
    (answer_in (has (val_of c.deref-in-If-3.result.now) (plain c.args.t.now)) nothing c.has-in-If.result (environment_of c.has.new.env) e (l.same.known ∙ k.same.known) c.has-in-If.ensures.answer))

pub has-returns-in_ok-has-in-If-clause-same : goal.values::has-returns-in_ok-has-in-If-clause-same
has-returns-in_ok-has-in-If-clause-same t c =
    kept_on c.args.env.now c.has.new.env c.has-in-If.new.env c.has-in-If.result
    (kept_twice c.args.env.now c.gives_below-in-If.new.env c.has.new.env c.in_ok-gives_below-in-If.ensures.same c.in_ok-has-in-If.ensures.same) c.has-in-If.ensures.same

pub has-abstraction_against-requires : goal.values::has-abstraction_against-requires
has-abstraction_against-requires t c =
    let e = environment_of c.args.env.now in
    let i = c.in-Lambda in
    let is = lambda_read c.args.v.now i.field-0 i.abs c.deref-in-Some-as_sent.result.now i.is c.deref-in-Some-as_sent.ensures in
    (search (rules, the_lemmas), lambda_sent_asked e i.field-0 _ (plain c.args.t.now) (plain c.in-Some-as_sent.r.now) c.in-Some-as_sent.ensures.some (subst (λ (v : Val). IsWellAsked nothing_ e (has v (plain c.args.t.now))) is c.requires.right))

pub has-returns-in-Some-as_sent-clause-answer : goal.values::has-returns-in-Some-as_sent-clause-answer
has-returns-in-Some-as_sent-clause-answer t c =
    let e = environment_of c.args.env.now in
    let i = c.in-Lambda in
    let is = lambda_read c.args.v.now i.field-0 i.abs c.deref-in-Some-as_sent.result.now i.is c.deref-in-Some-as_sent.ensures in
    subst (λ (v : Val). IsAnswer (rule e (has v (plain c.args.t.now))) nothing c.abstraction_against.result) (sym is)
    (lambda_sent_end e i.field-0 _ (plain c.args.t.now) (plain c.in-Some-as_sent.r.now) c.abstraction_against.result c.in-Some-as_sent.ensures.some c.abstraction_against.ensures.answer)

pub has-gives_below-requires-in-None-as_sent : goal.values::has-gives_below-requires-in-None-as_sent
has-gives_below-requires-in-None-as_sent t c =
    let e = environment_of c.args.env.now in
    let i = c.in-Lambda in
    let is = lambda_read c.args.v.now i.field-0 i.abs i.abs.value i.is refl in
    let w = subst (λ (v : Val). IsWellAsked nothing_ e (has v (plain c.args.t.now))) is c.requires.right in
    (search (rules, the_lemmas), (subst (λ (v : Val). IsWellAsked type_ e (gives v)) (sym is) (lambda_below_asked e i.field-0 _ (plain c.args.t.now) c.in-None-as_sent.ensures.none w), c.requires.right.asked))

pub has-returns-in-None-as_sent-clause-answer : goal.values::has-returns-in-None-as_sent-clause-answer
has-returns-in-None-as_sent-clause-answer t c =
    let e = environment_of c.args.env.now in
    let i = c.in-Lambda in
    let is = lambda_read c.args.v.now i.field-0 i.abs i.abs.value i.is refl in
    subst (λ (v : Val). IsAnswer (rule e (has v (plain c.args.t.now))) nothing c.gives_below-in-None-as_sent.result) (sym is)
    (lambda_below_end e i.field-0 _ (plain c.args.t.now) c.gives_below-in-None-as_sent.result c.in-None-as_sent.ensures.none
    (subst (λ (v : Val). IsAnswer (below_rule e v (plain c.args.t.now) Y4) nothing c.gives_below-in-None-as_sent.result) is c.gives_below-in-None-as_sent.ensures.answer))

pub has-gives_below-requires-in-Number : goal.values::has-gives_below-requires-in-Number
has-gives_below-requires-in-Number t c =
    (search (rules, the_lemmas), (other_asked (environment_of c.args.env.now) (val_of c.args.v.now) (number_val c.in-Number.field-0 c.in-Number.field-1) (plain c.args.t.now) (number_form c.args.v.now c.in-Number.field-0 c.in-Number.field-1 c.in-Number.is) refl c.requires.right, c.requires.right.asked))

pub has-returns-in-Number-clause-answer : goal.values::has-returns-in-Number-clause-answer
has-returns-in-Number-clause-answer t c =
    other_end (environment_of c.args.env.now) (val_of c.args.v.now) (number_val c.in-Number.field-0 c.in-Number.field-1) (plain c.args.t.now) c.gives_below-in-Number.result (number_form c.args.v.now c.in-Number.field-0 c.in-Number.field-1 c.in-Number.is) refl c.gives_below-in-Number.ensures.answer

pub has-gives_below-requires-in-Character : goal.values::has-gives_below-requires-in-Character
has-gives_below-requires-in-Character t c =
    (search (rules, the_lemmas), (other_asked (environment_of c.args.env.now) (val_of c.args.v.now) (character_val c.in-Character.field-0 c.in-Character.field-1) (plain c.args.t.now) (character_form c.args.v.now c.in-Character.field-0 c.in-Character.field-1 c.in-Character.is) refl c.requires.right, c.requires.right.asked))

pub has-returns-in-Character-clause-answer : goal.values::has-returns-in-Character-clause-answer
has-returns-in-Character-clause-answer t c =
    other_end (environment_of c.args.env.now) (val_of c.args.v.now) (character_val c.in-Character.field-0 c.in-Character.field-1) (plain c.args.t.now) c.gives_below-in-Character.result (character_form c.args.v.now c.in-Character.field-0 c.in-Character.field-1 c.in-Character.is) refl c.gives_below-in-Character.ensures.answer

pub has-gives_below-requires-in-String : goal.values::has-gives_below-requires-in-String
has-gives_below-requires-in-String t c =
    (search (rules, the_lemmas), (other_asked (environment_of c.args.env.now) (val_of c.args.v.now) (string_val c.in-String.field-0 c.in-String.field-1) (plain c.args.t.now) (string_form c.args.v.now c.in-String.field-0 c.in-String.field-1 c.in-String.is) refl c.requires.right, c.requires.right.asked))

pub has-returns-in-String-clause-answer : goal.values::has-returns-in-String-clause-answer
has-returns-in-String-clause-answer t c =
    other_end (environment_of c.args.env.now) (val_of c.args.v.now) (string_val c.in-String.field-0 c.in-String.field-1) (plain c.args.t.now) c.gives_below-in-String.result (string_form c.args.v.now c.in-String.field-0 c.in-String.field-1 c.in-String.is) refl c.gives_below-in-String.ensures.answer

pub has-gives_below-requires-in-True : goal.values::has-gives_below-requires-in-True
has-gives_below-requires-in-True t c =
    (search (rules, the_lemmas), (other_asked (environment_of c.args.env.now) (val_of c.args.v.now) (true_val c.in-True.field-0) (plain c.args.t.now) (true_form c.args.v.now c.in-True.field-0 c.in-True.is) refl c.requires.right, c.requires.right.asked))

pub has-returns-in-True-clause-answer : goal.values::has-returns-in-True-clause-answer
has-returns-in-True-clause-answer t c =
    other_end (environment_of c.args.env.now) (val_of c.args.v.now) (true_val c.in-True.field-0) (plain c.args.t.now) c.gives_below-in-True.result (true_form c.args.v.now c.in-True.field-0 c.in-True.is) refl c.gives_below-in-True.ensures.answer

pub has-gives_below-requires-in-False : goal.values::has-gives_below-requires-in-False
has-gives_below-requires-in-False t c =
    (search (rules, the_lemmas), (other_asked (environment_of c.args.env.now) (val_of c.args.v.now) (false_val c.in-False.field-0) (plain c.args.t.now) (false_form c.args.v.now c.in-False.field-0 c.in-False.is) refl c.requires.right, c.requires.right.asked))

pub has-returns-in-False-clause-answer : goal.values::has-returns-in-False-clause-answer
has-returns-in-False-clause-answer t c =
    other_end (environment_of c.args.env.now) (val_of c.args.v.now) (false_val c.in-False.field-0) (plain c.args.t.now) c.gives_below-in-False.result (false_form c.args.v.now c.in-False.field-0 c.in-False.is) refl c.gives_below-in-False.ensures.answer
