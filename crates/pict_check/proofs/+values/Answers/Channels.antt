-- What channels give, and what they have; applications.
use Rattle.std.proofs.Common.{rules, refl, sym, ◌∙◌, ap, subst, arith, None, Some, ◌-◌}
use Rattle.std.specs.Option.{option_map}
use Rattle.pict_syntax.specs.declared.code.Code.TheVariants.{Y4}
use Rattle.pict_syntax.specs.declared.tree.Abs.TheViews.{out-FieldVals}
use Rattle.pict_syntax.specs.declared.tree.Val.{Val as RVal, the_lemmas}
use Rattle.pict_syntax.specs.Trees.{Chan, fold_chan, of_chan, use_chan}
use Rattle.pict_syntax.specs.PlainTrees.{annotation_of, chan_of, field_vals_of, held_annotation, type_of, val_of}
use Rattle.pict_syntax.specs.Grammar.{val_span, chan_span}
use Rattle.pict_types.specs.Kinds.{IsWellFormed}
use Rattle.pict_types.specs.Plain.{plain, plain_args}
use Rattle.pict_types.specs.Types.{PlainType}
use Rattle.pict_types.specs.Instances.{ArgsAreWellFormed}
use Rattle.pict_normal.specs.Written.{kinds_with}
use Rattle.pict_sub.specs.Exposing.{exposure}
use Rattle.pict_rules.specs.Clauses.{gives_below as below_rule, found_first}
use Rattle.pict_rules.specs.Derivations.{Runs}
use Rattle.pict_rules.specs.Environments.{Environment, context_of, shifted_by}
use Rattle.pict_rules.specs.Found.{Found}
use Rattle.pict_rules.specs.Shapes.{applicable}
use Rattle.pict_rules.specs.Regular.{IsExpected, kinds_in}
use Rattle.pict_rules.specs.Rules.{arguments_, nothing_, type_, application, gives, has, ok, declarations}
use Rattle.pict_rules.specs.Typing.{rule}
use Rattle.pict_infer.specs.Answering.{IsAnswer, IsRefused, nothing}
use Rattle.pict_infer.specs.Asking.{IsWellAsked}
use Rattle.pict_infer.specs.Environments.{environment_of}
use Rattle.pict_infer.proofs.GivingAsked.{asked_in, refused_in, runs_in}
use Rattle.pict_infer.proofs.Handed.{answer_err}
use Rattle.pict_lines.specs.Functions.{function_of, IsNoFunction}
use Rattle.pict_lines.specs.Lines.{application_end, formed, outside}
use Rattle.pict_check.specs.Records.{fits_record}
use Rattle.pict_check.proofs.ApplyEnds.{answer_formed, applied_is_formed, first_before, use_gives}
use Rattle.pict_check.proofs.ChannelEnds.{applied_asked, applied_refused, apply_end, apply_refused, block_asked, block_done, block_refused, body_asked, body_refused, fold_asked, fold_done, fold_refused, fold_value_refused, has_apply_done, has_apply_refused, has_block_asked, has_block_done, has_block_refused, has_body_asked, has_body_refused, has_head_asked, head_asked, open_fold_asked, open_fold_end, open_fold_refused, outside_refused}
use Rattle.pict_lines.proofs.Ends.{good_of, refused_here}
use Rattle.pict_check.proofs.FieldEnds.{application_done, fields_asked, fields_refused, head_refused as unapplied_refused}
use Rattle.pict_check.proofs.Forms.{fold_form, use_form}
use Rattle.pict_check.proofs.HasEnds.{other_asked, other_end}
use Rattle.pict_lines.proofs.Kept.{answer_in, given_there, grew_kept, grown_from, kept_any, kept_on, kept_twice, more_variables, opened_count, type_there}
use Rattle.pict_check.proofs.Read.{apply_read, block_read, fold_read, left_read, of_channel, right_read}
use Rattle.pict_check.proofs.RecordEnds.{none_on}
use Rattle.pict_check.proofs.ValueEnds.{below_there}
use Rattle.pict_check.proofs.NestedForms.{left_gives, left_has, right_gives, right_has}
use Rattle.pict_check.proofs.+values.Goals as goal
use Rattle.pict_scope.proofs.ValueForms.{field_vals_are}

-- CHANNELS

-- a channel below a type

pub channel_below-channel_gives-requires : goal.channels::channel_below-channel_gives-requires
channel_below-channel_gives-requires t c = (search (rules, the_lemmas), c.requires.right)

pub channel_below-returns-in_err-s-clause-answer : goal.channels::channel_below-returns-in_err-s-clause-answer
channel_below-returns-in_err-s-clause-answer t c =
    let e = environment_of c.args.env.now in
    let y = c.in_err-s.field-0.0 in
    let h : IsRefused (below_rule e (of_chan (chan_of c.args.c.now)) (plain c.args.t.now) Y4) y = refused_here e (gives (of_chan (chan_of c.args.c.now))) _ y c.in_err-s.ensures.answer in
    search (rules, h)

pub channel_below-below-requires-clause-s : goal.channels::channel_below-below-requires-clause-s
channel_below-below-requires-clause-s t c =
    given_there (environment_of c.channel_gives.new.env) (environment_of c.args.env.now) (of_chan (chan_of c.args.c.now)) (plain c.in_ok-s.s) c.in_ok-s.ensures.same.known c.requires.right c.in_ok-s.ensures.answer

pub channel_below-below-requires-clause-t : goal.channels::channel_below-below-requires-clause-t
channel_below-below-requires-clause-t t c = type_there (environment_of c.channel_gives.new.env) (environment_of c.args.env.now) (plain c.args.t.now) c.in_ok-s.ensures.same.known c.requires.t

pub channel_below-returns-clause-answer : goal.channels::channel_below-returns-clause-answer
channel_below-returns-clause-answer t c =
    below_there (environment_of c.channel_gives.new.env) (environment_of c.args.env.now) (of_chan (chan_of c.args.c.now)) (plain c.args.t.now) (plain c.in_ok-s.s) Y4 c.chan_span.result c.below.result
    c.in_ok-s.ensures.same.known c.chan_span.ensures c.in_ok-s.ensures.answer c.below.ensures

pub channel_below-returns-clause-same : goal.channels::channel_below-returns-clause-same
channel_below-returns-clause-same t c = kept_any c.args.env.now c.channel_gives.new.env c.below.result c.in_ok-s.ensures.same

-- what channels give

pub channel_gives-returns-in_ok-type_of_use-in-Use-clause-answer : goal.channels::channel_gives-returns-in_ok-type_of_use-in-Use-clause-answer
channel_gives-returns-in_ok-type_of_use-in-Use-clause-answer t c =
    let i = c.in-Use in
    use_gives (environment_of c.args.env.now) (chan_of c.args.c.now) i.field-0 i.name (plain c.in_ok-type_of_use-in-Use.field-0) (use_form c.args.c.now i.field-0 i.name i.is) c.in_ok-type_of_use-in-Use.ensures

pub channel_gives-annotated_fold-requires : goal.channels::channel_gives-annotated_fold-requires
channel_gives-annotated_fold-requires t c =
    let i = c.in-Fold in
    let w = subst (λ (x : Chan). IsWellAsked type_ (environment_of c.args.env.now) (gives (of_chan x))) (fold_form c.args.c.now i.span i.annotation i.v i.is) c.requires.right in
    record { labels = w.labels.0 }

pub channel_gives-returns-in_err-fold-in-Fold-clause-answer : goal.channels::channel_gives-returns-in_err-fold-in-Fold-clause-answer
channel_gives-returns-in_err-fold-in-Fold-clause-answer t c =
    let e = environment_of c.args.env.now in
    let i = c.in-Fold in
    let y = c.in_err-fold-in-Fold.field-0.0 in
    let h : IsRefused (rule e (gives (of_chan (chan_of c.args.c.now)))) y =
    subst (λ (x : Chan). IsRefused (rule e (gives (of_chan x))) y) (sym (fold_form c.args.c.now i.span i.annotation i.v i.is)) (fold_refused e i.span (annotation_of i.annotation) _ y c.in_err-fold-in-Fold.ensures.answer) in
    search (rules, h)

pub channel_gives-has-requires : goal.channels::channel_gives-has-requires
channel_gives-has-requires t c =
    let e = environment_of c.args.env.now in
    let i = c.in-Fold in
    let is = fold_read c.args.c.now i.span i.annotation i.v c.deref.result.now i.is c.deref.ensures in
    let w = subst (λ (x : Chan). IsWellAsked type_ e (gives (of_chan x))) is c.requires.right in
    (search (rules, the_lemmas), fold_asked e i.span (annotation_of i.annotation) _ (plain c.in_ok-fold-in-Fold.fold.unfolding) w c.in_ok-fold-in-Fold.ensures.formed)

pub channel_gives-returns-in_err-has-in-Fold-clause-answer : goal.channels::channel_gives-returns-in_err-has-in-Fold-clause-answer
channel_gives-returns-in_err-has-in-Fold-clause-answer t c =
    let e = environment_of c.args.env.now in
    let i = c.in-Fold in
    let y = c.in_err-has-in-Fold.field-0.0 in
    let is = fold_read c.args.c.now i.span i.annotation i.v c.deref.result.now i.is c.deref.ensures in
    let h : IsRefused (rule e (gives (of_chan (chan_of c.args.c.now)))) y =
    subst (λ (x : Chan). IsRefused (rule e (gives (of_chan x))) y) (sym is)
    (fold_value_refused e i.span (annotation_of i.annotation) _ _ _ y c.in_ok-fold-in-Fold.ensures.answer c.in_err-has-in-Fold.ensures.answer) in
    search (rules, h)

pub channel_gives-returns-in_ok-has-in-Fold-clause-answer : goal.channels::channel_gives-returns-in_ok-has-in-Fold-clause-answer
channel_gives-returns-in_ok-has-in-Fold-clause-answer t c =
    let e = environment_of c.args.env.now in
    let i = c.in-Fold in
    let f = c.in_ok-fold-in-Fold.fold in
    let is = fold_read c.args.c.now i.span i.annotation i.v c.deref.result.now i.is c.deref.ensures in
    subst (λ (x : Chan). Runs (rule e (gives (of_chan x))) (ok (plain f.folded))) (sym is)
    (fold_done e i.span (annotation_of i.annotation) _ (plain f.folded) (plain f.unfolding) c.in_ok-fold-in-Fold.ensures.answer c.in_ok-has-in-Fold.ensures.answer)

-- a block

pub channel_gives-declarations-requires : goal.channels::channel_gives-declarations-requires
channel_gives-declarations-requires t c =
    let e = environment_of c.args.env.now in
    let i = c.in-Block in
    let is = block_read c.args.c.now i.span i.ds i.v c.deref-in-Block.result.now i.v.value i.is c.deref-in-Block.ensures.value refl in
    (search (rules, the_lemmas), block_asked e i.span _ _ (subst (λ (x : Chan). IsWellAsked type_ e (gives (of_chan x))) is c.requires.right))

pub channel_gives-returns-in_err-declarations-in-Block-clause-answer : goal.channels::channel_gives-returns-in_err-declarations-in-Block-clause-answer
channel_gives-returns-in_err-declarations-in-Block-clause-answer t c =
    let e = environment_of c.args.env.now in
    let i = c.in-Block in
    let y = c.in_err-declarations-in-Block.field-0.0 in
    let is = block_read c.args.c.now i.span i.ds i.v c.deref-in-Block.result.now i.v.value i.is c.deref-in-Block.ensures.value refl in
    let h : IsRefused (rule e (gives (of_chan (chan_of c.args.c.now)))) y =
    subst (λ (x : Chan). IsRefused (rule e (gives (of_chan x))) y) (sym is) (block_refused e i.span _ _ y c.in_err-declarations-in-Block.ensures.answer) in
    search (rules, h)

pub channel_gives-overflow_sub-opened : goal.channels::channel_gives-overflow_sub-opened
channel_gives-overflow_sub-opened t c =
    let m = more_variables c.args.env.now c.declarations.new.env c.in_ok-declarations-in-Block.ensures.grew in
    omega (arith, m, c.variables-around.ensures, c.variables.ensures)

pub channel_gives-gives-requires : goal.channels::channel_gives-gives-requires
channel_gives-gives-requires t c =
    let e = environment_of c.args.env.now in
    let i = c.in-Block in
    let is = block_read c.args.c.now i.span i.ds i.v c.deref-in-Block.result.now c.deref-in-Block-2.result.now i.is c.deref-in-Block.ensures.value c.deref-in-Block-2.ensures in
    let w = subst (λ (x : Chan). IsWellAsked type_ e (gives (of_chan x))) is c.requires.right in
    (search (rules, the_lemmas), body_asked e (environment_of c.declarations.new.env) i.span _ _ w c.in_ok-declarations-in-Block.ensures.answer)

pub channel_gives-returns-in_err-given-in-Block-clause-answer : goal.channels::channel_gives-returns-in_err-given-in-Block-clause-answer
channel_gives-returns-in_err-given-in-Block-clause-answer t c =
    let e = environment_of c.args.env.now in
    let i = c.in-Block in
    let y = c.in_err-given-in-Block.field-0.0 in
    let is = block_read c.args.c.now i.span i.ds i.v c.deref-in-Block.result.now c.deref-in-Block-2.result.now i.is c.deref-in-Block.ensures.value c.deref-in-Block-2.ensures in
    let h : IsRefused (rule e (gives (of_chan (chan_of c.args.c.now)))) y =
    subst (λ (x : Chan). IsRefused (rule e (gives (of_chan x))) y) (sym is)
    (body_refused e (environment_of c.declarations.new.env) i.span _ _ y c.in_ok-declarations-in-Block.ensures.answer c.in_err-given-in-Block.ensures.answer) in
    search (rules, h)

pub channel_gives-returns-in_err-t-in-Block-clause-answer : goal.channels::channel_gives-returns-in_err-t-in-Block-clause-answer
channel_gives-returns-in_err-t-in-Block-clause-answer t c =
    let e = environment_of c.args.env.now in
    let d = environment_of c.declarations.new.env in
    let i = c.in-Block in
    let y = c.in_err-t-in-Block.field-0.0 in
    let u = plain c.in_ok-given-in-Block.given in
    let is = block_read c.args.c.now i.span i.ds i.v c.deref-in-Block.result.now c.deref-in-Block-2.result.now i.is c.deref-in-Block.ensures.value c.deref-in-Block-2.ensures in
    let n = opened_count c.args.env.now c.declarations.new.env c.variables-around.result c.variables.result _ c.variables-around.ensures c.variables.ensures refl in
    let h : IsRefused (rule e (gives (of_chan (chan_of c.args.c.now)))) y =
    subst (λ (x : Chan). IsRefused (rule e (gives (of_chan x))) y) (sym is)
    (outside_refused e d i.span _ _ u y c.in_ok-declarations-in-Block.ensures.answer c.in_ok-given-in-Block.ensures.answer
    (subst (λ k. IsRefused (outside k u i.span) y) n c.in_err-t-in-Block.ensures)) in
    search (rules, h)

pub channel_gives-cut-requires : goal.channels::channel_gives-cut-requires
channel_gives-cut-requires t c =
    let g = grew_kept c.args.env.now c.declarations.new.env c.gives.new.env c.in_ok-declarations-in-Block.ensures.grew c.in_ok-given-in-Block.ensures.same in
    record { grown = grown_from c.place-outer.result c.args.env.now c.gives.new.env c.place-outer.ensures g }

pub channel_gives-returns-in_ok-t-in-Block-clause-answer : goal.channels::channel_gives-returns-in_ok-t-in-Block-clause-answer
channel_gives-returns-in_ok-t-in-Block-clause-answer t c =
    let e = environment_of c.args.env.now in
    let d = environment_of c.declarations.new.env in
    let i = c.in-Block in
    let u = plain c.in_ok-given-in-Block.given in
    let v = plain c.in_ok-t-in-Block.t in
    let is = block_read c.args.c.now i.span i.ds i.v c.deref-in-Block.result.now c.deref-in-Block-2.result.now i.is c.deref-in-Block.ensures.value c.deref-in-Block-2.ensures in
    let n = opened_count c.args.env.now c.declarations.new.env c.variables-around.result c.variables.result _ c.variables-around.ensures c.variables.ensures refl in
    subst (λ (x : Chan). Runs (rule e (gives (of_chan x))) (ok v)) (sym is)
    (block_done e d i.span _ _ u v c.in_ok-declarations-in-Block.ensures.answer c.in_ok-given-in-Block.ensures.answer
    (subst (λ k. Runs (outside k u i.span) (ok v)) n c.in_ok-t-in-Block.ensures))

pub channel_gives-returns-in_ok-t-in-Block-clause-same : goal.channels::channel_gives-returns-in_ok-t-in-Block-clause-same
channel_gives-returns-in_ok-t-in-Block-clause-same t c =
    let g = grew_kept c.args.env.now c.declarations.new.env c.gives.new.env c.in_ok-declarations-in-Block.ensures.grew c.in_ok-given-in-Block.ensures.same in
    c.cut.ensures c.args.env.now c.place-outer.ensures g

-- an application

pub channel_gives-gives-requires-in-Apply : goal.channels::channel_gives-gives-requires-in-Apply
channel_gives-gives-requires-in-Apply t c =
    let e = environment_of c.args.env.now in
    let i = c.in-Apply in
    let is = apply_read c.args.c.now i.span i.f i.fields c.deref-in-Apply.result.now i.fields.value i.is c.deref-in-Apply.ensures refl in
    let w = subst (λ (x : Chan). IsWellAsked type_ e (gives (of_chan x))) is c.requires.right in
    (search (rules, the_lemmas), applied_asked e i.span _ _ None (head_asked e i.span _ _ w))

pub channel_gives-returns-in_err-t-in-Apply-clause-answer : goal.channels::channel_gives-returns-in_err-t-in-Apply-clause-answer
channel_gives-returns-in_err-t-in-Apply-clause-answer t c =
    let e = environment_of c.args.env.now in
    let i = c.in-Apply in
    let y = c.in_err-t-in-Apply.field-0.0 in
    let is = apply_read c.args.c.now i.span i.f i.fields c.deref-in-Apply.result.now i.fields.value i.is c.deref-in-Apply.ensures refl in
    let h : IsRefused (rule e (gives (of_chan (chan_of c.args.c.now)))) y =
    subst (λ (x : Chan). IsRefused (rule e (gives (of_chan x))) y) (sym is) (apply_refused e i.span _ _ y (applied_refused e i.span _ _ None y c.in_err-t-in-Apply.ensures.answer)) in
    search (rules, h)

pub channel_gives-application-requires : goal.channels::channel_gives-application-requires
channel_gives-application-requires t c =
    let e = environment_of c.args.env.now in
    let d = environment_of c.gives-in-Apply.new.env in
    let i = c.in-Apply in
    let k = c.in_ok-t-in-Apply.ensures in
    let f = c.deref-in-Apply-3.result.now in
    let is = apply_read c.args.c.now i.span i.f i.fields f c.deref-in-Apply-2.result.now i.is c.deref-in-Apply-3.ensures c.deref-in-Apply-2.ensures in
    let same = c.deref-in-Apply.ensures ∙ sym c.deref-in-Apply-3.ensures in
    let w = subst (λ (x : Chan). IsWellAsked type_ e (gives (of_chan x))) is c.requires.right in
    (search (rules, the_lemmas), (asked_in d e k.same.known (head_asked e i.span _ _ w), subst (λ (x : RVal). Runs (rule d (gives (val_of x))) (ok (plain c.in_ok-t-in-Apply.t))) same (runs_in (gives (val_of c.deref-in-Apply.result.now)) e d (sym k.same.known) k.answer)))

pub channel_gives-returns-in_ok-t-in-Apply-clause-answer : goal.channels::channel_gives-returns-in_ok-t-in-Apply-clause-answer
channel_gives-returns-in_ok-t-in-Apply-clause-answer t c =
    let e = environment_of c.args.env.now in
    let i = c.in-Apply in
    let k = c.in_ok-t-in-Apply.ensures in
    let is = apply_read c.args.c.now i.span i.f i.fields c.deref-in-Apply-3.result.now c.deref-in-Apply-2.result.now i.is c.deref-in-Apply-3.ensures c.deref-in-Apply-2.ensures in
    subst (λ (x : Chan). IsAnswer (rule e (gives (of_chan x))) plain c.application.result) (sym is)
    (apply_end plain e i.span _ _ c.application.result
    (answer_in (application i.span (val_of c.deref-in-Apply-3.result.now) (field_vals_of c.deref-in-Apply-2.result.now) None) plain c.application.result (environment_of c.gives-in-Apply.new.env) e k.same.known c.application.ensures.answer))

pub channel_gives-returns-in_ok-t-in-Apply-clause-same : goal.channels::channel_gives-returns-in_ok-t-in-Apply-clause-same
channel_gives-returns-in_ok-t-in-Apply-clause-same t c =
    kept_on c.args.env.now c.gives-in-Apply.new.env c.application.new.env c.application.result c.in_ok-t-in-Apply.ensures.same c.application.ensures.same

-- what channels have

pub channel_has-channel_below-requires : goal.channels::channel_has-channel_below-requires
channel_has-channel_below-requires t c =
    let e = environment_of c.args.env.now in
    let i = c.in-Use in
    (search (rules, the_lemmas), (other_asked e (of_chan (chan_of c.args.c.now)) (of_chan (use_chan i.field-0 i.field-1)) (plain c.args.t.now) (of_channel (use_form c.args.c.now i.field-0 i.field-1 i.is)) refl c.requires.right, c.requires.right.asked))

pub channel_has-returns-in-Use-clause-answer : goal.channels::channel_has-returns-in-Use-clause-answer
channel_has-returns-in-Use-clause-answer t c =
    let i = c.in-Use in
    other_end (environment_of c.args.env.now) (of_chan (chan_of c.args.c.now)) (of_chan (use_chan i.field-0 i.field-1)) (plain c.args.t.now) c.channel_below.result (of_channel (use_form c.args.c.now i.field-0 i.field-1 i.is)) refl c.channel_below.ensures.answer

pub channel_has-channel_below-requires-in-Some : goal.channels::channel_has-channel_below-requires-in-Some
channel_has-channel_below-requires-in-Some t c =
    let e = environment_of c.args.env.now in
    let i = c.in-Fold in
    let a = type_of c.in-Some.field-0.value in
    let is = of_channel (fold_form c.args.c.now i.span i.annotation i.v i.is ∙ ap (λ z. fold_chan i.span z (val_of i.v.value)) (ap held_annotation c.in-Some.is)) in
    (search (rules, the_lemmas), (other_asked e (of_chan (chan_of c.args.c.now)) (of_chan (fold_chan i.span (Some a) (val_of i.v.value))) (plain c.args.t.now) is refl c.requires.right, c.requires.right.asked))

pub channel_has-returns-in-Some-clause-answer : goal.channels::channel_has-returns-in-Some-clause-answer
channel_has-returns-in-Some-clause-answer t c =
    let e = environment_of c.args.env.now in
    let i = c.in-Fold in
    let a = type_of c.in-Some.field-0.value in
    let is = of_channel (fold_form c.args.c.now i.span i.annotation i.v i.is ∙ ap (λ z. fold_chan i.span z (val_of i.v.value)) (ap held_annotation c.in-Some.is)) in
    other_end e (of_chan (chan_of c.args.c.now)) (of_chan (fold_chan i.span (Some a) (val_of i.v.value))) (plain c.args.t.now) c.channel_below-in-Some.result is refl c.channel_below-in-Some.ensures.answer

pub channel_has-fold_unfolding-requires : goal.channels::channel_has-fold_unfolding-requires
channel_has-fold_unfolding-requires t c = record { t = c.requires.right.asked }

pub channel_has-returns-in_err-unfolding-in-None-clause-answer : goal.channels::channel_has-returns-in_err-unfolding-in-None-clause-answer
channel_has-returns-in_err-unfolding-in-None-clause-answer t c =
    let e = environment_of c.args.env.now in
    let i = c.in-Fold in
    let y = c.in_err-unfolding-in-None.field-0.0 in
    let is = fold_form c.args.c.now i.span i.annotation i.v i.is ∙ ap (λ z. fold_chan i.span z (val_of i.v.value)) (ap held_annotation c.in-None.is) in
    let h : IsRefused (rule e (has (of_chan (chan_of c.args.c.now)) (plain c.args.t.now))) y =
    subst (λ (x : Chan). IsRefused (rule e (has (of_chan x) (plain c.args.t.now))) y) (sym is) (open_fold_refused e i.span (val_of i.v.value) (plain c.args.t.now) y c.in_err-unfolding-in-None.ensures.answer) in
    search (rules, h)

pub channel_has-has-requires : goal.channels::channel_has-has-requires
channel_has-has-requires t c =
    let e = environment_of c.args.env.now in
    let i = c.in-Fold in
    let is = fold_read c.args.c.now i.span i.annotation i.v c.deref.result.now i.is c.deref.ensures ∙ ap (λ z. fold_chan i.span z (val_of c.deref.result.now)) (ap held_annotation c.in-None.is) in
    let w = subst (λ (x : Chan). IsWellAsked nothing_ e (has (of_chan x) (plain c.args.t.now))) is c.requires.right in
    (search (rules, the_lemmas), open_fold_asked e i.span (val_of c.deref.result.now) (plain c.args.t.now) (plain c.in_ok-unfolding-in-None.unfolding) w c.in_ok-unfolding-in-None.ensures.formed)

pub channel_has-returns-in_ok-unfolding-in-None-clause-answer : goal.channels::channel_has-returns-in_ok-unfolding-in-None-clause-answer
channel_has-returns-in_ok-unfolding-in-None-clause-answer t c =
    let e = environment_of c.args.env.now in
    let i = c.in-Fold in
    let is = fold_read c.args.c.now i.span i.annotation i.v c.deref.result.now i.is c.deref.ensures ∙ ap (λ z. fold_chan i.span z (val_of c.deref.result.now)) (ap held_annotation c.in-None.is) in
    subst (λ (x : Chan). IsAnswer (rule e (has (of_chan x) (plain c.args.t.now))) nothing c.has.result) (sym is)
    (open_fold_end e i.span (val_of c.deref.result.now) (plain c.args.t.now) (plain c.in_ok-unfolding-in-None.unfolding) c.has.result c.in_ok-unfolding-in-None.ensures.answer c.has.ensures.answer)

-- a block

pub channel_has-declarations-requires : goal.channels::channel_has-declarations-requires
channel_has-declarations-requires t c =
    let e = environment_of c.args.env.now in
    let i = c.in-Block in
    let is = block_read c.args.c.now i.field-0 i.ds i.v c.deref-in-Block.result.now i.v.value i.is c.deref-in-Block.ensures.value refl in
    (search (rules, the_lemmas), has_block_asked e i.field-0 _ _ _ (subst (λ (x : Chan). IsWellAsked nothing_ e (has (of_chan x) (plain c.args.t.now))) is c.requires.right))

pub channel_has-returns-in_err-declarations-in-Block-clause-answer : goal.channels::channel_has-returns-in_err-declarations-in-Block-clause-answer
channel_has-returns-in_err-declarations-in-Block-clause-answer t c =
    let e = environment_of c.args.env.now in
    let i = c.in-Block in
    let y = c.in_err-declarations-in-Block.field-0.0 in
    let is = block_read c.args.c.now i.field-0 i.ds i.v c.deref-in-Block.result.now i.v.value i.is c.deref-in-Block.ensures.value refl in
    let h : IsRefused (rule e (has (of_chan (chan_of c.args.c.now)) (plain c.args.t.now))) y =
    subst (λ (x : Chan). IsRefused (rule e (has (of_chan x) (plain c.args.t.now))) y) (sym is) (has_block_refused e i.field-0 _ _ _ y c.in_err-declarations-in-Block.ensures.answer) in
    search (rules, h)

pub channel_has-overflow_sub-opened : goal.channels::channel_has-overflow_sub-opened
channel_has-overflow_sub-opened t c =
    let m = more_variables c.args.env.now c.declarations.new.env c.in_ok-declarations-in-Block.ensures.grew in
    omega (arith, m, c.variables-around.ensures, c.variables.ensures)

pub channel_has-has-requires-in-Block : goal.channels::channel_has-has-requires-in-Block
channel_has-has-requires-in-Block t c =
    let e = environment_of c.args.env.now in
    let d = environment_of c.declarations.new.env in
    let i = c.in-Block in
    let v = val_of c.deref-in-Block-2.result.now in
    let is = block_read c.args.c.now i.field-0 i.ds i.v c.deref-in-Block.result.now c.deref-in-Block-2.result.now i.is c.deref-in-Block.ensures.value c.deref-in-Block-2.ensures in
    let w = subst (λ (x : Chan). IsWellAsked nothing_ e (has (of_chan x) (plain c.args.t.now))) is c.requires.right in
    let n = opened_count c.args.env.now c.declarations.new.env c.variables-around.result c.variables.result _ c.variables-around.ensures c.variables.ensures refl in
    (search (rules, the_lemmas), subst (λ (u : PlainType). IsWellAsked nothing_ d (has v u)) (sym (c.in_ok-inside-in-Block.ensures ∙ ap (λ k. shifted_by k (plain c.args.t.now)) n)) (has_body_asked e d i.field-0 _ v (plain c.args.t.now) w c.in_ok-declarations-in-Block.ensures.answer))

pub channel_has-returns-in_err-has-in-Block-clause-answer : goal.channels::channel_has-returns-in_err-has-in-Block-clause-answer
channel_has-returns-in_err-has-in-Block-clause-answer t c =
    let e = environment_of c.args.env.now in
    let d = environment_of c.declarations.new.env in
    let i = c.in-Block in
    let y = c.in_err-has-in-Block.field-0.0 in
    let v = val_of c.deref-in-Block-2.result.now in
    let is = block_read c.args.c.now i.field-0 i.ds i.v c.deref-in-Block.result.now c.deref-in-Block-2.result.now i.is c.deref-in-Block.ensures.value c.deref-in-Block-2.ensures in
    let n = opened_count c.args.env.now c.declarations.new.env c.variables-around.result c.variables.result _ c.variables-around.ensures c.variables.ensures refl in
    let h : IsRefused (rule e (has (of_chan (chan_of c.args.c.now)) (plain c.args.t.now))) y =
    subst (λ (x : Chan). IsRefused (rule e (has (of_chan x) (plain c.args.t.now))) y) (sym is)
    (has_body_refused e d i.field-0 _ v (plain c.args.t.now) y c.in_ok-declarations-in-Block.ensures.answer
    (subst (λ (u : PlainType). IsRefused (rule d (has v u)) y) (c.in_ok-inside-in-Block.ensures ∙ ap (λ k. shifted_by k (plain c.args.t.now)) n) c.in_err-has-in-Block.ensures.answer)) in
    search (rules, h)

pub channel_has-cut-requires : goal.channels::channel_has-cut-requires
channel_has-cut-requires t c =
    let g = grew_kept c.args.env.now c.declarations.new.env c.has-in-Block.new.env c.in_ok-declarations-in-Block.ensures.grew c.in_ok-has-in-Block.ensures.same in
    record { grown = grown_from c.place-outer.result c.args.env.now c.has-in-Block.new.env c.place-outer.ensures g }

pub channel_has-returns-in_ok-has-in-Block-clause-answer : goal.channels::channel_has-returns-in_ok-has-in-Block-clause-answer
channel_has-returns-in_ok-has-in-Block-clause-answer t c =
    let e = environment_of c.args.env.now in
    let d = environment_of c.declarations.new.env in
    let i = c.in-Block in
    let v = val_of c.deref-in-Block-2.result.now in
    let is = block_read c.args.c.now i.field-0 i.ds i.v c.deref-in-Block.result.now c.deref-in-Block-2.result.now i.is c.deref-in-Block.ensures.value c.deref-in-Block-2.ensures in
    let n = opened_count c.args.env.now c.declarations.new.env c.variables-around.result c.variables.result _ c.variables-around.ensures c.variables.ensures refl in
    subst (λ (x : Chan). Runs (rule e (has (of_chan x) (plain c.args.t.now))) (ok tt)) (sym is)
    (has_block_done e d i.field-0 _ v (plain c.args.t.now) c.in_ok-declarations-in-Block.ensures.answer
    (subst (λ (u : PlainType). Runs (rule d (has v u)) (ok tt)) (c.in_ok-inside-in-Block.ensures ∙ ap (λ k. shifted_by k (plain c.args.t.now)) n) c.in_ok-has-in-Block.ensures.answer))

pub channel_has-returns-in_ok-has-in-Block-clause-same : goal.channels::channel_has-returns-in_ok-has-in-Block-clause-same
channel_has-returns-in_ok-has-in-Block-clause-same t c =
    let g = grew_kept c.args.env.now c.declarations.new.env c.has-in-Block.new.env c.in_ok-declarations-in-Block.ensures.grew c.in_ok-has-in-Block.ensures.same in
    c.cut.ensures c.args.env.now c.place-outer.ensures g

-- an application of which the type is expected

pub channel_has-gives-requires : goal.channels::channel_has-gives-requires
channel_has-gives-requires t c =
    let e = environment_of c.args.env.now in
    let i = c.in-Apply in
    let is = apply_read c.args.c.now i.span i.f i.fields c.deref-in-Apply.result.now i.fields.value i.is c.deref-in-Apply.ensures refl in
    let w = subst (λ (x : Chan). IsWellAsked nothing_ e (has (of_chan x) (plain c.args.t.now))) is c.requires.right in
    (search (rules, the_lemmas), applied_asked e i.span _ _ (Some (plain c.args.t.now)) (has_head_asked e i.span _ _ _ w))

pub channel_has-returns-in_err-head-in-Apply-clause-answer : goal.channels::channel_has-returns-in_err-head-in-Apply-clause-answer
channel_has-returns-in_err-head-in-Apply-clause-answer t c =
    let e = environment_of c.args.env.now in
    let i = c.in-Apply in
    let y = c.in_err-head-in-Apply.field-0.0 in
    let is = apply_read c.args.c.now i.span i.f i.fields c.deref-in-Apply.result.now i.fields.value i.is c.deref-in-Apply.ensures refl in
    let h : IsRefused (rule e (has (of_chan (chan_of c.args.c.now)) (plain c.args.t.now))) y =
    subst (λ (x : Chan). IsRefused (rule e (has (of_chan x) (plain c.args.t.now))) y) (sym is) (has_apply_refused e i.span _ _ _ y (applied_refused e i.span _ _ (Some (plain c.args.t.now)) y c.in_err-head-in-Apply.ensures.answer)) in
    search (rules, h)

pub channel_has-application-requires : goal.channels::channel_has-application-requires
channel_has-application-requires t c =
    let e = environment_of c.args.env.now in
    let d = environment_of c.gives.new.env in
    let i = c.in-Apply in
    let k = c.in_ok-head-in-Apply.ensures in
    let f = c.deref-in-Apply-3.result.now in
    let is = apply_read c.args.c.now i.span i.f i.fields f c.deref-in-Apply-2.result.now i.is c.deref-in-Apply-3.ensures c.deref-in-Apply-2.ensures in
    let same = c.deref-in-Apply.ensures ∙ sym c.deref-in-Apply-3.ensures in
    let w = subst (λ (x : Chan). IsWellAsked nothing_ e (has (of_chan x) (plain c.args.t.now))) is c.requires.right in
    (search (rules, the_lemmas), (asked_in d e k.same.known (has_head_asked e i.span _ _ _ w), subst (λ (x : RVal). Runs (rule d (gives (val_of x))) (ok (plain c.in_ok-head-in-Apply.head))) same (runs_in (gives (val_of c.deref-in-Apply.result.now)) e d (sym k.same.known) k.answer)))

pub channel_has-returns-in_err-application-in-Apply-clause-answer : goal.channels::channel_has-returns-in_err-application-in-Apply-clause-answer
channel_has-returns-in_err-application-in-Apply-clause-answer t c =
    let e = environment_of c.args.env.now in
    let i = c.in-Apply in
    let y = c.in_err-application-in-Apply.field-0.0 in
    let k = c.in_ok-head-in-Apply.ensures in
    let is = apply_read c.args.c.now i.span i.f i.fields c.deref-in-Apply-3.result.now c.deref-in-Apply-2.result.now i.is c.deref-in-Apply-3.ensures c.deref-in-Apply-2.ensures in
    let h : IsRefused (rule e (has (of_chan (chan_of c.args.c.now)) (plain c.args.t.now))) y =
    subst (λ (x : Chan). IsRefused (rule e (has (of_chan x) (plain c.args.t.now))) y) (sym is)
    (has_apply_refused e i.span _ _ _ y
    (refused_in (application i.span (val_of c.deref-in-Apply-3.result.now) (field_vals_of c.deref-in-Apply-2.result.now) (Some (plain c.args.t.now))) y (environment_of c.gives.new.env) e k.same.known c.in_err-application-in-Apply.ensures.answer)) in
    search (rules, h)

pub channel_has-returns-in_ok-application-in-Apply-clause-answer : goal.channels::channel_has-returns-in_ok-application-in-Apply-clause-answer
channel_has-returns-in_ok-application-in-Apply-clause-answer t c =
    let e = environment_of c.args.env.now in
    let i = c.in-Apply in
    let k = c.in_ok-head-in-Apply.ensures in
    let is = apply_read c.args.c.now i.span i.f i.fields c.deref-in-Apply-3.result.now c.deref-in-Apply-2.result.now i.is c.deref-in-Apply-3.ensures c.deref-in-Apply-2.ensures in
    subst (λ (x : Chan). Runs (rule e (has (of_chan x) (plain c.args.t.now))) (ok tt)) (sym is)
    (has_apply_done e i.span _ _ _ _
    (runs_in (application i.span (val_of c.deref-in-Apply-3.result.now) (field_vals_of c.deref-in-Apply-2.result.now) (Some (plain c.args.t.now))) (environment_of c.gives.new.env) e k.same.known c.in_ok-application-in-Apply.ensures.answer))

pub channel_has-returns-in_ok-application-in-Apply-clause-same : goal.channels::channel_has-returns-in_ok-application-in-Apply-clause-same
channel_has-returns-in_ok-application-in-Apply-clause-same t c =
    kept_twice c.args.env.now c.gives.new.env c.application.new.env c.in_ok-head-in-Apply.ensures.same c.in_ok-application-in-Apply.ensures.same

-- forms from the right and from the left

pub channel_gives-right_gives-requires : goal.channels::channel_gives-right_gives-requires
channel_gives-right_gives-requires t c =
    let i = c.in-Right in
    (search (rules, the_lemmas), subst (λ (x : Chan). IsWellAsked type_ (environment_of c.args.env.now) (gives (of_chan x))) (right_read c.args.c.now i.span i.name i.vs c.deref-in-Right.result.now i.is c.deref-in-Right.ensures.value) c.requires.right)

pub channel_gives-returns-in-Right-clause-answer : goal.channels::channel_gives-returns-in-Right-clause-answer
channel_gives-returns-in-Right-clause-answer t c =
    let i = c.in-Right in
    subst (λ (x : Chan). IsAnswer (rule (environment_of c.args.env.now) (gives (of_chan x))) plain c.right_gives.result) (sym (right_read c.args.c.now i.span i.name i.vs c.deref-in-Right.result.now i.is c.deref-in-Right.ensures.value)) c.right_gives.ensures.answer

pub channel_has-right_has-requires : goal.channels::channel_has-right_has-requires
channel_has-right_has-requires t c =
    let i = c.in-Right in
    (search (rules, the_lemmas), subst (λ (x : Chan). IsWellAsked nothing_ (environment_of c.args.env.now) (has (of_chan x) (plain c.args.t.now))) (right_read c.args.c.now i.span i.name i.vs c.deref-in-Right.result.now i.is c.deref-in-Right.ensures.value) c.requires.right)

pub channel_has-returns-in-Right-clause-answer : goal.channels::channel_has-returns-in-Right-clause-answer
channel_has-returns-in-Right-clause-answer t c =
    let i = c.in-Right in
    subst (λ (x : Chan). IsAnswer (rule (environment_of c.args.env.now) (has (of_chan x) (plain c.args.t.now))) nothing c.right_has.result) (sym (right_read c.args.c.now i.span i.name i.vs c.deref-in-Right.result.now i.is c.deref-in-Right.ensures.value)) c.right_has.ensures.answer

pub channel_gives-left_gives-requires : goal.channels::channel_gives-left_gives-requires
channel_gives-left_gives-requires t c =
    let i = c.in-Left in
    (search (rules, the_lemmas), subst (λ (x : Chan). IsWellAsked type_ (environment_of c.args.env.now) (gives (of_chan x))) (left_read c.args.c.now i.span i.name i.vs c.deref-in-Left.result.now i.is c.deref-in-Left.ensures.value) c.requires.right)

pub channel_gives-returns-in-Left-clause-answer : goal.channels::channel_gives-returns-in-Left-clause-answer
channel_gives-returns-in-Left-clause-answer t c =
    let i = c.in-Left in
    subst (λ (x : Chan). IsAnswer (rule (environment_of c.args.env.now) (gives (of_chan x))) plain c.left_gives.result) (sym (left_read c.args.c.now i.span i.name i.vs c.deref-in-Left.result.now i.is c.deref-in-Left.ensures.value)) c.left_gives.ensures.answer

pub channel_has-left_has-requires : goal.channels::channel_has-left_has-requires
channel_has-left_has-requires t c =
    let i = c.in-Left in
    (search (rules, the_lemmas), subst (λ (x : Chan). IsWellAsked nothing_ (environment_of c.args.env.now) (has (of_chan x) (plain c.args.t.now))) (left_read c.args.c.now i.span i.name i.vs c.deref-in-Left.result.now i.is c.deref-in-Left.ensures.value) c.requires.right)

pub channel_has-returns-in-Left-clause-answer : goal.channels::channel_has-returns-in-Left-clause-answer
channel_has-returns-in-Left-clause-answer t c =
    let i = c.in-Left in
    subst (λ (x : Chan). IsAnswer (rule (environment_of c.args.env.now) (has (of_chan x) (plain c.args.t.now))) nothing c.left_has.result) (sym (left_read c.args.c.now i.span i.name i.vs c.deref-in-Left.result.now i.is c.deref-in-Left.ensures.value)) c.left_has.ensures.answer

-- AN APPLICATION

pub application-returns-in_err-function-clause-answer : goal.channels::application-returns-in_err-function-clause-answer
application-returns-in_err-function-clause-answer t c =
    let e = environment_of c.args.env.now in
    let f = val_of c.args.f.now in
    let vs = field_vals_of c.args.fields.now in
    let y = c.in_err-function.field-0.0 in
    let x = option_map (λ u. plain u.now) c.args.expected in
    answer_err (rule e (application c.args.span f vs x)) plain c.from_residual.result y c.from_residual.ensures.1
    (unapplied_refused e c.args.span f vs x (plain c.args.t) y c.requires.head (subst (λ s. IsNoFunction (applicable (exposure (context_of e) (plain c.args.t))) s y) c.val_span.ensures c.in_err-function.ensures.refused))

pub application-found_first-requires-clause-regular : goal.channels::application-found_first-requires-clause-regular
application-found_first-requires-clause-regular t c = c.requires.right.regular

pub application-found_first-requires-clause-f : goal.channels::application-found_first-requires-clause-f
application-found_first-requires-clause-f t c =
    applied_is_formed (environment_of c.args.env.now) c.args.span (val_of c.args.f.now) (field_vals_of c.args.fields.now) _ (plain c.args.t) (function_of c.in_ok-function.function) c.requires.right c.requires.head c.in_ok-function.ensures.ok

pub application-found_first-requires-clause-expected : goal.channels::application-found_first-requires-clause-expected
application-found_first-requires-clause-expected t c = c.requires.right.asked

pub application-fields_fit-requires : goal.channels::application-fields_fit-requires
application-fields_fit-requires t c =
    let e = environment_of c.args.env.now in
    let parts = out-FieldVals c.args.fields.now in
    let r = function_of c.in_ok-function.function in
    let x = option_map (λ u. plain u.now) c.args.expected in
    let none = none_on parts.type_arguments.items _ c.is_empty.result parts.type_arguments.ok.0 c.is_empty.ensures in
    let is = c.in_ok-found.ensures.found ∙ sym (first_before e (field_vals_of c.args.fields.now) _ _ _ r x c.is_empty.result (field_vals_are c.args.fields.now) none) in
    let w = fields_asked e c.args.span (val_of c.args.f.now) (field_vals_of c.args.fields.now) x (plain c.args.t) r c.requires.right c.requires.head c.in_ok-function.ensures.ok in
    (search (rules, the_lemmas), (subst (λ (g : Found). IsWellAsked arguments_ e (fits_record c.args.span (field_vals_of c.args.fields.now) c.in_ok-function.function.fields g)) (sym is) w, c.in_ok-found.ensures.count))

pub application-returns-in_err-args-clause-answer : goal.channels::application-returns-in_err-args-clause-answer
application-returns-in_err-args-clause-answer t c =
    let e = environment_of c.args.env.now in
    let f = val_of c.args.f.now in
    let vs = field_vals_of c.args.fields.now in
    let parts = out-FieldVals c.args.fields.now in
    let r = function_of c.in_ok-function.function in
    let y = c.in_err-args.field-0.0 in
    let x = option_map (λ u. plain u.now) c.args.expected in
    let none = none_on parts.type_arguments.items _ c.is_empty.result parts.type_arguments.ok.0 c.is_empty.ensures in
    let is = c.in_ok-found.ensures.found ∙ sym (first_before e vs _ _ _ r x c.is_empty.result (field_vals_are c.args.fields.now) none) in
    answer_err (rule e (application c.args.span f vs x)) plain c.from_residual-in_err-args.result y c.from_residual-in_err-args.ensures.1
    (fields_refused e c.args.span f vs x (plain c.args.t) r y c.requires.head c.in_ok-function.ensures.ok
    (subst (λ (g : Found). IsRefused (rule e (fits_record c.args.span vs c.in_ok-function.function.fields g)) y) is c.in_err-args.ensures.answer))

pub application-application_end-requires-clause-answer : goal.channels::application-application_end-requires-clause-answer
application-application_end-requires-clause-answer t c =
    let e = environment_of c.args.env.now in
    let d = environment_of c.fields_fit.new.env in
    let vs = field_vals_of c.args.fields.now in
    let parts = out-FieldVals c.args.fields.now in
    let r = function_of c.in_ok-function.function in
    let x = option_map (λ u. plain u.now) c.args.expected in
    let k = c.in_ok-args.ensures in
    let none = none_on parts.type_arguments.items _ c.is_empty.result parts.type_arguments.ok.0 c.is_empty.ensures in
    let is = c.in_ok-found.ensures.found ∙ sym (first_before e vs _ _ _ r x c.is_empty.result (field_vals_are c.args.fields.now) none) in
    let w = fields_asked e c.args.span (val_of c.args.f.now) vs x (plain c.args.t) r c.requires.right c.requires.head c.in_ok-function.ensures.ok in
    let p = subst (λ (g : Found). Runs (rule e (fits_record c.args.span vs c.in_ok-function.function.fields g)) (ok (plain_args c.in_ok-args.args.items))) is k.answer in
    let n = applied_is_formed e c.args.span (val_of c.args.f.now) vs x (plain c.args.t) r c.requires.right c.requires.head c.in_ok-function.ensures.ok in
    subst (λ zs. IsWellFormed d.names (kinds_with (plain_args zs) (kinds_in d)) (plain c.in_ok-function.function.answer)) (sym c.deref.ensures.value)
    (answer_formed d e r (plain_args c.in_ok-args.args.items) k.same.known n (good_of {j = fits_record c.args.span vs c.in_ok-function.function.fields (found_first e vs r x)} w p).1)

pub application-application_end-requires-clause-args : goal.channels::application-application_end-requires-clause-args
application-application_end-requires-clause-args t c =
    let e = environment_of c.args.env.now in
    let d = environment_of c.fields_fit.new.env in
    let vs = field_vals_of c.args.fields.now in
    let parts = out-FieldVals c.args.fields.now in
    let r = function_of c.in_ok-function.function in
    let x = option_map (λ u. plain u.now) c.args.expected in
    let k = c.in_ok-args.ensures in
    let none = none_on parts.type_arguments.items _ c.is_empty.result parts.type_arguments.ok.0 c.is_empty.ensures in
    let is = c.in_ok-found.ensures.found ∙ sym (first_before e vs _ _ _ r x c.is_empty.result (field_vals_are c.args.fields.now) none) in
    let w = fields_asked e c.args.span (val_of c.args.f.now) vs x (plain c.args.t) r c.requires.right c.requires.head c.in_ok-function.ensures.ok in
    let p = subst (λ (g : Found). Runs (rule e (fits_record c.args.span vs c.in_ok-function.function.fields g)) (ok (plain_args c.in_ok-args.args.items))) is k.answer in
    subst (λ zs. ArgsAreWellFormed d.names (kinds_in d) (plain_args zs)) (sym c.deref.ensures.value)
    (subst (λ (z : Environment). ArgsAreWellFormed z.names (kinds_in z) (plain_args c.in_ok-args.args.items)) (sym k.same.known) (good_of {j = fits_record c.args.span vs c.in_ok-function.function.fields (found_first e vs r x)} w p).0)

pub application-application_end-requires-clause-expected : goal.channels::application-application_end-requires-clause-expected
application-application_end-requires-clause-expected t c =
    subst (λ (z : Environment). IsExpected z (option_map (λ u. plain u.now) c.args.expected)) (sym c.in_ok-args.ensures.same.known) c.requires.right.asked

pub application-returns-clause-answer : goal.channels::application-returns-clause-answer
application-returns-clause-answer t c =
    let e = environment_of c.args.env.now in
    let f = val_of c.args.f.now in
    let vs = field_vals_of c.args.fields.now in
    let parts = out-FieldVals c.args.fields.now in
    let r = function_of c.in_ok-function.function in
    let x = option_map (λ u. plain u.now) c.args.expected in
    let k = c.in_ok-args.ensures in
    let args = plain_args c.in_ok-args.args.items in
    let none = none_on parts.type_arguments.items _ c.is_empty.result parts.type_arguments.ok.0 c.is_empty.ensures in
    let is = c.in_ok-found.ensures.found ∙ sym (first_before e vs _ _ _ r x c.is_empty.result (field_vals_are c.args.fields.now) none) in
    let p = subst (λ (g : Found). Runs (rule e (fits_record c.args.span vs c.in_ok-function.function.fields g)) (ok args)) is k.answer in
    application_done plain e c.args.span f vs x (plain c.args.t) r args c.application_end.result c.requires.head c.in_ok-function.ensures.ok p
    (subst (λ (z : Environment). IsAnswer (application_end z c.args.span r.answer args x) plain c.application_end.result) k.same.known
    (subst (λ zs. IsAnswer (application_end (environment_of c.fields_fit.new.env) c.args.span r.answer (plain_args zs) x) plain c.application_end.result) c.deref.ensures.value c.application_end.ensures.answer))

pub application-returns-clause-same : goal.channels::application-returns-clause-same
application-returns-clause-same t c = kept_any c.args.env.now c.fields_fit.new.env c.application_end.result c.in_ok-args.ensures.same
