-- Forms from the right and from the left.
use Rattle.std.proofs.Common.{rules, length, refl, sym, ◌∙◌, ap, subst, arith, None, Some, ◌-◌}
use Rattle.pict_syntax.specs.declared.tree.Val.{the_lemmas}
use Rattle.pict_syntax.specs.Trees.{true_val}
use Rattle.pict_syntax.specs.PlainTrees.{val_of}
use Rattle.pict_types.specs.Plain.{plain}
use Rattle.pict_rules.specs.Regular.{IsExpected, IsTypeIn}
use Rattle.pict_rules.specs.Rules.{value_fits}
use Rattle.pict_infer.specs.Environments.{environment_of}
use Rattle.pict_lines.specs.Lines.{formed}
use Rattle.pict_lines.specs.Chains.{nested, nested_left}
use Rattle.pict_lines.specs.Judging.{IsAnswerFor, IsAskedFor, IsFor, IsRefusedFor}
use Rattle.pict_lines.specs.Nesting.{AreAllBegun, AreAllEntered, IsLeftForm, IsRightForm, left_first, left_form, right_form, right_inside, wanted_left, wanted_right}
use Rattle.pict_lines.specs.Operators.{type_if, vals_of}
use Rattle.pict_check.proofs.Entering.{entering_first, entering_wanted, enters_next, next_asked, next_entered, next_found, next_refused, next_stopped}
use Rattle.pict_lines.proofs.FormedOperators.{right_operator, right_regular, right_second, left_field, left_operator, left_regular}
use Rattle.pict_lines.proofs.Frames.{found_count, length_vals}
use Rattle.pict_check.proofs.Outward.{left_head_refused}
use Rattle.pict_check.proofs.NestedForms.{left_alone, left_gives, left_gives_asked, left_gives_refused, left_has, left_has_asked, left_has_refused, right_alone, right_gives, right_gives_asked, right_gives_refused, right_has, right_has_asked, right_has_refused}
use Rattle.pict_lines.proofs.NestedFormed.{given_for}
use Rattle.pict_check.proofs.Inward.{head_refused}
use Rattle.pict_lines.proofs.Rights.{memory_refused}
use Rattle.pict_check.proofs.WholeForms.{all_begun_found, all_begun_room, all_entered_found, all_entered_room, first_asked, first_for, first_refused, form_is, form_is_left, last_asked, last_value_for, last_value_refused, left_form_of, right_form_of}
use Rattle.pict_lines.proofs.Leaving.{inside_is}
use Rattle.pict_check.proofs.Finishing as out
use Rattle.pict_check.proofs.+values.Goals as goal

-- THE FORMS STAND FOR NESTED APPLICATIONS

pub right_gives-right-requires : goal.chains::right_gives-right-requires
right_gives-right-requires t c = (search (rules, the_lemmas), right_gives_asked (environment_of c.args.env.now) c.args.span c.args.name c.args.vs.now c.requires.right)

pub right_gives-returns-in_err-t-clause-answer : goal.chains::right_gives-returns-in_err-t-clause-answer
right_gives-returns-in_err-t-clause-answer t c =
    let h = right_gives_refused (environment_of c.args.env.now) c.args.span c.args.name c.args.vs.now c.in_err-t.field-0.0 c.in_err-t.ensures.answer in
    search (rules, h)

pub right_gives-returns-clause-answer : goal.chains::right_gives-returns-clause-answer
right_gives-returns-clause-answer t c =
    right_gives (environment_of c.args.env.now) c.args.span c.args.name c.args.vs.now (plain c.in-Some.t)
    (subst (λ o. IsFor (environment_of c.args.env.now) (nested c.args.span c.args.name (vals_of c.args.vs.now)) None (type_if o)) c.in-Some.is c.in_ok-t.ensures.answer)

pub right_has-right-requires : goal.chains::right_has-right-requires
right_has-right-requires t c =
    (search (rules, the_lemmas), subst (λ u. IsAskedFor (environment_of c.args.env.now) (nested c.args.span c.args.name (vals_of c.args.vs.now)) (Some u)) (sym c.in_ok-copy.ensures.same) (right_has_asked (environment_of c.args.env.now) c.args.span c.args.name c.args.vs.now (plain c.args.t.now) c.requires.right))

pub right_has-returns-in_err-_given-clause-answer : goal.chains::right_has-returns-in_err-_given-clause-answer
right_has-returns-in_err-_given-clause-answer t c =
    let h = right_has_refused (environment_of c.args.env.now) c.args.span c.args.name c.args.vs.now (plain c.args.t.now) c.in_err-_given.field-0.0 (subst (λ u. IsRefusedFor (environment_of c.args.env.now) (nested c.args.span c.args.name (vals_of c.args.vs.now)) (Some u) c.in_err-_given.field-0.0) c.in_ok-copy.ensures.same c.in_err-_given.ensures.answer) in
    search (rules, h)

pub right_has-returns-clause-answer : goal.chains::right_has-returns-clause-answer
right_has-returns-clause-answer t c =
    right_has (environment_of c.args.env.now) c.args.span c.args.name c.args.vs.now (plain c.args.t.now) (type_if c.in_ok-_given._given) (subst (λ u. IsFor (environment_of c.args.env.now) (nested c.args.span c.args.name (vals_of c.args.vs.now)) (Some u) (type_if c.in_ok-_given._given)) c.in_ok-copy.ensures.same c.in_ok-_given.ensures.answer)

pub left_gives-left-requires : goal.chains::left_gives-left-requires
left_gives-left-requires t c = (search (rules, the_lemmas), left_gives_asked (environment_of c.args.env.now) c.args.span c.args.name c.args.vs.now c.requires.right)

pub left_gives-returns-in_err-t-clause-answer : goal.chains::left_gives-returns-in_err-t-clause-answer
left_gives-returns-in_err-t-clause-answer t c =
    let h = left_gives_refused (environment_of c.args.env.now) c.args.span c.args.name c.args.vs.now c.in_err-t.field-0.0 c.in_err-t.ensures.answer in
    search (rules, h)

pub left_gives-returns-clause-answer : goal.chains::left_gives-returns-clause-answer
left_gives-returns-clause-answer t c =
    left_gives (environment_of c.args.env.now) c.args.span c.args.name c.args.vs.now (plain c.in-Some.t)
    (subst (λ o. IsFor (environment_of c.args.env.now) (nested_left c.args.span c.args.name (vals_of c.args.vs.now)) None (type_if o)) c.in-Some.is c.in_ok-t.ensures.answer)

pub left_has-left-requires : goal.chains::left_has-left-requires
left_has-left-requires t c =
    (search (rules, the_lemmas), subst (λ u. IsAskedFor (environment_of c.args.env.now) (nested_left c.args.span c.args.name (vals_of c.args.vs.now)) (Some u)) (sym c.in_ok-copy.ensures.same) (left_has_asked (environment_of c.args.env.now) c.args.span c.args.name c.args.vs.now (plain c.args.t.now) c.requires.right))

pub left_has-returns-in_err-_given-clause-answer : goal.chains::left_has-returns-in_err-_given-clause-answer
left_has-returns-in_err-_given-clause-answer t c =
    let h = left_has_refused (environment_of c.args.env.now) c.args.span c.args.name c.args.vs.now (plain c.args.t.now) c.in_err-_given.field-0.0 (subst (λ u. IsRefusedFor (environment_of c.args.env.now) (nested_left c.args.span c.args.name (vals_of c.args.vs.now)) (Some u) c.in_err-_given.field-0.0) c.in_ok-copy.ensures.same c.in_err-_given.ensures.answer) in
    search (rules, h)

pub left_has-returns-clause-answer : goal.chains::left_has-returns-clause-answer
left_has-returns-clause-answer t c =
    left_has (environment_of c.args.env.now) c.args.span c.args.name c.args.vs.now (plain c.args.t.now) (type_if c.in_ok-_given._given) (subst (λ u. IsFor (environment_of c.args.env.now) (nested_left c.args.span c.args.name (vals_of c.args.vs.now)) (Some u) (type_if c.in_ok-_given._given)) c.in_ok-copy.ensures.same c.in_ok-_given.ensures.answer)

-- ONE VALUE

pub judged-returns-in_ok-gives-in-None-clause-formed : goal.chains::judged-returns-in_ok-gives-in-None-clause-formed
judged-returns-in_ok-gives-in-None-clause-formed t c =
    given_for (environment_of c.args.env.now) (val_of c.args.v.now) (plain c.in_ok-gives-in-None.field-0) (subst (λ w. IsAskedFor (environment_of c.args.env.now) (val_of c.args.v.now) (type_if w)) c.in-None.is c.requires.asked) c.in_ok-gives-in-None.ensures.answer

-- FROM THE RIGHT

pub right-alone-requires : goal.chains::right-alone-requires
right-alone-requires t c =
    (search (rules, the_lemmas), subst (λ v. IsAskedFor (environment_of c.args.env.now) v (type_if c.args.expected.now)) (right_alone c.args.span c.args.name (vals_of c.args.vs.now) (omega (arith, length_vals c.args.vs.now))) c.requires.asked)

pub right-returns-then-vs-lt2-clause-answer : goal.chains::right-returns-then-vs-lt2-clause-answer
right-returns-then-vs-lt2-clause-answer t c =
    subst (λ v. IsAnswerFor (environment_of c.args.env.now) v (type_if c.args.expected.now) type_if c.alone.result) (sym (right_alone c.args.span c.args.name (vals_of c.args.vs.now) (omega (arith, length_vals c.args.vs.now)))) c.alone.ensures.answer

pub right-returns-in_err-o-clause-answer : goal.chains::right-returns-in_err-o-clause-answer
right-returns-in_err-o-clause-answer t c =
    let h = head_refused (environment_of c.args.env.now) c.args.span c.args.name (vals_of c.args.vs.now) (type_if c.args.expected.now) c.in_err-o.field-0.0 (omega (arith, length_vals c.args.vs.now)) c.in_err-o.ensures.refused in
    search (rules, h)

pub right-right_by-requires : goal.chains::right-right_by-requires
right-right_by-requires t c =
    (search (rules, the_lemmas), (omega arith, right_form_of c.in_ok-o.o c.in_ok-o.ensures.name c.in_ok-o.ensures.place c.in_ok-o.ensures.head c.requires.asked))

pub right-returns-clause-answer : goal.chains::right-returns-clause-answer
right-returns-clause-answer t c =
    subst (λ v. IsAnswerFor (environment_of c.args.env.now) v (type_if c.args.expected.now) type_if c.right_by.result) (form_is c.in_ok-o.o c.args.vs.now c.in_ok-o.ensures.name c.in_ok-o.ensures.place) c.right_by.ensures.answer

pub right_by-enter-requires : goal.chains::right_by-enter-requires
right_by-enter-requires t c = (search (rules, the_lemmas), (omega arith, c.requires.form))

pub right_by-returns-in_err-frames-clause-answer : goal.chains::right_by-returns-in_err-frames-clause-answer
right_by-returns-in_err-frames-clause-answer t c = let h = c.in_err-frames.ensures.refused in search (rules, h)

pub right_by-wanted_around-requires-clause-field : goal.chains::right_by-wanted_around-requires-clause-field
right_by-wanted_around-requires-clause-field t c = right_second c.requires.form c.in_ok-frames.ensures.same.known c.second.ensures

pub right_by-wanted_around-requires-clause-found : goal.chains::right_by-wanted_around-requires-clause-found
right_by-wanted_around-requires-clause-found t c = all_entered_found c.requires.form c.in_ok-frames.ensures.entered c.in_ok-frames.ensures.same.known c.deref.ensures.value

pub right_by-wanted_around-requires-clause-room : goal.chains::right_by-wanted_around-requires-clause-room
right_by-wanted_around-requires-clause-room t c = all_entered_room c.in_ok-frames.ensures.entered c.in_ok-frames.ensures.same.known c.deref.ensures.value c.second.ensures

pub right_by-returns-in_err-inside-clause-answer : goal.chains::right_by-returns-in_err-inside-clause-answer
right_by-returns-in_err-inside-clause-answer t c =
    let h = memory_refused (environment_of c.args.env.now) (right_form c.args.o.now c.args.vs.now) (type_if c.args.expected.now) c.in_err-inside.field-0.0 c.in_err-inside.ensures.memory in
    search (rules, h)

pub right_by-judged-requires : goal.chains::right_by-judged-requires
right_by-judged-requires t c =
    (search (rules, the_lemmas), last_asked c.index-vs-vs.result c.requires.form c.in_ok-frames.ensures.entered c.in_ok-frames.ensures.same.known (inside_is c.args.o.now c.args.expected.now c.in_ok-inside.ensures.wanted c.second.ensures c.deref.ensures.value) c.index-vs-vs.is)

pub right_by-returns-in_err-given-clause-answer : goal.chains::right_by-returns-in_err-given-clause-answer
right_by-returns-in_err-given-clause-answer t c =
    let h = last_value_refused c.index-vs-vs.result c.in_err-given.field-0.0 c.requires.form c.in_ok-frames.ensures.entered c.in_ok-frames.ensures.same.known (inside_is c.args.o.now c.args.expected.now c.in_ok-inside.ensures.wanted c.second.ensures c.deref.ensures.value) c.index-vs-vs.is c.in_err-given.ensures.answer in
    search (rules, h)

pub right_by-leave-requires-clause-form : goal.chains::right_by-leave-requires-clause-form
right_by-leave-requires-clause-form t c =
    subst (λ e. IsRightForm e c.args.o.now c.args.vs.now c.args.expected.now) (sym (c.in_ok-given.ensures.same.known ∙ c.in_ok-frames.ensures.same.known)) c.requires.form

pub right_by-leave-requires-clause-entered : goal.chains::right_by-leave-requires-clause-entered
right_by-leave-requires-clause-entered t c =
    subst (λ e. AreAllEntered e c.args.o.now c.args.vs.now c.args.expected.now c.in_ok-frames.frames.items) (sym (c.in_ok-given.ensures.same.known ∙ c.in_ok-frames.ensures.same.known)) c.in_ok-frames.ensures.entered

pub right_by-leave-requires-clause-last : goal.chains::right_by-leave-requires-clause-last
right_by-leave-requires-clause-last t c =
    subst (λ e. IsFor e (right_inside c.args.o.now c.args.vs.now c.in_ok-frames.frames.items) (wanted_right c.args.o.now c.args.expected.now c.in_ok-frames.frames.items) (type_if c.in_ok-given.given)) (sym (c.in_ok-given.ensures.same.known ∙ c.in_ok-frames.ensures.same.known))
    (last_value_for (type_if c.in_ok-given.given) c.index-vs-vs.result c.in_ok-frames.ensures.entered c.in_ok-frames.ensures.same.known (inside_is c.args.o.now c.args.expected.now c.in_ok-inside.ensures.wanted c.second.ensures c.deref.ensures.value) c.index-vs-vs.is c.in_ok-given.ensures.answer)

pub right_by-leave-requires-clause-given : goal.chains::right_by-leave-requires-clause-given
right_by-leave-requires-clause-given t c = subst (λ e. IsExpected e (type_if c.in_ok-given.given)) (sym c.in_ok-given.ensures.same.known) c.in_ok-given.ensures.formed

pub right_by-returns-clause-answer : goal.chains::right_by-returns-clause-answer
right_by-returns-clause-answer t c =
    subst (λ e. IsAnswerFor e (right_form c.args.o.now c.args.vs.now) (type_if c.args.expected.now) type_if c.leave.result) (c.in_ok-given.ensures.same.known ∙ c.in_ok-frames.ensures.same.known) c.leave.ensures

-- its way in

pub enter-loop-i-init : goal.chains::enter-loop-i-init
enter-loop-i-init t c = record { same = record { known = refl; items = refl }; entering = entering_first c.requires.form c.new-frames.ensures.items (search rules) }

pub enter-returns-clause-entered : goal.chains::enter-returns-clause-entered
enter-returns-clause-entered t c = record { entered = c.loop-i.invariant.entering.entered; count = omega (arith, c.loop-i.invariant.entering.count) }

pub enter-start-requires-clause-regular : goal.chains::enter-start-requires-clause-regular
enter-start-requires-clause-regular t c = right_regular c.requires.form c.loop-i.invariant.same.known

pub enter-start-requires-clause-formed : goal.chains::enter-start-requires-clause-formed
enter-start-requires-clause-formed t c = right_operator c.requires.form c.loop-i.invariant.same.known

pub enter-start-requires-clause-wanted : goal.chains::enter-start-requires-clause-wanted
enter-start-requires-clause-wanted t c = entering_wanted c.loop-i.invariant.entering (omega arith) c.loop-i.invariant.same.known

pub enter-returns-in_err-found-clause-refused : goal.chains::enter-returns-in_err-found-clause-refused
enter-returns-in_err-found-clause-refused t c =
    let h = memory_refused (environment_of c.args.env.now) (right_form c.args.o.now c.args.vs.now) (type_if c.args.expected.now) c.in_err-found.field-0.0 c.in_err-found.ensures.memory in
    search (rules, h)

pub enter-value_fits-requires : goal.chains::enter-value_fits-requires
enter-value_fits-requires t c = (
  search (rules, the_lemmas),
  (
    next_asked (enters_next c.in_ok-found.found c.index-vs-i.result c.loop-i.invariant.entering (omega arith) c.in_ok-found.ensures.found c.index-vs-i.is c.deref.ensures.value c.first.ensures c.loop-i.invariant.same.known),
    c.in_ok-found.ensures.count ∙ ap length (sym c.deref.ensures.value),
  ),
)

pub enter-returns-in_err-value_fits-clause-refused : goal.chains::enter-returns-in_err-value_fits-clause-refused
enter-returns-in_err-value_fits-clause-refused t c =
    let h = next_refused c.in_err-value_fits.field-0.0 (enters_next c.in_ok-found.found c.index-vs-i.result c.loop-i.invariant.entering (omega arith) c.in_ok-found.ensures.found c.index-vs-i.is c.deref.ensures.value c.first.ensures c.loop-i.invariant.same.known) c.in_err-value_fits.ensures.answer in
    search (rules, h)

pub enter-field_wanted-requires-clause-field : goal.chains::enter-field_wanted-requires-clause-field
enter-field_wanted-requires-clause-field t c = right_second c.requires.form (c.in_ok-value_fits.ensures.same.known ∙ c.loop-i.invariant.same.known) c.second.ensures

pub enter-field_wanted-requires-clause-found : goal.chains::enter-field_wanted-requires-clause-found
enter-field_wanted-requires-clause-found t c =
    next_found c.value_fits.new.found (enters_next c.in_ok-found.found c.index-vs-i.result c.loop-i.invariant.entering (omega arith) c.in_ok-found.ensures.found c.index-vs-i.is c.deref.ensures.value c.first.ensures c.loop-i.invariant.same.known) c.in_ok-value_fits.ensures.answer c.in_ok-value_fits.ensures.same.known

pub enter-returns-in_err-inside-2-clause-refused : goal.chains::enter-returns-in_err-inside-2-clause-refused
enter-returns-in_err-inside-2-clause-refused t c =
    let h = next_stopped c.value_fits.new.found c.in_err-inside-2.field-0.0 (enters_next c.in_ok-found.found c.index-vs-i.result c.loop-i.invariant.entering (omega arith) c.in_ok-found.ensures.found c.index-vs-i.is c.deref.ensures.value c.first.ensures c.loop-i.invariant.same.known) c.in_ok-value_fits.ensures.answer c.in_ok-value_fits.ensures.same.known c.second.ensures c.in_err-inside-2.ensures.refused in
    search (rules, h)

pub enter-loop-i-preserved : goal.chains::enter-loop-i-preserved
enter-loop-i-preserved t c = record {
  same = record { known = c.in_ok-value_fits.ensures.same.known ∙ c.loop-i.invariant.same.known; items = c.in_ok-value_fits.ensures.same.items ∙ c.loop-i.invariant.same.items };
  entering = next_entered c.value_fits.new.found (enters_next c.in_ok-found.found c.index-vs-i.result c.loop-i.invariant.entering (omega arith) c.in_ok-found.ensures.found c.index-vs-i.is c.deref.ensures.value c.first.ensures c.loop-i.invariant.same.known) c.in_ok-value_fits.ensures.answer c.in_ok-value_fits.ensures.same.known c.second.ensures c.in_ok-inside-2.ensures.room c.in_ok-inside-2.ensures.wanted c.in_ok-push.ensures.items;
}

-- FROM THE LEFT

pub left-alone-requires : goal.chains::left-alone-requires
left-alone-requires t c =
    (search (rules, the_lemmas), subst (λ v. IsAskedFor (environment_of c.args.env.now) v (type_if c.args.expected.now)) (left_alone c.args.span c.args.name (vals_of c.args.vs.now) (omega (arith, length_vals c.args.vs.now))) c.requires.asked)

pub left-returns-then-vs-lt2-clause-answer : goal.chains::left-returns-then-vs-lt2-clause-answer
left-returns-then-vs-lt2-clause-answer t c =
    subst (λ v. IsAnswerFor (environment_of c.args.env.now) v (type_if c.args.expected.now) type_if c.alone.result) (sym (left_alone c.args.span c.args.name (vals_of c.args.vs.now) (omega (arith, length_vals c.args.vs.now)))) c.alone.ensures.answer

pub left-returns-in_err-o-clause-answer : goal.chains::left-returns-in_err-o-clause-answer
left-returns-in_err-o-clause-answer t c =
    let h = left_head_refused (environment_of c.args.env.now) c.args.span c.args.name (vals_of c.args.vs.now) (type_if c.args.expected.now) (true_val c.args.span) c.in_err-o.field-0.0 (omega (arith, length_vals c.args.vs.now)) c.in_err-o.ensures.refused in
    search (rules, h)

pub left-left_by-requires : goal.chains::left-left_by-requires
left-left_by-requires t c =
    (search (rules, the_lemmas), (omega arith, left_form_of c.in_ok-o.o c.in_ok-o.ensures.name c.in_ok-o.ensures.place c.in_ok-o.ensures.head c.requires.asked))

pub left-returns-clause-answer : goal.chains::left-returns-clause-answer
left-returns-clause-answer t c =
    subst (λ v. IsAnswerFor (environment_of c.args.env.now) v (type_if c.args.expected.now) type_if c.left_by.result) (form_is_left c.in_ok-o.o c.args.vs.now c.in_ok-o.ensures.name c.in_ok-o.ensures.place) c.left_by.ensures.answer

pub left_by-returns-in_err-frames-clause-answer : goal.chains::left_by-returns-in_err-frames-clause-answer
left_by-returns-in_err-frames-clause-answer t c = let h = c.in_err-frames.ensures.refused in search (rules, h)

pub left_by-wanted_around-requires-clause-field : goal.chains::left_by-wanted_around-requires-clause-field
left_by-wanted_around-requires-clause-field t c = left_field c.requires.form refl c.first.ensures

pub left_by-wanted_around-requires-clause-found : goal.chains::left_by-wanted_around-requires-clause-found
left_by-wanted_around-requires-clause-found t c = all_begun_found c.requires.form c.in_ok-frames.ensures.begun c.deref.ensures.value

pub left_by-wanted_around-requires-clause-room : goal.chains::left_by-wanted_around-requires-clause-room
left_by-wanted_around-requires-clause-room t c = all_begun_room c.in_ok-frames.ensures.begun c.deref.ensures.value c.first.ensures

pub left_by-returns-in_err-inside-clause-answer : goal.chains::left_by-returns-in_err-inside-clause-answer
left_by-returns-in_err-inside-clause-answer t c =
    let h = memory_refused (environment_of c.args.env.now) (left_form c.args.o.now c.args.vs.now) (type_if c.args.expected.now) c.in_err-inside.field-0.0 c.in_err-inside.ensures.memory in
    search (rules, h)

pub left_by-judged-requires : goal.chains::left_by-judged-requires
left_by-judged-requires t c =
    (search (rules, the_lemmas), first_asked c.index-vs-0.result c.requires.form c.in_ok-frames.ensures.begun (out.around_is c.args.o.now c.args.expected.now c.in_ok-inside.ensures.wanted c.first.ensures c.deref.ensures.value) c.index-vs-0.is)

pub left_by-returns-in_err-given-clause-answer : goal.chains::left_by-returns-in_err-given-clause-answer
left_by-returns-in_err-given-clause-answer t c =
    let h = first_refused c.index-vs-0.result c.in_err-given.field-0.0 c.requires.form c.in_ok-frames.ensures.begun (out.around_is c.args.o.now c.args.expected.now c.in_ok-inside.ensures.wanted c.first.ensures c.deref.ensures.value) c.index-vs-0.is c.in_err-given.ensures.answer in
    search (rules, h)

pub left_by-finish-requires : goal.chains::left_by-finish-requires
left_by-finish-requires t c = (
  search (rules, the_lemmas),
  (
    subst (λ e. IsLeftForm e c.args.o.now c.args.vs.now c.args.expected.now) (sym c.in_ok-given.ensures.same.known) c.requires.form,
    (
      subst (λ e. AreAllBegun e c.args.o.now c.args.vs.now c.args.expected.now c.in_ok-frames.frames.items) (sym c.in_ok-given.ensures.same.known) c.in_ok-frames.ensures.begun,
      (
        subst (λ e. IsFor e (left_first c.args.o.now c.args.vs.now) (wanted_left c.args.o.now c.args.expected.now c.in_ok-frames.frames.items) (type_if c.in_ok-given.given)) (sym c.in_ok-given.ensures.same.known)
            (first_for (type_if c.in_ok-given.given) c.index-vs-0.result c.in_ok-frames.ensures.begun (out.around_is c.args.o.now c.args.expected.now c.in_ok-inside.ensures.wanted c.first.ensures c.deref.ensures.value) c.index-vs-0.is c.in_ok-given.ensures.answer),
        subst (λ e. IsExpected e (type_if c.in_ok-given.given)) (sym c.in_ok-given.ensures.same.known) c.in_ok-given.ensures.formed,
      ),
    ),
  ),
)

pub left_by-returns-clause-answer : goal.chains::left_by-returns-clause-answer
left_by-returns-clause-answer t c =
    subst (λ e. IsAnswerFor e (left_form c.args.o.now c.args.vs.now) (type_if c.args.expected.now) type_if c.finish.result) c.in_ok-given.ensures.same.known c.finish.ensures.answer

-- its way out

pub finish-up-init : goal.chains::finish-up-init
finish-up-init t c = record {
  same = record { known = refl; items = refl };
  finishing = out.finishing_first c.index-vs-0.result c.requires.form c.requires.begun c.requires.first c.requires.given c.index-vs-0.is c.val_span-at.ensures;
}

pub finish-returns-clause-answer : goal.chains::finish-returns-clause-answer
finish-returns-clause-answer t c = out.finished c.up.invariant.finishing (search rules)

pub finish-field_given-requires-clause-regular : goal.chains::finish-field_given-requires-clause-regular
finish-field_given-requires-clause-regular t c = left_regular c.requires.form c.up.invariant.same.known

pub finish-field_given-requires-clause-field : goal.chains::finish-field_given-requires-clause-field
finish-field_given-requires-clause-field t c = left_field c.requires.form c.up.invariant.same.known c.first.ensures

pub finish-field_given-requires-clause-found : goal.chains::finish-field_given-requires-clause-found
finish-field_given-requires-clause-found t c = out.next_found (out.ends_next c.pop.new.self.items c.in-Some.before c.up.invariant.finishing c.in-Some.ensures.items c.up.invariant.same.known)

pub finish-field_given-requires-clause-given : goal.chains::finish-field_given-requires-clause-given
finish-field_given-requires-clause-given t c = out.finishing_given c.up.invariant.finishing c.up.invariant.same.known

pub finish-returns-in_err-field_given-clause-answer : goal.chains::finish-returns-in_err-field_given-clause-answer
finish-returns-in_err-field_given-clause-answer t c =
    let h = out.next_refused c.in_err-field_given.field-0.0 (out.ends_next c.pop.new.self.items c.in-Some.before c.up.invariant.finishing c.in-Some.ensures.items c.up.invariant.same.known) c.first.ensures c.in_err-field_given.ensures.lines in
    search (rules, h)

pub finish-value_fits-requires : goal.chains::finish-value_fits-requires
finish-value_fits-requires t c =
    let p = out.ends_next c.pop.new.self.items c.in-Some.before c.up.invariant.finishing c.in-Some.ensures.items c.up.invariant.same.known in
    let m = out.midway c.field_given.new.found c.index-vs-vs.result (length c.args.vs.now - 1 - c.len.result) p c.first.ensures c.in_ok-field_given.ensures.lines c.in_ok-field_given.ensures.found c.index-vs-vs.is (omega (arith, c.len.ensures)) c.deref.ensures.value c.second.ensures in
    (search (rules, the_lemmas), (out.midway_asked m, sym (found_count c.args.o.now c.field_given.new.found c.in_ok-field_given.ensures.found.kinds_) ∙ ap length (sym c.deref.ensures.value)))

pub finish-returns-in_err-value_fits-clause-answer : goal.chains::finish-returns-in_err-value_fits-clause-answer
finish-returns-in_err-value_fits-clause-answer t c =
    let p = out.ends_next c.pop.new.self.items c.in-Some.before c.up.invariant.finishing c.in-Some.ensures.items c.up.invariant.same.known in
    let m = out.midway c.field_given.new.found c.index-vs-vs.result (length c.args.vs.now - 1 - c.len.result) p c.first.ensures c.in_ok-field_given.ensures.lines c.in_ok-field_given.ensures.found c.index-vs-vs.is (omega (arith, c.len.ensures)) c.deref.ensures.value c.second.ensures in
    let h = out.midway_refused c.in_err-value_fits.field-0.0 m c.in_err-value_fits.ensures.answer in
    search (rules, h)

pub finish-end_fields-requires-clause-regular : goal.chains::finish-end_fields-requires-clause-regular
finish-end_fields-requires-clause-regular t c = left_regular c.requires.form (c.in_ok-value_fits.ensures.same.known ∙ c.up.invariant.same.known)

pub finish-end_fields-requires-clause-formed : goal.chains::finish-end_fields-requires-clause-formed
finish-end_fields-requires-clause-formed t c = left_operator c.requires.form (c.in_ok-value_fits.ensures.same.known ∙ c.up.invariant.same.known)

pub finish-end_fields-requires-clause-found : goal.chains::finish-end_fields-requires-clause-found
finish-end_fields-requires-clause-found t c =
    let p = out.ends_next c.pop.new.self.items c.in-Some.before c.up.invariant.finishing c.in-Some.ensures.items c.up.invariant.same.known in
    let m = out.midway c.field_given.new.found c.index-vs-vs.result (length c.args.vs.now - 1 - c.len.result) p c.first.ensures c.in_ok-field_given.ensures.lines c.in_ok-field_given.ensures.found c.index-vs-vs.is (omega (arith, c.len.ensures)) c.deref.ensures.value c.second.ensures in
    out.midway_found c.value_fits.new.found m c.in_ok-value_fits.ensures.answer c.in_ok-value_fits.ensures.same.known

pub finish-returns-in_err-args-clause-answer : goal.chains::finish-returns-in_err-args-clause-answer
finish-returns-in_err-args-clause-answer t c =
    let p = out.ends_next c.pop.new.self.items c.in-Some.before c.up.invariant.finishing c.in-Some.ensures.items c.up.invariant.same.known in
    let m = out.midway c.field_given.new.found c.index-vs-vs.result (length c.args.vs.now - 1 - c.len.result) p c.first.ensures c.in_ok-field_given.ensures.lines c.in_ok-field_given.ensures.found c.index-vs-vs.is (omega (arith, c.len.ensures)) c.deref.ensures.value c.second.ensures in
    let h = out.midway_end c.value_fits.new.found c.in_err-args.field-0.0 m c.in_ok-value_fits.ensures.answer c.in_ok-value_fits.ensures.same.known c.in_err-args.ensures.answer in
    search (rules, h)

pub finish-wanted_around-requires-clause-field : goal.chains::finish-wanted_around-requires-clause-field
finish-wanted_around-requires-clause-field t c = left_field c.requires.form (c.in_ok-value_fits.ensures.same.known ∙ c.up.invariant.same.known) c.first-in-Some.ensures

pub finish-wanted_around-requires-clause-found : goal.chains::finish-wanted_around-requires-clause-found
finish-wanted_around-requires-clause-found t c =
    out.around_found (out.ends_next c.pop.new.self.items c.in-Some.before c.up.invariant.finishing c.in-Some.ensures.items c.up.invariant.same.known) c.in_ok-value_fits.ensures.same.known c.deref-in-Some.ensures.value

pub finish-wanted_around-requires-clause-room : goal.chains::finish-wanted_around-requires-clause-room
finish-wanted_around-requires-clause-room t c =
    out.around_room (out.ends_next c.pop.new.self.items c.in-Some.before c.up.invariant.finishing c.in-Some.ensures.items c.up.invariant.same.known) c.in_ok-value_fits.ensures.same.known c.deref-in-Some.ensures.value c.first-in-Some.ensures

pub finish-returns-in_err-around-clause-answer : goal.chains::finish-returns-in_err-around-clause-answer
finish-returns-in_err-around-clause-answer t c =
    let h = memory_refused (environment_of c.args.env.now) (left_form c.args.o.now c.args.vs.now) (type_if c.args.expected.now) c.in_err-around.field-0.0 c.in_err-around.ensures.memory in
    search (rules, h)

pub finish-end_application-requires-clause-regular : goal.chains::finish-end_application-requires-clause-regular
finish-end_application-requires-clause-regular t c = left_regular c.requires.form (c.in_ok-value_fits.ensures.same.known ∙ c.up.invariant.same.known)

pub finish-end_application-requires-clause-formed : goal.chains::finish-end_application-requires-clause-formed
finish-end_application-requires-clause-formed t c = left_operator c.requires.form (c.in_ok-value_fits.ensures.same.known ∙ c.up.invariant.same.known)

pub finish-end_application-requires-clause-wanted : goal.chains::finish-end_application-requires-clause-wanted
finish-end_application-requires-clause-wanted t c =
    out.around_wanted (out.ends_next c.pop.new.self.items c.in-Some.before c.up.invariant.finishing c.in-Some.ensures.items c.up.invariant.same.known) c.in_ok-value_fits.ensures.same.known (out.around_is c.args.o.now c.args.expected.now c.in_ok-around.ensures.wanted c.first-in-Some.ensures c.deref-in-Some.ensures.value)

pub finish-returns-in_err-end_application-clause-answer : goal.chains::finish-returns-in_err-end_application-clause-answer
finish-returns-in_err-end_application-clause-answer t c =
    let p = out.ends_next c.pop.new.self.items c.in-Some.before c.up.invariant.finishing c.in-Some.ensures.items c.up.invariant.same.known in
    let m = out.midway c.field_given.new.found c.index-vs-vs.result (length c.args.vs.now - 1 - c.len.result) p c.first.ensures c.in_ok-field_given.ensures.lines c.in_ok-field_given.ensures.found c.index-vs-vs.is (omega (arith, c.len.ensures)) c.deref.ensures.value c.second.ensures in
    let h = out.midway_answer c.value_fits.new.found c.in_err-end_application.field-0.0 m c.in_ok-value_fits.ensures.answer c.in_ok-value_fits.ensures.same.known c.in_ok-args.ensures.answer (out.around_is c.args.o.now c.args.expected.now c.in_ok-around.ensures.wanted c.first-in-Some.ensures c.deref-in-Some.ensures.value) c.deref-in-Some-2.ensures.value c.in_err-end_application.ensures.answer in
    search (rules, h)

pub finish-up-preserved : goal.chains::finish-up-preserved
finish-up-preserved t c =
    let p = out.ends_next c.pop.new.self.items c.in-Some.before c.up.invariant.finishing c.in-Some.ensures.items c.up.invariant.same.known in
    let m = out.midway c.field_given.new.found c.index-vs-vs.result (length c.args.vs.now - 1 - c.len.result) p c.first.ensures c.in_ok-field_given.ensures.lines c.in_ok-field_given.ensures.found c.index-vs-vs.is (omega (arith, c.len.ensures)) c.deref.ensures.value c.second.ensures in
    let same = c.in_ok-value_fits.ensures.same.known ∙ c.up.invariant.same.known in
    record {
      same = record { known = same; items = c.in_ok-value_fits.ensures.same.items ∙ c.up.invariant.same.items };
      finishing =
          out.finishing_next m (out.midway_done c.value_fits.new.found m c.in_ok-value_fits.ensures.answer c.in_ok-value_fits.ensures.same.known c.in_ok-args.ensures.answer (out.around_is c.args.o.now c.args.expected.now c.in_ok-around.ensures.wanted c.first-in-Some.ensures c.deref-in-Some.ensures.value) c.deref-in-Some-2.ensures.value c.in_ok-end_application.ensures.answer)
          (subst (λ e. IsTypeIn e (plain c.in_ok-end_application.field-0)) same c.in_ok-end_application.ensures.formed);
    }
