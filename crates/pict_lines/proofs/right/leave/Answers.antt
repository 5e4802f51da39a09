-- The ends of the body, each by one lemma.
use Rattle.std.proofs.Common.{rules, refl}
use Rattle.pict_infer.specs.Environments.{environment_of}
use Rattle.pict_lines.specs.Nesting.{right_form}
use Rattle.pict_lines.specs.Operators.{type_if}
use Rattle.pict_lines.proofs.FormedOperators.{right_operator, right_regular, right_second}
use Rattle.pict_lines.proofs.Leaving.{all_left, around_found, around_room, around_wanted, leaves_next, leaving_first, leaving_next, next_answer, next_end, next_found, next_refused, inside_is}
use Rattle.pict_lines.proofs.Rights.{memory_refused}
use Rattle.pict_lines.proofs.right.leave.Goals as goal

pub up-init : goal.up-init
up-init c = leaving_first c.index-vs-vs.result c.requires.form c.requires.entered c.requires.last c.requires.given c.index-vs-vs.is c.val_span-at.ensures

pub returns : goal.returns
returns c = all_left c.up.invariant (search rules)

pub field_given-requires-clause-regular : goal.field_given-requires-clause-regular
field_given-requires-clause-regular c = right_regular c.requires.form refl

pub field_given-requires-clause-field : goal.field_given-requires-clause-field
field_given-requires-clause-field c = right_second c.requires.form refl c.second.ensures

pub field_given-requires-clause-found : goal.field_given-requires-clause-found
field_given-requires-clause-found c = next_found (leaves_next c.pop.new.self.items c.in-Some.inner c.up.invariant c.in-Some.ensures.items)

pub field_given-requires-clause-given : goal.field_given-requires-clause-given
field_given-requires-clause-given c = c.up.invariant.formed

pub returns-in_err-field_given : goal.returns-in_err-field_given
returns-in_err-field_given c =
    let h = next_refused c.in_err-field_given.field-0.0 (leaves_next c.pop.new.self.items c.in-Some.inner c.up.invariant c.in-Some.ensures.items) c.second.ensures c.in_err-field_given.ensures.lines in
    search (rules, h)

pub end_fields-requires-clause-regular : goal.end_fields-requires-clause-regular
end_fields-requires-clause-regular c = right_regular c.requires.form refl

pub end_fields-requires-clause-formed : goal.end_fields-requires-clause-formed
end_fields-requires-clause-formed c = right_operator c.requires.form refl

pub returns-in_err-args : goal.returns-in_err-args
returns-in_err-args c =
    let h = next_end c.field_given.new.found c.in_err-args.field-0.0 (leaves_next c.pop.new.self.items c.in-Some.inner c.up.invariant c.in-Some.ensures.items) c.second.ensures c.in_ok-field_given.ensures.lines c.in_err-args.ensures.answer in
    search (rules, h)

pub wanted_around-requires-clause-field : goal.wanted_around-requires-clause-field
wanted_around-requires-clause-field c = right_second c.requires.form refl c.second-in-Some.ensures

pub wanted_around-requires-clause-found : goal.wanted_around-requires-clause-found
wanted_around-requires-clause-found c = around_found (leaves_next c.pop.new.self.items c.in-Some.inner c.up.invariant c.in-Some.ensures.items) c.deref.ensures.value

pub wanted_around-requires-clause-room : goal.wanted_around-requires-clause-room
wanted_around-requires-clause-room c = around_room (leaves_next c.pop.new.self.items c.in-Some.inner c.up.invariant c.in-Some.ensures.items) c.deref.ensures.value c.second-in-Some.ensures

pub returns-in_err-around : goal.returns-in_err-around
returns-in_err-around c =
    let h = memory_refused (environment_of c.args.env.now) (right_form c.args.o.now c.args.vs.now) (type_if c.args.expected.now) c.in_err-around.field-0.0 c.in_err-around.ensures.memory in
    search (rules, h)

pub end_application-requires-clause-regular : goal.end_application-requires-clause-regular
end_application-requires-clause-regular c = right_regular c.requires.form refl

pub end_application-requires-clause-formed : goal.end_application-requires-clause-formed
end_application-requires-clause-formed c = right_operator c.requires.form refl

pub end_application-requires-clause-wanted : goal.end_application-requires-clause-wanted
end_application-requires-clause-wanted c =
    around_wanted (leaves_next c.pop.new.self.items c.in-Some.inner c.up.invariant c.in-Some.ensures.items) (inside_is c.args.o.now c.args.expected.now c.in_ok-around.ensures.wanted c.second-in-Some.ensures c.deref.ensures.value)

pub returns-in_err-end_application : goal.returns-in_err-end_application
returns-in_err-end_application c =
    let h = next_answer c.field_given.new.found c.in_err-end_application.field-0.0 (leaves_next c.pop.new.self.items c.in-Some.inner c.up.invariant c.in-Some.ensures.items) c.second.ensures c.in_ok-field_given.ensures.lines c.in_ok-args.ensures.answer (inside_is c.args.o.now c.args.expected.now c.in_ok-around.ensures.wanted c.second-in-Some.ensures c.deref.ensures.value) c.deref-in-Some.ensures.value c.in_err-end_application.ensures.answer in
    search (rules, h)

pub up-preserved : goal.up-preserved
up-preserved c =
    leaving_next c.field_given.new.found c.in_ok-end_application.field-0 (leaves_next c.pop.new.self.items c.in-Some.inner c.up.invariant c.in-Some.ensures.items) c.second.ensures c.in_ok-field_given.ensures.lines c.in_ok-args.ensures.answer (inside_is c.args.o.now c.args.expected.now c.in_ok-around.ensures.wanted c.second-in-Some.ensures c.deref.ensures.value) c.deref-in-Some.ensures.value c.in_ok-end_application.ensures.answer c.in_ok-end_application.ensures.formed
