-- The field mentions what is missing, or what is found is put in.
use Rattle.std.proofs.Common.{rules, length, sym, ◌∙◌, ap, subst, None, Some}
use Rattle.pict_types.specs.Kinds.{IsWellFormed}
use Rattle.pict_types.specs.Plain.{plain}
use Rattle.pict_rules.specs.Regular.{kinds_in, kinds_within}
use Rattle.pict_infer.specs.Answering.{IsRefused}
use Rattle.pict_infer.specs.Environments.{environment_of}
use Rattle.pict_rules.specs.Found.{with_found}
use Rattle.pict_lines.specs.Lines.{formed}
use Rattle.pict_lines.specs.Operators.{found_by, operator_of}
use Rattle.pict_lines.specs.Reading.{found_for}
use Rattle.pict_lines.proofs.Frames.{found_count}
use Rattle.pict_lines.proofs.NestedSteps.{shown_room, shown_wanted, wanted_stopped, within_fields}
use Rattle.pict_lines.proofs.nested.field_wanted.Goals as goal

pub wanted-requires-clause-count : goal.wanted-requires-clause-count
wanted-requires-clause-count c = ap length c.deref.ensures.value ∙ found_count c.args.o.now c.args.found.now c.requires.found.kinds_

pub wanted-requires-clause-t : goal.wanted-requires-clause-t
wanted-requires-clause-t c =
    subst (λ z. IsWellFormed (environment_of c.args.env.now).names (kinds_within (kinds_in (environment_of c.args.env.now)) (found_for z c.args.found.now)) (plain c.args.t.now)) (sym c.deref.ensures.value)
    (within_fields (environment_of c.args.env.now) (operator_of c.args.o.now).binders (plain c.args.t.now) (found_by c.args.o.now c.args.found.now) c.requires.field c.requires.found)

pub returns-in_err-wanted-clause-refused : goal.returns-in_err-wanted-clause-refused
returns-in_err-wanted-clause-refused c =
    let y = c.in_err-wanted.field-0.0 in
    let h = wanted_stopped (environment_of c.args.env.now) c.args.o.now.span (plain c.args.t.now) (found_by c.args.o.now c.args.found.now) y
    (sym (c.in_ok-mentions_missing.ensures (operator_of c.args.o.now).binders) ∙ c.if-branch.false)
    (subst (λ z. IsRefused (formed (environment_of c.args.env.now) (with_found (found_for z c.args.found.now) (plain c.args.t.now)) c.args.o.now.span) y) c.deref.ensures.value c.in_err-wanted.ensures.answer) in
    search (rules, h)

pub returns-in_ok-copy-in-None-clause-wanted : goal.returns-in_ok-copy-in-None-clause-wanted
returns-in_ok-copy-in-None-clause-wanted c =
    ap (λ z. Some z) c.in_ok-copy-in-None.ensures.same
    ∙ shown_wanted (environment_of c.args.env.now) c.args.o.now.span c.args.o.now c.args.t.now c.args.found.now c.deref.result.now c.in_ok-wanted.field-0 None c.deref.ensures.value
    (sym (c.in_ok-mentions_missing.ensures (operator_of c.args.o.now).binders) ∙ c.if-branch.false) c.in_ok-wanted.ensures.answer c.in-None.is

pub returns-in_ok-copy-in-None-clause-room : goal.returns-in_ok-copy-in-None-clause-room
returns-in_ok-copy-in-None-clause-room c =
    shown_room (environment_of c.args.env.now) c.args.o.now.span c.args.o.now c.args.t.now c.args.found.now c.deref.result.now c.in_ok-wanted.field-0 c.deref.ensures.value
    (sym (c.in_ok-mentions_missing.ensures (operator_of c.args.o.now).binders) ∙ c.if-branch.false) c.in_ok-wanted.ensures.answer

pub returns-in-Some-clause-wanted : goal.returns-in-Some-clause-wanted
returns-in-Some-clause-wanted c =
    shown_wanted (environment_of c.args.env.now) c.args.o.now.span c.args.o.now c.args.t.now c.args.found.now c.deref.result.now c.in_ok-wanted.field-0 (Some c.in-Some.u) c.deref.ensures.value
    (sym (c.in_ok-mentions_missing.ensures (operator_of c.args.o.now).binders) ∙ c.if-branch.false) c.in_ok-wanted.ensures.answer c.in-Some.is

pub returns-in-Some-clause-room : goal.returns-in-Some-clause-room
returns-in-Some-clause-room c =
    shown_room (environment_of c.args.env.now) c.args.o.now.span c.args.o.now c.args.t.now c.args.found.now c.deref.result.now c.in_ok-wanted.field-0 c.deref.ensures.value
    (sym (c.in_ok-mentions_missing.ensures (operator_of c.args.o.now).binders) ∙ c.if-branch.false) c.in_ok-wanted.ensures.answer
