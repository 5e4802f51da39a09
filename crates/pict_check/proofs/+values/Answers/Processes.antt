-- Processes.
use Rattle.std.proofs.Common.{rules, refl, sym, ◌∙◌, ap, subst, ◌-◌}
use Rattle.pict_syntax.specs.declared.code.Code.TheVariants.{Y2, Y3}
use Rattle.pict_syntax.specs.declared.tree.Val.{the_lemmas}
use Rattle.pict_syntax.specs.Trees.{of_chan, no_decs, no_procs, Proc}
use Rattle.pict_syntax.specs.PlainTrees.{chan_of, val_of, abs_of, decs_on, proc_of, procs_on}
use Rattle.pict_syntax.specs.Grammar.{chan_span}
use Rattle.pict_syntax.proofs.ValueLists.{procs_none}
use Rattle.pict_types.specs.Plain.{plain}
use Rattle.pict_rules.specs.Clauses.{may_receive, may_send}
use Rattle.pict_rules.specs.Derivations.{Runs, give_}
use Rattle.pict_rules.specs.Environments.{Environment}
use Rattle.pict_rules.specs.Rules.{nothing_, gives, has, ok, declarations, process, processes, receives, abstraction_against}
use Rattle.pict_rules.specs.Typing.{rule}
use Rattle.pict_infer.specs.Answering.{IsAnswer, IsRefused, nothing}
use Rattle.pict_infer.specs.Asking.{IsWellAsked}
use Rattle.pict_infer.specs.Environments.{environment_of}
use Rattle.pict_lines.proofs.Kept.{answer_in, grew_kept, grown_from, kept_here, kept_twice}
use Rattle.pict_check.proofs.DeclarationForms.{group_read, if_proc_read, inert_form, receive_read, send_read, serve_read}
use Rattle.pict_check.proofs.ProcessEnds.{group_asked, group_done, group_refused, inside_asked, inside_refused, message_asked, messages_there, proc_if_end, proc_no_asked, proc_test, proc_test_asked, proc_yes, proc_yes_asked, process_asked, process_more, process_refused, receive_asked, receive_end, receive_refused, receiver_asked, receives_channel_asked, receives_channel_refused, receives_end, receives_refused, send_channel_asked, send_channel_refused, send_end, send_refused, serve_asked, serve_end, serve_refused}
use Rattle.pict_check.proofs.+values.Goals as goal

-- each form of a process: a message
pub process-channel_gives-requires : goal.processes::process-channel_gives-requires
process-channel_gives-requires t c =
    let e = environment_of c.args.env.now in
    let i = c.in-Send in
    let is = send_read c.args.p.now i.field-0 i.c i.v c.deref.result.now i.v.value i.is c.deref.ensures refl in
    (search (rules, the_lemmas), send_channel_asked e i.field-0 (chan_of c.deref.result.now) (val_of i.v.value) (subst (λ (p : Proc). IsWellAsked nothing_ e (process p)) is c.requires.right))

pub process-returns-in_err-t-in-Send-clause-answer : goal.processes::process-returns-in_err-t-in-Send-clause-answer
process-returns-in_err-t-in-Send-clause-answer t c =
    let e = environment_of c.args.env.now in
    let i = c.in-Send in
    let y = c.in_err-t-in-Send.field-0.0 in
    let is = send_read c.args.p.now i.field-0 i.c i.v c.deref.result.now i.v.value i.is c.deref.ensures refl in
    let h = subst (λ (p : Proc). IsRefused (rule e (process p)) y) (sym is) (send_channel_refused e i.field-0 (chan_of c.deref.result.now) (val_of i.v.value) y c.in_err-t-in-Send.ensures.answer) in
    search (rules, h)

pub process-returns-in_err-u-in-Send-clause-answer : goal.processes::process-returns-in_err-u-in-Send-clause-answer
process-returns-in_err-u-in-Send-clause-answer t c =
    let e = environment_of c.args.env.now in
    let d = environment_of c.channel_gives.new.env in
    let i = c.in-Send in
    let y = c.in_err-u-in-Send.field-0.0 in
    let k = chan_of c.deref.result.now in
    let g = c.in_ok-t-in-Send in
    let is = send_read c.args.p.now i.field-0 i.c i.v c.deref.result.now i.v.value i.is c.deref.ensures refl in
    let at = c.chan_span.ensures ∙ ap (λ z. chan_span (chan_of z)) (c.deref-in-Send.ensures ∙ sym c.deref.ensures) in
    let no = messages_there (λ r. IsRefused r y) may_send Y2 d e c.chan_span.result (chan_span k) (plain g.t) g.ensures.same.known at c.in_err-u-in-Send.ensures in
    let h = subst (λ (p : Proc). IsRefused (rule e (process p)) y) (sym is) (send_refused e i.field-0 k (val_of i.v.value) (plain g.t) y g.ensures.answer no) in
    search (rules, h)

pub process-has-requires : goal.processes::process-has-requires
process-has-requires t c =
    let e = environment_of c.args.env.now in
    let d = environment_of c.channel_gives.new.env in
    let i = c.in-Send in
    let k = chan_of c.deref.result.now in
    let v = val_of c.deref-in-Send-2.result.now in
    let g = c.in_ok-t-in-Send in
    let u = plain c.in_ok-u-in-Send.u in
    let is = send_read c.args.p.now i.field-0 i.c i.v c.deref.result.now c.deref-in-Send-2.result.now i.is c.deref.ensures c.deref-in-Send-2.ensures in
    let at = c.chan_span.ensures ∙ ap (λ z. chan_span (chan_of z)) (c.deref-in-Send.ensures ∙ sym c.deref.ensures) in
    let sent = messages_there (λ r. Runs r (ok u)) may_send Y2 d e c.chan_span.result (chan_span k) (plain g.t) g.ensures.same.known at c.in_ok-u-in-Send.ensures in
    let asked = message_asked e i.field-0 k v (plain g.t) u (subst (λ (p : Proc). IsWellAsked nothing_ e (process p)) is c.requires.right) g.ensures.answer sent in
    (search (rules, the_lemmas), subst (λ (z : Environment). IsWellAsked nothing_ z (has v u)) (sym g.ensures.same.known) asked)

pub process-returns-in_ok-u-in-Send-clause-answer : goal.processes::process-returns-in_ok-u-in-Send-clause-answer
process-returns-in_ok-u-in-Send-clause-answer t c =
    let e = environment_of c.args.env.now in
    let d = environment_of c.channel_gives.new.env in
    let i = c.in-Send in
    let k = chan_of c.deref.result.now in
    let v = val_of c.deref-in-Send-2.result.now in
    let g = c.in_ok-t-in-Send in
    let u = plain c.in_ok-u-in-Send.u in
    let is = send_read c.args.p.now i.field-0 i.c i.v c.deref.result.now c.deref-in-Send-2.result.now i.is c.deref.ensures c.deref-in-Send-2.ensures in
    let at = c.chan_span.ensures ∙ ap (λ z. chan_span (chan_of z)) (c.deref-in-Send.ensures ∙ sym c.deref.ensures) in
    let sent = messages_there (λ r. Runs r (ok u)) may_send Y2 d e c.chan_span.result (chan_span k) (plain g.t) g.ensures.same.known at c.in_ok-u-in-Send.ensures in
    subst (λ (p : Proc). IsAnswer (rule e (process p)) nothing c.has.result) (sym is)
    (send_end e i.field-0 k v (plain g.t) u c.has.result g.ensures.answer sent (answer_in (has v u) nothing c.has.result d e g.ensures.same.known c.has.ensures.answer))

-- a receiver
pub process-channel_gives-requires-in-Receive : goal.processes::process-channel_gives-requires-in-Receive
process-channel_gives-requires-in-Receive t c =
    let e = environment_of c.args.env.now in
    let i = c.in-Receive in
    let k = chan_of c.deref-in-Receive.result.now in
    let is = receive_read c.args.p.now i.field-0 i.c i.a c.deref-in-Receive.result.now i.a.value i.is c.deref-in-Receive.ensures refl in
    (search (rules, the_lemmas), receives_channel_asked e k (abs_of i.a.value) (receive_asked e i.field-0 k (abs_of i.a.value) (subst (λ (p : Proc). IsWellAsked nothing_ e (process p)) is c.requires.right)))

pub process-returns-in_err-t-in-Receive-clause-answer : goal.processes::process-returns-in_err-t-in-Receive-clause-answer
process-returns-in_err-t-in-Receive-clause-answer t c =
    let e = environment_of c.args.env.now in
    let i = c.in-Receive in
    let k = chan_of c.deref-in-Receive.result.now in
    let y = c.in_err-t-in-Receive.field-0.0 in
    let is = receive_read c.args.p.now i.field-0 i.c i.a c.deref-in-Receive.result.now i.a.value i.is c.deref-in-Receive.ensures refl in
    let h = subst (λ (p : Proc). IsRefused (rule e (process p)) y) (sym is) (receive_refused e i.field-0 k (abs_of i.a.value) y (receives_channel_refused e k (abs_of i.a.value) y c.in_err-t-in-Receive.ensures.answer)) in
    search (rules, h)

pub process-receives-requires : goal.processes::process-receives-requires
process-receives-requires t c =
    let e = environment_of c.args.env.now in
    let i = c.in-Receive in
    let g = c.in_ok-t-in-Receive in
    let a = c.deref-in-Receive-2.result.now in
    let k = c.deref-in-Receive-3.result.now in
    let is = receive_read c.args.p.now i.field-0 i.c i.a k a i.is c.deref-in-Receive-3.ensures c.deref-in-Receive-2.ensures in
    let asked = receive_asked e i.field-0 (chan_of k) (abs_of a) (subst (λ (p : Proc). IsWellAsked nothing_ e (process p)) is c.requires.right) in
    let head = subst (λ z. Runs (rule e (gives (of_chan (chan_of z)))) (ok (plain g.t))) (c.deref-in-Receive.ensures ∙ sym c.deref-in-Receive-3.ensures) g.ensures.answer in
    (search (rules, the_lemmas), (subst (λ (z : Environment). IsWellAsked nothing_ z (receives (chan_of k) (abs_of a))) (sym g.ensures.same.known) asked, subst (λ (z : Environment). Runs (rule z (gives (of_chan (chan_of k)))) (ok (plain g.t))) (sym g.ensures.same.known) head))

pub process-returns-in_ok-t-in-Receive-clause-answer : goal.processes::process-returns-in_ok-t-in-Receive-clause-answer
process-returns-in_ok-t-in-Receive-clause-answer t c =
    let e = environment_of c.args.env.now in
    let d = environment_of c.channel_gives-in-Receive.new.env in
    let i = c.in-Receive in
    let g = c.in_ok-t-in-Receive in
    let a = c.deref-in-Receive-2.result.now in
    let k = c.deref-in-Receive-3.result.now in
    let r = c.receives.result in
    let is = receive_read c.args.p.now i.field-0 i.c i.a k a i.is c.deref-in-Receive-3.ensures c.deref-in-Receive-2.ensures in
    subst (λ (p : Proc). IsAnswer (rule e (process p)) nothing r) (sym is)
    (receive_end e i.field-0 (chan_of k) (abs_of a) r (answer_in (receives (chan_of k) (abs_of a)) nothing r d e g.ensures.same.known c.receives.ensures.answer))

-- a server
pub process-channel_gives-requires-in-Serve : goal.processes::process-channel_gives-requires-in-Serve
process-channel_gives-requires-in-Serve t c =
    let e = environment_of c.args.env.now in
    let i = c.in-Serve in
    let k = chan_of c.deref-in-Serve.result.now in
    let is = serve_read c.args.p.now i.field-0 i.c i.a c.deref-in-Serve.result.now i.a.value i.is c.deref-in-Serve.ensures refl in
    (search (rules, the_lemmas), receives_channel_asked e k (abs_of i.a.value) (serve_asked e i.field-0 k (abs_of i.a.value) (subst (λ (p : Proc). IsWellAsked nothing_ e (process p)) is c.requires.right)))

pub process-returns-in_err-t-in-Serve-clause-answer : goal.processes::process-returns-in_err-t-in-Serve-clause-answer
process-returns-in_err-t-in-Serve-clause-answer t c =
    let e = environment_of c.args.env.now in
    let i = c.in-Serve in
    let k = chan_of c.deref-in-Serve.result.now in
    let y = c.in_err-t-in-Serve.field-0.0 in
    let is = serve_read c.args.p.now i.field-0 i.c i.a c.deref-in-Serve.result.now i.a.value i.is c.deref-in-Serve.ensures refl in
    let h = subst (λ (p : Proc). IsRefused (rule e (process p)) y) (sym is) (serve_refused e i.field-0 k (abs_of i.a.value) y (receives_channel_refused e k (abs_of i.a.value) y c.in_err-t-in-Serve.ensures.answer)) in
    search (rules, h)

pub process-receives-requires-in-Serve : goal.processes::process-receives-requires-in-Serve
process-receives-requires-in-Serve t c =
    let e = environment_of c.args.env.now in
    let i = c.in-Serve in
    let g = c.in_ok-t-in-Serve in
    let a = c.deref-in-Serve-2.result.now in
    let k = c.deref-in-Serve-3.result.now in
    let is = serve_read c.args.p.now i.field-0 i.c i.a k a i.is c.deref-in-Serve-3.ensures c.deref-in-Serve-2.ensures in
    let asked = serve_asked e i.field-0 (chan_of k) (abs_of a) (subst (λ (p : Proc). IsWellAsked nothing_ e (process p)) is c.requires.right) in
    let head = subst (λ z. Runs (rule e (gives (of_chan (chan_of z)))) (ok (plain g.t))) (c.deref-in-Serve.ensures ∙ sym c.deref-in-Serve-3.ensures) g.ensures.answer in
    (search (rules, the_lemmas), (subst (λ (z : Environment). IsWellAsked nothing_ z (receives (chan_of k) (abs_of a))) (sym g.ensures.same.known) asked, subst (λ (z : Environment). Runs (rule z (gives (of_chan (chan_of k)))) (ok (plain g.t))) (sym g.ensures.same.known) head))

pub process-returns-in_ok-t-in-Serve-clause-answer : goal.processes::process-returns-in_ok-t-in-Serve-clause-answer
process-returns-in_ok-t-in-Serve-clause-answer t c =
    let e = environment_of c.args.env.now in
    let d = environment_of c.channel_gives-in-Serve.new.env in
    let i = c.in-Serve in
    let g = c.in_ok-t-in-Serve in
    let a = c.deref-in-Serve-2.result.now in
    let k = c.deref-in-Serve-3.result.now in
    let r = c.receives-in-Serve.result in
    let is = serve_read c.args.p.now i.field-0 i.c i.a k a i.is c.deref-in-Serve-3.ensures c.deref-in-Serve-2.ensures in
    subst (λ (p : Proc). IsAnswer (rule e (process p)) nothing r) (sym is)
    (serve_end e i.field-0 (chan_of k) (abs_of a) r (answer_in (receives (chan_of k) (abs_of a)) nothing r d e g.ensures.same.known c.receives-in-Serve.ensures.answer))

-- a conditional
pub process-gives_below-requires : goal.processes::process-gives_below-requires
process-gives_below-requires t c =
    let e = environment_of c.args.env.now in
    let i = c.in-If in
    let v = val_of c.deref-in-If.result.now in
    let is = if_proc_read c.args.p.now i.field-0 i.test i.yes i.no c.deref-in-If.result.now i.yes.value i.no.value i.is c.deref-in-If.ensures refl refl in
    (search (rules, the_lemmas), (proc_test_asked e i.field-0 v (proc_of i.yes.value) (proc_of i.no.value) (subst (λ (p : Proc). IsWellAsked nothing_ e (process p)) is c.requires.right), tt))

pub process-returns-in_err-gives_below-in-If-clause-answer : goal.processes::process-returns-in_err-gives_below-in-If-clause-answer
process-returns-in_err-gives_below-in-If-clause-answer t c =
    let e = environment_of c.args.env.now in
    let i = c.in-If in
    let v = val_of c.deref-in-If.result.now in
    let y = c.in_err-gives_below-in-If.field-0.0 in
    let is = if_proc_read c.args.p.now i.field-0 i.test i.yes i.no c.deref-in-If.result.now i.yes.value i.no.value i.is c.deref-in-If.ensures refl refl in
    let h = subst (λ (p : Proc). IsRefused (rule e (process p)) y) (sym is) (proc_test e i.field-0 v (proc_of i.yes.value) (proc_of i.no.value) y c.in_err-gives_below-in-If.ensures.answer) in
    search (rules, h)

pub process-process-requires : goal.processes::process-process-requires
process-process-requires t c =
    let e = environment_of c.args.env.now in
    let i = c.in-If in
    let v = val_of c.deref-in-If.result.now in
    let q = proc_of c.deref-in-If-2.result.now in
    let is = if_proc_read c.args.p.now i.field-0 i.test i.yes i.no c.deref-in-If.result.now c.deref-in-If-2.result.now i.no.value i.is c.deref-in-If.ensures c.deref-in-If-2.ensures refl in
    let asked = proc_yes_asked e i.field-0 v q (proc_of i.no.value) (subst (λ (p : Proc). IsWellAsked nothing_ e (process p)) is c.requires.right) c.in_ok-gives_below-in-If.ensures.answer in
    (search (rules, the_lemmas), subst (λ (z : Environment). IsWellAsked nothing_ z (process q)) (sym c.in_ok-gives_below-in-If.ensures.same.known) asked)

pub process-returns-in_err-process-in-If-clause-answer : goal.processes::process-returns-in_err-process-in-If-clause-answer
process-returns-in_err-process-in-If-clause-answer t c =
    let e = environment_of c.args.env.now in
    let i = c.in-If in
    let v = val_of c.deref-in-If.result.now in
    let q = proc_of c.deref-in-If-2.result.now in
    let y = c.in_err-process-in-If.field-0.0 in
    let k = c.in_ok-gives_below-in-If.ensures in
    let is = if_proc_read c.args.p.now i.field-0 i.test i.yes i.no c.deref-in-If.result.now c.deref-in-If-2.result.now i.no.value i.is c.deref-in-If.ensures c.deref-in-If-2.ensures refl in
    let no = subst (λ (z : Environment). IsRefused (rule z (process q)) y) k.same.known c.in_err-process-in-If.ensures.answer in
    let h = subst (λ (p : Proc). IsRefused (rule e (process p)) y) (sym is) (proc_yes e i.field-0 v q (proc_of i.no.value) y k.answer no) in
    search (rules, h)

pub process-process-requires-in-If : goal.processes::process-process-requires-in-If
process-process-requires-in-If t c =
    let e = environment_of c.args.env.now in
    let i = c.in-If in
    let v = val_of c.deref-in-If.result.now in
    let q = proc_of c.deref-in-If-2.result.now in
    let r = proc_of c.deref-in-If-3.result.now in
    let k = c.in_ok-gives_below-in-If.ensures in
    let l = c.in_ok-process-in-If.ensures in
    let is = if_proc_read c.args.p.now i.field-0 i.test i.yes i.no c.deref-in-If.result.now c.deref-in-If-2.result.now c.deref-in-If-3.result.now i.is c.deref-in-If.ensures c.deref-in-If-2.ensures c.deref-in-If-3.ensures in
    let held = subst (λ (z : Environment). Runs (rule z (process q)) (ok tt)) k.same.known l.answer in
    let asked = proc_no_asked e i.field-0 v q r (subst (λ (p : Proc). IsWellAsked nothing_ e (process p)) is c.requires.right) k.answer held in
    (search (rules, the_lemmas), subst (λ (z : Environment). IsWellAsked nothing_ z (process r)) (sym (l.same.known ∙ k.same.known)) asked)

pub process-returns-in_ok-process-in-If-clause-answer : goal.processes::process-returns-in_ok-process-in-If-clause-answer
process-returns-in_ok-process-in-If-clause-answer t c =
    let e = environment_of c.args.env.now in
    let i = c.in-If in
    let v = val_of c.deref-in-If.result.now in
    let q = proc_of c.deref-in-If-2.result.now in
    let r = proc_of c.deref-in-If-3.result.now in
    let k = c.in_ok-gives_below-in-If.ensures in
    let l = c.in_ok-process-in-If.ensures in
    let is = if_proc_read c.args.p.now i.field-0 i.test i.yes i.no c.deref-in-If.result.now c.deref-in-If-2.result.now c.deref-in-If-3.result.now i.is c.deref-in-If.ensures c.deref-in-If-2.ensures c.deref-in-If-3.ensures in
    let held = subst (λ (z : Environment). Runs (rule z (process q)) (ok tt)) k.same.known l.answer in
    let a = c.process-in-If.result in
    subst (λ (p : Proc). IsAnswer (rule e (process p)) nothing a) (sym is)
    (proc_if_end e i.field-0 v q r a k.answer held (answer_in (process r) nothing a (environment_of c.process.new.env) e (l.same.known ∙ k.same.known) c.process-in-If.ensures.answer))

-- nothing
pub process-returns-in-Inert-clause-answer : goal.processes::process-returns-in-Inert-clause-answer
process-returns-in-Inert-clause-answer t c = subst (λ (p : Proc). Runs (rule (environment_of c.args.env.now) (process p)) (ok tt)) (sym (inert_form c.args.p.now c.in-Inert.field-0 c.in-Inert.is)) give_

-- a group
pub process-declarations-requires : goal.processes::process-declarations-requires
process-declarations-requires t c =
    let e = environment_of c.args.env.now in
    let i = c.in-Group in
    let xs = c.deref-in-Group.result.now in
    let is = group_read c.args.p.now i.field-0 i.ds i.ps xs i.ps.items i.is c.deref-in-Group.ensures.value refl in
    (search (rules, the_lemmas), group_asked e i.field-0 (decs_on no_decs xs) (procs_on no_procs i.ps.items) (subst (λ (p : Proc). IsWellAsked nothing_ e (process p)) is c.requires.right))

pub process-returns-in_err-declarations-in-Group-clause-answer : goal.processes::process-returns-in_err-declarations-in-Group-clause-answer
process-returns-in_err-declarations-in-Group-clause-answer t c =
    let e = environment_of c.args.env.now in
    let i = c.in-Group in
    let xs = c.deref-in-Group.result.now in
    let y = c.in_err-declarations-in-Group.field-0.0 in
    let is = group_read c.args.p.now i.field-0 i.ds i.ps xs i.ps.items i.is c.deref-in-Group.ensures.value refl in
    let h = subst (λ (p : Proc). IsRefused (rule e (process p)) y) (sym is) (group_refused e i.field-0 (decs_on no_decs xs) (procs_on no_procs i.ps.items) y c.in_err-declarations-in-Group.ensures.answer) in
    search (rules, h)

pub process-processes-requires : goal.processes::process-processes-requires
process-processes-requires t c =
    let e = environment_of c.args.env.now in
    let d = environment_of c.declarations.new.env in
    let i = c.in-Group in
    let xs = c.deref-in-Group.result.now in
    let ys = c.deref-in-Group-2.result.now in
    let is = group_read c.args.p.now i.field-0 i.ds i.ps xs ys i.is c.deref-in-Group.ensures.value c.deref-in-Group-2.ensures.value in
    (search (rules, the_lemmas), inside_asked e d i.field-0 (decs_on no_decs xs) (procs_on no_procs ys) (subst (λ (p : Proc). IsWellAsked nothing_ e (process p)) is c.requires.right) c.in_ok-declarations-in-Group.ensures.answer)

pub process-returns-in_err-processes-in-Group-clause-answer : goal.processes::process-returns-in_err-processes-in-Group-clause-answer
process-returns-in_err-processes-in-Group-clause-answer t c =
    let e = environment_of c.args.env.now in
    let d = environment_of c.declarations.new.env in
    let i = c.in-Group in
    let xs = c.deref-in-Group.result.now in
    let ys = c.deref-in-Group-2.result.now in
    let y = c.in_err-processes-in-Group.field-0.0 in
    let is = group_read c.args.p.now i.field-0 i.ds i.ps xs ys i.is c.deref-in-Group.ensures.value c.deref-in-Group-2.ensures.value in
    let no = inside_refused e d i.field-0 (decs_on no_decs xs) (procs_on no_procs ys) y c.in_ok-declarations-in-Group.ensures.answer c.in_err-processes-in-Group.ensures.answer in
    let h = subst (λ (p : Proc). IsRefused (rule e (process p)) y) (sym is) no in
    search (rules, h)

pub process-cut-requires : goal.processes::process-cut-requires
process-cut-requires t c =
    let old = c.args.env.now in
    let last = c.processes.new.env in
    record { grown = grown_from c.place-outer.result old last c.place-outer.ensures (grew_kept old c.declarations.new.env last c.in_ok-declarations-in-Group.ensures.grew c.in_ok-processes-in-Group.ensures.same) }

pub process-returns-in_ok-processes-in-Group-clause-answer : goal.processes::process-returns-in_ok-processes-in-Group-clause-answer
process-returns-in_ok-processes-in-Group-clause-answer t c =
    let e = environment_of c.args.env.now in
    let d = environment_of c.declarations.new.env in
    let i = c.in-Group in
    let xs = c.deref-in-Group.result.now in
    let ys = c.deref-in-Group-2.result.now in
    let is = group_read c.args.p.now i.field-0 i.ds i.ps xs ys i.is c.deref-in-Group.ensures.value c.deref-in-Group-2.ensures.value in
    subst (λ (p : Proc). Runs (rule e (process p)) (ok tt)) (sym is)
    (group_done e d i.field-0 (decs_on no_decs xs) (procs_on no_procs ys) c.in_ok-declarations-in-Group.ensures.answer c.in_ok-processes-in-Group.ensures.answer)

-- an abstraction that receives
pub receives-returns-in_err-u-clause-answer : goal.processes::receives-returns-in_err-u-clause-answer
receives-returns-in_err-u-clause-answer t c =
    let e = environment_of c.args.env.now in
    let k = chan_of c.args.c.now in
    let y = c.in_err-u.field-0.0 in
    let no = messages_there (λ r. IsRefused r y) may_receive Y3 e e c.chan_span.result (chan_span k) (plain c.args.t) refl c.chan_span.ensures c.in_err-u.ensures in
    let h = receives_refused e k (abs_of c.args.a.now) (plain c.args.t) y c.requires.head no in
    search (rules, h)

pub receives-abstraction_against-requires : goal.processes::receives-abstraction_against-requires
receives-abstraction_against-requires t c =
    let e = environment_of c.args.env.now in
    let k = chan_of c.args.c.now in
    let u = plain c.in_ok-u.u in
    let given = messages_there (λ r. Runs r (ok u)) may_receive Y3 e e c.chan_span.result (chan_span k) (plain c.args.t) refl c.chan_span.ensures c.in_ok-u.ensures in
    (search (rules, the_lemmas), receiver_asked e k (abs_of c.args.a.now) (plain c.args.t) u c.requires.right c.requires.head given)

pub receives-returns-clause-answer : goal.processes::receives-returns-clause-answer
receives-returns-clause-answer t c =
    let e = environment_of c.args.env.now in
    let k = chan_of c.args.c.now in
    let u = plain c.in_ok-u.u in
    let given = messages_there (λ r. Runs r (ok u)) may_receive Y3 e e c.chan_span.result (chan_span k) (plain c.args.t) refl c.chan_span.ensures c.in_ok-u.ensures in
    receives_end e k (abs_of c.args.a.now) (plain c.args.t) u c.abstraction_against.result c.requires.head given c.abstraction_against.ensures.answer

-- processes in order
pub processes-loop-p-init : goal.processes::processes-loop-p-init
processes-loop-p-init t c = record {
  so_far = subst (λ z. Runs (rule (environment_of c.args.env.now) (processes z)) (ok tt)) (sym (procs_none no_procs)) give_;
  same = kept_here c.args.env.now;
}

pub processes-process-requires : goal.processes::processes-process-requires
processes-process-requires t c =
    let e = environment_of c.args.env.now in
    let x = c.p-item.result in
    let asked = process_asked e c.args.ps.now c.loop-p.p-index x c.loop-p-test.true c.requires.right c.loop-p.invariant.so_far in
    (search (rules, the_lemmas), subst (λ z. IsWellAsked nothing_ z (process (proc_of x))) (sym c.loop-p.invariant.same.known) (subst (λ z. IsWellAsked nothing_ e (process (proc_of z))) (sym c.p-item.is) asked))

pub processes-returns-in_err-process-clause-answer : goal.processes::processes-returns-in_err-process-clause-answer
processes-returns-in_err-process-clause-answer t c =
    let e = environment_of c.args.env.now in
    let x = c.p-item.result in
    let y = c.in_err-process.field-0.0 in
    let there = subst (λ (z : Environment). IsRefused (rule z (process (proc_of x))) y) c.loop-p.invariant.same.known c.in_err-process.ensures.answer in
    let no = subst (λ z. IsRefused (rule e (process (proc_of z))) y) c.p-item.is there in
    let h = process_refused e c.args.ps.now c.loop-p.p-index x y c.loop-p-test.true c.loop-p.invariant.so_far no in
    search (rules, h)

pub processes-loop-p-preserved : goal.processes::processes-loop-p-preserved
processes-loop-p-preserved t c =
    let e = environment_of c.args.env.now in
    let x = c.p-item.result in
    let held = subst (λ z. Runs (rule z (process (proc_of x))) (ok tt)) c.loop-p.invariant.same.known c.in_ok-process.ensures.answer in
    record {
      so_far = process_more e c.args.ps.now c.loop-p.p-index x c.loop-p-test.true c.loop-p.invariant.so_far (subst (λ z. Runs (rule e (process (proc_of z))) (ok tt)) c.p-item.is held);
      same = kept_twice c.args.env.now c.loop-p.env c.process.new.env c.loop-p.invariant.same c.in_ok-process.ensures.same;
    }
