-- What is built of each form, one answer a form.
use Rattle.std.proofs.Common.{◌≡◌, ◌∙◌, ◌+◌, ◌∷◌, [], ◌++◌, ap, sym, refl, arith, rules, true, false, None, List, length, map, drop, option_map}
use Rattle.pict_syntax.specs.Trees.{no_vals, no_labelled_vals, no_decs, no_procs, no_definitions}
use Rattle.pict_syntax.specs.PlainTrees.{abs_of, dec_of, chan_of, val_of, proc_of, pat_of, field_vals_of, field_pats_of, vals_on, labelled_vals_on, decs_on, procs_on, definitions_on}
use Rattle.pict_syntax.specs.declared.tree.Abs.TheViews.{out-FieldVals}
use Rattle.pict_core.specs.Term.{Val, Var, Out}
use Rattle.pict_core.specs.Closed.{binds}
use Rattle.pict_core.specs.Plain.{plain_val}
use Rattle.pict_core.specs.declared.value.CoreVal.TheVariants as value
use Rattle.pict_translation.specs.Arguments.{with_value, sent_as_one, right, left}
use Rattle.pict_translation.specs.Placed.{Placed, beside, choice, each, input, new_channel, new_channels, output, served, side_by_side, variables}
use Rattle.pict_translation.specs.Patterns.{pat_core, function_pat}
use Rattle.pict_translation.specs.Simple.{Around, answer_channel, bound, record_of_fields, function_bound, pat_bound, simple, simple_chan, use_of}
use Rattle.pict_translation.specs.Translation.{sending, sending_chan, with_vals, with_labelled, with_fields, decs_core, dec_core, definition_names, servers, reader, proc_core, procs_core, unit_pat}
use Rattle.pict_derive.specs.Built.{field_of, numbers_of, place, surround, three, with_levels}
use Rattle.pict_derive.proofs.LevelLemmas.{empty, extends_none, extends_then, extends_with, names_count, pattern_place, pattern_size, function_answer, function_size, both_bound, place_bound}
use Rattle.pict_derive.proofs.Surrounding.{plain_var}
use Rattle.pict_derive.proofs.BuildForms.{chan_sent, number_sent, character_sent, string_sent, true_sent, false_sent, fields_sent, if_sent, lambda_sent, use_sent, fold_sent, block_sent, apply_sent, right_sent, left_sent, parts_taken, process_read, function_read, new_built, run_built, let_built, def_built, alias_built, operator_built, await_built, send_built, receive_built, serve_built, if_built, inert_built, group_built}
use Rattle.pict_derive.proofs.BuildSteps.{argument_of, process_of, server_of, vals_step, vals_begin, labelled_step, labelled_begin, decs_step, decs_begin}
use Rattle.pict_derive.proofs.BuildParts.{found_value, out_made, choice_made, applied_made, fields_and, input_made, given_back, extends_same, extends_bound, one_value, server_put, servers_done, servers_begin, group_begin, group_none, group_put, group_last, right_none, left_none, right_one, left_one, right_begin, left_begin, right_put, right_last, left_put, left_first, opened_names, opened_pattern}
use Rattle.pict_derive.proofs.build.+build.Goals as goal
use Rattle.std.proofs.lemmas.List.{take_all}

-- ---- values

pub value-returns-in_ok-channel-in-OfChan-clause-core : goal.value-returns-in_ok-channel-in-OfChan-clause-core
value-returns-in_ok-channel-in-OfChan-clause-core t c = c.in_ok-channel-in-OfChan.ensures.core ∙ sym (chan_sent _ _ _ _ _ c.in-OfChan.is)

pub value-returns-in-Number-clause-core : goal.value-returns-in-Number-clause-core
value-returns-in-Number-clause-core t c =
    c.core_output.ensures ∙ ap (λ n. Out (plain_val (value.Var c.args.k)) (plain_val (value.Int n)) c.in-Number.at) (search rules) ∙ number_sent _ _ _ c.in-Number.number _ _ c.in-Number.is

pub value-returns-in-Character-clause-core : goal.value-returns-in-Character-clause-core
value-returns-in-Character-clause-core t c = c.core_output-in-Character.ensures ∙ character_sent _ _ _ _ _ _ c.in-Character.is

pub value-returns-in_ok-copy-in-String-clause-core : goal.value-returns-in_ok-copy-in-String-clause-core
value-returns-in_ok-copy-in-String-clause-core t c = c.core_output-in-String.ensures ∙ string_sent _ _ _ _ _ _ _ c.in-String.is c.in_ok-copy-in-String.ensures

pub value-returns-in-True-clause-core : goal.value-returns-in-True-clause-core
value-returns-in-True-clause-core t c = c.core_output-in-True.ensures ∙ true_sent _ _ _ _ _ c.in-True.is

pub value-returns-in-False-clause-core : goal.value-returns-in-False-clause-core
value-returns-in-False-clause-core t c = c.core_output-in-False.ensures ∙ false_sent _ _ _ _ _ c.in-False.is

pub value-returns-in_ok-around-in-Fields-clause-core : goal.value-returns-in_ok-around-in-Fields-clause-core
value-returns-in_ok-around-in-Fields-clause-core t c =
    let e = place c.args.names.now c.args.scope.now in
    let k = Var c.args.k in
    let us = map plain_val c.in_ok-taken-in-Fields.taken.positional.items in
    let ws = map field_of c.in_ok-taken-in-Fields.taken.labelled.items in
    c.in_ok-around-in-Fields.ensures (output k (record_of_fields e us ws) c.in-Fields.at) (out_made _ _ _ _ _ c.core_output-in-Fields.ensures c.in_ok-message-in-Fields.ensures)
    ∙ sym (rw c.deref.ensures at (c.in_ok-taken-in-Fields.ensures.core (λ vs ls. output k (record_of_fields e vs ls) c.in-Fields.at)))
    ∙ c.new-outer.ensures.core (with_fields e (field_vals_of c.in-Fields.parts.value) (λ vs ls. output k (record_of_fields e vs ls) c.in-Fields.at))
    ∙ sym (fields_sent e _ _ _ k _ c.in-Fields.is)

pub value-returns-in_ok-around-in-If-clause-core : goal.value-returns-in_ok-around-in-If-clause-core
value-returns-in_ok-around-in-If-clause-core t c =
    let e = place c.args.names.now c.args.scope.now in
    let k = Var c.args.k in
    let yes = sending e (val_of c.in-If.yes.value) k in
    let no = sending e (val_of c.in-If.no.value) k in
    c.in_ok-around-in-If.ensures (choice (plain_val c.in_ok-test-in-If.test) yes no)
    (choice_made _ _ _ _ _ _ c.in_ok-rest-in-If.ensures (rw (c.in_ok-test-in-If.ensures.scope, c.deref-in-If-2.ensures) at c.in_ok-yes-in-If.ensures.core) (rw (c.in_ok-yes-in-If.ensures.scope, c.in_ok-test-in-If.ensures.scope, c.deref-in-If-3.ensures) at c.in_ok-no-in-If.ensures.core))
    ∙ sym (rw c.deref-in-If.ensures at (c.in_ok-test-in-If.ensures.core (λ b. choice b yes no)))
    ∙ c.new-outer-in-If.ensures.core (with_value (simple e (val_of c.in-If.test.value)) (sending e (val_of c.in-If.test.value)) (λ b. choice b yes no))
    ∙ sym (if_sent e _ _ _ _ _ k _ c.in-If.is)

pub value-returns-in_ok-lambda-in-Lambda-clause-core : goal.value-returns-in_ok-lambda-in-Lambda-clause-core
value-returns-in_ok-lambda-in-Lambda-clause-core t c = rw c.deref-in-Lambda.ensures at c.in_ok-lambda-in-Lambda.ensures.core ∙ sym (lambda_sent _ _ _ _ _ _ c.in-Lambda.is)

pub lambda-returns-clause-core : goal.lambda-returns-clause-core
lambda-returns-clause-core t c =
    let e = place c.args.names.now c.args.scope.now in
    let k = Var c.args.k in
    let f = c.in_ok-f.f in
    let server = reader e (abs_of c.args.tree.now) in
    let made = rw (plain_var f) at c.in_ok-server.ensures.core in
    c.in_ok-around.ensures (output k (Var f) c.args.at) (out_made _ _ _ _ _ c.core_output.ensures (plain_var f))
    ∙ sym (c.in_ok-beside.ensures.core (server (Var f) true) (output k (Var f) c.args.at) made)
    ∙ sym (c.in_ok-f.ensures.core (λ f. beside (server f true) (output k f c.args.at)))
    ∙ c.new-outer.ensures.core (new_channel (λ f. beside (server f true) (output k f c.args.at)))

-- ---- values that stand as channels

pub channel-returns-in-Use-clause-core : goal.channel-returns-in-Use-clause-core
channel-returns-in-Use-clause-core t c = c.core_output.ensures ∙ use_sent _ _ _ _ _ _ _ c.in-Use.is c.use_core.ensures

pub channel-returns-in-Some-clause-core : goal.channel-returns-in-Some-clause-core
channel-returns-in-Some-clause-core t c =
    let e = place c.args.names.now c.args.scope.now in
    let found = rw c.deref.ensures at c.in_ok-message-in-Fold.ensures in
    out_made _ _ _ _ _ c.core_output-in-Some.ensures refl
    ∙ ap (λ s. sent_as_one s (Var c.args.k) c.in-Fold.at (sending e (val_of c.in-Fold.inner.value) (Var c.args.k)) c.args.depth) (sym (ap (option_map plain_val) c.in-Some.is) ∙ found)
    ∙ sym (fold_sent e _ _ _ _ _ _ c.in-Fold.is)

pub channel-returns-in_ok-value-in-None-clause-core : goal.channel-returns-in_ok-value-in-None-clause-core
channel-returns-in_ok-value-in-None-clause-core t c =
    let e = place c.args.names.now c.args.scope.now in
    let found = rw c.deref.ensures at c.in_ok-message-in-Fold.ensures in
    rw c.deref-in-None.ensures at c.in_ok-value-in-None.ensures.core
    ∙ ap (λ s. sent_as_one s (Var c.args.k) c.in-Fold.at (sending e (val_of c.in-Fold.inner.value) (Var c.args.k)) c.args.depth) (sym (ap (option_map plain_val) c.in-None.is) ∙ found)
    ∙ sym (fold_sent e _ _ _ _ _ _ c.in-Fold.is)

pub channel-returns-in_ok-around-in-Block-clause-core : goal.channel-returns-in_ok-around-in-Block-clause-core
channel-returns-in_ok-around-in-Block-clause-core t c =
    let e = place c.args.names.now c.args.scope.now in
    let k = Var c.args.k in
    let body = val_of c.in-Block.body.value in
    c.in_ok-around-in-Block.ensures (sending (place c.args.names.now c.decs.new.scope) body k) (rw c.deref-in-Block-2.ensures at c.in_ok-body-in-Block.ensures.core)
    ∙ sym (rw c.deref-in-Block.ensures.value at (c.in_ok-decs-in-Block.ensures.core (λ e. sending e body k)))
    ∙ c.new-outer.ensures.core (decs_core e (decs_on no_decs c.in-Block.before.items) (λ e. sending e body k))
    ∙ sym (block_sent e _ _ _ _ k _ c.in-Block.is)

pub channel-returns-in_ok-around-in-Block-clause-scope : goal.channel-returns-in_ok-around-in-Block-clause-scope
channel-returns-in_ok-around-in-Block-clause-scope t c =
    given_back c.args.scope.now c.decs.new.scope c.value-in-Block.new.scope c.cut.new.self c.len-around.result c.in_ok-decs-in-Block.ensures.scope c.in_ok-body-in-Block.ensures.scope c.len-around.ensures c.cut.ensures

pub channel-returns-in_ok-around-in-Apply-clause-core : goal.channel-returns-in_ok-around-in-Apply-clause-core
channel-returns-in_ok-around-in-Apply-clause-core t c =
    let e = place c.args.names.now c.args.scope.now in
    let k = Var c.args.k in
    let at = c.in-Apply.at in
    let g = plain_val c.in_ok-head-in-Apply.head in
    let us = map plain_val c.in_ok-taken-in-Apply.taken.positional.items in
    let ws = map field_of c.in_ok-taken-in-Apply.taken.labelled.items in
    let parts = field_vals_of c.in-Apply.parts.value in
    let message = fields_and e _ c.in_ok-taken-in-Apply.taken.positional.items c.push.new.self.items c.args.k ws c.in_ok-message-in-Apply.ensures c.in_ok-push-in-Apply.ensures.items in
    c.in_ok-around-in-Apply.ensures (output g (record_of_fields e (us ++ k ∷ []) ws) at) (c.core_output-in-Apply.ensures ∙ ap (λ m. Out g m at) message)
    ∙ sym (rw (c.in_ok-head-in-Apply.ensures.scope, c.deref-in-Apply-2.ensures) at (c.in_ok-taken-in-Apply.ensures.core (λ vs ls. output g (record_of_fields e (vs ++ k ∷ []) ls) at)))
    ∙ sym (rw c.deref-in-Apply.ensures at (c.in_ok-head-in-Apply.ensures.core (λ g. with_fields e parts (λ vs ls. output g (record_of_fields e (vs ++ k ∷ []) ls) at))))
    ∙ c.new-outer-in-Apply.ensures.core (with_value (simple e (val_of c.in-Apply.head.value)) (sending e (val_of c.in-Apply.head.value)) (λ g. with_fields e parts (λ vs ls. output g (record_of_fields e (vs ++ k ∷ []) ls) at)))
    ∙ sym (apply_sent e _ _ _ _ k _ c.in-Apply.is)

pub channel-returns-in_ok-right-in-Right-clause-core : goal.channel-returns-in_ok-right-in-Right-clause-core
channel-returns-in_ok-right-in-Right-clause-core t c = rw c.deref-in-Right.ensures.value at c.in_ok-right-in-Right.ensures.core ∙ sym (right_sent _ _ _ _ _ _ _ c.in-Right.is)

pub channel-returns-in_ok-left-in-Left-clause-core : goal.channel-returns-in_ok-left-in-Left-clause-core
channel-returns-in_ok-left-in-Left-clause-core t c = rw c.deref-in-Left.ensures.value at c.in_ok-left-in-Left.ensures.core ∙ sym (left_sent _ _ _ _ _ _ _ c.in-Left.is)

-- ---- values on their way into a process

pub operand-returns-in-Some-clause-core : goal.operand-returns-in-Some-clause-core
operand-returns-in-Some-clause-core t c f = found_value c.args.outer.now _ _ f _ _ c.in_ok-found.ensures c.in-Some.is

pub operand-returns-in_ok-level-in-None-clause-core : goal.operand-returns-in_ok-level-in-None-clause-core
operand-returns-in_ok-level-in-None-clause-core t c f =
    let sent = sending (place c.args.names.now c.args.scope.now) (val_of c.args.tree.now) in
    found_value c.args.outer.now _ sent f _ _ c.in_ok-found.ensures c.in-None.is
    ∙ c.in_ok-k-in-None.ensures.core (λ k. beside (each k f) (sent k))
    ∙ c.in_ok-level-in-None.ensures f (sent (Var c.in_ok-k-in-None.k)) c.in_ok-sent-in-None.ensures.core
    ∙ ap (λ x. surround c.read_one.new.self (f x)) (sym (plain_var c.in_ok-level-in-None.level))

pub channel_operand-returns-in-Some-clause-core : goal.channel_operand-returns-in-Some-clause-core
channel_operand-returns-in-Some-clause-core t c f = found_value c.args.outer.now _ _ f _ _ c.in_ok-found.ensures c.in-Some.is

pub channel_operand-returns-in_ok-level-in-None-clause-core : goal.channel_operand-returns-in_ok-level-in-None-clause-core
channel_operand-returns-in_ok-level-in-None-clause-core t c f =
    let sent = sending_chan (place c.args.names.now c.args.scope.now) (chan_of c.args.tree.now) in
    found_value c.args.outer.now _ sent f _ _ c.in_ok-found.ensures c.in-None.is
    ∙ c.in_ok-k-in-None.ensures.core (λ k. beside (each k f) (sent k))
    ∙ c.in_ok-level-in-None.ensures f (sent (Var c.in_ok-k-in-None.k)) c.in_ok-sent-in-None.ensures.core
    ∙ ap (λ x. surround c.read_one.new.self (f x)) (sym (plain_var c.in_ok-level-in-None.level))

pub fields-returns-clause-core : goal.fields-returns-clause-core
fields-returns-clause-core t c f =
    let e = place c.args.names.now c.args.scope.now in
    let us = map plain_val c.in_ok-positional.positional.items in
    ap (λ p. surround c.args.outer.now p) (parts_taken e c.args.parts.now f)
    ∙ rw c.deref.ensures.value at (c.in_ok-positional.ensures.core (λ us. with_labelled e (labelled_vals_on no_labelled_vals (out-FieldVals c.args.parts.now).labelled.items) (λ ws. f us ws)))
    ∙ rw (c.in_ok-positional.ensures.scope, c.deref-2.ensures.value) at (c.in_ok-labelled.ensures.core (λ ws. f us ws))

pub values-loop-tree-init : goal.values-loop-tree-init
values-loop-tree-init t c = record {
  built = λ f. ap (λ p. surround c.args.outer.now p) (vals_begin (place c.args.names.now c.args.scope.now) f) ∙ ap (λ us. surround c.args.outer.now (f (map plain_val us))) (sym c.new-found.ensures.items);
  same = refl;
}

pub values-loop-tree-preserved : goal.values-loop-tree-preserved
values-loop-tree-preserved t c =
    let e = place c.args.names.now c.args.scope.now in
    let v = val_of c.tree-item.result in
    record {
      built = λ f. ap (λ p. surround c.args.outer.now p) (vals_step e c.args.trees.now c.loop-tree.tree-index c.tree-item.result f (omega arith) c.tree-item.is)
          ∙ c.loop-tree.invariant.built (λ us. with_value (simple e v) (sending e v) (λ u. f (us ++ u ∷ [])))
          ∙ rw c.loop-tree.invariant.same at (c.in_ok-x.ensures.core (λ u. f (map plain_val c.loop-tree.found.items ++ u ∷ [])))
          ∙ ap (λ us. surround c.operand.new.outer (f us)) (one_value plain_val c.loop-tree.found.items c.push.new.self.items c.in_ok-x.x c.in_ok-push.ensures.items);
      same = c.in_ok-x.ensures.scope ∙ c.loop-tree.invariant.same;
    }

pub values-returns-clause-core : goal.values-returns-clause-core
values-returns-clause-core t c f =
    ap (λ xs. surround c.args.outer.now (with_vals (place c.args.names.now c.args.scope.now) (vals_on no_vals xs) f)) (sym (take_all c.loop-tree.tree-index c.args.trees.now (omega arith))) ∙ c.loop-tree.invariant.built f

pub labelled-loop-tree-init : goal.labelled-loop-tree-init
labelled-loop-tree-init t c = record {
  built = λ f. ap (λ p. surround c.args.outer.now p) (labelled_begin (place c.args.names.now c.args.scope.now) f) ∙ ap (λ us. surround c.args.outer.now (f (map field_of us))) (sym c.new-found.ensures.items);
  same = refl;
}

pub labelled-loop-tree-preserved : goal.labelled-loop-tree-preserved
labelled-loop-tree-preserved t c =
    let e = place c.args.names.now c.args.scope.now in
    let v = val_of c.tree-item.result.value in
    let l = c.tree-item.result.label.name in
    record {
      built = λ f. ap (λ p. surround c.args.outer.now p) (labelled_step e c.args.trees.now c.loop-tree.tree-index c.tree-item.result f (omega arith) c.tree-item.is)
          ∙ c.loop-tree.invariant.built (λ us. with_value (simple e v) (sending e v) (λ u. f (us ++ (l.0, u) ∷ [])))
          ∙ rw c.loop-tree.invariant.same at (c.in_ok-x.ensures.core (λ u. f (map field_of c.loop-tree.found.items ++ (l.0, u) ∷ [])))
          ∙ ap (λ us. surround c.operand.new.outer (f us)) (one_value field_of c.loop-tree.found.items c.push.new.self.items (l, c.in_ok-x.x) c.in_ok-push.ensures.items);
      same = c.in_ok-x.ensures.scope ∙ c.loop-tree.invariant.same;
    }

pub labelled-returns-clause-core : goal.labelled-returns-clause-core
labelled-returns-clause-core t c f =
    ap (λ xs. surround c.args.outer.now (with_labelled (place c.args.names.now c.args.scope.now) (labelled_vals_on no_labelled_vals xs) f)) (sym (take_all c.loop-tree.tree-index c.args.trees.now (omega arith))) ∙ c.loop-tree.invariant.built f

-- ---- nested applications

pub right-returns-in_default-clause-core : goal.right-returns-in_default-clause-core
right-returns-in_default-clause-core t c = c.nothing_sent.ensures c.args.depth ∙ right_none _ _ _ c.args.trees.now _ _ (empty _ c.in_default.ensures.cases)

pub left-returns-in_default-clause-core : goal.left-returns-in_default-clause-core
left-returns-in_default-clause-core t c = c.nothing_sent.ensures c.args.depth ∙ left_none _ _ _ c.args.trees.now _ _ (empty _ c.in_default.ensures.cases)

-- ---- abstractions

pub abstraction-returns-in_ok-core_input-in-Process-clause-core : goal.abstraction-returns-in_ok-core_input-in-Process-clause-core
abstraction-returns-in_ok-core_input-in-Process-clause-core t c =
    let names = c.args.names.now in
    let old = c.args.scope.now in
    let d = c.args.depth in
    let opened = c.in_ok-opened-in-Process.opened in
    let p = pat_of c.in-Process.pattern in
    let ns = numbers_of opened.names.items in
    let is = ap opened_names c.in_ok-opened-in-Process.ensures in
    let level = rw c.deref.ensures.value at c.in_ok-inside-in-Process.ensures.level in
    let bound = rw c.deref.ensures.value at c.in_ok-inside-in-Process.ensures.scope in
    input_made _ _ _ _ (pat_core names p) _ (λ xs. proc_core (pat_bound p xs (place names old)) (proc_of c.in-Process.body.value)) _ d c.in_ok-core_input-in-Process.ensures
    (ap opened_pattern c.in_ok-opened-in-Process.ensures)
    (rw c.deref-in-Process.ensures at c.in_ok-body-in-Process.ensures.core
    ∙ ap (λ e. proc_core e (proc_of c.in-Process.body.value) c.in_ok-inside-in-Process.inside) (ap (place names) bound ∙ pattern_place names p d old ns is))
    (pattern_size names p d _ ns is level)
    ∙ sym (process_read (place names old) _ _ _ _ _ _ d c.in-Process.is)

-- ---- declarations

pub dec-returns-in_ok-bind-in-New-clause-core : goal.dec-returns-in_ok-bind-in-New-clause-core
dec-returns-in_ok-bind-in-New-clause-core t c rest =
    let e = place c.args.names.now c.args.scope.now in
    ap (λ p. surround c.args.outer.now p) (new_built e _ _ _ _ rest c.in-New.is)
    ∙ c.in_ok-number-in-New.ensures.core (λ x. rest (bound (c.in-New.id.name.0 ∷ []) (x ∷ []) e))
    ∙ ap (λ s. surround c.new_channel.new.self (rest (place c.args.names.now s))) (sym c.in_ok-bind-in-New.ensures.ok)

pub dec-returns-in_ok-bind-in-New-clause-scope : goal.dec-returns-in_ok-bind-in-New-clause-scope
dec-returns-in_ok-bind-in-New-clause-scope t c = extends_bound _ _ _ c.in_ok-bind-in-New.ensures.ok

pub dec-returns-in_ok-beside-in-Run-clause-core : goal.dec-returns-in_ok-beside-in-Run-clause-core
dec-returns-in_ok-beside-in-Run-clause-core t c rest =
    let e = place c.args.names.now c.args.scope.now in
    ap (λ p. surround c.args.outer.now p) (run_built e _ _ _ rest c.in-Run.is)
    ∙ c.in_ok-beside-in-Run.ensures.core (proc_core e (proc_of c.in-Run.body.value)) (rest e) (rw c.deref.ensures at c.in_ok-left-in-Run.ensures.core)
    ∙ ap (λ s. surround c.beside.new.self (rest (place c.args.names.now s))) (sym c.in_ok-left-in-Run.ensures.scope)

pub dec-returns-in_ok-beside-in-Run-clause-scope : goal.dec-returns-in_ok-beside-in-Run-clause-scope
dec-returns-in_ok-beside-in-Run-clause-scope t c = extends_same _ _ c.in_ok-left-in-Run.ensures.scope

pub dec-returns-in-Alias-clause-core : goal.dec-returns-in-Alias-clause-core
dec-returns-in-Alias-clause-core t c rest = ap (λ p. surround c.args.outer.now p) (alias_built (place c.args.names.now c.args.scope.now) _ _ _ _ rest c.in-Alias.is)

pub dec-returns-in-Alias-clause-scope : goal.dec-returns-in-Alias-clause-scope
dec-returns-in-Alias-clause-scope t c = extends_none c.args.scope.now

pub dec-returns-in-Operator-clause-core : goal.dec-returns-in-Operator-clause-core
dec-returns-in-Operator-clause-core t c rest = ap (λ p. surround c.args.outer.now p) (operator_built (place c.args.names.now c.args.scope.now) _ _ _ _ _ rest c.in-Operator.is)

pub dec-returns-in-Operator-clause-scope : goal.dec-returns-in-Operator-clause-scope
dec-returns-in-Operator-clause-scope t c = extends_none c.args.scope.now

pub decs-loop-tree-init : goal.decs-loop-tree-init
decs-loop-tree-init t c = record {
  built = λ rest. ap (λ p. surround c.args.outer.now p) (decs_begin (place c.args.names.now c.args.scope.now) rest);
  grown = extends_none c.args.scope.now;
}

pub decs-loop-tree-preserved : goal.decs-loop-tree-preserved
decs-loop-tree-preserved t c = record {
  built = λ rest. ap (λ p. surround c.args.outer.now p) (decs_step (place c.args.names.now c.args.scope.now) c.args.trees.now c.loop-tree.tree-index c.tree-item.result rest (omega arith) c.tree-item.is)
      ∙ c.loop-tree.invariant.built (λ e. dec_core e (dec_of c.tree-item.result) rest)
      ∙ c.in_ok-dec.ensures.core rest;
  grown = extends_then _ _ _ c.loop-tree.invariant.grown c.in_ok-dec.ensures.scope;
}

pub decs-returns-clause-core : goal.decs-returns-clause-core
decs-returns-clause-core t c rest =
    ap (λ xs. surround c.args.outer.now (decs_core (place c.args.names.now c.args.scope.now) (decs_on no_decs xs) rest)) (sym (take_all c.loop-tree.tree-index c.args.trees.now (omega arith))) ∙ c.loop-tree.invariant.built rest

-- ---- processes

pub process-returns-in-Inert-clause-core : goal.process-returns-in-Inert-clause-core
process-returns-in-Inert-clause-core t c = sym (inert_built _ _ _ _ c.in-Inert.is)

pub process-returns-in_ok-around-in-Send-clause-core : goal.process-returns-in_ok-around-in-Send-clause-core
process-returns-in_ok-around-in-Send-clause-core t c =
    let e = place c.args.names.now c.args.scope.now in
    let x = chan_of c.in-Send.chan.value in
    let v = val_of c.in-Send.message.value in
    let at = c.in-Send.at in
    let cx = plain_val c.in_ok-chan-in-Send.chan in
    c.in_ok-around-in-Send.ensures (output cx (plain_val c.in_ok-message-in-Send.message) at) c.core_output.ensures
    ∙ sym (rw (c.in_ok-chan-in-Send.ensures.scope, c.deref-in-Send.ensures) at (c.in_ok-message-in-Send.ensures.core (λ y. output cx y at)))
    ∙ sym (rw c.deref.ensures at (c.in_ok-chan-in-Send.ensures.core (λ x. with_value (simple e v) (sending e v) (λ y. output x y at))))
    ∙ c.new-outer.ensures.core (with_value (simple_chan e x) (sending_chan e x) (λ x. with_value (simple e v) (sending e v) (λ y. output x y at)))
    ∙ sym (send_built e _ _ _ _ _ c.in-Send.is)

pub process-returns-in_ok-around-in-Receive-clause-core : goal.process-returns-in_ok-around-in-Receive-clause-core
process-returns-in_ok-around-in-Receive-clause-core t c =
    let e = place c.args.names.now c.args.scope.now in
    let x = chan_of c.in-Receive.chan.value in
    let a = abs_of c.in-Receive.abs.value in
    c.in_ok-around-in-Receive.ensures (reader e a (plain_val c.in_ok-chan-in-Receive.chan) false) (rw (c.in_ok-chan-in-Receive.ensures.scope, c.deref-in-Receive-2.ensures) at c.in_ok-body-in-Receive.ensures.core)
    ∙ sym (rw c.deref-in-Receive.ensures at (c.in_ok-chan-in-Receive.ensures.core (λ x. reader e a x false)))
    ∙ c.new-outer.ensures.core (with_value (simple_chan e x) (sending_chan e x) (λ x. reader e a x false))
    ∙ sym (receive_built e _ _ _ _ _ c.in-Receive.is)

pub process-returns-in_ok-around-in-Serve-clause-core : goal.process-returns-in_ok-around-in-Serve-clause-core
process-returns-in_ok-around-in-Serve-clause-core t c =
    let e = place c.args.names.now c.args.scope.now in
    let x = chan_of c.in-Serve.chan.value in
    let a = abs_of c.in-Serve.abs.value in
    c.in_ok-around-in-Serve.ensures (reader e a (plain_val c.in_ok-chan-in-Serve.chan) true) (rw (c.in_ok-chan-in-Serve.ensures.scope, c.deref-in-Serve-2.ensures) at c.in_ok-body-in-Serve.ensures.core)
    ∙ sym (rw c.deref-in-Serve.ensures at (c.in_ok-chan-in-Serve.ensures.core (λ x. reader e a x true)))
    ∙ c.new-outer.ensures.core (with_value (simple_chan e x) (sending_chan e x) (λ x. reader e a x true))
    ∙ sym (serve_built e _ _ _ _ _ c.in-Serve.is)

pub process-returns-in_ok-around-in-If-clause-core : goal.process-returns-in_ok-around-in-If-clause-core
process-returns-in_ok-around-in-If-clause-core t c =
    let e = place c.args.names.now c.args.scope.now in
    let yes = proc_core e (proc_of c.in-If.yes.value) in
    let no = proc_core e (proc_of c.in-If.no.value) in
    c.in_ok-around-in-If.ensures (choice (plain_val c.in_ok-test-in-If.test) yes no)
    (choice_made _ _ _ _ _ _ c.in_ok-rest-in-If.ensures (rw (c.in_ok-test-in-If.ensures.scope, c.deref-in-If-2.ensures) at c.in_ok-yes-in-If.ensures.core) (rw (c.in_ok-yes-in-If.ensures.scope, c.in_ok-test-in-If.ensures.scope, c.deref-in-If-3.ensures) at c.in_ok-no-in-If.ensures.core))
    ∙ sym (rw c.deref-in-If.ensures at (c.in_ok-test-in-If.ensures.core (λ b. choice b yes no)))
    ∙ c.new-outer.ensures.core (with_value (simple e (val_of c.in-If.test.value)) (sending e (val_of c.in-If.test.value)) (λ b. choice b yes no))
    ∙ sym (if_built e _ _ _ _ _ _ c.in-If.is)

pub process-returns-in_ok-around-in-Group-clause-core : goal.process-returns-in_ok-around-in-Group-clause-core
process-returns-in_ok-around-in-Group-clause-core t c =
    let e = place c.args.names.now c.args.scope.now in
    let all : Around → Placed = λ e. side_by_side (procs_core e (procs_on no_procs c.in-Group.parts.items)) in
    c.in_ok-around-in-Group.ensures (all (place c.args.names.now c.decs.new.scope)) (rw c.deref-in-Group-2.ensures.value at c.in_ok-body-in-Group.ensures.core)
    ∙ sym (rw c.deref-in-Group.ensures.value at (c.in_ok-decs-in-Group.ensures.core all))
    ∙ c.new-outer.ensures.core (decs_core e (decs_on no_decs c.in-Group.before.items) all)
    ∙ sym (group_built e _ _ _ _ _ c.in-Group.is)

pub process-returns-in_ok-around-in-Group-clause-scope : goal.process-returns-in_ok-around-in-Group-clause-scope
process-returns-in_ok-around-in-Group-clause-scope t c =
    given_back c.args.scope.now c.decs.new.scope c.group.new.scope c.cut.new.self c.len-around.result c.in_ok-decs-in-Group.ensures.scope c.in_ok-body-in-Group.ensures.scope c.len-around.ensures c.cut.ensures

pub group-returns-in_default-clause-core : goal.group-returns-in_default-clause-core
group-returns-in_default-clause-core t c = group_none _ c.args.trees.now _ (empty _ c.in_default.ensures.cases)

pub group-loop-tree-init : goal.group-loop-tree-init
group-loop-tree-init t c =
    let e = place c.args.names.now c.args.scope.now in
    record {
      built = group_begin e c.args.trees.now c.in-Some.before.now c.in-Some.last.now c.args.depth c.in-Some.ensures.cases.0
          ∙ sym (c.new-outer.ensures.core (side_by_side (map (process_of e) c.in-Some.before.now ++ process_of e c.in-Some.last.now ∷ [])));
      same = refl;
    }

pub group-loop-tree-preserved : goal.group-loop-tree-preserved
group-loop-tree-preserved t c =
    let e = place c.args.names.now c.args.scope.now in
    record {
      built = c.loop-tree.invariant.built
          ∙ group_put e c.loop-tree.outer c.in-Some.before.now c.loop-tree.tree-index c.tree-item.result c.in-Some.last.now (omega arith) c.tree-item.is
          ∙ c.in_ok-beside.ensures.core (process_of e c.tree-item.result) (side_by_side (map (process_of e) (drop (c.loop-tree.tree-index + 1) c.in-Some.before.now) ++ process_of e c.in-Some.last.now ∷ [])) (rw c.loop-tree.invariant.same at c.in_ok-left.ensures.core);
      same = c.in_ok-left.ensures.scope ∙ c.loop-tree.invariant.same;
    }

pub group-returns-clause-core : goal.group-returns-clause-core
group-returns-clause-core t c =
    let e = place c.args.names.now c.args.scope.now in
    c.in_ok-around.ensures (process_of e c.in-Some.last.now) (rw c.loop-tree.invariant.same at c.in_ok-body.ensures.core)
    ∙ sym (c.loop-tree.invariant.built ∙ group_last e c.loop-tree.outer c.in-Some.before.now c.loop-tree.tree-index c.in-Some.last.now (omega arith))

-- ---- declarations that bind

pub dec-returns-in_ok-read-in-Let-clause-core : goal.dec-returns-in_ok-read-in-Let-clause-core
dec-returns-in_ok-read-in-Let-clause-core t c rest =
    let names = c.args.names.now in
    let old = c.args.scope.now in
    let e = place names old in
    let p = pat_of c.in-Let.pattern in
    let sent = sending e (val_of c.in-Let.sent.value) in
    let k = c.in_ok-k-in-Let.k in
    let d = c.new_channel-in-Let.new.self.depth in
    let next : List Val → Placed = λ xs. rest (pat_bound p xs e) in
    let opened = c.in_ok-opened-in-Let.opened in
    let ns = numbers_of opened.names.items in
    let pattern = ap opened_pattern c.in_ok-opened-in-Let.ensures in
    let is = ap opened_names c.in_ok-opened-in-Let.ensures in
    let level = rw c.deref-in-Let-2.ensures.value at c.in_ok-inside-in-Let.ensures.level in
    let bound = rw (c.deref-in-Let-2.ensures.value, c.in_ok-sent-in-Let.ensures.scope) at c.in_ok-inside-in-Let.ensures.scope in
    let size = pattern_size names p d _ ns is level ∙ ap (λ q. d + binds q) (sym pattern) in
    ap (λ p. surround c.args.outer.now p) (let_built e _ _ _ _ rest c.in-Let.is)
    ∙ c.in_ok-k-in-Let.ensures.core (λ k. beside (input k true (pat_core names p) next) (sent k))
    ∙ rw pattern at (c.in_ok-read-in-Let.ensures next (sent (Var k)) (rw c.deref-in-Let.ensures at c.in_ok-sent-in-Let.ensures.core) size)
    ∙ ap (λ e. surround c.read.new.self (rest e)) (sym (ap (place names) bound ∙ pattern_place names p d old ns is))

pub dec-returns-in_ok-read-in-Let-clause-scope : goal.dec-returns-in_ok-read-in-Let-clause-scope
dec-returns-in_ok-read-in-Let-clause-scope t c =
    extends_with (numbers_of c.in_ok-opened-in-Let.opened.names.items) c.new_channel-in-Let.new.self.depth _ _ (rw (c.deref-in-Let-2.ensures.value, c.in_ok-sent-in-Let.ensures.scope) at c.in_ok-inside-in-Let.ensures.scope)

pub dec-returns-in_ok-definitions-in-Def-clause-core : goal.dec-returns-in_ok-definitions-in-Def-clause-core
dec-returns-in_ok-definitions-in-Def-clause-core t c rest =
    ap (λ p. surround c.args.outer.now p) (def_built (place c.args.names.now c.args.scope.now) _ _ _ rest c.in-Def.is)
    ∙ rw c.deref-in-Def.ensures.value at (c.in_ok-definitions-in-Def.ensures.core rest)

pub definitions-returns-clause-core : goal.definitions-returns-clause-core
definitions-returns-clause-core t c rest =
    let names = c.args.names.now in
    let old = c.args.scope.now in
    let e = place names old in
    let ds = definitions_on no_definitions c.args.parts.now in
    let dn = definition_names ds in
    let n = length c.args.parts.now in
    let d = c.args.outer.now.depth in
    let inner = place names c.channels.new.scope in
    let all : List Val → Placed = λ xs. served (servers (bound dn xs e) ds) xs (rest (bound dn xs e)) in
    let count = names_count c.args.parts.now in
    let bound_is = ap (place names) c.in_ok-channels.ensures.scope ∙ place_bound names dn d old ∙ ap (λ m. bound dn (variables d m) e) count in
    ap (λ m. surround c.args.outer.now (new_channels m all)) count
    ∙ c.in_ok-channels.ensures.core all
    ∙ ap (λ x. surround c.channels.new.outer (served (servers x ds) (variables d n) (rest x))) (sym bound_is)
    ∙ c.in_ok-serve.ensures.core (rest inner)
    ∙ ap (λ s. surround c.serve.new.outer (rest (place names s))) (sym c.in_ok-serve.ensures.scope)

pub definitions-returns-clause-scope : goal.definitions-returns-clause-scope
definitions-returns-clause-scope t c =
    extends_with (definition_names (definitions_on no_definitions c.args.parts.now)) c.args.outer.now.depth _ _ (c.in_ok-serve.ensures.scope ∙ c.in_ok-channels.ensures.scope)

pub dec-returns-in_ok-read-in-Await-clause-core : goal.dec-returns-in_ok-read-in-Await-clause-core
dec-returns-in_ok-read-in-Await-clause-core t c rest =
    let names = c.args.names.now in
    let e = place names c.args.scope.now in
    let sent = sending e (val_of c.in-Await.sent.value) in
    let k = c.in_ok-k-in-Await.k in
    let d = c.new_channel-in-Await.new.self.depth in
    let next : List Val → Placed = λ xs. rest e in
    let none : d ≡ d + (0 + 0) = omega arith in
    let size = none ∙ ap (λ q. d + binds q) (sym c.unit_pattern.ensures) in
    ap (λ p. surround c.args.outer.now p) (await_built e _ _ _ rest c.in-Await.is)
    ∙ c.in_ok-k-in-Await.ensures.core (λ k. beside (input k true unit_pat next) (sent k))
    ∙ rw c.unit_pattern.ensures at (c.in_ok-read-in-Await.ensures next (sent (Var k)) (rw c.deref-in-Await.ensures at c.in_ok-sent-in-Await.ensures.core) size)
    ∙ ap (λ s. surround c.read-in-Await.new.self (rest (place names s))) (sym c.in_ok-sent-in-Await.ensures.scope)

pub dec-returns-in_ok-read-in-Await-clause-scope : goal.dec-returns-in_ok-read-in-Await-clause-scope
dec-returns-in_ok-read-in-Await-clause-scope t c = extends_same _ _ c.in_ok-sent-in-Await.ensures.scope

pub serve-loop-part-init : goal.serve-loop-part-init
serve-loop-part-init t c = record {
  built = λ rest. servers_begin (place c.args.names.now c.args.scope.now) c.args.outer.now c.args.parts.now c.args.first rest;
  same = refl;
}

pub serve-loop-part-preserved : goal.serve-loop-part-preserved
serve-loop-part-preserved t c =
    let e = place c.args.names.now c.args.scope.now in
    let i = c.loop-part.part-index in
    let parts = c.args.parts.now in
    let left = drop (i + 1) parts in
    let made = rw (plain_var c.loop-part.level, c.loop-part.invariant.same) at c.in_ok-server.ensures.core in
    record {
      built = λ rest. c.loop-part.invariant.built rest
          ∙ server_put e c.loop-part.outer parts i c.part-item.result c.loop-part.level rest (omega arith) c.part-item.is
          ∙ c.in_ok-beside.ensures.core (server_of e c.part-item.result (Var c.loop-part.level)) (served (map (server_of e) left) (variables (c.loop-part.level + 1) (length left)) rest) made
          ∙ ap (λ n. surround c.beside.new.self (served (map (server_of e) left) (variables n (length left)) rest)) (sym c.in_ok-level.ensures);
      same = c.in_ok-server.ensures.scope ∙ c.loop-part.invariant.same;
    }

pub serve-returns-clause-core : goal.serve-returns-clause-core
serve-returns-clause-core t c rest =
    c.loop-part.invariant.built rest ∙ servers_done (place c.args.names.now c.args.scope.now) c.loop-part.outer c.args.parts.now c.loop-part.part-index c.loop-part.level rest (omega arith)

pub abstraction-returns-in_ok-core_input-in-Function-clause-core : goal.abstraction-returns-in_ok-core_input-in-Function-clause-core
abstraction-returns-in_ok-core_input-in-Function-clause-core t c =
    let names = c.args.names.now in
    let old = c.args.scope.now in
    let d = c.args.depth in
    let f = field_pats_of c.in-Function.parts.value in
    let v = val_of c.in-Function.body.value in
    let opened = rw c.deref-in-Function.ensures at c.in_ok-opened-in-Function.ensures in
    let first = rw c.deref-in-Function-2.ensures.value at c.in_ok-answer-in-Function.ensures in
    let second = rw c.deref-in-Function-3.ensures.value at c.in_ok-inside-in-Function.ensures in
    let answer = c.in_ok-answer-in-Function.answer in
    let at = first.level ∙ ap (λ ns. d + length ns) opened.before in
    let next = c.in_ok-next-in-Function.ensures ∙ ap (λ n. n + 1) at in
    let scope = second.scope ∙ ap (λ s. with_levels (numbers_of c.in_ok-opened-in-Function.opened.after.items) c.in_ok-next-in-Function.next s) first.scope in
    let bound = both_bound names f d old _ _ _ _ opened.before opened.after next scope in
    input_made _ _ _ _ (function_pat names f) _ (λ xs. sending (function_bound f xs (place names old)) v (answer_channel names f xs)) _ d c.in_ok-core_input-in-Function.ensures
    opened.pattern
    (rw c.deref-in-Function-4.ensures at c.in_ok-body-in-Function.ensures.core
    ∙ ap (λ e. sending e v (Var answer) c.in_ok-inside-in-Function.inside) bound
    ∙ ap (λ k. sending (function_bound f (variables d (binds (function_pat names f))) (place names old)) v k c.in_ok-inside-in-Function.inside) (ap Var at ∙ sym (function_answer names f d)))
    (function_size names f d _ _ _ opened.after next second.level)
    ∙ sym (function_read (place names old) _ _ _ _ _ _ _ d c.in-Function.is)

pub abstraction-returns-in_ok-core_input-in-Process-clause-scope : goal.abstraction-returns-in_ok-core_input-in-Process-clause-scope
abstraction-returns-in_ok-core_input-in-Process-clause-scope t c =
    given_back c.args.scope.now c.bind_all.new.scope c.process.new.scope c.cut.new.self c.len-around.result
    (extends_with (numbers_of c.deref.result.now) c.args.depth _ _ c.in_ok-inside-in-Process.ensures.scope) c.in_ok-body-in-Process.ensures.scope c.len-around.ensures c.cut.ensures

pub abstraction-returns-in_ok-core_input-in-Function-clause-scope : goal.abstraction-returns-in_ok-core_input-in-Function-clause-scope
abstraction-returns-in_ok-core_input-in-Function-clause-scope t c =
    given_back c.args.scope.now c.bind_all-in-Function-2.new.scope c.value.new.scope c.cut-in-Function.new.self c.len-around.result
    (extends_then _ _ _ (extends_with (numbers_of c.deref-in-Function-2.result.now) c.args.depth _ _ c.in_ok-answer-in-Function.ensures.scope) (extends_with (numbers_of c.deref-in-Function-3.result.now) c.in_ok-next-in-Function.next _ _ c.in_ok-inside-in-Function.ensures.scope)) c.in_ok-body-in-Function.ensures.scope c.len-around.ensures c.cut-in-Function.ensures

-- ---- nested applications, gone through

pub right-returns-in_default-split_last-clause-core : goal.right-returns-in_default-split_last-clause-core
right-returns-in_default-split_last-clause-core t c =
    c.in_ok-value.ensures.core
    ∙ right_one _ _ _ c.args.trees.now c.in-Some.last.now _ _ (c.in-Some.ensures.cases.0 ∙ ap (λ l. l ++ c.in-Some.last.now ∷ []) (empty _ c.in_default-split_last.ensures.cases))

pub left-returns-in_default-split_first-clause-core : goal.left-returns-in_default-split_first-clause-core
left-returns-in_default-split_first-clause-core t c =
    c.in_ok-value.ensures.core
    ∙ left_one _ _ _ c.args.trees.now c.in-Some.first.now _ _ (c.in-Some.ensures.cases.0 ∙ ap (λ l. c.in-Some.first.now ∷ l) (empty _ c.in_default-split_first.ensures.cases))

pub right-loop-tree-init : goal.right-loop-tree-init
right-loop-tree-init t c =
    let e = place c.args.names.now c.args.scope.now in
    let f = use_of e c.args.head.0 in
    let all = c.in-Some-split_last.first.now in
    record {
      built = right_begin e f c.args.at c.args.trees.now c.in-Some.before.now all c.in-Some-split_last.second.now c.in-Some.last.now (Var c.args.k) c.args.depth c.in-Some.ensures.cases.0 c.in-Some-split_last.ensures.cases.0
          ∙ sym (c.new-outer.ensures.core ((right f c.args.at (map (argument_of e) all ++ argument_of e c.in-Some-split_last.second.now ∷ argument_of e c.in-Some.last.now ∷ [])).sent (Var c.args.k)));
      same = refl;
    }

pub right-loop-tree-preserved : goal.right-loop-tree-preserved
right-loop-tree-preserved t c =
    let e = place c.args.names.now c.args.scope.now in
    let f = use_of e c.args.head.0 in
    let at = c.args.at in
    let all = c.in-Some-split_last.first.now in
    let i = c.loop-tree.tree-index in
    let k = Var c.loop-tree.answer in
    let same = c.loop-tree.invariant.same in
    let r = right f at (map (argument_of e) (drop (i + 1) all) ++ argument_of e c.in-Some-split_last.second.now ∷ argument_of e c.in-Some.last.now ∷ []) in
    let x = plain_val c.in_ok-x.x in
    let head = rw (c.in_ok-x.ensures.scope, same) at c.use_core-f.ensures in
    let made = applied_made _ _ (value.Var c.in_ok-level.level) f x (Var (c.operand.new.outer.depth + 1)) c.loop-tree.answer at c.in_ok-body.ensures head (plain_var c.in_ok-level.level ∙ ap Var c.in_ok-level.ensures) in
    record {
      built = c.loop-tree.invariant.built
          ∙ right_put e c.loop-tree.outer f at all i c.tree-item.result c.in-Some-split_last.second.now c.in-Some.last.now k (omega arith) c.tree-item.is
          ∙ rw same at (c.in_ok-x.ensures.core (λ u. with_value None r.sent (λ y. output f (three u y k) at)))
          ∙ c.in_ok-answer.ensures (λ y. output f (three x y k) at) r.sent made;
      same = c.in_ok-x.ensures.scope ∙ same;
    }

pub right-returns-clause-core : goal.right-returns-clause-core
right-returns-clause-core t c =
    let e = place c.args.names.now c.args.scope.now in
    let f = use_of e c.args.head.0 in
    let at = c.args.at in
    let k = Var c.loop-tree.answer in
    let same = c.loop-tree.invariant.same in
    let v = val_of c.in-Some.last.now in
    let x = plain_val c.in_ok-x-2.x in
    let y = plain_val c.in_ok-y.y in
    let head = rw (c.in_ok-y.ensures.scope, c.in_ok-x-2.ensures.scope, same) at c.use_core-f-2.ensures in
    c.in_ok-around.ensures (output f (three x y k) at) (applied_made _ _ _ f x y c.loop-tree.answer at c.in_ok-rest.ensures head refl)
    ∙ sym (rw (c.in_ok-x-2.ensures.scope, same) at (c.in_ok-y.ensures.core (λ y. output f (three x y k) at)))
    ∙ sym (rw same at (c.in_ok-x-2.ensures.core (λ u. with_value (simple e v) (sending e v) (λ y. output f (three u y k) at))))
    ∙ sym (c.loop-tree.invariant.built ∙ right_last e c.loop-tree.outer f at c.in-Some-split_last.first.now c.loop-tree.tree-index c.in-Some-split_last.second.now c.in-Some.last.now k (omega arith))

pub left-loop-tree-init : goal.left-loop-tree-init
left-loop-tree-init t c =
    let e = place c.args.names.now c.args.scope.now in
    let f = use_of e c.args.head.0 in
    let rest = ap (λ r. r.iter.rest.now) c.into_iter-tree-iterator.ensures.into_iter_gives ∙ ap (λ i. i.rest.now) c.rev-tree-items.ensures.source ∙ c.iter.ensures.rest in
    record {
      built = left_begin e f c.args.at c.args.trees.now c.in-Some.after.now c.in-Some-split_first.others.now _ c.in-Some.first.now c.in-Some-split_first.second.now (Var c.args.k) c.args.depth c.in-Some.ensures.cases.0 c.in-Some-split_first.ensures.cases.0 rest
          ∙ sym (c.new-outer.ensures.core ((left f c.args.at (argument_of e c.in-Some.first.now ∷ argument_of e c.in-Some-split_first.second.now ∷ map (argument_of e) c.into_iter-tree-iterator.result.iter.rest.now)).sent (Var c.args.k)));
      same = refl;
    }

pub left-loop-tree-preserved : goal.left-loop-tree-preserved
left-loop-tree-preserved t c =
    let e = place c.args.names.now c.args.scope.now in
    let f = use_of e c.args.head.0 in
    let at = c.args.at in
    let k = Var c.loop-tree.answer in
    let same = c.loop-tree.invariant.same in
    let d = c.loop-tree.outer.depth in
    let v = val_of c.in-Some-tree.tree.now in
    let y = plain_val c.in_ok-y.y in
    let x = Var (d + 1) in
    let head = rw (c.in_ok-y.ensures.scope, same) at c.use_core-f.ensures in
    let made = c.in_ok-rest.ensures
    ∙ ap (λ u. Out (plain_val c.use_core-f.result) (three u y k) at) (plain_var c.in_ok-level.level ∙ ap Var c.in_ok-level.ensures)
    ∙ ap (λ h. Out h (three x y k) at) head in
    let inside : c.in_ok-inside.inside ≡ d + 2 = (let a = c.in_ok-inside.ensures in let b = c.in_ok-level.ensures in omega (arith, a, b)) in
    let body = c.in_ok-body.ensures (output f (three x y k) at) made
    ∙ sym (rw same at (c.in_ok-y.ensures.core (λ y. output f (three x y k) at)))
    ∙ c.new-inner.ensures.core (with_value (simple e v) (sending e v) (λ y. output f (three x y k) at))
    ∙ ap (with_value (simple e v) (sending e v) (λ y. output f (three x y k) at)) inside in
    record {
      built = c.loop-tree.invariant.built
          ∙ left_put e c.loop-tree.outer f at _ _ c.in-Some-tree.tree.now c.in-Some.first.now c.in-Some-split_first.second.now k c.in-Some-tree.ensures.steps
          ∙ c.in_ok-answer.ensures (λ u. with_value (simple e v) (sending e v) (λ y. output f (three u y k) at)) (left f at (argument_of e c.in-Some.first.now ∷ argument_of e c.in-Some-split_first.second.now ∷ map (argument_of e) c.next.new.self.iter.rest.now)).sent body;
      same = c.in_ok-y.ensures.scope ∙ same;
    }

pub left-returns-clause-core : goal.left-returns-clause-core
left-returns-clause-core t c =
    let e = place c.args.names.now c.args.scope.now in
    let f = use_of e c.args.head.0 in
    let at = c.args.at in
    let k = Var c.loop-tree.answer in
    let same = c.loop-tree.invariant.same in
    let v = val_of c.in-Some-split_first.second.now in
    let x = plain_val c.in_ok-x.x in
    let y = plain_val c.in_ok-y-2.y in
    let head = rw (c.in_ok-y-2.ensures.scope, c.in_ok-x.ensures.scope, same) at c.use_core-f-2.ensures in
    c.in_ok-around.ensures (output f (three x y k) at) (applied_made _ _ _ f x y c.loop-tree.answer at c.in_ok-rest-2.ensures head refl)
    ∙ sym (rw (c.in_ok-x.ensures.scope, same) at (c.in_ok-y-2.ensures.core (λ y. output f (three x y k) at)))
    ∙ sym (rw same at (c.in_ok-x.ensures.core (λ u. with_value (simple e v) (sending e v) (λ y. output f (three u y k) at))))
    ∙ sym (c.loop-tree.invariant.built ∙ left_first e c.loop-tree.outer f at _ c.in-Some.first.now c.in-Some-split_first.second.now k (empty _ c.in-None.ensures.steps.0))
