-- The depths of the forms, one answer a form.
use Rattle.std.proofs.Common.{◌∙◌, ap, sym, refl, arith, Some}
use Rattle.pict_derive.specs.Held.{held, held_option}
use Rattle.pict_derive.proofs.HeldDepths.{one_more_held, max_held, read_held, one_held, some_held, put_held, larger, lambda_held, decs_held}
use Rattle.pict_derive.proofs.DepthForms.{chan_is, number_is, character_is, string_is, true_is, false_is, fields_is, if_is, lambda_is, use_is, fold_is, block_depth, apply_is, right_depth_is, left_depth_is, fields_held, process_is, function_is, new_is, run_is, let_is, def_depth, alias_is, operator_is, await_is, send_is, receive_is, serve_is, if_proc_is, inert_is, group_depth}
use Rattle.pict_derive.proofs.LevelLemmas.{empty}
use Rattle.pict_derive.proofs.DepthSteps.{values_step, values_end, labelled_step, labelled_end, decs_step, decs_end, right_begin, right_step, right_end, left_begin, left_step, left_end, none_right, none_left, none_beside, side_begin, side_step, side_end, served_step, served_end}
use Rattle.pict_derive.proofs.depths.+depths.Goals as goal

pub abstraction-returns-in-Process : goal.abstraction-returns-in-Process
abstraction-returns-in-Process t c = one_more_held _ _ _ c.saturating_add.ensures (rw c.deref.ensures at c.process.ensures) ∙ sym (ap held (process_is _ _ _ _ c.in-Process.is))

pub abstraction-returns-in-Function : goal.abstraction-returns-in-Function
abstraction-returns-in-Function t c =
    one_more_held _ _ _ c.saturating_add-in-Function.ensures (ap held c.or_one.ensures ∙ one_held _ _ (rw c.deref-in-Function.ensures at c.value.ensures))
    ∙ sym (ap held (function_is _ _ _ _ _ c.in-Function.is))

pub channel-returns-in-Use : goal.channel-returns-in-Use
channel-returns-in-Use t c = sym (ap held_option (use_is _ _ _ c.in-Use.is))

pub channel-returns-in-Fold : goal.channel-returns-in-Fold
channel-returns-in-Fold t c = rw c.deref.ensures at c.value.ensures ∙ sym (ap held_option (fold_is _ _ _ _ c.in-Fold.is))

pub channel-returns-in-Block : goal.channel-returns-in-Block
channel-returns-in-Block t c =
    ap Some (rw c.deref-in-Block.ensures.value at c.decs.ensures ∙ decs_held _ _ _ (ap held c.or_one.ensures ∙ one_held _ _ (rw c.deref-in-Block-2.ensures at c.value-in-Block.ensures)))
    ∙ sym (ap held_option (block_depth _ _ _ _ c.in-Block.is))

pub channel-returns-in-Apply : goal.channel-returns-in-Apply
channel-returns-in-Apply t c =
    ap Some (ap held c.or_one-in-Apply.ensures ∙ one_held _ _ (c.put_with.ensures ∙ put_held _ _ _ _ (rw c.deref-in-Apply.ensures at c.value-in-Apply.ensures) (rw c.deref-in-Apply-2.ensures at c.fields.ensures)))
    ∙ sym (ap held_option (apply_is _ _ _ _ c.in-Apply.is))

pub channel-returns-in-Right : goal.channel-returns-in-Right
channel-returns-in-Right t c =
    ap Some (ap held c.or_one-in-Right.ensures ∙ one_held _ _ (rw c.deref-in-Right.ensures.value at c.right.ensures))
    ∙ sym (ap held_option (right_depth_is _ _ _ _ c.in-Right.is))

pub channel-returns-in-Left : goal.channel-returns-in-Left
channel-returns-in-Left t c =
    ap Some (ap held c.or_one-in-Left.ensures ∙ one_held _ _ (rw c.deref-in-Left.ensures.value at c.left.ensures))
    ∙ sym (ap held_option (left_depth_is _ _ _ _ c.in-Left.is))

pub dec-returns-in-New : goal.dec-returns-in-New
dec-returns-in-New t c = one_more_held _ _ _ c.saturating_add.ensures refl ∙ sym (ap held (new_is _ _ _ _ _ c.in-New.is))

pub dec-returns-in-Run : goal.dec-returns-in-Run
dec-returns-in-Run t c =
    one_more_held _ _ _ c.saturating_add-in-Run.ensures (let p = rw c.deref.ensures at c.process.ensures in let m = c.max.ensures in larger _ _ _ _ m p)
    ∙ sym (ap held (run_is _ _ _ _ c.in-Run.is))

pub dec-returns-in-Let : goal.dec-returns-in-Let
dec-returns-in-Let t c =
    c.read.ensures ∙ read_held _ _ _ _ refl (one_held _ _ (rw c.deref-in-Let.ensures at c.value.ensures)) ∙ sym (ap held (let_is _ _ _ _ _ c.in-Let.is))

pub dec-returns-in-Def : goal.dec-returns-in-Def
dec-returns-in-Def t c = rw c.deref-in-Def.ensures.value at c.definitions.ensures ∙ sym (ap held (def_depth _ _ _ _ c.in-Def.is))

pub dec-returns-in-Alias : goal.dec-returns-in-Alias
dec-returns-in-Alias t c = sym (ap held (alias_is _ _ _ _ _ c.in-Alias.is))

pub dec-returns-in-Operator : goal.dec-returns-in-Operator
dec-returns-in-Operator t c = sym (ap held (operator_is _ _ _ _ _ _ c.in-Operator.is))

pub dec-returns-in-Await : goal.dec-returns-in-Await
dec-returns-in-Await t c =
    c.read-in-Await.ensures ∙ read_held _ _ _ _ refl (one_held _ _ (rw c.deref-in-Await.ensures at c.value-in-Await.ensures)) ∙ sym (ap held (await_is _ _ _ _ c.in-Await.is))

pub decs-loop-tree-preserved : goal.decs-loop-tree-preserved
decs-loop-tree-preserved t c = decs_step c.args.trees.now _ _ _ c.args.inner _ _ c.loop-tree.invariant c.in-Some.ensures.steps c.dec-inner.ensures

pub decs-returns : goal.decs-returns
decs-returns t c = decs_end c.args.trees.now _ c.args.inner _ c.loop-tree.invariant c.in-None.ensures.steps.0

pub definitions-loop-part-preserved : goal.definitions-loop-part-preserved
definitions-loop-part-preserved t c = served_step _ _ _ _ _ _ _ c.loop-part.invariant c.in-Some.ensures.steps c.abstraction.ensures c.beside-inner.ensures

pub definitions-returns : goal.definitions-returns
definitions-returns t c = served_end c.args.parts.now _ c.args.rest _ _ c.loop-part.invariant c.in-None.ensures.steps.0 c.saturating_add.ensures

pub fields-returns : goal.fields-returns
fields-returns t c = fields_held c.args.parts.now c.args.inner c.labelled.result c.values.result (rw c.deref-2.ensures.value at c.labelled.ensures) (rw c.deref.ensures.value at c.values.ensures)

pub labelled-loop-tree-preserved : goal.labelled-loop-tree-preserved
labelled-loop-tree-preserved t c = labelled_step c.args.trees.now _ _ _ c.args.inner _ _ _ c.loop-tree.invariant c.in-Some.ensures.steps c.value.ensures c.put_with-inner.ensures

pub labelled-returns : goal.labelled-returns
labelled-returns t c = labelled_end c.args.trees.now _ c.args.inner _ c.loop-tree.invariant c.in-None.ensures.steps.0

pub process-returns-in-Send : goal.process-returns-in-Send
process-returns-in-Send t c =
    ap held c.or_one.ensures
    ∙ one_held _ _ (c.put_with-in-Send.ensures ∙ put_held _ _ _ _ (rw c.deref.ensures at c.channel.ensures) (c.put_with.ensures ∙ put_held _ _ _ _ (rw c.deref-in-Send.ensures at c.value.ensures) refl))
    ∙ sym (ap held (send_is _ _ _ _ c.in-Send.is))

pub process-returns-in-Receive : goal.process-returns-in-Receive
process-returns-in-Receive t c =
    ap held c.or_one-in-Receive.ensures
    ∙ one_held _ _ (c.put_with-in-Receive.ensures ∙ put_held _ _ _ _ (rw c.deref-in-Receive.ensures at c.channel-in-Receive.ensures) (some_held _ _ (rw c.deref-in-Receive-2.ensures at c.abstraction.ensures)))
    ∙ sym (ap held (receive_is _ _ _ _ c.in-Receive.is))

pub process-returns-in-Serve : goal.process-returns-in-Serve
process-returns-in-Serve t c =
    ap held c.or_one-in-Serve.ensures
    ∙ one_held _ _ (c.put_with-in-Serve.ensures ∙ put_held _ _ _ _ (rw c.deref-in-Serve.ensures at c.channel-in-Serve.ensures) (some_held _ _ (rw c.deref-in-Serve-2.ensures at c.abstraction-in-Serve.ensures)))
    ∙ sym (ap held (serve_is _ _ _ _ c.in-Serve.is))

pub process-returns-in-If : goal.process-returns-in-If
process-returns-in-If t c =
    ap held c.or_one-in-If.ensures
    ∙ one_held _ _ (c.put_with-in-If.ensures ∙ put_held _ _ _ _ (rw c.deref-in-If.ensures at c.value-in-If.ensures) (some_held _ _ (c.beside.ensures ∙ max_held _ _ _ _ (rw c.deref-in-If-2.ensures at c.process.ensures) (rw c.deref-in-If-3.ensures at c.process-in-If.ensures))))
    ∙ sym (ap held (if_proc_is _ _ _ _ _ c.in-If.is))

pub process-returns-in-Inert : goal.process-returns-in-Inert
process-returns-in-Inert t c = sym (ap held (inert_is _ _ c.in-Inert.is))

pub process-returns-in-Group : goal.process-returns-in-Group
process-returns-in-Group t c =
    rw c.deref-in-Group.ensures.value at c.decs.ensures ∙ decs_held _ _ _ (rw c.deref-in-Group-2.ensures.value at c.side_by_side.ensures) ∙ sym (ap held (group_depth _ _ _ _ c.in-Group.is))

pub value-returns-in-OfChan : goal.value-returns-in-OfChan
value-returns-in-OfChan t c = rw (chan_is _ _ c.in-OfChan.is) c.channel.ensures

pub value-returns-in-Number : goal.value-returns-in-Number
value-returns-in-Number t c = sym (ap held_option (number_is _ _ _ c.in-Number.is))

pub value-returns-in-Character : goal.value-returns-in-Character
value-returns-in-Character t c = sym (ap held_option (character_is _ _ _ c.in-Character.is))

pub value-returns-in-String : goal.value-returns-in-String
value-returns-in-String t c = sym (ap held_option (string_is _ _ _ c.in-String.is))

pub value-returns-in-True : goal.value-returns-in-True
value-returns-in-True t c = sym (ap held_option (true_is _ _ c.in-True.is))

pub value-returns-in-False : goal.value-returns-in-False
value-returns-in-False t c = sym (ap held_option (false_is _ _ c.in-False.is))

pub value-returns-in-Fields : goal.value-returns-in-Fields
value-returns-in-Fields t c = rw c.deref.ensures at c.fields.ensures ∙ sym (ap held_option (fields_is _ _ _ c.in-Fields.is))

pub value-returns-in-If : goal.value-returns-in-If
value-returns-in-If t c =
    c.branches.ensures
    ∙ put_held _ _ _ _ (rw c.deref-in-If.ensures at c.value.ensures) (some_held _ _ (max_held _ _ _ _ (one_held _ _ (rw c.deref-in-If-2.ensures at c.value-in-If.ensures)) (one_held _ _ (rw c.deref-in-If-3.ensures at c.value-in-If-2.ensures))))
    ∙ sym (ap held_option (if_is _ _ _ _ _ c.in-If.is))

pub value-returns-in-Lambda : goal.value-returns-in-Lambda
value-returns-in-Lambda t c =
    ap Some (let a = rw c.deref-in-Lambda.ensures at c.abstraction.ensures in lambda_held _ _ _ _ c.max.ensures c.saturating_add.ensures a)
    ∙ sym (ap held_option (lambda_is _ _ _ c.in-Lambda.is))

pub values-loop-tree-preserved : goal.values-loop-tree-preserved
values-loop-tree-preserved t c = values_step c.args.trees.now _ _ _ c.args.inner _ _ _ c.loop-tree.invariant c.in-Some.ensures.steps c.value.ensures c.put_with-inner.ensures

pub values-returns : goal.values-returns
values-returns t c = values_end c.args.trees.now _ c.args.inner _ c.loop-tree.invariant c.in-None.ensures.steps.0

pub right-returns-in_default : goal.right-returns-in_default
right-returns-in_default t c = none_right _ (empty _ c.in_default.ensures.cases)

pub right-loop-tree-init : goal.right-loop-tree-init
right-loop-tree-init t c =
    right_begin c.args.trees.now c.in-Some.before.now _ c.in-Some.last.now _ c.in-Some.ensures.cases.0
    (ap (λ r. r.iter.rest.now) c.into_iter-tree-iterator.ensures.into_iter_gives ∙ ap (λ i. i.rest.now) c.rev-tree-items.ensures.source ∙ c.iter.ensures.rest) c.value-inner.ensures

pub right-loop-tree-preserved : goal.right-loop-tree-preserved
right-loop-tree-preserved t c = right_step _ _ _ _ _ _ _ c.loop-tree.invariant c.in-Some-tree.ensures.steps c.value.ensures c.application-inner.ensures

pub right-returns : goal.right-returns
right-returns t c = right_end _ _ _ c.loop-tree.invariant c.in-None.ensures.steps.0

pub left-returns-in_default : goal.left-returns-in_default
left-returns-in_default t c = none_left _ (empty _ c.in_default.ensures.cases)

pub left-loop-tree-init : goal.left-loop-tree-init
left-loop-tree-init t c = left_begin _ _ _ _ c.in-Some.ensures.cases.0 c.value-head.ensures

pub left-loop-tree-preserved : goal.left-loop-tree-preserved
left-loop-tree-preserved t c = left_step c.args.trees.now c.in-Some.rest.now c.in-Some.first.now c.tree-item.result _ c.loop-tree.tree-index _ _ _ c.in-Some.ensures.cases.0 (omega arith) c.tree-item.is c.loop-tree.invariant c.value.ensures c.application-head.ensures

pub left-returns : goal.left-returns
left-returns t c = left_end c.args.trees.now c.loop-tree.tree-index _ (let l = c.in-Some.ensures.cases.1 in omega arith) c.loop-tree.invariant

pub side_by_side-returns-in_default : goal.side_by_side-returns-in_default
side_by_side-returns-in_default t c = none_beside _ (empty _ c.in_default.ensures.cases)

pub side_by_side-loop-tree-init : goal.side_by_side-loop-tree-init
side_by_side-loop-tree-init t c =
    side_begin c.args.trees.now c.in-Some.before.now _ c.in-Some.last.now _ c.in-Some.ensures.cases.0
    (ap (λ r. r.iter.rest.now) c.into_iter-tree-iterator.ensures.into_iter_gives ∙ ap (λ i. i.rest.now) c.rev-tree-items.ensures.source ∙ c.iter.ensures.rest) c.process-inner.ensures

pub side_by_side-loop-tree-preserved : goal.side_by_side-loop-tree-preserved
side_by_side-loop-tree-preserved t c = side_step _ _ _ _ _ _ _ c.loop-tree.invariant c.in-Some-tree.ensures.steps c.process.ensures c.beside-inner.ensures

pub side_by_side-returns : goal.side_by_side-returns
side_by_side-returns t c = side_end _ _ _ c.loop-tree.invariant c.in-None.ensures.steps.0
