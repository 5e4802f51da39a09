-- Which forms are simple, one answer a form.
use Rattle.std.proofs.Common.{◌∙◌, ◌∷◌, [], ap, sym, arith, Some, map, option_map, rules}
use Rattle.std.proofs.lemmas.List.{map-append}
use Rattle.pict_core.specs.Plain.{plain_val}
use Rattle.pict_core.specs.declared.value.CoreVal.TheVariants as value
use Rattle.pict_translation.specs.Simple.{one_more}
use Rattle.pict_derive.specs.Built.{field_of, place}
use Rattle.pict_derive.proofs.SimpleForms.{chan_simple, number_simple, character_simple, string_simple, true_simple, false_simple, fields_simple, if_simple, lambda_simple, use_simple, fold_simple, block_simple, apply_simple, right_simple, left_simple, no_positional, no_labelled, all_simple, one_simple, one_labelled, vals_fail, labelled_fail, vals_begin, labelled_begin}
use Rattle.pict_derive.proofs.simple.+simple.Goals as goal

pub simple-returns-in_ok-simple_channel-in-OfChan : goal.simple-returns-in_ok-simple_channel-in-OfChan
simple-returns-in_ok-simple_channel-in-OfChan t c = c.in_ok-simple_channel-in-OfChan.ensures ∙ sym (chan_simple _ _ _ c.in-OfChan.is)

pub simple-returns-in-Number : goal.simple-returns-in-Number
simple-returns-in-Number t c = ap (λ n. Some (plain_val (value.Int n))) (search rules) ∙ number_simple _ _ _ c.in-Number.number c.in-Number.is

pub simple-returns-in-Character : goal.simple-returns-in-Character
simple-returns-in-Character t c = character_simple _ _ _ _ c.in-Character.is

pub simple-returns-in_ok-copy-in-String : goal.simple-returns-in_ok-copy-in-String
simple-returns-in_ok-copy-in-String t c = string_simple _ _ _ _ _ c.in-String.is c.in_ok-copy-in-String.ensures

pub simple-returns-in-True : goal.simple-returns-in-True
simple-returns-in-True t c = true_simple _ _ _ c.in-True.is

pub simple-returns-in-False : goal.simple-returns-in-False
simple-returns-in-False t c = false_simple _ _ _ c.in-False.is

pub simple-returns-in_ok-simple_fields-in-Fields : goal.simple-returns-in_ok-simple_fields-in-Fields
simple-returns-in_ok-simple_fields-in-Fields t c = rw c.deref.ensures at c.in_ok-simple_fields-in-Fields.ensures ∙ sym (fields_simple _ _ _ _ c.in-Fields.is)

pub simple-returns-in-If : goal.simple-returns-in-If
simple-returns-in-If t c = sym (if_simple _ _ _ _ _ _ c.in-If.is)

pub simple-returns-in-Lambda : goal.simple-returns-in-Lambda
simple-returns-in-Lambda t c = sym (lambda_simple _ _ _ _ c.in-Lambda.is)

pub simple_channel-returns-in-Use : goal.simple_channel-returns-in-Use
simple_channel-returns-in-Use t c = ap Some c.use_core.ensures ∙ sym (use_simple _ _ _ _ c.in-Use.is)

pub simple_channel-returns-in_ok-simple-in-Fold : goal.simple_channel-returns-in_ok-simple-in-Fold
simple_channel-returns-in_ok-simple-in-Fold t c = rw c.deref.ensures at c.in_ok-simple-in-Fold.ensures ∙ sym (fold_simple _ _ _ _ _ c.in-Fold.is)

pub simple_channel-returns-in-Block : goal.simple_channel-returns-in-Block
simple_channel-returns-in-Block t c = sym (block_simple _ _ _ _ _ c.in-Block.is)

pub simple_channel-returns-in-Apply : goal.simple_channel-returns-in-Apply
simple_channel-returns-in-Apply t c = sym (apply_simple _ _ _ _ _ c.in-Apply.is)

pub simple_channel-returns-in-Right : goal.simple_channel-returns-in-Right
simple_channel-returns-in-Right t c = sym (right_simple _ _ _ _ _ c.in-Right.is)

pub simple_channel-returns-in-Left : goal.simple_channel-returns-in-Left
simple_channel-returns-in-Left t c = sym (left_simple _ _ _ _ _ c.in-Left.is)

pub simple_values-loop-tree-init : goal.simple_values-loop-tree-init
simple_values-loop-tree-init t c = vals_begin _ _ c.new-values.ensures.items

pub simple_values-returns-in-None : goal.simple_values-returns-in-None
simple_values-returns-in-None t c =
    let us = map plain_val c.loop-tree.values.items in
    sym (vals_fail (place c.args.names.now c.args.scope.now) c.args.trees.now _ (one_simple _ c.args.trees.now c.loop-tree.tree-index c.tree-item.result us _ (omega arith) c.tree-item.is c.loop-tree.invariant c.in_ok-simple.ensures ∙ ap (λ f. one_more (Some us) (option_map plain_val f)) c.in-None.is))

pub simple_values-loop-tree-preserved : goal.simple_values-loop-tree-preserved
simple_values-loop-tree-preserved t c =
    let us = map plain_val c.loop-tree.values.items in
    one_simple _ c.args.trees.now c.loop-tree.tree-index c.tree-item.result us _ (omega arith) c.tree-item.is c.loop-tree.invariant c.in_ok-simple.ensures
    ∙ ap (λ f. one_more (Some us) (option_map plain_val f)) c.in-Some.is
    ∙ ap Some (sym (ap (map plain_val) c.in_ok-push-in-Some.ensures.items ∙ map-append plain_val c.loop-tree.values.items (c.in-Some.value ∷ [])))

pub simple_labelled-loop-tree-init : goal.simple_labelled-loop-tree-init
simple_labelled-loop-tree-init t c = labelled_begin _ _ c.new-fields.ensures.items

pub simple_labelled-returns-in-None : goal.simple_labelled-returns-in-None
simple_labelled-returns-in-None t c =
    let us = map field_of c.loop-tree.fields.items in
    sym (labelled_fail (place c.args.names.now c.args.scope.now) c.args.trees.now _ (one_labelled _ c.args.trees.now c.loop-tree.tree-index c.tree-item.result us _ (omega arith) c.tree-item.is c.loop-tree.invariant c.in_ok-simple.ensures ∙ ap (λ f. one_more (Some us) (option_map (λ u. (c.tree-item.result.label.name.0, u)) (option_map plain_val f))) c.in-None.is))

pub simple_labelled-loop-tree-preserved : goal.simple_labelled-loop-tree-preserved
simple_labelled-loop-tree-preserved t c =
    let us = map field_of c.loop-tree.fields.items in
    one_labelled _ c.args.trees.now c.loop-tree.tree-index c.tree-item.result us _ (omega arith) c.tree-item.is c.loop-tree.invariant c.in_ok-simple.ensures
    ∙ ap (λ f. one_more (Some us) (option_map (λ u. (c.tree-item.result.label.name.0, u)) (option_map plain_val f))) c.in-Some.is
    ∙ ap Some (sym (ap (map field_of) c.in_ok-push-in-Some.ensures.items ∙ map-append field_of c.loop-tree.fields.items ((c.tree-item.result.label.name, c.in-Some.value) ∷ [])))

pub simple_fields-returns-in_default : goal.simple_fields-returns-in_default
simple_fields-returns-in_default t c = no_positional _ c.args.parts.now _ (rw c.deref.ensures.value at c.in_ok-positional.ensures) c.in_default.is

pub simple_fields-returns-in_default-2 : goal.simple_fields-returns-in_default-2
simple_fields-returns-in_default-2 t c = no_labelled _ c.args.parts.now _ _ _ (rw c.deref.ensures.value at c.in_ok-positional.ensures) c.in-Some.is (rw c.deref-2.ensures.value at c.in_ok-labelled.ensures) c.in_default-2.is

pub simple_fields-returns : goal.simple_fields-returns
simple_fields-returns t c =
    all_simple (place c.args.names.now c.args.scope.now) c.args.parts.now _ _ _ _ _ (rw c.deref.ensures.value at c.in_ok-positional.ensures) c.in-Some.is (rw c.deref-2.ensures.value at c.in_ok-labelled.ensures) c.in-Some-2.is c.in_ok-record.ensures
