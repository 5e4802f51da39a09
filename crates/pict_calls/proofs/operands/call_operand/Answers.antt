use Rattle.std.proofs.Common.{◌≡◌, ◌∙◌, ℕ, List, length, IsSome, Some, sym, ap, refl, subst}
use Rattle.pict_core.specs.Primitives.{effect_of}
use Rattle.pict_core.specs.Term.{Val}
use Rattle.pict_calls.specs.Calling.{CallsOn}
use Rattle.pict_turns.specs.Growing.{argument_need, AddsAtMost}
use Rattle.pict_core.specs.Plain.{plain_val}
use Rattle.pict_prim.specs.Acts.{answer_need}
use Rattle.pict_prim.specs.declared.act.Need.{Need}
use Rattle.pict_desk.specs.Needs.{both_needs, text_need}
use Rattle.pict_desk.proofs.Reckoning.{labels_of, made_argument}
use Rattle.pict_desk.proofs.Recording.{record_val, plain_text}
use Rattle.pict_turns.proofs.Adding.{used_beside, used_with}
use Rattle.pict_calls.proofs.operands.call_operand.Goals as goal

pub call_fields-requires-clause-takes : goal.call_fields-requires-clause-takes
call_fields-requires-clause-takes c =
    let s = c.args.store.now in
    let is = made_argument s.desk.heap s.desk.values.items c.args.message.now c.in-Fields.positional c.in-Fields.labelled c.deref.result.now c.in-Fields.is c.deref.ensures.value in
    (labels_of s.desk.heap s.desk.values.items c.in-Fields.labelled.items, subst (λ v. IsSome (effect_of c.args.p v)) is c.requires.takes)

pub returns-in-Fields-clause-done : goal.returns-in-Fields-clause-done
returns-in-Fields-clause-done c core on =
    let s = c.args.store.now in
    let is = made_argument s.desk.heap s.desk.values.items c.args.message.now c.in-Fields.positional c.in-Fields.labelled c.deref.result.now c.in-Fields.is c.deref.ensures.value in
    c.call_fields.ensures.done core (labels_of s.desk.heap s.desk.values.items c.in-Fields.labelled.items) (subst (λ (v : Val). CallsOn core s c.args.p v c.args.at) is on)

pub returns-in-Fields-clause-blocks : goal.returns-in-Fields-clause-blocks
returns-in-Fields-clause-blocks c e effect =
    let s = c.args.store.now in
    let is = made_argument s.desk.heap s.desk.values.items c.args.message.now c.in-Fields.positional c.in-Fields.labelled c.deref.result.now c.in-Fields.is c.deref.ensures.value in
    c.call_fields.ensures.blocks (labels_of s.desk.heap s.desk.values.items c.in-Fields.labelled.items) e (subst (λ (v : Val). effect_of c.args.p v ≡ Some e) is effect)

pub returns-in-Fields-clause-adds : goal.returns-in-Fields-clause-adds
returns-in-Fields-clause-adds c e effect =
    let s = c.args.store.now in
    let is = made_argument s.desk.heap s.desk.values.items c.args.message.now c.in-Fields.positional c.in-Fields.labelled c.deref.result.now c.in-Fields.is c.deref.ensures.value in
    let form = record_val c.args.message.now c.in-Fields.positional c.in-Fields.labelled c.deref.result.now c.in-Fields.labelled.items c.in-Fields.is c.deref.ensures.value refl in
    subst (λ (n : Need). AddsAtMost s c.call_fields.new.store (both_needs n (answer_need e))) (sym (ap argument_need form))
    (c.call_fields.ensures.adds (labels_of s.desk.heap s.desk.values.items c.in-Fields.labelled.items) e (subst (λ (v : Val). effect_of c.args.p v ≡ Some e) is effect))

pub returns-in-Text-clause-adds : goal.returns-in-Text-clause-adds
returns-in-Text-clause-adds c e effect =
    let s = c.args.store.now in
    let form = ap plain_val c.in-Text.is ∙ plain_text c.in-Text.bytes in
    let need = ap argument_need form ∙ ap (λ (bytes : List ℕ). text_need (length bytes)) (sym c.slice.ensures) in
    subst (λ (n : Need). AddsAtMost s c.print_text.new.store (both_needs n (answer_need e))) (sym need)
    (used_with s.desk.heap.room c.print_text.new.store.desk.heap.room _ _ c.print_text.ensures.adds)

pub returns-then-is_small-clause-adds : goal.returns-then-is_small-clause-adds
returns-then-is_small-clause-adds c e effect =
    used_beside c.args.store.now.desk.heap.room c.call_simple.new.store.desk.heap.room _ _ (c.call_simple.ensures.adds e effect)

pub returns-in_default-clause-adds : goal.returns-in_default-clause-adds
returns-in_default-clause-adds c e effect =
    used_beside c.args.store.now.desk.heap.room c.call_simple-in_default.new.store.desk.heap.room _ _ (c.call_simple-in_default.ensures.adds e effect)
