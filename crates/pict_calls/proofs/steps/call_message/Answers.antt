use Rattle.std.proofs.Common.{Option, ap, sym, ◌∙◌, subst}
use Rattle.pict_core.specs.Plain.{plain_val}
use Rattle.pict_core.specs.Primitives.{effect_of}
use Rattle.pict_heap.specs.declared.word.Word.{Word}
use Rattle.pict_prim.specs.Acts.{answer_need}
use Rattle.pict_prim.specs.declared.act.Need.{Need}
use Rattle.pict_desk.specs.Constants.{IsConstant}
use Rattle.pict_desk.specs.Known.{known}
use Rattle.pict_desk.specs.Needs.{both_needs}
use Rattle.pict_turns.specs.Growing.{AddsAtMost}
use Rattle.pict_turns.proofs.Adding.{used_beside}
use Rattle.pict_turns.proofs.Growing.{given_is}
use Rattle.pict_calls.proofs.steps.call_message.Goals as goal
use Rattle.pict_calls.proofs.Whole.{node_steps}
use Rattle.pict_calls.specs.Calling.{CallsOn}
use Rattle.pict_core.specs.Term.{Val}

pub returns-in-Some : goal.returns-in-Some
returns-in-Some c = record {
  steps = λ code chan may acts to.
      let s = c.args.store.now in
      let message = plain_val c.args.message.now in
      let constant = subst (λ (o : Option Word). IsConstant s.desk.heap message o) c.in-Some.is c.requires.constant in
      let same = constant.value (known s.desk.heap s.desk.values.items) in
      node_steps code s c.call.new.store c.call.result may c.args.p c.args.at chan message acts to
      (record {
        done = λ core on. c.call.ensures.done core (subst (λ (v : Val). CallsOn core s c.args.p v c.args.at) (sym same) on);
        refused = c.call.ensures.refused;
        blocks = λ e is. c.call.ensures.blocks e (ap (effect_of c.args.p) same ∙ is);
        adds = λ e is. used_beside s.desk.heap.room c.call.new.store.desk.heap.room _ _ (c.call.ensures.adds e (ap (effect_of c.args.p) same ∙ is));
        work = c.call.ensures.work;
        turn = c.call.ensures.turn;
      });
}

pub returns-in-None : goal.returns-in-None
returns-in-None c = record {
  steps = λ code chan may acts to.
      let s = c.args.store.now in
      let message = plain_val c.args.message.now in
      let some = subst (λ (o : Option Word). IsConstant s.desk.heap message o) c.in-None.is c.requires.constant in
      node_steps code s c.call_operand.new.store c.call_operand.result may c.args.p c.args.at chan message acts to
      (record {
        done = c.call_operand.ensures.done;
        refused = c.call_operand.ensures.refused;
        blocks = c.call_operand.ensures.blocks;
        adds = λ e is. subst (λ (n : Need). AddsAtMost s c.call_operand.new.store (both_needs n (answer_need e))) (sym (given_is message some)) (c.call_operand.ensures.adds e is);
        work = c.call_operand.ensures.work;
        turn = c.call_operand.ensures.turn;
      });
}
