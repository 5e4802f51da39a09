use Rattle.std.proofs.Common.{◌≡◌, ◌+◌, List, Err, length, map, sym, ap, ◌∙◌, subst}
use Rattle.std.specs.Prelude.{IsTrue, ◌↔◌, alloc_error}
use Rattle.pict_code.specs.Plain.{plain_node}
use Rattle.pict_code.specs.declared.instruction.Node.{Node}
use Rattle.pict_core.specs.Step.{Wrong, next}
use Rattle.pict_queue.specs.QueuesState.{CostsAtMost}
use Rattle.pict_queue.specs.Contents.{contents}
use Rattle.pict_blocks.specs.Blocks.{process_of}
use Rattle.pict_desk.specs.Code.{core_in, IsCode}
use Rattle.pict_desk.specs.Known.{value_in}
use Rattle.pict_turns.specs.Acting.{IsStore, HasActing}
use Rattle.pict_turns.specs.Turns.{TakesTurn, TakesOneBlock, turn_cost}
use Rattle.pict_turns.specs.Views.{acting_words, ready_words, view_with_turn}
use Rattle.pict_turns.specs.declared.store.Store.{Store}
use Rattle.pict_view.specs.Placed.{next_view}
use Rattle.pict_view.specs.View.{KeepsApart, StandsFor}
use Rattle.pict_view.proofs.AtPlaces.{views_step}
use Rattle.pict_machine.specs.Machine.{view_of}
use Rattle.pict_machine.specs.Wrong.{is_misshapen, is_wrong, MayAsk}
use Rattle.pict_machine.proofs.Asking.{refused_asking, wrong_by}
use Rattle.pict_machine.proofs.Steps.{idle_view, machine_rested, still_kept, whole_refused}
use Rattle.pict_turns.proofs.Given.{first_given, given_view}
use Rattle.pict_machine.proofs.machine.Machine.next_is_wrong.Goals as goal

pub take_turn-requires : goal.take_turn-requires
take_turn-requires c =
    let old = c.args.self.now in
    record {
      code = subst (λ (code : List Node). IsCode (map plain_node code)) (sym c.deref.ensures.value) c.requires.kept.running.code;
      store = subst (λ (code : List Node). IsStore (core_in code) old.store) (sym c.deref.ensures.value) c.requires.kept.running.store;
      nobody = c.requires.kept.idle;
      some = λ none. c.requires.ready (ap (map (process_of (core_in old.code.nodes.items) (value_in old.store.desk.heap))) none);
    }

pub turn_is_wrong-wrong-requires : goal.turn_is_wrong-wrong-requires
turn_is_wrong-wrong-requires c =
    let old = c.args.self.now in
    let kept = c.requires.kept in
    let taken = c.take_turn.new.store in
    let core = core_in old.code.nodes.items in
    let acting = subst (λ (code : List Node). HasActing (core_in code) taken) c.deref.ensures.value c.take_turn.ensures.acting in
    let takes = subst (λ (code : List Node). TakesTurn (core_in code) old.store taken) c.deref.ensures.value c.take_turn.ensures.takes in
    let before = subst (λ (code : List Node). CostsAtMost (turn_cost (core_in code) taken) old.store.queues taken.queues) c.deref.ensures.value c.take_turn.ensures.cost in
    let given = first_given core old.store taken kept.idle acting takes before in
    let same : view_of old ≡ view_with_turn core taken = sym (given_view core old.store taken given ∙ idle_view old kept) in
    let C = c.requires.stands in
    let may : MayAsk core taken = record { acting = acting; configuration = C.0; is = C.1; stands = subst (λ v. StandsFor v C.0) same C.2 } in
    record {
      code = subst (λ (code : List Node). IsCode (map plain_node code)) (sym c.deref-2.ensures.value) kept.running.code;
      may = subst (λ (code : List Node). MayAsk (core_in code) taken) (sym c.deref-2.ensures.value) may;
    }

pub return_turn-requires-clause-store : goal.return_turn-requires-clause-store
return_turn-requires-clause-store c =
    let old = c.args.self.now in
    let taken = c.take_turn.new.store in
    let asked = c.turn_is_wrong-wrong.new.store in
    let core = core_in old.code.nodes.items in
    let acting = subst (λ (code : List Node). HasActing (core_in code) taken) c.deref.ensures.value c.take_turn.ensures.acting in
    subst (λ (code : List Node). IsStore (core_in code) asked) (sym c.deref-3.ensures.value) (refused_asking core taken asked c.turn_is_wrong-wrong.ensures.asks acting).store

pub returns : goal.returns
returns c =
    let old = c.args.self.now in
    let core = core_in old.code.nodes.items in
    let kept = c.requires.kept in
    let taken = c.take_turn.new.store in
    let asked = c.turn_is_wrong-wrong.new.store in
    let new = c.return_turn.new.store in
    let wrong = c.turn_is_wrong-wrong.result in
    let acting = subst (λ (code : List Node). HasActing (core_in code) taken) c.deref.ensures.value c.take_turn.ensures.acting in
    let takes = subst (λ (code : List Node). TakesTurn (core_in code) old.store taken) c.deref.ensures.value c.take_turn.ensures.takes in
    let before = subst (λ (code : List Node). CostsAtMost (turn_cost (core_in code) taken) old.store.queues taken.queues) c.deref.ensures.value c.take_turn.ensures.cost in
    let given = first_given core old.store taken kept.idle acting takes before in
    let refused = refused_asking core taken asked c.turn_is_wrong-wrong.ensures.asks acting in
    let is = subst (λ (code : List Node). wrong ≡ is_wrong (core_in code) taken) c.deref-2.ensures.value c.turn_is_wrong-wrong.ensures.wrong in
    let back = c.return_turn.ensures in
    let store = subst (λ (code : List Node). IsStore (core_in code) new) c.deref-3.ensures.value back.store in
    let ready = subst (λ (code : List Node). contents new.queues 0 ≡ ready_words (core_in code) asked) c.deref-3.ensures.value back.ready in
    let down = subst (λ (code : List Node). TakesOneBlock asked.queues new.queues (length (acting_words (core_in code) asked) + 1)) c.deref-3.ensures.value back.takes in
    let heap = ap (λ (s : Store). s.desk.heap) back.rest in
    let same : view_with_turn core taken ≡ view_of old = given_view core old.store taken given ∙ idle_view old kept in
    record {
      wrong = λ C C_is stands.
          let apart : KeepsApart (view_of old) = subst KeepsApart (idle_view old kept) kept.running.apart in
          let b : wrong ≡ is_misshapen (next_view (view_of old)) = is ∙ ap (λ v. is_misshapen (next_view v)) same in
          subst (λ x. IsTrue x ↔ (next C ≡ Wrong)) (sym b) (wrong_by (view_of old) (next C) (next_view (view_of old)) (views_step (view_of old) C apart C_is stands));
      kept = machine_rested (record old { store = asked }) (still_kept old taken asked given kept.running refused) new heap ready back.others back.queues store (ap (λ (s : Store). s.turn) back.rest) back.no_more;
      unchanged = whole_refused old kept taken asked new acting takes given heap ready back.others back.queues down (Err alloc_error) refused;
    }
