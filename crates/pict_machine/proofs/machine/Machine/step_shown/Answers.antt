use Rattle.std.proofs.Common.{◌≡◌, ◌+◌, List, length, map, refl, ap, ◌∙◌, sym, subst}
use Rattle.pict_blocks.specs.Blocks.{process_of}
use Rattle.pict_desk.specs.Known.{value_in}
use Rattle.pict_code.specs.Plain.{plain_code, plain_node}
use Rattle.pict_code.specs.declared.instruction.Node.{Node}
use Rattle.pict_heap.specs.HeapState.{HeapState}
use Rattle.pict_queue.specs.QueuesState.{CostsAtMost}
use Rattle.pict_queue.specs.Contents.{contents}
use Rattle.pict_view.specs.View.{View}
use Rattle.pict_view.specs.Right.{IsRightFor}
use Rattle.pict_turns.specs.Acting.{IsStore, HasActing}
use Rattle.pict_desk.specs.Code.{core_in, IsCode}
use Rattle.pict_turns.specs.Turns.{TakesTurn, TakesOneBlock, turn_cost}
use Rattle.pict_turns.specs.Views.{acting_words, ready_words}
use Rattle.pict_turns.specs.declared.store.Store.{Store}
use Rattle.pict_desk.specs.Constants.{AreConstants}
use Rattle.pict_turns.specs.Stepping.{MayAct, StepsBy}
use Rattle.pict_turns.proofs.Needing.{needed_whole}
use Rattle.pict_turns.proofs.Growing.{whole_adds}
use Rattle.pict_turns.proofs.InPlace.{given_in_place, idle_in_place}
use Rattle.pict_machine.proofs.Steps.{idle_view, step_kept, whole_kept, whole_ok, whole_event, whole_trapped, whole_refused, whole_keeps, whole_few, whole_queues}
use Rattle.pict_turns.proofs.Given.{first_given, may_act}
use Rattle.pict_turns.proofs.Working.{step_works}
use Rattle.pict_machine.proofs.machine.Machine.step_shown.Goals as goal

pub take_turn-requires : goal.take_turn-requires
take_turn-requires c =
    let old = c.args.self.now in
    record {
      code = subst (λ (code : List Node). IsCode (map plain_node code)) (sym c.deref.ensures.value) c.requires.kept.running.code;
      store = subst (λ (code : List Node). IsStore (core_in code) old.store) (sym c.deref.ensures.value) c.requires.kept.running.store;
      nobody = c.requires.kept.idle;
      some = λ none. c.requires.ready (ap (map (process_of (core_in old.code.nodes.items) (value_in old.store.desk.heap))) none);
    }

pub act-result-requires-clause-may : goal.act-result-requires-clause-may
act-result-requires-clause-may c =
    let old = c.args.self.now in
    let taken = c.take_turn.new.store in
    let kept = c.requires.kept in
    let acting = subst (λ (code : List Node). HasActing (core_in code) taken) c.deref.ensures.value c.take_turn.ensures.acting in
    let takes = subst (λ (code : List Node). TakesTurn (core_in code) old.store taken) c.deref.ensures.value c.take_turn.ensures.takes in
    let before = subst (λ (code : List Node). CostsAtMost (turn_cost (core_in code) taken) old.store.queues taken.queues) c.deref.ensures.value c.take_turn.ensures.cost in
    let given = first_given (core_in old.code.nodes.items) old.store taken kept.idle acting takes before in
    subst (λ (code : List Node). MayAct code taken) (sym c.deref-2.ensures.value)
    (may_act old.code.nodes.items old.store taken given kept.running.code kept.running.store.ready kept.running.apart c.requires.few
    (subst (λ (v : View). IsRightFor v 1) (sym (idle_view old kept)) c.requires.right))

pub act-result-requires-clause-constants : goal.act-result-requires-clause-constants
act-result-requires-clause-constants c =
    let old = c.args.self.now in
    subst (λ (h : HeapState). AreConstants h (map plain_node c.deref-2.result.now) c.deref-3.result.now) (sym c.take_turn.ensures.takes.heap)
    (subst (λ (code : List Node). AreConstants old.store.desk.heap (map plain_node code) c.deref-3.result.now) (sym c.deref-2.ensures.value)
    (subst (AreConstants old.store.desk.heap (plain_code old.code)) (sym c.deref-3.ensures.value) c.requires.kept.running.constants))

pub return_turn-requires-clause-store : goal.return_turn-requires-clause-store
return_turn-requires-clause-store c =
    let old = c.args.self.now in
    let kept = c.requires.kept in
    let taken = c.take_turn.new.store in
    let acted = c.act-result.new.store in
    let acting = subst (λ (code : List Node). HasActing (core_in code) taken) c.deref.ensures.value c.take_turn.ensures.acting in
    let takes = subst (λ (code : List Node). TakesTurn (core_in code) old.store taken) c.deref.ensures.value c.take_turn.ensures.takes in
    let before = subst (λ (code : List Node). CostsAtMost (turn_cost (core_in code) taken) old.store.queues taken.queues) c.deref.ensures.value c.take_turn.ensures.cost in
    let given = first_given (core_in old.code.nodes.items) old.store taken kept.idle acting takes before in
    let by = subst (λ (code : List Node). StepsBy code taken acted c.act-result.result) c.deref-2.ensures.value c.act-result.ensures.steps in
    subst (λ (code : List Node). IsStore (core_in code) acted) (sym c.deref-4.ensures.value)
    (step_kept old taken acted given kept.running (subst (λ (v : View). IsRightFor v 1) (sym (idle_view old kept)) c.requires.right) c.act-result.result by.step).store

pub returns : goal.returns
returns c =
    let old = c.args.self.now in
    let core = core_in old.code.nodes.items in
    let kept = c.requires.kept in
    let taken = c.take_turn.new.store in
    let acted = c.act-result.new.store in
    let new = c.return_turn.new.store in
    let result = c.act-result.result in
    let acting = subst (λ (code : List Node). HasActing (core_in code) taken) c.deref.ensures.value c.take_turn.ensures.acting in
    let takes = subst (λ (code : List Node). TakesTurn (core_in code) old.store taken) c.deref.ensures.value c.take_turn.ensures.takes in
    let before = subst (λ (code : List Node). CostsAtMost (turn_cost (core_in code) taken) old.store.queues taken.queues) c.deref.ensures.value c.take_turn.ensures.cost in
    let given = first_given core old.store taken kept.idle acting takes before in
    let by = subst (λ (code : List Node). StepsBy code taken acted result) c.deref-2.ensures.value c.act-result.ensures.steps in
    let step = by.step in
    let back = c.return_turn.ensures in
    let store = subst (λ (code : List Node). IsStore (core_in code) new) c.deref-4.ensures.value back.store in
    let ready = subst (λ (code : List Node). contents new.queues 0 ≡ ready_words (core_in code) acted) c.deref-4.ensures.value back.ready in
    let after = subst (λ (code : List Node). CostsAtMost (turn_cost (core_in code) acted) acted.queues new.queues) c.deref-4.ensures.value back.cost in
    let down = subst (λ (code : List Node). TakesOneBlock acted.queues new.queues (length (acting_words (core_in code) acted) + 1)) c.deref-4.ensures.value back.takes in
    let heap = ap (λ (s : Store). s.desk.heap) back.rest in
    record {
      kept = whole_kept old kept taken acted new acting takes given heap ready back.others back.queues store (ap (λ (s : Store). s.turn) back.rest) back.no_more c.requires.right result step;
      ok = whole_ok old kept taken acted new acting takes given heap ready back.others back.queues result step;
      event = whole_event old kept taken acted new acting takes given heap ready back.others back.queues result step;
      trapped = whole_trapped old kept taken acted new acting takes given heap ready back.others back.queues down result step;
      refused = whole_refused old kept taken acted new acting takes given heap ready back.others back.queues down result step;
      keeps = whole_keeps old kept taken acted new acting takes given heap ready back.others back.queues result step;
      work = step_works core old.store taken acted given by.work new kept.idle after;
      blocks = needed_whole core old.store taken acted given by.blocks new kept.idle back.blocks;
      adds = whole_adds core old.store taken acted given by.adds new kept.idle heap;
      plain = λ m.
          let x = by.plain (given_in_place core old.store taken given (idle_in_place core old.store kept.idle m)) in
          (x.0, λ width. back.blocks width ∙ x.1 width ∙ takes.blocks width);
      channels = whole_few old kept taken acted new acting takes given heap ready back.others back.queues result step;
      queues = whole_queues old kept taken acted new acting takes given heap ready back.others back.queues down result step;
      code = refl;
    }
