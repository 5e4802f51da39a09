use Rattle.std.proofs.Common.{◌≡◌, ◌-◌, List, map, ap, refl, sym, subst, ℕ, arith}
use Rattle.pict_code.specs.Plain.{plain_node}
use Rattle.pict_code.specs.declared.instruction.Node.{Node}
use Rattle.pict_queue.specs.Contents.{contents}
use Rattle.pict_queue.specs.QueuesState.{CostsAtMost}
use Rattle.pict_turns.specs.Acting.{IsStore}
use Rattle.pict_desk.specs.Code.{core_in, IsCode}
use Rattle.pict_turns.specs.Turns.{turn_cost}
use Rattle.pict_turns.specs.Views.{ready_words}
use Rattle.pict_turns.specs.declared.store.Store.{Store}
use Rattle.pict_machine.proofs.Bounding.{rest_low}
use Rattle.pict_machine.proofs.Steps.{view_rested, machine_rested}
use Rattle.pict_machine.proofs.machine.Machine.rest.Goals as goal

pub return_turn-requires : goal.return_turn-requires
return_turn-requires c =
    let old = c.args.self.now in
    record {
      code = subst (λ (code : List Node). IsCode (map plain_node code)) (sym c.deref.ensures.value) c.requires.kept.code;
      store = subst (λ (code : List Node). IsStore (core_in code) old.store) (sym c.deref.ensures.value) c.requires.kept.store;
    }

pub returns : goal.returns
returns c =
    let old = c.args.self.now in
    let new = c.return_turn.new.store in
    let back = c.return_turn.ensures in
    let heap = ap (λ (s : Store). s.desk.heap) back.rest in
    let store = subst (λ (code : List Node). IsStore (core_in code) new) c.deref.ensures.value back.store in
    let ready = subst (λ (code : List Node). contents new.queues 0 ≡ ready_words (core_in code) old.store) c.deref.ensures.value back.ready in
    let cost = subst (λ (code : List Node). CostsAtMost (turn_cost (core_in code) old.store) old.store.queues new.queues) c.deref.ensures.value back.cost in
    record {
      work = rest_low (core_in old.code.nodes.items) old.store new cost;
      blocks = back.blocks;
      kept = machine_rested old c.requires.kept new heap ready back.others back.queues store (ap (λ (s : Store). s.turn) back.rest) back.no_more;
      view = view_rested old c.requires.kept new heap ready back.others back.queues;
      heap = heap;
      channels = ap (λ (n : ℕ). n - 1) back.queues;
      queues = let count = back.queues in let left = back.takes.queues in omega (arith, count, left);
      code = refl;
    }
