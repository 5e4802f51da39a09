use Rattle.std.proofs.Common.{◌≡◌, List, replicate, map, ap, ◌∙◌, refl, sym, subst}
use Rattle.pict_code.specs.Plain.{plain_code, plain_node}
use Rattle.pict_code.specs.ReadBack.{core_of}
use Rattle.pict_code.specs.declared.instruction.Node as written
use Rattle.pict_view.specs.View.{KeepsApart}
use Rattle.pict_desk.specs.Code.{IsCode}
use Rattle.pict_turns.specs.declared.store.Store.{Store}
use Rattle.pict_turns.specs.declared.turn.Turn.TheVariants.{Nobody}
use Rattle.pict_turns.proofs.Turns.{words_nobody, view_nobody}
use Rattle.pict_machine.proofs.Opening.{opening_store, opening_apart, opening_stands}
use Rattle.pict_desk.specs.Constants.{AreConstants}
use Rattle.pict_desk.specs.Levels.{levels_in}
use Rattle.pict_machine.proofs.machine.Machine.load.Goals as goal

pub make_constants-requires : goal.make_constants-requires
make_constants-requires c = record { code = subst (λ (nodes : List written.Node). IsCode (map plain_node nodes)) (sym c.deref-2.ensures.value) c.requires.code }

pub returns-clause-kept : goal.returns-clause-kept
returns-clause-kept c =
    let core = core_of (plain_code c.args.code) in
    let zeros : c.in_ok-values.values.items ≡ replicate c.level_count.result (0, 0) = c.in_ok-values.ensures.items_if_clones_equal (λ y e. ap (λ a. (a, y.1)) e.0 ∙ ap (λ b. (0, b)) e.1) in
    let many = c.level_count.ensures ∙ ap (λ nodes. levels_in (map plain_node nodes)) c.deref.ensures.value in
    let store : Store = record { desk = c.make_constants.new.desk; queues = c.in_ok-queues.queues; turn = Nobody } in
    let queues = c.in_ok-queues.ensures in
    rw c.new-turn.ensures (record {
      running = record {
        code = c.requires.code;
        store = opening_store core store (plain_code c.args.code) c.level_count.result c.requires.code.nodes_are queues (c.make_constants.ensures.rest.values ∙ zeros) many refl;
        apart = subst KeepsApart (sym (view_nobody core store (words_nobody core store refl))) (opening_apart core store.desk.heap store.queues queues);
        none_held = queues.none_held;
        constants = subst (λ (nodes : List written.Node). AreConstants store.desk.heap (map plain_node nodes) c.in_ok-constants.constants.items) c.deref-2.ensures.value c.in_ok-constants.ensures.are;
      };
      idle = refl;
    })

pub returns-clause-stands : goal.returns-clause-stands
returns-clause-stands c = opening_stands (core_of (plain_code c.args.code)) c.make_constants.new.desk.heap c.in_ok-queues.queues c.in_ok-queues.ensures
