use Rattle.std.proofs.Common.{◌≡◌, ◌-◌, List, replicate, map, ap, ◌∙◌, refl, subst}
use Rattle.pict_code.specs.Plain.{plain_code, plain_node}
use Rattle.pict_code.specs.ReadBack.{core_of}
use Rattle.pict_code.specs.declared.instruction.Node as written
use Rattle.pict_turns.specs.declared.store.Store.{Store}
use Rattle.pict_turns.specs.declared.turn.Turn.TheVariants.{Nobody}
use Rattle.pict_machine.proofs.Opening.{opening_store}
use Rattle.pict_desk.specs.Constants.{AreConstants}
use Rattle.pict_desk.specs.Levels.{levels_in}
use Rattle.pict_network.proofs.Freed.{openings_are_networks}
use Rattle.pict_sites.proofs.Loaded.{loaded_sites, loaded_stand}
use Rattle.pict_sites.proofs.network.Network.load.Goals as goal

pub returns-in_err-first-clause-is : goal.returns-in_err-first-clause-is
returns-in_err-first-clause-is c = (openings_are_networks (c.args.sites - 1) (core_of (plain_code c.args.code)) c.requires.code.closed).0

pub returns-in_err-queues-clause-is : goal.returns-in_err-queues-clause-is
returns-in_err-queues-clause-is c = (openings_are_networks (c.args.sites - 1) (core_of (plain_code c.args.code)) c.requires.code.closed).0

pub returns-in_err-post-clause-is : goal.returns-in_err-post-clause-is
returns-in_err-post-clause-is c = (openings_are_networks (c.args.sites - 1) (core_of (plain_code c.args.code)) c.requires.code.closed).0

pub returns-in_err-values-clause-is : goal.returns-in_err-values-clause-is
returns-in_err-values-clause-is c = (openings_are_networks (c.args.sites - 1) (core_of (plain_code c.args.code)) c.requires.code.closed).0

pub returns-in_err-constants-clause-is : goal.returns-in_err-constants-clause-is
returns-in_err-constants-clause-is c = (openings_are_networks (c.args.sites - 1) (core_of (plain_code c.args.code)) c.requires.code.closed).0

pub returns-clause-is : goal.returns-clause-is
returns-clause-is c = (openings_are_networks (c.args.sites - 1) (core_of (plain_code c.args.code)) c.requires.code.closed).0

pub returns-clause-kept : goal.returns-clause-kept
returns-clause-kept c =
    let core = core_of (plain_code c.args.code) in
    let zeros : c.in_ok-values.values.items ≡ replicate c.level_count.result (0, 0) = c.in_ok-values.ensures.items_if_clones_equal (λ y e. ap (λ a. (a, y.1)) e.0 ∙ ap (λ b. (0, b)) e.1) in
    let many = c.level_count.ensures ∙ ap (λ nodes. levels_in (map plain_node nodes)) c.deref.ensures.value in
    let store : Store = record { desk = c.make_constants.new.desk; queues = c.in_ok-first.first; turn = Nobody } in
    let site = opening_store core store (plain_code c.args.code) c.level_count.result c.requires.code.nodes_are c.in_ok-first.ensures (c.make_constants.ensures.rest.values ∙ zeros) many refl in
    record {
      code = c.requires.code;
      constants = subst (λ (nodes : List written.Node). AreConstants store.desk.heap (map plain_node nodes) c.in_ok-constants.constants.items) c.deref-2.ensures.value c.in_ok-constants.ensures.are;
      sites = loaded_sites core _ c.in_ok-first.first c.in_ok-first.ensures c.in_ok-queues.ensures.first c.in_ok-post.ensures site c.new-turn.ensures c.new-5.ensures.items c.new-6.ensures.items c.args.sites c.in_ok-queues.ensures.count
          c.requires.some c.requires.few;
    }

pub returns-clause-stands : goal.returns-clause-stands
returns-clause-stands c =
    let core = core_of (plain_code c.args.code) in
    let zeros : c.in_ok-values.values.items ≡ replicate c.level_count.result (0, 0) = c.in_ok-values.ensures.items_if_clones_equal (λ y e. ap (λ a. (a, y.1)) e.0 ∙ ap (λ b. (0, b)) e.1) in
    let many = c.level_count.ensures ∙ ap (λ nodes. levels_in (map plain_node nodes)) c.deref.ensures.value in
    let store : Store = record { desk = c.make_constants.new.desk; queues = c.in_ok-first.first; turn = Nobody } in
    let site = opening_store core store (plain_code c.args.code) c.level_count.result c.requires.code.nodes_are c.in_ok-first.ensures (c.make_constants.ensures.rest.values ∙ zeros) many refl in
    loaded_stand core _ c.in_ok-first.first c.in_ok-first.ensures c.in_ok-queues.ensures.first c.in_ok-post.ensures site c.new-turn.ensures c.new-5.ensures.items c.new-6.ensures.items c.args.sites c.in_ok-queues.ensures.count
    c.requires.some c.requires.few
