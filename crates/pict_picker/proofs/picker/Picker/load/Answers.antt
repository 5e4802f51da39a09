use Rattle.std.proofs.Common.{◌≡◌, List, [], ◌∷◌, ◌++◌, length, replicate, map, ap, ◌∙◌, refl}
use Rattle.pict_code.specs.Plain.{plain_code, plain_node}
use Rattle.pict_code.specs.ReadBack.{core_of}
use Rattle.pict_desk.specs.Levels.{levels_in}
use Rattle.pict_desk.specs.declared.desk.Desk.{Desk}
use Rattle.pict_picker.specs.declared.lists.Lists.{Lists}
use Rattle.pict_picker.specs.declared.waiting.Waiting.{Waiting}
use Rattle.pict_picker.specs.declared.waiting.Waiting.TheVariants as waiting
use Rattle.pict_picker.proofs.Opening.{opening_desk, opening_lists, opening_apart, opening_stands}
use Rattle.pict_picker.proofs.picker.Picker.load.Goals as goal

pub returns-clause-kept : goal.returns-clause-kept
returns-clause-kept c =
    let core = core_of (plain_code c.args.code) in
    let zeros : c.in_ok-values.values.items ≡ replicate c.level_count.result (0, 0) = c.in_ok-values.ensures.items_if_clones_equal (λ y e. ap (λ a. (a, y.1)) e.0 ∙ ap (λ b. (0, b)) e.1) in
    let many = c.level_count.ensures ∙ ap (λ nodes. levels_in (map plain_node nodes)) c.deref.ensures.value in
    let w : Waiting = waiting.Node 0 c.new.result in
    let lists : Lists = record { ready = c.push.new.self; channels = c.new-5.result } in
    let desk : Desk = record { heap = c.new-2.result; pending = record { words = c.new-3.result; labelled = c.new-4.result }; values = c.in_ok-values.values } in
    let ready = c.push.ensures.items ∙ ap (λ (ws : List Waiting). ws ++ w ∷ []) (c.reserve.ensures.items ∙ c.new-ready.ensures.items) in
    record {
      code = c.requires.code;
      desk = opening_desk core desk (plain_code c.args.code) c.level_count.result c.requires.code.nodes_are zeros many;
      lists = opening_lists core c.new-2.result lists w (refl, c.new.ensures.items) ready c.new-5.ensures.items;
      apart = opening_apart core c.new-2.result lists w (refl, c.new.ensures.items) ready c.new-5.ensures.items;
    }

pub returns-clause-stands : goal.returns-clause-stands
returns-clause-stands c =
    let w : Waiting = waiting.Node 0 c.new.result in
    let lists : Lists = record { ready = c.push.new.self; channels = c.new-5.result } in
    let ready = c.push.ensures.items ∙ ap (λ (ws : List Waiting). ws ++ w ∷ []) (c.reserve.ensures.items ∙ c.new-ready.ensures.items) in
    opening_stands (core_of (plain_code c.args.code)) c.new-2.result lists w (refl, c.new.ensures.items) ready c.new-5.ensures.items

pub returns-clause-channels : goal.returns-clause-channels
returns-clause-channels c = ap length c.new-5.ensures.items
