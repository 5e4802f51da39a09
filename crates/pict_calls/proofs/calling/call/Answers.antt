use Rattle.std.proofs.Common.{option_map, sym, ap, ◌∙◌}
use Rattle.pict_prim.specs.Acts.{effect_act}
use Rattle.pict_calls.proofs.Answering.{makes_same, adds_same}
use Rattle.pict_calls.proofs.calling.call.Goals as goal

pub returns-clause-blocks : goal.returns-clause-blocks
returns-clause-blocks c e is =
    let heap = c.args.store.now.desk.heap in
    makes_same c.args.store.now.queues c.carry_out.new.store.queues (effect_act heap c.in-Some.act) e
    (ap (option_map (effect_act heap)) (sym c.in-Some.is) ∙ c.act_on.ensures.effect ∙ is) c.carry_out.ensures.blocks

pub returns-clause-adds : goal.returns-clause-adds
returns-clause-adds c e is =
    let heap = c.args.store.now.desk.heap in
    adds_same c.args.store.now c.carry_out.new.store (effect_act heap c.in-Some.act) e
    (ap (option_map (effect_act heap)) (sym c.in-Some.is) ∙ c.act_on.ensures.effect ∙ is) c.carry_out.ensures.adds
