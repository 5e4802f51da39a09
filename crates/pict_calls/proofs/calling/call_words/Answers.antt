use Rattle.std.proofs.Common.{sym, ◌∙◌}
use Rattle.pict_prim.specs.Acts.{effect_act}
use Rattle.pict_calls.proofs.Answering.{makes_same, adds_same}
use Rattle.pict_calls.proofs.calling.call_words.Goals as goal

pub returns-clause-blocks : goal.returns-clause-blocks
returns-clause-blocks c labelled e is =
    makes_same c.args.store.now.queues c.carry_out.new.store.queues (effect_act c.args.store.now.desk.heap c.act_of-act.result) e
    (sym (c.act_of-act.ensures.effect labelled) ∙ is) c.carry_out.ensures.blocks

pub returns-clause-adds : goal.returns-clause-adds
returns-clause-adds c labelled e is =
    adds_same c.args.store.now c.carry_out.new.store (effect_act c.args.store.now.desk.heap c.act_of-act.result) e
    (sym (c.act_of-act.ensures.effect labelled) ∙ is) c.carry_out.ensures.adds
