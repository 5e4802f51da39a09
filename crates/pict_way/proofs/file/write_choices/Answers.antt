use Rattle.pict_way.proofs.Writing.{choice_more}
use Rattle.pict_way.proofs.file.write_choices.Goals as goal

pub loop-choice-preserved : goal.loop-choice-preserved
loop-choice-preserved c =
    choice_more c.args.choices.now c.loop-choice.choice-index (record { ready = 0; partner = 0 }) c.loop-choice-test.true c.args.out.now.items c.loop-choice.out.items c.write_choice.new.out.items
    c.loop-choice.invariant c.in_ok-write_choice.ensures
