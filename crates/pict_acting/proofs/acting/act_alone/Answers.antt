use Rattle.std.proofs.Common.{ap, subst}
use Rattle.pict_code.specs.Plain.{plain_op}
use Rattle.pict_desk.specs.Code.{core_in}
use Rattle.pict_turns.specs.Acting.{ActsBy}
use Rattle.pict_acting.proofs.acting.act_alone.Goals as goal

pub returns-in-Zero : goal.returns-in-Zero
returns-in-Zero c =
    record { steps = c.end.ensures.steps c.args.code.now (subst (ActsBy (core_in c.args.code.now) c.args.store.now) (ap plain_op c.in-Zero.is) c.requires.acts) }
