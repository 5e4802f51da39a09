-- The record is handed on where it is there.
use Rattle.pict_turns.proofs.Handing.{hands_kept}
use Rattle.pict_turns.proofs.parts.hand_on_wide_from.Goals as goal

pub returns-in-Some-clause-hands : goal.returns-in-Some-clause-hands
returns-in-Some-clause-hands c = λ core f.
    rw c.set.ensures (hands_kept core c.args.store.now c.in-Some.pair c.args.number c.args.frame.now f c.requires.pairs c.in-Some.ensures)
