use Rattle.pict_turns.proofs.Handing.{hands_narrow}
use Rattle.pict_turns.proofs.parts.hand_on_from.Goals as goal

pub returns-then-frame-clause-hands : goal.returns-then-frame-clause-hands
returns-then-frame-clause-hands c = λ core f. rw c.set.ensures (hands_narrow core c.args.store.now c.args.number c.args.frame.now f c.requires.pairs c.if-frame.true)
