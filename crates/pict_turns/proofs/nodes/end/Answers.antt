use Rattle.std.proofs.Common.{refl}
use Rattle.pict_desk.specs.Code.{core_in}
use Rattle.pict_turns.proofs.Steps.{end_done}
use Rattle.pict_turns.proofs.Whole.{end_steps}
use Rattle.pict_turns.proofs.nodes.end.Goals as goal

pub returns-clause-steps : goal.returns-clause-steps
returns-clause-steps c = λ code a. rw c.set.ensures (end_steps code c.args.store.now _ _ (record { done = end_done (core_in code) c.args.store.now a; event = tt }) a refl)

pub returns-clause-done : goal.returns-clause-done
returns-clause-done c = λ core a. rw c.set.ensures (end_done core c.args.store.now a)
