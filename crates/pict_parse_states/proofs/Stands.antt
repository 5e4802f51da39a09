-- What the parser holds is never a state that has stopped.
use Rattle.pict_parse_states.specs.declared.states.State.{State as RState}
use Rattle.pict_parse_states.specs.declared.states.State.TheVariants.{Need}
use Rattle.pict_parse_states.specs.View.{parse_state}
use Rattle.pict_automaton.proofs.Finish.{Going}

pub stands : (x : RState) → Going (parse_state x)
stands (Need p) = tt
stands _ = tt
