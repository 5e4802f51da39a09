use Rattle.pict_typing.proofs.Conclusions.{conditions, nothing_responds, primitives_act, receivers, senders}
use Rattle.pict_typing.proofs.laws.law_canonical_forms.Goals as goal

pub returns-clause-conditions : goal.returns-clause-conditions
returns-clause-conditions c = conditions

pub returns-clause-receivers : goal.returns-clause-receivers
returns-clause-receivers c = receivers

pub returns-clause-senders : goal.returns-clause-senders
returns-clause-senders c = senders

pub returns-clause-primitives : goal.returns-clause-primitives
returns-clause-primitives c = primitives_act

pub returns-clause-responders : goal.returns-clause-responders
returns-clause-responders c = nothing_responds
