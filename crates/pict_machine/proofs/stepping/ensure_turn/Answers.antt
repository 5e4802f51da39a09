use Rattle.std.proofs.Common.{sym, ◌∙◌}
use Rattle.pict_desk.specs.Code.{core_in}
use Rattle.pict_turns.proofs.Given.{turn_given, first_given, some_ready}
use Rattle.pict_machine.proofs.stepping.ensure_turn.Goals as goal

pub take_turn-requires-clause-some : goal.take_turn-requires-clause-some
take_turn-requires-clause-some c = some_ready (core_in c.args.code.now) c.args.store.now (sym c.get.ensures ∙ c.in-Nobody.is) c.requires.ready

pub returns-in-Nobody : goal.returns-in-Nobody
returns-in-Nobody c = first_given (core_in c.args.code.now) c.args.store.now c.take_turn.new.store (sym c.get.ensures ∙ c.in-Nobody.is) c.take_turn.ensures.acting c.take_turn.ensures.takes c.take_turn.ensures.cost

pub returns-in_default : goal.returns-in_default
returns-in_default c = turn_given (core_in c.args.code.now) c.args.store.now c.requires.store (λ e. c.in_default.not-Nobody (c.get.ensures ∙ e))
