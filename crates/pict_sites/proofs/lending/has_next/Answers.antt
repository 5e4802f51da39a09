use Rattle.std.proofs.Common.{refl, sym, ◌∙◌}
use Rattle.pict_turns.proofs.Taking.{some_acts}
use Rattle.pict_turns.proofs.Given.{acting_ready}
use Rattle.pict_sites.proofs.Only.{ready_idle}
use Rattle.pict_sites.proofs.lending.has_next.Goals as goal

pub returns-in-Nobody : goal.returns-in-Nobody
returns-in-Nobody c core store = ready_idle core c.args.store.now (sym c.get.ensures ∙ c.in-Nobody.is) c.is_busy.result c.is_busy.ensures

pub returns-in_default : goal.returns-in_default
returns-in_default c core store =
    (λ yes. acting_ready core c.args.store.now (some_acts core c.args.store.now store (λ e. c.in_default.not-Nobody (c.get.ensures ∙ e))), λ ready. refl)
