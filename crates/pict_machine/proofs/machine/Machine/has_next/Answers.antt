use Rattle.std.proofs.Common.{IsTrue, ◌↔◌, ◌≢◌, [], refl, sym, subst, ◌∙◌}
use Rattle.pict_view.specs.View.{View}
use Rattle.pict_machine.specs.Machine.{core_in}
use Rattle.pict_turns.proofs.Turns.{words_nobody, view_nobody}
use Rattle.pict_turns.proofs.Given.{turn_given, acting_ready}
use Rattle.pict_machine.proofs.machine.Machine.has_next.Goals as goal

pub returns-in-Nobody : goal.returns-in-Nobody
returns-in-Nobody c =
    let m = c.args.self.now in
    subst (λ (v : View). IsTrue c.is_ready.result ↔ (v.ready ≢ [])) (sym (view_nobody (core_in m) m.store (words_nobody (core_in m) m.store (sym c.get.ensures ∙ c.in-Nobody.is)))) c.is_ready.ensures

pub returns-in_default : goal.returns-in_default
returns-in_default c =
    let m = c.args.self.now in
    let given = turn_given (core_in m) m.store c.requires.store (λ e. c.in_default.not-Nobody (c.get.ensures ∙ e)) in
    (λ yes. acting_ready (core_in m) m.store given.acting, λ ready. refl)
