use Rattle.std.proofs.Common.{sym, ap, ◌∙◌, filter, option_map}
use Rattle.std.specs.List.{slice_get}
use Rattle.pict_core.specs.Plain.{plain_core}
use Rattle.pict_core.specs.Step.{is_partner}
use Rattle.pict_shared.specs.declared.shaped.Shaped.{Shaped}
use Rattle.pict_shared.specs.Plain.{plain_held}
use Rattle.pict_orders.specs.Plain.{entries_of}
use Rattle.pict_orders.proofs.Placed.{step_found}
use Rattle.pict_orders.proofs.state.State.step_at.Goals as goal

pub returns-in_ok-partner-in-Some : goal.returns-in_ok-partner-in-Some
returns-in_ok-partner-in-Some c =
    step_found _ _ _ _ (plain_held c.in-Some.actor) _ _ (sym (ap (option_map plain_held) c.in-Some.is) ∙ c.in_ok-actor_at.ensures)
    (c.in_ok-partner-in-Some.ensures ∙ ap (λ (x : Shaped). slice_get (filter (is_partner (plain_core x.core)) (entries_of c.args.self.now)) c.args.choice.partner) c.deref.ensures)
    c.act.ensures
