-- A whole search is an exploration.
use Rattle.std.proofs.Common.{◌≡◌, ap, ◌∙◌, subst}
use Rattle.pict_core.specs.Term.{Process}
use Rattle.pict_core.specs.Step.{Steps, step_by}
use Rattle.pict_core.specs.Places.{outcome_at}
use Rattle.pict_core.proofs.Everywhere.{choices_have_places}
use Rattle.pict_exploration.specs.Explored.{Explores}
use Rattle.pict_orders.specs.Found.{vertices, IsSearch, ListsTraps}
use Rattle.pict_orders.specs.Going.{IsCovered, IsWhole}
use Rattle.pict_orders.specs.declared.search.Search.{Search}

pub explores : (p : Process) (s : Search) → IsSearch p (vertices s.found.items) s.traps.items → IsWhole p s → Explores p (vertices s.found.items)
explores p s h w = record {
  reached = h.reached;
  still = λ v has. (h.settled v has).still;
  opens = w.opened;
  steps = λ v choice D label has free.
      let c = choices_have_places v.configuration choice free.chosen in
      let steps : outcome_at v.configuration c.0 ≡ Steps D label = ap (step_by v.configuration) c.2 ∙ free.steps in
      subst (IsCovered s has.0 v c.0) steps (w.expanded has.0 v has.1 c.0 c.1);
}

pub lists_traps : (p : Process) (s : Search) → IsWhole p s → ListsTraps (vertices s.found.items) s.traps.items
lists_traps p s w number v e there at is traps = subst (IsCovered s number v there) traps (w.expanded number v e there is)
