-- A site as the view of a machine: what is ready there, and what is parked at its own channels.
use Rattle.std.specs.Prelude.{ℕ, ◌≡◌, nat_eq, List, [], ◌∷◌, map, Some, slice_get, if◌then◌else◌}
use Rattle.pict_core.specs.Term.{Process, Par, New}
use Rattle.pict_view.specs.View.{View}
use Rattle.pict_view.specs.Moved as view
use Rattle.pict_view.specs.Placed.{next_view}
use Rattle.pict_network.specs.Network.{Item, Home, Network}
use Rattle.pict_network.specs.Invariant.{IsNetwork}
use Rattle.pict_network.specs.Laws.{IsAlone}
use Rattle.pict_network.specs.Events.{Happening, Moved, Stepped, Stopped, Misshapen, NoEvent, items_at, processes_of, act_at}

-- what is parked at a channel of this site; nothing of one of another site
abbrev pub list_for : ℕ → Home → List Process
list_for s h = if nat_eq h.site s then processes_of h.parked else []

abbrev pub view_at : ℕ → Network → View
view_at s N = record { ready = processes_of (items_at s N); channels = map (list_for s) N.channels }

-- what happens at the site is the oldest-first step of its view; nothing is said of what moves
abbrev pub IsViewed : ℕ → Network → Happening → Type 0
IsViewed s N (Moved M) = Unit {0}
IsViewed s N (Stepped M label) = next_view (view_at s N) ≡ view.Moves (view_at s M) label
IsViewed s N (Stopped at) = next_view (view_at s N) ≡ view.Stops at
IsViewed s N Misshapen = next_view (view_at s N) ≡ view.Misshapen
IsViewed s N NoEvent = next_view (view_at s N) ≡ view.Over

abbrev pub IsNoFork : Process → Type 0
IsNoFork (Par p q) = ⊥
IsNoFork _ = Unit {0}

-- a process that opens no channel
abbrev pub IsNoOpening : Process → Type 0
IsNoOpening (New p) = ⊥
IsNoOpening _ = Unit {0}

-- The act of a process that forks nothing is a step of the site's view.
abbrev pub ActsAreViewed : Type 0
ActsAreViewed =
    (N : Network) (s : ℕ) (x : Item) (rest : List Item) → slice_get N.sites s ≡ Some (x ∷ rest) → IsNoFork x.process
    → IsViewed s N (act_at N s)

-- What happens is a step of the machine's view, and nothing moves.
abbrev pub IsMachineStep : Network → Happening → Type 0
IsMachineStep N (Moved M) = ⊥
IsMachineStep N (Stepped M label) = next_view (view_at 0 N) ≡ view.Moves (view_at 0 M) label
IsMachineStep N (Stopped at) = next_view (view_at 0 N) ≡ view.Stops at
IsMachineStep N Misshapen = next_view (view_at 0 N) ≡ view.Misshapen
IsMachineStep N NoEvent = next_view (view_at 0 N) ≡ view.Over

-- A network of one site steps as a machine.
abbrev pub OneSiteIsTheMachine : Type 0
OneSiteIsTheMachine = (N : Network) → IsNetwork N → IsAlone N → IsMachineStep N (act_at N 0)
