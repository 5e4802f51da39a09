-- Runs of networks: events in any order, and as a seed chooses them.
use Rattle.std.specs.Prelude.{ℕ, ◌≡◌, ◌≢◌, ◌≤◌, ◌<◌, ◌+◌, List, [], ◌∷◌, ◌++◌, length}
use Rattle.rand_pcg.specs.Lcg.{Lcg}
use Rattle.pict_core.specs.Term.{Process}
use Rattle.pict_core.specs.Step.{Label}
use Rattle.pict_core.specs.Run as core
use Rattle.pict_core.specs.Run.{End, Done, FuelSpent, Trap, shown}
use Rattle.pict_seed.specs.Stream.{generator, chosen}
use Rattle.pict_network.specs.Network.{Network, opening_network}
use Rattle.pict_network.specs.Events.{Happening, Moved, Stepped, Stopped, Misshapen, NoEvent, Event, events, happening, happening_at}

-- From N on these events happen, one after another. The number and the list after them are of the steps among them: how
-- many, and what they show, with the number of each step. The last is the network afterwards.
pub data NetworkRuns (N : Network) : List Event → ℕ → List (ℕ × Label) → Network → Type 0 where
  at_start : NetworkRuns N [] 0 [] N
  by_move : {before : List Event} {steps : ℕ} {labels : List (ℕ × Label)} {M K : Network} (event : Event)
      → NetworkRuns N before steps labels M → happening M event ≡ Moved K
      → NetworkRuns N (before ++ event ∷ []) steps labels K
  by_step : {before : List Event} {steps : ℕ} {labels : List (ℕ × Label)} {M K : Network} {label : Label} (event : Event)
      → NetworkRuns N before steps labels M → happening M event ≡ Stepped K label
      → NetworkRuns N (before ++ event ∷ []) (steps + 1) (labels ++ shown (steps + 1) label) K

-- ---- by a seed

-- which of the possible events the generator chooses: the first where there is one; and the generator afterwards
abbrev pub choice : Network → Lcg → ℕ × Lcg
choice N g = chosen (length (events N)) g

-- what happens then
abbrev pub next_happening : Network → Lcg → Happening
next_happening N g = happening_at N (choice N g).0

-- From N on so many events that the generator g chooses, one after another. What stands after the number of events is that
-- of the steps, what they show, the network afterwards, and the generator.
pub data Chooses (N : Network) (g : Lcg) : ℕ → ℕ → List (ℕ × Label) → Network → Lcg → Type 0 where
  at_start : Chooses N g 0 0 [] N g
  by_move : {count steps : ℕ} {labels : List (ℕ × Label)} {M K : Network} {h : Lcg}
      → Chooses N g count steps labels M h → next_happening M h ≡ Moved K
      → Chooses N g (count + 1) steps labels K (choice M h).1
  by_step : {count steps : ℕ} {labels : List (ℕ × Label)} {M K : Network} {h : Lcg} {label : Label}
      → Chooses N g count steps labels M h → next_happening M h ≡ Stepped K label
      → Chooses N g (count + 1) (steps + 1) (labels ++ shown (steps + 1) label) K (choice M h).1

-- how a run with this fuel ends after so many events, by what would happen next
abbrev pub EndsAfter : ℕ → ℕ → Happening → End → Type 0
EndsAfter fuel count next Done = (count ≤ fuel) × (next ≡ NoEvent)
EndsAfter fuel count next FuelSpent = (count ≡ fuel) × (next ≢ NoEvent)
EndsAfter fuel count next (Trap at) = (count < fuel) × (next ≡ Stopped at)
EndsAfter fuel count next core.Misshapen = (count < fuel) × (next ≡ Misshapen)

-- The run of a process, ready at site 0 of so many others, by this seed: it has this end with this fuel, and these labels.
pub record SeedRuns (others : ℕ) (p : Process) (seed fuel : ℕ) (end : End) (labels : List (ℕ × Label)) : Type 0 where
  pub count : ℕ
  pub steps : ℕ
  pub last : Network
  pub after : Lcg
  pub chooses : Chooses (opening_network others p) (generator seed) count steps labels last after
  pub ends : EndsAfter fuel count (next_happening last after) end
