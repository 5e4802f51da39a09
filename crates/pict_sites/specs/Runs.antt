-- Runs of networks of queues, whose events a generator chooses, and what a watcher sees of them.
use Rattle.std.specs.Prelude.{◌≡◌, ◌≢◌, ◌≤◌, ◌<◌, ◌+◌, ◌⊎◌, ℕ, List, [], ◌∷◌}
use Rattle.rand_pcg.specs.Lcg.{Lcg}
use Rattle.pict_core.specs.Run.{End, shown}
use Rattle.pict_core.specs.Step.{Label}
use Rattle.pict_heap.specs.HeapState.{HeapState}
use Rattle.pict_network.specs.Network.{Network}
use Rattle.pict_network.specs.Events.{Moved, Stepped, Stopped, Misshapen, NoEvent}
use Rattle.pict_network.specs.Runs.{Chooses, EndsAfter, choice, next_happening}
use Rattle.pict_sites.specs.declared.running.Gone.{Gone}
use Rattle.pict_sites.specs.declared.running.Gone.TheVariants as gone
use Rattle.pict_sites.specs.declared.running.Went.{Went}
use Rattle.pict_sites.specs.declared.happened.Events.{Events}
use Rattle.pict_sites.specs.Happening.{IsNext}

-- So many events that the generator g chooses, and so many steps among them, lead from N to a network that passes the test, and what
-- was seen fits their labels. The generator is h then.
pub record ComesTo (Stands : Network → Type 0) (N : Network) (g : Lcg) (count steps : ℕ) (h : Lcg) (Seen : List (ℕ × Label) → Type 0) : Type 0 where
  pub labels : List (ℕ × Label)
  pub last : Network
  pub chooses : Chooses N g count steps labels last h
  pub stands : Stands last
  pub seen : Seen labels

-- The run from N that the generator g chooses has this end with this fuel.
pub record RanOn (Stands : Network → Type 0) (N : Network) (g : Lcg) (fuel : ℕ) (end : End) (Seen : List (ℕ × Label) → Type 0) : Type 0 where
  pub count : ℕ
  pub steps : ℕ
  pub after : Lcg
  pub comes : ComesTo Stands N g count steps after Seen
  pub ends : EndsAfter fuel count (next_happening comes.last after) end

-- It broke off after some of its events.
pub record BrokeOffOn (Stands : Network → Type 0) (N : Network) (g : Lcg) (fuel : ℕ) (Seen : List (ℕ × Label) → Type 0) : Type 0 where
  pub count : ℕ
  pub steps : ℕ
  pub after : Lcg
  pub few : count ≤ fuel
  pub comes : ComesTo Stands N g count steps after Seen

-- no event that the generator g chooses from N on is wrong
abbrev pub IsRightFrom : Network → Lcg → Type 0
IsRightFrom N g = (count steps : ℕ) (labels : List (ℕ × Label)) (M : Network) (h : Lcg) → Chooses N g count steps labels M h → next_happening M h ≢ Misshapen

-- So many steps that show nothing, which the generator g chooses, lead from N to this network, and to this generator.
pub record GoesQuietly (N : Network) (g : Lcg) (quiet : ℕ) : Type 0 where
  pub network : Network
  pub generator : Lcg
  pub chooses : Chooses N g quiet quiet [] network generator

-- What the answer says of the next events of a seed's run of N, from one generator to the next: steps that show nothing, and what
-- comes after them.
abbrev pub AreNext : HeapState → (Network → Type 0) → Network → Lcg → Lcg → Events → Type 0
AreNext heap Stands N g h next = (q : GoesQuietly N g next.quiet) × IsNext heap Stands q.network q.generator h next.last

-- What the next event came to, after so many steps, from one generator to the next.
abbrev pub IsGone : (Network → Type 0) → Network → Lcg → Lcg → ℕ → (List (ℕ × Label) → Type 0) → Gone → Type 0
IsGone Stands N g h steps Seen gone.Done = (next_happening N g ≡ NoEvent) × Stands N × Seen []
IsGone Stands N g h steps Seen gone.Moved = (M : Network) × (next_happening N g ≡ Moved M) × Stands M × (h ≡ (choice N g).1) × Seen []
IsGone Stands N g h steps Seen gone.Stepped =
    (M : Network) × (label : Label) × (next_happening N g ≡ Stepped M label) × Stands M × (h ≡ (choice N g).1) × Seen (shown (steps + 1) label)
IsGone Stands N g h steps Seen (gone.Trapped at) = (next_happening N g ≡ Stopped at) × Stands N × Seen []

-- The event was refused, or it was a step, whose showing was refused.
abbrev pub IsBrokenOff : (Network → Type 0) → Network → Lcg → Lcg → ℕ → (List (ℕ × Label) → Type 0) → (ℕ → Label → Type 0) → Type 0
IsBrokenOff Stands N g h steps Seen Torn =
    (Stands N × Seen [])
    ⊎ ((M : Network) × (label : Label) × (next_happening N g ≡ Stepped M label) × Stands M × (h ≡ (choice N g).1)
    × (shown (steps + 1) label ≡ (steps + 1, label) ∷ []) × Torn (steps + 1) label)

-- What the next events came to: steps that show nothing, and the event after them.
abbrev pub AreGone : (Network → Type 0) → Network → Lcg → Lcg → ℕ → (List (ℕ × Label) → Type 0) → Went → Type 0
AreGone Stands N g h steps Seen went =
    (q : GoesQuietly N g went.quiet) × IsGone Stands q.network q.generator h (steps + went.quiet) Seen went.gone

-- Behind fewer than so many steps that show nothing the event was refused, or its showing.
abbrev pub AreBrokenOff : (Network → Type 0) → Network → Lcg → Lcg → ℕ → ℕ → (List (ℕ × Label) → Type 0) → (ℕ → Label → Type 0) → Type 0
AreBrokenOff Stands N g h steps most Seen Torn =
    (quiet : ℕ) × (quiet < most) × (q : GoesQuietly N g quiet) × IsBrokenOff Stands q.network q.generator h (steps + quiet) Seen Torn
