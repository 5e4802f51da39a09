-- The laws of networks.
use Rattle.std.specs.Prelude.{ℕ, ◌≡◌, ◌≢◌, ◌↔◌, List, [], ◌∷◌, length, Some, option_map, slice_get}
use Rattle.std.specs.List.{AllByRecursion}
use Rattle.rand_pcg.specs.Lcg.{Lcg}
use Rattle.pict_core.specs.Term.{Process}
use Rattle.pict_core.specs.Closed.{IsClosed}
use Rattle.pict_core.specs.Configuration.{Entry, IsConfiguration, opening}
use Rattle.pict_core.specs.Step.{Label, StepOutcome, Steps, Traps, Wrong, Finished, least, is_partner, Choice, IsChoice, free_step, next}
use Rattle.pict_core.specs.Run as core
use Rattle.pict_core.specs.Run.{End, Runs}
use Rattle.pict_core.specs.Places.{Place}
use Rattle.pict_core.specs.FreeRun.{FreelyRuns}
use Rattle.pict_reduction.specs.Reached.{NoFreeRunIsWrong}
use Rattle.pict_network.specs.Network.{Item, Network, opening_network, union}
use Rattle.pict_network.specs.Events.{Happening, Moved, Stepped, Stopped, Misshapen, NoEvent, Event, events, act_at, happening}
use Rattle.pict_network.specs.Invariant.{ItemsRise, IsNetwork}
use Rattle.pict_network.specs.Runs.{NetworkRuns, SeedRuns, next_happening}

-- The union of a network is a configuration.
abbrev pub UnionsAreConfigurations : Type 0
UnionsAreConfigurations = (N : Network) → IsNetwork N → IsConfiguration (union N)

-- A network opens as one, whose union is the opening configuration.
abbrev pub OpeningsAreNetworks : Type 0
OpeningsAreNetworks =
    (others : ℕ) (p : Process) → IsClosed p
    → IsNetwork (opening_network others p) × (union (opening_network others p) ≡ opening p)

-- What moves leaves the union as it is.
abbrev pub MovesKeepUnions : Type 0
MovesKeepUnions = (N M : Network) (event : Event) → IsNetwork N → happening N event ≡ Moved M → union M ≡ union N

-- this process and the least of its partners in the union
abbrev pub least_choice : Network → Item → Choice
least_choice N x =
    record {
      acting = x.stamp;
      partner = option_map (λ (u : Entry). u.stamp) (least (is_partner x.process) (union N).entries);
    }

-- what happens is this outcome of the union; nothing is said of what moves
abbrev pub Agrees : StepOutcome → Happening → Type 0
Agrees outcome (Moved M) = Unit {0}
Agrees outcome (Stepped M label) = outcome ≡ Steps (union M) label
Agrees outcome (Stopped at) = outcome ≡ Traps at
Agrees outcome Misshapen = outcome ≡ Wrong
Agrees outcome NoEvent = ⊥

-- What acts is a choice of the union with its least partner, and what it does there is the free step of that choice: label
-- and trap included, and wrong exactly where that is. Where it moves to a home nothing is said.
abbrev pub ActsAreFree : Type 0
ActsAreFree =
    (N : Network) (s : ℕ) (x : Item) (rest : List Item) → IsNetwork N → slice_get N.sites s ≡ Some (x ∷ rest)
    → IsChoice (union N) (least_choice N x) × Agrees (free_step (union N) (least_choice N x)) (act_at N s)

abbrev pub IsNetworkAfter : Happening → Type 0
IsNetworkAfter (Moved M) = IsNetwork M
IsNetworkAfter (Stepped M label) = IsNetwork M
IsNetworkAfter (Stopped at) = Unit {0}
IsNetworkAfter Misshapen = Unit {0}
IsNetworkAfter NoEvent = Unit {0}

-- Events keep what holds of networks.
abbrev pub EventsKeepNetworks : Type 0
EventsKeepNetworks = (N : Network) (event : Event) → IsNetwork N → IsNetworkAfter (happening N event)

-- each of these is of a process with its least partner, if it has one
abbrev pub MeetLeast : List Place → Type 0
MeetLeast places = AllByRecursion (λ (place : Place). place.partner ≡ 0) places

-- The steps of a run of a network, in any order of events, are a free run of the process, with the same labels, to the
-- union of the last network.
abbrev pub RunsAreFree : Type 0
RunsAreFree =
    (others : ℕ) (p : Process) (events : List Event) (steps : ℕ) (labels : List (ℕ × Label)) (M : Network) → IsClosed p
    → NetworkRuns (opening_network others p) events steps labels M
    → (places : List Place) × (length places ≡ steps) × MeetLeast places × FreelyRuns (opening p) places labels (union M)

-- Where no free run of a process is wrong no event is, in any order of events.
abbrev pub NoEventIsWrong : Type 0
NoEventIsWrong =
    (others : ℕ) (p : Process) (events : List Event) (steps : ℕ) (labels : List (ℕ × Label)) (M : Network) (event : Event)
    → IsClosed p → NoFreeRunIsWrong p → NetworkRuns (opening_network others p) events steps labels M
    → happening M event ≢ Misshapen

-- The run that a seed chooses is a run of the network, of as many events.
abbrev pub SeedsRunNetworks : Type 0
SeedsRunNetworks =
    (others : ℕ) (p : Process) (seed fuel : ℕ) (end : End) (labels : List (ℕ × Label))
    (r : SeedRuns others p seed fuel end labels)
    → (events : List Event) × (length events ≡ r.count) × NetworkRuns (opening_network others p) events r.steps labels r.last

-- Nothing happens next exactly where no event is possible.
abbrev pub NextIsPossible : Type 0
NextIsPossible = (N : Network) (g : Lcg) → next_happening N g ≡ NoEvent ↔ events N ≡ []

-- What a seed chooses is one run: it has one end, one list of labels, one number of events and of steps, and one last
-- network.
abbrev pub SeedRunsAreOne : Type 0
SeedRunsAreOne =
    (others : ℕ) (p : Process) (seed fuel : ℕ) (end other : End) (labels shown : List (ℕ × Label))
    (r : SeedRuns others p seed fuel end labels) (s : SeedRuns others p seed fuel other shown)
    → (end ≡ other) × (labels ≡ shown) × (r.count ≡ s.count) × (r.steps ≡ s.steps) × (r.last ≡ s.last)

-- Where no free run of a process is wrong each seed chooses a run, and that doesn't end by a wrong step.
abbrev pub SeedsChooseRuns : Type 0
SeedsChooseRuns =
    (others : ℕ) (p : Process) (seed fuel : ℕ) → IsClosed p → NoFreeRunIsWrong p
    → (end : End) × (labels : List (ℕ × Label)) × SeedRuns others p seed fuel end labels × (end ≢ core.Misshapen)

-- ---- one site

-- one site, on which nothing is under way, and which acts by rising stamps
pub record IsAlone (N : Network) : Type 0 where
  pub items : List Item
  pub sites : N.sites ≡ items ∷ []
  pub packets : N.packets ≡ []
  pub rise : ItemsRise items

-- what happens is the oldest-first step of the union, and the site stays alone; nothing moves
abbrev pub GoesNext : Network → Happening → Type 0
GoesNext N (Moved M) = ⊥
GoesNext N (Stepped M label) = (next (union N) ≡ Steps (union M) label) × IsAlone M
GoesNext N (Stopped at) = next (union N) ≡ Traps at
GoesNext N Misshapen = next (union N) ≡ Wrong
GoesNext N NoEvent = next (union N) ≡ Finished

-- The act of one site is the oldest-first step.
abbrev pub OneSiteIsOldestFirst : Type 0
OneSiteIsOldestFirst = (N : Network) → IsNetwork N → IsAlone N → GoesNext N (act_at N 0)

-- On one site each seed runs the oldest-first run: the same end and labels, each event is a step, and the union of the last
-- network is the last configuration.
abbrev pub OneSiteRunsOldestFirst : Type 0
OneSiteRunsOldestFirst =
    (p : Process) (seed fuel : ℕ) (end : End) (labels : List (ℕ × Label)) (r : SeedRuns 0 p seed fuel end labels)
    → IsClosed p → (q : Runs p fuel end labels) × (q.steps ≡ r.count) × (q.steps ≡ r.steps) × (q.last ≡ union r.last)
