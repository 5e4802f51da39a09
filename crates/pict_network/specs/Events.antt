-- Events of networks: a site acts, or a packet arrives. The step of a process is its deed; a network only places it.
use Rattle.std.specs.Prelude.{ℕ, ◌+◌, ◌%◌, nat_eq, Bool, true, false, List, [], ◌∷◌, ◌++◌, length, map, slice_get, slice_set, Option, Some, None, option_map, if◌then◌else◌}
use Rattle.pict_syntax.specs.declared.span.Span.{Span}
use Rattle.pict_core.specs.Term.{Val, Process, Chan, Out, In}
use Rattle.pict_core.specs.Step.{Label, Quiet, Comm}
use Rattle.pict_core.specs.Deed.{Deed, Ends, Keeps, Forks, Opens, Parks, Serves, Takes, Stops, Misfits, deed}
use Rattle.pict_view.specs.Placed.{without, partner_at}
use Rattle.pict_network.specs.Network.{Item, Packet, Home, Network}

-- What happens: a process moves, or one steps; or the step has a zero divisor at this place, or is wrong. Or there is no
-- such event.
pub data Happening : Type 0 where
  Moved : Network → Happening
  Stepped : Network → Label → Happening
  Stopped : Span → Happening
  Misshapen : Happening
  NoEvent : Happening

-- ---- where things are put

-- what is ready at site s from now on
abbrev pub at_site : ℕ → List Item → Network → Network
at_site s items N = record N { sites = slice_set N.sites s items }

abbrev pub items_in : Option (List Item) → List Item
items_in None = []
items_in (Some items) = items

abbrev pub items_at : ℕ → Network → List Item
items_at s N = items_in (slice_get N.sites s)

-- the item is the last at site s
abbrev pub behind : ℕ → Item → Network → Network
behind s x N = at_site s (items_at s N ++ x ∷ []) N

-- the item is on its way to a site
abbrev pub sent : ℕ → Item → Network → Network
sent to x N = record N { packets = N.packets ++ record { to = to; item = x } ∷ [] }

-- what is parked at channel c, whose home h is, from now on
abbrev pub parked_at : ℕ → Home → List Item → Network → Network
parked_at c h items N = record N { channels = slice_set N.channels c (record h { parked = items }) }

-- the process at the next stamp
abbrev pub fresh : Network → Process → Item
fresh N p = record { stamp = N.next_stamp; process = p }

abbrev pub stamped : Network → Network
stamped N = record N { next_stamp = N.next_stamp + 1 }

-- ---- the parts of a step at site s, where the rest is behind the one that acts

-- the process has the turn, at the stamp of the one that acts
abbrev pub turned : ℕ → Item → Process → List Item → Network → Network
turned s x p rest N = at_site s (record x { process = p } ∷ rest) N

-- a process more is ready, the last at site s
abbrev pub woken : ℕ → Process → Network → Network
woken s p N = stamped (behind s (fresh N p) N)

-- the right part of P | Q: on its way to the next site, or the last at the only one
abbrev pub forked : ℕ → Process → Network → Network
forked s q N =
    if nat_eq (length N.sites) 1 then woken s q N else stamped (sent ((s + 1) % length N.sites) (fresh N q) N)

-- a channel more, at home at site s
abbrev pub with_home : ℕ → Network → Network
with_home s N = record N { channels = N.channels ++ record { site = s; parked = [] } ∷ [] }

-- a process more is parked at channel c, behind these
abbrev pub parks : ℕ → Home → List Item → Process → Network → Network
parks c h items p N = stamped (parked_at c h (items ++ fresh N p ∷ []) N)

-- a plain reader that served ends; a replicated one is parked behind the others
abbrev pub served : Bool → ℕ → Home → List Item → Process → Network → Network
served true c h others reader N = parks c h others reader N
served false c h others reader N = parked_at c h others N

-- a plain reader that received ends; a replicated one keeps the turn
abbrev pub took : Bool → ℕ → List Item → Network → Network
took true s rest N = N
took false s rest N = at_site s rest N

abbrev pub at_channel : (Home → Happening) → Option Home → Happening
at_channel go None = Misshapen
at_channel go (Some h) = go h

-- the deed of x, the first at site s of the network N, before the rest there; its partner is the first at its channel
abbrev pub place : Network → ℕ → Item → List Item → Deed → Happening
place N s x rest (Ends label) = Stepped (at_site s rest N) label
place N s x rest (Keeps p label) = Stepped (turned s x p rest N) label
place N s x rest (Forks p q) = Stepped (forked s q (turned s x p rest N)) Quiet
place N s x rest (Opens p) = Stepped (with_home s (turned s x p rest N)) Quiet
place N s x rest (Parks c p) =
    at_channel (λ h. Stepped (parks c h h.parked p (at_site s rest N)) Quiet) (slice_get N.channels c)
place N s x rest (Serves c v replicated reader body) =
    at_channel
    (λ h. Stepped (served replicated c h (without 0 h.parked) reader (woken s body (at_site s rest N))) (Comm c v))
    (slice_get N.channels c)
place N s x rest (Takes c v replicated body) =
    at_channel
    (λ h. Stepped (woken s body (parked_at c h (without 0 h.parked) (took replicated s rest N))) (Comm c v))
    (slice_get N.channels c)
place N s x rest (Stops at) = Stopped at
place N s x rest Misfits = Misshapen

-- ---- acts

abbrev pub processes_of : List Item → List Process
processes_of items = map (λ (x : Item). x.process) items

-- what is parked at each channel
abbrev pub lists_of : Network → List (List Process)
lists_of N = map (λ (h : Home). processes_of h.parked) N.channels

-- what a process does, with the first of its partners
abbrev pub deed_in : Network → Process → Deed
deed_in N p = deed (length N.channels) (partner_at 0 (lists_of N) p) p

abbrev pub home_at : List Home → Val → Option ℕ
home_at homes (Chan c) = option_map (λ (h : Home). h.site) (slice_get homes c)
home_at homes _ = None

-- the home of the channel that an output or an input stands at
abbrev pub home_of : List Home → Process → Option ℕ
home_of homes (Out chan message at) = home_at homes chan
home_of homes (In chan replicated pattern body) = home_at homes chan
home_of homes _ = None

-- What stands at a channel with another home goes there. All else acts here, at site s.
abbrev pub goes_or_acts : ℕ → Item → Network → Happening → Option ℕ → Happening
goes_or_acts s x left act None = act
goes_or_acts s x left act (Some home) = if nat_eq home s then act else Moved (sent home x left)

abbrev pub act_of : Network → ℕ → Option (List Item) → Happening
act_of N s None = NoEvent
act_of N s (Some []) = NoEvent
act_of N s (Some (x ∷ rest)) =
    goes_or_acts s x (at_site s rest N) (place N s x rest (deed_in N x.process)) (home_of N.channels x.process)

-- the first at site s acts
abbrev pub act_at : Network → ℕ → Happening
act_at N s = act_of N s (slice_get N.sites s)

-- ---- deliveries

abbrev pub delivery_of : Network → ℕ → Option Packet → Happening
delivery_of N j None = NoEvent
delivery_of N j (Some p) = Moved (behind p.to p.item (record N { packets = without j N.packets }))

-- the j-th packet arrives
abbrev pub delivery_at : Network → ℕ → Happening
delivery_at N j = delivery_of N j (slice_get N.packets j)

-- ---- events

-- a site acts; a packet arrives, by its place from 0, the oldest first
pub data Event : Type 0 where
  Act : ℕ → Event
  Delivery : ℕ → Event

-- an act of each site where something is ready, by the numbers of the sites, from s on
abbrev pub acts_from : ℕ → List (List Item) → List Event
acts_from s [] = []
acts_from s ([] ∷ sites) = acts_from (s + 1) sites
acts_from s ((x ∷ rest) ∷ sites) = Act s ∷ acts_from (s + 1) sites

-- a delivery of each packet, from the j-th on
abbrev pub deliveries_from : ℕ → List Packet → List Event
deliveries_from j [] = []
deliveries_from j (p ∷ packets) = Delivery j ∷ deliveries_from (j + 1) packets

-- the events that are possible: acts, then deliveries
abbrev pub events : Network → List Event
events N = acts_from 0 N.sites ++ deliveries_from 0 N.packets

-- what happens by an event
abbrev pub happening : Network → Event → Happening
happening N (Act s) = act_at N s
happening N (Delivery j) = delivery_at N j

abbrev pub happening_of : Network → Option Event → Happening
happening_of N None = NoEvent
happening_of N (Some event) = happening N event

-- what happens by the i-th of the possible events
abbrev pub happening_at : Network → ℕ → Happening
happening_at N i = happening_of N (slice_get (events N) i)
