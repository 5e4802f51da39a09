-- Networks of sites, and their unions.
use Rattle.std.specs.Prelude.{ℕ, zero, suc, nat_lt, List, [], ◌∷◌, ◌++◌, length, map, if◌then◌else◌}
use Rattle.std.specs.List.{flat_map}
use Rattle.pict_core.specs.Term.{Process}
use Rattle.pict_core.specs.Configuration.{Mark, Ready, Parked, Entry, Configuration}

-- a process at its stamp
pub record Item : Type 0 where
  pub stamp : ℕ
  pub process : Process

-- an item on its way to a site
pub record Packet : Type 0 where
  pub to : ℕ
  pub item : Item

-- a channel: the site where it was made, and what is parked at it, the oldest first
pub record Home : Type 0 where
  pub site : ℕ
  pub parked : List Item

-- what is ready at each site, in the order in which it acts; the packets, the oldest first; the channels; the next stamp
pub record Network : Type 0 where
  pub sites : List (List Item)
  pub packets : List Packet
  pub channels : List Home
  pub next_stamp : ℕ

abbrev pub idle : ℕ → List (List Item)
idle zero = []
idle (suc n) = [] ∷ idle n

-- a program's process, ready at site 0 with stamp 0, before any event; there are so many other sites
abbrev pub opening_network : ℕ → Process → Network
opening_network others p =
    record {
      sites = (record { stamp = 0; process = p } ∷ []) ∷ idle others;
      packets = [];
      channels = [];
      next_stamp = 1;
    }

-- ---- the union

abbrev pub entry : Mark → Item → Entry
entry mark x = record { stamp = x.stamp; mark = mark; process = x.process }

-- what is ready at the sites and under way, as ready; and what is parked at the channels, as parked
abbrev pub entries_of : Network → List Entry
entries_of N =
    flat_map (map (entry Ready)) N.sites
    ++ (map (λ (p : Packet). entry Ready p.item) N.packets
    ++ flat_map (λ (h : Home). map (entry Parked) h.parked) N.channels)

-- one entry more, before the first of a greater stamp
abbrev pub put : Entry → List Entry → List Entry
put e [] = e ∷ []
put e (f ∷ fs) = if nat_lt e.stamp f.stamp then e ∷ f ∷ fs else f ∷ put e fs

abbrev pub by_stamp : List Entry → List Entry
by_stamp [] = []
by_stamp (e ∷ es) = put e (by_stamp es)

-- all of the network as one configuration
abbrev pub union : Network → Configuration
union N = record { channels = length N.channels; next_stamp = N.next_stamp; entries = by_stamp (entries_of N) }
