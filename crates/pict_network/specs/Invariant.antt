-- What holds of each network that events lead to.
use Rattle.std.specs.Prelude.{ℕ, ◌<◌, ◌≡◌, ◌⊎◌, nat_eq, true, false, List, [], ◌∷◌, length, Some, slice_get}
use Rattle.std.specs.List.{AllByRecursion}
use Rattle.pict_core.specs.Configuration.{Entry, AreClosed}
use Rattle.pict_core.specs.Step.{reads, sends}
use Rattle.pict_network.specs.Network.{Item, Packet, Home, Network, entries_of}

-- none of these has this stamp
abbrev pub Apart : ℕ → List Entry → Type 0
Apart t es = AllByRecursion (λ (e : Entry). nat_eq t e.stamp ≡ false) es

-- no two have one stamp
abbrev pub AreApart : List Entry → Type 0
AreApart [] = Unit {0}
AreApart (e ∷ es) = Apart e.stamp es × AreApart es

-- each has a stamp below this
abbrev pub Below : ℕ → List Entry → Type 0
Below n es = AllByRecursion (λ (e : Entry). e.stamp < n) es

-- the stamps rise
abbrev pub ItemsRise : List Item → Type 0
ItemsRise [] = Unit {0}
ItemsRise (x ∷ []) = Unit {0}
ItemsRise (x ∷ y ∷ xs) = (x.stamp < y.stamp) × ItemsRise (y ∷ xs)

-- each is an input at channel c, or each an output on it
abbrev pub ItemsRead : ℕ → List Item → Type 0
ItemsRead c items = AllByRecursion (λ (x : Item). reads c x.process ≡ true) items

abbrev pub ItemsSend : ℕ → List Item → Type 0
ItemsSend c items = AllByRecursion (λ (x : Item). sends c x.process ≡ true) items

-- what is parked at channel c: readers or messages, and never both, by rising stamps
pub record IsParked (c : ℕ) (h : Home) : Type 0 where
  pub one_kind : ItemsRead c h.parked ⊎ ItemsSend c h.parked
  pub rise : ItemsRise h.parked

pub record IsNetwork (N : Network) : Type 0 where
  -- each stamp stands in one place, and is below the next one
  pub apart : AreApart (entries_of N)
  pub below : Below N.next_stamp (entries_of N)
  -- each process is closed over the channels, and no label stands twice in a record
  pub closed : AreClosed (length N.channels) (entries_of N)
  -- homes and destinations are sites
  pub homes : (c : ℕ) (h : Home) → slice_get N.channels c ≡ Some h → (h.site < length N.sites) × IsParked c h
  pub destinations : AllByRecursion (λ (p : Packet). p.to < length N.sites) N.packets
