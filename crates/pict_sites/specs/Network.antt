-- What a network of queues stands for, and what it keeps from call to call.
use Rattle.std.specs.Prelude.{◌≢◌, ◌<◌, ℕ, length}
use Rattle.pict_core.specs.Term.{Process}
use Rattle.pict_code.specs.Plain.{plain_code}
use Rattle.pict_code.specs.ReadBack.{core_of}
use Rattle.pict_heap.specs.HeapState.{HeapState}
use Rattle.pict_desk.specs.Code.{IsCode}
use Rattle.pict_desk.specs.Constants.{AreConstants}
use Rattle.pict_network.specs.Network as plain
use Rattle.pict_network.specs.Events.{Misshapen, events, happening_at}
use Rattle.pict_sites.specs.Views.{heap_in, count_channels, StandFor, AreSites}
use Rattle.pict_sites.specs.declared.network.Network.{Network}

-- the process whose code the network has
abbrev pub core_in : Network → Process
core_in n = core_of (plain_code n.code)

-- the texts and records of a network, which all sites share
abbrev pub heap_of : Network → HeapState
heap_of n = heap_in n.sites

-- how many channels are made: each has a home
abbrev pub channels_of : Network → ℕ
channels_of n = count_channels n.sites

-- the network of queues stands for this network of lists
abbrev pub StandsForNetwork : Network → plain.Network → Type 0
StandsForNetwork n N = StandFor (core_in n) n.sites N

-- What holds of a network between two calls. Its code is that of a closed process, and its sites are of this code. Of each output
-- the word is there that is made once.
pub record IsNetworkStore (n : Network) : Type 0 where
  pub code : IsCode (plain_code n.code)
  pub constants : AreConstants (heap_of n) (plain_code n.code) n.constants.items
  pub sites : AreSites (core_in n) n.sites

-- Some network that it stands for has an event at this place, from 0, and not a wrong one.
pub record IsRightAt (n : Network) (i : ℕ) : Type 0 where
  pub network : plain.Network
  pub stands : StandsForNetwork n network
  pub possible : i < length (events network)
  pub right : happening_at network i ≢ Misshapen
