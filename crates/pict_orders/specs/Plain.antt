-- What configurations that share their processes stand for.
use Rattle.std.specs.Prelude.{ℕ, List, map}
use Rattle.pict_core.specs.Configuration.{Entry, Configuration}
use Rattle.pict_core.specs.Places.{Place}
use Rattle.pict_shared.specs.Plain.{plain_held}
use Rattle.pict_orders.specs.declared.choice.Choice.{Choice}
use Rattle.pict_orders.specs.declared.state.State.{State}

abbrev pub entries_of : State → List Entry
entries_of s = map plain_held s.entries.items

abbrev pub configuration_of : State → Configuration
configuration_of s = record { channels = s.channels; next_stamp = s.next_stamp; entries = entries_of s }

-- the i-th ready process, with the j-th of its parked partners
abbrev pub place : ℕ → ℕ → Place
place i j = record { ready = i; partner = j }

abbrev pub place_of : Choice → Place
place_of c = place c.ready c.partner
