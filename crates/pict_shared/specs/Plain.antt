-- What processes that are shared stand for.
use Rattle.std.specs.Prelude.{if◌then◌else◌}
use Rattle.pict_core.specs.Plain.{plain_core}
use Rattle.pict_core.specs.Configuration.{Ready, Parked, Entry}
use Rattle.pict_shared.specs.declared.held.Held.{Held}

abbrev pub plain_held : Held → Entry
plain_held h = record { stamp = h.stamp; mark = if h.ready then Ready else Parked; process = plain_core h.process.value.core }
