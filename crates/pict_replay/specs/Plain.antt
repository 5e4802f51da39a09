-- What choices of the code stand for.
use Rattle.pict_core.specs.Places.{Place}
use Rattle.pict_replay.specs.declared.choices.Choice.{Choice}

abbrev pub place_of : Choice → Place
place_of choice = record { ready = choice.ready; partner = choice.partner }
