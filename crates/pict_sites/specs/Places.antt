-- Possible events, by what stands in the queues.
use Rattle.std.specs.Prelude.{◌≡◌, ◌≢◌, ◌<◌, [], Some, length, slice_get}
use Rattle.pict_queue.specs.QueuesState.{QueuesState}
use Rattle.pict_queue.specs.Contents.{contents}
use Rattle.pict_network.specs.Events.{Event, Act, Delivery}
use Rattle.pict_sites.specs.declared.places.Place.{Place}
use Rattle.pict_sites.specs.declared.places.Place.TheVariants as place
use Rattle.pict_sites.specs.declared.sites.Sites.{Sites}

abbrev pub event_of : Place → Event
event_of (place.Act s) = Act s
event_of (place.Delivery j) = Delivery j

-- the site has a ready process; the packet is there
abbrev pub IsThere : Sites → Place → Type 0
IsThere n (place.Act s) = (s < length n.queues.items) × ((q : QueuesState) → slice_get n.queues.items s ≡ Some q → contents q 0 ≢ [])
IsThere n (place.Delivery j) = j < length n.to.items
