-- What the table of queues tells of one.
use Rattle.std.proofs.Common.{◌≡◌, ℕ, ◌<◌, List, length, get_or}
use Rattle.std.proofs.lemmas.List.{get_or_read}
use Rattle.pict_queue.specs.Ends.{queue_in}
use Rattle.pict_queue.specs.declared.ends.Queue.{Queue}

pub read_at : (queues : List Queue) (number : ℕ) (queue : Queue) → number < length queues → queue ≡ get_or queues number queue → queue ≡ queue_in queues number
read_at queues number queue inside read = get_or_read queues number queue inside read (record { first = 0; last = 0; length = 0 })
