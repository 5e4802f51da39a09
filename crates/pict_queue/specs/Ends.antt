-- The ends of queues, by their numbers.
use Rattle.std.specs.Prelude.{ℕ, ◌==◌, if◌then◌else◌, List, slice_index_or}
use Rattle.pict_queue.specs.declared.ends.Queue.{Queue}

abbrev pub queue_in : List Queue → ℕ → Queue
queue_in queues number = slice_index_or queues number (record { first = 0; last = 0; length = 0 })

-- the queue, or where it is empty, one whose ends are this block
abbrev pub ends_of : Queue → ℕ → Queue
ends_of queue block = if queue.length == 0 then record { first = block; last = block; length = 0 } else queue
