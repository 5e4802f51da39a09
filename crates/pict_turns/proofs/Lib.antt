-- Views of stores: what stays where the heap grows and where other queues stay.
pub mod Views
-- Who has the turn: its words, the block that they would make, and the view.
pub mod Turns
-- Blocks that are freed, made and pushed.
pub mod Placing
-- Steps of blocks are steps of the store that holds them.
pub mod Rows
-- A part gets the turn, or becomes the last of the ready ones: what the store is then.
pub mod Handing
-- What is spare, and isn't thrown away.
pub mod Spare
-- Room that is made, and what stays meanwhile.
pub mod Room
-- The node that acts: its frame, and where its parts stand.
pub mod Numbered
-- Frames that are read out of blocks.
pub mod Held
-- The steps of nodes that need no partner, from what becomes of their parts.
pub mod Steps
-- What stays while blocks are read.
pub mod AfterReading
-- The turn is taken from a block, and set down.
pub mod Taking
-- How many blocks several steps make together.
pub mod Making
-- How much several steps add to the heap together.
pub mod Adding
-- The block of a node: whose it is, and how wide.
pub mod Wide
-- A step is one still where queues worked, or room was made, before.
pub mod Passing
-- From what the step of who has the turn does to what the machine stands for.
pub mod Given
-- The rows of the table of steps cost at most what the sizes of their instructions allow.
pub mod Costing
-- What the parts of a step cost.
pub mod Working
-- Which blocks a step needs, from the clauses of what it does.
pub mod Needing
-- What a step needs of the heap, from the clauses of what it does.
pub mod Growing
-- A message and an input that isn't replicated meet, and no memory is taken: which instructions do, and for how long.
pub mod InPlace
-- What is known of an output that has the turn, of a node or of kept values: its two words, and what it is sent to.
pub mod Outputs
-- The steps of nodes that need no partner: the clauses of a step, from what each of them does.
mod Whole
