-- A step that changes who is ready, and the queue of one channel.
pub mod Changing
-- The input of a node: what it stands for, where its part stands, and the levels that its pattern binds.
pub mod Inputs
-- Outputs and inputs that wait: the lists of channels begin with what the first word says, and grow by one more.
pub mod Waits
-- A step that isn't wrong: its channel is there, and the pattern fits the message.
pub mod Fitting
-- What waits first: a message's words, or the node of an input.
pub mod Firsts
-- A pattern that is one variable binds the two words as they stand.
pub mod OneLevel
-- The fields of a record that isn't made are bound, each by the pattern at its place.
pub mod Fields
-- Who keeps the turn where the levels of its frame keep their words.
pub mod Keeping
-- Of the blocks that end one is as wide as another.
pub mod Wide
-- A part becomes the last of the ready ones.
pub mod Readying
-- What is sent stands for the same where the heap grows.
pub mod Sents
-- The steps of outputs and inputs that meet.
pub mod Meets
-- What is known of an input that acts: its part, its pattern, the message that it takes, and who has the turn then.
pub mod Receipts
-- What is known of an input that is to serve a message: its part, its pattern, and that the pattern fits.
pub mod Serving
-- The instruction of a node, as it is written, that is an input.
pub mod Ops
-- An input is one still where queues worked, or room was made, before; and instructions that are no inputs.
pub mod Passing
-- What is known of who has the turn and acts at a channel, where the step isn't wrong.
pub mod AtChannels
-- An output of kept values that has the turn, on a channel.
pub mod KeptOutputs
-- Outputs that have the turn, while queues work, room is made, and the heap grows.
pub mod Growing
-- What the steps of inputs and outputs cost that meet a partner.
pub mod Working
-- Which blocks the steps of inputs and outputs need at a channel, from the clauses of what they do.
pub mod Needing
-- What the steps of inputs and outputs need of the heap at a channel, from the clauses of what they do.
pub mod Adding
-- A message and an input that isn't replicated meet, and no memory is taken.
pub mod Plainly
-- Steps where communications may be passed over, and those that do what their events say.
pub mod PassedOver
