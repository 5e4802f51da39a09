-- A word is read back from its pair, and pairs of words among the words of levels.
pub mod Pairs
-- What kind of value two words are, by the first of them.
pub mod Tagged
-- Values bound part by part.
pub mod SoFar
-- Patterns that fit a record: its fields are there, and fit.
pub mod Fitting
-- Words of operands, made one after another.
pub mod Making
-- A record of the words that lie on both piles.
pub mod Recording
-- The values of a frame, read out of a record field by field.
pub mod Reading
-- The loops that bind the fields of a record: one field more, and all of them.
pub mod Loops
-- The values of a heap's words have no variable, and what is put for variables leaves them.
pub mod Variables
-- What a step puts for variables, put in at once with the values around.
pub mod Putting
-- What a node with values for its frame stands for, and what its parts stand for after its step: one lemma an instruction.
pub mod Parts
-- From a node of a code to the part that it is of, and from its instruction to the form of the part.
pub mod Nodes
-- An operand with the values of all levels is the operand with those of the levels around it.
pub mod OperandsAround
-- The levels that the pattern of a node binds are the next ones, and the values that it binds stand there.
pub mod BoundLevels
-- No part of a process has more variables around it than the levels that its code binds.
pub mod Counting
-- Words that are made once: which operands have them, and that they stay.
pub mod MadeOnce
-- Room that is made, and what stays meanwhile.
pub mod MakingRoom
-- Words that are numbers, and how many fields a primitive takes.
pub mod Hand
-- Arguments as operands: what stays of them, their labels, and room for a call.
pub mod Reckoning
-- What a primitive answers of two numbers at hand.
pub mod Numbers
-- Nodes of a code: their frames, and where the parts of a node stand.
pub mod Numbered
