-- Bytes are read in one way.
pub mod Once
-- What dressed processes do.
pub mod Dressed
-- The steps of dressed configurations.
pub mod DressedSteps
-- A text that is in a list stands at its place.
pub mod Places
-- Whole objects.
pub mod Whole
-- Worked objects.
pub mod Rows
-- A process has one table of labels.
pub mod Tables
-- An object is of one process, but for its places, and a process has one object.
pub mod Objects
-- The bytes of a record, by those of its fields.
pub mod Sizes
-- A record's bytes are its tag, and its fields behind their counts; and what its fields need in order to be written.
pub mod Writing
-- Labels sorted by their texts, and each text once: they rise, and the same texts are among them.
pub mod Ordered
-- The places of labels: what is put at a number, and that the same places give the same bytes.
pub mod Placed
-- Where the object of a closed process is short enough, its counts have room; and its length doesn't depend on places.
pub mod Fitted
-- What is written is the object.
pub mod Encoded
-- What holds of each item of a list.
pub mod Lists
-- What stands at the front of bytes: numbers, bytes and texts that are read are those that were written, and what was written is
pub mod Fronts
-- What is read of values and patterns stands there, and meets the bounds of objects.
pub mod Found
-- What is read of processes stands there, and meets the bounds of objects.
pub mod Standing
-- What is written within the bounds of objects is read again, without places and with these labels.
pub mod Again
-- What is read of an object is its process, and where nothing is read there is no object.
pub mod Decoded
-- Parts that a loop reads one after the other.
pub mod Loops
-- Labels are numbered in turn, and used ones are marked.
pub mod Numbering
-- What is read behind a tag.
pub mod Forms
-- The labels at the head of an object are read back, and what is read there is its head.
pub mod TableLemmas
-- What decoding answers, by what its parts answer.
pub mod Answering
