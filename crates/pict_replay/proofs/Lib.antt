-- Labels are the same or not.
mod Deciding
-- What agrees is replayed to its end, and has no fault; what has a fault has one.
pub mod Replaying
-- Where no free run is wrong, choices and lines agree or have a fault.
pub mod Verdicts
-- Lines of choices, read from their texts: each in one way.
mod OneReading
-- A text is a file in one way, or is none at one place.
pub mod Filing
-- What is written of a run that a seed picks is a file of it alone.
pub mod Written
-- Which values words stand for that are neither texts nor records.
mod Simple
-- The fields of a record are those of another, seen one after the other.
mod FieldByField
-- A replay, from choice to choice, where a view stands for the configuration.
mod Onward
-- The least numbers of lines, from the last line on.
mod LeastOnes
-- Plain values of the forms of values, and what tests say.
mod Plainly
-- Each text is lines of choices, or has a first line that is none.
mod SomeReading
-- What a picker's step says of a choice.
mod Taking
-- A replay, by how many choices are done and how many lines are used.
mod Rounds
-- The same lines by other names, which have a number for each label that stands in them.
mod Renaming
-- Names that have each short text.
mod Covering
-- Looking for values, and for lines, among finitely many.
mod Searching
-- The parts of a written value are no longer than the value; so it is one of finitely many.
mod Sizes
-- Whether a line is one that is read.
mod Readables
-- A text begins with a line of some names, or with none whatever the names.
mod SomeLines
-- Each text is a file or none, by names that hang on the text.
pub mod SomeFile
