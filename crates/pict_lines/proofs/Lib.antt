-- Rules by their lines: what a call on a part answers, and how the rule goes on then.
pub mod Ends
-- The steps of the checker, by what the calls below answer.
pub mod Stepping
-- Lists that the rules go through: a list with one more is judged by the list and then by the one.
pub mod Rows
-- The type of the answer of a function: where a record has it, and where it is written.
pub mod Answering
-- The plain trees of abstractions, form by form.
pub mod AbstractionForms
-- Fields with type arguments put in: they are fit as the record's own fields are with the arguments found.
pub mod Written
-- What is found for type fields, as the code keeps it and as the rules see it.
pub mod Finding
-- What may be applied, by the last positional field of its record.
pub mod HeadForms
-- An application to two values, by what its fields and its end answer.
pub mod Applying
-- From the right: each step out of a nested application. The outermost is that to the first value.
pub mod Rights
-- From the left: each step into a nested application. The outermost is that to the last value.
pub mod Lefts
-- The head of applications to two values: where it is no operator, all of them are refused alike.
pub mod Heads
-- What is asked of the parts of an application to two values is well asked, where the application is.
pub mod AppliedAsked
-- What is asked in nested applications is well asked, where it is of the whole; and what is answered there is well formed.
pub mod NestedAsked
-- What is well formed in nested applications: the operator, what is found, and what is wanted.
pub mod NestedFormed
-- Coming out of a nested application from the right: what its steps may be asked.
pub mod NestedLevels
-- Frames and values of the code, as the rules see them.
pub mod Frames
-- The steps of nested applications, by what the steps of fields answer.
pub mod NestedSteps
-- Into the applications of a form from the left.
pub mod Beginning
-- Out of the applications of a form from the right.
pub mod Leaving
-- Type fields that aren't found yet, as the code marks them.
pub mod Marks
-- Types with what is found put in for the type fields, as the code forms them.
pub mod PutIn
-- Arguments below the bounds of their type fields, one after the other; and the ends of fields and of applications.
pub mod WithinBounds
-- Written type arguments, one after the other.
pub mod Arguments
-- The labels that are written, and those of a record type among them.
pub mod Labels
-- The counts of fields, one lemma for each way that they end.
pub mod CountEnds
-- As many type fields after matching as before it.
pub mod AnswerFound
-- Environments that are as before, that grew, and that are cut back; and what is answered in them.
pub mod Kept
-- What is known after calls that leave it as it was, and calls that make more known.
pub mod Grown
-- Complete patterns, one lemma for each way that a body ends.
pub mod CompleteEnds
-- Declarations of channels and types, one lemma for each way that a body ends.
pub mod TypeEnds
-- The signatures of a `def`, one lemma for each way that a body ends.
pub mod SignatureEnds
-- The operators of forms from the right and from the left are well formed, and so are their fields.
pub mod FormedOperators
-- What channels carry, one lemma for each way that a body ends.
pub mod MessageEnds
