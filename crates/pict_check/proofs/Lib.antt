-- The lists that the rules go through: values, labelled values, and values that fit fields.
pub mod RowEnds
-- What values give and have, one lemma for each way that a body ends.
pub mod ValueEnds
-- What values have, one lemma for each way that a body ends.
pub mod HasEnds
-- Applications and fields, one lemma for each way that a body ends.
pub mod FieldEnds
-- Folds and blocks, one lemma for each way that a body ends.
pub mod ChannelEnds
-- Processes, one lemma for each way that a body ends.
pub mod ProcessEnds
-- Abstractions, one lemma for each way that a body ends.
pub mod AbstractionEnds
-- Declarations, one lemma for each way that a body ends.
pub mod DeclarationEnds
-- The definitions of a `def`, one lemma for each way that a body ends.
pub mod DefinitionEnds
-- The plain trees of values, channels, abstractions, declarations and processes, form by form.
pub mod Forms
-- The forms from the right and from the left stand for nested applications: what is asked of these, and what they answer.
pub mod NestedForms
-- Into the applications of a form from the right.
pub mod Entering
-- Out of the applications of a form from the left.
pub mod Finishing
-- Forms from the right and from the left, once their operators are known: the value that is looked at between the ways in and out.
pub mod WholeForms
-- Values that fit fields with written arguments put in fit the fields themselves, with the arguments found.
pub mod PutFields
-- Values and channels, from the parts that the code reads.
pub mod Read
-- Records without a type to go by, one lemma for each way that a body ends; and lists of labelled values.
pub mod RecordEnds
-- Uses, and applications with what is found before their fields.
pub mod ApplyEnds
-- The plain trees of declarations and processes, form by form, from the parts that the code reads.
pub mod DeclarationForms
-- Whole programs: before anything is declared all is regular, and a program in which no rule of scopes fails has no label
pub mod ProgramEnds
-- The fields of a record or an application: what their counts say, what is asked of their values, and the ends where type
pub mod FieldsAsked
-- Values that fit fields, one after another: what is asked of the next one, and the ends of a record's values.
pub mod FitEnds
-- From the left: each step out of a nested application. The outermost is that to the last value.
pub mod Outward
-- From the right: each step into a nested application. The outermost is that to the first value.
pub mod Inward
