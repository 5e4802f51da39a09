-- Equations of three parts make one of the whole.
pub mod Congruent
-- Rows of types, labelled fields and type fields: what a Vec of them is as plain data, item by item.
pub mod Rows
-- The measure of a variable, read from the lists of its scope.
pub mod Around
-- Measures that are held at the greatest u64 on the way are those held at the end.
pub mod Held
-- One more entry in a context.
pub mod Entries
-- What the entries of a context measure, and which of them are closed.
pub mod EntryMeasures
-- Variables renumbered under binders.
pub mod Moving
-- Types renamed twice, types renamed to themselves, and the bounds of variables one further in.
pub mod Renamed
-- What the variables of a type become where types are put for the innermost ones.
pub mod Filled
-- The variables of a well formed type.
pub mod Reaching
-- Renumbering variables keeps measures.
pub mod Renumbered
-- Types filled with what measures alike, and is Top where the other is, measure alike.
pub mod MeasuredAlike
-- Putting types for variables alone is a replacement.
pub mod FilledReplaced
-- Renaming, filling and replacing keep types well formed.
pub mod Formed
-- No type weighs less than its size, and the variables of a well formed type are not past its weight.
pub mod Sizes
-- The measures of variables under binders.
pub mod Inside
-- Entries of a context by their places.
pub mod Places
-- How many variables stand among the entries of a context, from how many stand around each.
pub mod Counting
-- Filling and replacing after renaming, and renaming after filling and replacing.
pub mod Replaced
-- Types without a bound Top stay so, and filling and replacing nothing changes none of them.
pub mod Replacements
-- Fillings and replacements one after the other are one.
pub mod Composed
-- A type depends only on the variables that it mentions, and is well formed without those that it doesn't.
pub mod Mentioned
-- Variables among some, seen under binders.
pub mod Among
-- Rows are the same where they are as long and the same item by item.
pub mod Alike
-- What is known of the variables of a context: the bound of each, in the whole context too, and contexts under type fields.
pub mod Contexts
-- Items of rows: what each weighs, that it is well formed, the one that is read, and rows with one more.
pub mod Items
-- What stands for the variables of a type under binders, where types and operators are put for others.
pub mod Past
-- A part that passes a limit is not in a type within the limits.
pub mod Within
-- The definitions at worked examples, each by computing.
mod Worked
-- A parameter seen under type fields.
pub mod Bodies
-- Lists of marks, read from the front.
pub mod Marks
