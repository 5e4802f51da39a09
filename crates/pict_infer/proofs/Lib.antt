-- Types that are kept with the number of type variables around them.
pub mod Depths
-- Values and type variables of patterns side by side.
pub mod Beside
-- Environments that grow, and that are cut back.
pub mod Growing
-- Steps that form types: expansion, limits, subtypes and unfoldings.
pub mod Forming
-- Record types of positional fields.
pub mod RecordTypes
-- What is asked of a part is well asked, where the whole is.
pub mod Asked
-- Patterns use no value: the rules answer the same of them whatever values are known.
pub mod Unused
-- Rules that go on after a step, from the rule that ends with it.
pub mod Through
-- What each form of a pattern stands for, and lists of patterns.
pub mod Forms
-- The own type binders of a pattern or of a function: what is written, and what is opened.
pub mod BinderLines
-- Type binders that are opened one after the other.
pub mod OpenedBinders
-- The rules of patterns against a type, step by step.
pub mod PatternLines
-- What the rules of patterns against a type ask of their parts.
pub mod AskedParts
-- The calls on environments: what is judged without values, and what becomes known.
pub mod MadeKnown
-- What holds of a list of patterns from one of them on.
pub mod PatternPlaces
-- Type variables that are taken back, and what is left.
pub mod TakenBack
-- The type at a label, found among labels that stand in order.
pub mod LabelPlaces
-- The innermost entries, which are type variables, are taken out one after the other.
pub mod Taking
-- Errors that are handed on.
pub mod Handed
-- The own type variables of a record pattern are taken back.
pub mod Closed
-- The nearest value of a name, from the level that the table of names gives.
pub mod Uses
-- The rules of patterns that give their type, step by step.
pub mod GivingLines
-- What patterns that give their type ask of their parts is well asked.
pub mod GivingAsked
-- The calls on patterns that give: what is judged without values, and what becomes known.
pub mod MadeGiven
