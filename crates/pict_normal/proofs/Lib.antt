-- What the entries of a context stand for, entry by entry.
pub mod Meant
-- What is placed under binders is placed in its parts.
pub mod Placing
-- The body of an operator with its arguments measures what it does with their measures, and is the same where arguments
pub mod Applied
-- What is known of a type, a row and the arguments of an operator that were made.
pub mod Making
-- The type fields of a record that were made so far.
pub mod Bounding
-- The arguments of an operator that were made so far.
pub mod Arguing
-- An operator has as many parameters as it has arguments.
pub mod Operating
-- What is made of the parts of a type is what stands for the type.
pub mod Parts
-- A written type in which no rule of kinds fails: its normal form is what its names mean, put for its variables.
pub mod RawNormal
-- Lists of written types, of type binders and of labelled fields, item by item, with their refusals.
pub mod Trees
-- Raw forms and refusals of lists, one item more.
pub mod RawSteps
-- A written type in which no rule of kinds fails is well formed where every name is a variable of its kind.
pub mod RawFormed
-- Normal forms of written types: they are well formed, and within the limits or refused.
pub mod Expanded
-- Where a rule of kinds fails, and where none does.
pub mod Refused
-- Labelled fields in the order in which they are written, and then in that of their labels.
pub mod LabelOrder
-- Which types become Top.
pub mod BecomingTop
-- Normal forms and refusals of a written type depend on what the names mean alone.
pub mod SameMeanings
-- The measures of variables behind binders.
pub mod Behind
-- A definition that stands for a variable: its measures, and that it stays where it mentions no variable.
pub mod Defined
-- Type binders, and the entries behind them, by their places.
pub mod BinderPlaces
-- Operators by their bare names: what they mean, and that their bodies are well formed.
pub mod BareOperators
-- What is put for a parameter stands in the body where the parameter is used, and nowhere else.
pub mod Used
-- Marks of the parameters of an operator, one part of its body after another.
pub mod Marking
-- Normal forms and refusals at worked examples, each by computing.
mod Worked
-- The kinds under arguments are those under the type fields that they fit.
pub mod Instances
