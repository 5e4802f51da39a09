-- Erasing keeps what holds of types, and changes places with renaming and with putting arguments in.
pub mod Erased
-- Values keep their types where the world grows: more type variables, which are renumbered, and more variables.
pub mod Growing
-- A package with all its arguments at once is a package with one argument after the other.
pub mod Packing
-- A type with ! in place of each / goes with its variables as the type does.
pub mod ErasedGoes
-- What holds of all that the rules reach from a program, from one step for each judgement: in a step the results of what
pub mod Reaching
-- Two patterns side by side: each is written in what stands around both; the second one's variables are put inside the
pub mod Joining
-- What a pattern opens embeds the type variables before it.
pub mod Opened
-- What patterns side by side add stands in one context, in whichever order they were opened.
pub mod Placed
-- The fields of a record pattern, opened one after the other: what each adds stands in the last context.
pub mod FieldsOpen
-- A record pattern under the type fields of its record.
pub mod Packages
-- Labelled items in the order of their labels.
pub mod Ordered
-- What the rules reach is rightly asked, and what they give is well formed.
pub mod Rightly
-- What the rules find for the fields of a pattern, and what follows for record patterns and for the fields of a function.
pub mod PatternParts
-- The steps of patterns: what each judgement on a pattern adds is what is opened.
pub mod PatternSteps
-- Worlds with further variables, and values on their way into a process.
pub mod Standing
-- Where no rule of scopes fails, a pattern binds each name once, in whichever order its names are taken.
pub mod NamesOnce
-- The names of a pattern, bound to the variables from a level on.
pub mod Binding
-- What is realised in a world: meanings of types, in longer worlds, after a pattern and after a name.
pub mod Realised
-- Several values on their way: positional ones and labelled ones, into a record.
pub mod SentLists
-- What is found for type fields stays: so a type that mentions nothing missing has one meaning from then on.
pub mod FoundStays
-- The meanings of arguments: each may stand for its type field where the rules found it within the field's bound.
pub mod Meant
-- Records of values on their way: of the types that their values have, and of record types with fewer labels.
pub mod Records
-- What holds of the core of all that the rules judge.
pub mod Judged
-- Values that are sent whole, uses, and values of a type below another one.
pub mod Whole
-- Values, form by form: what the parts give carries over to the whole.
pub mod ValueForms
-- Records and applications: the record of the values has the type of a package, once the arguments are put in.
pub mod FieldForms
-- The steps of values: what the rules find of a value holds of what sends it.
pub mod ValueSteps
-- The steps of fields and of applications.
pub mod FieldSteps
-- Patterns of readers: what stands after a pattern stands where the pattern is read.
pub mod ReadForms
-- Declarations, form by form: they stand around a rest that stands in what they leave.
pub mod DeclarationForms
-- The steps of abstractions and of the names of a `def`.
pub mod AbstractionSteps
-- The steps of declarations and of processes.
pub mod ProcessSteps
-- From source to core: all that the rules reach from a program holds of its core, and so the core is typed.
pub mod SourceToCore
