-- Rules that have an answer, line by line.
pub mod Answered
-- Every pattern has an answer.
pub mod PatternsAnswered
-- Every value, abstraction, declaration and process has an answer.
pub mod ValuesAnswered
-- Each judgement has an answer, whatever the environment.
pub mod EveryAnswered
-- A rule has at most one answer.
pub mod OneAnswer
-- Every program is typed or has exactly one refusal.
pub mod TypedOrStuck
-- What all judgements that a rule asks have, and all results that it gives, line by line.
pub mod Results
-- What patterns and `def`s bind, the last first.
pub mod BoundIds
-- What patterns and declarations bind, by the rules and by the scopes.
pub mod Names
-- What stands around a place is the same behind a phrase that binds nothing there.
pub mod Kept
-- Environments and what stands around: the same names before, and so after patterns and `def`s.
pub mod Opened
-- After declarations the environment has the names that stand around what comes after them.
pub mod Declared
-- Each judgement that a rule asks is of a part that the scopes read among the same names.
pub mod SameNamesAsked
-- Whatever the rules reach from a program, the scopes read among the same names.
pub mod ReachedNames
-- Each judgement that a rule asks is of a part without a label twice, where what the rule judges has none.
pub mod LabelledOnce
-- Regularity from one step for each judgement: no derivation need be taken apart.
pub mod Regularity
-- The environment with a record pattern's own binders has the context of the record's fields.
pub mod OwnBinders
-- What patterns side by side add leaves the environment regular.
pub mod RegularJoined
-- What is written in a regular environment, without a label twice and without a refusal, is well formed there.
pub mod RegularExpanded
-- Matching finds types that are well formed outside the type fields, for type fields of kind `Type` alone.
pub mod RegularMatched
-- Steps of regularity: processes, conditions and bodies.
pub mod RegularProcesses
-- Steps of regularity: values.
pub mod RegularValues
-- Steps of regularity: patterns, and declarations in order.
pub mod RegularPatterns
-- Steps of regularity: the fields of patterns, and declarations.
pub mod RegularFields
-- Steps of regularity: function abstractions and declarations.
pub mod RegularDeclarations
-- The step of regularity of an abstraction against a type.
pub mod RegularAbstractions
-- Steps of regularity: the values of a record's fields, with what is found.
pub mod RegularFound
-- Steps of regularity: type arguments, the fields rule and applications.
pub mod RegularArguments
-- Steps of regularity: labelled fields, whose labels are distinct.
pub mod RegularLabels
-- Regularity of all judgements, and of all that the rules reach from a program.
pub mod RegularAll
-- Marks are the same exactly where they compare so.
pub mod SameMarks
-- The worked texts, rule by rule.
pub mod Worked
