-- The variables at a place within a type, the names of its context, and types that are written there.
use Rattle.std.specs.Prelude.{ℕ, ◌+◌, List, ◌∷◌}
use Rattle.pict_types.specs.Types.{PlainType, PlainTypes, PlainLabels, Free, TypeContext, under}
use Rattle.pict_types.specs.Kinds.{ContextIsWellFormed, IsWellFormed, AreWellFormed, LabelsAreWellFormed, kinds}
use Rattle.pict_types.specs.Plain.{plain_bounds}
use Rattle.pict_types.specs.PlainContext.{type_context, names_of}
use Rattle.pict_sub.specs.declared.scope.TypeScope.{TypeScope}
use Rattle.pict_sub.specs.declared.scope.TypeScope.TheVariants.{Outer, Inner', Recursive'}
use Rattle.pict_types.specs.Measures.{weigh_labels, weigh_types, weight_of, weights}

-- what is known of the type variables, the innermost first
abbrev pub scope_context : TypeScope → TypeContext
scope_context (Outer c) = type_context c.now
scope_context (Inner' bs p outer) = under (scope_context outer) (plain_bounds bs.now)
scope_context (Recursive' p outer) = Free ∷ scope_context outer

abbrev pub scope_names : TypeScope → List (List ℕ)
scope_names (Outer c) = names_of c.now
scope_names (Inner' bs p outer) = scope_names outer
scope_names (Recursive' p outer) = scope_names outer

-- the bounds of the variables are well formed
abbrev pub ScopeIsWellFormed : TypeScope → Type 0
ScopeIsWellFormed s = ContextIsWellFormed (scope_names s) (scope_context s)

-- a type is well formed in the variables of the scope; so with types in a row, and with labelled ones
abbrev pub IsWrittenAt : TypeScope → PlainType → Type 0
IsWrittenAt s t = IsWellFormed (scope_names s) (kinds (scope_context s)) t

abbrev pub AreWrittenAt : TypeScope → PlainTypes → Type 0
AreWrittenAt s ts = AreWellFormed (scope_names s) (kinds (scope_context s)) ts

abbrev pub LabelsAreWrittenAt : TypeScope → PlainLabels → Type 0
LabelsAreWrittenAt s ls = LabelsAreWellFormed (scope_names s) (kinds (scope_context s)) ls

-- the weights of two types together; so of two rows of types, and of labelled ones
abbrev pub weights_of : TypeScope → PlainType → PlainType → ℕ
weights_of s t u = weight_of (scope_context s) t + weight_of (scope_context s) u

abbrev pub weights_of_types : TypeScope → PlainTypes → PlainTypes → ℕ
weights_of_types s ts us = weigh_types (weights (scope_context s)) ts + weigh_types (weights (scope_context s)) us

abbrev pub weights_of_labels : TypeScope → PlainLabels → PlainLabels → ℕ
weights_of_labels s ls ms = weigh_labels (weights (scope_context s)) ls + weigh_labels (weights (scope_context s)) ms
