-- The names around a place in a written type: its binders, and then the entries of the context.
use Rattle.std.specs.Prelude.{List, ◌++◌, Some}
use Rattle.pict_normal.specs.declared.binders.Binders.{Binders}
use Rattle.pict_types.specs.declared.context.Context.{Context}
use Rattle.pict_syntax.specs.declared.id.Id.{Id}
use Rattle.pict_syntax.specs.declared.span.Span.{Span}
use Rattle.pict_syntax.specs.declared.type_tree.Mark.{Mark}
use Rattle.pict_syntax.specs.declared.type_tree.LabelledType.{LabelledType as RLabelledType}
use Rattle.pict_syntax.specs.declared.type_tree.TypeBinder.{TypeBinder as RTypeBinder}
use Rattle.pict_syntax.specs.declared.type_tree.TypeTree.{TypeTree as RTypeTree}
use Rattle.pict_syntax.specs.PlainTrees.{binders_on, labelled_types_on, types_on}
use Rattle.pict_syntax.specs.Trees.{operator_kind, TypeTree, fields_type, no_binders, no_labelled_types, no_types}
use Rattle.pict_syntax.specs.Stops.{Stop}
use Rattle.pict_types.specs.Entries.{PlainContext}
use Rattle.pict_normal.specs.BinderEntries.{entries_of}
use Rattle.pict_types.specs.PlainContext.{names_of, plain_context}
use Rattle.pict_normal.specs.Normal.{bound_stops, kind_stops, normal}

-- the binders as entries, the innermost first
abbrev pub scope_of : Binders → PlainContext
scope_of b = entries_of b.binders.items

abbrev pub around : Binders → Context → PlainContext
around b c = scope_of b ++ plain_context c

-- the tree of a record type, from its parts
abbrev pub record_tree : Span → List RTypeBinder → List RTypeTree → List RLabelledType → TypeTree
record_tree s bs ts ls = fields_type s (binders_on no_binders bs) (types_on no_types ts) (labelled_types_on no_labelled_types ls)

-- the refusals of a type binder that is an operator of arguments with these marks, with this bound
abbrev pub operator_stops : Id → List Mark → Binders → Context → TypeTree → List Stop
operator_stops id ms b c t = bound_stops id (Some (operator_kind ms)) (kind_stops (names_of c) (around b c) t) (normal (names_of c) (around b c) t)
