-- Type binders of a written type as entries of a context, without their bounds.
use Rattle.std.specs.Prelude.{ℕ, List, ◌∷◌, map, reverse, Option, option_map}
use Rattle.pict_syntax.specs.PlainTrees.{kind_of}
use Rattle.pict_syntax.specs.Trees.{KindTree, TypeBinder, type_binder, TypeBinders, no_binders, more_binders}
use Rattle.pict_normal.specs.declared.binders.Binder.{Binder}
use Rattle.pict_types.specs.Types.{Free}
use Rattle.pict_types.specs.Entries.{Variable, PlainEntry, PlainContext}
use Rattle.pict_normal.specs.Normal.{kind_bound}

abbrev pub bound_entry : ℕ → Option KindTree → PlainEntry
bound_entry n k = record { name = n; what = Variable (kind_bound k Free) }

-- binders, the innermost last
abbrev pub entries_of : List Binder → PlainContext
entries_of bs = reverse (map (λ b. bound_entry b.name.0 (option_map kind_of b.kind)) bs)

abbrev pub entry_of_binder : TypeBinder → PlainEntry
entry_of_binder (type_binder s id k b) = bound_entry id.name.0 k

-- under type binders
abbrev pub entries_under : PlainContext → TypeBinders → PlainContext
entries_under c no_binders = c
entries_under c (more_binders bs b) = entry_of_binder b ∷ entries_under c bs
