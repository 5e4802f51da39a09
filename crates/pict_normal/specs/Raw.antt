-- A written type as a type in which every name is a variable.
use Rattle.std.specs.Prelude.{ℕ, List, ◌∷◌, Option, Some, None}
use Rattle.pict_syntax.specs.Trees.{TypeTree, top_type, int_type, char_type, string_type, bool_type, use_type, both_type, read_type, write_type, respond_type, fields_type, apply_type, rec_type, TypeBinder, type_binder, Bound, unbounded, bound, TypeTrees, no_types, more_types, TypeBinders, no_binders, more_binders, LabelledTypes, no_labelled_types, more_labelled_types}
use Rattle.pict_types.specs.Types.{Both, Read, Write, Respond, PlainType, Top, Int, Char, Str, Boolean, Var, Chan, Fields, Rec, PlainTypes, no_type, PlainLabels, no_label, PlainBound, Free, PlainBounds, no_bound, PlainArg}
use Rattle.pict_types.specs.Replacing.{bound_by, apply_variable}
use Rattle.pict_binders.specs.Names.{place_of}
use Rattle.pict_types.specs.Places.{IsWhatAt}
use Rattle.pict_types.specs.Entries.{Definition, PlainContext}
use Rattle.pict_normal.specs.Normal.{and_type, and_bound, with_labelled_type, kind_bound}

-- Top is in the place of what is not in scope
abbrev pub variable_at : Option ℕ → PlainType
variable_at None = Top
variable_at (Some i) = Var i

abbrev pub binder_name : TypeBinder → ℕ
binder_name (type_binder s id k b) = id.name.0

-- the names in scope under type binders, the innermost first
abbrev pub names_under : List ℕ → TypeBinders → List ℕ
names_under ms no_binders = ms
names_under ms (more_binders bs b) = binder_name b ∷ names_under ms bs

abbrev mutual
  -- each name is the variable of its place among the names in scope, the innermost first
  pub raw : List (List ℕ) → List ℕ → TypeTree → PlainType
  raw ns ms (top_type s) = Top
  raw ns ms (int_type s) = Int
  raw ns ms (char_type s) = Char
  raw ns ms (string_type s) = Str
  raw ns ms (bool_type s) = Boolean
  raw ns ms (use_type s n) = variable_at (place_of ms n.0)
  raw ns ms (both_type s t) = Chan Both (raw ns ms t)
  raw ns ms (read_type s t) = Chan Read (raw ns ms t)
  raw ns ms (write_type s t) = Chan Write (raw ns ms t)
  raw ns ms (respond_type s t) = Chan Respond (raw ns ms t)
  raw ns ms (fields_type s bs ts ls) =
      Fields (raw_binders ns ms bs) (raw_types ns (names_under ms bs) ts) (raw_labels ns (names_under ms bs) ls)
  raw ns ms (apply_type s id ts) = apply_variable (place_of ms id.name.0) (raw_types ns ms ts)
  raw ns ms (rec_type s id t) = Rec (raw ns (id.name.0 ∷ ms) t)

  pub raw_types : List (List ℕ) → List ℕ → TypeTrees → PlainTypes
  raw_types ns ms no_types = no_type
  raw_types ns ms (more_types ts t) = and_type (raw_types ns ms ts) (raw ns ms t)

  pub raw_labels : List (List ℕ) → List ℕ → LabelledTypes → PlainLabels
  raw_labels ns ms no_labelled_types = no_label
  raw_labels ns ms (more_labelled_types ls id t) = with_labelled_type ns id.name.0 (raw ns ms t) (raw_labels ns ms ls)

  pub raw_binders : List (List ℕ) → List ℕ → TypeBinders → PlainBounds
  raw_binders ns ms no_binders = no_bound
  raw_binders ns ms (more_binders bs b) = and_bound (raw_binders ns ms bs) (raw_binder ns (names_under ms bs) b)

  pub raw_binder : List (List ℕ) → List ℕ → TypeBinder → PlainBound
  raw_binder ns ms (type_binder s id k b) = kind_bound k (raw_bound ns ms b)

  pub raw_bound : List (List ℕ) → List ℕ → Bound → PlainBound
  raw_bound ns ms unbounded = Free
  raw_bound ns ms (bound t) = bound_by (raw ns ms t)

-- no definition is at this place
abbrev pub IsNoDefinition : PlainContext → ℕ → Type 0
IsNoDefinition c i = (a : PlainArg) → IsWhatAt c i (Definition a) → ⊥
