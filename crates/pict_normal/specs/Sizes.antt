-- How great a written type is.
use Rattle.std.specs.Prelude.{ℕ, suc, ◌+◌}
use Rattle.pict_syntax.specs.Trees.{TypeTree, top_type, int_type, char_type, string_type, bool_type, use_type, both_type, read_type, write_type, respond_type, fields_type, apply_type, rec_type, TypeBinder, type_binder, Bound, unbounded, bound, TypeTrees, no_types, more_types, TypeBinders, no_binders, more_binders, LabelledTypes, no_labelled_types, more_labelled_types}

-- how many nodes and type binders a written type has
abbrev mutual
  pub nodes : TypeTree → ℕ
  nodes (top_type s) = 1
  nodes (int_type s) = 1
  nodes (char_type s) = 1
  nodes (string_type s) = 1
  nodes (bool_type s) = 1
  nodes (use_type s n) = 1
  nodes (both_type s t) = suc (nodes t)
  nodes (read_type s t) = suc (nodes t)
  nodes (write_type s t) = suc (nodes t)
  nodes (respond_type s t) = suc (nodes t)
  nodes (fields_type s bs ts ls) = suc (nodes_of_binders bs + nodes_of_types ts + nodes_of_labels ls)
  nodes (apply_type s id ts) = suc (nodes_of_types ts)
  nodes (rec_type s id t) = suc (nodes t)

  pub nodes_of_types : TypeTrees → ℕ
  nodes_of_types no_types = 0
  nodes_of_types (more_types ts t) = nodes_of_types ts + nodes t

  pub nodes_of_labels : LabelledTypes → ℕ
  nodes_of_labels no_labelled_types = 0
  nodes_of_labels (more_labelled_types ls id t) = nodes_of_labels ls + nodes t

  pub nodes_of_binders : TypeBinders → ℕ
  nodes_of_binders no_binders = 0
  nodes_of_binders (more_binders bs b) = nodes_of_binders bs + nodes_of_binder b

  pub nodes_of_binder : TypeBinder → ℕ
  nodes_of_binder (type_binder s id k b) = suc (nodes_of_bound b)

  pub nodes_of_bound : Bound → ℕ
  nodes_of_bound unbounded = 0
  nodes_of_bound (bound t) = nodes t
