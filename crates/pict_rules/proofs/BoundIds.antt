-- What patterns and `def`s bind, the last first.
use Rattle.std.specs.Prelude.{List, [], ◌∷◌, ◌++◌}
use Rattle.pict_syntax.specs.declared.id.Id.{Id}
use Rattle.pict_syntax.specs.Trees.{type_binder, TypeBinders, no_binders, more_binders, Pat, bind_pat, any_pat, fields_pat, fold_pat, FieldPats, field_pats, Pats, no_pats, more_pats, LabelledPats, no_labelled_pats, more_labelled_pats, Definitions, no_definitions, more_definitions}

abbrev pub binder_ids : TypeBinders → List Id
binder_ids no_binders = []
binder_ids (more_binders bs (type_binder s x k b)) = x ∷ binder_ids bs

-- the values of a pattern
abbrev mutual
  pub value_ids : Pat → List Id
  value_ids (bind_pat s x r) = x ∷ []
  value_ids (any_pat s r) = []
  value_ids (fields_pat s f) = field_value_ids f
  value_ids (fold_pat s r p) = value_ids p

  pub field_value_ids : FieldPats → List Id
  field_value_ids (field_pats bs ps ls) = labelled_value_ids ls ++ pats_value_ids ps

  pub pats_value_ids : Pats → List Id
  pats_value_ids no_pats = []
  pats_value_ids (more_pats ps p) = value_ids p ++ pats_value_ids ps

  pub labelled_value_ids : LabelledPats → List Id
  labelled_value_ids no_labelled_pats = []
  labelled_value_ids (more_labelled_pats ls l p) = value_ids p ++ labelled_value_ids ls

-- and its types
abbrev mutual
  pub type_ids : Pat → List Id
  type_ids (bind_pat s x r) = []
  type_ids (any_pat s r) = []
  type_ids (fields_pat s f) = field_type_ids f
  type_ids (fold_pat s r p) = type_ids p

  pub field_type_ids : FieldPats → List Id
  field_type_ids (field_pats bs ps ls) = labelled_type_ids ls ++ (pats_type_ids ps ++ binder_ids bs)

  pub pats_type_ids : Pats → List Id
  pats_type_ids no_pats = []
  pats_type_ids (more_pats ps p) = type_ids p ++ pats_type_ids ps

  pub labelled_type_ids : LabelledPats → List Id
  labelled_type_ids no_labelled_pats = []
  labelled_type_ids (more_labelled_pats ls l p) = type_ids p ++ labelled_type_ids ls

abbrev pub definition_ids : Definitions → List Id
definition_ids no_definitions = []
definition_ids (more_definitions ds x a) = x ∷ definition_ids ds
