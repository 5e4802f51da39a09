-- Complete patterns.
use Rattle.std.specs.Prelude.{ℕ, Bool, true, false, ◌&&◌, not, is_some, List, [], ◌∷◌, Some, None}
use Rattle.pict_syntax.specs.Trees.{TypeBinder, type_binder, Bound, unbounded, bound, TypeBinders, no_binders, more_binders, Pat, bind_pat, any_pat, fields_pat, fold_pat, FieldPats, field_pats, Pats, no_pats, more_pats, LabelledPats, no_labelled_pats, more_labelled_pats}
use Rattle.pict_syntax.specs.Stops.{Stop}
use Rattle.pict_types.specs.Types.{PlainType, is_top}
use Rattle.pict_types.specs.Entries.{PlainContext}
use Rattle.pict_normal.specs.Normal.{kind_stops, normal}
use Rattle.pict_normal.specs.BinderEntries.{entries_under}

-- Top, of a written type in which no rule of kinds fails
abbrev pub is_top_without : List Stop → PlainType → Bool
is_top_without [] t = is_top t
is_top_without (s ∷ stops) t = false

-- a bound that expands to Top is none
abbrev pub is_bounded : List (List ℕ) → PlainContext → Bound → Bool
is_bounded ns c unbounded = false
is_bounded ns c (bound t) = not (is_top_without (kind_stops ns c t) (normal ns c t))

abbrev pub has_kind_or_bound : List (List ℕ) → PlainContext → TypeBinder → Bool
has_kind_or_bound ns c (type_binder s x None b) = is_bounded ns c b
has_kind_or_bound ns c (type_binder s x (Some k) b) = true

-- type binders are entered by their names and kinds alone: what a name means hangs on no bound
abbrev pub are_bounded : List (List ℕ) → PlainContext → TypeBinders → Bool
are_bounded ns c no_binders = true
are_bounded ns c (more_binders bs b) = are_bounded ns c bs && has_kind_or_bound ns (entries_under c bs) b

abbrev mutual
  -- every variable, wildcard and fold is annotated, and every type binder has a kind or a bound
  pub is_complete : List (List ℕ) → PlainContext → Pat → Bool
  is_complete ns c (bind_pat s x r) = is_some r
  is_complete ns c (any_pat s r) = is_some r
  is_complete ns c (fields_pat s f) = are_fields_complete ns c f
  is_complete ns c (fold_pat s r p) = is_some r && is_complete ns c p

  pub are_fields_complete : List (List ℕ) → PlainContext → FieldPats → Bool
  are_fields_complete ns c (field_pats bs ps ls) =
      are_bounded ns c bs && (are_complete ns (entries_under c bs) ps && are_labels_complete ns (entries_under c bs) ls)

  pub are_complete : List (List ℕ) → PlainContext → Pats → Bool
  are_complete ns c no_pats = true
  are_complete ns c (more_pats ps p) = are_complete ns c ps && is_complete ns c p

  pub are_labels_complete : List (List ℕ) → PlainContext → LabelledPats → Bool
  are_labels_complete ns c no_labelled_pats = true
  are_labels_complete ns c (more_labelled_pats ls l p) = are_labels_complete ns c ls && is_complete ns c p
