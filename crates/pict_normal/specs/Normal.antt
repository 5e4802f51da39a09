-- Normal forms of written types, and where a written type is refused.
use Rattle.std.specs.Prelude.{ℕ, suc, nat_eq, nat_lt, if◌then◌else◌, ◌||◌, List, [], ◌∷◌, ◌++◌, length, Option, Some, None}
use Rattle.std.specs.Ordering.{is_lt}
use Rattle.pict_syntax.specs.declared.code.Code.{Code}
use Rattle.pict_syntax.specs.declared.code.Code.TheVariants.{K1, K2, K3, K4}
use Rattle.pict_syntax.specs.declared.span.Span.{Span}
use Rattle.pict_syntax.specs.declared.id.Id.{Id}
use Rattle.pict_syntax.specs.Trees.{KindTree, plain_kind, operator_kind, TypeTree, top_type, int_type, char_type, string_type, bool_type, use_type, both_type, read_type, write_type, respond_type, fields_type, apply_type, rec_type, TypeBinder, type_binder, Bound, unbounded, bound, TypeTrees, no_types, more_types, TypeBinders, no_binders, more_binders, LabelledTypes, no_labelled_types, more_labelled_types}
use Rattle.pict_types.specs.Types.{is_top, Both, Read, Write, Respond, PlainType, Top, Int, Char, Str, Boolean, Var, Chan, Fields, Rec, PlainTypes, no_type, types, PlainLabels, no_label, labels, PlainBound, Free, Below, Operator, PlainBounds, no_bound, bounds, Plain, Op}
use Rattle.pict_types.specs.Renaming.{rename}
use Rattle.pict_types.specs.Replacing.{bound_by, Head, variable, operator, nothing, apply_head, rename_head}
use Rattle.pict_types.specs.Measures.{weight_of, height_of}
use Rattle.pict_syntax.specs.Labels.{label_cmp}
use Rattle.pict_syntax.specs.declared.limits.TheConstants.{HEIGHT_LIMIT, WEIGHT_LIMIT}
use Rattle.pict_types.specs.Entries.{PlainWhat, Variable, Definition, PlainEntry, PlainContext, variables}
use Rattle.pict_syntax.specs.Grammar.{type_span}
use Rattle.pict_syntax.specs.Stops.{Stop}

-- what the name of a type means: a type, or an operator of so many parameters
pub data Meaning : Type 0 where
  a_type : PlainType → Meaning
  an_operator : ℕ → Head → Meaning

abbrev pub of_bound : PlainBound → Meaning
of_bound Free = a_type (Var 0)
of_bound (Below t) = a_type (Var 0)
of_bound (Operator ms) = an_operator (length ms) (variable 0)

abbrev pub of_entry : PlainWhat → Meaning
of_entry (Variable b) = of_bound b
of_entry (Definition (Plain t)) = a_type t
of_entry (Definition (Op n t)) = an_operator n (operator n t)

-- the same behind one more variable
abbrev pub one_further : Meaning → Meaning
one_further (a_type t) = a_type (rename suc t)
one_further (an_operator n h) = an_operator n (rename_head suc h)

abbrev pub behind_entry : PlainWhat → Option Meaning → Option Meaning
behind_entry w None = None
behind_entry (Variable b) (Some m) = Some (one_further m)
behind_entry (Definition a) (Some m) = Some m

-- the innermost entry of a name counts
abbrev pub meaning : PlainContext → ℕ → Option Meaning
meaning [] n = None
meaning (e ∷ c) n = if nat_eq e.name n then Some (of_entry e.what) else behind_entry e.what (meaning c n)

-- Top is in the place of what has no meaning as a type
abbrev pub meant_type : Option Meaning → PlainType
meant_type None = Top
meant_type (Some (a_type t)) = t
meant_type (Some (an_operator n h)) = Top

abbrev pub meant_head : Option Meaning → Head
meant_head None = nothing
meant_head (Some (a_type t)) = nothing
meant_head (Some (an_operator n h)) = h

-- one more at the end
abbrev pub and_type : PlainTypes → PlainType → PlainTypes
and_type no_type u = types u no_type
and_type (types t ts) u = types t (and_type ts u)

abbrev pub and_bound : PlainBounds → PlainBound → PlainBounds
and_bound no_bound d = bounds d no_bound
and_bound (bounds b bs) d = bounds b (and_bound bs d)

-- one more labelled field, before the first whose label comes after it
abbrev pub with_labelled_type : List (List ℕ) → ℕ → PlainType → PlainLabels → PlainLabels
with_labelled_type ns l u no_label = labels l u no_label
with_labelled_type ns l u (labels m t ls) = if is_lt (label_cmp ns l m) then labels l u (labels m t ls) else labels m t (with_labelled_type ns l u ls)

-- what is known of a type binder with this kind and this bound: an operator has no bound
abbrev pub kind_bound : Option KindTree → PlainBound → PlainBound
kind_bound None b = b
kind_bound (Some plain_kind) b = b
kind_bound (Some (operator_kind ms)) b = Operator ms

abbrev pub entry_of : Id → PlainBound → PlainEntry
entry_of id b = record { name = id.name.0; what = Variable b }

abbrev mutual
  -- definitions are replaced by their bodies, and operators are applied
  pub normal : List (List ℕ) → PlainContext → TypeTree → PlainType
  normal ns c (top_type s) = Top
  normal ns c (int_type s) = Int
  normal ns c (char_type s) = Char
  normal ns c (string_type s) = Str
  normal ns c (bool_type s) = Boolean
  normal ns c (use_type s n) = meant_type (meaning c n.0)
  normal ns c (both_type s t) = Chan Both (normal ns c t)
  normal ns c (read_type s t) = Chan Read (normal ns c t)
  normal ns c (write_type s t) = Chan Write (normal ns c t)
  normal ns c (respond_type s t) = Chan Respond (normal ns c t)
  normal ns c (fields_type s bs ts ls) =
      Fields (normal_binders ns c bs) (normal_types ns (under_binders ns c bs) ts) (normal_labels ns (under_binders ns c bs) ls)
  normal ns c (apply_type s id ts) = apply_head (meant_head (meaning c id.name.0)) (normal_types ns c ts)
  normal ns c (rec_type s id t) = Rec (normal ns (entry_of id Free ∷ c) t)

  pub normal_types : List (List ℕ) → PlainContext → TypeTrees → PlainTypes
  normal_types ns c no_types = no_type
  normal_types ns c (more_types ts t) = and_type (normal_types ns c ts) (normal ns c t)

  pub normal_labels : List (List ℕ) → PlainContext → LabelledTypes → PlainLabels
  normal_labels ns c no_labelled_types = no_label
  normal_labels ns c (more_labelled_types ls id t) = with_labelled_type ns id.name.0 (normal ns c t) (normal_labels ns c ls)

  -- each type binder is written under those before it
  pub normal_binders : List (List ℕ) → PlainContext → TypeBinders → PlainBounds
  normal_binders ns c no_binders = no_bound
  normal_binders ns c (more_binders bs b) = and_bound (normal_binders ns c bs) (normal_binder ns (under_binders ns c bs) b)

  pub under_binders : List (List ℕ) → PlainContext → TypeBinders → PlainContext
  under_binders ns c no_binders = c
  under_binders ns c (more_binders bs b) = with_binder ns (under_binders ns c bs) b

  pub with_binder : List (List ℕ) → PlainContext → TypeBinder → PlainContext
  with_binder ns c (type_binder s id k b) = entry_of id (kind_bound k (normal_bound ns c b)) ∷ c

  pub normal_binder : List (List ℕ) → PlainContext → TypeBinder → PlainBound
  normal_binder ns c (type_binder s id k b) = kind_bound k (normal_bound ns c b)

  -- a bound Top is no bound
  pub normal_bound : List (List ℕ) → PlainContext → Bound → PlainBound
  normal_bound ns c unbounded = Free
  normal_bound ns c (bound t) = bound_by (normal ns c t)

abbrev pub count_trees : TypeTrees → ℕ
count_trees no_types = 0
count_trees (more_types ts t) = suc (count_trees ts)

-- a bare operator where a type stands
abbrev pub use_stops : Span → Option Meaning → List Stop
use_stops s None = []
use_stops s (Some (a_type t)) = []
use_stops s (Some (an_operator n h)) = (K2, s) ∷ []

-- a type that is applied, or an operator with another number of arguments than it has
abbrev pub apply_stops : Span → Option Meaning → ℕ → List Stop
apply_stops s None k = []
apply_stops s (Some (a_type t)) k = (K1, s) ∷ []
apply_stops s (Some (an_operator n h)) k = if nat_eq n k then [] else (K1, s) ∷ []

-- an operator variable with a bound, whose own refusals are given, and its normal form: one that expands to Top is none
abbrev pub bound_stops : Id → Option KindTree → List Stop → PlainType → List Stop
bound_stops id None stops t = stops
bound_stops id (Some plain_kind) stops t = stops
bound_stops id (Some (operator_kind ms)) [] t = if is_top t then [] else (K3, id.span) ∷ []
bound_stops id (Some (operator_kind ms)) (x ∷ stops) t = (K3, id.span) ∷ x ∷ stops

abbrev mutual
  -- where the rules of kinds fail in a written type, in reading order
  pub kind_stops : List (List ℕ) → PlainContext → TypeTree → List Stop
  kind_stops ns c (top_type s) = []
  kind_stops ns c (int_type s) = []
  kind_stops ns c (char_type s) = []
  kind_stops ns c (string_type s) = []
  kind_stops ns c (bool_type s) = []
  kind_stops ns c (use_type s n) = use_stops s (meaning c n.0)
  kind_stops ns c (both_type s t) = kind_stops ns c t
  kind_stops ns c (read_type s t) = kind_stops ns c t
  kind_stops ns c (write_type s t) = kind_stops ns c t
  kind_stops ns c (respond_type s t) = kind_stops ns c t
  kind_stops ns c (fields_type s bs ts ls) =
      binders_stops ns c bs ++ types_stops ns (under_binders ns c bs) ts ++ labels_stops ns (under_binders ns c bs) ls
  kind_stops ns c (apply_type s id ts) = apply_stops s (meaning c id.name.0) (count_trees ts) ++ types_stops ns c ts
  kind_stops ns c (rec_type s id t) = kind_stops ns (entry_of id Free ∷ c) t

  pub types_stops : List (List ℕ) → PlainContext → TypeTrees → List Stop
  types_stops ns c no_types = []
  types_stops ns c (more_types ts t) = types_stops ns c ts ++ kind_stops ns c t

  pub labels_stops : List (List ℕ) → PlainContext → LabelledTypes → List Stop
  labels_stops ns c no_labelled_types = []
  labels_stops ns c (more_labelled_types ls id t) = labels_stops ns c ls ++ kind_stops ns c t

  pub binders_stops : List (List ℕ) → PlainContext → TypeBinders → List Stop
  binders_stops ns c no_binders = []
  binders_stops ns c (more_binders bs b) = binders_stops ns c bs ++ binder_stops ns (under_binders ns c bs) b

  pub binder_stops : List (List ℕ) → PlainContext → TypeBinder → List Stop
  binder_stops ns c (type_binder s id k unbounded) = []
  binder_stops ns c (type_binder s id k (bound t)) = bound_stops id k (kind_stops ns c t) (normal ns c t)

-- a type past a limit is refused as a whole
abbrev pub size_stop : PlainContext → PlainType → Span → Option Stop
size_stop c t s = if nat_lt WEIGHT_LIMIT (weight_of (variables c) t) || nat_lt HEIGHT_LIMIT (height_of (variables c) t) then Some (K4, s) else None

-- the refusal of a written type: the first where a rule of kinds fails, else its size
abbrev pub first_or : List Stop → Option Stop → Option Stop
first_or [] o = o
first_or (x ∷ stops) o = Some x

abbrev pub kind_stop : List (List ℕ) → PlainContext → TypeTree → Option Stop
kind_stop ns c t = first_or (kind_stops ns c t) (size_stop c (normal ns c t) (type_span t))
