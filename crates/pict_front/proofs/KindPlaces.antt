-- Where a written type is refused is one of its places, and nothing is said to be absent.
use Rattle.std.proofs.Common.{ℕ, Bool, true, false, if◌then◌else◌, nat_eq, nat_lt, ◌||◌, List, [], ◌∷◌, ◌++◌, Option, Some, None}
use Rattle.pict_syntax.specs.declared.code.Code.TheVariants.{K1, K3, K4}
use Rattle.pict_syntax.specs.declared.id.Id.{Id}
use Rattle.pict_syntax.specs.declared.span.Span.{Span}
use Rattle.pict_syntax.specs.Grammar.{type_span}
use Rattle.pict_syntax.specs.Trees.{KindTree, plain_kind, operator_kind, TypeTree, top_type, int_type, char_type, string_type, bool_type, use_type, both_type, read_type, write_type, respond_type, fields_type, apply_type, rec_type, TypeBinder, type_binder, Bound, unbounded, bound, TypeTrees, no_types, more_types, TypeBinders, no_binders, more_binders, LabelledTypes, no_labelled_types, more_labelled_types}
use Rattle.pict_syntax.specs.Stops.{Stop}
use Rattle.pict_types.specs.Types.{PlainType, is_top}
use Rattle.pict_types.specs.Measures.{weight_of, height_of}
use Rattle.pict_types.specs.Entries.{PlainContext, variables}
use Rattle.pict_normal.specs.Normal.{Meaning, a_type, an_operator, meaning, normal, under_binders, count_trees, entry_of, use_stops, apply_stops, bound_stops, kind_stops, types_stops, labels_stops, binders_stops, binder_stops, size_stop, first_or, kind_stop}
use Rattle.pict_types.specs.Types.{Free}
use Rattle.pict_normal.specs.WrittenArguments.{named, stop_meant, arg_stop}
use Rattle.pict_rules.specs.Shapes.{bound_size_stop, written_bound, binder_stop}
use Rattle.pict_front.proofs.Standing.{Line, TypeStands, TypesStand, LabelledTypesStand, BinderStands, BoundStands, BindersStand}

module _ (P : Span → Type 0) where
  abbrev StopsStand : List Stop → Type 0
  StopsStand [] = Unit {0}
  StopsStand (stop ∷ stops) = Line P stop × StopsStand stops

  abbrev pub StopStands : Option Stop → Type 0
  StopStands None = Unit {0}
  StopStands (Some stop) = Line P stop

  both : (xs ys : List Stop) → StopsStand xs → StopsStand ys → StopsStand (xs ++ ys)
  both [] ys h k = k
  both (x ∷ xs) ys h k = (h.0, both xs ys h.1 k)

  use_stands : (s : Span) (m : Option Meaning) → P s → StopsStand (use_stops s m)
  use_stands s None h = tt
  use_stands s (Some (a_type t)) h = tt
  use_stands s (Some (an_operator n o)) h = ((tt, h), tt)

  unless_equal : (s : Span) (b : Bool) (stop : Stop) → Line P stop → StopsStand (if b then [] else stop ∷ [])
  unless_equal s true stop h = tt
  unless_equal s false stop h = (h, tt)

  apply_stands : (s : Span) (m : Option Meaning) (k : ℕ) → P s → StopsStand (apply_stops s m k)
  apply_stands s None k h = tt
  apply_stands s (Some (a_type t)) k h = ((tt, h), tt)
  apply_stands s (Some (an_operator n o)) k h = unless_equal s (nat_eq n k) (K1, s) (tt, h)

  bound_stands : (x : Id) (k : Option KindTree) (stops : List Stop) (t : PlainType) → P x.span → StopsStand stops → StopsStand (bound_stops x k stops t)
  bound_stands x None stops t h all = all
  bound_stands x (Some plain_kind) stops t h all = all
  bound_stands x (Some (operator_kind ms)) [] t h all = unless_equal x.span (is_top t) (K3, x.span) (tt, h)
  bound_stands x (Some (operator_kind ms)) (stop ∷ stops) t h all = ((tt, h), all)

  mutual
    stops_stand : (ns : List (List ℕ)) (c : PlainContext) (t : TypeTree) → TypeStands P t → StopsStand (kind_stops ns c t)
    stops_stand ns c (top_type s) h = tt
    stops_stand ns c (int_type s) h = tt
    stops_stand ns c (char_type s) h = tt
    stops_stand ns c (string_type s) h = tt
    stops_stand ns c (bool_type s) h = tt
    stops_stand ns c (use_type s n) h = use_stands s (meaning c n.0) h
    stops_stand ns c (both_type s t) h = stops_stand ns c t h.1
    stops_stand ns c (read_type s t) h = stops_stand ns c t h.1
    stops_stand ns c (write_type s t) h = stops_stand ns c t h.1
    stops_stand ns c (respond_type s t) h = stops_stand ns c t h.1
    stops_stand ns c (fields_type s bs ts ls) h =
        both (binders_stops ns c bs ++ types_stops ns (under_binders ns c bs) ts) (labels_stops ns (under_binders ns c bs) ls)
        (both (binders_stops ns c bs) (types_stops ns (under_binders ns c bs) ts) (binders_stops_stand ns c bs h.1.0) (types_stops_stand ns (under_binders ns c bs) ts h.1.1.0))
        (labels_stops_stand ns (under_binders ns c bs) ls h.1.1.1)
    stops_stand ns c (apply_type s x ts) h = both (apply_stops s (meaning c x.name.0) (count_trees ts)) (types_stops ns c ts) (apply_stands s (meaning c x.name.0) (count_trees ts) h.0) (types_stops_stand ns c ts h.1.1)
    stops_stand ns c (rec_type s x t) h = stops_stand ns (entry_of x Free ∷ c) t h.1.1

    types_stops_stand : (ns : List (List ℕ)) (c : PlainContext) (ts : TypeTrees) → TypesStand P ts → StopsStand (types_stops ns c ts)
    types_stops_stand ns c no_types h = tt
    types_stops_stand ns c (more_types ts t) h = both (types_stops ns c ts) (kind_stops ns c t) (types_stops_stand ns c ts h.0) (stops_stand ns c t h.1)

    labels_stops_stand : (ns : List (List ℕ)) (c : PlainContext) (ls : LabelledTypes) → LabelledTypesStand P ls → StopsStand (labels_stops ns c ls)
    labels_stops_stand ns c no_labelled_types h = tt
    labels_stops_stand ns c (more_labelled_types ls l t) h = both (labels_stops ns c ls) (kind_stops ns c t) (labels_stops_stand ns c ls h.0) (stops_stand ns c t h.1.1)

    binders_stops_stand : (ns : List (List ℕ)) (c : PlainContext) (bs : TypeBinders) → BindersStand P bs → StopsStand (binders_stops ns c bs)
    binders_stops_stand ns c no_binders h = tt
    binders_stops_stand ns c (more_binders bs b) h = both (binders_stops ns c bs) (binder_stops ns (under_binders ns c bs) b) (binders_stops_stand ns c bs h.0) (binder_stops_stand ns (under_binders ns c bs) b h.1)

    binder_stops_stand : (ns : List (List ℕ)) (c : PlainContext) (b : TypeBinder) → BinderStands P b → StopsStand (binder_stops ns c b)
    binder_stops_stand ns c (type_binder s x k unbounded) h = tt
    binder_stops_stand ns c (type_binder s x k (bound t)) h = bound_stands x k (kind_stops ns c t) (normal ns c t) h.1.0 (stops_stand ns c t h.1.1)

  if_some : (b : Bool) (stop : Stop) → Line P stop → StopStands (if b then Some stop else None)
  if_some true stop h = h
  if_some false stop h = tt

  -- a type past a limit is refused where it is formed
  pub size_stands : (c : PlainContext) (t : PlainType) (s : Span) → P s → StopStands (size_stop c t s)
  size_stands c t s h = if_some (nat_lt 100000 (weight_of (variables c) t) || nat_lt 1000 (height_of (variables c) t)) (K4, s) (tt, h)

  first_stands : (stops : List Stop) (o : Option Stop) → StopsStand stops → StopStands o → StopStands (first_or stops o)
  first_stands [] o h k = k
  first_stands (stop ∷ stops) o h k = h.0

  -- ---- where a tree itself stands

  pub type_place : (t : TypeTree) → TypeStands P t → P (type_span t)
  type_place (top_type s) h = h
  type_place (int_type s) h = h
  type_place (char_type s) h = h
  type_place (string_type s) h = h
  type_place (bool_type s) h = h
  type_place (use_type s n) h = h
  type_place (both_type s t) h = h.0
  type_place (read_type s t) h = h.0
  type_place (write_type s t) h = h.0
  type_place (respond_type s t) h = h.0
  type_place (fields_type s bs ts ls) h = h.0
  type_place (apply_type s x ts) h = h.0
  type_place (rec_type s x t) h = h.0

  -- ---- what is written is refused at one of its places

  pub kind_stands : (ns : List (List ℕ)) (c : PlainContext) (t : TypeTree) → TypeStands P t → StopStands (kind_stop ns c t)
  kind_stands ns c t h = first_stands (kind_stops ns c t) (size_stop c (normal ns c t) (type_span t)) (stops_stand ns c t h) (size_stands c (normal ns c t) (type_span t) (type_place t h))

  meant_stands : (m : Option Meaning) (o : Option Stop) → StopStands o → StopStands (stop_meant m o)
  meant_stands None o h = h
  meant_stands (Some (a_type t)) o h = h
  meant_stands (Some (an_operator n a)) o h = tt

  pub argument_stands : (ns : List (List ℕ)) (c : PlainContext) (t : TypeTree) → TypeStands P t → StopStands (arg_stop ns c t)
  argument_stands ns c t h = meant_stands (named c t) (kind_stop ns c t) (kind_stands ns c t h)

  bound_size_stands : (ns : List (List ℕ)) (c : PlainContext) (b : Bound) → BoundStands P b → StopStands (bound_size_stop ns c b)
  bound_size_stands ns c unbounded h = tt
  bound_size_stands ns c (bound t) h = size_stands c (normal ns c t) (type_span t) (type_place t h)

  bound_of : (b : TypeBinder) → BinderStands P b → BoundStands P (written_bound b)
  bound_of (type_binder s x k b) h = h.1.1

  pub binder_stands : (ns : List (List ℕ)) (c : PlainContext) (b : TypeBinder) → BinderStands P b → StopStands (binder_stop ns c b)
  binder_stands ns c b h = first_stands (binder_stops ns c b) (bound_size_stop ns c (written_bound b)) (binder_stops_stand ns c b h) (bound_size_stands ns c (written_bound b) (bound_of b h))
