-- The codes of written types.
use Rattle.std.proofs.Common.{◌≡◌, ℕ, List, [], ◌∷◌, ◌++◌, Bool, true, false, if◌then◌else◌, Option, Some, None, inl, inr, refl, subst, nat_eq}
use Rattle.pict_syntax.specs.declared.code.Code.{Code}
use Rattle.pict_syntax.specs.declared.code.Code.TheVariants.{K1, K2, K3, K4}
use Rattle.pict_syntax.specs.declared.id.Id.{Id}
use Rattle.pict_syntax.specs.declared.span.Span.{Span}
use Rattle.pict_syntax.specs.Grammar.{type_span}
use Rattle.pict_syntax.specs.Trees.{KindTree, plain_kind, operator_kind, TypeTree, top_type, int_type, char_type, string_type, bool_type, use_type, both_type, read_type, write_type, respond_type, fields_type, apply_type, rec_type, TypeBinder, type_binder, Bound, unbounded, bound, TypeTrees, no_types, more_types, TypeBinders, no_binders, more_binders, LabelledTypes, no_labelled_types, more_labelled_types}
use Rattle.pict_syntax.specs.Stops.{Stop}
use Rattle.pict_types.specs.Types.{PlainType, Free, is_top}
use Rattle.pict_types.specs.Entries.{PlainContext}
use Rattle.pict_normal.specs.Normal.{Meaning, a_type, an_operator, meaning, normal, entry_of, under_binders, count_trees, use_stops, apply_stops, bound_stops, kind_stops, types_stops, labels_stops, binders_stops, binder_stops, size_stop, first_or, kind_stop}
use Rattle.pict_normal.specs.WrittenArguments.{named, stop_meant, arg_stop}
use Rattle.pict_rules.specs.Shapes.{binder_stop, bound_size_stop, written_bound}
use Rattle.pict_codes.specs.Codes.{IsOneOf, kind_codes}
use Rattle.pict_codes.specs.Laws.{KindCodes}
use Rattle.pict_codes.proofs.Lines.{StopHas, measured}

abbrev pub OfKinds : Code → Span → Type 0
OfKinds c i = IsOneOf kind_codes c

of_k1 : IsOneOf kind_codes K1
of_k1 = inl refl

of_k2 : IsOneOf kind_codes K2
of_k2 = inr (inl refl)

of_k3 : IsOneOf kind_codes K3
of_k3 = inr (inr (inl refl))

of_k4 : IsOneOf kind_codes K4
of_k4 = inr (inr (inr (inl refl)))

abbrev AllOfKinds : List Stop → Type 0
AllOfKinds [] = Unit {0}
AllOfKinds (x ∷ xs) = OfKinds x.0 x.1 × AllOfKinds xs

both_of : (xs ys : List Stop) → AllOfKinds xs → AllOfKinds ys → AllOfKinds (xs ++ ys)
both_of [] ys h k = k
both_of (x ∷ xs) ys h k = (h.0, both_of xs ys h.1 k)

use_of : (s : Span) (o : Option Meaning) → AllOfKinds (use_stops s o)
use_of s None = tt
use_of s (Some (a_type t)) = tt
use_of s (Some (an_operator n h)) = (of_k2, tt)

one_or_none : (b : Bool) (s : Span) → AllOfKinds (if b then [] else (K1, s) ∷ [])
one_or_none true s = tt
one_or_none false s = (of_k1, tt)

apply_of : (s : Span) (o : Option Meaning) (k : ℕ) → AllOfKinds (apply_stops s o k)
apply_of s None k = tt
apply_of s (Some (a_type t)) k = (of_k1, tt)
apply_of s (Some (an_operator n h)) k = one_or_none (nat_eq n k) s

none_or_one : (b : Bool) (s : Span) → AllOfKinds (if b then [] else (K3, s) ∷ [])
none_or_one true s = tt
none_or_one false s = (of_k3, tt)

bound_of : (x : Id) (k : Option KindTree) (stops : List Stop) (t : PlainType) → AllOfKinds stops → AllOfKinds (bound_stops x k stops t)
bound_of x None stops t h = h
bound_of x (Some plain_kind) stops t h = h
bound_of x (Some (operator_kind ms)) [] t h = none_or_one (is_top t) x.span
bound_of x (Some (operator_kind ms)) (y ∷ stops) t h = (of_k3, h)

mutual
  kinds_of : (ns : List (List ℕ)) (c : PlainContext) (t : TypeTree) → AllOfKinds (kind_stops ns c t)
  kinds_of ns c (top_type s) = tt
  kinds_of ns c (int_type s) = tt
  kinds_of ns c (char_type s) = tt
  kinds_of ns c (string_type s) = tt
  kinds_of ns c (bool_type s) = tt
  kinds_of ns c (use_type s n) = use_of s (meaning c n.0)
  kinds_of ns c (both_type s t) = kinds_of ns c t
  kinds_of ns c (read_type s t) = kinds_of ns c t
  kinds_of ns c (write_type s t) = kinds_of ns c t
  kinds_of ns c (respond_type s t) = kinds_of ns c t
  kinds_of ns c (fields_type s bs ts ls) =
      both_of (binders_stops ns c bs ++ types_stops ns (under_binders ns c bs) ts) _ (both_of (binders_stops ns c bs) _ (binders_of ns c bs) (types_of ns (under_binders ns c bs) ts)) (labels_of ns (under_binders ns c bs) ls)
  kinds_of ns c (apply_type s x ts) = both_of (apply_stops s (meaning c x.name.0) (count_trees ts)) _ (apply_of s (meaning c x.name.0) (count_trees ts)) (types_of ns c ts)
  kinds_of ns c (rec_type s x t) = kinds_of ns (entry_of x Free ∷ c) t

  types_of : (ns : List (List ℕ)) (c : PlainContext) (ts : TypeTrees) → AllOfKinds (types_stops ns c ts)
  types_of ns c no_types = tt
  types_of ns c (more_types ts t) = both_of (types_stops ns c ts) _ (types_of ns c ts) (kinds_of ns c t)

  labels_of : (ns : List (List ℕ)) (c : PlainContext) (ls : LabelledTypes) → AllOfKinds (labels_stops ns c ls)
  labels_of ns c no_labelled_types = tt
  labels_of ns c (more_labelled_types ls x t) = both_of (labels_stops ns c ls) _ (labels_of ns c ls) (kinds_of ns c t)

  binders_of : (ns : List (List ℕ)) (c : PlainContext) (bs : TypeBinders) → AllOfKinds (binders_stops ns c bs)
  binders_of ns c no_binders = tt
  binders_of ns c (more_binders bs b) = both_of (binders_stops ns c bs) _ (binders_of ns c bs) (binder_of ns (under_binders ns c bs) b)

  binder_of : (ns : List (List ℕ)) (c : PlainContext) (b : TypeBinder) → AllOfKinds (binder_stops ns c b)
  binder_of ns c (type_binder s x k unbounded) = tt
  binder_of ns c (type_binder s x k (bound t)) = bound_of x k (kind_stops ns c t) (normal ns c t) (kinds_of ns c t)

-- the first of these stops, or else the size
first_of_kinds : (xs : List Stop) (o : Option Stop) → AllOfKinds xs → StopHas OfKinds o → StopHas OfKinds (first_or xs o)
first_of_kinds [] o h k = k
first_of_kinds (x ∷ xs) o h k = h.0

pub type_stops : (ns : List (List ℕ)) (c : PlainContext) (t : TypeTree) → StopHas OfKinds (kind_stop ns c t)
type_stops ns c t = first_of_kinds (kind_stops ns c t) (size_stop c (normal ns c t) (type_span t)) (kinds_of ns c t) (measured OfKinds c (normal ns c t) (type_span t) of_k4)

meant_of : (o : Option Meaning) (p : Option Stop) → StopHas OfKinds p → StopHas OfKinds (stop_meant o p)
meant_of None p h = h
meant_of (Some (a_type t)) p h = h
meant_of (Some (an_operator n k)) p h = tt

pub argument_stops : (ns : List (List ℕ)) (c : PlainContext) (t : TypeTree) → StopHas OfKinds (arg_stop ns c t)
argument_stops ns c t = meant_of (named c t) (kind_stop ns c t) (type_stops ns c t)

bound_size_of : (ns : List (List ℕ)) (c : PlainContext) (b : Bound) → StopHas OfKinds (bound_size_stop ns c b)
bound_size_of ns c unbounded = tt
bound_size_of ns c (bound t) = measured OfKinds c (normal ns c t) (type_span t) of_k4

pub written_binder_stops : (ns : List (List ℕ)) (c : PlainContext) (b : TypeBinder) → StopHas OfKinds (binder_stop ns c b)
written_binder_stops ns c b = first_of_kinds (binder_stops ns c b) (bound_size_stop ns c (written_bound b)) (binder_of ns c b) (bound_size_of ns c (written_bound b))

abbrev some : Stop → Option Stop
some x = Some x

pub stop_has : (P : Code → Span → Type 0) (o : Option Stop) → StopHas P o → (c : Code) (i : Span) → o ≡ some (c, i) → P c i
stop_has P None h c i e = absurd cc
stop_has P (Some x) h c i e = let f : x ≡ (c, i) = cc in subst (λ y. P y.0 y.1) f h

pub kind_codes_alone : KindCodes
kind_codes_alone = record {
  types_ = λ ns e t c i h. stop_has OfKinds (kind_stop ns e t) (type_stops ns e t) c i h;
  arguments_ = λ ns e t c i h. stop_has OfKinds (arg_stop ns e t) (argument_stops ns e t) c i h;
  binders_ = λ ns e b c i h. stop_has OfKinds (binder_stop ns e b) (written_binder_stops ns e b) c i h;
}
