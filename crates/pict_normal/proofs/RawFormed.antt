-- A written type in which no rule of kinds fails is well formed where every name is a variable of its kind.
use Rattle.std.proofs.Common.{◌≡◌, ℕ, zero, suc, ◌<◌, Bool, true, false, nat_eq, List, [], ◌∷◌, ◌++◌, length, Option, Some, None, refl, sym, ◌∙◌, ap, ap₂, subst, arith}
use Rattle.std.specs.Prelude.{if◌then◌else◌}
use Rattle.std.specs.Ordering.{is_lt}
use Rattle.std.proofs.lemmas.Bool.{eqb-true}
use Rattle.pict_syntax.specs.declared.code.Code.TheVariants.{K1}
use Rattle.pict_syntax.specs.declared.span.Span.{Span}
use Rattle.pict_syntax.specs.Labels.{label_cmp, StandsBefore}
use Rattle.pict_syntax.specs.Trees.{KindTree, plain_kind, operator_kind, TypeTree, top_type, int_type, char_type, string_type, bool_type, use_type, both_type, read_type, write_type, respond_type, fields_type, apply_type, rec_type, TypeBinder, type_binder, Bound, unbounded, bound, TypeTrees, no_types, more_types, TypeBinders, no_binders, more_binders, LabelledTypes, no_labelled_types, more_labelled_types}
use Rattle.pict_types.specs.Types.{PlainType, PlainTypes, no_type, types, PlainLabels, no_label, labels, PlainBound, Free, Below, Operator, PlainBounds, no_bound, bounds, Plain, Op, count_types}
use Rattle.pict_types.specs.Replacing.{apply_variable}
use Rattle.pict_types.specs.Kinds.{Kind, proper, operator_of, kind_by, kind_at, kinds_under, StandsBeforeAll, IsWellFormed, AreWellFormed, LabelsAreWellFormed, BoundsAreWellFormed, BoundIsWellFormed}
use Rattle.pict_types.specs.Entries.{PlainWhat, Variable, Definition, PlainContext}
use Rattle.pict_normal.specs.Meanings.{kind_of_what, entry_kinds}
use Rattle.pict_normal.specs.Normal.{Meaning, a_type, an_operator, meaning, and_type, and_bound, with_labelled_type, kind_bound, entry_of, normal, normal_bound, under_binders, count_trees, use_stops, apply_stops, kind_stops, types_stops, labels_stops, binders_stops, binder_stops}
use Rattle.pict_binders.specs.Names.{place_of}
use Rattle.pict_types.specs.Places.{entry_names, arity, arity_at}
use Rattle.pict_normal.specs.Raw.{variable_at, names_under, raw, raw_types, raw_labels, raw_binders, raw_binder, raw_bound}
use Rattle.pict_scope.specs.DistinctLabels.{IsNewLabel, HasDistinctLabels, TypesHaveDistinctLabels, AreDistinct, BindersHaveDistinctLabels, BinderHasDistinctLabels}
use Rattle.pict_syntax.proofs.LabelLemmas.{less_is, stands_after}
use Rattle.pict_syntax.specs.Stops.{Stop}
use Rattle.pict_types.proofs.Formed.{formed_bound_by, kind_bound_by, before_further}
use Rattle.pict_normal.proofs.BinderPlaces.{kind_meant, kind_there, kind_named, place_below}
use Rattle.pict_types.proofs.Places.{names_length}
use Rattle.pict_normal.proofs.RawNormal.{none_first, none_second}

-- the kind of an entry from its arity
abbrev kind_of_arity : Option ℕ → Kind
kind_of_arity None = proper
kind_of_arity (Some n) = operator_of n

kind_of_entry : (w : PlainWhat) → kind_of_what w ≡ kind_of_arity (arity w)
kind_of_entry (Variable Free) = refl
kind_of_entry (Variable (Below t)) = refl
kind_of_entry (Variable (Operator marks)) = refl
kind_of_entry (Definition (Plain t)) = refl
kind_of_entry (Definition (Op n t)) = refl

entry_kind : (c : PlainContext) (i : ℕ) → i < length c → kind_at (entry_kinds c) i ≡ Some (kind_of_arity (arity_at c i))
entry_kind [] i h = absurd (omega arith)
entry_kind (e ∷ c) zero h = ap Some (kind_of_entry e.what)
entry_kind (e ∷ c) (suc i) h = entry_kind c i (omega arith)

named_kind : (c : PlainContext) (n i : ℕ) (k : Option ℕ) → place_of (entry_names c) n ≡ Some i → kind_meant (meaning c n) ≡ Some k → kind_at (entry_kinds c) i ≡ Some (kind_of_arity k)
named_kind c n i k h m =
    let s : Some (arity_at c i) ≡ Some k = sym (ap (kind_there c) h) ∙ sym (kind_named c n) ∙ m in
    let e : arity_at c i ≡ k = cc in
    entry_kind c i (omega (arith, place_below (entry_names c) n i h, names_length c)) ∙ ap (λ x. Some (kind_of_arity x)) e

-- what the rules of kinds say of a name
type_kind : (s : Span) (o : Option Meaning) (k : Option ℕ) → use_stops s o ≡ [] → kind_meant o ≡ Some k → k ≡ None
type_kind s None k h e = absurd (cc)
type_kind s (Some (a_type t)) k h e = cc
type_kind s (Some (an_operator n x)) k h e = absurd (cc)

abbrev unless : Bool → Span → List Stop
unless b s = if b then [] else (K1, s) ∷ []

head_kind : (s : Span) (o : Option Meaning) (m : ℕ) (k : Option ℕ) → apply_stops s o m ≡ [] → kind_meant o ≡ Some k → k ≡ Some m
head_kind s None m k h e = absurd (cc)
head_kind s (Some (a_type t)) m k h e = absurd (cc)
head_kind s (Some (an_operator n x)) m k h e = let f : Some n ≡ k = cc in sym f ∙ ap Some (go (nat_eq n m) refl h)
  where
    go : (b : Bool) → nat_eq n m ≡ b → unless b s ≡ [] → n ≡ m
    go true d r = eqb-true n m d
    go false d r = absurd (cc)

found : (c : PlainContext) (n i : ℕ) → place_of (entry_names c) n ≡ Some i → kind_meant (meaning c n) ≡ Some (arity_at c i)
found c n i h = kind_named c n ∙ ap (kind_there c) h

variable_formed : (ns : List (List ℕ)) (c : PlainContext) (s : Span) (n : ℕ) (o : Option ℕ) → place_of (entry_names c) n ≡ o → use_stops s (meaning c n) ≡ [] → IsWellFormed ns (entry_kinds c) (variable_at o)
variable_formed ns c s n None h k = tt
variable_formed ns c s n (Some i) h k = named_kind c n i None h (found c n i h ∙ ap Some (type_kind s (meaning c n) (arity_at c i) k (found c n i h)))

applied_formed : (ns : List (List ℕ)) (c : PlainContext) (s : Span) (n m : ℕ) (us : PlainTypes) (o : Option ℕ) → place_of (entry_names c) n ≡ o → apply_stops s (meaning c n) m ≡ [] → count_types us ≡ m → AreWellFormed ns (entry_kinds c) us → IsWellFormed ns (entry_kinds c) (apply_variable o us)
applied_formed ns c s n m us None h k e w = tt
applied_formed ns c s n m us (Some i) h k e w =
    (named_kind c n i (Some m) h (found c n i h ∙ ap Some (head_kind s (meaning c n) m (arity_at c i) k (found c n i h))) ∙ ap (λ x. Some (operator_of x)) (sym e), w)

-- rows with one more at the end
count_and : (us : PlainTypes) (u : PlainType) → count_types (and_type us u) ≡ suc (count_types us)
count_and no_type u = refl
count_and (types t us) u = ap suc (count_and us u)

count_raw : (ns : List (List ℕ)) (ms : List ℕ) (ts : TypeTrees) → count_types (raw_types ns ms ts) ≡ count_trees ts
count_raw ns ms no_types = refl
count_raw ns ms (more_types ts t) = count_and (raw_types ns ms ts) (raw ns ms t) ∙ ap suc (count_raw ns ms ts)

pub and_type_formed : (ns : List (List ℕ)) (ks : List Kind) (us : PlainTypes) (u : PlainType) → AreWellFormed ns ks us → IsWellFormed ns ks u → AreWellFormed ns ks (and_type us u)
and_type_formed ns ks no_type u h k = (k, tt)
and_type_formed ns ks (types t us) u h k = (h.0, and_type_formed ns ks us u h.1 k)

pub and_bound_formed : (ns : List (List ℕ)) (ks : List Kind) (bs : PlainBounds) (b : PlainBound) → BoundsAreWellFormed ns ks bs → BoundIsWellFormed ns (kinds_under ks bs) b → BoundsAreWellFormed ns ks (and_bound bs b)
and_bound_formed ns ks no_bound b h k = (k, tt)
and_bound_formed ns ks (bounds d bs) b h k = (h.0, and_bound_formed ns (kind_by d ∷ ks) bs b h.1 k)

kinds_and : (ks : List Kind) (bs : PlainBounds) (b : PlainBound) → kinds_under ks (and_bound bs b) ≡ kind_by b ∷ kinds_under ks bs
kinds_and ks no_bound b = refl
kinds_and ks (bounds d bs) b = kinds_and (kind_by d ∷ ks) bs b

-- labels in order
abbrev pub IsNew : ℕ → PlainLabels → Type 0
IsNew l no_label = Unit {0}
IsNew l (labels m t ls) = (l ≡ m → ⊥) × IsNew l ls

pub new_with : (ns : List (List ℕ)) (l m : ℕ) (u : PlainType) (ls : PlainLabels) → (l ≡ m → ⊥) → IsNew l ls → IsNew l (with_labelled_type ns m u ls)
new_with ns l m u no_label h k = (h, tt)
new_with ns l m u (labels n t ls) h k = go (is_lt (label_cmp ns m n)) (new_with ns l m u ls h k.1)
  where
    go : (b : Bool) → IsNew l (with_labelled_type ns m u ls) → IsNew l (if b then labels m u (labels n t ls) else labels n t (with_labelled_type ns m u ls))
    go true r = (h, k)
    go false r = (k.0, r)

new_raw : (ns : List (List ℕ)) (ms : List ℕ) (l : ℕ) (ls : LabelledTypes) → IsNewLabel l ls → IsNew l (raw_labels ns ms ls)
new_raw ns ms l no_labelled_types h = tt
new_raw ns ms l (more_labelled_types ls id t) h = new_with ns l id.name.0 (raw ns ms t) (raw_labels ns ms ls) h.1 (new_raw ns ms l ls h.0)

before_with : (ns : List (List ℕ)) (m l : ℕ) (u : PlainType) (ls : PlainLabels) → StandsBefore ns m l → StandsBeforeAll ns m ls → StandsBeforeAll ns m (with_labelled_type ns l u ls)
before_with ns m l u no_label h k = (h, tt)
before_with ns m l u (labels n t ls) h k = go (is_lt (label_cmp ns l n)) (before_with ns m l u ls h k.1)
  where
    go : (b : Bool) → StandsBeforeAll ns m (with_labelled_type ns l u ls) → StandsBeforeAll ns m (if b then labels l u (labels n t ls) else labels n t (with_labelled_type ns l u ls))
    go true r = (h, k)
    go false r = (k.0, r)

pub with_labelled_type_formed : (ns : List (List ℕ)) (ks : List Kind) (l : ℕ) (u : PlainType) (ls : PlainLabels) → IsNew l ls → IsWellFormed ns ks u → LabelsAreWellFormed ns ks ls → LabelsAreWellFormed ns ks (with_labelled_type ns l u ls)
with_labelled_type_formed ns ks l u no_label d w h = (tt, (w, tt))
with_labelled_type_formed ns ks l u (labels m t ls) d w h = go (is_lt (label_cmp ns l m)) refl (with_labelled_type_formed ns ks l u ls d.1 w h.1.1)
  where
    go : (b : Bool) → is_lt (label_cmp ns l m) ≡ b → LabelsAreWellFormed ns ks (with_labelled_type ns l u ls) → LabelsAreWellFormed ns ks (if b then labels l u (labels m t ls) else labels m t (with_labelled_type ns l u ls))
    go true e r =
        let f = less_is (label_cmp ns l m) e in
        ((f, before_further ns l m ls f h.0), (w, h))
    go false e r = (before_with ns m l u ls (stands_after ns l m (label_cmp ns l m) refl e d.0) h.0, (h.1.0, r))

-- under type binders
kind_of_binder : (ns : List (List ℕ)) (c : PlainContext) (ms : List ℕ) (k : Option KindTree) (b : Bound) → kind_by (kind_bound k (normal_bound ns c b)) ≡ kind_by (kind_bound k (raw_bound ns ms b))
kind_of_binder ns c ms None unbounded = refl
kind_of_binder ns c ms (Some plain_kind) unbounded = refl
kind_of_binder ns c ms (Some (operator_kind marks)) b = refl
kind_of_binder ns c ms None (bound t) = kind_bound_by (normal ns c t) ∙ sym (kind_bound_by (raw ns ms t))
kind_of_binder ns c ms (Some plain_kind) (bound t) = kind_bound_by (normal ns c t) ∙ sym (kind_bound_by (raw ns ms t))

pub names_of_under : (ns : List (List ℕ)) (c : PlainContext) (bs : TypeBinders) → entry_names (under_binders ns c bs) ≡ names_under (entry_names c) bs
names_of_under ns c no_binders = refl
names_of_under ns c (more_binders bs (type_binder s id k b)) = ap (λ x. id.name.0 ∷ x) (names_of_under ns c bs)

kinds_of_under : (ns : List (List ℕ)) (c : PlainContext) (bs : TypeBinders) → entry_kinds (under_binders ns c bs) ≡ kinds_under (entry_kinds c) (raw_binders ns (entry_names c) bs)
kinds_of_under ns c no_binders = refl
kinds_of_under ns c (more_binders bs (type_binder s id k b)) =
    ap₂ (λ x y. x ∷ y) (kind_of_binder ns (under_binders ns c bs) (names_under (entry_names c) bs) k b) (kinds_of_under ns c bs)
    ∙ sym (kinds_and (entry_kinds c) (raw_binders ns (entry_names c) bs) (kind_bound k (raw_bound ns (names_under (entry_names c) bs) b)))

both : {A B : Type 0} (P : A → B → Type 0) {a a' : A} {b b' : B} → a ≡ a' → b ≡ b' → P a b → P a' b'
both P {a' = a'} {b = b} p q h = subst (λ y. P a' y) q (subst (λ x. P x b) p h)

mutual
  pub raw_formed : (ns : List (List ℕ)) (c : PlainContext) (t : TypeTree) → HasDistinctLabels t → kind_stops ns c t ≡ [] → IsWellFormed ns (entry_kinds c) (raw ns (entry_names c) t)
  raw_formed ns c (top_type s) d k = tt
  raw_formed ns c (int_type s) d k = tt
  raw_formed ns c (char_type s) d k = tt
  raw_formed ns c (string_type s) d k = tt
  raw_formed ns c (bool_type s) d k = tt
  raw_formed ns c (use_type s n) d k = variable_formed ns c s n.0 (place_of (entry_names c) n.0) refl k
  raw_formed ns c (both_type s t) d k = raw_formed ns c t d k
  raw_formed ns c (read_type s t) d k = raw_formed ns c t d k
  raw_formed ns c (write_type s t) d k = raw_formed ns c t d k
  raw_formed ns c (respond_type s t) d k = raw_formed ns c t d k
  raw_formed ns c (fields_type s bs ts ls) d k =
      let u = under_binders ns c bs in
      let first = none_first (binders_stops ns c bs ++ types_stops ns u ts) (labels_stops ns u ls) k in (
        raw_binders_formed ns c bs d.0 (none_first (binders_stops ns c bs) (types_stops ns u ts) first),
        (
          both (λ ks ms. AreWellFormed ns ks (raw_types ns ms ts)) (kinds_of_under ns c bs) (names_of_under ns c bs)
              (raw_types_formed ns u ts d.1.0 (none_second (binders_stops ns c bs) (types_stops ns u ts) first)),
          both (λ ks ms. LabelsAreWellFormed ns ks (raw_labels ns ms ls)) (kinds_of_under ns c bs) (names_of_under ns c bs)
              (raw_labels_formed ns u ls d.1.1 (none_second (binders_stops ns c bs ++ types_stops ns u ts) (labels_stops ns u ls) k)),
        ),
      )
  raw_formed ns c (apply_type s id ts) d k =
      applied_formed ns c s id.name.0 (count_trees ts) (raw_types ns (entry_names c) ts) (place_of (entry_names c) id.name.0) refl
      (none_first (apply_stops s (meaning c id.name.0) (count_trees ts)) (types_stops ns c ts) k) (count_raw ns (entry_names c) ts)
      (raw_types_formed ns c ts d (none_second (apply_stops s (meaning c id.name.0) (count_trees ts)) (types_stops ns c ts) k))
  raw_formed ns c (rec_type s id t) d k = raw_formed ns (entry_of id Free ∷ c) t d k

  raw_types_formed : (ns : List (List ℕ)) (c : PlainContext) (ts : TypeTrees) → TypesHaveDistinctLabels ts → types_stops ns c ts ≡ [] → AreWellFormed ns (entry_kinds c) (raw_types ns (entry_names c) ts)
  raw_types_formed ns c no_types d k = tt
  raw_types_formed ns c (more_types ts t) d k =
      and_type_formed ns (entry_kinds c) (raw_types ns (entry_names c) ts) (raw ns (entry_names c) t)
      (raw_types_formed ns c ts d.0 (none_first (types_stops ns c ts) (kind_stops ns c t) k)) (raw_formed ns c t d.1 (none_second (types_stops ns c ts) (kind_stops ns c t) k))

  raw_labels_formed : (ns : List (List ℕ)) (c : PlainContext) (ls : LabelledTypes) → AreDistinct ls → labels_stops ns c ls ≡ [] → LabelsAreWellFormed ns (entry_kinds c) (raw_labels ns (entry_names c) ls)
  raw_labels_formed ns c no_labelled_types d k = tt
  raw_labels_formed ns c (more_labelled_types ls id t) d k =
      with_labelled_type_formed ns (entry_kinds c) id.name.0 (raw ns (entry_names c) t) (raw_labels ns (entry_names c) ls) (new_raw ns (entry_names c) id.name.0 ls d.1.0)
      (raw_formed ns c t d.1.1 (none_second (labels_stops ns c ls) (kind_stops ns c t) k)) (raw_labels_formed ns c ls d.0 (none_first (labels_stops ns c ls) (kind_stops ns c t) k))

  raw_binders_formed : (ns : List (List ℕ)) (c : PlainContext) (bs : TypeBinders) → BindersHaveDistinctLabels bs → binders_stops ns c bs ≡ [] → BoundsAreWellFormed ns (entry_kinds c) (raw_binders ns (entry_names c) bs)
  raw_binders_formed ns c no_binders d k = tt
  raw_binders_formed ns c (more_binders bs b) d k =
      let u = under_binders ns c bs in
      and_bound_formed ns (entry_kinds c) (raw_binders ns (entry_names c) bs) (raw_binder ns (names_under (entry_names c) bs) b)
      (raw_binders_formed ns c bs d.0 (none_first (binders_stops ns c bs) (binder_stops ns u b) k))
      (both (λ ks ms. BoundIsWellFormed ns ks (raw_binder ns ms b)) (kinds_of_under ns c bs) (names_of_under ns c bs)
      (raw_binder_formed ns u b d.1 (none_second (binders_stops ns c bs) (binder_stops ns u b) k)))

  raw_binder_formed : (ns : List (List ℕ)) (c : PlainContext) (b : TypeBinder) → BinderHasDistinctLabels b → binder_stops ns c b ≡ [] → BoundIsWellFormed ns (entry_kinds c) (raw_binder ns (entry_names c) b)
  raw_binder_formed ns c (type_binder s id None unbounded) d k = tt
  raw_binder_formed ns c (type_binder s id (Some plain_kind) unbounded) d k = tt
  raw_binder_formed ns c (type_binder s id (Some (operator_kind marks)) unbounded) d k = tt
  raw_binder_formed ns c (type_binder s id None (bound t)) d k = formed_bound_by ns (entry_kinds c) (raw ns (entry_names c) t) (raw_formed ns c t d k)
  raw_binder_formed ns c (type_binder s id (Some plain_kind) (bound t)) d k = formed_bound_by ns (entry_kinds c) (raw ns (entry_names c) t) (raw_formed ns c t d k)
  raw_binder_formed ns c (type_binder s id (Some (operator_kind marks)) (bound t)) d k = tt
