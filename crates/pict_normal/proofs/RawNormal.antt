-- A written type in which no rule of kinds fails: its normal form is what its names mean, put for its variables.
use Rattle.std.proofs.Common.{◌≡◌, ℕ, suc, Bool, true, false, List, [], ◌∷◌, ◌++◌, Option, Some, None, refl, sym, ◌∙◌, ap, ap₂, subst}
use Rattle.std.specs.Prelude.{nat_eq, if◌then◌else◌}
use Rattle.std.specs.Ordering.{is_lt}
use Rattle.pict_syntax.specs.declared.span.Span.{Span}
use Rattle.pict_syntax.specs.Trees.{plain_kind, operator_kind, TypeTree, top_type, int_type, char_type, string_type, bool_type, use_type, both_type, read_type, write_type, respond_type, fields_type, apply_type, rec_type, TypeBinder, type_binder, unbounded, bound, TypeTrees, no_types, more_types, TypeBinders, no_binders, more_binders, LabelledTypes, no_labelled_types, more_labelled_types}
use Rattle.pict_types.specs.Types.{PlainType, Top, Var, Chan, Fields, Rec, Both, Read, Write, Respond, PlainTypes, no_type, types, PlainLabels, no_label, labels, PlainBound, Free, Below, Operator, PlainBounds, no_bound, bounds, PlainArg, Plain, Op}
use Rattle.pict_types.specs.Renaming.{rename}
use Rattle.pict_types.specs.Replacing.{bound_by, Head, apply_head, rename_head, nothing, next_variable, apply_variable, Replacement, replacement_beyond, replacement_beyond_all, replace, replace_types, replace_labels, replace_bound, replace_bounds}
use Rattle.pict_syntax.specs.Labels.{label_cmp}
use Rattle.pict_syntax.specs.Stops.{Stop}
use Rattle.pict_types.specs.Entries.{PlainWhat, Variable, Definition, PlainEntry, PlainContext}
use Rattle.pict_normal.specs.Normal.{Meaning, a_type, an_operator, of_bound, of_entry, behind_entry, meaning, meant_type, meant_head, and_type, and_bound, with_labelled_type, kind_bound, entry_of, normal, normal_types, normal_labels, normal_binders, normal_binder, normal_bound, under_binders, count_trees, use_stops, apply_stops, kind_stops, types_stops, labels_stops, binders_stops, binder_stops}
use Rattle.pict_normal.specs.Meanings.{meanings, with_what}
use Rattle.pict_binders.specs.Names.{place_of}
use Rattle.pict_types.specs.Places.{entry_names}
use Rattle.pict_normal.specs.Raw.{variable_at, names_under, raw, raw_types, raw_labels, raw_binders, raw_binder, raw_bound}
use Rattle.pict_types.proofs.Congruent.{three}
use Rattle.pict_types.proofs.Composed.{replace_made}

-- a name may stand alone, or with arguments
abbrev pub IsType : Option Meaning → Type 0
IsType None = Unit {0}
IsType (Some (a_type t)) = Unit {0}
IsType (Some (an_operator n h)) = ⊥

abbrev pub MayBeApplied : Option Meaning → Type 0
MayBeApplied None = Unit {0}
MayBeApplied (Some (a_type t)) = ⊥
MayBeApplied (Some (an_operator n h)) = Unit {0}

-- what is put for a variable; Top is in the place of what is not in scope
abbrev pub type_put : Replacement → Option ℕ → PlainType
type_put s None = Top
type_put s (Some i) = s.type_of i

abbrev pub head_put : Replacement → Option ℕ → Head
head_put s None = nothing
head_put s (Some i) = s.head_of i

-- the replacement puts for the place of each name what the name means in the context
pub record Means (c : PlainContext) (ms : List ℕ) (s : Replacement) : Type 0 where
  pub types_ : (n : ℕ) → IsType (meaning c n) → type_put s (place_of ms n) ≡ meant_type (meaning c n)
  pub heads_ : (n : ℕ) → MayBeApplied (meaning c n) → head_put s (place_of ms n) ≡ meant_head (meaning c n)

type_before : (b : PlainBound) (o : Option Meaning) → IsType (behind_entry (Variable b) o) → IsType o
type_before b None h = tt
type_before b (Some (a_type t)) h = tt
type_before b (Some (an_operator n x)) h = h

applied_before : (b : PlainBound) (o : Option Meaning) → MayBeApplied (behind_entry (Variable b) o) → MayBeApplied o
applied_before b None h = tt
applied_before b (Some (a_type t)) h = h
applied_before b (Some (an_operator n x)) h = tt

type_further : (b : PlainBound) (o : Option Meaning) → rename suc (meant_type o) ≡ meant_type (behind_entry (Variable b) o)
type_further b None = refl
type_further b (Some (a_type t)) = refl
type_further b (Some (an_operator n x)) = refl

head_further : (b : PlainBound) (o : Option Meaning) → rename_head suc (meant_head o) ≡ meant_head (behind_entry (Variable b) o)
head_further b None = refl
head_further b (Some (a_type t)) = refl
head_further b (Some (an_operator n x)) = refl

type_first : (b : PlainBound) → IsType (Some (of_bound b)) → Var 0 ≡ meant_type (Some (of_bound b))
type_first Free h = refl
type_first (Below t) h = refl
type_first (Operator marks) h = absurd h

head_first : (s : Replacement) (b : PlainBound) → MayBeApplied (Some (of_bound b)) → (replacement_beyond s).head_of 0 ≡ meant_head (Some (of_bound b))
head_first s Free h = absurd h
head_first s (Below t) h = absurd h
head_first s (Operator marks) h = refl

type_put_further : (s : Replacement) (o : Option ℕ) → type_put (replacement_beyond s) (next_variable o) ≡ rename suc (type_put s o)
type_put_further s None = refl
type_put_further s (Some i) = refl

head_put_further : (s : Replacement) (o : Option ℕ) → head_put (replacement_beyond s) (next_variable o) ≡ rename_head suc (head_put s o)
head_put_further s None = refl
head_put_further s (Some i) = refl

-- one more variable in front
pub means_variable : {c : PlainContext} {ms : List ℕ} {s : Replacement} (n : ℕ) (b : PlainBound) → Means c ms s → Means (record { name = n; what = Variable b } ∷ c) (n ∷ ms) (replacement_beyond s)
means_variable {c = c} {ms = ms} {s = s} n b h = record { types_ = λ m. go m (nat_eq n m); heads_ = λ m. go2 m (nat_eq n m) }
  where
    go : (m : ℕ) (x : Bool) → IsType (if x then Some (of_bound b) else behind_entry (Variable b) (meaning c m)) → type_put (replacement_beyond s) (if x then Some 0 else next_variable (place_of ms m)) ≡ meant_type (if x then Some (of_bound b) else behind_entry (Variable b) (meaning c m))
    go m true k = type_first b k
    go m false k = type_put_further s (place_of ms m) ∙ ap (rename suc) (h.types_ m (type_before b (meaning c m) k)) ∙ type_further b (meaning c m)

    go2 : (m : ℕ) (x : Bool) → MayBeApplied (if x then Some (of_bound b) else behind_entry (Variable b) (meaning c m)) → head_put (replacement_beyond s) (if x then Some 0 else next_variable (place_of ms m)) ≡ meant_head (if x then Some (of_bound b) else behind_entry (Variable b) (meaning c m))
    go2 m true k = head_first s b k
    go2 m false k = head_put_further s (place_of ms m) ∙ ap (rename_head suc) (h.heads_ m (applied_before b (meaning c m) k)) ∙ head_further b (meaning c m)

-- one more definition in front
definition_same : (a : PlainArg) (o : Option Meaning) → behind_entry (Definition a) o ≡ o
definition_same a None = refl
definition_same a (Some m) = refl

type_defined : (a : PlainArg) (s : Replacement) → (with_what (Definition a) s).type_of 0 ≡ meant_type (Some (of_entry (Definition a)))
type_defined (Plain t) s = refl
type_defined (Op n t) s = refl

head_defined : (a : PlainArg) (s : Replacement) → (with_what (Definition a) s).head_of 0 ≡ meant_head (Some (of_entry (Definition a)))
head_defined (Plain t) s = refl
head_defined (Op n t) s = refl

type_put_definition : (a : PlainArg) (s : Replacement) (o : Option ℕ) → type_put (with_what (Definition a) s) (next_variable o) ≡ type_put s o
type_put_definition a s None = refl
type_put_definition a s (Some i) = refl

head_put_definition : (a : PlainArg) (s : Replacement) (o : Option ℕ) → head_put (with_what (Definition a) s) (next_variable o) ≡ head_put s o
head_put_definition a s None = refl
head_put_definition a s (Some i) = refl

means_definition : {c : PlainContext} {ms : List ℕ} {s : Replacement} (n : ℕ) (a : PlainArg) → Means c ms s → Means (record { name = n; what = Definition a } ∷ c) (n ∷ ms) (with_what (Definition a) s)
means_definition {c = c} {ms = ms} {s = s} n a h = record { types_ = λ m. go m (nat_eq n m); heads_ = λ m. go2 m (nat_eq n m) }
  where
    go : (m : ℕ) (x : Bool) → IsType (if x then Some (of_entry (Definition a)) else behind_entry (Definition a) (meaning c m)) → type_put (with_what (Definition a) s) (if x then Some 0 else next_variable (place_of ms m)) ≡ meant_type (if x then Some (of_entry (Definition a)) else behind_entry (Definition a) (meaning c m))
    go m true k = type_defined a s
    go m false k = type_put_definition a s (place_of ms m) ∙ h.types_ m (subst IsType (definition_same a (meaning c m)) k) ∙ ap meant_type (sym (definition_same a (meaning c m)))

    go2 : (m : ℕ) (x : Bool) → MayBeApplied (if x then Some (of_entry (Definition a)) else behind_entry (Definition a) (meaning c m)) → head_put (with_what (Definition a) s) (if x then Some 0 else next_variable (place_of ms m)) ≡ meant_head (if x then Some (of_entry (Definition a)) else behind_entry (Definition a) (meaning c m))
    go2 m true k = head_defined a s
    go2 m false k = head_put_definition a s (place_of ms m) ∙ h.heads_ m (subst MayBeApplied (definition_same a (meaning c m)) k) ∙ ap meant_head (sym (definition_same a (meaning c m)))

pub means_entry : (e : PlainEntry) {c : PlainContext} {ms : List ℕ} {s : Replacement} → Means c ms s → Means (e ∷ c) (e.name ∷ ms) (with_what e.what s)
means_entry e {c = c} {ms = ms} {s = s} h = go e.what
  where
    go : (w : PlainWhat) → Means (record { name = e.name; what = w } ∷ c) (e.name ∷ ms) (with_what w s)
    go (Variable b) = means_variable e.name b h
    go (Definition a) = means_definition e.name a h

-- the entries of a context
pub means : (c : PlainContext) → Means c (entry_names c) (meanings c)
means [] = record { types_ = λ n k. refl; heads_ = λ n k. refl }
means (e ∷ c) = means_entry e (means c)

-- under type binders
beyond_one_more : (bs : PlainBounds) (b : PlainBound) (s : Replacement) → replacement_beyond_all (and_bound bs b) s ≡ replacement_beyond (replacement_beyond_all bs s)
beyond_one_more no_bound b s = refl
beyond_one_more (bounds d bs) b s = beyond_one_more bs b (replacement_beyond s)

pub means_under : (ns : List (List ℕ)) {c : PlainContext} {ms : List ℕ} {s : Replacement} (bs : TypeBinders) → Means c ms s → Means (under_binders ns c bs) (names_under ms bs) (replacement_beyond_all (raw_binders ns ms bs) s)
means_under ns no_binders h = h
means_under ns {c = c} {ms = ms} {s = s} (more_binders bs (type_binder sp id k b)) h =
    subst (Means (entry_of id (kind_bound k (normal_bound ns (under_binders ns c bs) b)) ∷ under_binders ns c bs) (id.name.0 ∷ names_under ms bs))
    (sym (beyond_one_more (raw_binders ns ms bs) (kind_bound k (raw_bound ns (names_under ms bs) b)) s))
    (means_variable id.name.0 (kind_bound k (normal_bound ns (under_binders ns c bs) b)) (means_under ns bs h))

-- rows that are replaced, with one more at the end
pub and_type_replaced : (s : Replacement) (us : PlainTypes) (u : PlainType) → replace_types s (and_type us u) ≡ and_type (replace_types s us) (replace s u)
and_type_replaced s no_type u = refl
and_type_replaced s (types t us) u = ap (types (replace s t)) (and_type_replaced s us u)

and_bound_replaced : (s : Replacement) (bs : PlainBounds) (b : PlainBound) → replace_bounds s (and_bound bs b) ≡ and_bound (replace_bounds s bs) (replace_bound (replacement_beyond_all bs s) b)
and_bound_replaced s no_bound b = refl
and_bound_replaced s (bounds d bs) b = ap (bounds (replace_bound s d)) (and_bound_replaced (replacement_beyond s) bs b)

with_label_replaced : (ns : List (List ℕ)) (s : Replacement) (l : ℕ) (u : PlainType) (ls : PlainLabels) → replace_labels s (with_labelled_type ns l u ls) ≡ with_labelled_type ns l (replace s u) (replace_labels s ls)
with_label_replaced ns s l u no_label = refl
with_label_replaced ns s l u (labels m t ls) = go (is_lt (label_cmp ns l m)) (with_label_replaced ns s l u ls)
  where
    go : (x : Bool) → replace_labels s (with_labelled_type ns l u ls) ≡ with_labelled_type ns l (replace s u) (replace_labels s ls) → replace_labels s (if x then labels l u (labels m t ls) else labels m t (with_labelled_type ns l u ls)) ≡ (if x then labels l (replace s u) (labels m (replace s t) (replace_labels s ls)) else labels m (replace s t) (with_labelled_type ns l (replace s u) (replace_labels s ls)))
    go true h = refl
    go false h = ap (labels m (replace s t)) h

-- no stop in two lists is none in each
pub none_first : (xs ys : List Stop) → xs ++ ys ≡ [] → xs ≡ []
none_first [] ys h = refl
none_first (x ∷ xs) ys h = absurd (cc)

pub none_second : (xs ys : List Stop) → xs ++ ys ≡ [] → ys ≡ []
none_second [] ys h = h
none_second (x ∷ xs) ys h = absurd (cc)

type_allowed : (s : Span) (o : Option Meaning) → use_stops s o ≡ [] → IsType o
type_allowed s None h = tt
type_allowed s (Some (a_type t)) h = tt
type_allowed s (Some (an_operator n x)) h = absurd (cc)

head_allowed : (s : Span) (o : Option Meaning) (k : ℕ) → apply_stops s o k ≡ [] → MayBeApplied o
head_allowed s None k h = tt
head_allowed s (Some (a_type t)) k h = absurd (cc)
head_allowed s (Some (an_operator n x)) k h = tt

variable_replaced : (s : Replacement) (o : Option ℕ) → replace s (variable_at o) ≡ type_put s o
variable_replaced s None = refl
variable_replaced s (Some i) = refl

applied_replaced : (s : Replacement) (o : Option ℕ) (us : PlainTypes) → replace s (apply_variable o us) ≡ apply_head (head_put s o) (replace_types s us)
applied_replaced s None us = refl
applied_replaced s (Some i) us = refl

mutual
  pub raw_replaced : (ns : List (List ℕ)) {c : PlainContext} {ms : List ℕ} {s : Replacement} → Means c ms s → (t : TypeTree) → kind_stops ns c t ≡ [] → replace s (raw ns ms t) ≡ normal ns c t
  raw_replaced ns h (top_type sp) k = refl
  raw_replaced ns h (int_type sp) k = refl
  raw_replaced ns h (char_type sp) k = refl
  raw_replaced ns h (string_type sp) k = refl
  raw_replaced ns h (bool_type sp) k = refl
  raw_replaced ns {c = c} {ms = ms} {s = s} h (use_type sp n) k = variable_replaced s (place_of ms n.0) ∙ h.types_ n.0 (type_allowed sp (meaning c n.0) k)
  raw_replaced ns h (both_type sp t) k = ap (Chan Both) (raw_replaced ns h t k)
  raw_replaced ns h (read_type sp t) k = ap (Chan Read) (raw_replaced ns h t k)
  raw_replaced ns h (write_type sp t) k = ap (Chan Write) (raw_replaced ns h t k)
  raw_replaced ns h (respond_type sp t) k = ap (Chan Respond) (raw_replaced ns h t k)
  raw_replaced ns {c = c} h (fields_type sp bs ts ls) k =
      let d = under_binders ns c bs in
      let first = none_first (binders_stops ns c bs ++ types_stops ns d ts) (labels_stops ns d ls) k in
      three Fields
      (raw_binders_replaced ns h bs (none_first (binders_stops ns c bs) (types_stops ns d ts) first))
      (raw_types_replaced ns (means_under ns bs h) ts (none_second (binders_stops ns c bs) (types_stops ns d ts) first))
      (raw_labels_replaced ns (means_under ns bs h) ls (none_second (binders_stops ns c bs ++ types_stops ns d ts) (labels_stops ns d ls) k))
  raw_replaced ns {c = c} {ms = ms} {s = s} h (apply_type sp id ts) k =
      applied_replaced s (place_of ms id.name.0) (raw_types ns ms ts)
      ∙ ap₂ apply_head
      (h.heads_ id.name.0 (head_allowed sp (meaning c id.name.0) (count_trees ts) (none_first (apply_stops sp (meaning c id.name.0) (count_trees ts)) (types_stops ns c ts) k)))
      (raw_types_replaced ns h ts (none_second (apply_stops sp (meaning c id.name.0) (count_trees ts)) (types_stops ns c ts) k))
  raw_replaced ns h (rec_type sp id t) k = ap Rec (raw_replaced ns (means_variable id.name.0 Free h) t k)

  pub raw_types_replaced : (ns : List (List ℕ)) {c : PlainContext} {ms : List ℕ} {s : Replacement} → Means c ms s → (ts : TypeTrees) → types_stops ns c ts ≡ [] → replace_types s (raw_types ns ms ts) ≡ normal_types ns c ts
  raw_types_replaced ns h no_types k = refl
  raw_types_replaced ns {c = c} {ms = ms} {s = s} h (more_types ts t) k =
      and_type_replaced s (raw_types ns ms ts) (raw ns ms t)
      ∙ ap₂ and_type (raw_types_replaced ns h ts (none_first (types_stops ns c ts) (kind_stops ns c t) k)) (raw_replaced ns h t (none_second (types_stops ns c ts) (kind_stops ns c t) k))

  pub raw_labels_replaced : (ns : List (List ℕ)) {c : PlainContext} {ms : List ℕ} {s : Replacement} → Means c ms s → (ls : LabelledTypes) → labels_stops ns c ls ≡ [] → replace_labels s (raw_labels ns ms ls) ≡ normal_labels ns c ls
  raw_labels_replaced ns h no_labelled_types k = refl
  raw_labels_replaced ns {c = c} {ms = ms} {s = s} h (more_labelled_types ls id t) k =
      with_label_replaced ns s id.name.0 (raw ns ms t) (raw_labels ns ms ls)
      ∙ ap₂ (with_labelled_type ns id.name.0) (raw_replaced ns h t (none_second (labels_stops ns c ls) (kind_stops ns c t) k)) (raw_labels_replaced ns h ls (none_first (labels_stops ns c ls) (kind_stops ns c t) k))

  pub raw_binders_replaced : (ns : List (List ℕ)) {c : PlainContext} {ms : List ℕ} {s : Replacement} → Means c ms s → (bs : TypeBinders) → binders_stops ns c bs ≡ [] → replace_bounds s (raw_binders ns ms bs) ≡ normal_binders ns c bs
  raw_binders_replaced ns h no_binders k = refl
  raw_binders_replaced ns {c = c} {ms = ms} {s = s} h (more_binders bs b) k =
      let d = under_binders ns c bs in
      and_bound_replaced s (raw_binders ns ms bs) (raw_binder ns (names_under ms bs) b)
      ∙ ap₂ and_bound (raw_binders_replaced ns h bs (none_first (binders_stops ns c bs) (binder_stops ns d b) k)) (raw_binder_replaced ns (means_under ns bs h) b (none_second (binders_stops ns c bs) (binder_stops ns d b) k))

  raw_binder_replaced : (ns : List (List ℕ)) {c : PlainContext} {ms : List ℕ} {s : Replacement} → Means c ms s → (b : TypeBinder) → binder_stops ns c b ≡ [] → replace_bound s (raw_binder ns ms b) ≡ normal_binder ns c b
  raw_binder_replaced ns h (type_binder sp id None unbounded) k = refl
  raw_binder_replaced ns h (type_binder sp id (Some plain_kind) unbounded) k = refl
  raw_binder_replaced ns h (type_binder sp id (Some (operator_kind marks)) unbounded) k = refl
  raw_binder_replaced ns {ms = ms} {s = s} h (type_binder sp id None (bound t)) k =
      replace_made s (raw ns ms t) ∙ ap bound_by (raw_replaced ns h t k)
  raw_binder_replaced ns {ms = ms} {s = s} h (type_binder sp id (Some plain_kind) (bound t)) k =
      replace_made s (raw ns ms t) ∙ ap bound_by (raw_replaced ns h t k)
  raw_binder_replaced ns h (type_binder sp id (Some (operator_kind marks)) (bound t)) k = refl

-- the normal form is what the entries of the context mean, put for the names
pub raw_normal : (ns : List (List ℕ)) (c : PlainContext) (t : TypeTree) → kind_stops ns c t ≡ [] → normal ns c t ≡ replace (meanings c) (raw ns (entry_names c) t)
raw_normal ns c t k = sym (raw_replaced ns (means c) t k)
