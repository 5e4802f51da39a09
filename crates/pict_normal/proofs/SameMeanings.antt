-- Normal forms and refusals of a written type depend on what the names mean alone.
use Rattle.std.proofs.Common.{◌≡◌, ℕ, Bool, true, false, nat_eq, List, ◌∷◌, ◌++◌, Option, Some, None, refl, sym, ◌∙◌, ap, ap₂}
use Rattle.std.specs.Prelude.{if◌then◌else◌}
use Rattle.pict_syntax.specs.Trees.{KindTree, plain_kind, operator_kind, TypeTree, top_type, int_type, char_type, string_type, bool_type, use_type, both_type, read_type, write_type, respond_type, fields_type, apply_type, rec_type, TypeBinder, type_binder, Bound, unbounded, bound, TypeTrees, no_types, more_types, TypeBinders, no_binders, more_binders, LabelledTypes, no_labelled_types, more_labelled_types}
use Rattle.pict_types.specs.Types.{PlainType, Top, Int, Char, Str, Boolean, Var, Apply, Chan, Fields, Rec, Both, Read, Write, Respond, PlainBound, Free}
use Rattle.pict_types.specs.Replacing.{bound_by, apply_head}
use Rattle.pict_types.specs.Entries.{Variable, PlainContext}
use Rattle.pict_normal.specs.BinderEntries.{entries_under}
use Rattle.pict_types.specs.Places.{entry_names}
use Rattle.pict_normal.specs.Raw.{names_under}
use Rattle.pict_normal.specs.Normal.{Meaning, of_bound, behind_entry, meaning, meant_type, meant_head, and_type, and_bound, with_labelled_type, kind_bound, normal, normal_types, normal_labels, normal_binders, normal_binder, normal_bound, under_binders, count_trees, use_stops, apply_stops, bound_stops, kind_stops, types_stops, labels_stops, binders_stops, binder_stops}
use Rattle.pict_types.proofs.Congruent.{three}

pub record SameMeanings (c d : PlainContext) : Type 0 where
  pub each : (n : ℕ) → meaning c n ≡ meaning d n

pub same_itself : (c : PlainContext) → SameMeanings c c
same_itself c = record { each = λ n. refl }

-- the bound of a variable is no part of what it means
same_bound : (k : Option KindTree) (a b : PlainBound) → of_bound a ≡ of_bound b → of_bound (kind_bound k a) ≡ of_bound (kind_bound k b)
same_bound None a b h = h
same_bound (Some plain_kind) a b h = h
same_bound (Some (operator_kind marks)) a b h = refl

behind_same : (a b : PlainBound) (o : Option Meaning) → behind_entry (Variable a) o ≡ behind_entry (Variable b) o
behind_same a b None = refl
behind_same a b (Some m) = refl

pub same_further : {c d : PlainContext} (n : ℕ) (a b : PlainBound) → of_bound a ≡ of_bound b → SameMeanings c d → SameMeanings (record { name = n; what = Variable a } ∷ c) (record { name = n; what = Variable b } ∷ d)
same_further {c = c} {d = d} n a b e h = record { each = λ m. go m (nat_eq n m) }
  where
    go : (m : ℕ) (x : Bool) → (if x then Some (of_bound a) else behind_entry (Variable a) (meaning c m)) ≡ (if x then Some (of_bound b) else behind_entry (Variable b) (meaning d m))
    go m true = ap Some e
    go m false = behind_same a b (meaning c m) ∙ ap (behind_entry (Variable b)) (h.each m)

top_bound : (ns : List (List ℕ)) (c : PlainContext) (b : Bound) → of_bound (normal_bound ns c b) ≡ of_bound Free
top_bound ns c unbounded = refl
top_bound ns c (bound t) = go (normal ns c t)
  where
    go : (u : PlainType) → of_bound (bound_by u) ≡ of_bound Free
    go Top = refl
    go Int = refl
    go Char = refl
    go Str = refl
    go Boolean = refl
    go (Var i) = refl
    go (Apply i us) = refl
    go (Chan m u) = refl
    go (Fields bs ps ls) = refl
    go (Rec u) = refl

pub same_under : (ns : List (List ℕ)) {c d : PlainContext} (bs : TypeBinders) → SameMeanings c d → SameMeanings (under_binders ns c bs) (under_binders ns d bs)
same_under ns no_binders h = h
same_under ns {c = c} {d = d} (more_binders bs (type_binder s id k b)) h =
    let x = normal_bound ns (under_binders ns c bs) b in
    let y = normal_bound ns (under_binders ns d bs) b in
    same_further id.name.0 (kind_bound k x) (kind_bound k y)
    (same_bound k x y (top_bound ns (under_binders ns c bs) b ∙ sym (top_bound ns (under_binders ns d bs) b))) (same_under ns bs h)

-- the entries of binders mean what the binders do
pub entries_same : (ns : List (List ℕ)) (e c : PlainContext) (bs : TypeBinders) → SameMeanings (under_binders ns (e ++ c) bs) (entries_under e bs ++ c)
entries_same ns e c no_binders = same_itself (e ++ c)
entries_same ns e c (more_binders bs (type_binder s id k b)) =
    let x = normal_bound ns (under_binders ns (e ++ c) bs) b in
    same_further id.name.0 (kind_bound k x) (kind_bound k Free) (same_bound k x Free (top_bound ns (under_binders ns (e ++ c) bs) b)) (entries_same ns e c bs)

pub names_entries : (e c : PlainContext) (bs : TypeBinders) → entry_names (entries_under e bs ++ c) ≡ names_under (entry_names (e ++ c)) bs
names_entries e c no_binders = refl
names_entries e c (more_binders bs (type_binder s id k b)) = ap (λ x. id.name.0 ∷ x) (names_entries e c bs)

mutual
  pub normal_same : (ns : List (List ℕ)) {c d : PlainContext} → SameMeanings c d → (t : TypeTree) → normal ns c t ≡ normal ns d t
  normal_same ns h (top_type s) = refl
  normal_same ns h (int_type s) = refl
  normal_same ns h (char_type s) = refl
  normal_same ns h (string_type s) = refl
  normal_same ns h (bool_type s) = refl
  normal_same ns h (use_type s n) = ap meant_type (h.each n.0)
  normal_same ns h (both_type s t) = ap (Chan Both) (normal_same ns h t)
  normal_same ns h (read_type s t) = ap (Chan Read) (normal_same ns h t)
  normal_same ns h (write_type s t) = ap (Chan Write) (normal_same ns h t)
  normal_same ns h (respond_type s t) = ap (Chan Respond) (normal_same ns h t)
  normal_same ns h (fields_type s bs ts ls) =
      three Fields (normal_binders_same ns h bs) (normal_types_same ns (same_under ns bs h) ts) (normal_labels_same ns (same_under ns bs h) ls)
  normal_same ns h (apply_type s id ts) = ap₂ apply_head (ap meant_head (h.each id.name.0)) (normal_types_same ns h ts)
  normal_same ns h (rec_type s id t) = ap Rec (normal_same ns (same_further id.name.0 Free Free refl h) t)

  normal_types_same : (ns : List (List ℕ)) {c d : PlainContext} → SameMeanings c d → (ts : TypeTrees) → normal_types ns c ts ≡ normal_types ns d ts
  normal_types_same ns h no_types = refl
  normal_types_same ns h (more_types ts t) = ap₂ and_type (normal_types_same ns h ts) (normal_same ns h t)

  normal_labels_same : (ns : List (List ℕ)) {c d : PlainContext} → SameMeanings c d → (ls : LabelledTypes) → normal_labels ns c ls ≡ normal_labels ns d ls
  normal_labels_same ns h no_labelled_types = refl
  normal_labels_same ns h (more_labelled_types ls id t) = ap₂ (with_labelled_type ns id.name.0) (normal_same ns h t) (normal_labels_same ns h ls)

  normal_binders_same : (ns : List (List ℕ)) {c d : PlainContext} → SameMeanings c d → (bs : TypeBinders) → normal_binders ns c bs ≡ normal_binders ns d bs
  normal_binders_same ns h no_binders = refl
  normal_binders_same ns h (more_binders bs b) = ap₂ and_bound (normal_binders_same ns h bs) (normal_binder_same ns (same_under ns bs h) b)

  normal_binder_same : (ns : List (List ℕ)) {c d : PlainContext} → SameMeanings c d → (b : TypeBinder) → normal_binder ns c b ≡ normal_binder ns d b
  normal_binder_same ns h (type_binder s id k unbounded) = refl
  normal_binder_same ns h (type_binder s id k (bound t)) = ap (λ u. kind_bound k (bound_by u)) (normal_same ns h t)

mutual
  pub stops_same : (ns : List (List ℕ)) {c d : PlainContext} → SameMeanings c d → (t : TypeTree) → kind_stops ns c t ≡ kind_stops ns d t
  stops_same ns h (top_type s) = refl
  stops_same ns h (int_type s) = refl
  stops_same ns h (char_type s) = refl
  stops_same ns h (string_type s) = refl
  stops_same ns h (bool_type s) = refl
  stops_same ns h (use_type s n) = ap (use_stops s) (h.each n.0)
  stops_same ns h (both_type s t) = stops_same ns h t
  stops_same ns h (read_type s t) = stops_same ns h t
  stops_same ns h (write_type s t) = stops_same ns h t
  stops_same ns h (respond_type s t) = stops_same ns h t
  stops_same ns h (fields_type s bs ts ls) =
      three (λ x y z. x ++ y ++ z) (binders_stops_same ns h bs) (types_stops_same ns (same_under ns bs h) ts) (labels_stops_same ns (same_under ns bs h) ls)
  stops_same ns h (apply_type s id ts) = ap₂ (λ x y. apply_stops s x (count_trees ts) ++ y) (h.each id.name.0) (types_stops_same ns h ts)
  stops_same ns h (rec_type s id t) = stops_same ns (same_further id.name.0 Free Free refl h) t

  pub types_stops_same : (ns : List (List ℕ)) {c d : PlainContext} → SameMeanings c d → (ts : TypeTrees) → types_stops ns c ts ≡ types_stops ns d ts
  types_stops_same ns h no_types = refl
  types_stops_same ns h (more_types ts t) = ap₂ (λ x y. x ++ y) (types_stops_same ns h ts) (stops_same ns h t)

  pub labels_stops_same : (ns : List (List ℕ)) {c d : PlainContext} → SameMeanings c d → (ls : LabelledTypes) → labels_stops ns c ls ≡ labels_stops ns d ls
  labels_stops_same ns h no_labelled_types = refl
  labels_stops_same ns h (more_labelled_types ls id t) = ap₂ (λ x y. x ++ y) (labels_stops_same ns h ls) (stops_same ns h t)

  binders_stops_same : (ns : List (List ℕ)) {c d : PlainContext} → SameMeanings c d → (bs : TypeBinders) → binders_stops ns c bs ≡ binders_stops ns d bs
  binders_stops_same ns h no_binders = refl
  binders_stops_same ns h (more_binders bs b) = ap₂ (λ x y. x ++ y) (binders_stops_same ns h bs) (binder_stops_same ns (same_under ns bs h) b)

  pub binder_stops_same : (ns : List (List ℕ)) {c d : PlainContext} → SameMeanings c d → (b : TypeBinder) → binder_stops ns c b ≡ binder_stops ns d b
  binder_stops_same ns h (type_binder s id k unbounded) = refl
  binder_stops_same ns h (type_binder s id k (bound t)) = ap₂ (bound_stops id k) (stops_same ns h t) (normal_same ns h t)
