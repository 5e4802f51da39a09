-- An object is of one process, but for its places, and a process has one object.
use Rattle.std.proofs.Common.{◌≡◌, ℕ, List, [], ◌∷◌, ◌++◌, length, Option, Some, None, refl, sym, ◌∙◌, ap, ap₂, subst, slice_get, unwrap_or}
use Rattle.std.specs.Prelude.{◌↔◌, IsTrue}
use Rattle.std.specs.List.{list_any, flat_map}
use Rattle.std.specs.Str.{bytes_eq}
use Rattle.pict_syntax.specs.Names.{text_of, HasNoRepeats}
use Rattle.pict_core.specs.Term.{Process, Zero, Par, New, Out, In, If}
use Rattle.pict_object.specs.Objects.{process_bytes, value_bytes, pattern_bytes, labels_of, labels_of_value, labels_of_pattern, AreLabels, place_in, object_bytes, bare, header, count_bytes, text_bytes, input_byte}
use Rattle.pict_object.specs.Laws.{ObjectsHaveOneCore, CoresHaveOneObject}
use Rattle.pict_object.proofs.Tables.{not_itself, after_it, tables_are_one}
use Rattle.pict_object.proofs.Whole.{objects_are_read_once}

there : (o : Option (List ℕ)) → (unwrap_or o [] ≡ [] → ⊥) → o ≡ Some (unwrap_or o [])
there None h = absurd (h refl)
there (Some text) h = refl

-- a number with a text stands at its place
pub has_text : (names : List (List ℕ)) (label : ℕ) → (text_of names label ≡ [] → ⊥) → slice_get names label ≡ Some (text_of names label)
has_text names label h = there (slice_get names label) h

-- labels of a table with one text are one
pub own_label : (names : List (List ℕ)) → HasNoRepeats names → (p : Process) (table : List (List ℕ)) → AreLabels names p table
    → (l m : ℕ) → IsTrue (list_any (bytes_eq (text_of names l)) table) → text_of names l ≡ text_of names m → l ≡ m
own_label names distinct p table f l m k e =
    let some : text_of names l ≡ [] → ⊥ = λ h. not_itself [] (after_it [] [] table f.rise (subst (λ t. IsTrue (list_any (bytes_eq t) table)) h k)) in
    distinct l m (text_of names l) (has_text names l some) (has_text names m (λ h. some (e ∙ h)) ∙ ap Some (sym e))

pub one_core : ObjectsHaveOneCore
one_core names distinct bytes p q f g =
    (objects_are_read_once names f.table g.table p q (own_label names distinct p f.table f.labels) f.fits g.fits (sym f.is ∙ g.is)).1

-- places have no bytes and no labels
pub bare_bytes : (place : ℕ → ℕ) (p : Process) → process_bytes place (bare p) ≡ process_bytes place p
bare_bytes place Zero = refl
bare_bytes place (Par p q) = ap₂ (λ a b. 1 ∷ (a ++ b)) (bare_bytes place p) (bare_bytes place q)
bare_bytes place (New p) = ap (λ a. 2 ∷ a) (bare_bytes place p)
bare_bytes place (Out chan message at) = refl
bare_bytes place (In chan replicated pattern body) = ap (λ a. input_byte replicated ∷ (value_bytes place chan ++ (pattern_bytes place pattern ++ a))) (bare_bytes place body)
bare_bytes place (If test p q) = ap₂ (λ a b. 6 ∷ (value_bytes place test ++ (a ++ b))) (bare_bytes place p) (bare_bytes place q)

pub bare_labels : (p : Process) → labels_of (bare p) ≡ labels_of p
bare_labels Zero = refl
bare_labels (Par p q) = ap₂ (λ a b. a ++ b) (bare_labels p) (bare_labels q)
bare_labels (New p) = bare_labels p
bare_labels (Out chan message at) = refl
bare_labels (In chan replicated pattern body) = ap (λ a. labels_of_value chan ++ (labels_of_pattern pattern ++ a)) (bare_labels body)
bare_labels (If test p q) = ap₂ (λ a b. labels_of_value test ++ (a ++ b)) (bare_labels p) (bare_labels q)

same_labels : (names : List (List ℕ)) (p q : Process) (table : List (List ℕ)) → labels_of p ≡ labels_of q → AreLabels names p table → AreLabels names q table
same_labels names p q table e f = record {
  rise = f.rise;
  exactly = λ text. subst (λ labels. IsTrue (list_any (bytes_eq text) table) ↔ IsTrue (list_any (λ label. bytes_eq text (text_of names label)) labels)) e (f.exactly text);
}

pub one_object : CoresHaveOneObject
one_object names bytes others p q f g e =
    let tables = tables_are_one names q f.table g.table (same_labels names p q f.table (sym (bare_labels p) ∙ ap labels_of e ∙ bare_labels q) f.labels) g.labels in
    let body = λ (table : List (List ℕ)). sym (bare_bytes (place_in names table) p) ∙ ap (process_bytes (place_in names table)) e ∙ bare_bytes (place_in names table) q in
    f.is ∙ ap (λ a. header ++ (count_bytes (length f.table) ++ (flat_map text_bytes f.table ++ a))) (body f.table) ∙ ap (λ t. object_bytes names t q) tables ∙ sym g.is
