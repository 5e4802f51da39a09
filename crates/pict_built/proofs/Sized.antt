-- A process within the bounds of objects has an object within a limit, or each object of it is beyond.
use Rattle.std.proofs.Common.{◌≡◌, ℕ, ℤ, pos, negsuc, ◌<◌, ◌≤◌, ◌^◌, ◌⊎◌, inl, inr, List, [], ◌∷◌, map, length, FitsSigned, IsTrue, refl, sym, ◌∙◌, ap, subst, arith}
use Rattle.std.specs.Int.{w64}
use Rattle.std.specs.List.{AllByRecursion, list_any}
use Rattle.std.specs.Str.{bytes_eq}
use Rattle.std.proofs.lemmas.Bool.{cases_lt}
use Rattle.pict_syntax.specs.declared.name.Name.{Name}
use Rattle.pict_syntax.specs.Names.{text_of}
use Rattle.pict_syntax.specs.Labels.{in_label_order, by_number}
use Rattle.pict_core.specs.Term.{Val, Vals, Labelled, Pat, Pats, LabelledPats, Bind, Any, RecordPat, no_pats, more_pats, no_labelled_pats, more_labelled_pats, Process, Var, Chan, Int, Char, Boolean, Text, PrimitiveVal, Record, no_vals, more_vals, no_labelled, more_labelled, Zero, Par, New, Out, In, If}
use Rattle.pict_object.specs.Objects.{labels_of, AreLabels, object_bytes, how_many_vals, how_many_labelled, how_many_pats, how_many_labelled_pats}
use Rattle.pict_object.specs.Fits.{ValueHasBytes, ValuesHaveBytes, LabelledHaveBytes, PatternHasBytes, PatternsHaveBytes, LabelledPatternsHaveBytes, HasBytes, HasObject}
use Rattle.pict_object.specs.Cores.{IsObjectCore, IsObject}
use Rattle.pict_object.specs.Collected.{numbers, distinct_after}
use Rattle.pict_object.proofs.Encoded.{are_labels}
use Rattle.pict_object.proofs.Tables.{tables_are_one}
use Rattle.pict_object.proofs.Objects.{one_object}
use Rattle.pict_built.specs.Laws.{ObjectsAreSized}
use Rattle.pict_built.proofs.Choices.{Decided, both, all_three, all_four, true_or_not, all_or_not, less_or_not}

-- ---- a table of labels

abbrev unit_for : ℕ → Name × Unit {0}
unit_for label = (record { 0 = label }, tt)

abbrev named : ℕ × Unit {0} → Name × Unit {0}
named x = (record { 0 = x.0 }, x.1)

numbers_back : (labels : List ℕ) → numbers (map unit_for labels) ≡ labels
numbers_back [] = refl
numbers_back (label ∷ labels) = ap (λ ls. label ∷ ls) (numbers_back labels)

named_back : (xs : List (ℕ × Unit {0})) → by_number (map named xs) ≡ xs
named_back [] = refl
named_back (x ∷ xs) = ap (λ ys. x ∷ ys) (named_back xs)

record HasTable (names : List (List ℕ)) (p : Process) : Type 0 where
  pub table : List (List ℕ)
  pub labels : AreLabels names p table

has_table : (names : List (List ℕ)) (p : Process) → IsObjectCore names p → HasTable names p
has_table names p core =
    let collected : List (Name × Unit {0}) = map unit_for (labels_of p) in
    let sorted : List (Name × Unit {0}) = map named (in_label_order names (by_number collected)) in
    let table : List (List ℕ) = distinct_after [] (map (text_of names) (numbers sorted)) in
    record { table = table; labels = are_labels names p collected sorted table core.identifiers (numbers_back (labels_of p)) (named_back (in_label_order names (by_number collected))) refl }

-- ---- room in the bytes

fits_or_not : (n : ℤ) → Decided (FitsSigned w64 n)
fits_or_not (pos n) = elim (cases_lt n (2 ^ 63)) [ inl less ↦ inl (omega (arith, less)) | inr more ↦ inr (λ fits. omega (arith, more, fits)) ]
fits_or_not (negsuc n) = elim (cases_lt n (2 ^ 63)) [ inl less ↦ inl (omega (arith, less)) | inr more ↦ inr (λ fits. omega (arith, more, fits)) ]

module _ (P : ℕ → Type 0) (placed_or_not : (label : ℕ) → Decided (P label)) where
  mutual
    value : (v : Val) → Decided (ValueHasBytes P v)
    value (Var level) = less_or_not level (2 ^ 32)
    value (Chan number) = inr (λ h. h)
    value (Int n) = fits_or_not n
    value (Char byte) = inl tt
    value (Boolean b) = inl tt
    value (Text bytes) = less_or_not (length bytes) (2 ^ 32)
    value (PrimitiveVal p) = inl tt
    value (Record vs ls) = all_four (less_or_not (how_many_vals vs) (2 ^ 32)) (less_or_not (how_many_labelled ls) (2 ^ 32)) (values vs) (labelled ls)

    values : (vs : Vals) → Decided (ValuesHaveBytes P vs)
    values no_vals = inl tt
    values (more_vals v vs) = both (value v) (values vs)

    labelled : (ls : Labelled) → Decided (LabelledHaveBytes P ls)
    labelled no_labelled = inl tt
    labelled (more_labelled label v ls) = all_three (placed_or_not label) (value v) (labelled ls)

  mutual
    pattern : (p : Pat) → Decided (PatternHasBytes P p)
    pattern Bind = inl tt
    pattern Any = inl tt
    pattern (RecordPat ps ls) = all_four (less_or_not (how_many_pats ps) (2 ^ 32)) (less_or_not (how_many_labelled_pats ls) (2 ^ 32)) (patterns ps) (labelled_patterns ls)

    patterns : (ps : Pats) → Decided (PatternsHaveBytes P ps)
    patterns no_pats = inl tt
    patterns (more_pats p ps) = both (pattern p) (patterns ps)

    labelled_patterns : (ls : LabelledPats) → Decided (LabelledPatternsHaveBytes P ls)
    labelled_patterns no_labelled_pats = inl tt
    labelled_patterns (more_labelled_pats label p ls) = all_three (placed_or_not label) (pattern p) (labelled_patterns ls)

  process : (p : Process) → Decided (HasBytes P p)
  process Zero = inl tt
  process (Par p q) = both (process p) (process q)
  process (New p) = process p
  process (Out chan message at) = both (value chan) (value message)
  process (In chan replicated pat body) = all_three (value chan) (pattern pat) (process body)
  process (If test p q) = all_three (value test) (process p) (process q)

object_or_not : (names table : List (List ℕ)) (p : Process) → Decided (HasObject names table p)
object_or_not names table p =
    by (less_or_not (length table) (2 ^ 32)) (all_or_not (λ text. less_or_not (length text) (2 ^ 32)) table) (process (λ label. IsTrue (list_any (bytes_eq (text_of names label)) table)) (λ label. true_or_not (list_any (bytes_eq (text_of names label)) table)) p)
  where
    by : Decided (length table < 2 ^ 32) → Decided (AllByRecursion (λ text. length text < 2 ^ 32) table) → Decided (HasBytes (λ label. IsTrue (list_any (bytes_eq (text_of names label)) table)) p) → Decided (HasObject names table p)
    by (inl few) (inl short) (inl labels) = inl (record { few = few; short = short; labels = labels })
    by (inl few) (inl short) (inr never) = inr (λ f. never f.labels)
    by (inl few) (inr never) labels = inr (λ f. never f.short)
    by (inr never) short labels = inr (λ f. never f.few)

-- ---- its size

module _ (names : List (List ℕ)) (p : Process) (limit : ℕ) (core : IsObjectCore names p) (t : HasTable names p) where
  abbrev Answer : Type 0
  Answer = ((bytes : List ℕ) × IsObject names bytes p × (length bytes ≤ limit)) ⊎ ((bytes : List ℕ) → IsObject names bytes p → limit < length bytes)

  of_size : HasObject names t.table p → Answer
  of_size fits =
      let bytes : List ℕ = object_bytes names t.table p in
      let f : IsObject names bytes p = record { core = core; table = t.table; labels = t.labels; fits = fits; is = refl } in
      elim (cases_lt limit (length bytes)) [
        | inl more ↦ inr (λ others g. subst (λ b. limit < length b) (one_object names bytes others p p f g refl) more)
        | inr few ↦ inl (bytes, f, few)
      ]

  has_none : (HasObject names t.table p → ⊥) → Answer
  has_none never = inr (λ bytes f. absurd (never (subst (λ table. HasObject names table p) (tables_are_one names p f.table t.table f.labels t.labels) f.fits)))

  by_room : Answer
  by_room = elim (object_or_not names t.table p) [ inl fits ↦ of_size fits | inr never ↦ has_none never ]

pub sized : ObjectsAreSized
sized names p limit core = by_room names p limit core (has_table names p core)
