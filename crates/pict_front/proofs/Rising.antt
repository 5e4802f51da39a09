-- Labelled items put in the order of their labels, where these are identifiers and no label stands twice.
use Rattle.std.proofs.Common.{◌≡◌, ◌≢◌, ℕ, Bool, true, false, List, [], ◌∷◌, ◌++◌, Some, refl, sym, ◌∙◌, ap, slice_get}
use Rattle.std.specs.Prelude.{if◌then◌else◌}
use Rattle.std.specs.Ordering.{is_lt, nat_cmp, ordering_then}
use Rattle.std.specs.declared.cmp.Ordering.{Ordering}
use Rattle.std.specs.declared.cmp.Ordering.TheVariants.{Less, Equal, Greater}
use Rattle.std.specs.Cmp.Lexicographic.{slice_cmp}
use Rattle.std.specs.FinMap.{nat_cmp-IsAntisymmetric, slice_cmp-IsAntisymmetric}
use Rattle.pict_syntax.specs.Names.{text_of, HasNoRepeats}
use Rattle.pict_syntax.specs.Labels.{label_cmp, StandsBefore, with_label, with_labels, in_label_order}
use Rattle.pict_syntax.proofs.LabelLemmas.{less_is, stands_after}
use Rattle.pict_core.specs.Term.{Val, Record}
use Rattle.pict_core.specs.Plain.{vals_of}
use Rattle.pict_translation.specs.Arguments.{labelled_of}
use Rattle.pict_translation.proofs.PatternLemmas.{either}
use Rattle.pict_trace.specs.Readable.{IsIdentifier}
use Rattle.pict_trace.specs.Ordered.{IsOrdered, AreOrdered, LabelsRise}

-- the label is in the list of names, and is an identifier
abbrev pub IsLabel : List (List ℕ) → ℕ → Type 0
IsLabel names l = (slice_get names l ≡ Some (text_of names l)) × IsIdentifier (text_of names l)

abbrev pub AllOrdered : List (List ℕ) → List Val → Type 0
AllOrdered names [] = Unit {0}
AllOrdered names (v ∷ vs) = IsOrdered names v × AllOrdered names vs

-- items under labels, of each of which Q holds
abbrev pub FieldsHold : {A : Type 0} → List (List ℕ) → (A → Type 0) → List (ℕ × A) → Type 0
FieldsHold names Q [] = Unit {0}
FieldsHold names Q (f ∷ fs) = (IsLabel names f.0 × Q f.1) × FieldsHold names Q fs

abbrev pub FieldsOrdered : List (List ℕ) → List (ℕ × Val) → Type 0
FieldsOrdered names fs = FieldsHold names (IsOrdered names) fs

-- the labels come one after the other, and after this text
abbrev pub Rises : {A : Type 0} → List (List ℕ) → List ℕ → List (ℕ × A) → Type 0
Rises names before [] = Unit {0}
Rises names before (f ∷ fs) = (slice_cmp nat_cmp before (text_of names f.0) ≡ Less) × Rises names (text_of names f.0) fs

-- none of the fields has this label
abbrev pub Apart : {A : Type 0} → ℕ → List (ℕ × A) → Type 0
Apart l [] = Unit {0}
Apart l (f ∷ fs) = (l ≢ f.0) × Apart l fs

-- no label stands twice
abbrev pub AreApart : {A : Type 0} → List (ℕ × A) → Type 0
AreApart [] = Unit {0}
AreApart (f ∷ fs) = Apart f.0 fs × AreApart fs

-- none of these labels stands among the others
abbrev AllApart : {A : Type 0} → List (ℕ × A) → List (ℕ × A) → Type 0
AllApart [] others = Unit {0}
AllApart (f ∷ fs) others = Apart f.0 others × AllApart fs others

module _ (names : List (List ℕ)) (distinct : HasNoRepeats names) where
  same_label : (l m : ℕ) → IsLabel names l → IsLabel names m → text_of names l ≡ text_of names m → l ≡ m
  same_label l m a b e = distinct l m (text_of names l) a.0 (b.0 ∙ ap Some (sym e))

  by_text : (l m : ℕ) (o : Ordering) → IsLabel names l → IsLabel names m → l ≢ m → slice_cmp nat_cmp (text_of names l) (text_of names m) ≡ o → ordering_then o (nat_cmp l m) ≡ Less → o ≡ Less
  by_text l m Less a b d e h = refl
  by_text l m Equal a b d e h = absurd (d (same_label l m a b (slice_cmp-IsAntisymmetric nat_cmp-IsAntisymmetric (text_of names l) (text_of names m) e)))
  by_text l m Greater a b d e h = absurd cc

  -- of two labels the one that stands before has the text that comes before
  text_before : (l m : ℕ) → IsLabel names l → IsLabel names m → l ≢ m → StandsBefore names l m → slice_cmp nat_cmp (text_of names l) (text_of names m) ≡ Less
  text_before l m a b d h = by_text l m (slice_cmp nat_cmp (text_of names l) (text_of names m)) a b d refl h

  -- an identifier comes after the empty text
  after_none : (text : List ℕ) → IsIdentifier text → slice_cmp nat_cmp [] text ≡ Less
  after_none [] is = absurd is.0
  after_none (x ∷ xs) is = refl

  module _ {A : Type 0} (Q : A → Type 0) where
    put_fields : (l : ℕ) (v : A) (fs : List (ℕ × A)) → IsLabel names l → Q v → FieldsHold names Q fs → FieldsHold names Q (with_label names l v fs)
    put_fields l v [] a o fields = ((a, o), tt)
    put_fields l v (f ∷ fs) a o fields =
        either (FieldsHold names Q) (is_lt (label_cmp names l f.0)) ((l, v) ∷ f ∷ fs) (f ∷ with_label names l v fs) ((a, o), fields) (fields.0, put_fields l v fs a o fields.1)

    put_rises : (before : List ℕ) (l : ℕ) (v : A) (fs : List (ℕ × A)) → IsLabel names l → slice_cmp nat_cmp before (text_of names l) ≡ Less → Apart l fs → FieldsHold names Q fs → Rises names before fs → Rises names before (with_label names l v fs)
    put_rises before l v [] a less free fields rise = (less, tt)
    put_rises before l v (f ∷ fs) a less free fields rise =
        go (is_lt (label_cmp names l f.0)) refl (λ later. put_rises (text_of names f.0) l v fs a later free.1 fields.1 rise.1)
      where
        go : (b : Bool) → is_lt (label_cmp names l f.0) ≡ b → (slice_cmp nat_cmp (text_of names f.0) (text_of names l) ≡ Less → Rises names (text_of names f.0) (with_label names l v fs))
            → Rises names before (if b then (l, v) ∷ f ∷ fs else f ∷ with_label names l v fs)
        go true h rest = (less, (text_before l f.0 a fields.0.0 free.0 (less_is (label_cmp names l f.0) h), rise.1))
        go false h rest = (rise.0, rest (text_before f.0 l fields.0.0 a (λ e. free.0 (sym e)) (stands_after names l f.0 (label_cmp names l f.0) refl h free.0)))

    put_apart : (m l : ℕ) (v : A) (fs : List (ℕ × A)) → m ≢ l → Apart m fs → Apart m (with_label names l v fs)
    put_apart m l v [] d free = (d, tt)
    put_apart m l v (f ∷ fs) d free = either (Apart m) (is_lt (label_cmp names l f.0)) ((l, v) ∷ f ∷ fs) (f ∷ with_label names l v fs) (d, free) (free.0, put_apart m l v fs d free.1)

    all_apart_put : (ws : List (ℕ × A)) (l : ℕ) (v : A) (fs : List (ℕ × A)) → Apart l ws → AllApart ws fs → AllApart ws (with_label names l v fs)
    all_apart_put [] l v fs d free = tt
    all_apart_put (w ∷ ws) l v fs d free = (put_apart w.0 l v fs (λ e. d.0 (sym e)) free.0, all_apart_put ws l v fs d.1 free.1)

    put_all : (sorted ws : List (ℕ × A)) → FieldsHold names Q sorted → Rises names [] sorted → FieldsHold names Q ws → AllApart ws sorted → AreApart ws → FieldsHold names Q (with_labels names sorted ws) × Rises names [] (with_labels names sorted ws)
    put_all sorted [] s rise p free d = (s, rise)
    put_all sorted (w ∷ ws) s rise p free d =
        put_all (with_label names w.0 w.1 sorted) ws (put_fields w.0 w.1 sorted p.0.0 p.0.1 s) (put_rises [] w.0 w.1 sorted p.0.0 (after_none (text_of names w.0) p.0.0.1) free.0 s rise)
        p.1 (all_apart_put ws w.0 w.1 sorted d.0 free.1) d.1

    none_apart : (ws : List (ℕ × A)) → AllApart ws []
    none_apart [] = tt
    none_apart (w ∷ ws) = (tt, none_apart ws)

    pub in_order : (ws : List (ℕ × A)) → FieldsHold names Q ws → AreApart ws → FieldsHold names Q (in_label_order names ws) × Rises names [] (in_label_order names ws)
    in_order ws p d = put_all [] ws tt tt p (none_apart ws) d

  are_ordered : (vs : List Val) → AllOrdered names vs → AreOrdered names (vals_of vs)
  are_ordered [] o = tt
  are_ordered (v ∷ vs) o = (o.0, are_ordered vs o.1)

  labels_rise : (before : List ℕ) (fs : List (ℕ × Val)) → FieldsOrdered names fs → Rises names before fs → LabelsRise names before (labelled_of fs)
  labels_rise before [] o rise = tt
  labels_rise before (f ∷ fs) o rise = (o.0.0.1, rise.0, o.0.1, labels_rise (text_of names f.0) fs o.1 rise.1)

  pub record_ordered : (vs : List Val) (ws : List (ℕ × Val)) → AllOrdered names vs → FieldsOrdered names ws → AreApart ws → IsOrdered names (Record (vals_of vs) (labelled_of (in_label_order names ws)))
  record_ordered vs ws o p d = let s = in_order (IsOrdered names) ws p d in (are_ordered vs o, labels_rise [] (in_label_order names ws) s.0 s.1)

-- ---- one more at the end

pub all_ordered_more : (names : List (List ℕ)) (vs : List Val) (v : Val) → AllOrdered names vs → IsOrdered names v → AllOrdered names (vs ++ v ∷ [])
all_ordered_more names [] v o one = (one, tt)
all_ordered_more names (w ∷ vs) v o one = (o.0, all_ordered_more names vs v o.1 one)

pub fields_hold_more : {A : Type 0} (names : List (List ℕ)) (Q : A → Type 0) (fs : List (ℕ × A)) (l : ℕ) (v : A) → FieldsHold names Q fs → IsLabel names l → Q v → FieldsHold names Q (fs ++ (l, v) ∷ [])
fields_hold_more names Q [] l v o is one = ((is, one), tt)
fields_hold_more names Q (f ∷ fs) l v o is one = (o.0, fields_hold_more names Q fs l v o.1 is one)

pub apart_more : {A : Type 0} (m : ℕ) (fs : List (ℕ × A)) (l : ℕ) (v : A) → Apart m fs → m ≢ l → Apart m (fs ++ (l, v) ∷ [])
apart_more m [] l v o d = (d, tt)
apart_more m (f ∷ fs) l v o d = (o.0, apart_more m fs l v o.1 d)

pub are_apart_more : {A : Type 0} (fs : List (ℕ × A)) (l : ℕ) (v : A) → AreApart fs → Apart l fs → AreApart (fs ++ (l, v) ∷ [])
are_apart_more [] l v o d = (tt, tt)
are_apart_more (f ∷ fs) l v o d = (apart_more f.0 fs l v o.0 (λ e. d.0 (sym e)), are_apart_more fs l v o.1 d.1)
