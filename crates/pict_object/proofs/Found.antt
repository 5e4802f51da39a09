-- What is read of values and patterns stands there, and meets the bounds of objects.
use Rattle.std.proofs.Common.{◌≡◌, ℕ, zero, suc, ◌+◌, ◌^◌, ◌<◌, ◌≤◌, true, false, cond, eqb, ltb, List, [], ◌∷◌, ◌++◌, length, Option, Some, None, refl, sym, ap, subst, ◌∙◌, slice_get, append_assoc, arith}
use Rattle.std.specs.Prelude.{IfSome}
use Rattle.std.specs.Int.{w32, w64, to_be_bytes, cast_signed}
use Rattle.std.proofs.lemmas.Bool.{eqb-true, ltb-true, ltb-false}
use Rattle.std.proofs.lemmas.Int.{of_z-to_z}
use Rattle.pict_syntax.specs.declared.name.Name.{Name}
use Rattle.pict_syntax.specs.Primitives.{primitives}
use Rattle.pict_syntax.proofs.Numbered.{number_found}
use Rattle.pict_core.specs.Term.{Val, Labelled, Pat, Var, Int, Char, Boolean, Text, PrimitiveVal, Record, no_labelled, more_labelled, Bind, Any, RecordPat}
use Rattle.pict_core.specs.Closed.{IsOver, AreOver, LabelledOver, Lacks, IsDistinct}
use Rattle.pict_core.specs.Plain.{vals_of, labelled_of, pats_of, labelled_pats_of}
use Rattle.pict_translation.specs.Within.{Within, AreWithin, LabelledWithin, PatWithin, PatsWithin, LabelledPatsWithin}
use Rattle.pict_object.specs.Objects.{count_bytes, how_many_vals, how_many_labelled, how_many_pats, how_many_labelled_pats, value_bytes, values_bytes, labelled_bytes, pattern_bytes, patterns_bytes, labelled_patterns_bytes}
use Rattle.pict_object.specs.Fits.{ValueHasBytes, ValuesHaveBytes, LabelledHaveBytes, PatternHasBytes, PatternsHaveBytes, LabelledPatternsHaveBytes}
use Rattle.pict_object.specs.Cores.{RiseAfter, Rise, field_labels, pattern_field_labels, IsRising, AreRising, FieldsAreRising, PatternIsRising, PatternsAreRising, PatternFieldsAreRising}
use Rattle.pict_object.specs.Reading.{◌>>=◌, number_at, byte_at, text_at, label_in, label_at, parts_at, counted_at, fields_at, labelled_at, variable_at, int_at, char_at, string_at, primitive_at, simple_at, nothing_at, record_at, tagged_value_at, value_at, record_pattern_at, tagged_pattern_at, pattern_at}
use Rattle.pict_object.proofs.Fronts.{IsBytes, IsBytes-rest, Takes, takes_none, takes_both, takes_tag, if_then, if_not, if_either, if_weaker, wide32, wide64, IsNumberRead, number_read, signed_fits, IsByteRead, byte_read, IsTextRead, text_read}

-- what an option has
has : {A : Type 0} (o : Option A) → IfSome o (λ x. o ≡ Some x)
has None = tt
has (Some x) = refl

-- ---- labels that are read are of this list, which rises

-- labels at places, which have them back; each is one that may stand, and each comes after those at lower places
pub record AreFor (labels : List Name) (place : ℕ → ℕ) (Placed : ℕ → Type 0) (Before : ℕ → ℕ → Type 0) : Type 0 where
  pub back : (k : ℕ) → k < length labels → place (label_in labels k).0 ≡ k
  pub placed : (k : ℕ) → k < length labels → Placed (label_in labels k).0
  pub rise : (j k : ℕ) → j < k → k < length labels → Before (label_in labels j).0 (label_in labels k).0
  pub apart : (l m : ℕ) → Before l m → l ≡ m → ⊥
  pub trans : (l m n : ℕ) → Before l m → Before m n → Before l n

module _ (labels : List Name) (place : ℕ → ℕ) (Placed : ℕ → Type 0) (Before : ℕ → ℕ → Type 0) (are : AreFor labels place Placed Before) where
  abbrev IsLabelRead : ℕ → List ℕ → ℕ × List ℕ → Type 0
  IsLabelRead from bytes r = Takes bytes (count_bytes r.0) r.1 × (from ≤ r.0) × (r.0 < length labels)

  label_read : (from : ℕ) (bytes : List ℕ) → IsBytes bytes → IfSome (label_at labels from bytes) (IsLabelRead from bytes)
  unfolding label_at
  label_read from bytes fits =
      if_then (number_at w32 bytes) (λ n. cond (ltb n.0 from) None (cond (ltb n.0 (length labels)) (Some n) None)) (IsNumberRead w32 (2 ^ 32) bytes) (IsLabelRead from bytes)
      (number_read w32 (2 ^ 32) wide32 bytes fits) (λ n h.
      if_not (ltb n.0 from) (cond (ltb n.0 (length labels)) (Some n) None) (IsLabelRead from bytes) (λ e.
      if_either (ltb n.0 (length labels)) (Some n) None (IsLabelRead from bytes) (λ f. (h.0, ltb-false n.0 from e, ltb-true n.0 (length labels) f)) tt))

  -- labels that go up, and come after each at a place below this one
  abbrev GoUp : ℕ → List ℕ → Type 0
  GoUp from ls = Rise Before ls × ((j : ℕ) → j < from → RiseAfter Before (label_in labels j).0 ls)

  go_up : (from k : ℕ) (ls : List ℕ) → from ≤ k → k < length labels → GoUp (k + 1) ls → GoUp from ((label_in labels k).0 ∷ ls)
  go_up from k ls h m up = (up.1 k (omega arith), λ j less. (are.rise j k (omega (arith, less, h)) m, up.1 k (omega arith)))

  skip : (l m : ℕ) (ls : List ℕ) → Before l m → RiseAfter Before m ls → RiseAfter Before l ls
  skip l m [] b h = tt
  skip l m (x ∷ ls) b h = (are.trans l m x b h.0, h.1)

  rise_of : (l : ℕ) (ls : List ℕ) → RiseAfter Before l ls → Rise Before ls
  rise_of l [] h = tt
  rise_of l (x ∷ ls) h = h.1

  lacks : (l : ℕ) (ls : Labelled) → RiseAfter Before l (field_labels ls) → Lacks l ls
  lacks l no_labelled h = tt
  lacks l (more_labelled m v ls) h = (λ e. are.apart l m h.0 e, lacks l ls (skip l m (field_labels ls) h.0 h.1))

  distinct : (ls : Labelled) → Rise Before (field_labels ls) → IsDistinct ls
  distinct no_labelled h = tt
  distinct (more_labelled l v ls) h = (lacks l ls h, distinct ls (rise_of l (field_labels ls) h))

  -- ---- values

  abbrev pub IsValueRead : ℕ → ℕ → List ℕ → Val × List ℕ → Type 0
  IsValueRead n left bytes r = IsOver n 0 r.0 × Within left r.0 × ValueHasBytes Placed r.0 × IsRising Before r.0 × Takes bytes (value_bytes place r.0) r.1

  at_tag : (n left tag code : ℕ) (rest : List ℕ) (o : Option (Val × List ℕ)) → eqb tag code ≡ true → IfSome o (IsValueRead n left (code ∷ rest)) → IfSome o (IsValueRead n left (tag ∷ rest))
  at_tag n left tag code rest o e h = subst (λ z. IfSome o (IsValueRead n left (z ∷ rest))) (sym (eqb-true tag code e)) h

  variable_read : (n b left : ℕ) → b ≤ n → (rest : List ℕ) → IsBytes rest → IfSome (variable_at b rest) (IsValueRead n left (0x10 ∷ rest))
  unfolding variable_at
  variable_read n b left low rest fits =
      if_then (number_at w32 rest) (λ level. cond (ltb level.0 b) (Some (Var level.0, level.1)) None) (IsNumberRead w32 (2 ^ 32) rest) (IsValueRead n left (0x10 ∷ rest))
      (number_read w32 (2 ^ 32) wide32 rest fits) (λ level h.
      if_either (ltb level.0 b) (Some (Var level.0, level.1)) None (IsValueRead n left (0x10 ∷ rest)) (λ e.
      let less : level.0 < b = ltb-true level.0 b e in
      (omega (arith, less, low), tt, h.1, tt, takes_tag 0x10 rest (count_bytes level.0) level.1 h.0)) tt)

  int_read : (n left : ℕ) (rest : List ℕ) → IsBytes rest → IfSome (int_at rest) (IsValueRead n left (0x11 ∷ rest))
  unfolding int_at
  int_read n left rest fits =
      if_then (number_at w64 rest) (λ i. Some (Int (cast_signed w64 i.0), i.1)) (IsNumberRead w64 (2 ^ 64) rest) (IsValueRead n left (0x11 ∷ rest))
      (number_read w64 (2 ^ 64) wide64 rest fits) (λ i h. (
        tt,
        tt,
        signed_fits i.0 h.1,
        tt,
        subst (λ z. Takes (0x11 ∷ rest) (0x11 ∷ to_be_bytes w64 z) i.1) (sym (of_z-to_z w64 i.0 h.1)) (takes_tag 0x11 rest (to_be_bytes w64 i.0) i.1 h.0),
      ))

  char_read : (n left : ℕ) (rest : List ℕ) → IsBytes rest → IfSome (char_at rest) (IsValueRead n left (0x12 ∷ rest))
  unfolding char_at
  char_read n left rest fits =
      if_then (byte_at rest) (λ byte. Some (Char byte.0, byte.1)) (IsByteRead rest) (IsValueRead n left (0x12 ∷ rest))
      (byte_read rest fits) (λ byte h. (tt, tt, tt, tt, takes_tag 0x12 rest (byte.0 ∷ []) byte.1 h))

  string_read : (n left : ℕ) (rest : List ℕ) → IsBytes rest → IfSome (string_at rest) (IsValueRead n left (0x15 ∷ rest))
  unfolding string_at
  string_read n left rest fits =
      if_then (text_at rest) (λ text. Some (Text text.0, text.1)) (IsTextRead rest) (IsValueRead n left (0x15 ∷ rest))
      (text_read rest fits) (λ text h. (tt, tt, h.1, tt, takes_tag 0x15 rest (count_bytes (length text.0) ++ text.0) text.1 h.0))

  primitive_read : (n left : ℕ) (rest : List ℕ) → IsBytes rest → IfSome (primitive_at rest) (IsValueRead n left (0x16 ∷ rest))
  unfolding primitive_at
  primitive_read n left rest fits =
      if_then (byte_at rest) (λ number. slice_get primitives number.0 >>= λ p. Some (PrimitiveVal p, number.1)) (IsByteRead rest) (IsValueRead n left (0x16 ∷ rest))
      (byte_read rest fits) (λ number h.
      if_then (slice_get primitives number.0) (λ p. Some (PrimitiveVal p, number.1)) (λ p. slice_get primitives number.0 ≡ Some p) (IsValueRead n left (0x16 ∷ rest))
      (has (slice_get primitives number.0)) (λ p e.
      (tt, tt, tt, tt, subst (λ z. Takes (0x16 ∷ rest) (0x16 ∷ z ∷ []) number.1) (sym (number_found number.0 p e)) (takes_tag 0x16 rest (number.0 ∷ []) number.1 h))))

  simple_read : (n b left : ℕ) → b ≤ n → (tag : ℕ) (rest : List ℕ) → IsBytes rest → IfSome (simple_at b tag rest) (IsValueRead n left (tag ∷ rest))
  unfolding simple_at
  simple_read n b left low tag rest fits =
      let P : Val × List ℕ → Type 0 = IsValueRead n left (tag ∷ rest) in
      if_either (eqb tag 0x10) _ _ P (λ e. at_tag n left tag 0x10 rest (variable_at b rest) e (variable_read n b left low rest fits))
      (if_either (eqb tag 0x11) _ _ P (λ e. at_tag n left tag 0x11 rest (int_at rest) e (int_read n left rest fits))
      (if_either (eqb tag 0x12) _ _ P (λ e. at_tag n left tag 0x12 rest (char_at rest) e (char_read n left rest fits))
      (if_either (eqb tag 0x13) _ _ P (λ e. at_tag n left tag 0x13 rest (Some (Boolean false, rest)) e (tt, tt, tt, tt, record { parts = refl; fits = fits }))
      (if_either (eqb tag 0x14) _ _ P (λ e. at_tag n left tag 0x14 rest (Some (Boolean true, rest)) e (tt, tt, tt, tt, record { parts = refl; fits = fits }))
      (if_either (eqb tag 0x15) _ _ P (λ e. at_tag n left tag 0x15 rest (string_at rest) e (string_read n left rest fits))
      (if_either (eqb tag 0x16) _ _ P (λ e. at_tag n left tag 0x16 rest (primitive_at rest) e (primitive_read n left rest fits)) tt))))))

  -- the fields of a record, whose parts are read so
  module _ (n left : ℕ) (part : List ℕ → Option (Val × List ℕ)) (sound : (bytes : List ℕ) → IsBytes bytes → IfSome (part bytes) (IsValueRead n left bytes)) where
    abbrev AreValuesRead : ℕ → List ℕ → List Val × List ℕ → Type 0
    AreValuesRead m bytes r =
        AreOver n 0 (vals_of r.0) × AreWithin left (vals_of r.0) × ValuesHaveBytes Placed (vals_of r.0) × AreRising Before (vals_of r.0) × (how_many_vals (vals_of r.0) ≡ m) × Takes bytes (values_bytes place (vals_of r.0)) r.1

    values_read : (m : ℕ) (bytes : List ℕ) → IsBytes bytes → IfSome (parts_at part m bytes) (AreValuesRead m bytes)
    unfolding parts_at
    values_read zero bytes fits = (tt, tt, tt, tt, refl, takes_none bytes fits)
    values_read (suc m) bytes fits =
        if_then (part bytes) (λ first. parts_at part m first.1 >>= λ others. Some (first.0 ∷ others.0, others.1)) (IsValueRead n left bytes) (AreValuesRead (suc m) bytes)
        (sound bytes fits) (λ first h.
        if_then (parts_at part m first.1) (λ others. Some (first.0 ∷ others.0, others.1)) (AreValuesRead m first.1) (AreValuesRead (suc m) bytes)
        (values_read m first.1 h.4.fits) (λ others k.
        ((h.0, k.0), (h.1, k.1), (h.2, k.2), (h.3, k.3), omega (arith, k.4), takes_both bytes (value_bytes place first.0) first.1 (values_bytes place (vals_of others.0)) others.1 h.4 k.5)))

    abbrev AreCountedRead : List ℕ → List Val × List ℕ → Type 0
    AreCountedRead bytes r =
        AreOver n 0 (vals_of r.0) × AreWithin left (vals_of r.0) × ValuesHaveBytes Placed (vals_of r.0) × AreRising Before (vals_of r.0) × (how_many_vals (vals_of r.0) < 2 ^ 32)
        × Takes bytes (count_bytes (how_many_vals (vals_of r.0)) ++ values_bytes place (vals_of r.0)) r.1

    counted_read : (bytes : List ℕ) → IsBytes bytes → IfSome (counted_at part bytes) (AreCountedRead bytes)
    unfolding counted_at
    counted_read bytes fits =
        if_then (number_at w32 bytes) (λ m. parts_at part m.0 m.1) (IsNumberRead w32 (2 ^ 32) bytes) (AreCountedRead bytes)
        (number_read w32 (2 ^ 32) wide32 bytes fits) (λ m h.
        if_weaker (parts_at part m.0 m.1) (AreValuesRead m.0 m.1) (AreCountedRead bytes) (λ r k. (
          k.0,
          k.1,
          k.2,
          k.3,
          omega (arith, k.4, h.1),
          takes_both bytes (count_bytes (how_many_vals (vals_of r.0))) m.1 (values_bytes place (vals_of r.0)) r.1
              (subst (λ z. Takes bytes (count_bytes z) m.1) (sym k.4) h.0) k.5,
        ))
        (values_read m.0 m.1 h.0.fits))

    abbrev AreFieldsRead : ℕ → ℕ → List ℕ → List (Name × Val) × List ℕ → Type 0
    AreFieldsRead m from bytes r =
        LabelledOver n 0 (labelled_of r.0) × LabelledWithin left (labelled_of r.0) × LabelledHaveBytes Placed (labelled_of r.0) × FieldsAreRising Before (labelled_of r.0) × (how_many_labelled (labelled_of r.0) ≡ m)
        × GoUp from (field_labels (labelled_of r.0)) × Takes bytes (labelled_bytes place (labelled_of r.0)) r.1

    fields_read : (m from : ℕ) (bytes : List ℕ) → IsBytes bytes → IfSome (fields_at labels part m from bytes) (AreFieldsRead m from bytes)
    unfolding fields_at
    fields_read zero from bytes fits = (tt, tt, tt, tt, refl, (tt, λ j less. tt), takes_none bytes fits)
    fields_read (suc m) from bytes fits =
        if_then (label_at labels from bytes) (λ k. part k.1 >>= λ first. fields_at labels part m (k.0 + 1) first.1 >>= λ others. Some ((label_in labels k.0, first.0) ∷ others.0, others.1)) (IsLabelRead from bytes) (AreFieldsRead (suc m) from bytes)
        (label_read from bytes fits) (λ k l.
        if_then (part k.1) (λ first. fields_at labels part m (k.0 + 1) first.1 >>= λ others. Some ((label_in labels k.0, first.0) ∷ others.0, others.1)) (IsValueRead n left k.1) (AreFieldsRead (suc m) from bytes)
        (sound k.1 l.0.fits) (λ first h.
        if_then (fields_at labels part m (k.0 + 1) first.1) (λ others. Some ((label_in labels k.0, first.0) ∷ others.0, others.1)) (AreFieldsRead m (k.0 + 1) first.1) (AreFieldsRead (suc m) from bytes)
        (fields_read m (k.0 + 1) first.1 h.4.fits) (λ others f.
        let here : Takes bytes (count_bytes (place (label_in labels k.0).0)) k.1 = subst (λ z. Takes bytes (count_bytes z) k.1) (sym (are.back k.0 l.2)) l.0 in (
          (h.0, f.0),
          (h.1, f.1),
          (are.placed k.0 l.2, h.2, f.2),
          (h.3, f.3),
          omega (arith, f.4),
          go_up from k.0 (field_labels (labelled_of others.0)) l.1 l.2 f.5,
          takes_both bytes (count_bytes (place (label_in labels k.0).0)) k.1 (value_bytes place first.0 ++ labelled_bytes place (labelled_of others.0)) others.1 here
              (takes_both k.1 (value_bytes place first.0) first.1 (labelled_bytes place (labelled_of others.0)) others.1 h.4 f.6),
        ))))

    abbrev AreLabelledRead : List ℕ → List (Name × Val) × List ℕ → Type 0
    AreLabelledRead bytes r =
        LabelledOver n 0 (labelled_of r.0) × LabelledWithin left (labelled_of r.0) × LabelledHaveBytes Placed (labelled_of r.0) × FieldsAreRising Before (labelled_of r.0) × (how_many_labelled (labelled_of r.0) < 2 ^ 32)
        × Rise Before (field_labels (labelled_of r.0)) × Takes bytes (count_bytes (how_many_labelled (labelled_of r.0)) ++ labelled_bytes place (labelled_of r.0)) r.1

    labelled_read : (bytes : List ℕ) → IsBytes bytes → IfSome (labelled_at labels part bytes) (AreLabelledRead bytes)
    unfolding labelled_at
    labelled_read bytes fits =
        if_then (number_at w32 bytes) (λ m. fields_at labels part m.0 0 m.1) (IsNumberRead w32 (2 ^ 32) bytes) (AreLabelledRead bytes)
        (number_read w32 (2 ^ 32) wide32 bytes fits) (λ m h.
        if_weaker (fields_at labels part m.0 0 m.1) (AreFieldsRead m.0 0 m.1) (AreLabelledRead bytes) (λ r k. (
          k.0,
          k.1,
          k.2,
          k.3,
          omega (arith, k.4, h.1),
          k.5.0,
          takes_both bytes (count_bytes (how_many_labelled (labelled_of r.0))) m.1 (labelled_bytes place (labelled_of r.0)) r.1
              (subst (λ z. Takes bytes (count_bytes z) m.1) (sym k.4) h.0) k.6,
        ))
        (fields_read m.0 0 m.1 h.0.fits))

    record_read : (rest : List ℕ) → IsBytes rest → IfSome (record_at labels part rest) (IsValueRead n (suc left) (0x17 ∷ rest))
    unfolding record_at
    record_read rest fits =
        if_then (counted_at part rest) (λ vs. labelled_at labels part vs.1 >>= λ ls. Some (Record (vals_of vs.0) (labelled_of ls.0), ls.1)) (AreCountedRead rest) (IsValueRead n (suc left) (0x17 ∷ rest))
        (counted_read rest fits) (λ vs h.
        if_then (labelled_at labels part vs.1) (λ ls. Some (Record (vals_of vs.0) (labelled_of ls.0), ls.1)) (AreLabelledRead vs.1) (IsValueRead n (suc left) (0x17 ∷ rest))
        (labelled_read vs.1 h.5.fits) (λ ls k.
        let values : List ℕ = values_bytes place (vals_of vs.0) in
        let labelled : List ℕ = count_bytes (how_many_labelled (labelled_of ls.0)) ++ labelled_bytes place (labelled_of ls.0) in
        let both : Takes rest ((count_bytes (how_many_vals (vals_of vs.0)) ++ values) ++ labelled) ls.1 = takes_both rest (count_bytes (how_many_vals (vals_of vs.0)) ++ values) vs.1 labelled ls.1 h.5 k.6 in (
          (h.0, k.0, distinct (labelled_of ls.0) k.5),
          (h.1, k.1),
          (h.4, k.4, h.2, k.2),
          (h.3, k.3, k.5),
          takes_tag 0x17 rest (count_bytes (how_many_vals (vals_of vs.0)) ++ (values ++ labelled)) ls.1
              (subst (λ z. Takes rest z ls.1) (append_assoc (count_bytes (how_many_vals (vals_of vs.0))) values labelled) both),
        )))

  tagged_value_read : (n b left : ℕ) → b ≤ n → (fields : List ℕ → Option (Val × List ℕ)) → ((rest : List ℕ) → IsBytes rest → IfSome (fields rest) (IsValueRead n left (0x17 ∷ rest)))
      → (bytes : List ℕ) → IsBytes bytes → IfSome (tagged_value_at b fields bytes) (IsValueRead n left bytes)
  unfolding tagged_value_at
  tagged_value_read n b left low fields sound [] fits = tt
  tagged_value_read n b left low fields sound (tag ∷ rest) fits =
      if_either (eqb tag 0x17) (fields rest) (simple_at b tag rest) (IsValueRead n left (tag ∷ rest)) (λ e. at_tag n left tag 0x17 rest (fields rest) e (sound rest (IsBytes-rest tag rest fits)))
      (simple_read n b left low tag rest (IsBytes-rest tag rest fits))

  pub value_read : (n b : ℕ) → b ≤ n → (left : ℕ) (bytes : List ℕ) → IsBytes bytes → IfSome (value_at labels b left bytes) (IsValueRead n left bytes)
  unfolding value_at
  value_read n b low zero bytes fits = tagged_value_read n b zero low nothing_at (λ rest f. tt) bytes fits
  value_read n b low (suc left) bytes fits =
      tagged_value_read n b (suc left) low (record_at labels (value_at labels b left)) (record_read n left (value_at labels b left) (value_read n b low left)) bytes fits

  -- ---- patterns

  abbrev pub IsPatternRead : ℕ → List ℕ → Pat × List ℕ → Type 0
  IsPatternRead left bytes r = PatWithin left r.0 × PatternHasBytes Placed r.0 × PatternIsRising Before r.0 × Takes bytes (pattern_bytes place r.0) r.1

  at_pattern_tag : (left tag code : ℕ) (rest : List ℕ) (o : Option (Pat × List ℕ)) → eqb tag code ≡ true → IfSome o (IsPatternRead left (code ∷ rest)) → IfSome o (IsPatternRead left (tag ∷ rest))
  at_pattern_tag left tag code rest o e h = subst (λ z. IfSome o (IsPatternRead left (z ∷ rest))) (sym (eqb-true tag code e)) h

  module _ (left : ℕ) (part : List ℕ → Option (Pat × List ℕ)) (sound : (bytes : List ℕ) → IsBytes bytes → IfSome (part bytes) (IsPatternRead left bytes)) where
    abbrev ArePatternsRead : ℕ → List ℕ → List Pat × List ℕ → Type 0
    ArePatternsRead m bytes r =
        PatsWithin left (pats_of r.0) × PatternsHaveBytes Placed (pats_of r.0) × PatternsAreRising Before (pats_of r.0) × (how_many_pats (pats_of r.0) ≡ m) × Takes bytes (patterns_bytes place (pats_of r.0)) r.1

    patterns_read : (m : ℕ) (bytes : List ℕ) → IsBytes bytes → IfSome (parts_at part m bytes) (ArePatternsRead m bytes)
    unfolding parts_at
    patterns_read zero bytes fits = (tt, tt, tt, refl, takes_none bytes fits)
    patterns_read (suc m) bytes fits =
        if_then (part bytes) (λ first. parts_at part m first.1 >>= λ others. Some (first.0 ∷ others.0, others.1)) (IsPatternRead left bytes) (ArePatternsRead (suc m) bytes)
        (sound bytes fits) (λ first h.
        if_then (parts_at part m first.1) (λ others. Some (first.0 ∷ others.0, others.1)) (ArePatternsRead m first.1) (ArePatternsRead (suc m) bytes)
        (patterns_read m first.1 h.3.fits) (λ others k.
        ((h.0, k.0), (h.1, k.1), (h.2, k.2), omega (arith, k.3), takes_both bytes (pattern_bytes place first.0) first.1 (patterns_bytes place (pats_of others.0)) others.1 h.3 k.4)))

    abbrev ArePatternsCounted : List ℕ → List Pat × List ℕ → Type 0
    ArePatternsCounted bytes r =
        PatsWithin left (pats_of r.0) × PatternsHaveBytes Placed (pats_of r.0) × PatternsAreRising Before (pats_of r.0) × (how_many_pats (pats_of r.0) < 2 ^ 32)
        × Takes bytes (count_bytes (how_many_pats (pats_of r.0)) ++ patterns_bytes place (pats_of r.0)) r.1

    patterns_counted : (bytes : List ℕ) → IsBytes bytes → IfSome (counted_at part bytes) (ArePatternsCounted bytes)
    unfolding counted_at
    patterns_counted bytes fits =
        if_then (number_at w32 bytes) (λ m. parts_at part m.0 m.1) (IsNumberRead w32 (2 ^ 32) bytes) (ArePatternsCounted bytes)
        (number_read w32 (2 ^ 32) wide32 bytes fits) (λ m h.
        if_weaker (parts_at part m.0 m.1) (ArePatternsRead m.0 m.1) (ArePatternsCounted bytes) (λ r k. (
          k.0,
          k.1,
          k.2,
          omega (arith, k.3, h.1),
          takes_both bytes (count_bytes (how_many_pats (pats_of r.0))) m.1 (patterns_bytes place (pats_of r.0)) r.1
              (subst (λ z. Takes bytes (count_bytes z) m.1) (sym k.3) h.0) k.4,
        ))
        (patterns_read m.0 m.1 h.0.fits))

    abbrev ArePatternFieldsRead : ℕ → ℕ → List ℕ → List (Name × Pat) × List ℕ → Type 0
    ArePatternFieldsRead m from bytes r =
        LabelledPatsWithin left (labelled_pats_of r.0) × LabelledPatternsHaveBytes Placed (labelled_pats_of r.0) × PatternFieldsAreRising Before (labelled_pats_of r.0) × (how_many_labelled_pats (labelled_pats_of r.0) ≡ m)
        × GoUp from (pattern_field_labels (labelled_pats_of r.0)) × Takes bytes (labelled_patterns_bytes place (labelled_pats_of r.0)) r.1

    pattern_fields_read : (m from : ℕ) (bytes : List ℕ) → IsBytes bytes → IfSome (fields_at labels part m from bytes) (ArePatternFieldsRead m from bytes)
    unfolding fields_at
    pattern_fields_read zero from bytes fits = (tt, tt, tt, refl, (tt, λ j less. tt), takes_none bytes fits)
    pattern_fields_read (suc m) from bytes fits =
        if_then (label_at labels from bytes) (λ k. part k.1 >>= λ first. fields_at labels part m (k.0 + 1) first.1 >>= λ others. Some ((label_in labels k.0, first.0) ∷ others.0, others.1)) (IsLabelRead from bytes) (ArePatternFieldsRead (suc m) from bytes)
        (label_read from bytes fits) (λ k l.
        if_then (part k.1) (λ first. fields_at labels part m (k.0 + 1) first.1 >>= λ others. Some ((label_in labels k.0, first.0) ∷ others.0, others.1)) (IsPatternRead left k.1) (ArePatternFieldsRead (suc m) from bytes)
        (sound k.1 l.0.fits) (λ first h.
        if_then (fields_at labels part m (k.0 + 1) first.1) (λ others. Some ((label_in labels k.0, first.0) ∷ others.0, others.1)) (ArePatternFieldsRead m (k.0 + 1) first.1) (ArePatternFieldsRead (suc m) from bytes)
        (pattern_fields_read m (k.0 + 1) first.1 h.3.fits) (λ others f.
        let here : Takes bytes (count_bytes (place (label_in labels k.0).0)) k.1 = subst (λ z. Takes bytes (count_bytes z) k.1) (sym (are.back k.0 l.2)) l.0 in (
          (h.0, f.0),
          (are.placed k.0 l.2, h.1, f.1),
          (h.2, f.2),
          omega (arith, f.3),
          go_up from k.0 (pattern_field_labels (labelled_pats_of others.0)) l.1 l.2 f.4,
          takes_both bytes (count_bytes (place (label_in labels k.0).0)) k.1 (pattern_bytes place first.0 ++ labelled_patterns_bytes place (labelled_pats_of others.0)) others.1 here
              (takes_both k.1 (pattern_bytes place first.0) first.1 (labelled_patterns_bytes place (labelled_pats_of others.0)) others.1 h.3 f.5),
        ))))

    abbrev ArePatternsLabelled : List ℕ → List (Name × Pat) × List ℕ → Type 0
    ArePatternsLabelled bytes r =
        LabelledPatsWithin left (labelled_pats_of r.0) × LabelledPatternsHaveBytes Placed (labelled_pats_of r.0) × PatternFieldsAreRising Before (labelled_pats_of r.0) × (how_many_labelled_pats (labelled_pats_of r.0) < 2 ^ 32)
        × Rise Before (pattern_field_labels (labelled_pats_of r.0)) × Takes bytes (count_bytes (how_many_labelled_pats (labelled_pats_of r.0)) ++ labelled_patterns_bytes place (labelled_pats_of r.0)) r.1

    patterns_labelled : (bytes : List ℕ) → IsBytes bytes → IfSome (labelled_at labels part bytes) (ArePatternsLabelled bytes)
    unfolding labelled_at
    patterns_labelled bytes fits =
        if_then (number_at w32 bytes) (λ m. fields_at labels part m.0 0 m.1) (IsNumberRead w32 (2 ^ 32) bytes) (ArePatternsLabelled bytes)
        (number_read w32 (2 ^ 32) wide32 bytes fits) (λ m h.
        if_weaker (fields_at labels part m.0 0 m.1) (ArePatternFieldsRead m.0 0 m.1) (ArePatternsLabelled bytes) (λ r k. (
          k.0,
          k.1,
          k.2,
          omega (arith, k.3, h.1),
          k.4.0,
          takes_both bytes (count_bytes (how_many_labelled_pats (labelled_pats_of r.0))) m.1 (labelled_patterns_bytes place (labelled_pats_of r.0)) r.1
              (subst (λ z. Takes bytes (count_bytes z) m.1) (sym k.3) h.0) k.5,
        ))
        (pattern_fields_read m.0 0 m.1 h.0.fits))

    record_pattern_read : (rest : List ℕ) → IsBytes rest → IfSome (record_pattern_at labels part rest) (IsPatternRead (suc left) (0x22 ∷ rest))
    unfolding record_pattern_at
    record_pattern_read rest fits =
        if_then (counted_at part rest) (λ ps. labelled_at labels part ps.1 >>= λ ls. Some (RecordPat (pats_of ps.0) (labelled_pats_of ls.0), ls.1)) (ArePatternsCounted rest) (IsPatternRead (suc left) (0x22 ∷ rest))
        (patterns_counted rest fits) (λ ps h.
        if_then (labelled_at labels part ps.1) (λ ls. Some (RecordPat (pats_of ps.0) (labelled_pats_of ls.0), ls.1)) (ArePatternsLabelled ps.1) (IsPatternRead (suc left) (0x22 ∷ rest))
        (patterns_labelled ps.1 h.4.fits) (λ ls k.
        let patterns : List ℕ = patterns_bytes place (pats_of ps.0) in
        let labelled : List ℕ = count_bytes (how_many_labelled_pats (labelled_pats_of ls.0)) ++ labelled_patterns_bytes place (labelled_pats_of ls.0) in
        let both : Takes rest ((count_bytes (how_many_pats (pats_of ps.0)) ++ patterns) ++ labelled) ls.1 = takes_both rest (count_bytes (how_many_pats (pats_of ps.0)) ++ patterns) ps.1 labelled ls.1 h.4 k.5 in (
          (h.0, k.0),
          (h.3, k.3, h.1, k.1),
          (h.2, k.2, k.4),
          takes_tag 0x22 rest (count_bytes (how_many_pats (pats_of ps.0)) ++ (patterns ++ labelled)) ls.1
              (subst (λ z. Takes rest z ls.1) (append_assoc (count_bytes (how_many_pats (pats_of ps.0))) patterns labelled) both),
        )))

  tagged_pattern_read : (left : ℕ) (fields : List ℕ → Option (Pat × List ℕ)) → ((rest : List ℕ) → IsBytes rest → IfSome (fields rest) (IsPatternRead left (0x22 ∷ rest)))
      → (bytes : List ℕ) → IsBytes bytes → IfSome (tagged_pattern_at fields bytes) (IsPatternRead left bytes)
  unfolding tagged_pattern_at
  tagged_pattern_read left fields sound [] fits = tt
  tagged_pattern_read left fields sound (tag ∷ rest) fits =
      let more : IsBytes rest = IsBytes-rest tag rest fits in
      let P : Pat × List ℕ → Type 0 = IsPatternRead left (tag ∷ rest) in
      if_either (eqb tag 0x20) _ _ P (λ e. at_pattern_tag left tag 0x20 rest (Some (Bind, rest)) e (tt, tt, tt, record { parts = refl; fits = more }))
      (if_either (eqb tag 0x21) _ _ P (λ e. at_pattern_tag left tag 0x21 rest (Some (Any, rest)) e (tt, tt, tt, record { parts = refl; fits = more }))
      (if_either (eqb tag 0x22) _ _ P (λ e. at_pattern_tag left tag 0x22 rest (fields rest) e (sound rest more)) tt))

  pub pattern_read : (left : ℕ) (bytes : List ℕ) → IsBytes bytes → IfSome (pattern_at labels left bytes) (IsPatternRead left bytes)
  unfolding pattern_at
  pattern_read zero bytes fits = tagged_pattern_read zero nothing_at (λ rest f. tt) bytes fits
  pattern_read (suc left) bytes fits = tagged_pattern_read (suc left) (record_pattern_at labels (pattern_at labels left)) (record_pattern_read left (pattern_at labels left) (pattern_read left)) bytes fits
