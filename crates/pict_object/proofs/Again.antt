-- What is written within the bounds of objects is read again, without places and with these labels.
use Rattle.std.proofs.Common.{◌≡◌, ℕ, zero, suc, ◌+◌, ◌^◌, ◌<◌, ◌≤◌, Bool, true, false, cond, eqb, ltb, List, [], ◌∷◌, ◌++◌, length, Option, Some, None, refl, sym, ap, ap₂, ◌∙◌, slice_get, append-nil, append_assoc, arith}
use Rattle.std.specs.Int.{w64, cast_signed, cast_unsigned}
use Rattle.std.proofs.lemmas.Bool.{le-ltb, lt-ltb}
use Rattle.std.proofs.lemmas.Int.{to_z-of_z}
use Rattle.std.proofs.Math.Facts.{Fits-of_z, Fits-lt-pow}
use Rattle.pict_syntax.specs.declared.limits.TheConstants.{DEPTH_LIMIT, NESTING_LIMIT}
use Rattle.pict_syntax.specs.declared.name.Name.{Name}
use Rattle.pict_core.specs.Term.{Val, Vals, Labelled, Pat, Pats, LabelledPats, Bind, Any, RecordPat, no_pats, more_pats, no_labelled_pats, more_labelled_pats, Process, Var, Chan, Int, Char, Boolean, Text, PrimitiveVal, Record, no_vals, more_vals, no_labelled, more_labelled, Zero, Par, New, Out, In, If, depth_of}
use Rattle.pict_core.specs.Closed.{binds, binds_all, binds_labelled, IsOver, AreOver, LabelledOver, IsUnder}
use Rattle.pict_core.specs.Plain.{vals_of, labelled_of, pats_of, labelled_pats_of}
use Rattle.pict_translation.specs.Within.{Within, AreWithin, LabelledWithin, PatWithin, PatsWithin, LabelledPatsWithin, Nests}
use Rattle.pict_object.specs.Objects.{count_bytes, how_many_vals, how_many_labelled, how_many_pats, how_many_labelled_pats, value_bytes, values_bytes, labelled_bytes, pattern_bytes, patterns_bytes, labelled_patterns_bytes, process_bytes, input_byte, nowhere}
use Rattle.pict_object.specs.Fits.{ValueHasBytes, ValuesHaveBytes, LabelledHaveBytes, PatternHasBytes, PatternsHaveBytes, LabelledPatternsHaveBytes, HasBytes}
use Rattle.pict_object.specs.Cores.{RiseAfter, Rise, field_labels, pattern_field_labels, IsRising, AreRising, FieldsAreRising, PatternIsRising, PatternsAreRising, PatternFieldsAreRising, LabelsRise}
use Rattle.pict_object.specs.Sizes.{IsSimple}
use Rattle.pict_object.specs.Dressing.{Dress, dressed_value, dressed_values, dressed_labelled, dressed_pattern, dressed_patterns, dressed_labelled_patterns, dressed}
use Rattle.pict_object.specs.Reading.{◌>>=◌, byte_at, label_in, label_at, parts_at, counted_at, fields_at, labelled_at, variable_at, int_at, char_at, string_at, primitive_at, simple_at, nothing_at, record_at, tagged_value_at, value_at, record_pattern_at, tagged_pattern_at, pattern_at, more, par_at, new_at, out_at, in_at, if_at, tagged_at, node_at, process_at, whole_at}
use Rattle.pict_syntax.proofs.Numbered.{found_at}
use Rattle.pict_object.proofs.Fronts.{wide64, number_again, count_again, text_again}
use Rattle.pict_object.proofs.Standing.{Held, held_more}

parts_none : {A : Type 0} (part : List ℕ → Option (A × List ℕ)) (rest : List ℕ) → parts_at part 0 rest ≡ Some ([], rest)
unfolding parts_at
parts_none part rest = refl

pub parts_step : {A : Type 0} (part : List ℕ → Option (A × List ℕ)) (m : ℕ) (bytes mid rest : List ℕ) (x : A) (xs : List A) → part bytes ≡ Some (x, mid) → parts_at part m mid ≡ Some (xs, rest)
    → parts_at part (suc m) bytes ≡ Some (x ∷ xs, rest)
unfolding parts_at
parts_step part m bytes mid rest x xs h k =
    ap (λ z. z >>= λ first. parts_at part m first.1 >>= λ others. Some (first.0 ∷ others.0, others.1)) h ∙ ap (λ z. z >>= λ others. Some (x ∷ others.0, others.1)) k

counted_step : {A : Type 0} (part : List ℕ → Option (A × List ℕ)) (m : ℕ) (mid rest : List ℕ) (xs : List A) → m < 2 ^ 32 → parts_at part m mid ≡ Some (xs, rest) → counted_at part (count_bytes m ++ mid) ≡ Some (xs, rest)
unfolding counted_at
counted_step part m mid rest xs less h = ap (λ z. z >>= λ n. parts_at part n.0 n.1) (count_again m mid less) ∙ h

fields_none : {A : Type 0} (labels : List Name) (part : List ℕ → Option (A × List ℕ)) (from : ℕ) (rest : List ℕ) → fields_at labels part 0 from rest ≡ Some ([], rest)
unfolding fields_at
fields_none labels part from rest = refl

-- ---- labels at places

-- labels with places, which go up as the labels rise
pub record HavePlaces (labels : List Name) (place : ℕ → ℕ) (Placed : ℕ → Type 0) (Before : ℕ → ℕ → Type 0) : Type 0 where
  pub few : length labels < 2 ^ 32
  pub low : (l : ℕ) → Placed l → place l < length labels
  pub rise : (l m : ℕ) → Placed l → Placed m → Before l m → place l < place m

-- the labels at the places of labels
abbrev pub relabelled : List Name → (ℕ → ℕ) → Dress
relabelled labels place = record { label = λ l. (label_in labels (place l)).0; place = λ at. nowhere }

module _ (labels : List Name) (place : ℕ → ℕ) (Placed : ℕ → Type 0) (Before : ℕ → ℕ → Type 0) (have : HavePlaces labels place Placed Before) where
  abbrev made : Dress
  made = relabelled labels place

  label_again : (from l : ℕ) (rest : List ℕ) → from ≤ place l → place l < length labels → label_at labels from (count_bytes (place l) ++ rest) ≡ Some (place l, rest)
  unfolding label_at
  label_again from l rest h p =
      ap (λ z. z >>= λ n. cond (ltb n.0 from) None (cond (ltb n.0 (length labels)) (Some n) None)) (count_again (place l) rest (omega (arith, p, have.few)))
      ∙ rw (le-ltb (place l) from h, lt-ltb (place l) (length labels) p) refl

  fields_step : {A : Type 0} (part : List ℕ → Option (A × List ℕ)) (m from l : ℕ) (mid next rest : List ℕ) (x : A) (xs : List (Name × A)) → from ≤ place l → place l < length labels → part mid ≡ Some (x, next)
      → fields_at labels part m (place l + 1) next ≡ Some (xs, rest) → fields_at labels part (suc m) from (count_bytes (place l) ++ mid) ≡ Some ((label_in labels (place l), x) ∷ xs, rest)
  unfolding fields_at
  fields_step part m from l mid next rest x xs low p h k =
      ap (λ z. z >>= λ n. part n.1 >>= λ first. fields_at labels part m (n.0 + 1) first.1 >>= λ others. Some ((label_in labels n.0, first.0) ∷ others.0, others.1)) (label_again from l mid low p)
      ∙ ap (λ z. z >>= λ first. fields_at labels part m (place l + 1) first.1 >>= λ others. Some ((label_in labels (place l), first.0) ∷ others.0, others.1)) h
      ∙ ap (λ z. z >>= λ others. Some ((label_in labels (place l), x) ∷ others.0, others.1)) k

  labelled_step : {A : Type 0} (part : List ℕ → Option (A × List ℕ)) (m : ℕ) (mid rest : List ℕ) (xs : List (Name × A)) → m < 2 ^ 32 → fields_at labels part m 0 mid ≡ Some (xs, rest)
      → labelled_at labels part (count_bytes m ++ mid) ≡ Some (xs, rest)
  unfolding labelled_at
  labelled_step part m mid rest xs less h = ap (λ z. z >>= λ n. fields_at labels part n.0 0 n.1) (count_again m mid less) ∙ h

  -- labels that go up from this place on
  abbrev GoUp : ℕ → List ℕ → Type 0
  GoUp from [] = Unit {0}
  GoUp from (l ∷ ls) = (from ≤ place l) × RiseAfter Before l ls

  up : (l : ℕ) (ls : Labelled) → Placed l → LabelledHaveBytes Placed ls → RiseAfter Before l (field_labels ls) → GoUp (place l + 1) (field_labels ls)
  up l no_labelled p fits h = tt
  up l (more_labelled m v ls) p fits h = (omega (arith, have.rise l m p fits.0 h.0), h.1)

  up_pattern : (l : ℕ) (ls : LabelledPats) → Placed l → LabelledPatternsHaveBytes Placed ls → RiseAfter Before l (pattern_field_labels ls) → GoUp (place l + 1) (pattern_field_labels ls)
  up_pattern l no_labelled_pats p fits h = tt
  up_pattern l (more_labelled_pats m v ls) p fits h = (omega (arith, have.rise l m p fits.0 h.0), h.1)

  up_all : (ls : List ℕ) → Rise Before ls → GoUp 0 ls
  up_all [] h = tt
  up_all (l ∷ ls) h = (omega arith, h)

  -- ---- values

  abbrev values_of : Vals → List Val
  values_of no_vals = []
  values_of (more_vals v vs) = dressed_value made v ∷ values_of vs

  abbrev fields_of : Labelled → List (Name × Val)
  fields_of no_labelled = []
  fields_of (more_labelled l v ls) = (label_in labels (place l), dressed_value made v) ∷ fields_of ls

  of_values : (vs : Vals) → vals_of (values_of vs) ≡ dressed_values made vs
  of_values no_vals = refl
  of_values (more_vals v vs) = ap (λ z. more_vals (dressed_value made v) z) (of_values vs)

  of_fields : (ls : Labelled) → labelled_of (fields_of ls) ≡ dressed_labelled made ls
  of_fields no_labelled = refl
  of_fields (more_labelled l v ls) = ap (λ z. more_labelled (label_in labels (place l)).0 (dressed_value made v) z) (of_fields ls)

  record_again : (part : List ℕ → Option (Val × List ℕ)) (bytes mid rest : List ℕ) (vs : Vals) (ls : Labelled) → counted_at part bytes ≡ Some (values_of vs, mid) → labelled_at labels part mid ≡ Some (fields_of ls, rest)
      → record_at labels part bytes ≡ Some (dressed_value made (Record vs ls), rest)
  unfolding record_at
  record_again part bytes mid rest vs ls h k =
      ap (λ z. z >>= λ xs. labelled_at labels part xs.1 >>= λ ys. Some (Record (vals_of xs.0) (labelled_of ys.0), ys.1)) h
      ∙ ap (λ z. z >>= λ ys. Some (Record (vals_of (values_of vs)) (labelled_of ys.0), ys.1)) k
      ∙ ap₂ (λ a b. Some (Record a b, rest)) (of_values vs) (of_fields ls)

  simple_again : (n b : ℕ) → Held n b → (fields : List ℕ → Option (Val × List ℕ)) (v : Val) (rest : List ℕ) → IsSimple v → IsOver n 0 v → ValueHasBytes Placed v
      → tagged_value_at b fields (value_bytes place v ++ rest) ≡ Some (dressed_value made v, rest)
  unfolding tagged_value_at simple_at variable_at int_at char_at byte_at string_at primitive_at
  simple_again n b e fields (Var level) rest s over fits =
      ap (λ z. z >>= λ x. cond (ltb x.0 b) (Some (Var x.0, x.1)) None) (count_again level rest fits) ∙ rw (lt-ltb level b (omega (arith, e, over, fits))) refl
  simple_again n b e fields (Chan number) rest s over fits = absurd (omega (arith, over))
  simple_again n b e fields (Int i) rest s over fits =
      ap (λ z. z >>= λ x. Some (Int (cast_signed w64 x.0), x.1)) (number_again w64 (2 ^ 64) wide64 (cast_unsigned w64 i) rest (Fits-lt-pow {w = w64} (Fits-of_z {w = w64} fits)))
      ∙ ap (λ z. Some (Int z, rest)) (to_z-of_z w64 i fits)
  simple_again n b e fields (Char byte) rest s over fits = refl
  simple_again n b e fields (Boolean true) rest s over fits = refl
  simple_again n b e fields (Boolean false) rest s over fits = refl
  simple_again n b e fields (Text text) rest s over fits = ap (λ z. z >>= λ x. Some (Text x.0, x.1)) (text_again text rest fits)
  simple_again n b e fields (PrimitiveVal p) rest s over fits = ap (λ z. z >>= λ q. Some (PrimitiveVal q, rest)) (found_at p)
  simple_again n b e fields (Record vs ls) rest s over fits = absurd s

  tagged_record : (b : ℕ) (fields : List ℕ → Option (Val × List ℕ)) (bytes : List ℕ) → tagged_value_at b fields (0x17 ∷ bytes) ≡ fields bytes
  unfolding tagged_value_at
  tagged_record b fields bytes = refl

  value_simple : (n b : ℕ) → Held n b → (left : ℕ) (v : Val) (rest : List ℕ) → IsSimple v → IsOver n 0 v → ValueHasBytes Placed v → value_at labels b left (value_bytes place v ++ rest) ≡ Some (dressed_value made v, rest)
  unfolding value_at
  value_simple n b e zero v rest s over fits = simple_again n b e nothing_at v rest s over fits
  value_simple n b e (suc left) v rest s over fits = simple_again n b e (record_at labels (value_at labels b left)) v rest s over fits

  value_record : (b left : ℕ) (bytes : List ℕ) → value_at labels b (suc left) (0x17 ∷ bytes) ≡ record_at labels (value_at labels b left) bytes
  unfolding value_at
  value_record b left bytes = tagged_record b (record_at labels (value_at labels b left)) bytes

  -- two lists of parts, each behind its count, and what is behind them
  behind_both : (a xs b ys rest : List ℕ) → (a ++ (xs ++ (b ++ ys))) ++ rest ≡ a ++ (xs ++ (b ++ (ys ++ rest)))
  behind_both a xs b ys rest =
      append_assoc a (xs ++ (b ++ ys)) rest ∙ ap (λ z. a ++ z) (append_assoc xs (b ++ ys) rest ∙ ap (λ z. xs ++ z) (append_assoc b ys rest))

  module _ (n b : ℕ) (e : Held n b) where
    mutual
      value_again : (v : Val) (left : ℕ) (rest : List ℕ) → IsOver n 0 v → Within left v → ValueHasBytes Placed v → IsRising Before v → value_at labels b left (value_bytes place v ++ rest) ≡ Some (dressed_value made v, rest)
      value_again (Var x) left rest over within fits rising = value_simple n b e left (Var x) rest tt over fits
      value_again (Chan x) left rest over within fits rising = value_simple n b e left (Chan x) rest tt over fits
      value_again (Int x) left rest over within fits rising = value_simple n b e left (Int x) rest tt over fits
      value_again (Char x) left rest over within fits rising = value_simple n b e left (Char x) rest tt over fits
      value_again (Boolean x) left rest over within fits rising = value_simple n b e left (Boolean x) rest tt over fits
      value_again (Text x) left rest over within fits rising = value_simple n b e left (Text x) rest tt over fits
      value_again (PrimitiveVal x) left rest over within fits rising = value_simple n b e left (PrimitiveVal x) rest tt over fits
      value_again (Record vs ls) zero rest over within fits rising = absurd within
      value_again (Record vs ls) (suc left) rest over within fits rising =
          let mid : List ℕ = count_bytes (how_many_labelled ls) ++ (labelled_bytes place ls ++ rest) in
          ap (λ z. value_at labels b (suc left) (0x17 ∷ z)) (behind_both (count_bytes (how_many_vals vs)) (values_bytes place vs) (count_bytes (how_many_labelled ls)) (labelled_bytes place ls) rest)
          ∙ value_record b left (count_bytes (how_many_vals vs) ++ (values_bytes place vs ++ mid))
          ∙ record_again (value_at labels b left) (count_bytes (how_many_vals vs) ++ (values_bytes place vs ++ mid)) mid rest vs ls
          (counted_step (value_at labels b left) (how_many_vals vs) (values_bytes place vs ++ mid) mid (values_of vs) fits.0 (values_again vs left mid over.0 within.0 fits.2 rising.0))
          (labelled_step (value_at labels b left) (how_many_labelled ls) (labelled_bytes place ls ++ rest) rest (fields_of ls) fits.1 (labelled_again ls left 0 rest over.1 within.1 fits.3 rising.1 (up_all (field_labels ls) rising.2)))

      values_again : (vs : Vals) (left : ℕ) (rest : List ℕ) → AreOver n 0 vs → AreWithin left vs → ValuesHaveBytes Placed vs → AreRising Before vs
          → parts_at (value_at labels b left) (how_many_vals vs) (values_bytes place vs ++ rest) ≡ Some (values_of vs, rest)
      values_again no_vals left rest over within fits rising = parts_none (value_at labels b left) rest
      values_again (more_vals v vs) left rest over within fits rising =
          let more_one : how_many_vals vs + 1 ≡ suc (how_many_vals vs) = omega arith in
          ap₂ (λ m z. parts_at (value_at labels b left) m z) more_one (append_assoc (value_bytes place v) (values_bytes place vs) rest)
          ∙ parts_step (value_at labels b left) (how_many_vals vs) (value_bytes place v ++ (values_bytes place vs ++ rest)) (values_bytes place vs ++ rest) rest (dressed_value made v) (values_of vs)
          (value_again v left (values_bytes place vs ++ rest) over.0 within.0 fits.0 rising.0) (values_again vs left rest over.1 within.1 fits.1 rising.1)

      labelled_again : (ls : Labelled) (left from : ℕ) (rest : List ℕ) → LabelledOver n 0 ls → LabelledWithin left ls → LabelledHaveBytes Placed ls → FieldsAreRising Before ls → GoUp from (field_labels ls)
          → fields_at labels (value_at labels b left) (how_many_labelled ls) from (labelled_bytes place ls ++ rest) ≡ Some (fields_of ls, rest)
      labelled_again no_labelled left from rest over within fits rising go = fields_none labels (value_at labels b left) from rest
      labelled_again (more_labelled l v ls) left from rest over within fits rising go =
          let more_one : how_many_labelled ls + 1 ≡ suc (how_many_labelled ls) = omega arith in
          let next : List ℕ = labelled_bytes place ls ++ rest in
          ap₂ (λ m z. fields_at labels (value_at labels b left) m from z) more_one
          (append_assoc (count_bytes (place l)) (value_bytes place v ++ labelled_bytes place ls) rest ∙ ap (λ z. count_bytes (place l) ++ z) (append_assoc (value_bytes place v) (labelled_bytes place ls) rest))
          ∙ fields_step (value_at labels b left) (how_many_labelled ls) from l (value_bytes place v ++ next) next rest (dressed_value made v) (fields_of ls) go.0 (have.low l fits.0)
          (value_again v left next over.0 within.0 fits.1 rising.0) (labelled_again ls left (place l + 1) rest over.1 within.1 fits.2 rising.1 (up l ls fits.0 fits.2 go.1))

  -- ---- patterns

  abbrev patterns_of : Pats → List Pat
  patterns_of no_pats = []
  patterns_of (more_pats p ps) = dressed_pattern made p ∷ patterns_of ps

  abbrev pattern_fields_of : LabelledPats → List (Name × Pat)
  pattern_fields_of no_labelled_pats = []
  pattern_fields_of (more_labelled_pats l p ls) = (label_in labels (place l), dressed_pattern made p) ∷ pattern_fields_of ls

  of_patterns : (ps : Pats) → pats_of (patterns_of ps) ≡ dressed_patterns made ps
  of_patterns no_pats = refl
  of_patterns (more_pats p ps) = ap (λ z. more_pats (dressed_pattern made p) z) (of_patterns ps)

  of_pattern_fields : (ls : LabelledPats) → labelled_pats_of (pattern_fields_of ls) ≡ dressed_labelled_patterns made ls
  of_pattern_fields no_labelled_pats = refl
  of_pattern_fields (more_labelled_pats l p ls) = ap (λ z. more_labelled_pats (label_in labels (place l)).0 (dressed_pattern made p) z) (of_pattern_fields ls)

  record_pattern_again : (part : List ℕ → Option (Pat × List ℕ)) (bytes mid rest : List ℕ) (ps : Pats) (ls : LabelledPats) → counted_at part bytes ≡ Some (patterns_of ps, mid) → labelled_at labels part mid ≡ Some (pattern_fields_of ls, rest)
      → record_pattern_at labels part bytes ≡ Some (dressed_pattern made (RecordPat ps ls), rest)
  unfolding record_pattern_at
  record_pattern_again part bytes mid rest ps ls h k =
      ap (λ z. z >>= λ xs. labelled_at labels part xs.1 >>= λ ys. Some (RecordPat (pats_of xs.0) (labelled_pats_of ys.0), ys.1)) h
      ∙ ap (λ z. z >>= λ ys. Some (RecordPat (pats_of (patterns_of ps)) (labelled_pats_of ys.0), ys.1)) k
      ∙ ap₂ (λ a b. Some (RecordPat a b, rest)) (of_patterns ps) (of_pattern_fields ls)

  bind_again : (left : ℕ) (rest : List ℕ) → pattern_at labels left (0x20 ∷ rest) ≡ Some (Bind, rest)
  unfolding pattern_at tagged_pattern_at
  bind_again zero rest = refl
  bind_again (suc left) rest = refl

  any_again : (left : ℕ) (rest : List ℕ) → pattern_at labels left (0x21 ∷ rest) ≡ Some (Any, rest)
  unfolding pattern_at tagged_pattern_at
  any_again zero rest = refl
  any_again (suc left) rest = refl

  pattern_record : (left : ℕ) (bytes : List ℕ) → pattern_at labels (suc left) (0x22 ∷ bytes) ≡ record_pattern_at labels (pattern_at labels left) bytes
  unfolding pattern_at tagged_pattern_at
  pattern_record left bytes = refl

  mutual
    pattern_again : (p : Pat) (left : ℕ) (rest : List ℕ) → PatWithin left p → PatternHasBytes Placed p → PatternIsRising Before p → pattern_at labels left (pattern_bytes place p ++ rest) ≡ Some (dressed_pattern made p, rest)
    pattern_again Bind left rest within fits rising = bind_again left rest
    pattern_again Any left rest within fits rising = any_again left rest
    pattern_again (RecordPat ps ls) zero rest within fits rising = absurd within
    pattern_again (RecordPat ps ls) (suc left) rest within fits rising =
        let mid : List ℕ = count_bytes (how_many_labelled_pats ls) ++ (labelled_patterns_bytes place ls ++ rest) in
        ap (λ z. pattern_at labels (suc left) (0x22 ∷ z)) (behind_both (count_bytes (how_many_pats ps)) (patterns_bytes place ps) (count_bytes (how_many_labelled_pats ls)) (labelled_patterns_bytes place ls) rest)
        ∙ pattern_record left (count_bytes (how_many_pats ps) ++ (patterns_bytes place ps ++ mid))
        ∙ record_pattern_again (pattern_at labels left) (count_bytes (how_many_pats ps) ++ (patterns_bytes place ps ++ mid)) mid rest ps ls
        (counted_step (pattern_at labels left) (how_many_pats ps) (patterns_bytes place ps ++ mid) mid (patterns_of ps) fits.0 (patterns_again ps left mid within.0 fits.2 rising.0))
        (labelled_step (pattern_at labels left) (how_many_labelled_pats ls) (labelled_patterns_bytes place ls ++ rest) rest (pattern_fields_of ls) fits.1 (labelled_patterns_again ls left 0 rest within.1 fits.3 rising.1 (up_all (pattern_field_labels ls) rising.2)))

    patterns_again : (ps : Pats) (left : ℕ) (rest : List ℕ) → PatsWithin left ps → PatternsHaveBytes Placed ps → PatternsAreRising Before ps
        → parts_at (pattern_at labels left) (how_many_pats ps) (patterns_bytes place ps ++ rest) ≡ Some (patterns_of ps, rest)
    patterns_again no_pats left rest within fits rising = parts_none (pattern_at labels left) rest
    patterns_again (more_pats p ps) left rest within fits rising =
        let more_one : how_many_pats ps + 1 ≡ suc (how_many_pats ps) = omega arith in
        ap₂ (λ m z. parts_at (pattern_at labels left) m z) more_one (append_assoc (pattern_bytes place p) (patterns_bytes place ps) rest)
        ∙ parts_step (pattern_at labels left) (how_many_pats ps) (pattern_bytes place p ++ (patterns_bytes place ps ++ rest)) (patterns_bytes place ps ++ rest) rest (dressed_pattern made p) (patterns_of ps)
        (pattern_again p left (patterns_bytes place ps ++ rest) within.0 fits.0 rising.0) (patterns_again ps left rest within.1 fits.1 rising.1)

    labelled_patterns_again : (ls : LabelledPats) (left from : ℕ) (rest : List ℕ) → LabelledPatsWithin left ls → LabelledPatternsHaveBytes Placed ls → PatternFieldsAreRising Before ls → GoUp from (pattern_field_labels ls)
        → fields_at labels (pattern_at labels left) (how_many_labelled_pats ls) from (labelled_patterns_bytes place ls ++ rest) ≡ Some (pattern_fields_of ls, rest)
    labelled_patterns_again no_labelled_pats left from rest within fits rising go = fields_none labels (pattern_at labels left) from rest
    labelled_patterns_again (more_labelled_pats l p ls) left from rest within fits rising go =
        let more_one : how_many_labelled_pats ls + 1 ≡ suc (how_many_labelled_pats ls) = omega arith in
        let next : List ℕ = labelled_patterns_bytes place ls ++ rest in
        ap₂ (λ m z. fields_at labels (pattern_at labels left) m from z) more_one
        (append_assoc (count_bytes (place l)) (pattern_bytes place p ++ labelled_patterns_bytes place ls) rest ∙ ap (λ z. count_bytes (place l) ++ z) (append_assoc (pattern_bytes place p) (labelled_patterns_bytes place ls) rest))
        ∙ fields_step (pattern_at labels left) (how_many_labelled_pats ls) from l (pattern_bytes place p ++ next) next rest (dressed_pattern made p) (pattern_fields_of ls) go.0 (have.low l fits.0)
        (pattern_again p left next within.0 fits.1 rising.0) (labelled_patterns_again ls left (place l + 1) rest within.1 fits.2 rising.1 (up_pattern l ls fits.0 fits.2 go.1))

  -- ---- processes

  mutual
    same_binds : (p : Pat) → binds (dressed_pattern made p) ≡ binds p
    same_binds Bind = refl
    same_binds Any = refl
    same_binds (RecordPat ps ls) = ap₂ (λ a b. a + b) (same_binds_all ps) (same_binds_labelled ls)

    same_binds_all : (ps : Pats) → binds_all (dressed_patterns made ps) ≡ binds_all ps
    same_binds_all no_pats = refl
    same_binds_all (more_pats p ps) = ap₂ (λ a b. a + b) (same_binds p) (same_binds_all ps)

    same_binds_labelled : (ls : LabelledPats) → binds_labelled (dressed_labelled_patterns made ls) ≡ binds_labelled ls
    same_binds_labelled no_labelled_pats = refl
    same_binds_labelled (more_labelled_pats l p ls) = ap₂ (λ a b. a + b) (same_binds p) (same_binds_labelled ls)

  -- the tag of a process
  tagged : (left b tag : ℕ) (bytes : List ℕ) → process_at labels (suc left) b (tag ∷ bytes) ≡ tagged_at labels (process_at labels left) b tag bytes
  unfolding process_at node_at
  tagged left b tag bytes = refl

  module _ (part : ℕ → List ℕ → Option (Process × List ℕ)) (b : ℕ) (bytes : List ℕ) where
    zero_tag : tagged_at labels part b 0 bytes ≡ Some (Zero, bytes)
    unfolding tagged_at
    zero_tag = refl

    par_tag : tagged_at labels part b 1 bytes ≡ par_at part b bytes
    unfolding tagged_at
    par_tag = refl

    new_tag : tagged_at labels part b 2 bytes ≡ new_at part b bytes
    unfolding tagged_at
    new_tag = refl

    out_tag : tagged_at labels part b 3 bytes ≡ out_at labels b bytes
    unfolding tagged_at
    out_tag = refl

    in_tag : (replicated : Bool) → tagged_at labels part b (input_byte replicated) bytes ≡ in_at labels replicated part b bytes
    unfolding tagged_at
    in_tag false = refl
    in_tag true = refl

    if_tag : tagged_at labels part b 6 bytes ≡ if_at labels part b bytes
    unfolding tagged_at
    if_tag = refl

  par_step : (part : ℕ → List ℕ → Option (Process × List ℕ)) (b : ℕ) (bytes mid rest : List ℕ) (p q : Process) → part b bytes ≡ Some (p, mid) → part b mid ≡ Some (q, rest) → par_at part b bytes ≡ Some (Par p q, rest)
  unfolding par_at
  par_step part b bytes mid rest p q h k = ap (λ z. z >>= λ x. part b x.1 >>= λ y. Some (Par x.0 y.0, y.1)) h ∙ ap (λ z. z >>= λ y. Some (Par p y.0, y.1)) k

  new_step : (part : ℕ → List ℕ → Option (Process × List ℕ)) (b : ℕ) (bytes rest : List ℕ) (p : Process) → part (more b 1) bytes ≡ Some (p, rest) → new_at part b bytes ≡ Some (New p, rest)
  unfolding new_at
  new_step part b bytes rest p h = ap (λ z. z >>= λ x. Some (New x.0, x.1)) h

  out_step : (b : ℕ) (bytes mid rest : List ℕ) (v w : Val) → value_at labels b NESTING_LIMIT bytes ≡ Some (v, mid) → value_at labels b NESTING_LIMIT mid ≡ Some (w, rest) → out_at labels b bytes ≡ Some (Out v w nowhere, rest)
  unfolding out_at
  out_step b bytes mid rest v w h k = ap (λ z. z >>= λ x. value_at labels b NESTING_LIMIT x.1 >>= λ y. Some (Out x.0 y.0 nowhere, y.1)) h ∙ ap (λ z. z >>= λ y. Some (Out v y.0 nowhere, y.1)) k

  in_step : (replicated : Bool) (part : ℕ → List ℕ → Option (Process × List ℕ)) (b : ℕ) (bytes mid next rest : List ℕ) (v : Val) (p : Pat) (q : Process) → value_at labels b NESTING_LIMIT bytes ≡ Some (v, mid)
      → pattern_at labels NESTING_LIMIT mid ≡ Some (p, next) → part (more b (binds p)) next ≡ Some (q, rest) → in_at labels replicated part b bytes ≡ Some (In v replicated p q, rest)
  unfolding in_at
  in_step replicated part b bytes mid next rest v p q h k m =
      ap (λ z. z >>= λ x. pattern_at labels NESTING_LIMIT x.1 >>= λ y. part (more b (binds y.0)) y.1 >>= λ w. Some (In x.0 replicated y.0 w.0, w.1)) h
      ∙ ap (λ z. z >>= λ y. part (more b (binds y.0)) y.1 >>= λ w. Some (In v replicated y.0 w.0, w.1)) k
      ∙ ap (λ z. z >>= λ w. Some (In v replicated p w.0, w.1)) m

  if_step : (part : ℕ → List ℕ → Option (Process × List ℕ)) (b : ℕ) (bytes mid next rest : List ℕ) (v : Val) (p q : Process) → value_at labels b NESTING_LIMIT bytes ≡ Some (v, mid) → part b mid ≡ Some (p, next) → part b next ≡ Some (q, rest)
      → if_at labels part b bytes ≡ Some (If v p q, rest)
  unfolding if_at
  if_step part b bytes mid next rest v p q h k m =
      ap (λ z. z >>= λ x. part b x.1 >>= λ y. part b y.1 >>= λ w. Some (If x.0 y.0 w.0, w.1)) h
      ∙ ap (λ z. z >>= λ y. part b y.1 >>= λ w. Some (If v y.0 w.0, w.1)) k
      ∙ ap (λ z. z >>= λ w. Some (If v p w.0, w.1)) m

  process_again : (p : Process) (n b left : ℕ) (rest : List ℕ) → Held n b → IsUnder n 0 p → depth_of p ≤ left → Nests NESTING_LIMIT p → HasBytes Placed p → LabelsRise Before p
      → process_at labels left b (process_bytes place p ++ rest) ≡ Some (dressed made p, rest)
  process_again Zero n b zero rest e under deep nests fits rising = absurd (omega (arith, deep))
  process_again Zero n b (suc left) rest e under deep nests fits rising = tagged left b 0 rest ∙ zero_tag (process_at labels left) b rest
  process_again (Par p q) n b zero rest e under deep nests fits rising = absurd (omega (arith, deep))
  process_again (Par p q) n b (suc left) rest e under deep nests fits rising =
      let mid : List ℕ = process_bytes place q ++ rest in
      ap (λ z. process_at labels (suc left) b (1 ∷ z)) (append_assoc (process_bytes place p) (process_bytes place q) rest)
      ∙ tagged left b 1 (process_bytes place p ++ mid) ∙ par_tag (process_at labels left) b (process_bytes place p ++ mid)
      ∙ par_step (process_at labels left) b (process_bytes place p ++ mid) mid rest (dressed made p) (dressed made q)
      (process_again p n b left mid e under.0 (omega (arith, deep)) nests.0 fits.0 rising.0) (process_again q n b left rest e under.1 (omega (arith, deep)) nests.1 fits.1 rising.1)
  process_again (New p) n b zero rest e under deep nests fits rising = absurd (omega (arith, deep))
  process_again (New p) n b (suc left) rest e under deep nests fits rising =
      tagged left b 2 (process_bytes place p ++ rest) ∙ new_tag (process_at labels left) b (process_bytes place p ++ rest)
      ∙ new_step (process_at labels left) b (process_bytes place p ++ rest) rest (dressed made p)
      (process_again p (n + 1) (more b 1) left rest (held_more n b 1 e) under (omega (arith, deep)) nests fits rising)
  process_again (Out chan message at) n b zero rest e under deep nests fits rising = absurd (omega (arith, deep))
  process_again (Out chan message at) n b (suc left) rest e under deep nests fits rising =
      let mid : List ℕ = value_bytes place message ++ rest in
      ap (λ z. process_at labels (suc left) b (3 ∷ z)) (append_assoc (value_bytes place chan) (value_bytes place message) rest)
      ∙ tagged left b 3 (value_bytes place chan ++ mid) ∙ out_tag (process_at labels left) b (value_bytes place chan ++ mid)
      ∙ out_step b (value_bytes place chan ++ mid) mid rest (dressed_value made chan) (dressed_value made message)
      (value_again n b e chan NESTING_LIMIT mid under.0 nests.0 fits.0 rising.0) (value_again n b e message NESTING_LIMIT rest under.1 nests.1 fits.1 rising.1)
  process_again (In chan replicated pattern body) n b zero rest e under deep nests fits rising = absurd (omega (arith, deep))
  process_again (In chan replicated pattern body) n b (suc left) rest e under deep nests fits rising =
      let next : List ℕ = process_bytes place body ++ rest in
      let mid : List ℕ = pattern_bytes place pattern ++ next in
      ap (λ z. process_at labels (suc left) b (input_byte replicated ∷ z))
      (append_assoc (value_bytes place chan) (pattern_bytes place pattern ++ process_bytes place body) rest ∙ ap (λ z. value_bytes place chan ++ z) (append_assoc (pattern_bytes place pattern) (process_bytes place body) rest))
      ∙ tagged left b (input_byte replicated) (value_bytes place chan ++ mid) ∙ in_tag (process_at labels left) b (value_bytes place chan ++ mid) replicated
      ∙ in_step replicated (process_at labels left) b (value_bytes place chan ++ mid) mid next rest (dressed_value made chan) (dressed_pattern made pattern) (dressed made body)
      (value_again n b e chan NESTING_LIMIT mid under.0 nests.0 fits.0 rising.0) (pattern_again pattern NESTING_LIMIT next nests.1 fits.1 rising.1)
      (ap (λ k. process_at labels left (more b k) next) (same_binds pattern)
      ∙ process_again body (n + binds pattern) (more b (binds pattern)) left rest (held_more n b (binds pattern) e) under.1 (omega (arith, deep)) nests.2 fits.2 rising.2)
  process_again (If test p q) n b zero rest e under deep nests fits rising = absurd (omega (arith, deep))
  process_again (If test p q) n b (suc left) rest e under deep nests fits rising =
      let next : List ℕ = process_bytes place q ++ rest in
      let mid : List ℕ = process_bytes place p ++ next in
      ap (λ z. process_at labels (suc left) b (6 ∷ z))
      (append_assoc (value_bytes place test) (process_bytes place p ++ process_bytes place q) rest ∙ ap (λ z. value_bytes place test ++ z) (append_assoc (process_bytes place p) (process_bytes place q) rest))
      ∙ tagged left b 6 (value_bytes place test ++ mid) ∙ if_tag (process_at labels left) b (value_bytes place test ++ mid)
      ∙ if_step (process_at labels left) b (value_bytes place test ++ mid) mid next rest (dressed_value made test) (dressed made p) (dressed made q)
      (value_again n b e test NESTING_LIMIT mid under.0 nests.0 fits.0 rising.0) (process_again p n b left next e under.1 (omega (arith, deep)) nests.1 fits.1 rising.1) (process_again q n b left rest e under.2 (omega (arith, deep)) nests.2 fits.2 rising.2)

  pub whole_again : (p : Process) → IsUnder 0 0 p → depth_of p ≤ DEPTH_LIMIT → Nests NESTING_LIMIT p → HasBytes Placed p → LabelsRise Before p → whole_at labels (process_bytes place p) ≡ Some (dressed made p)
  unfolding whole_at
  whole_again p under deep nests fits rising =
      ap (λ z. z >>= λ x. cond (eqb (length x.1) 0) (Some x.0) None)
      (ap (λ z. process_at labels DEPTH_LIMIT 0 z) (sym (append-nil (process_bytes place p))) ∙ process_again p 0 0 DEPTH_LIMIT [] (omega arith) under deep nests fits rising)
