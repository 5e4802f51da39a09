-- Where the object of a closed process is short enough, its counts have room; and its length doesn't depend on places.
use Rattle.std.proofs.Common.{ℕ, ◌+◌, ◌≡◌, ◌<◌, ◌≤◌, ◌^◌, List, ◌++◌, length, length-append, refl, sym, ◌∙◌, ap, arith}
use Rattle.std.specs.List.{AllByRecursion}
use Rattle.pict_core.specs.Term.{Val, Vals, Labelled, Pat, Pats, LabelledPats, Bind, Any, RecordPat, no_pats, more_pats, no_labelled_pats, more_labelled_pats, Process, Var, Chan, Int, Char, Boolean, Text, PrimitiveVal, Record, no_vals, more_vals, no_labelled, more_labelled, Zero, Par, New, Out, In, If}
use Rattle.pict_core.specs.Closed.{binds, IsOver, AreOver, LabelledOver, IsUnder}
use Rattle.pict_object.specs.Objects.{value_bytes, values_bytes, labelled_bytes, pattern_bytes, patterns_bytes, labelled_patterns_bytes, process_bytes, how_many_vals, how_many_labelled, how_many_pats, how_many_labelled_pats, labels_of, labels_of_value, labels_of_values, labels_of_labelled, labels_of_pattern, labels_of_patterns, labels_of_labelled_patterns}
use Rattle.pict_object.specs.Fits.{ValueHasBytes, ValuesHaveBytes, LabelledHaveBytes, PatternHasBytes, PatternsHaveBytes, LabelledPatternsHaveBytes, HasBytes}
use Rattle.pict_object.specs.Sizes.{Anywhere, Fit, AreFit, FieldsFit, ProcessFits}
use Rattle.pict_object.proofs.Sizes.{record_length, pattern_length}
use Rattle.pict_object.proofs.Placed.{all_front, all_back}

module _ (place : ℕ → ℕ) where
  some_byte : (n : ℕ) (v : Val) → IsOver n 0 v → 0 < length (value_bytes place v)
  some_byte n (Var level) h = omega arith
  some_byte n (Chan number) h = absurd (omega (arith, h))
  some_byte n (Int i) h = omega arith
  some_byte n (Char byte) h = omega arith
  some_byte n (Boolean b) h = omega arith
  some_byte n (Text bytes) h = omega arith
  some_byte n (PrimitiveVal p) h = omega arith
  some_byte n (Record vs ls) h = omega arith

  vals_many : (n : ℕ) (vs : Vals) → AreOver n 0 vs → how_many_vals vs ≤ length (values_bytes place vs)
  vals_many n no_vals h = omega arith
  vals_many n (more_vals v vs) h = omega (arith, some_byte n v h.0, vals_many n vs h.1, length-append (value_bytes place v) (values_bytes place vs))

  labelled_many : (ls : Labelled) → how_many_labelled ls ≤ length (labelled_bytes place ls)
  labelled_many no_labelled = omega arith
  labelled_many (more_labelled label v ls) = omega (arith, labelled_many ls, length-append (value_bytes place v) (labelled_bytes place ls))

  some_pattern_byte : (p : Pat) → 0 < length (pattern_bytes place p)
  some_pattern_byte Bind = omega arith
  some_pattern_byte Any = omega arith
  some_pattern_byte (RecordPat ps ls) = omega arith

  pats_many : (ps : Pats) → how_many_pats ps ≤ length (patterns_bytes place ps)
  pats_many no_pats = omega arith
  pats_many (more_pats p ps) = omega (arith, some_pattern_byte p, pats_many ps, length-append (pattern_bytes place p) (patterns_bytes place ps))

  labelled_pats_many : (ls : LabelledPats) → how_many_labelled_pats ls ≤ length (labelled_patterns_bytes place ls)
  labelled_pats_many no_labelled_pats = omega arith
  labelled_pats_many (more_labelled_pats label p ls) = omega (arith, labelled_pats_many ls, length-append (pattern_bytes place p) (labelled_patterns_bytes place ls))

  mutual
    value_fits : (n : ℕ) (v : Val) → IsOver n 0 v → Fit v → length (value_bytes place v) < 2 ^ 32 → ValueHasBytes Anywhere v
    value_fits n (Var level) h f l = f
    value_fits n (Chan number) h f l = absurd (omega (arith, h))
    value_fits n (Int i) h f l = f
    value_fits n (Char byte) h f l = tt
    value_fits n (Boolean b) h f l = tt
    value_fits n (Text bytes) h f l = omega (arith, l)
    value_fits n (PrimitiveVal p) h f l = tt
    value_fits n (Record vs ls) h f l =
        let e = record_length place vs ls in
        (omega (arith, l, e, vals_many n vs h.0), omega (arith, l, e, labelled_many ls), values_fit n vs h.0 f.0 (omega (arith, l, e)), labelled_fit n ls h.1 f.1 (omega (arith, l, e)))

    values_fit : (n : ℕ) (vs : Vals) → AreOver n 0 vs → AreFit vs → length (values_bytes place vs) < 2 ^ 32 → ValuesHaveBytes Anywhere vs
    values_fit n no_vals h f l = tt
    values_fit n (more_vals v vs) h f l =
        let e = length-append (value_bytes place v) (values_bytes place vs) in
        (value_fits n v h.0 f.0 (omega (arith, l, e)), values_fit n vs h.1 f.1 (omega (arith, l, e)))

    labelled_fit : (n : ℕ) (ls : Labelled) → LabelledOver n 0 ls → FieldsFit ls → length (labelled_bytes place ls) < 2 ^ 32 → LabelledHaveBytes Anywhere ls
    labelled_fit n no_labelled h f l = tt
    labelled_fit n (more_labelled label v ls) h f l =
        let e = length-append (value_bytes place v) (labelled_bytes place ls) in
        (tt, value_fits n v h.0 f.0 (omega (arith, l, e)), labelled_fit n ls h.1 f.1 (omega (arith, l, e)))

  mutual
    pattern_fits : (p : Pat) → length (pattern_bytes place p) < 2 ^ 32 → PatternHasBytes Anywhere p
    pattern_fits Bind l = tt
    pattern_fits Any l = tt
    pattern_fits (RecordPat ps ls) l =
        let e = pattern_length place ps ls in
        (omega (arith, l, e, pats_many ps), omega (arith, l, e, labelled_pats_many ls), patterns_fit ps (omega (arith, l, e)), labelled_patterns_fit ls (omega (arith, l, e)))

    patterns_fit : (ps : Pats) → length (patterns_bytes place ps) < 2 ^ 32 → PatternsHaveBytes Anywhere ps
    patterns_fit no_pats l = tt
    patterns_fit (more_pats p ps) l =
        let e = length-append (pattern_bytes place p) (patterns_bytes place ps) in
        (pattern_fits p (omega (arith, l, e)), patterns_fit ps (omega (arith, l, e)))

    labelled_patterns_fit : (ls : LabelledPats) → length (labelled_patterns_bytes place ls) < 2 ^ 32 → LabelledPatternsHaveBytes Anywhere ls
    labelled_patterns_fit no_labelled_pats l = tt
    labelled_patterns_fit (more_labelled_pats label p ls) l =
        let e = length-append (pattern_bytes place p) (labelled_patterns_bytes place ls) in
        (tt, pattern_fits p (omega (arith, l, e)), labelled_patterns_fit ls (omega (arith, l, e)))

  pub process_fits : (n : ℕ) (p : Process) → IsUnder n 0 p → ProcessFits p → length (process_bytes place p) < 2 ^ 32 → HasBytes Anywhere p
  process_fits n Zero h f l = tt
  process_fits n (Par p q) h f l =
      let e = length-append (process_bytes place p) (process_bytes place q) in
      (process_fits n p h.0 f.0 (omega (arith, l, e)), process_fits n q h.1 f.1 (omega (arith, l, e)))
  process_fits n (New p) h f l = process_fits (n + 1) p h f (omega (arith, l))
  process_fits n (Out chan message at) h f l =
      let e = length-append (value_bytes place chan) (value_bytes place message) in
      (value_fits n chan h.0 f.0 (omega (arith, l, e)), value_fits n message h.1 f.1 (omega (arith, l, e)))
  process_fits n (In chan replicated pattern body) h f l =
      let d = length-append (value_bytes place chan) (pattern_bytes place pattern ++ process_bytes place body) in
      let e = length-append (pattern_bytes place pattern) (process_bytes place body) in
      (value_fits n chan h.0 f.0 (omega (arith, l, d, e)), pattern_fits pattern (omega (arith, l, d, e)), process_fits (n + binds pattern) body h.1 f.1 (omega (arith, l, d, e)))
  process_fits n (If test p q) h f l =
      let d = length-append (value_bytes place test) (process_bytes place p ++ process_bytes place q) in
      let e = length-append (process_bytes place p) (process_bytes place q) in
      (value_fits n test h.0 f.0 (omega (arith, l, d, e)), process_fits n p h.1 f.1 (omega (arith, l, d, e)), process_fits n q h.2 f.2 (omega (arith, l, d, e)))

-- ---- lengths at other places

both : (a b c d : List ℕ) → length a ≡ length b → length c ≡ length d → length (a ++ c) ≡ length (b ++ d)
both a b c d e f = omega (arith, e, f, length-append a c, length-append b d)

module _ (f g : ℕ → ℕ) where
  mutual
    long_value : (v : Val) → length (value_bytes f v) ≡ length (value_bytes g v)
    long_value (Var level) = refl
    long_value (Chan number) = refl
    long_value (Int n) = refl
    long_value (Char byte) = refl
    long_value (Boolean b) = refl
    long_value (Text bytes) = refl
    long_value (PrimitiveVal p) = refl
    long_value (Record vs ls) = record_length f vs ls ∙ ap (λ n. n + length (labelled_bytes f ls) + 9) (long_values vs) ∙ ap (λ n. length (values_bytes g vs) + n + 9) (long_labelled ls) ∙ sym (record_length g vs ls)

    long_values : (vs : Vals) → length (values_bytes f vs) ≡ length (values_bytes g vs)
    long_values no_vals = refl
    long_values (more_vals v vs) = both (value_bytes f v) (value_bytes g v) (values_bytes f vs) (values_bytes g vs) (long_value v) (long_values vs)

    long_labelled : (ls : Labelled) → length (labelled_bytes f ls) ≡ length (labelled_bytes g ls)
    long_labelled no_labelled = refl
    long_labelled (more_labelled label v ls) = omega (arith, both (value_bytes f v) (value_bytes g v) (labelled_bytes f ls) (labelled_bytes g ls) (long_value v) (long_labelled ls))

  mutual
    long_pattern : (p : Pat) → length (pattern_bytes f p) ≡ length (pattern_bytes g p)
    long_pattern Bind = refl
    long_pattern Any = refl
    long_pattern (RecordPat ps ls) = pattern_length f ps ls ∙ ap (λ n. n + length (labelled_patterns_bytes f ls) + 9) (long_patterns ps) ∙ ap (λ n. length (patterns_bytes g ps) + n + 9) (long_labelled_patterns ls) ∙ sym (pattern_length g ps ls)

    long_patterns : (ps : Pats) → length (patterns_bytes f ps) ≡ length (patterns_bytes g ps)
    long_patterns no_pats = refl
    long_patterns (more_pats p ps) = both (pattern_bytes f p) (pattern_bytes g p) (patterns_bytes f ps) (patterns_bytes g ps) (long_pattern p) (long_patterns ps)

    long_labelled_patterns : (ls : LabelledPats) → length (labelled_patterns_bytes f ls) ≡ length (labelled_patterns_bytes g ls)
    long_labelled_patterns no_labelled_pats = refl
    long_labelled_patterns (more_labelled_pats label p ls) = omega (arith, both (pattern_bytes f p) (pattern_bytes g p) (labelled_patterns_bytes f ls) (labelled_patterns_bytes g ls) (long_pattern p) (long_labelled_patterns ls))

  pub same_length : (p : Process) → length (process_bytes f p) ≡ length (process_bytes g p)
  same_length Zero = refl
  same_length (Par p q) = omega (arith, both (process_bytes f p) (process_bytes g p) (process_bytes f q) (process_bytes g q) (same_length p) (same_length q))
  same_length (New p) = omega (arith, same_length p)
  same_length (Out chan message at) = omega (arith, both (value_bytes f chan) (value_bytes g chan) (value_bytes f message) (value_bytes g message) (long_value chan) (long_value message))
  same_length (In chan replicated pattern body) =
      let e = both (pattern_bytes f pattern) (pattern_bytes g pattern) (process_bytes f body) (process_bytes g body) (long_pattern pattern) (same_length body) in
      omega (arith, both (value_bytes f chan) (value_bytes g chan) (pattern_bytes f pattern ++ process_bytes f body) (pattern_bytes g pattern ++ process_bytes g body) (long_value chan) e)
  same_length (If test p q) =
      let e = both (process_bytes f p) (process_bytes g p) (process_bytes f q) (process_bytes g q) (same_length p) (same_length q) in
      omega (arith, both (value_bytes f test) (value_bytes g test) (process_bytes f p ++ process_bytes f q) (process_bytes g p ++ process_bytes g q) (long_value test) e)

-- ---- labels that have places

module _ (Placed : ℕ → Type 0) where
  mutual
    placed_value : (v : Val) → AllByRecursion Placed (labels_of_value v) → ValueHasBytes Anywhere v → ValueHasBytes Placed v
    placed_value (Var level) a h = h
    placed_value (Chan number) a h = h
    placed_value (Int n) a h = h
    placed_value (Char byte) a h = h
    placed_value (Boolean b) a h = h
    placed_value (Text bytes) a h = h
    placed_value (PrimitiveVal p) a h = h
    placed_value (Record vs ls) a h = (h.0, h.1, placed_values vs (all_front Placed (labels_of_values vs) (labels_of_labelled ls) a) h.2, placed_labelled ls (all_back Placed (labels_of_values vs) (labels_of_labelled ls) a) h.3)

    placed_values : (vs : Vals) → AllByRecursion Placed (labels_of_values vs) → ValuesHaveBytes Anywhere vs → ValuesHaveBytes Placed vs
    placed_values no_vals a h = tt
    placed_values (more_vals v vs) a h = (placed_value v (all_front Placed (labels_of_value v) (labels_of_values vs) a) h.0, placed_values vs (all_back Placed (labels_of_value v) (labels_of_values vs) a) h.1)

    placed_labelled : (ls : Labelled) → AllByRecursion Placed (labels_of_labelled ls) → LabelledHaveBytes Anywhere ls → LabelledHaveBytes Placed ls
    placed_labelled no_labelled a h = tt
    placed_labelled (more_labelled label v ls) a h = (a.0, placed_value v (all_front Placed (labels_of_value v) (labels_of_labelled ls) a.1) h.1, placed_labelled ls (all_back Placed (labels_of_value v) (labels_of_labelled ls) a.1) h.2)

  mutual
    placed_pattern : (p : Pat) → AllByRecursion Placed (labels_of_pattern p) → PatternHasBytes Anywhere p → PatternHasBytes Placed p
    placed_pattern Bind a h = tt
    placed_pattern Any a h = tt
    placed_pattern (RecordPat ps ls) a h = (h.0, h.1, placed_patterns ps (all_front Placed (labels_of_patterns ps) (labels_of_labelled_patterns ls) a) h.2, placed_labelled_patterns ls (all_back Placed (labels_of_patterns ps) (labels_of_labelled_patterns ls) a) h.3)

    placed_patterns : (ps : Pats) → AllByRecursion Placed (labels_of_patterns ps) → PatternsHaveBytes Anywhere ps → PatternsHaveBytes Placed ps
    placed_patterns no_pats a h = tt
    placed_patterns (more_pats p ps) a h = (placed_pattern p (all_front Placed (labels_of_pattern p) (labels_of_patterns ps) a) h.0, placed_patterns ps (all_back Placed (labels_of_pattern p) (labels_of_patterns ps) a) h.1)

    placed_labelled_patterns : (ls : LabelledPats) → AllByRecursion Placed (labels_of_labelled_patterns ls) → LabelledPatternsHaveBytes Anywhere ls → LabelledPatternsHaveBytes Placed ls
    placed_labelled_patterns no_labelled_pats a h = tt
    placed_labelled_patterns (more_labelled_pats label p ls) a h = (a.0, placed_pattern p (all_front Placed (labels_of_pattern p) (labels_of_labelled_patterns ls) a.1) h.1, placed_labelled_patterns ls (all_back Placed (labels_of_pattern p) (labels_of_labelled_patterns ls) a.1) h.2)

  pub placed : (p : Process) → AllByRecursion Placed (labels_of p) → HasBytes Anywhere p → HasBytes Placed p
  placed Zero a h = tt
  placed (Par p q) a h = (placed p (all_front Placed (labels_of p) (labels_of q) a) h.0, placed q (all_back Placed (labels_of p) (labels_of q) a) h.1)
  placed (New p) a h = placed p a h
  placed (Out chan message at) a h = (placed_value chan (all_front Placed (labels_of_value chan) (labels_of_value message) a) h.0, placed_value message (all_back Placed (labels_of_value chan) (labels_of_value message) a) h.1)
  placed (In chan replicated pattern body) a h =
      let rest = all_back Placed (labels_of_value chan) (labels_of_pattern pattern ++ labels_of body) a in
      (placed_value chan (all_front Placed (labels_of_value chan) (labels_of_pattern pattern ++ labels_of body) a) h.0, placed_pattern pattern (all_front Placed (labels_of_pattern pattern) (labels_of body) rest) h.1, placed body (all_back Placed (labels_of_pattern pattern) (labels_of body) rest) h.2)
  placed (If test p q) a h =
      let rest = all_back Placed (labels_of_value test) (labels_of p ++ labels_of q) a in
      (placed_value test (all_front Placed (labels_of_value test) (labels_of p ++ labels_of q) a) h.0, placed p (all_front Placed (labels_of p) (labels_of q) rest) h.1, placed q (all_back Placed (labels_of p) (labels_of q) rest) h.2)
