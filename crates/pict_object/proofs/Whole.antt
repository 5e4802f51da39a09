-- Whole objects.
use Rattle.std.proofs.Common.{ℕ, ◌≡◌, ◌<◌, ◌+◌, ◌^◌, Bool, true, false, cond, List, [], ◌∷◌, ◌++◌, length, drop, refl, sym, ap, ◌∙◌, subst, append_assoc, append-nil, arith}
use Rattle.std.specs.Prelude.{IsTrue}
use Rattle.std.specs.List.{list_any, flat_map, AllByRecursion}
use Rattle.std.specs.Str.{bytes_eq}
use Rattle.pict_core.specs.Term.{Val, Vals, Labelled, Pat, Pats, LabelledPats, Var, Chan, Int, Char, Boolean, Text, PrimitiveVal, Record, no_vals, more_vals, no_labelled, more_labelled, Bind, Any, RecordPat, no_pats, more_pats, no_labelled_pats, more_labelled_pats, Zero, Par, New, Out, In, If}
use Rattle.pict_syntax.specs.Names.{text_of, number_of}
use Rattle.pict_object.specs.Objects.{text_bytes, place_in, process_bytes, bare, nowhere}
use Rattle.pict_object.specs.Fits.{HasBytes}
use Rattle.pict_object.specs.Laws.{ArePlaces, ObjectsAreReadOnce}
use Rattle.pict_object.specs.Dressing.{dressed_value, dressed_values, dressed_labelled, dressed_pattern, dressed_patterns, dressed_labelled_patterns, dressed, undressed, WithoutPlaces, LabelsExtend}
use Rattle.pict_object.proofs.Once.{Once, count_once, text_once, processes_are_read_once}
use Rattle.pict_object.proofs.Places.{number_below, same_text}

one_text : (a b : List ℕ) (r s : List ℕ) → length a < 2 ^ 32 → length b < 2 ^ 32 → text_bytes a ++ r ≡ text_bytes b ++ s → Once a b r s
one_text a b r s f g h =
    let n = count_once (length a) (length b) (a ++ r) (b ++ s) f g h in
    text_once a b r s n.0 n.1

pub tables_once : (t u : List (List ℕ)) (r s : List ℕ) → length t ≡ length u → AllByRecursion (λ text. length text < 2 ^ 32) t → AllByRecursion (λ text. length text < 2 ^ 32) u
    → flat_map text_bytes t ++ r ≡ flat_map text_bytes u ++ s → (t ≡ u) × (r ≡ s)
tables_once [] [] r s n f g h = (refl, h)
tables_once [] (y ∷ u) r s n f g h = absurd (omega (arith, n))
tables_once (x ∷ t) [] r s n f g h = absurd (omega (arith, n))
tables_once (x ∷ t) (y ∷ u) r s n f g h =
    let o = one_text x y (flat_map text_bytes t ++ r) (flat_map text_bytes u ++ s) f.0 g.0 (sym (append_assoc (text_bytes x) (flat_map text_bytes t) r) ∙ h ∙ append_assoc (text_bytes y) (flat_map text_bytes u) s) in
    let e = tables_once t u r s (omega (arith, n)) f.1 g.1 o.1 in
    (ap (λ z. z ∷ t) o.0 ∙ ap (λ z. y ∷ z) e.0, e.1)

pub objects_are_read_once : ObjectsAreReadOnce
objects_are_read_once names table others p q own f g h =
    let n = count_once (length table) (length others) (flat_map text_bytes table ++ process_bytes (place_in names table) p) (flat_map text_bytes others ++ process_bytes (place_in names others) q) f.few g.few (ap (drop 5) h) in
    let t = tables_once table others (process_bytes (place_in names table) p) (process_bytes (place_in names others) q) n.0 f.short g.short n.1 in
    let same : HasBytes (λ label. IsTrue (list_any (bytes_eq (text_of names label)) table)) q = subst (λ z. HasBytes (λ label. IsTrue (list_any (bytes_eq (text_of names label)) z)) q) (sym t.0) g.labels in
    let bytes : process_bytes (place_in names table) p ≡ process_bytes (place_in names table) q = t.1 ∙ ap (λ z. process_bytes (place_in names z) q) (sym t.0) in
    let places : ArePlaces (place_in names table) (λ label. IsTrue (list_any (bytes_eq (text_of names label)) table)) = record {
      own = λ l m a b e. own l m a (same_text table (text_of names l) (text_of names m) a b e);
      small = λ l a. omega (arith, number_below table (text_of names l) a, f.few);
    } in
    let o = processes_are_read_once (place_in names table) (λ label. IsTrue (list_any (bytes_eq (text_of names label)) table)) places p q [] [] f.labels same (append-nil _ ∙ bytes ∙ sym (append-nil _)) in
    (t.0, o.0)

-- ---- without places

mutual
  same_value : (v : Val) → dressed_value undressed v ≡ v
  same_value (Var x) = refl
  same_value (Chan x) = refl
  same_value (Int x) = refl
  same_value (Char x) = refl
  same_value (Boolean x) = refl
  same_value (Text x) = refl
  same_value (PrimitiveVal x) = refl
  same_value (Record vs ls) = ap (λ z. Record z (dressed_labelled undressed ls)) (same_values vs) ∙ ap (Record vs) (same_labelled ls)

  same_values : (vs : Vals) → dressed_values undressed vs ≡ vs
  same_values no_vals = refl
  same_values (more_vals v vs) = ap (λ z. more_vals z (dressed_values undressed vs)) (same_value v) ∙ ap (more_vals v) (same_values vs)

  same_labelled : (ls : Labelled) → dressed_labelled undressed ls ≡ ls
  same_labelled no_labelled = refl
  same_labelled (more_labelled l v ls) = ap (λ z. more_labelled l z (dressed_labelled undressed ls)) (same_value v) ∙ ap (more_labelled l v) (same_labelled ls)

mutual
  same_pattern : (p : Pat) → dressed_pattern undressed p ≡ p
  same_pattern Bind = refl
  same_pattern Any = refl
  same_pattern (RecordPat ps ls) = ap (λ z. RecordPat z (dressed_labelled_patterns undressed ls)) (same_patterns ps) ∙ ap (RecordPat ps) (same_labelled_patterns ls)

  same_patterns : (ps : Pats) → dressed_patterns undressed ps ≡ ps
  same_patterns no_pats = refl
  same_patterns (more_pats p ps) = ap (λ z. more_pats z (dressed_patterns undressed ps)) (same_pattern p) ∙ ap (more_pats p) (same_patterns ps)

  same_labelled_patterns : (ls : LabelledPats) → dressed_labelled_patterns undressed ls ≡ ls
  same_labelled_patterns no_labelled_pats = refl
  same_labelled_patterns (more_labelled_pats l p ls) = ap (λ z. more_labelled_pats l z (dressed_labelled_patterns undressed ls)) (same_pattern p) ∙ ap (more_labelled_pats l p) (same_labelled_patterns ls)

pub without_places : WithoutPlaces
without_places Zero = refl
without_places (Par p q) = ap (λ z. Par z (dressed undressed q)) (without_places p) ∙ ap (Par (bare p)) (without_places q)
without_places (New p) = ap New (without_places p)
without_places (Out chan message at) = ap (λ z. Out z (dressed_value undressed message) nowhere) (same_value chan) ∙ ap (λ z. Out chan z nowhere) (same_value message)
without_places (In chan replicated pattern body) =
    ap (λ z. In z replicated (dressed_pattern undressed pattern) (dressed undressed body)) (same_value chan)
    ∙ ap (λ z. In chan replicated z (dressed undressed body)) (same_pattern pattern) ∙ ap (In chan replicated pattern) (without_places body)
without_places (If test p q) = ap (λ z. If z (dressed undressed p) (dressed undressed q)) (same_value test) ∙ ap (λ z. If test z (dressed undressed q)) (without_places p) ∙ ap (If test (bare p)) (without_places q)

-- ---- labels of two lists of names

extended : (a b : Bool) (s t : List ℕ) (others : List (List ℕ)) (l m : ℕ) → list_any (bytes_eq s) others ≡ a → list_any (bytes_eq t) others ≡ b → (s ≡ t → a ≡ true → l ≡ m)
    → cond a (number_of others s) (length others + l) ≡ cond b (number_of others t) (length others + m) → l ≡ m
extended true true s t others l m h k own e = own (same_text others s t h k e) refl
extended true false s t others l m h k own e = absurd (omega (arith, e, number_below others s h))
extended false true s t others l m h k own e = absurd (omega (arith, e, number_below others t k))
extended false false s t others l m h k own e = omega (arith, e)

pub labels_extend : LabelsExtend
labels_extend names others l m own e = extended (list_any (bytes_eq (text_of names l)) others) (list_any (bytes_eq (text_of names m)) others) (text_of names l) (text_of names m) others l m refl refl own e
