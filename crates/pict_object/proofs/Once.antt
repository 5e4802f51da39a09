-- Bytes are read in one way.
use Rattle.std.proofs.Common.{ℕ, ◌≡◌, ◌<◌, ◌^◌, ℤ, Bool, true, false, List, [], ◌∷◌, ◌++◌, length, take, drop, nat_eq, refl, sym, ap, ◌∙◌, append_assoc, arith, slice_index_or}
use Rattle.std.specs.Prelude.{FitsSigned}
use Rattle.std.specs.Int.{w32, w64, to_be_bytes, from_be_bytes, cast_unsigned, cast_signed}
use Rattle.std.proofs.lemmas.Int.{to_z-of_z}
use Rattle.std.proofs.lemmas.Bool.Decides.{nat_tests}
use Rattle.std.proofs.Math.Facts.{Fits-of_z, Fits-lt-pow}
use Rattle.std.proofs.lemmas.Nat.{from_be_bytes-to_be_bytes_4, from_be_bytes-to_be_bytes_8}
use Rattle.pict_syntax.specs.declared.primitive.Primitive.{Primitive}
use Rattle.pict_syntax.specs.Primitives.{primitive_number}
use Rattle.pict_syntax.proofs.Numbered.{one_number}
use Rattle.pict_core.specs.Term.{Val, Vals, Labelled, Pat, Pats, LabelledPats, Bind, Any, RecordPat, no_pats, more_pats, no_labelled_pats, more_labelled_pats, Process, Var, Chan, Int, Char, Boolean, Text, PrimitiveVal, Record, no_vals, more_vals, no_labelled, more_labelled, Zero, Par, New, Out, In, If}
use Rattle.pict_object.specs.Objects.{count_bytes, how_many_vals, how_many_labelled, how_many_pats, how_many_labelled_pats, bool_byte, value_bytes, values_bytes, labelled_bytes, pattern_bytes, patterns_bytes, labelled_patterns_bytes, process_bytes, bare, nowhere}
use Rattle.pict_object.specs.Fits.{ValueHasBytes, ValuesHaveBytes, LabelledHaveBytes, PatternHasBytes, PatternsHaveBytes, LabelledPatternsHaveBytes, HasBytes}
use Rattle.pict_object.specs.Laws.{ArePlaces, ProcessesAreReadOnce}

-- both of two lists are the same, and what comes behind them
abbrev pub Once : {A : Type 0} → A → A → List ℕ → List ℕ → Type 0
Once a b r s = (a ≡ b) × (r ≡ s)

abbrev tail : List ℕ → List ℕ
tail xs = drop 1 xs

abbrev head : List ℕ → ℕ
head xs = slice_index_or xs 0 0

differ : (a b : ℕ) → (nat_eq a b ≡ false) → (xs ys : List ℕ) → a ∷ xs ≡ b ∷ ys → ⊥
differ a b d xs ys h = grind (arith, nat_tests, ap head h)

pub count_once : (a b : ℕ) (r s : List ℕ) → a < 2 ^ 32 → b < 2 ^ 32 → count_bytes a ++ r ≡ count_bytes b ++ s → Once a b r s
count_once a b r s l m h = (sym (from_be_bytes-to_be_bytes_4 a l) ∙ ap (λ xs. from_be_bytes w32 (take 4 xs)) h ∙ from_be_bytes-to_be_bytes_4 b m, ap (drop 4) h)

bits_once : (a b : ℕ) (r s : List ℕ) → a < 2 ^ 64 → b < 2 ^ 64 → to_be_bytes w64 a ++ r ≡ to_be_bytes w64 b ++ s → Once a b r s
bits_once a b r s l m h = (sym (from_be_bytes-to_be_bytes_8 a l) ∙ ap (λ xs. from_be_bytes w64 (take 8 xs)) h ∙ from_be_bytes-to_be_bytes_8 b m, ap (drop 8) h)

int_once : (a b : ℤ) (r s : List ℕ) → FitsSigned w64 a → FitsSigned w64 b → to_be_bytes w64 (cast_unsigned w64 a) ++ r ≡ to_be_bytes w64 (cast_unsigned w64 b) ++ s → Once a b r s
int_once a b r s l m h =
    let o = bits_once (cast_unsigned w64 a) (cast_unsigned w64 b) r s (Fits-lt-pow {w = w64} (Fits-of_z {w = w64} l)) (Fits-lt-pow {w = w64} (Fits-of_z {w = w64} m)) h
    in (sym (to_z-of_z w64 a l) ∙ ap (cast_signed w64) o.0 ∙ to_z-of_z w64 b m, o.1)

-- lists of one length, whatever comes behind them
pub text_once : (a b r s : List ℕ) → length a ≡ length b → a ++ r ≡ b ++ s → Once a b r s
text_once [] [] r s l h = (refl, h)
text_once [] (y ∷ b) r s l h = absurd (omega (arith, l))
text_once (x ∷ a) [] r s l h = absurd (omega (arith, l))
text_once (x ∷ a) (y ∷ b) r s l h =
    let o = text_once a b r s (omega (arith, l)) (ap tail h)
    in (ap (λ z. z ∷ a) (ap head h) ∙ ap (λ zs. y ∷ zs) o.0, o.1)

bool_once : (a b : Bool) (r s : List ℕ) → bool_byte a ∷ r ≡ bool_byte b ∷ s → Once a b r s
bool_once true true r s h = (refl, ap tail h)
bool_once false false r s h = (refl, ap tail h)
bool_once true false r s h = absurd (differ 0x14 0x13 refl r s h)
bool_once false true r s h = absurd (differ 0x13 0x14 refl r s h)

primitive_once : (a b : Primitive) (r s : List ℕ) → primitive_number a ∷ r ≡ primitive_number b ∷ s → Once a b r s
primitive_once a b r s h = (one_number a b (ap head h), ap tail h)

-- a part, then the rest
part_of : (a b r s : List ℕ) (t u : List ℕ) → (a ++ b) ++ r ≡ (t ++ u) ++ s → a ++ (b ++ r) ≡ t ++ (u ++ s)
part_of a b r s t u h = sym (append_assoc a b r) ∙ h ∙ append_assoc t u s

module _ (place : ℕ → ℕ) (Placed : ℕ → Type 0) (places : ArePlaces place Placed) where
  label_once : (l m : ℕ) (r s : List ℕ) → Placed l → Placed m → count_bytes (place l) ++ r ≡ count_bytes (place m) ++ s → Once l m r s
  label_once l m r s f g h =
      let o = count_once (place l) (place m) r s (places.small l f) (places.small m g) h in (places.own l m f g o.0, o.1)

  mutual
    value_once : (v w : Val) (r s : List ℕ) → ValueHasBytes Placed v → ValueHasBytes Placed w → value_bytes place v ++ r ≡ value_bytes place w ++ s → Once v w r s
    value_once (Var x0) (Var y0) r s f g h = let o = count_once x0 y0 r s f g (ap tail h) in (ap Var o.0, o.1)
    value_once (Var x0) (Int y0) r s f g h = absurd (differ 0x10 0x11 refl (drop 1 (value_bytes place (Var x0) ++ r)) (drop 1 (value_bytes place (Int y0) ++ s)) h)
    value_once (Var x0) (Char y0) r s f g h = absurd (differ 0x10 0x12 refl (drop 1 (value_bytes place (Var x0) ++ r)) (drop 1 (value_bytes place (Char y0) ++ s)) h)
    value_once (Var x0) (Boolean true) r s f g h = absurd (differ 0x10 0x14 refl (drop 1 (value_bytes place (Var x0) ++ r)) (drop 1 (value_bytes place (Boolean true) ++ s)) h)
    value_once (Var x0) (Boolean false) r s f g h = absurd (differ 0x10 0x13 refl (drop 1 (value_bytes place (Var x0) ++ r)) (drop 1 (value_bytes place (Boolean false) ++ s)) h)
    value_once (Var x0) (Text y0) r s f g h = absurd (differ 0x10 0x15 refl (drop 1 (value_bytes place (Var x0) ++ r)) (drop 1 (value_bytes place (Text y0) ++ s)) h)
    value_once (Var x0) (PrimitiveVal y0) r s f g h = absurd (differ 0x10 0x16 refl (drop 1 (value_bytes place (Var x0) ++ r)) (drop 1 (value_bytes place (PrimitiveVal y0) ++ s)) h)
    value_once (Var x0) (Record y0 y1) r s f g h = absurd (differ 0x10 0x17 refl (drop 1 (value_bytes place (Var x0) ++ r)) (drop 1 (value_bytes place (Record y0 y1) ++ s)) h)
    value_once (Int x0) (Var y0) r s f g h = absurd (differ 0x11 0x10 refl (drop 1 (value_bytes place (Int x0) ++ r)) (drop 1 (value_bytes place (Var y0) ++ s)) h)
    value_once (Int x0) (Int y0) r s f g h = let o = int_once x0 y0 r s f g (ap tail h) in (ap Int o.0, o.1)
    value_once (Int x0) (Char y0) r s f g h = absurd (differ 0x11 0x12 refl (drop 1 (value_bytes place (Int x0) ++ r)) (drop 1 (value_bytes place (Char y0) ++ s)) h)
    value_once (Int x0) (Boolean true) r s f g h = absurd (differ 0x11 0x14 refl (drop 1 (value_bytes place (Int x0) ++ r)) (drop 1 (value_bytes place (Boolean true) ++ s)) h)
    value_once (Int x0) (Boolean false) r s f g h = absurd (differ 0x11 0x13 refl (drop 1 (value_bytes place (Int x0) ++ r)) (drop 1 (value_bytes place (Boolean false) ++ s)) h)
    value_once (Int x0) (Text y0) r s f g h = absurd (differ 0x11 0x15 refl (drop 1 (value_bytes place (Int x0) ++ r)) (drop 1 (value_bytes place (Text y0) ++ s)) h)
    value_once (Int x0) (PrimitiveVal y0) r s f g h = absurd (differ 0x11 0x16 refl (drop 1 (value_bytes place (Int x0) ++ r)) (drop 1 (value_bytes place (PrimitiveVal y0) ++ s)) h)
    value_once (Int x0) (Record y0 y1) r s f g h = absurd (differ 0x11 0x17 refl (drop 1 (value_bytes place (Int x0) ++ r)) (drop 1 (value_bytes place (Record y0 y1) ++ s)) h)
    value_once (Char x0) (Var y0) r s f g h = absurd (differ 0x12 0x10 refl (drop 1 (value_bytes place (Char x0) ++ r)) (drop 1 (value_bytes place (Var y0) ++ s)) h)
    value_once (Char x0) (Int y0) r s f g h = absurd (differ 0x12 0x11 refl (drop 1 (value_bytes place (Char x0) ++ r)) (drop 1 (value_bytes place (Int y0) ++ s)) h)
    value_once (Char x0) (Char y0) r s f g h = (ap Char (ap head (ap tail h)), ap (drop 2) h)
    value_once (Char x0) (Boolean true) r s f g h = absurd (differ 0x12 0x14 refl (drop 1 (value_bytes place (Char x0) ++ r)) (drop 1 (value_bytes place (Boolean true) ++ s)) h)
    value_once (Char x0) (Boolean false) r s f g h = absurd (differ 0x12 0x13 refl (drop 1 (value_bytes place (Char x0) ++ r)) (drop 1 (value_bytes place (Boolean false) ++ s)) h)
    value_once (Char x0) (Text y0) r s f g h = absurd (differ 0x12 0x15 refl (drop 1 (value_bytes place (Char x0) ++ r)) (drop 1 (value_bytes place (Text y0) ++ s)) h)
    value_once (Char x0) (PrimitiveVal y0) r s f g h = absurd (differ 0x12 0x16 refl (drop 1 (value_bytes place (Char x0) ++ r)) (drop 1 (value_bytes place (PrimitiveVal y0) ++ s)) h)
    value_once (Char x0) (Record y0 y1) r s f g h = absurd (differ 0x12 0x17 refl (drop 1 (value_bytes place (Char x0) ++ r)) (drop 1 (value_bytes place (Record y0 y1) ++ s)) h)
    value_once (Boolean true) (Var y0) r s f g h = absurd (differ 0x14 0x10 refl (drop 1 (value_bytes place (Boolean true) ++ r)) (drop 1 (value_bytes place (Var y0) ++ s)) h)
    value_once (Boolean false) (Var y0) r s f g h = absurd (differ 0x13 0x10 refl (drop 1 (value_bytes place (Boolean false) ++ r)) (drop 1 (value_bytes place (Var y0) ++ s)) h)
    value_once (Boolean true) (Int y0) r s f g h = absurd (differ 0x14 0x11 refl (drop 1 (value_bytes place (Boolean true) ++ r)) (drop 1 (value_bytes place (Int y0) ++ s)) h)
    value_once (Boolean false) (Int y0) r s f g h = absurd (differ 0x13 0x11 refl (drop 1 (value_bytes place (Boolean false) ++ r)) (drop 1 (value_bytes place (Int y0) ++ s)) h)
    value_once (Boolean true) (Char y0) r s f g h = absurd (differ 0x14 0x12 refl (drop 1 (value_bytes place (Boolean true) ++ r)) (drop 1 (value_bytes place (Char y0) ++ s)) h)
    value_once (Boolean false) (Char y0) r s f g h = absurd (differ 0x13 0x12 refl (drop 1 (value_bytes place (Boolean false) ++ r)) (drop 1 (value_bytes place (Char y0) ++ s)) h)
    value_once (Boolean x0) (Boolean y0) r s f g h = let o = bool_once x0 y0 r s h in (ap Boolean o.0, o.1)
    value_once (Boolean true) (Text y0) r s f g h = absurd (differ 0x14 0x15 refl (drop 1 (value_bytes place (Boolean true) ++ r)) (drop 1 (value_bytes place (Text y0) ++ s)) h)
    value_once (Boolean false) (Text y0) r s f g h = absurd (differ 0x13 0x15 refl (drop 1 (value_bytes place (Boolean false) ++ r)) (drop 1 (value_bytes place (Text y0) ++ s)) h)
    value_once (Boolean true) (PrimitiveVal y0) r s f g h = absurd (differ 0x14 0x16 refl (drop 1 (value_bytes place (Boolean true) ++ r)) (drop 1 (value_bytes place (PrimitiveVal y0) ++ s)) h)
    value_once (Boolean false) (PrimitiveVal y0) r s f g h = absurd (differ 0x13 0x16 refl (drop 1 (value_bytes place (Boolean false) ++ r)) (drop 1 (value_bytes place (PrimitiveVal y0) ++ s)) h)
    value_once (Boolean true) (Record y0 y1) r s f g h = absurd (differ 0x14 0x17 refl (drop 1 (value_bytes place (Boolean true) ++ r)) (drop 1 (value_bytes place (Record y0 y1) ++ s)) h)
    value_once (Boolean false) (Record y0 y1) r s f g h = absurd (differ 0x13 0x17 refl (drop 1 (value_bytes place (Boolean false) ++ r)) (drop 1 (value_bytes place (Record y0 y1) ++ s)) h)
    value_once (Text x0) (Var y0) r s f g h = absurd (differ 0x15 0x10 refl (drop 1 (value_bytes place (Text x0) ++ r)) (drop 1 (value_bytes place (Var y0) ++ s)) h)
    value_once (Text x0) (Int y0) r s f g h = absurd (differ 0x15 0x11 refl (drop 1 (value_bytes place (Text x0) ++ r)) (drop 1 (value_bytes place (Int y0) ++ s)) h)
    value_once (Text x0) (Char y0) r s f g h = absurd (differ 0x15 0x12 refl (drop 1 (value_bytes place (Text x0) ++ r)) (drop 1 (value_bytes place (Char y0) ++ s)) h)
    value_once (Text x0) (Boolean true) r s f g h = absurd (differ 0x15 0x14 refl (drop 1 (value_bytes place (Text x0) ++ r)) (drop 1 (value_bytes place (Boolean true) ++ s)) h)
    value_once (Text x0) (Boolean false) r s f g h = absurd (differ 0x15 0x13 refl (drop 1 (value_bytes place (Text x0) ++ r)) (drop 1 (value_bytes place (Boolean false) ++ s)) h)
    value_once (Text x0) (Text y0) r s f g h =
        let n = count_once (length x0) (length y0) (x0 ++ r) (y0 ++ s) f g (ap tail h) in
        let o = text_once x0 y0 r s n.0 n.1 in (ap Text o.0, o.1)
    value_once (Text x0) (PrimitiveVal y0) r s f g h = absurd (differ 0x15 0x16 refl (drop 1 (value_bytes place (Text x0) ++ r)) (drop 1 (value_bytes place (PrimitiveVal y0) ++ s)) h)
    value_once (Text x0) (Record y0 y1) r s f g h = absurd (differ 0x15 0x17 refl (drop 1 (value_bytes place (Text x0) ++ r)) (drop 1 (value_bytes place (Record y0 y1) ++ s)) h)
    value_once (PrimitiveVal x0) (Var y0) r s f g h = absurd (differ 0x16 0x10 refl (drop 1 (value_bytes place (PrimitiveVal x0) ++ r)) (drop 1 (value_bytes place (Var y0) ++ s)) h)
    value_once (PrimitiveVal x0) (Int y0) r s f g h = absurd (differ 0x16 0x11 refl (drop 1 (value_bytes place (PrimitiveVal x0) ++ r)) (drop 1 (value_bytes place (Int y0) ++ s)) h)
    value_once (PrimitiveVal x0) (Char y0) r s f g h = absurd (differ 0x16 0x12 refl (drop 1 (value_bytes place (PrimitiveVal x0) ++ r)) (drop 1 (value_bytes place (Char y0) ++ s)) h)
    value_once (PrimitiveVal x0) (Boolean true) r s f g h = absurd (differ 0x16 0x14 refl (drop 1 (value_bytes place (PrimitiveVal x0) ++ r)) (drop 1 (value_bytes place (Boolean true) ++ s)) h)
    value_once (PrimitiveVal x0) (Boolean false) r s f g h = absurd (differ 0x16 0x13 refl (drop 1 (value_bytes place (PrimitiveVal x0) ++ r)) (drop 1 (value_bytes place (Boolean false) ++ s)) h)
    value_once (PrimitiveVal x0) (Text y0) r s f g h = absurd (differ 0x16 0x15 refl (drop 1 (value_bytes place (PrimitiveVal x0) ++ r)) (drop 1 (value_bytes place (Text y0) ++ s)) h)
    value_once (PrimitiveVal x0) (PrimitiveVal y0) r s f g h = let o = primitive_once x0 y0 r s (ap tail h) in (ap PrimitiveVal o.0, o.1)
    value_once (PrimitiveVal x0) (Record y0 y1) r s f g h = absurd (differ 0x16 0x17 refl (drop 1 (value_bytes place (PrimitiveVal x0) ++ r)) (drop 1 (value_bytes place (Record y0 y1) ++ s)) h)
    value_once (Record x0 x1) (Var y0) r s f g h = absurd (differ 0x17 0x10 refl (drop 1 (value_bytes place (Record x0 x1) ++ r)) (drop 1 (value_bytes place (Var y0) ++ s)) h)
    value_once (Record x0 x1) (Int y0) r s f g h = absurd (differ 0x17 0x11 refl (drop 1 (value_bytes place (Record x0 x1) ++ r)) (drop 1 (value_bytes place (Int y0) ++ s)) h)
    value_once (Record x0 x1) (Char y0) r s f g h = absurd (differ 0x17 0x12 refl (drop 1 (value_bytes place (Record x0 x1) ++ r)) (drop 1 (value_bytes place (Char y0) ++ s)) h)
    value_once (Record x0 x1) (Boolean true) r s f g h = absurd (differ 0x17 0x14 refl (drop 1 (value_bytes place (Record x0 x1) ++ r)) (drop 1 (value_bytes place (Boolean true) ++ s)) h)
    value_once (Record x0 x1) (Boolean false) r s f g h = absurd (differ 0x17 0x13 refl (drop 1 (value_bytes place (Record x0 x1) ++ r)) (drop 1 (value_bytes place (Boolean false) ++ s)) h)
    value_once (Record x0 x1) (Text y0) r s f g h = absurd (differ 0x17 0x15 refl (drop 1 (value_bytes place (Record x0 x1) ++ r)) (drop 1 (value_bytes place (Text y0) ++ s)) h)
    value_once (Record x0 x1) (PrimitiveVal y0) r s f g h = absurd (differ 0x17 0x16 refl (drop 1 (value_bytes place (Record x0 x1) ++ r)) (drop 1 (value_bytes place (PrimitiveVal y0) ++ s)) h)
    value_once (Record x0 x1) (Record y0 y1) r s f g h =
        let n = count_once (how_many_vals x0) (how_many_vals y0) ((values_bytes place x0 ++ (count_bytes (how_many_labelled x1) ++ labelled_bytes place x1)) ++ r) ((values_bytes place y0 ++ (count_bytes (how_many_labelled y1) ++ labelled_bytes place y1)) ++ s) f.0 g.0 (ap tail h) in
        let o = values_once x0 y0 ((count_bytes (how_many_labelled x1) ++ labelled_bytes place x1) ++ r) ((count_bytes (how_many_labelled y1) ++ labelled_bytes place y1) ++ s) f.2 g.2 n.0
        (part_of (values_bytes place x0) (count_bytes (how_many_labelled x1) ++ labelled_bytes place x1) r s (values_bytes place y0) (count_bytes (how_many_labelled y1) ++ labelled_bytes place y1) n.1) in
        let m = count_once (how_many_labelled x1) (how_many_labelled y1) (labelled_bytes place x1 ++ r) (labelled_bytes place y1 ++ s) f.1 g.1 o.1 in
        let e = labelled_once x1 y1 r s f.3 g.3 m.0 m.1 in
        (ap (λ z. Record z x1) o.0 ∙ ap (Record y0) e.0, e.1)
    value_once (Chan x) w r s f g h = absurd f
    value_once (Var x0) (Chan y) r s f g h = absurd g
    value_once (Int x0) (Chan y) r s f g h = absurd g
    value_once (Char x0) (Chan y) r s f g h = absurd g
    value_once (Boolean x0) (Chan y) r s f g h = absurd g
    value_once (Text x0) (Chan y) r s f g h = absurd g
    value_once (PrimitiveVal x0) (Chan y) r s f g h = absurd g
    value_once (Record x0 x1) (Chan y) r s f g h = absurd g

    values_once : (vs ws : Vals) (r s : List ℕ) → ValuesHaveBytes Placed vs → ValuesHaveBytes Placed ws → how_many_vals vs ≡ how_many_vals ws → values_bytes place vs ++ r ≡ values_bytes place ws ++ s → Once vs ws r s
    values_once no_vals no_vals r s f g n h = (refl, h)
    values_once no_vals (more_vals w ws) r s f g n h = absurd (omega (arith, n))
    values_once (more_vals v vs) no_vals r s f g n h = absurd (omega (arith, n))
    values_once (more_vals v vs) (more_vals w ws) r s f g n h =
        let o = value_once v w (values_bytes place vs ++ r) (values_bytes place ws ++ s) f.0 g.0 (part_of (value_bytes place v) (values_bytes place vs) r s (value_bytes place w) (values_bytes place ws) h) in
        let e = values_once vs ws r s f.1 g.1 (omega (arith, n)) o.1 in
        (ap (λ z. more_vals z vs) o.0 ∙ ap (more_vals w) e.0, e.1)

    labelled_once : (vs ws : Labelled) (r s : List ℕ) → LabelledHaveBytes Placed vs → LabelledHaveBytes Placed ws → how_many_labelled vs ≡ how_many_labelled ws → labelled_bytes place vs ++ r ≡ labelled_bytes place ws ++ s → Once vs ws r s
    labelled_once no_labelled no_labelled r s f g n h = (refl, h)
    labelled_once no_labelled (more_labelled m w ws) r s f g n h = absurd (omega (arith, n))
    labelled_once (more_labelled l v vs) no_labelled r s f g n h = absurd (omega (arith, n))
    labelled_once (more_labelled l v vs) (more_labelled m w ws) r s f g n h =
        let a = label_once l m ((value_bytes place v ++ labelled_bytes place vs) ++ r) ((value_bytes place w ++ labelled_bytes place ws) ++ s) f.0 g.0 h in
        let o = value_once v w (labelled_bytes place vs ++ r) (labelled_bytes place ws ++ s) f.1 g.1 (part_of (value_bytes place v) (labelled_bytes place vs) r s (value_bytes place w) (labelled_bytes place ws) a.1) in
        let e = labelled_once vs ws r s f.2 g.2 (omega (arith, n)) o.1 in
        (ap (λ z. more_labelled z v vs) a.0 ∙ ap (λ z. more_labelled m z vs) o.0 ∙ ap (more_labelled m w) e.0, e.1)

  mutual
    pattern_once : (p q : Pat) (r s : List ℕ) → PatternHasBytes Placed p → PatternHasBytes Placed q → pattern_bytes place p ++ r ≡ pattern_bytes place q ++ s → Once p q r s
    pattern_once Bind Bind r s f g h = (refl, ap tail h)
    pattern_once Bind Any r s f g h = absurd (differ 0x20 0x21 refl (drop 1 (pattern_bytes place Bind ++ r)) (drop 1 (pattern_bytes place Any ++ s)) h)
    pattern_once Bind (RecordPat y0 y1) r s f g h = absurd (differ 0x20 0x22 refl (drop 1 (pattern_bytes place Bind ++ r)) (drop 1 (pattern_bytes place (RecordPat y0 y1) ++ s)) h)
    pattern_once Any Bind r s f g h = absurd (differ 0x21 0x20 refl (drop 1 (pattern_bytes place Any ++ r)) (drop 1 (pattern_bytes place Bind ++ s)) h)
    pattern_once Any Any r s f g h = (refl, ap tail h)
    pattern_once Any (RecordPat y0 y1) r s f g h = absurd (differ 0x21 0x22 refl (drop 1 (pattern_bytes place Any ++ r)) (drop 1 (pattern_bytes place (RecordPat y0 y1) ++ s)) h)
    pattern_once (RecordPat x0 x1) Bind r s f g h = absurd (differ 0x22 0x20 refl (drop 1 (pattern_bytes place (RecordPat x0 x1) ++ r)) (drop 1 (pattern_bytes place Bind ++ s)) h)
    pattern_once (RecordPat x0 x1) Any r s f g h = absurd (differ 0x22 0x21 refl (drop 1 (pattern_bytes place (RecordPat x0 x1) ++ r)) (drop 1 (pattern_bytes place Any ++ s)) h)
    pattern_once (RecordPat x0 x1) (RecordPat y0 y1) r s f g h =
        let n = count_once (how_many_pats x0) (how_many_pats y0) ((patterns_bytes place x0 ++ (count_bytes (how_many_labelled_pats x1) ++ labelled_patterns_bytes place x1)) ++ r) ((patterns_bytes place y0 ++ (count_bytes (how_many_labelled_pats y1) ++ labelled_patterns_bytes place y1)) ++ s) f.0 g.0 (ap tail h) in
        let o = patterns_once x0 y0 ((count_bytes (how_many_labelled_pats x1) ++ labelled_patterns_bytes place x1) ++ r) ((count_bytes (how_many_labelled_pats y1) ++ labelled_patterns_bytes place y1) ++ s) f.2 g.2 n.0
        (part_of (patterns_bytes place x0) (count_bytes (how_many_labelled_pats x1) ++ labelled_patterns_bytes place x1) r s (patterns_bytes place y0) (count_bytes (how_many_labelled_pats y1) ++ labelled_patterns_bytes place y1) n.1) in
        let m = count_once (how_many_labelled_pats x1) (how_many_labelled_pats y1) (labelled_patterns_bytes place x1 ++ r) (labelled_patterns_bytes place y1 ++ s) f.1 g.1 o.1 in
        let e = labelled_patterns_once x1 y1 r s f.3 g.3 m.0 m.1 in
        (ap (λ z. RecordPat z x1) o.0 ∙ ap (RecordPat y0) e.0, e.1)

    patterns_once : (vs ws : Pats) (r s : List ℕ) → PatternsHaveBytes Placed vs → PatternsHaveBytes Placed ws → how_many_pats vs ≡ how_many_pats ws → patterns_bytes place vs ++ r ≡ patterns_bytes place ws ++ s → Once vs ws r s
    patterns_once no_pats no_pats r s f g n h = (refl, h)
    patterns_once no_pats (more_pats w ws) r s f g n h = absurd (omega (arith, n))
    patterns_once (more_pats v vs) no_pats r s f g n h = absurd (omega (arith, n))
    patterns_once (more_pats v vs) (more_pats w ws) r s f g n h =
        let o = pattern_once v w (patterns_bytes place vs ++ r) (patterns_bytes place ws ++ s) f.0 g.0 (part_of (pattern_bytes place v) (patterns_bytes place vs) r s (pattern_bytes place w) (patterns_bytes place ws) h) in
        let e = patterns_once vs ws r s f.1 g.1 (omega (arith, n)) o.1 in
        (ap (λ z. more_pats z vs) o.0 ∙ ap (more_pats w) e.0, e.1)

    labelled_patterns_once : (vs ws : LabelledPats) (r s : List ℕ) → LabelledPatternsHaveBytes Placed vs → LabelledPatternsHaveBytes Placed ws → how_many_labelled_pats vs ≡ how_many_labelled_pats ws → labelled_patterns_bytes place vs ++ r ≡ labelled_patterns_bytes place ws ++ s → Once vs ws r s
    labelled_patterns_once no_labelled_pats no_labelled_pats r s f g n h = (refl, h)
    labelled_patterns_once no_labelled_pats (more_labelled_pats m w ws) r s f g n h = absurd (omega (arith, n))
    labelled_patterns_once (more_labelled_pats l v vs) no_labelled_pats r s f g n h = absurd (omega (arith, n))
    labelled_patterns_once (more_labelled_pats l v vs) (more_labelled_pats m w ws) r s f g n h =
        let a = label_once l m ((pattern_bytes place v ++ labelled_patterns_bytes place vs) ++ r) ((pattern_bytes place w ++ labelled_patterns_bytes place ws) ++ s) f.0 g.0 h in
        let o = pattern_once v w (labelled_patterns_bytes place vs ++ r) (labelled_patterns_bytes place ws ++ s) f.1 g.1 (part_of (pattern_bytes place v) (labelled_patterns_bytes place vs) r s (pattern_bytes place w) (labelled_patterns_bytes place ws) a.1) in
        let e = labelled_patterns_once vs ws r s f.2 g.2 (omega (arith, n)) o.1 in
        (ap (λ z. more_labelled_pats z v vs) a.0 ∙ ap (λ z. more_labelled_pats m z vs) o.0 ∙ ap (more_labelled_pats m w) e.0, e.1)

  process_once : (p q : Process) (r s : List ℕ) → HasBytes Placed p → HasBytes Placed q → process_bytes place p ++ r ≡ process_bytes place q ++ s → Once (bare p) (bare q) r s
  process_once Zero Zero r s f g h = (refl, ap tail h)
  process_once Zero (Par y0 y1) r s f g h = absurd (differ 0 1 refl (drop 1 (process_bytes place Zero ++ r)) (drop 1 (process_bytes place (Par y0 y1) ++ s)) h)
  process_once Zero (New y0) r s f g h = absurd (differ 0 2 refl (drop 1 (process_bytes place Zero ++ r)) (drop 1 (process_bytes place (New y0) ++ s)) h)
  process_once Zero (Out y0 y1 y2) r s f g h = absurd (differ 0 3 refl (drop 1 (process_bytes place Zero ++ r)) (drop 1 (process_bytes place (Out y0 y1 y2) ++ s)) h)
  process_once Zero (In y0 false y2 y3) r s f g h = absurd (differ 0 4 refl (drop 1 (process_bytes place Zero ++ r)) (drop 1 (process_bytes place (In y0 false y2 y3) ++ s)) h)
  process_once Zero (In y0 true y2 y3) r s f g h = absurd (differ 0 5 refl (drop 1 (process_bytes place Zero ++ r)) (drop 1 (process_bytes place (In y0 true y2 y3) ++ s)) h)
  process_once Zero (If y0 y1 y2) r s f g h = absurd (differ 0 6 refl (drop 1 (process_bytes place Zero ++ r)) (drop 1 (process_bytes place (If y0 y1 y2) ++ s)) h)
  process_once (Par x0 x1) Zero r s f g h = absurd (differ 1 0 refl (drop 1 (process_bytes place (Par x0 x1) ++ r)) (drop 1 (process_bytes place Zero ++ s)) h)
  process_once (Par x0 x1) (Par y0 y1) r s f g h =
      let o = process_once x0 y0 (process_bytes place x1 ++ r) (process_bytes place y1 ++ s) f.0 g.0 (part_of (process_bytes place x0) (process_bytes place x1) r s (process_bytes place y0) (process_bytes place y1) (ap tail h)) in
      let e = process_once x1 y1 r s f.1 g.1 o.1 in
      (ap (λ z. Par z (bare x1)) o.0 ∙ ap (Par (bare y0)) e.0, e.1)
  process_once (Par x0 x1) (New y0) r s f g h = absurd (differ 1 2 refl (drop 1 (process_bytes place (Par x0 x1) ++ r)) (drop 1 (process_bytes place (New y0) ++ s)) h)
  process_once (Par x0 x1) (Out y0 y1 y2) r s f g h = absurd (differ 1 3 refl (drop 1 (process_bytes place (Par x0 x1) ++ r)) (drop 1 (process_bytes place (Out y0 y1 y2) ++ s)) h)
  process_once (Par x0 x1) (In y0 false y2 y3) r s f g h = absurd (differ 1 4 refl (drop 1 (process_bytes place (Par x0 x1) ++ r)) (drop 1 (process_bytes place (In y0 false y2 y3) ++ s)) h)
  process_once (Par x0 x1) (In y0 true y2 y3) r s f g h = absurd (differ 1 5 refl (drop 1 (process_bytes place (Par x0 x1) ++ r)) (drop 1 (process_bytes place (In y0 true y2 y3) ++ s)) h)
  process_once (Par x0 x1) (If y0 y1 y2) r s f g h = absurd (differ 1 6 refl (drop 1 (process_bytes place (Par x0 x1) ++ r)) (drop 1 (process_bytes place (If y0 y1 y2) ++ s)) h)
  process_once (New x0) Zero r s f g h = absurd (differ 2 0 refl (drop 1 (process_bytes place (New x0) ++ r)) (drop 1 (process_bytes place Zero ++ s)) h)
  process_once (New x0) (Par y0 y1) r s f g h = absurd (differ 2 1 refl (drop 1 (process_bytes place (New x0) ++ r)) (drop 1 (process_bytes place (Par y0 y1) ++ s)) h)
  process_once (New x0) (New y0) r s f g h = let o = process_once x0 y0 r s f g (ap tail h) in (ap New o.0, o.1)
  process_once (New x0) (Out y0 y1 y2) r s f g h = absurd (differ 2 3 refl (drop 1 (process_bytes place (New x0) ++ r)) (drop 1 (process_bytes place (Out y0 y1 y2) ++ s)) h)
  process_once (New x0) (In y0 false y2 y3) r s f g h = absurd (differ 2 4 refl (drop 1 (process_bytes place (New x0) ++ r)) (drop 1 (process_bytes place (In y0 false y2 y3) ++ s)) h)
  process_once (New x0) (In y0 true y2 y3) r s f g h = absurd (differ 2 5 refl (drop 1 (process_bytes place (New x0) ++ r)) (drop 1 (process_bytes place (In y0 true y2 y3) ++ s)) h)
  process_once (New x0) (If y0 y1 y2) r s f g h = absurd (differ 2 6 refl (drop 1 (process_bytes place (New x0) ++ r)) (drop 1 (process_bytes place (If y0 y1 y2) ++ s)) h)
  process_once (Out x0 x1 x2) Zero r s f g h = absurd (differ 3 0 refl (drop 1 (process_bytes place (Out x0 x1 x2) ++ r)) (drop 1 (process_bytes place Zero ++ s)) h)
  process_once (Out x0 x1 x2) (Par y0 y1) r s f g h = absurd (differ 3 1 refl (drop 1 (process_bytes place (Out x0 x1 x2) ++ r)) (drop 1 (process_bytes place (Par y0 y1) ++ s)) h)
  process_once (Out x0 x1 x2) (New y0) r s f g h = absurd (differ 3 2 refl (drop 1 (process_bytes place (Out x0 x1 x2) ++ r)) (drop 1 (process_bytes place (New y0) ++ s)) h)
  process_once (Out x0 x1 x2) (Out y0 y1 y2) r s f g h =
      let o = value_once x0 y0 (value_bytes place x1 ++ r) (value_bytes place y1 ++ s) f.0 g.0 (part_of (value_bytes place x0) (value_bytes place x1) r s (value_bytes place y0) (value_bytes place y1) (ap tail h)) in
      let e = value_once x1 y1 r s f.1 g.1 o.1 in
      (ap (λ z. Out z x1 nowhere) o.0 ∙ ap (λ z. Out y0 z nowhere) e.0, e.1)
  process_once (Out x0 x1 x2) (In y0 false y2 y3) r s f g h = absurd (differ 3 4 refl (drop 1 (process_bytes place (Out x0 x1 x2) ++ r)) (drop 1 (process_bytes place (In y0 false y2 y3) ++ s)) h)
  process_once (Out x0 x1 x2) (In y0 true y2 y3) r s f g h = absurd (differ 3 5 refl (drop 1 (process_bytes place (Out x0 x1 x2) ++ r)) (drop 1 (process_bytes place (In y0 true y2 y3) ++ s)) h)
  process_once (Out x0 x1 x2) (If y0 y1 y2) r s f g h = absurd (differ 3 6 refl (drop 1 (process_bytes place (Out x0 x1 x2) ++ r)) (drop 1 (process_bytes place (If y0 y1 y2) ++ s)) h)
  process_once (In x0 false x2 x3) Zero r s f g h = absurd (differ 4 0 refl (drop 1 (process_bytes place (In x0 false x2 x3) ++ r)) (drop 1 (process_bytes place Zero ++ s)) h)
  process_once (In x0 false x2 x3) (Par y0 y1) r s f g h = absurd (differ 4 1 refl (drop 1 (process_bytes place (In x0 false x2 x3) ++ r)) (drop 1 (process_bytes place (Par y0 y1) ++ s)) h)
  process_once (In x0 false x2 x3) (New y0) r s f g h = absurd (differ 4 2 refl (drop 1 (process_bytes place (In x0 false x2 x3) ++ r)) (drop 1 (process_bytes place (New y0) ++ s)) h)
  process_once (In x0 false x2 x3) (Out y0 y1 y2) r s f g h = absurd (differ 4 3 refl (drop 1 (process_bytes place (In x0 false x2 x3) ++ r)) (drop 1 (process_bytes place (Out y0 y1 y2) ++ s)) h)
  process_once (In x0 false x2 x3) (In y0 false y2 y3) r s f g h =
      let o = value_once x0 y0 ((pattern_bytes place x2 ++ process_bytes place x3) ++ r) ((pattern_bytes place y2 ++ process_bytes place y3) ++ s) f.0 g.0 (part_of (value_bytes place x0) (pattern_bytes place x2 ++ process_bytes place x3) r s (value_bytes place y0) (pattern_bytes place y2 ++ process_bytes place y3) (ap tail h)) in
      let m = pattern_once x2 y2 (process_bytes place x3 ++ r) (process_bytes place y3 ++ s) f.1 g.1 (part_of (pattern_bytes place x2) (process_bytes place x3) r s (pattern_bytes place y2) (process_bytes place y3) o.1) in
      let e = process_once x3 y3 r s f.2 g.2 m.1 in
      (ap (λ z. In z false x2 (bare x3)) o.0 ∙ ap (λ z. In y0 false z (bare x3)) m.0 ∙ ap (In y0 false y2) e.0, e.1)
  process_once (In x0 false x2 x3) (In y0 true y2 y3) r s f g h = absurd (differ 4 5 refl (drop 1 (process_bytes place (In x0 false x2 x3) ++ r)) (drop 1 (process_bytes place (In y0 true y2 y3) ++ s)) h)
  process_once (In x0 false x2 x3) (If y0 y1 y2) r s f g h = absurd (differ 4 6 refl (drop 1 (process_bytes place (In x0 false x2 x3) ++ r)) (drop 1 (process_bytes place (If y0 y1 y2) ++ s)) h)
  process_once (In x0 true x2 x3) Zero r s f g h = absurd (differ 5 0 refl (drop 1 (process_bytes place (In x0 true x2 x3) ++ r)) (drop 1 (process_bytes place Zero ++ s)) h)
  process_once (In x0 true x2 x3) (Par y0 y1) r s f g h = absurd (differ 5 1 refl (drop 1 (process_bytes place (In x0 true x2 x3) ++ r)) (drop 1 (process_bytes place (Par y0 y1) ++ s)) h)
  process_once (In x0 true x2 x3) (New y0) r s f g h = absurd (differ 5 2 refl (drop 1 (process_bytes place (In x0 true x2 x3) ++ r)) (drop 1 (process_bytes place (New y0) ++ s)) h)
  process_once (In x0 true x2 x3) (Out y0 y1 y2) r s f g h = absurd (differ 5 3 refl (drop 1 (process_bytes place (In x0 true x2 x3) ++ r)) (drop 1 (process_bytes place (Out y0 y1 y2) ++ s)) h)
  process_once (In x0 true x2 x3) (In y0 false y2 y3) r s f g h = absurd (differ 5 4 refl (drop 1 (process_bytes place (In x0 true x2 x3) ++ r)) (drop 1 (process_bytes place (In y0 false y2 y3) ++ s)) h)
  process_once (In x0 true x2 x3) (In y0 true y2 y3) r s f g h =
      let o = value_once x0 y0 ((pattern_bytes place x2 ++ process_bytes place x3) ++ r) ((pattern_bytes place y2 ++ process_bytes place y3) ++ s) f.0 g.0 (part_of (value_bytes place x0) (pattern_bytes place x2 ++ process_bytes place x3) r s (value_bytes place y0) (pattern_bytes place y2 ++ process_bytes place y3) (ap tail h)) in
      let m = pattern_once x2 y2 (process_bytes place x3 ++ r) (process_bytes place y3 ++ s) f.1 g.1 (part_of (pattern_bytes place x2) (process_bytes place x3) r s (pattern_bytes place y2) (process_bytes place y3) o.1) in
      let e = process_once x3 y3 r s f.2 g.2 m.1 in
      (ap (λ z. In z true x2 (bare x3)) o.0 ∙ ap (λ z. In y0 true z (bare x3)) m.0 ∙ ap (In y0 true y2) e.0, e.1)
  process_once (In x0 true x2 x3) (If y0 y1 y2) r s f g h = absurd (differ 5 6 refl (drop 1 (process_bytes place (In x0 true x2 x3) ++ r)) (drop 1 (process_bytes place (If y0 y1 y2) ++ s)) h)
  process_once (If x0 x1 x2) Zero r s f g h = absurd (differ 6 0 refl (drop 1 (process_bytes place (If x0 x1 x2) ++ r)) (drop 1 (process_bytes place Zero ++ s)) h)
  process_once (If x0 x1 x2) (Par y0 y1) r s f g h = absurd (differ 6 1 refl (drop 1 (process_bytes place (If x0 x1 x2) ++ r)) (drop 1 (process_bytes place (Par y0 y1) ++ s)) h)
  process_once (If x0 x1 x2) (New y0) r s f g h = absurd (differ 6 2 refl (drop 1 (process_bytes place (If x0 x1 x2) ++ r)) (drop 1 (process_bytes place (New y0) ++ s)) h)
  process_once (If x0 x1 x2) (Out y0 y1 y2) r s f g h = absurd (differ 6 3 refl (drop 1 (process_bytes place (If x0 x1 x2) ++ r)) (drop 1 (process_bytes place (Out y0 y1 y2) ++ s)) h)
  process_once (If x0 x1 x2) (In y0 false y2 y3) r s f g h = absurd (differ 6 4 refl (drop 1 (process_bytes place (If x0 x1 x2) ++ r)) (drop 1 (process_bytes place (In y0 false y2 y3) ++ s)) h)
  process_once (If x0 x1 x2) (In y0 true y2 y3) r s f g h = absurd (differ 6 5 refl (drop 1 (process_bytes place (If x0 x1 x2) ++ r)) (drop 1 (process_bytes place (In y0 true y2 y3) ++ s)) h)
  process_once (If x0 x1 x2) (If y0 y1 y2) r s f g h =
      let o = value_once x0 y0 ((process_bytes place x1 ++ process_bytes place x2) ++ r) ((process_bytes place y1 ++ process_bytes place y2) ++ s) f.0 g.0 (part_of (value_bytes place x0) (process_bytes place x1 ++ process_bytes place x2) r s (value_bytes place y0) (process_bytes place y1 ++ process_bytes place y2) (ap tail h)) in
      let m = process_once x1 y1 (process_bytes place x2 ++ r) (process_bytes place y2 ++ s) f.1 g.1 (part_of (process_bytes place x1) (process_bytes place x2) r s (process_bytes place y1) (process_bytes place y2) o.1) in
      let e = process_once x2 y2 r s f.2 g.2 m.1 in
      (ap (λ z. If z (bare x1) (bare x2)) o.0 ∙ ap (λ z. If y0 z (bare x2)) m.0 ∙ ap (If y0 (bare y1)) e.0, e.1)

pub processes_are_read_once : ProcessesAreReadOnce
processes_are_read_once place Placed places p q r s f g h = process_once place Placed places p q r s f g h
