-- The effect of a primitive by the number of its argument's positional fields.
use Rattle.std.proofs.Common.{◌≡◌, ◌≢◌, ℕ, ℤ, suc, List, [], ◌∷◌, length, map, get_or, Option, Some, None, IsSome, refl, sym, ◌∙◌, ap, arith}
use Rattle.pict_syntax.specs.declared.primitive.Primitive.{Primitive}
use Rattle.pict_syntax.specs.declared.primitive.Primitive.TheVariants as primitive
use Rattle.pict_core.specs.Term.{Val, Vals, Labelled, Var, Chan, Int, Char, Boolean, Text, PrimitiveVal, Record, no_vals, more_vals}
use Rattle.pict_core.specs.Plain.{vals_of}
use Rattle.pict_core.specs.Primitives.{Effect, effect_of, at_int, at_two, at_three}
use Rattle.pict_heap.specs.Fields.{count, positional_field, positional_count}
use Rattle.pict_heap.specs.HeapState.{HeapState, value_of}
use Rattle.pict_heap.specs.declared.word.Word.{Word}
use Rattle.pict_prim.specs.Answers.{of_numbers}
use Rattle.pict_prim.specs.Families.{one_effect, two_effect, simple_effect, int_effect}

two_by : (p : Primitive) (x k : Val) (ls : Labelled) → effect_of p (Record (more_vals x (more_vals k no_vals)) ls) ≡ one_effect p x k
two_by primitive.Print x k ls = refl
two_by _ x k ls = refl

-- where nothing is said of any number, nothing is said
pub none_of_int : (v : Val) (f : ℤ → Option Effect) → ((n : ℤ) → f n ≡ None) → at_int v f ≡ None
none_of_int (Int n) f h = h n
none_of_int (Var n) f h = refl
none_of_int (Chan n) f h = refl
none_of_int (Char n) f h = refl
none_of_int (Boolean n) f h = refl
none_of_int (Text n) f h = refl
none_of_int (PrimitiveVal n) f h = refl
none_of_int (Record vs ls) f h = refl

pub no_numbers : (x y : Val) → at_int x (λ a. at_int y (λ b. None)) ≡ None
no_numbers x y = none_of_int x _ (λ a. none_of_int y _ (λ b. refl))

none_by_numbers : (x y : Val) → None ≡ at_int x (λ a. at_int y (λ b. None))
none_by_numbers x y = sym (no_numbers x y)

three_by : (p : Primitive) (x y k : Val) (ls : Labelled) → effect_of p (Record (more_vals x (more_vals y (more_vals k no_vals))) ls) ≡ two_effect p x y k
three_by primitive.Print x y k ls = refl
three_by _ x y k ls = refl

-- the effect on three operands, where the first two are to be numbers
pub three_numbers : (p : Primitive) → (p ≡ primitive.Join → ⊥) → (p ≡ primitive.Nth → ⊥) → (x y k : Val) → two_effect p x y k ≡ at_int x (λ a. at_int y (λ b. int_effect p a b k))
three_numbers primitive.Join m n x y k = absurd (m refl)
three_numbers primitive.Nth m n x y k = absurd (n refl)
three_numbers primitive.Print m n x y k = none_by_numbers x y
three_numbers _ m n x y k = search none_by_numbers

-- the effect on a record of two numbers and a third field
pub numbers_by : (p : Primitive) (a b : ℤ) (k : Val) (ls : Labelled) → effect_of p (of_numbers a b k ls) ≡ int_effect p a b k
numbers_by primitive.Add a b k ls = refl
numbers_by _ a b k ls = refl

not_two : (vs : Vals) (ls : Labelled) → count vs ≢ 2 → (f : Val → Val → Option Effect) → at_two (Record vs ls) f ≡ None
not_two no_vals ls n f = refl
not_two (more_vals v no_vals) ls n f = refl
not_two (more_vals v (more_vals k no_vals)) ls n f = absurd (n refl)
not_two (more_vals v (more_vals k (more_vals x vs))) ls n f = refl

not_three : (vs : Vals) (ls : Labelled) → count vs ≢ 3 → (f : Val → Val → Val → Option Effect) → at_three (Record vs ls) f ≡ None
not_three no_vals ls n f = refl
not_three (more_vals v no_vals) ls n f = refl
not_three (more_vals v (more_vals w no_vals)) ls n f = refl
not_three (more_vals v (more_vals w (more_vals k no_vals))) ls n f = absurd (n refl)
not_three (more_vals v (more_vals w (more_vals k (more_vals x vs)))) ls n f = refl

other_by : (p : Primitive) (vs : Vals) (ls : Labelled) → count vs ≢ 2 → count vs ≢ 3 → effect_of p (Record vs ls) ≡ None
other_by primitive.Print vs ls m n = refl
other_by _ vs ls m n = search (not_two, not_three)

no_two : (v : Val) → positional_count v ≡ None → (f : Val → Val → Option Effect) → at_two v f ≡ None
no_two (Var n) e f = refl
no_two (Chan n) e f = refl
no_two (Int n) e f = refl
no_two (Char n) e f = refl
no_two (Boolean n) e f = refl
no_two (Text n) e f = refl
no_two (PrimitiveVal n) e f = refl
no_two (Record vs ls) e f = cc

no_three : (v : Val) → positional_count v ≡ None → (f : Val → Val → Val → Option Effect) → at_three v f ≡ None
no_three (Var n) e f = refl
no_three (Chan n) e f = refl
no_three (Int n) e f = refl
no_three (Char n) e f = refl
no_three (Boolean n) e f = refl
no_three (Text n) e f = refl
no_three (PrimitiveVal n) e f = refl
no_three (Record vs ls) e f = cc

-- an argument that is no record
pub simple_by : (p : Primitive) (v : Val) → positional_count v ≡ None → effect_of p v ≡ simple_effect p v
simple_by primitive.Print v e = refl
simple_by _ v e = search (no_two, no_three)

-- a record with two positional fields has both
pub has_two : (v : Val) → positional_count v ≡ Some 2 → IsSome (positional_field v 0) × IsSome (positional_field v 1)
has_two (Var n) e = cc
has_two (Chan n) e = cc
has_two (Int n) e = cc
has_two (Char n) e = cc
has_two (Boolean n) e = cc
has_two (Text n) e = cc
has_two (PrimitiveVal n) e = cc
has_two (Record no_vals ls) e = let n : ◌≡◌ {A = ℕ} 0 2 = cc in absurd (omega arith)
has_two (Record (more_vals v no_vals) ls) e = let n : ◌≡◌ {A = ℕ} 1 2 = cc in absurd (omega arith)
has_two (Record (more_vals v (more_vals w vs)) ls) e = (refl, refl)

pub has_three : (v : Val) → positional_count v ≡ Some 3 → IsSome (positional_field v 0) × IsSome (positional_field v 1) × IsSome (positional_field v 2)
has_three (Var n) e = cc
has_three (Chan n) e = cc
has_three (Int n) e = cc
has_three (Char n) e = cc
has_three (Boolean n) e = cc
has_three (Text n) e = cc
has_three (PrimitiveVal n) e = cc
has_three (Record no_vals ls) e = let n : ◌≡◌ {A = ℕ} 0 3 = cc in absurd (omega arith)
has_three (Record (more_vals v no_vals) ls) e = let n : ◌≡◌ {A = ℕ} 1 3 = cc in absurd (omega arith)
has_three (Record (more_vals v (more_vals w no_vals)) ls) e = let n : ◌≡◌ {A = ℕ} 2 3 = cc in absurd (omega arith)
has_three (Record (more_vals v (more_vals w (more_vals k vs))) ls) e = (refl, refl, refl)

-- the effect on a record with two positional fields, with three, or with another number
pub two_of : (p : Primitive) (v x k : Val) → positional_count v ≡ Some 2 → positional_field v 0 ≡ Some x → positional_field v 1 ≡ Some k → effect_of p v ≡ one_effect p x k
two_of p (Var n) x k e f g = cc
two_of p (Chan n) x k e f g = cc
two_of p (Int n) x k e f g = cc
two_of p (Char n) x k e f g = cc
two_of p (Boolean n) x k e f g = cc
two_of p (Text n) x k e f g = cc
two_of p (PrimitiveVal n) x k e f g = cc
two_of p (Record no_vals ls) x k e f g = cc
two_of p (Record (more_vals a no_vals) ls) x k e f g = cc
two_of p (Record (more_vals a (more_vals b no_vals)) ls) x k e f g =
    let i : a ≡ x = cc in
    let j : b ≡ k = cc in
    two_by p a b ls ∙ ap (λ y. one_effect p y b) i ∙ ap (one_effect p x) j
two_of p (Record (more_vals a (more_vals b (more_vals c vs))) ls) x k e f g = let n : suc (suc (suc (count vs))) ≡ 2 = cc in absurd (omega arith)

pub three_of : (p : Primitive) (v x y k : Val) → positional_count v ≡ Some 3 → positional_field v 0 ≡ Some x → positional_field v 1 ≡ Some y → positional_field v 2 ≡ Some k
    → effect_of p v ≡ two_effect p x y k
three_of p (Var n) x y k e f g h = cc
three_of p (Chan n) x y k e f g h = cc
three_of p (Int n) x y k e f g h = cc
three_of p (Char n) x y k e f g h = cc
three_of p (Boolean n) x y k e f g h = cc
three_of p (Text n) x y k e f g h = cc
three_of p (PrimitiveVal n) x y k e f g h = cc
three_of p (Record no_vals ls) x y k e f g h = cc
three_of p (Record (more_vals a no_vals) ls) x y k e f g h = cc
three_of p (Record (more_vals a (more_vals b no_vals)) ls) x y k e f g h = cc
three_of p (Record (more_vals a (more_vals b (more_vals c no_vals))) ls) x y k e f g h =
    let i : a ≡ x = cc in
    let j : b ≡ y = cc in
    let l : c ≡ k = cc in
    three_by p a b c ls ∙ ap (λ z. two_effect p z b c) i ∙ ap (λ z. two_effect p x z c) j ∙ ap (two_effect p x y) l
three_of p (Record (more_vals a (more_vals b (more_vals c (more_vals d vs)))) ls) x y k e f g h =
    let n : suc (suc (suc (suc (count vs)))) ≡ 3 = cc in absurd (omega arith)

pub other_of : (p : Primitive) (v : Val) (n : ℕ) → positional_count v ≡ Some n → n ≢ 2 → n ≢ 3 → effect_of p v ≡ None
other_of p (Var m) n e a b = cc
other_of p (Chan m) n e a b = cc
other_of p (Int m) n e a b = cc
other_of p (Char m) n e a b = cc
other_of p (Boolean m) n e a b = cc
other_of p (Text m) n e a b = cc
other_of p (PrimitiveVal m) n e a b = cc
other_of p (Record vs ls) n e a b = let i : count vs ≡ n = cc in other_by p vs ls (λ m. a (sym i ∙ m)) (λ m. b (sym i ∙ m))

-- the same of words
module _ (p : Primitive) (h : HeapState) (ls : Labelled) where
  pub two_words : (ws : List Word) (d e : Word) → length ws ≡ 2 → effect_of p (Record (vals_of (map (value_of h) ws)) ls) ≡ one_effect p (value_of h (get_or ws 0 d)) (value_of h (get_or ws 1 e))
  two_words [] d e n = absurd (omega arith)
  two_words (v ∷ []) d e n = absurd (omega arith)
  two_words (v ∷ k ∷ []) d e n = two_by p (value_of h v) (value_of h k) ls
  two_words (v ∷ k ∷ x ∷ ws) d e n = absurd (omega arith)

  pub three_words : (ws : List Word) (d e f : Word) → length ws ≡ 3
      → effect_of p (Record (vals_of (map (value_of h) ws)) ls) ≡ two_effect p (value_of h (get_or ws 0 d)) (value_of h (get_or ws 1 e)) (value_of h (get_or ws 2 f))
  three_words [] d e f n = absurd (omega arith)
  three_words (v ∷ []) d e f n = absurd (omega arith)
  three_words (v ∷ w ∷ []) d e f n = absurd (omega arith)
  three_words (v ∷ w ∷ k ∷ []) d e f n = three_by p (value_of h v) (value_of h w) (value_of h k) ls
  three_words (v ∷ w ∷ k ∷ x ∷ ws) d e f n = absurd (omega arith)

  counted : (ws : List Word) → count (vals_of (map (value_of h) ws)) ≡ length ws
  counted [] = refl
  counted (w ∷ ws) = ap suc (counted ws)

  pub other_words : (ws : List Word) → length ws ≢ 2 → length ws ≢ 3 → effect_of p (Record (vals_of (map (value_of h) ws)) ls) ≡ None
  other_words ws m n = other_by p (vals_of (map (value_of h) ws)) ls (λ e. m (sym (counted ws) ∙ e)) (λ e. n (sym (counted ws) ∙ e))

  -- the same, where the words were read
  pub two_read : (ws : List Word) (v k : Word) → length ws ≡ 2 → v ≡ get_or ws 0 v → k ≡ get_or ws 1 k → effect_of p (Record (vals_of (map (value_of h) ws)) ls) ≡ one_effect p (value_of h v) (value_of h k)
  two_read ws v k n e f = two_words ws v k n ∙ sym (ap (λ w. one_effect p (value_of h w) (value_of h k)) e ∙ ap (λ w. one_effect p (value_of h (get_or ws 0 v)) (value_of h w)) f)
