-- What the primitives do. The argument may hold variables.
use Rattle.std.specs.Prelude.{ℕ, ℤ, pos, negsuc, suc, zero, ◌+ℤ◌, ◌-ℤ◌, ◌*ℤ◌, int_lt, int_le, int_div, int_rem, unsigned_abs, Bool, not, List, ◌++◌, length, slice_get, Option, Some, None, option_map, unwrap_or}
use Rattle.std.specs.Int.{w64, int_wrap, int_rem_euclid}
use Rattle.std.specs.Ordering.{int_eq}
use Rattle.std.specs.Fmt.{signed_decimal}
use Rattle.pict_syntax.specs.declared.primitive.Primitive.{Primitive}
use Rattle.pict_syntax.specs.declared.primitive.Primitive.TheVariants as primitive
use Rattle.pict_core.specs.Term.{Val, Int, Char, Boolean, Text, Record, no_vals, more_vals, no_labelled}

-- What an output to a primitive leaves: nothing, the output k!a, or a trap, where the divisor is zero.
pub data Leaves : Type 0 where
  Nothing : Leaves
  Answer : Val → Val → Leaves
  Trap : Leaves

-- what a primitive does: the bytes that it prints, if it prints, and what it leaves
pub record Effect : Type 0 where
  pub printed : Option (List ℕ)
  pub leaves : Leaves

abbrev pub prints : List ℕ → Option Effect
prints bytes = Some (record { printed = Some bytes; leaves = Nothing })

abbrev pub answers : Val → Val → Option Effect
answers k a = Some (record { printed = None; leaves = Answer k a })

-- what f says of a value of a base type; nothing of any other value
abbrev pub at_int : Val → (ℤ → Option Effect) → Option Effect
at_int (Int n) f = f n
at_int _ f = None

abbrev pub at_char : Val → (ℕ → Option Effect) → Option Effect
at_char (Char byte) f = f byte
at_char _ f = None

abbrev pub at_bool : Val → (Bool → Option Effect) → Option Effect
at_bool (Boolean b) f = f b
at_bool _ f = None

abbrev pub at_text : Val → (List ℕ → Option Effect) → Option Effect
at_text (Text bytes) f = f bytes
at_text _ f = None

-- what f says of the positional fields of a record with two or three of them; its labels count nothing
abbrev pub at_two : Val → (Val → Val → Option Effect) → Option Effect
at_two (Record (more_vals v (more_vals k no_vals)) ls) f = f v k
at_two _ f = None

abbrev pub at_three : Val → (Val → Val → Val → Option Effect) → Option Effect
at_three (Record (more_vals v (more_vals w (more_vals k no_vals))) ls) f = f v w k
at_three _ f = None

abbrev pub at_ints : Val → (ℤ → ℤ → Val → Option Effect) → Option Effect
at_ints argument f = at_three argument (λ v w k. at_int v (λ a. at_int w (λ b. f a b k)))

-- a trap where the divisor is zero
abbrev pub divided_by : ℤ → Option Effect → Option Effect
divided_by (pos zero) e = Some (record { printed = None; leaves = Trap })
divided_by (pos (suc n)) e = e
divided_by (negsuc n) e = e

-- the byte at an index from 0, or -1 out of range
abbrev pub byte_at : List ℕ → ℤ → ℤ
byte_at bytes (pos index) = unwrap_or (option_map pos (slice_get bytes index)) (negsuc 0)
byte_at bytes (negsuc n) = negsuc 0

-- The table of primitives. Nothing where the argument has not the primitive's shape.
abbrev pub effect_of : Primitive → Val → Option Effect
effect_of primitive.Print v = at_text v prints
effect_of primitive.Printi v = at_int v (λ n. prints (signed_decimal n))
effect_of primitive.Pr v = at_two v (λ s k. at_text s (λ bytes. Some (record { printed = Some bytes; leaves = Answer k (Record no_vals no_labelled) })))
effect_of primitive.Add v = at_ints v (λ a b k. answers k (Int (int_wrap w64 (a +ℤ b))))
effect_of primitive.Subtract v = at_ints v (λ a b k. answers k (Int (int_wrap w64 (a -ℤ b))))
effect_of primitive.Multiply v = at_ints v (λ a b k. answers k (Int (int_wrap w64 (a *ℤ b))))
effect_of primitive.Divide v = at_ints v (λ a b k. divided_by b (answers k (Int (int_wrap w64 (int_div a b)))))
effect_of primitive.Remainder v = at_ints v (λ a b k. divided_by b (answers k (Int (int_rem a b))))
effect_of primitive.Equal v = at_ints v (λ a b k. answers k (Boolean (int_eq a b)))
effect_of primitive.Less v = at_ints v (λ a b k. answers k (Boolean (int_lt a b)))
effect_of primitive.AtMost v = at_ints v (λ a b k. answers k (Boolean (int_le a b)))
effect_of primitive.Greater v = at_ints v (λ a b k. answers k (Boolean (int_lt b a)))
effect_of primitive.AtLeast v = at_ints v (λ a b k. answers k (Boolean (int_le b a)))
effect_of primitive.Chr v = at_two v (λ n k. at_int n (λ a. answers k (Char (unsigned_abs (int_rem_euclid a (pos 256))))))
effect_of primitive.Ord v = at_two v (λ c k. at_char c (λ byte. answers k (Int (pos byte))))
effect_of primitive.Join v = at_three v (λ s t k. at_text s (λ front. at_text t (λ back. answers k (Text (front ++ back)))))
effect_of primitive.Intstr v = at_two v (λ n k. at_int n (λ a. answers k (Text (signed_decimal a))))
effect_of primitive.Size v = at_two v (λ s k. at_text s (λ bytes. answers k (Int (pos (length bytes)))))
effect_of primitive.Nth v = at_three v (λ s n k. at_text s (λ bytes. at_int n (λ index. answers k (Int (byte_at bytes index)))))
effect_of primitive.Not v = at_two v (λ b k. at_bool b (λ c. answers k (Boolean (not c))))
