-- Primitives take values of the machine to such, and to strings of any length.
use Rattle.std.proofs.Common.{ℕ, zero, suc, ◌^◌, ◌<◌, ◌≤◌, Bool, ℤ, pos, negsuc, List, [], ◌∷◌, ◌++◌, length, Option, Some, None, option_map, slice_get, unwrap_or, arith, FitsSigned}
use Rattle.std.specs.Prelude.{int_rem, unsigned_abs}
use Rattle.std.specs.Int.{w64, int_rem_euclid}
use Rattle.std.specs.Fmt.{signed_decimal}
use Rattle.std.specs.Str.{IsAscii}
use Rattle.std.proofs.lemmas.Int.{SFits-int_wrap, rem_below, fits_signed_from_abs}
use Rattle.std.proofs.lemmas.Nat.{mod_below}
use Rattle.pict_syntax.specs.declared.primitive.Primitive.{Primitive}
use Rattle.pict_syntax.specs.declared.primitive.Primitive.TheVariants as primitive
use Rattle.pict_core.specs.Term.{Val, Int, Char, Boolean, Text, Record, no_vals, more_vals}
use Rattle.pict_core.specs.Primitives.{Effect, Leaves, Nothing, Answer, Trap, at_int, at_char, at_bool, at_text, at_two, at_three, divided_by, byte_at, effect_of}
use Rattle.pict_object.proofs.Lists.{all_both}
use Rattle.pict_trace.specs.Readable.{AreBytes}
use Rattle.pict_trace.proofs.Numbers.{signed_ascii}
use Rattle.pict_ranges.specs.Ranges.{IsMachineValue, IsMachineMessage}

-- ---- numbers and bytes

ascii_bytes : (bytes : List ℕ) → IsAscii bytes → AreBytes bytes
ascii_bytes [] h = tt
ascii_bytes (b ∷ bs) h = let first = h 0 in (omega (arith, first), ascii_bytes bs (λ i. h (suc i)))

decimal_bytes : (n : ℤ) → FitsSigned w64 n → AreBytes (signed_decimal n)
decimal_bytes n fits = ascii_bytes (signed_decimal n) (signed_ascii n fits)

bytes_joined : (front back : List ℕ) → AreBytes front → AreBytes back → AreBytes (front ++ back)
bytes_joined front back h k = all_both (λ byte. byte < 2 ^ 8) front back h k

natural_fits : (n : ℕ) → n < 2 ^ 63 → FitsSigned w64 (pos n)
natural_fits n h = fits_signed_from_abs w64 (pos n) h

byte_fits : (n : ℕ) → n < 2 ^ 8 → FitsSigned w64 (pos n)
byte_fits n h = natural_fits n (omega (arith, h))

minus_one_fits : FitsSigned w64 (negsuc 0)
minus_one_fits = fits_signed_from_abs w64 (negsuc 0) (omega arith)

found_fits : (bytes : List ℕ) (i : ℕ) → AreBytes bytes → FitsSigned w64 (unwrap_or (option_map pos (slice_get bytes i)) (negsuc 0))
found_fits [] i h = minus_one_fits
found_fits (b ∷ bs) zero h = byte_fits b h.0
found_fits (b ∷ bs) (suc i) h = found_fits bs i h.1

nth_fits : (bytes : List ℕ) (index : ℤ) → AreBytes bytes → FitsSigned w64 (byte_at bytes index)
nth_fits bytes (pos i) h = found_fits bytes i h
nth_fits bytes (negsuc i) h = minus_one_fits

code_below : (n : ℤ) → unsigned_abs (int_rem_euclid n (pos 256)) < 2 ^ 8
code_below (pos n) = mod_below n 256 (omega arith)
code_below (negsuc n) = omega arith

no_more : (d : ℤ) → FitsSigned w64 d → unsigned_abs d ≤ 2 ^ 63
no_more (pos n) h = let fits = h.sfits in omega (arith, fits)
no_more (negsuc n) h = let fits = h.sfits in omega (arith, fits)

rest_fits : (a d : ℤ) → FitsSigned w64 d → 0 < unsigned_abs d → FitsSigned w64 (int_rem a d)
rest_fits a d h some = let below = rem_below a d some in let most = no_more d h in fits_signed_from_abs w64 (int_rem a d) (omega (arith, below, most))

-- ---- what a primitive does

-- the answer may be sent, to where it is to go
abbrev pub LeavesMachine : Leaves → Type 0
LeavesMachine Nothing = Unit {0}
LeavesMachine (Answer k a) = IsMachineValue k × IsMachineMessage a
LeavesMachine Trap = Unit {0}

abbrev pub PrintsBytes : Option (List ℕ) → Type 0
PrintsBytes None = Unit {0}
PrintsBytes (Some bytes) = AreBytes bytes

abbrev pub EffectIs : Option Effect → Type 0
EffectIs None = Unit {0}
EffectIs (Some e) = PrintsBytes e.printed × LeavesMachine e.leaves

-- a message that is no string is a value
message_int : (v : Val) (f : ℤ → Option Effect) → IsMachineMessage v → ((i : ℤ) → FitsSigned w64 i → EffectIs (f i)) → EffectIs (at_int v f)
message_int (Int x) f o h = h x o
message_int _ f o h = tt

message_text : (v : Val) (f : List ℕ → Option Effect) → IsMachineMessage v → ((t : List ℕ) → AreBytes t → EffectIs (f t)) → EffectIs (at_text v f)
message_text (Text x) f o h = h x o
message_text _ f o h = tt

int_is : (v : Val) (f : ℤ → Option Effect) → IsMachineValue v → ((i : ℤ) → FitsSigned w64 i → EffectIs (f i)) → EffectIs (at_int v f)
int_is (Int x) f o h = h x o
int_is _ f o h = tt

char_is : (v : Val) (f : ℕ → Option Effect) → IsMachineValue v → ((b : ℕ) → b < 2 ^ 8 → EffectIs (f b)) → EffectIs (at_char v f)
char_is (Char x) f o h = h x o
char_is _ f o h = tt

bool_is : (v : Val) (f : Bool → Option Effect) → ((b : Bool) → EffectIs (f b)) → EffectIs (at_bool v f)
bool_is (Boolean x) f h = h x
bool_is _ f h = tt

text_is : (v : Val) (f : List ℕ → Option Effect) → IsMachineValue v → ((t : List ℕ) → AreBytes t → length t < 2 ^ 63 → EffectIs (f t)) → EffectIs (at_text v f)
text_is (Text x) f o h = h x o.0 o.1
text_is _ f o h = tt

two_is : (v : Val) (f : Val → Val → Option Effect) → IsMachineMessage v → ((u k : Val) → IsMachineValue u → IsMachineValue k → EffectIs (f u k)) → EffectIs (at_two v f)
two_is (Record (more_vals u (more_vals k no_vals)) ls) f o h = h u k o.0.0 o.0.1.0
two_is _ f o h = tt

three_is : (v : Val) (f : Val → Val → Val → Option Effect) → IsMachineMessage v → ((u w k : Val) → IsMachineValue u → IsMachineValue w → IsMachineValue k → EffectIs (f u w k)) → EffectIs (at_three v f)
three_is (Record (more_vals u (more_vals w (more_vals k no_vals))) ls) f o h = h u w k o.0.0 o.0.1.0 o.0.1.1.0
three_is _ f o h = tt

divided_is : (b : ℤ) (e : Option Effect) → (0 < unsigned_abs b → EffectIs e) → EffectIs (divided_by b e)
divided_is (pos zero) e h = (tt, tt)
divided_is (pos (suc i)) e h = h (omega arith)
divided_is (negsuc i) e h = h (omega arith)

ruleset operands_are = (two_is, three_is, int_is, char_is, bool_is, text_is, divided_is)

ruleset answers_are = (SFits-int_wrap, rest_fits, code_below, byte_fits, bytes_joined, decimal_bytes, natural_fits, nth_fits)

pub effect_is : (p : Primitive) (v : Val) → IsMachineMessage v → EffectIs (effect_of p v)
effect_is primitive.Print v o = message_text v _ o (λ t bytes. (bytes, tt))
effect_is primitive.Printi v o = message_int v _ o (λ i fits. (decimal_bytes i fits, tt))
effect_is _ v o = search (operands_are, answers_are) depth 9
