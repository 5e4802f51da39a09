-- A word as two numbers of 64 bits: its kind, and its content.
use Rattle.std.specs.Prelude.{ℕ, FitsSigned, ◌^◌, ◌<◌, ◌==◌, nat_lt, if◌then◌else◌, Bool, true, false, slice_get, Option, Some, None}
use Rattle.std.specs.Option.{option_map}
use Rattle.std.specs.Int.{w64, cast_unsigned, cast_signed}
use Rattle.pict_syntax.specs.Primitives.{primitive_number, primitives}
use Rattle.pict_heap.specs.declared.word.Word.{Word}
use Rattle.pict_heap.specs.declared.word.Word.TheVariants as word

abbrev pub bool_number : Bool → ℕ
bool_number true = 1
bool_number false = 0

abbrev pub packed : Word → ℕ × ℕ
packed (word.Int n) = (0, cast_unsigned w64 n)
packed (word.Char byte) = (1, byte)
packed (word.Bool b) = (2, bool_number b)
packed (word.Chan number) = (3, number)
packed (word.Prim p) = (4, primitive_number p)
packed (word.Text number) = (5, number)
packed (word.Fields number) = (6, number)

-- the numbers of a word are within the ranges of their types
abbrev pub FitsWord : Word → Type 0
FitsWord (word.Int n) = FitsSigned w64 n
FitsWord (word.Char byte) = byte < 2 ^ 8
FitsWord (word.Chan number) = number < 2 ^ 32
FitsWord (word.Text number) = number < 2 ^ 64
FitsWord (word.Fields number) = number < 2 ^ 64
FitsWord _ = Unit {0}

-- the word of a pair, if it has one
abbrev pub unpacked : ℕ → ℕ → Option Word
unpacked tag payload =
    if tag == 0 then Some (word.Int (cast_signed w64 payload)) else
    if tag == 1 then (if nat_lt payload 256 then Some (word.Char payload) else None) else
    if tag == 2 then (if nat_lt payload 2 then Some (word.Bool (payload == 1)) else None) else
    if tag == 3 then (if nat_lt payload 4294967296 then Some (word.Chan payload) else None) else
    if tag == 4 then option_map word.Prim (slice_get primitives payload) else
    if tag == 5 then Some (word.Text payload) else
    if tag == 6 then Some (word.Fields payload) else None
