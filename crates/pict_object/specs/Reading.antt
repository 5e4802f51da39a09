-- Devices of the proof that objects are read: what each reader gives, which is a part at the front of the bytes and what is
-- behind it, or nothing where no part stands there.
use Rattle.std.specs.Prelude.{ℕ, zero, suc, ◌+◌, ◌-◌, ◌^◌, ◌≡◌, ◌==◌, nat_lt, min, Bool, true, false, List, [], ◌∷◌, length, take, drop, Option, Some, None, Result, Ok, Err, slice_get, slice_index_or, if◌then◌else◌}
use Rattle.std.specs.Int.{Width, w32, w64, byte_len, from_be_bytes, cast_signed}
use Rattle.pict_syntax.specs.declared.limits.TheConstants.{DEPTH_LIMIT, NESTING_LIMIT}
use Rattle.pict_syntax.specs.declared.name.Name.{Name}
use Rattle.pict_syntax.specs.Primitives.{primitives}
use Rattle.pict_core.specs.Term.{Val, Var, Int, Char, Boolean, Text, PrimitiveVal, Record, Pat, Bind, Any, RecordPat, Process, Zero, Par, New, Out, In, If}
use Rattle.pict_core.specs.Closed.{binds}
use Rattle.pict_core.specs.declared.process.Part.{Part}
use Rattle.pict_core.specs.Plain.{vals_of, labelled_of, pats_of, labelled_pats_of, plain_core, core_of}
use Rattle.pict_object.specs.declared.error.DecodeError.{DecodeError}
use Rattle.pict_object.specs.declared.error.DecodeError.TheVariants as error
use Rattle.pict_object.specs.Objects.{nowhere}

infixl 10 ◌>>=◌
abbrev pub ◌>>=◌ : {A B : Type 0} → Option A → (A → Option B) → Option B
None >>= f = None
(Some x) >>= f = f x

-- the same, for clauses
abbrev pub and_then : {A B : Type 0} → Option A → (A → Option B) → Option B
and_then read f = read >>= f

-- what a function returned, seen by view, is what is read, unless memory ran out
abbrev pub Refuses : {Y : Type 0} → DecodeError → Option Y → Type 0
Refuses error.NotObject read = read ≡ None
Refuses error.Memory read = Unit {0}

abbrev pub GivesReading : {X Y : Type 0} → (X → Y) → Result X DecodeError → Option Y → Type 0
GivesReading view (Ok x) read = read ≡ Some (view x)
GivesReading view (Err e) read = Refuses e read

-- the process that a part holds, and what is behind it
abbrev pub part_and : List ℕ → Part → Process × List ℕ
part_and rest part = (plain_core (core_of part), rest)

-- ---- numbers and bytes

abbrev pub number_at : Width → List ℕ → Option (ℕ × List ℕ)
number_at w bytes = if nat_lt (length bytes) (byte_len w) then None else Some (from_be_bytes w (take (byte_len w) bytes), drop (byte_len w) bytes)

unfoldable pub byte_at : List ℕ → Option (ℕ × List ℕ)
byte_at [] = None
byte_at (byte ∷ rest) = Some (byte, rest)

-- bytes behind their count
unfoldable pub text_at : List ℕ → Option (List ℕ × List ℕ)
text_at bytes = do
  n ← number_at w32 bytes
  if nat_lt (length n.1) n.0 then None else Some (take n.0 n.1, drop n.0 n.1)

-- ---- lists of parts

unfoldable pub parts_at : {A : Type 0} → (List ℕ → Option (A × List ℕ)) → ℕ → List ℕ → Option (List A × List ℕ)
parts_at part zero bytes = Some ([], bytes)
parts_at part (suc n) bytes = do
  first ← part bytes
  others ← parts_at part n first.1
  Some (first.0 ∷ others.0, others.1)

-- parts behind their count
unfoldable pub counted_at : {A : Type 0} → (List ℕ → Option (A × List ℕ)) → List ℕ → Option (List A × List ℕ)
counted_at part bytes = do
  n ← number_at w32 bytes
  parts_at part n.0 n.1

abbrev pub no_label : Name
no_label = record { 0 = 0 }

-- the label at a place
abbrev pub label_in : List Name → ℕ → Name
label_in labels place = slice_index_or labels place no_label

-- the place of a label, which is not below `from`
unfoldable pub label_at : List Name → ℕ → List ℕ → Option (ℕ × List ℕ)
label_at labels from bytes = do
  n ← number_at w32 bytes
  if nat_lt n.0 from then None else (if nat_lt n.0 (length labels) then Some n else None)

-- parts with labels, whose places go up from `from`
unfoldable pub fields_at : {A : Type 0} → List Name → (List ℕ → Option (A × List ℕ)) → ℕ → ℕ → List ℕ → Option (List (Name × A) × List ℕ)
fields_at labels part zero from bytes = Some ([], bytes)
fields_at labels part (suc n) from bytes = do
  place ← label_at labels from bytes
  first ← part place.1
  others ← fields_at labels part n (place.0 + 1) first.1
  Some ((label_in labels place.0, first.0) ∷ others.0, others.1)

unfoldable pub labelled_at : {A : Type 0} → List Name → (List ℕ → Option (A × List ℕ)) → List ℕ → Option (List (Name × A) × List ℕ)
labelled_at labels part bytes = do
  n ← number_at w32 bytes
  fields_at labels part n.0 0 n.1

-- ---- values

unfoldable pub variable_at : ℕ → List ℕ → Option (Val × List ℕ)
variable_at bound bytes = do
  level ← number_at w32 bytes
  if nat_lt level.0 bound then Some (Var level.0, level.1) else None

unfoldable pub int_at : List ℕ → Option (Val × List ℕ)
int_at bytes = do
  n ← number_at w64 bytes
  Some (Int (cast_signed w64 n.0), n.1)

unfoldable pub char_at : List ℕ → Option (Val × List ℕ)
char_at bytes = do
  byte ← byte_at bytes
  Some (Char byte.0, byte.1)

unfoldable pub string_at : List ℕ → Option (Val × List ℕ)
string_at bytes = do
  text ← text_at bytes
  Some (Text text.0, text.1)

unfoldable pub primitive_at : List ℕ → Option (Val × List ℕ)
primitive_at bytes = do
  number ← byte_at bytes
  p ← slice_get primitives number.0
  Some (PrimitiveVal p, number.1)

-- a value that is no record, behind its tag, under so many variables
unfoldable pub simple_at : ℕ → ℕ → List ℕ → Option (Val × List ℕ)
simple_at bound tag bytes =
    if tag == 0x10 then variable_at bound bytes else
    if tag == 0x11 then int_at bytes else
    if tag == 0x12 then char_at bytes else
    if tag == 0x13 then Some (Boolean false, bytes) else
    if tag == 0x14 then Some (Boolean true, bytes) else
    if tag == 0x15 then string_at bytes else
    if tag == 0x16 then primitive_at bytes else None

-- the fields of a record, behind its tag
unfoldable pub record_at : List Name → (List ℕ → Option (Val × List ℕ)) → List ℕ → Option (Val × List ℕ)
record_at labels part bytes = do
  vs ← counted_at part bytes
  ls ← labelled_at labels part vs.1
  Some (Record (vals_of vs.0) (labelled_of ls.0), ls.1)

unfoldable pub tagged_value_at : ℕ → (List ℕ → Option (Val × List ℕ)) → List ℕ → Option (Val × List ℕ)
tagged_value_at bound fields [] = None
tagged_value_at bound fields (tag ∷ rest) = if tag == 0x17 then fields rest else simple_at bound tag rest

abbrev pub nothing_at : {A : Type 0} → List ℕ → Option (A × List ℕ)
nothing_at bytes = None

-- a value under so many variables, with at most `left` records in one another
unfoldable pub value_at : List Name → ℕ → ℕ → List ℕ → Option (Val × List ℕ)
value_at labels bound zero bytes = tagged_value_at bound nothing_at bytes
value_at labels bound (suc left) bytes = tagged_value_at bound (record_at labels (value_at labels bound left)) bytes

-- ---- patterns

unfoldable pub record_pattern_at : List Name → (List ℕ → Option (Pat × List ℕ)) → List ℕ → Option (Pat × List ℕ)
record_pattern_at labels part bytes = do
  ps ← counted_at part bytes
  ls ← labelled_at labels part ps.1
  Some (RecordPat (pats_of ps.0) (labelled_pats_of ls.0), ls.1)

unfoldable pub tagged_pattern_at : (List ℕ → Option (Pat × List ℕ)) → List ℕ → Option (Pat × List ℕ)
tagged_pattern_at fields [] = None
tagged_pattern_at fields (tag ∷ rest) =
    if tag == 0x20 then Some (Bind, rest) else
    if tag == 0x21 then Some (Any, rest) else
    if tag == 0x22 then fields rest else None

unfoldable pub pattern_at : List Name → ℕ → List ℕ → Option (Pat × List ℕ)
pattern_at labels zero bytes = tagged_pattern_at nothing_at bytes
pattern_at labels (suc left) bytes = tagged_pattern_at (record_pattern_at labels (pattern_at labels left)) bytes

-- ---- processes

-- so many variables more, held at the greatest number of 64 bits
abbrev pub more : ℕ → ℕ → ℕ
more bound n = min (bound + n) (2 ^ 64 - 1)

unfoldable pub par_at : (ℕ → List ℕ → Option (Process × List ℕ)) → ℕ → List ℕ → Option (Process × List ℕ)
par_at part bound bytes = do
  left ← part bound bytes
  right ← part bound left.1
  Some (Par left.0 right.0, right.1)

unfoldable pub new_at : (ℕ → List ℕ → Option (Process × List ℕ)) → ℕ → List ℕ → Option (Process × List ℕ)
new_at part bound bytes = do
  body ← part (more bound 1) bytes
  Some (New body.0, body.1)

unfoldable pub out_at : List Name → ℕ → List ℕ → Option (Process × List ℕ)
out_at labels bound bytes = do
  chan ← value_at labels bound NESTING_LIMIT bytes
  message ← value_at labels bound NESTING_LIMIT chan.1
  Some (Out chan.0 message.0 nowhere, message.1)

-- a channel and a pattern
unfoldable pub receiver_at : List Name → ℕ → List ℕ → Option ((Val × Pat) × List ℕ)
receiver_at labels bound bytes = do
  chan ← value_at labels bound NESTING_LIMIT bytes
  pattern ← pattern_at labels NESTING_LIMIT chan.1
  Some ((chan.0, pattern.0), pattern.1)

unfoldable pub in_at : List Name → Bool → (ℕ → List ℕ → Option (Process × List ℕ)) → ℕ → List ℕ → Option (Process × List ℕ)
in_at labels replicated part bound bytes = do
  chan ← value_at labels bound NESTING_LIMIT bytes
  pattern ← pattern_at labels NESTING_LIMIT chan.1
  body ← part (more bound (binds pattern.0)) pattern.1
  Some (In chan.0 replicated pattern.0 body.0, body.1)

unfoldable pub if_at : List Name → (ℕ → List ℕ → Option (Process × List ℕ)) → ℕ → List ℕ → Option (Process × List ℕ)
if_at labels part bound bytes = do
  test ← value_at labels bound NESTING_LIMIT bytes
  first ← part bound test.1
  second ← part bound first.1
  Some (If test.0 first.0 second.0, second.1)

-- a process, behind its tag, whose parts are read so
unfoldable pub tagged_at : List Name → (ℕ → List ℕ → Option (Process × List ℕ)) → ℕ → ℕ → List ℕ → Option (Process × List ℕ)
tagged_at labels part bound tag bytes =
    if tag == 0 then Some (Zero, bytes) else
    if tag == 1 then par_at part bound bytes else
    if tag == 2 then new_at part bound bytes else
    if tag == 3 then out_at labels bound bytes else
    if tag == 4 then in_at labels false part bound bytes else
    if tag == 5 then in_at labels true part bound bytes else
    if tag == 6 then if_at labels part bound bytes else None

unfoldable pub node_at : List Name → (ℕ → List ℕ → Option (Process × List ℕ)) → ℕ → List ℕ → Option (Process × List ℕ)
node_at labels part bound [] = None
node_at labels part bound (tag ∷ rest) = tagged_at labels part bound tag rest

-- a process of at most this depth, under so many variables
unfoldable pub process_at : List Name → ℕ → ℕ → List ℕ → Option (Process × List ℕ)
process_at labels zero bound bytes = None
process_at labels (suc left) bound bytes = node_at labels (process_at labels left) bound bytes

-- all of the bytes
unfoldable pub whole_at : List Name → List ℕ → Option Process
whole_at labels bytes = do
  p ← process_at labels DEPTH_LIMIT 0 bytes
  if length p.1 == 0 then Some p.0 else None
