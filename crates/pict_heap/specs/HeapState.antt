-- What a heap stands for: texts and records by their numbers, how much there is, and room for more.
use Rattle.std.specs.Prelude.{◌≡◌, ℕ, ◌+◌, ◌<◌, ◌≤◌, List, [], ◌∷◌, ◌++◌, map, length, slice_index_or, ◌==◌, if◌then◌else◌, Option, Some, None, unwrap_or}
use Rattle.std.specs.List.{fold}
use Rattle.pict_core.specs.Term as term
use Rattle.pict_heap.specs.Fields.{text_bytes}
use Rattle.pict_core.specs.Plain.{vals_of, labelled_of}
use Rattle.pict_syntax.specs.declared.name.Name.{Name}
use Rattle.pict_heap.specs.declared.word.Word.{Word}
use Rattle.pict_heap.specs.declared.word.Word.TheVariants as word

pub record RecordState : Type 0 where
  pub positional : List Word
  pub labelled : List (Name × Word)

-- how many records, fields of records, texts, and bytes of texts
pub record Amount : Type 0 where
  pub records : ℕ
  pub fields : ℕ
  pub texts : ℕ
  pub bytes : ℕ

-- for how many records, fields, texts and bytes there is room, and how many there are
pub record Room : Type 0 where
  pub records : ℕ
  pub fields : ℕ
  pub texts : ℕ
  pub bytes : ℕ
  pub used : Amount

pub record HeapState : Type 0 where
  pub texts : List (List ℕ)
  pub records : List RecordState
  pub room : Room

-- what a word stands for, where these are the texts and the values of the records
abbrev pub word_value : List (List ℕ) → List term.Val → Word → term.Val
word_value texts values (word.Int n) = term.Int n
word_value texts values (word.Char byte) = term.Char byte
word_value texts values (word.Bool b) = term.Boolean b
word_value texts values (word.Chan number) = term.Chan number
word_value texts values (word.Prim p) = term.PrimitiveVal p
word_value texts values (word.Text number) = term.Text (slice_index_or texts number [])
word_value texts values (word.Fields number) = slice_index_or values number (term.Record term.no_vals term.no_labelled)

abbrev pub field_value : List (List ℕ) → List term.Val → Name × Word → Name × term.Val
field_value texts values field = (field.0, word_value texts values field.1)

abbrev pub record_value : List (List ℕ) → List term.Val → RecordState → term.Val
record_value texts values r =
    term.Record (vals_of (map (word_value texts values) r.positional)) (labelled_of (map (field_value texts values) r.labelled))

-- the values of records, of which each names earlier ones alone
abbrev pub more_values : List (List ℕ) → List term.Val → RecordState → List term.Val
more_values texts values r = values ++ record_value texts values r ∷ []

abbrev pub heap_values : List (List ℕ) → List RecordState → List term.Val
heap_values texts records = fold (more_values texts) [] records

-- what a word of a heap stands for
abbrev pub value_of : HeapState → Word → term.Val
value_of h w = word_value h.texts (heap_values h.texts h.records) w

-- the record of fields that are words of a heap
abbrev pub record_of : HeapState → List Word → List (Name × Word) → term.Val
record_of h positional labelled =
    term.Record (vals_of (map (value_of h) positional)) (labelled_of (map (λ field. (field.0, value_of h field.1)) labelled))

-- a word of a heap with so many texts and records
abbrev pub IsWordOf : ℕ → ℕ → Word → Type 0
IsWordOf texts records (word.Text number) = number < texts
IsWordOf texts records (word.Fields number) = number < records
IsWordOf texts records _ = Unit {0}

abbrev pub IsWord : HeapState → Word → Type 0
IsWord h w = IsWordOf (length h.texts) (length h.records) w

-- all words stand for what they stood for
pub record KeepsWords (old new : HeapState) : Type 0 where
  pub words : (w : Word) → IsWord old w → IsWord new w
  pub values : (w : Word) → IsWord old w → value_of new w ≡ value_of old w

-- what there is, and the room for more, are together no less: no room is lost
pub record LosesNoRoom (old new : Room) : Type 0 where
  pub records : old.records + old.used.records ≤ new.records + new.used.records
  pub fields : old.fields + old.used.fields ≤ new.fields + new.used.fields
  pub texts : old.texts + old.used.texts ≤ new.texts + new.used.texts
  pub bytes : old.bytes + old.used.bytes ≤ new.bytes + new.used.bytes

-- Room for so much has been used, and no more: there is at most so much more, and no room is lost.
pub record UsesRoom (old new : Room) (records fields texts bytes : ℕ) : Type 0 where
  pub records_left : old.records ≤ new.records + records
  pub fields_left : old.fields ≤ new.fields + fields
  pub texts_left : old.texts ≤ new.texts + texts
  pub bytes_left : old.bytes ≤ new.bytes + bytes
  pub records_more : new.used.records ≤ old.used.records + records
  pub fields_more : new.used.fields ≤ old.used.fields + fields
  pub texts_more : new.used.texts ≤ old.used.texts + texts
  pub bytes_more : new.used.bytes ≤ old.used.bytes + bytes
  pub kept : LosesNoRoom old new

-- there is exactly so much more
pub record GrowsBy (old new : Room) (records fields texts bytes : ℕ) : Type 0 where
  pub records_more : new.used.records ≡ old.used.records + records
  pub fields_more : new.used.fields ≡ old.used.fields + fields
  pub texts_more : new.used.texts ≡ old.used.texts + texts
  pub bytes_more : new.used.bytes ≡ old.used.bytes + bytes

-- the word of the first field with this label
abbrev pub word_with_label : ℕ → List (Name × Word) → Option Word
word_with_label label [] = None
word_with_label label (field ∷ fields) = if label == field.0.0 then Some field.1 else word_with_label label fields

-- the bytes of a word that is a text
abbrev pub text_of : HeapState → Word → List ℕ
text_of h w = unwrap_or (text_bytes (value_of h w)) []
