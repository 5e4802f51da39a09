-- How texts and records lie in a heap: each is a slice of one list of bytes, of words, or of labelled words.
use Rattle.std.specs.Prelude.{◌≡◌, ℕ, ◌+◌, ◌-◌, ◌^◌, ◌<◌, ◌≤◌, min, List, [], ◌∷◌, map, length, slice_range, slice_index_or, vec_len, pos}
use Rattle.std.specs.List.{AllByRecursion}
use Rattle.std.specs.Vec.{vec_capacity}
use Rattle.pict_syntax.specs.declared.name.Name.{Name}
use Rattle.pict_heap.specs.HeapState.{RecordState, HeapState, IsWordOf, word_with_label}
use Rattle.pict_heap.specs.declared.word.Word.{Word}
use Rattle.pict_heap.specs.declared.word.Word.TheVariants as word
use Rattle.pict_heap.specs.declared.heap.Slice.{Slice}
use Rattle.pict_heap.specs.declared.heap.Record.{Record}
use Rattle.pict_heap.specs.declared.heap.Heap.TheInside.{Inside}

abbrev pub text_state : List ℕ → Slice → List ℕ
text_state bytes slice = slice_range bytes slice.start slice.end

abbrev pub record_state : List Word → List (Name × Word) → Record → RecordState
record_state words labelled r = record {
  positional = slice_range words r.positional.start r.positional.end;
  labelled = slice_range labelled r.labelled.start r.labelled.end;
}

abbrev pub heap_state : Inside → HeapState
heap_state a = record {
  texts = map (text_state a.bytes.items) a.texts.items;
  records = map (record_state a.words.items a.labelled.items) a.records.items;
  room = record {
    records = vec_capacity a.records - vec_len a.records;
    fields = min (vec_capacity a.words - vec_len a.words) (min (vec_capacity a.labelled - vec_len a.labelled) (vec_capacity a.sorted - vec_len a.sorted));
    texts = vec_capacity a.texts - vec_len a.texts;
    bytes = vec_capacity a.bytes - vec_len a.bytes;
    used = record {
      records = vec_len a.records;
      fields = vec_len a.words + vec_len a.labelled;
      texts = vec_len a.texts;
      bytes = vec_len a.bytes;
    };
  };
}

-- a slice lies within a list of this length
pub record IsWithin (length : ℕ) (slice : Slice) : Type 0 where
  pub ordered : slice.start ≤ slice.end
  pub inside : slice.end ≤ length

pub record RecordIsWithin (words labels : ℕ) (r : Record) : Type 0 where
  pub positional : IsWithin words r.positional
  pub labelled : IsWithin labels r.labelled
  pub countable : r.positional.end - r.positional.start < 2 ^ 32

-- the words of a record are words of a heap with so many texts and records
pub record IsRecordOf (texts records : ℕ) (r : RecordState) : Type 0 where
  pub positional : AllByRecursion (IsWordOf texts records) r.positional
  pub labelled : AllByRecursion (λ field. IsWordOf texts records field.1) r.labelled

-- each record names earlier ones alone
abbrev pub AreGrounded : ℕ → ℕ → List RecordState → Type 0
AreGrounded texts records [] = Unit {0}
AreGrounded texts records (r ∷ rs) = IsRecordOf texts records r × AreGrounded texts (records + 1) rs

abbrev pub label_of : Name × Word → ℕ
label_of field = field.0.0

abbrev pub no_field : Name × Word
no_field = (record { 0 = 0 }, word.Int (pos 0))

-- each label is below those after it
abbrev pub AreRising : List (Name × Word) → Type 0
AreRising fields = (i j : ℕ) → i < j → j < length fields → label_of (slice_index_or fields i no_field) < label_of (slice_index_or fields j no_field)

-- the same fields in the order of their labels
pub record AreSorted (fields sorted : List (Name × Word)) : Type 0 where
  pub rising : AreRising sorted
  pub same : (label : ℕ) → word_with_label label sorted ≡ word_with_label label fields

-- each record's slice of the sorted list has its fields in order
abbrev pub IsIndexed : List (Name × Word) → List (Name × Word) → Record → Type 0
IsIndexed labelled sorted r =
    AreSorted (slice_range labelled r.labelled.start r.labelled.end) (slice_range sorted r.labelled.start r.labelled.end)

pub record IsHeapSound (a : Inside) : Type 0 where
  pub texts : AllByRecursion (IsWithin (length a.bytes.items)) a.texts.items
  pub records : AllByRecursion (RecordIsWithin (length a.words.items) (length a.labelled.items)) a.records.items
  pub grounded : AreGrounded (length a.texts.items) 0 (heap_state a).records
  pub as_long : length a.sorted.items ≡ length a.labelled.items
  pub indexed : AllByRecursion (IsIndexed a.labelled.items a.sorted.items) a.records.items

-- the slice of the bytes that a text is
abbrev pub slice_of_word : List Slice → Word → Slice
slice_of_word texts (word.Text number) = slice_index_or texts number (record { start = 0; end = 0 })
slice_of_word texts _ = record { start = 0; end = 0 }
