-- What making the word of an operand adds to a heap.
use Rattle.std.specs.Prelude.{◌≡◌, ◌<◌, ◌≤◌, ◌+◌, ◌^◌, ◌++◌, ℕ, List, length, map}
use Rattle.std.specs.List.{AllByRecursion}
use Rattle.std.specs.Vec.{vec_capacity}
use Rattle.pict_syntax.specs.declared.name.Name.{Name}
use Rattle.pict_core.specs.Term.{Val, Vals, Labelled, Text, Record, no_vals, more_vals, no_labelled, more_labelled}
use Rattle.pict_heap.specs.Fields.{count}
use Rattle.pict_heap.specs.HeapState.{HeapState, value_of, IsWord, KeepsWords}
use Rattle.pict_heap.specs.declared.word.Word.{Word}
use Rattle.pict_prim.specs.Acts.{HasRoom}
use Rattle.pict_prim.specs.declared.act.Need.{Need}
use Rattle.pict_desk.specs.declared.pending.Pending.{Pending}

abbrev pub both_needs : Need → Need → Need
both_needs a b = record { records = a.records + b.records; fields = a.fields + b.fields; texts = a.texts + b.texts; bytes = a.bytes + b.bytes }

abbrev pub no_need : Need
no_need = record { records = 0; fields = 0; texts = 0; bytes = 0 }

-- one record of so many fields, its fields alone, one text of so many bytes
abbrev pub record_need : ℕ → Need
record_need fields = record { records = 1; fields = fields; texts = 0; bytes = 0 }

abbrev pub fields_need : ℕ → Need
fields_need fields = record { records = 0; fields = fields; texts = 0; bytes = 0 }

abbrev pub text_need : ℕ → Need
text_need bytes = record { records = 0; fields = 0; texts = 1; bytes = bytes }

abbrev pub count_labelled : Labelled → ℕ
count_labelled no_labelled = 0
count_labelled (more_labelled label v ls) = count_labelled ls + 1

-- a record for each record in the value, with all its fields, and a text for each text
abbrev mutual
  pub need_of : Val → Need
  need_of (Text bytes) = text_need (length bytes)
  need_of (Record vs ls) = both_needs (record_need (count vs + count_labelled ls)) (both_needs (needs_of vs) (needs_of_labelled ls))
  need_of _ = no_need

  pub needs_of : Vals → Need
  needs_of no_vals = no_need
  needs_of (more_vals v vs) = both_needs (need_of v) (needs_of vs)

  pub needs_of_labelled : Labelled → Need
  needs_of_labelled no_labelled = no_need
  needs_of_labelled (more_labelled label v ls) = both_needs (need_of v) (needs_of_labelled ls)

-- ---- making words

-- there is room for it in the heap, and for its fields on both piles
pub record HasRoomFor (h : HeapState) (pending : Pending) (need : Need) : Type 0 where
  pub heap : HasRoom h.room need
  pub words : length pending.words.items + need.fields ≤ vec_capacity pending.words
  pub labelled : length pending.labelled.items + need.fields ≤ vec_capacity pending.labelled
  pub countable : need.fields < 2 ^ 32

-- this word of the new heap stands for the value, and all earlier words stand for what they stood for
pub record IsMade (old new : HeapState) (w : Word) (v : Val) : Type 0 where
  pub word : IsWord new w
  pub value : value_of new w ≡ v
  pub keeps : KeepsWords old new

-- both piles are as they were
pub record KeepsPending (old new : Pending) : Type 0 where
  pub words : new.words.items ≡ old.words.items
  pub words_room : vec_capacity new.words ≡ vec_capacity old.words
  pub labelled : new.labelled.items ≡ old.labelled.items
  pub labelled_room : vec_capacity new.labelled ≡ vec_capacity old.labelled

-- words for these values lie on the pile of words, and the pile of labelled words is as it was
pub record PilesWords (h : HeapState) (old new : Pending) (vs : List Val) : Type 0 where
  pub made : List Word
  pub words : new.words.items ≡ old.words.items ++ made
  pub are : AllByRecursion (IsWord h) made
  pub stand : map (value_of h) made ≡ vs
  pub words_room : vec_capacity new.words ≡ vec_capacity old.words
  pub labelled : new.labelled.items ≡ old.labelled.items
  pub labelled_room : vec_capacity new.labelled ≡ vec_capacity old.labelled

-- the same for labelled words
pub record PilesLabelled (h : HeapState) (old new : Pending) (fields : List (Name × Val)) : Type 0 where
  pub made : List (Name × Word)
  pub labelled : new.labelled.items ≡ old.labelled.items ++ made
  pub are : AllByRecursion (λ field. IsWord h field.1) made
  pub stand : map (λ field. (field.0, value_of h field.1)) made ≡ fields
  pub labelled_room : vec_capacity new.labelled ≡ vec_capacity old.labelled
  pub words : new.words.items ≡ old.words.items
  pub words_room : vec_capacity new.words ≡ vec_capacity old.words
