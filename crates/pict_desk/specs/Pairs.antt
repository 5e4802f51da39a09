-- The two words of each level are those of a word of the heap.
use Rattle.std.specs.Prelude.{◌≡◌, ℕ, List}
use Rattle.pict_desk.specs.Known.{pair_at}
use Rattle.pict_heap.specs.HeapState.{HeapState, IsWord}
use Rattle.pict_heap.specs.Packed.{packed, FitsWord}
use Rattle.pict_heap.specs.declared.word.Word.{Word}

-- the two words of a word of the heap
pub record IsPair (h : HeapState) (pair : ℕ × ℕ) : Type 0 where
  pub word : Word
  pub is : IsWord h word
  pub fits : FitsWord word
  pub packs : packed word ≡ pair

abbrev pub ArePairs : HeapState → List (ℕ × ℕ) → Type 0
ArePairs h values = (level : ℕ) → IsPair h (pair_at values level)
