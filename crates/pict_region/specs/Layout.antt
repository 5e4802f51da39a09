-- How a region lies in its store: one block after another, each behind a word that gives its width.
use Rattle.std.specs.Prelude.{◌≡◌, ℕ, zero, suc, ◌+◌, ◌-◌, ◌<◌, ◌≤◌, Bool, true, cond, not, eqb, nat_lt, List, [], ◌∷◌, ◌++◌, map, length, take, drop, Option, Some, None, slice_index, slice_index_or}
use Rattle.std.specs.List.{IsDistinct, list_any}
use Rattle.std.specs.Ordering.{nat_cmp}
use Rattle.std.specs.FinMap.{FinMap, from_entries, retain_keys}
use Rattle.pict_syntax.specs.declared.limits.TheConstants.{WORD_LIMIT}
use Rattle.pict_region.specs.Chain.{chain}
use Rattle.pict_region.specs.RegionState.{RegionState}
use Rattle.pict_region.specs.declared.region.FreeList.{FreeList}
use Rattle.pict_region.specs.declared.region.Region.TheInside.{Inside}

-- the store that holds these blocks
unfoldable pub store_of : List (List ℕ) → List ℕ
store_of [] = []
store_of (block ∷ blocks) = length block ∷ (block ++ store_of blocks)

-- the first blocks of a store, as many as there are cuts
unfoldable pub cut : ℕ → List ℕ → List (List ℕ)
cut zero store = []
cut (suc cuts) [] = []
cut (suc cuts) (width ∷ rest) = take width rest ∷ cut cuts (drop width rest)

unfoldable pub blocks_of : List ℕ → List (List ℕ)
blocks_of store = cut (length store) store

-- each block with its number, which is the index of its width in the store
unfoldable pub numbered : ℕ → List (List ℕ) → List (ℕ × List ℕ)
numbered index [] = []
numbered index (block ∷ blocks) = (index, block) ∷ numbered (index + 1 + length block) blocks

-- a free block names the next free block of its width in its first word
unfoldable pub next_of : List ℕ → ℕ → ℕ
next_of store number = slice_index store (number + 1)

abbrev pub list_at : List FreeList → ℕ → FreeList
list_at lists width = slice_index_or lists width (record { first = 0; count = 0 })

-- the free blocks of a width
unfoldable pub free_numbers : List ℕ → List FreeList → ℕ → List ℕ
free_numbers store lists width =
    chain (next_of store) (list_at lists width).first (list_at lists width).count

-- whether the block with this number is free
unfoldable pub is_free : List ℕ → List FreeList → ℕ → Bool
is_free store lists number = list_any (eqb number) (free_numbers store lists (slice_index store number))

unfoldable pub live_of : List ℕ → List FreeList → FinMap nat_cmp (List ℕ)
live_of store lists =
    retain_keys (from_entries (numbered 0 (blocks_of store))) (λ number. not (is_free store lists number))

-- the words of a region that belong to blocks
abbrev pub made_words : Inside → List ℕ
made_words r = take r.made r.words.items

abbrev pub region_state : Inside → RegionState
region_state r = record {
  live = live_of (made_words r) r.free.items;
  free = map (λ l. l.count) r.free.items;
  work = r.work;
}

-- the block with this number, the index of its width, if there is one
unfoldable pub block_at : List (List ℕ) → ℕ → Option (List ℕ)
block_at [] index = None
block_at (block ∷ blocks) zero = Some block
block_at (block ∷ blocks) (suc index) = cond (nat_lt index (length block)) None (block_at blocks (index - length block))

-- a block of this width has this number
pub record HasBlock (store : List ℕ) (number width : ℕ) : Type 0 where
  pub block : List ℕ
  pub at : block_at (blocks_of store) number ≡ Some block
  pub wide : length block ≡ width

-- The store is made of blocks, each of a width that has a list, and the lists of free blocks are apart. It has at most
-- `WORD_LIMIT` words.
pub record IsStoreSound (store : List ℕ) (lists : List FreeList) : Type 0 where
  pub tiled : store_of (blocks_of store) ≡ store
  pub widths : (number : ℕ) (block : List ℕ) → block_at (blocks_of store) number ≡ Some block
      → (0 < length block) × (length block < length lists)
  pub free_widths : (width number : ℕ) → list_any (eqb number) (free_numbers store lists width) ≡ true
      → HasBlock store number width
  pub distinct : (width : ℕ) → IsDistinct eqb (free_numbers store lists width)
  pub small : length store ≤ WORD_LIMIT

-- The first `made` words, of at most `WORD_LIMIT`, are a store that is sound.
pub record IsLaidOut (words : List ℕ) (made : ℕ) (lists : List FreeList) : Type 0 where
  pub sound : IsStoreSound (take made words) lists
  pub inside : made ≤ length words
  pub small : length words ≤ WORD_LIMIT
