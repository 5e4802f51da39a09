-- Blocks hold the values of frames, by words of the heap.
use Rattle.std.specs.Prelude.{◌≡◌, ◌≤◌, ◌<◌, ◌^◌, ℕ, zero, suc, List, [], ◌∷◌, length, map}
use Rattle.pict_syntax.specs.declared.limits.TheConstants.{NARROW_LIMIT}
use Rattle.pict_core.specs.Term.{Val}
use Rattle.pict_heap.specs.HeapState.{HeapState}
use Rattle.pict_blocks.specs.Blocks.{frame_values}
use Rattle.pict_desk.specs.Known.{value_in, value_fields}
use Rattle.pict_desk.specs.Pairs.{IsPair}

-- the words of so many values, two each, are words of the heap
abbrev pub HoldWords : HeapState → ℕ → List ℕ → Type 0
HoldWords h zero [] = Unit {0}
HoldWords h (suc n) (tag ∷ payload ∷ ws) = IsPair h (tag, payload) × HoldWords h n ws
HoldWords h _ _ = ⊥

-- the words of a record of so many positional fields, fewer than 2 to the power 32
pub record HoldRecord (h : HeapState) (n : ℕ) (ws : List ℕ) : Type 0 where
  pub pair : ℕ × ℕ
  pub is : ws ≡ pair.0 ∷ pair.1 ∷ []
  pub word : IsPair h pair
  pub many : length (value_fields (value_in h pair.0 pair.1)) ≡ n
  pub few : n < 2 ^ 32

-- behind its number a block holds these values for the levels of a frame: themselves, or where there are more than
-- `NARROW_LIMIT` one record of them
pub record HoldsFrame (h : HeapState) (value : ℕ → Val) (frame held : List ℕ) : Type 0 where
  pub values : frame_values (value_in h) (length frame) held ≡ map value frame
  pub narrow : length frame ≤ NARROW_LIMIT → HoldWords h (length frame) held
  pub wide : NARROW_LIMIT < length frame → HoldRecord h (length frame) held
