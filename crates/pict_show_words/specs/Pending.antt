-- What the writer of a word's value still has to write.
use Rattle.std.specs.Prelude.{◌≡◌, ℕ, List, [], ◌∷◌, ◌++◌}
use Rattle.pict_show.specs.Values.{value_text}
use Rattle.pict_show.specs.Pending.{rest_text}
use Rattle.pict_heap.specs.HeapState.{HeapState, value_of, IsWord}
use Rattle.pict_show_words.specs.Fields.{positional_from, labelled_from}
use Rattle.pict_show_words.specs.declared.writing.Piece.{Piece}
use Rattle.pict_show_words.specs.declared.writing.Piece.TheVariants as piece

-- the words of a piece are words of the heap
abbrev pub IsPieceOf : HeapState → Piece → Type 0
IsPieceOf h (piece.Value word) = IsWord h word
IsPieceOf h (piece.Rest whole positional labelled) = IsWord h whole

abbrev pub piece_text : List (List ℕ) → HeapState → Piece → List ℕ
piece_text names h (piece.Value word) = value_text names (value_of h word)
piece_text names h (piece.Rest whole positional labelled) = rest_text names (positional_from positional (value_of h whole)) (labelled_from labelled (value_of h whole))

-- what these pieces say, the last one first, and then these bytes
abbrev pub pending : List (List ℕ) → HeapState → List Piece → List ℕ → List ℕ
pending names h [] after = after
pending names h (p ∷ ps) after = pending names h ps (piece_text names h p ++ after)

-- Bytes that were written, and pieces that were pending: this text is now written behind those bytes, or pending before
-- those pieces.
abbrev pub GainsHeapText : List (List ℕ) → HeapState → List ℕ → List Piece → List ℕ → List ℕ → List Piece → Type 0
GainsHeapText names h out pieces text out' pieces' = out' ++ pending names h pieces' [] ≡ out ++ (text ++ pending names h pieces [])
