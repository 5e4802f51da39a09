-- What the writer of a value still has to write.
use Rattle.std.specs.Prelude.{◌≡◌, ℕ, List, [], ◌∷◌, ◌++◌, map}
use Rattle.std.specs.List.{flat_map, join_with_byte}
use Rattle.pict_core.specs.Term.{Val, Vals, Labelled, Record}
use Rattle.pict_core.specs.Plain.{plain_val, plain_field, vals_of, labelled_of}
use Rattle.pict_core.specs.declared.value.CoreVal.{CoreVal}
use Rattle.pict_syntax.specs.declared.name.Name.{Name}
use Rattle.pict_show.specs.Values.{value_text, positional_texts, labelled_texts}
use Rattle.pict_show.specs.declared.value.Piece.{Piece}
use Rattle.pict_show.specs.declared.value.Piece.TheVariants as piece

-- fields that others stand before, and the end of their record
abbrev pub rest_text : List (List ℕ) → Vals → Labelled → List ℕ
rest_text names vs ls = flat_map (λ t. 32 ∷ t) (positional_texts names vs ++ labelled_texts names ls) ++ 93 ∷ []

-- the fields of a record, and its end
abbrev pub fields_text : List (List ℕ) → Vals → Labelled → List ℕ
fields_text names vs ls = join_with_byte 32 (positional_texts names vs ++ labelled_texts names ls) ++ 93 ∷ []

-- the same of fields as they stand in memory
abbrev pub rest_of : List (List ℕ) → List CoreVal → List (Name × CoreVal) → List ℕ
rest_of names positional labelled = rest_text names (vals_of (map plain_val positional)) (labelled_of (map plain_field labelled))

abbrev pub plain_fields_text : List (List ℕ) → List CoreVal → List (Name × CoreVal) → List ℕ
plain_fields_text names positional labelled = fields_text names (vals_of (map plain_val positional)) (labelled_of (map plain_field labelled))

abbrev pub piece_text : List (List ℕ) → Piece → List ℕ
piece_text names (piece.Value v) = value_text names (plain_val v.now)
piece_text names (piece.Rest positional labelled) = rest_of names positional.now labelled.now

-- what these pieces say, the last one first, and then these bytes
abbrev pub pending : List (List ℕ) → List Piece → List ℕ → List ℕ
pending names [] after = after
pending names (p ∷ ps) after = pending names ps (piece_text names p ++ after)

-- Bytes that were written, and pieces that were pending: this text is now written behind those bytes, or pending before
-- those pieces.
abbrev pub GainsText : List (List ℕ) → List ℕ → List Piece → List ℕ → List ℕ → List Piece → Type 0
GainsText names out pieces text out' pieces' = out' ++ pending names pieces' [] ≡ out ++ (text ++ pending names pieces [])

-- a value that is no record
abbrev pub IsSimple : Val → Type 0
IsSimple (Record vs ls) = ⊥
IsSimple _ = Unit {0}
