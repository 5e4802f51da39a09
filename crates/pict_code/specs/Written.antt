-- What the parts of the writer of a line write.
use Rattle.std.specs.Prelude.{ℕ, Bool, true, false, List, [], ◌∷◌, ◌++◌, map}
use Rattle.std.specs.Fmt.{decimal}
use Rattle.std.specs.List.{flat_map, join_with_byte}
use Rattle.pict_syntax.specs.declared.name.Name.{Name}
use Rattle.pict_core.specs.Term.{Val}
use Rattle.pict_show.specs.Values.{value_text}
use Rattle.pict_code.specs.Instruction.{CodePat, Op}
use Rattle.pict_code.specs.Plain.{pats_of, labelled_pats_of}
use Rattle.pict_code.specs.Listing.{pattern_text, pattern_texts, labelled_pattern_texts, op_words}

abbrev pub op_text : List (List ℕ) → Op → List ℕ
op_text names op = join_with_byte 32 (op_words names op)

-- channel, pattern and part of an input
abbrev pub input_text : List (List ℕ) → Val → CodePat → ℕ → List ℕ
input_text names chan pattern part = value_text names chan ++ (32 ∷ (pattern_text names pattern ++ (32 ∷ decimal part)))

-- what stands before a text: a space, but not before the first
abbrev pub gap : Bool → List ℕ
gap true = []
gap false = 32 ∷ []

-- texts with a space before each, but not before the first where it is the first of all
abbrev pub spaced : Bool → List (List ℕ) → List ℕ
spaced true texts = join_with_byte 32 texts
spaced false texts = flat_map (λ t. 32 ∷ t) texts

abbrev pub fields_text : List (List ℕ) → List CodePat → List ℕ
fields_text names fields = join_with_byte 32 (pattern_texts names (pats_of fields))

abbrev pub labelled_text : List (List ℕ) → Bool → List (Name × CodePat) → List ℕ
labelled_text names first fields = spaced first (labelled_pattern_texts names (labelled_pats_of fields))
