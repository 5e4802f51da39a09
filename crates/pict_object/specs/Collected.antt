-- Devices of the proof that the labels of a process are found: labels in the order of their bytes, each once.
use Rattle.std.specs.Prelude.{ℕ, ◌≡◌, ◌<◌, List, [], ◌∷◌, map, length, get_or, if◌then◌else◌}
use Rattle.std.specs.Str.{bytes_eq}
use Rattle.pict_syntax.specs.declared.name.Name.{Name}
use Rattle.pict_syntax.specs.Names.{text_of}

-- the numbers of labels
abbrev pub numbers : {A : Type 0} → List (Name × A) → List ℕ
numbers labels = map (λ label. label.0.0) labels

-- the texts of labels
abbrev pub texts_of : List (List ℕ) → List Name → List (List ℕ)
texts_of names labels = map (λ label. text_of names label.0) labels

-- of texts of which equal ones stand side by side one each, without those that are the last one over again
abbrev pub distinct_after : List ℕ → List (List ℕ) → List (List ℕ)
distinct_after last [] = []
distinct_after last (text ∷ texts) = if bytes_eq text last then distinct_after last texts else text ∷ distinct_after text texts

-- the number of the label at a place
abbrev pub number_at : List Name → ℕ → ℕ
number_at table k = get_or (map (λ label. label.0) table) k 0

-- no label stands at two places
abbrev pub AreApart : List Name → Type 0
AreApart table = (i j : ℕ) → i < length table → j < length table → number_at table i ≡ number_at table j → i ≡ j
