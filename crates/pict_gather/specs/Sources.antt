-- The texts that a program is read from, under their numbers: the prelude at 0, or an empty text, and those that are visited.
use Rattle.std.specs.Prelude.{ℕ, ◌+◌, Bool, List, [], ◌∷◌, length, drop}
use Rattle.std.specs.List.{list_any}
use Rattle.std.specs.Str.{bytes_eq}
use Rattle.pict_syntax.specs.declared.source.Source.{Source}

-- the bytes of several texts together
abbrev pub bytes_in : List Source → ℕ
bytes_in [] = 0
bytes_in (s ∷ ss) = length s.text + bytes_in ss

-- all but number 0
abbrev pub visited : List Source → List Source
visited sources = drop 1 sources

-- one of the texts has this name
abbrev pub is_name_of : List ℕ → List Source → Bool
is_name_of name sources = list_any (λ s. bytes_eq name s.name) sources

-- the name is among these
abbrev pub is_among : List ℕ → List (List ℕ) → Bool
is_among name names = list_any (bytes_eq name) names
