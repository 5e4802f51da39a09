-- The law of words.
use Rattle.std.specs.Prelude.{◌≡◌, ◌⊎◌, ℕ, List}
use Rattle.pict_words.specs.Words.{Command, HasShape, HasNoShape}

-- words have the shape of one command and of no other, or no listed shape
abbrev pub OneCommand : Type 0
OneCommand = (words : List (List ℕ)) → ((command : Command) × HasShape words command × ((other : Command) → HasShape words other → other ≡ command)) ⊎ HasNoShape words
