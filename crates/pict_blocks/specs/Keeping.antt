-- Outputs of kept values as the words of a block.
use Rattle.std.specs.Prelude.{ℕ, List, [], ◌∷◌}
use Rattle.pict_desk.specs.declared.kept.Kept.{Kept}

-- the words behind the link: 0, the two words of each value, and the place in the text
abbrev pub kept_words : Kept → List ℕ
kept_words k = 0 ∷ k.to.0 ∷ k.to.1 ∷ k.message.0 ∷ k.message.1 ∷ k.at.text ∷ k.at.start ∷ k.at.end ∷ []
