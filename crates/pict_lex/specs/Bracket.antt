-- Brackets of comments.
use Rattle.std.specs.Prelude.{◌≡◌, ◌≢◌, ℕ, [], ◌∷◌}
use Rattle.pict_syntax.specs.Comments.{opening, closing}
use Rattle.pict_lex.specs.declared.comment.Bracket.{Bracket}
use Rattle.pict_lex.specs.declared.comment.Bracket.TheVariants.{Opening, Closing, None}

abbrev pub IsBracket : ℕ → ℕ → Bracket → Type 0
IsBracket first second Opening = first ∷ second ∷ [] ≡ opening
IsBracket first second Closing = first ∷ second ∷ [] ≡ closing
IsBracket first second None = (first ∷ second ∷ [] ≢ opening) × (first ∷ second ∷ [] ≢ closing)
