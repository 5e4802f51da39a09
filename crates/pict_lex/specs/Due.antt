-- What stands in a literal where one more item or its quote is due.
use Rattle.std.specs.Prelude.{◌≡◌, ℕ, ◌<◌, ◌≤◌, List, [], ◌∷◌, ◌++◌, length, drop}
use Rattle.pict_syntax.specs.Tokens.{item_bytes, item_value, IsItem}
use Rattle.pict_syntax.specs.Tokens as tokens
use Rattle.pict_syntax.specs.Comments.{BeginsWith}
use Rattle.pict_syntax.specs.Cuts.{IsCutOff, IsBadByte, IsBadEscape}
use Rattle.pict_lex.specs.declared.literal.Due.{Due}
use Rattle.pict_lex.specs.declared.literal.Due.TheVariants.{Item, Quote, CutOff, BadByte, BadEscape}

-- an item with this value is the first `len` bytes of `after`
pub record IsItemAt (quote : ℕ) (after : List ℕ) (value len : ℕ) : Type 0 where
  pub item : tokens.Item
  pub is : IsItem quote item
  pub bytes : after ≡ item_bytes item ++ drop len after
  pub value_is : value ≡ item_value item
  pub len_is : len ≡ length (item_bytes item)
  pub within : len ≤ length after
  pub some : 0 < len

abbrev pub IsDue : ℕ → List ℕ → Due → Type 0
IsDue quote after (Item value len) = IsItemAt quote after value len
IsDue quote after Quote = BeginsWith (quote ∷ []) after
IsDue quote after CutOff = IsCutOff after
IsDue quote after BadByte = IsBadByte after
IsDue quote after BadEscape = IsBadEscape after
