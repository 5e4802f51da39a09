-- What reading one piece at the front of a text gives.
use Rattle.std.specs.Prelude.{◌≡◌, ◌≢◌, ℕ, ◌<◌, ◌≤◌, false, List, length, take, drop, slice_index}
use Rattle.std.specs.Char.{is_ascii_alphabetic}
use Rattle.pict_syntax.specs.Tokens.{Form, identifier, keyword, number, character, string}
use Rattle.pict_syntax.specs.Comments.{BeginsWith, opening, IsComment}
use Rattle.pict_syntax.specs.Cuts.{token, IsBlank, IsPiece, Stops}
use Rattle.pict_lex.specs.Mark.{mark_form}
use Rattle.pict_lex.specs.Number.{BeginsNumber}
use Rattle.pict_lex.specs.declared.halt.Halt.{Halt}
use Rattle.pict_lex.specs.declared.halt.Halt.TheVariants.{Stop, Memory}
use Rattle.pict_lex.specs.declared.scan.Scanned.{Scanned}
use Rattle.pict_lex.specs.declared.scan.Scanned.TheVariants.{Blank, Comment, Identifier, Word, Number, Character, String, Marked}

-- a token of this form is the first `len` bytes of `rest`
pub record IsToken (rest : List ℕ) (form : Form) (len : ℕ) : Type 0 where
  pub some : 0 < len
  pub within : len ≤ length rest
  pub piece : IsPiece (token (take len rest) form) (drop len rest)

-- a comment is
pub record IsCommentAt (rest : List ℕ) (len : ℕ) : Type 0 where
  pub some : 0 < len
  pub within : len ≤ length rest
  pub comment : IsComment (take len rest)

-- what was read is the piece at the front
abbrev pub IsScanned : List ℕ → Scanned → Type 0
IsScanned rest Blank = IsBlank (slice_index rest 0)
IsScanned rest (Comment len) = IsCommentAt rest len
IsScanned rest (Identifier len) = IsToken rest (identifier (take len rest)) len
IsScanned rest (Word k len) = IsToken rest (keyword k) len
IsScanned rest (Number n len) = IsToken rest (number n) len
IsScanned rest (Character value len) = IsToken rest (character value) len
IsScanned rest (String values len) = IsToken rest (string values) len
IsScanned rest (Marked mark len) = IsToken rest (mark_form mark) len

-- reading stops at `rest`, unless it is want of memory
abbrev pub IsHalt : List ℕ → Halt → Type 0
IsHalt rest (Stop code at) = Stops code rest at
IsHalt rest Memory = Unit {0}

-- `rest` begins with no blank, letter, number, quote or comment
pub record IsOther (rest : List ℕ) : Type 0 where
  pub some : 0 < length rest
  pub no_blank : ¬ IsBlank (slice_index rest 0)
  pub no_letter : is_ascii_alphabetic (slice_index rest 0) ≡ false
  pub no_number : ¬ BeginsNumber rest
  pub no_quote : (slice_index rest 0 ≢ 34) × (slice_index rest 0 ≢ 39)
  pub no_comment : ¬ BeginsWith opening rest
