-- How far the reading of a text has come.
use Rattle.std.specs.Prelude.{◌≡◌, ℕ, ◌<◌, ◌≤◌, List, [], ◌∷◌, ◌+◌, length, take, drop, Option, Some, None}
use Rattle.pict_syntax.specs.declared.token.Token.{Token}
use Rattle.pict_syntax.specs.declared.token.TokenKind.{TokenKind}
use Rattle.pict_syntax.specs.declared.span.Span.{Span}
use Rattle.pict_syntax.specs.Names.{with_names}
use Rattle.pict_syntax.specs.Cuts.{Piece, blank, comment, token, piece_bytes, IsPiece, joined_pieces, IsCut, kind_of, tokens_of, named, extent}
use Rattle.pict_lex.specs.declared.halt.Halt.{Halt}
use Rattle.pict_lex.specs.declared.halt.Halt.TheVariants.{Stop, Memory as Stopped}
use Rattle.pict_lex.specs.declared.error.LexError.{LexError}
use Rattle.pict_lex.specs.declared.error.LexError.TheVariants.{Named, Memory}

-- the kind of a piece that is a token
abbrev pub kind_of_piece : List (List ℕ) → Piece → Option TokenKind
kind_of_piece names (blank byte) = None
kind_of_piece names (comment bytes) = None
kind_of_piece names (token bytes form) = Some (kind_of names form)

-- one piece at the front of `rest` was read, and its name interned
pub record HasStepped (old new : List (List ℕ)) (rest : List ℕ) (kind : Option TokenKind) (len : ℕ) : Type 0 where
  pub piece : Piece
  pub is : IsPiece piece (drop len rest)
  pub bytes : piece_bytes piece ≡ take len rest
  pub some : 0 < len
  pub within : len ≤ length rest
  pub names : new ≡ with_names old (named (piece ∷ []))
  pub kind_is : kind ≡ kind_of_piece new piece

-- The text is read up to a place: its pieces, their tokens, and the names with theirs.
pub record HasRead (old new : List (List ℕ)) (number : ℕ) (text : List ℕ) (at : ℕ) (tokens : List Token) : Type 0 where
  pub pieces : List Piece
  pub cut : IsCut text pieces (drop at text)
  pub place : at ≡ length (joined_pieces pieces)
  pub within : at ≤ length text
  pub names : new ≡ with_names old (named pieces)
  pub tokens_are : tokens ≡ tokens_of new number 0 pieces

-- the token of a piece, where it is one
abbrev pub token_at : Option TokenKind → Span → List Token
token_at None span = []
token_at (Some kind) span = record { kind = kind; span = span } ∷ []

-- a refusal at this place of the text
abbrev pub IsRefusedAt : ℕ → ℕ → Halt → LexError → Type 0
IsRefusedAt number at (Stop code further) error = error ≡ Named code (record { text = number; start = at + further; end = at + further + extent code })
IsRefusedAt number at Stopped error = error ≡ Memory
