-- What tokens and grammar say of one text.
use Rattle.std.specs.Prelude.{◌≡◌, ◌⊎◌, ℕ, List, length}
use Rattle.pict_syntax.specs.declared.code.Code.{Code}
use Rattle.pict_syntax.specs.declared.code.Code.TheVariants.{P1, P2}
use Rattle.pict_syntax.specs.declared.span.Span.{Span}
use Rattle.pict_syntax.specs.declared.token.Token.{Token}
use Rattle.pict_syntax.specs.Names.{with_names}
use Rattle.pict_syntax.specs.Cuts.{Piece, IsWholeCut, named, tokens_of, IsLexStop}
use Rattle.pict_syntax.specs.Programs.{Program, programs}
use Rattle.pict_syntax.specs.Verdicts.{Whole, Unexpected, TooNested, IsVerdict}
use Rattle.pict_syntax.specs.Stops.{Stop}
use Rattle.pict_gather.specs.Phases.{Phase, accepts, refuses, Then}

-- the program of a text, and the names once those of the text are among them
pub record Read : Type 0 where
  pub names : List (List ℕ)
  pub program : Program

-- TOKENS: the text with this number has a whole cut, or cutting it stops at a place
abbrev pub Lexes : ℕ → List ℕ → Phase Stop (List Piece) → Type 0
Lexes number text (accepts pieces) = IsWholeCut text pieces
Lexes number text (refuses (code, span)) = IsLexStop number text code span

-- the names and, at their end, those of these pieces that they lacked
abbrev pub names_with : List (List ℕ) → List Piece → List (List ℕ)
names_with names pieces = with_names names (named pieces)

-- the empty place at the end of the text with this number
abbrev pub end_of : ℕ → List ℕ → Span
end_of number text = record { text = number; start = length text; end = length text }

-- GRAMMAR: the tokens are those of a program; else the first one that no program has there, or that is nested too deep
abbrev pub HasVerdict : List Token → Span → Phase Stop Program → Type 0
HasVerdict tokens end (accepts p) = IsVerdict programs tokens end (Whole p)
HasVerdict tokens end (refuses (code, span)) =
    ((code ≡ P1) × IsVerdict programs tokens end (Unexpected span)) ⊎ ((code ≡ P2) × IsVerdict programs tokens end (TooNested span))

-- the text with this number, behind texts that have these names: its tokens, and then its program
abbrev pub Reads : List (List ℕ) → ℕ → List ℕ → Phase Stop Read → Type 0
Reads names number text =
    Then (Lexes number text) (λ (pieces : List Piece).
    Then (HasVerdict (tokens_of (names_with names pieces) number 0 pieces) (end_of number text)) (λ (program : Program) (read : Phase Stop Read).
    read ≡ accepts (record { names = names_with names pieces; program = program })))
