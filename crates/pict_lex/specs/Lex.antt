-- What reading a text gives: its tokens, the names that it adds, or the place where reading stops.
use Rattle.std.specs.Prelude.{◌≡◌, ℕ, ◌<◌, ◌≤◌, length, List, ◌++◌}
use Rattle.pict_syntax.specs.declared.code.Code.{Code}
use Rattle.pict_syntax.specs.declared.span.Span.{Span}
use Rattle.pict_syntax.specs.declared.token.Token.{Token}
use Rattle.pict_syntax.specs.Names.{with_names}
use Rattle.pict_syntax.specs.Cuts.{Piece, IsWholeCut, IsCut, tokens_of, named, IsLexStop}
use Rattle.std.specs.Prelude.{Result, Ok, Err}
use Rattle.pict_lex.specs.declared.error.LexError.{LexError}
use Rattle.pict_lex.specs.declared.error.LexError.TheVariants.{Named, Memory}

-- the tokens of a text, in its whole cut, where names have their numbers
abbrev pub AreTokens : List (List ℕ) → ℕ → List ℕ → List Token → Type 0
AreTokens names number text tokens = (pieces : List Piece) × IsWholeCut text pieces × (tokens ≡ tokens_of names number 0 pieces)

-- the names and, at their end, those identifiers and symbol names of the text that they lacked, in the order of their first occurrences
abbrev pub GainsNames : List (List ℕ) → List (List ℕ) → List ℕ → Type 0
GainsNames old new text = (pieces : List Piece) × IsWholeCut text pieces × (new ≡ with_names old (named pieces))

-- what the names had, they have in the same places
abbrev pub KeepsNames : List (List ℕ) → List (List ℕ) → Type 0
KeepsNames old new = (more : List (List ℕ)) × (new ≡ old ++ more)

-- the names and, at their end, those that they lacked of some pieces with which the text begins
abbrev pub GainsSomeNames : List (List ℕ) → List (List ℕ) → List ℕ → Type 0
GainsSomeNames old new text = (pieces : List Piece) × (rest : List ℕ) × IsCut text pieces rest × (new ≡ with_names old (named pieces))

-- a refusal of the text is the place where reading stops
abbrev pub IsRefusal : ℕ → List ℕ → LexError → Type 0
IsRefusal number text (Named code span) = IsLexStop number text code span
IsRefusal number text Memory = Unit {0}

-- an error is this refusal, unless it is want of memory
abbrev pub IsThisRefusal : Code → Span → LexError → Type 0
IsThisRefusal code span (Named other place) = (other ≡ code) × (place ≡ span)
IsThisRefusal code span Memory = Unit {0}

-- an answer is this refusal, unless it is want of memory
abbrev pub IsRefused : {T : Type 0} → Code → Span → Result T LexError → Type 0
IsRefused code span (Ok tokens) = ⊥
IsRefused code span (Err error) = IsThisRefusal code span error

-- an answer is no refusal: an error is want of memory
abbrev pub IsAccepted : {T : Type 0} → Result T LexError → Type 0
IsAccepted (Ok tokens) = Unit {0}
IsAccepted (Err error) = error ≡ Memory

-- the span has a byte or more, and lies in the text with this number
pub record LiesIn (number : ℕ) (text : List ℕ) (span : Span) : Type 0 where
  pub named : span.text ≡ number
  pub some : span.start < span.end
  pub within : span.end ≤ length text

-- the place of a refusal does
abbrev pub RefusalLiesIn : ℕ → List ℕ → LexError → Type 0
RefusalLiesIn number text (Named code span) = LiesIn number text span
RefusalLiesIn number text Memory = Unit {0}
