-- The law of existence of cuts: a text is read, or reading it stops somewhere.
use Rattle.std.specs.Prelude.{◌⊎◌, ℕ, List}
use Rattle.pict_syntax.specs.declared.code.Code.{Code}
use Rattle.pict_syntax.specs.declared.span.Span.{Span}
use Rattle.pict_syntax.specs.Cuts.{Piece, IsWholeCut, IsLexStop}

-- every text has a whole cut, or reading it stops
abbrev pub SomeWholeCut : Type 0
SomeWholeCut =
    (text : ℕ) (bytes : List ℕ) → ((pieces : List Piece) × IsWholeCut bytes pieces) ⊎ ((code : Code) × (span : Span) × IsLexStop text bytes code span)
