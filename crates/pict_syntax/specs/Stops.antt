-- Where a text is refused.
use Rattle.pict_syntax.specs.declared.code.Code.{Code}
use Rattle.pict_syntax.specs.declared.span.Span.{Span}

-- a refusal: its code, and its place
abbrev pub Stop : Type 0
Stop = Code × Span
