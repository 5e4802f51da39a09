-- Where texts are refused.
use Rattle.std.specs.Prelude.{◌≡◌, ℕ, ◌≤◌, List, length, Some, slice_get}
use Rattle.pict_syntax.specs.declared.source.Source.{Source}
use Rattle.pict_syntax.specs.declared.span.Span.{Span}

-- the place lies in the text with this number. It may be empty, and may be the text's end
pub record LiesIn (number : ℕ) (text : List ℕ) (span : Span) : Type 0 where
  pub named : span.text ≡ number
  pub ordered : span.start ≤ span.end
  pub within : span.end ≤ length text

-- it lies in that one of the texts whose number it names
pub record StandsIn (sources : List Source) (span : Span) : Type 0 where
  pub source : Source
  pub at : slice_get sources span.text ≡ Some source
  pub lies : LiesIn span.text source.text span
