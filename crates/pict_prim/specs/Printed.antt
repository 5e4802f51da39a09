-- The bytes of what is printed.
use Rattle.std.specs.Prelude.{List, ℕ, Option, Some, None}
use Rattle.std.specs.Fmt.{signed_decimal}
use Rattle.pict_core.specs.Term.{Val, Int, Text}

-- A printed text stands for its bytes, a printed number for its decimal text. Nothing else is printed.
abbrev pub printed_of : Val → Option (List ℕ)
printed_of (Text bytes) = Some bytes
printed_of (Int n) = Some (signed_decimal n)
printed_of _ = None
