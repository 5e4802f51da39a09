-- Behind which prelude a file stands.
use Rattle.std.specs.Prelude.{ℕ, Bool, true, false, List, Option, Some, None}
use Rattle.pict_report.specs.Prelude.{prelude_text}

-- the file stands alone or behind the prelude
abbrev pub prelude_for : Bool → Option (List ℕ)
prelude_for true = None
prelude_for false = Some prelude_text
