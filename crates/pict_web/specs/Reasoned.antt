-- What stands after a call for reasons: of what they are told.
use Rattle.std.specs.Prelude.{◌≡◌, ℕ, Bool, []}
use Rattle.pict_outside.specs.Texts.{Texts}
use Rattle.pict_top.specs.Numbers.{number_of}
use Rattle.pict_top.specs.declared.status.Status.{Status}
use Rattle.pict_top.specs.declared.status.Status.TheVariants as status
use Rattle.pict_web.specs.Told.{Telling, Tells, SaysNothing}

-- whatever is told of an accepted file
abbrev pub anything : Telling
anything accepted told = Unit {0}

-- they are of an accepted file, or of one that is refused or isn't there
abbrev pub IsAbout : Bool → Texts → Status → Type 0
IsAbout bare texts status.Done = Tells anything bare texts []
IsAbout bare texts s = SaysNothing bare texts s

-- the number is that of a status with which they are told
abbrev pub IsReasoned : Bool → Texts → ℕ → Type 0
IsReasoned bare texts number = (s : Status) × (number ≡ number_of s) × IsAbout bare texts s
