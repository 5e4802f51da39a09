-- What is settled of an import without a look at the shelf, and what the shelf gave, as the code answers them.
use Rattle.std.specs.Prelude.{◌≡◌, ◌<◌, ◌≤◌, ℕ, List, [], length, Option, Some, None}
use Rattle.pict_syntax.specs.declared.code.Code.TheVariants.{I1}
use Rattle.pict_syntax.specs.declared.source.Source.{Source}
use Rattle.pict_syntax.specs.declared.span.Span.{Span}
use Rattle.pict_outside.specs.Texts.{Texts}
use Rattle.pict_outside.specs.Counts.{Rose}
use Rattle.pict_gather.specs.declared.visits.Settled.{Settled}
use Rattle.pict_gather.specs.declared.visits.Settled.TheVariants.{Refused, Over, Open}
use Rattle.pict_gather.specs.declared.visits.Found.{Found}
use Rattle.pict_gather.specs.declared.visits.Found.TheVariants.{Text, Missing, TooLong}
use Rattle.pict_gather.specs.declared.error.VisitError.{VisitError}
use Rattle.pict_gather.specs.declared.error.VisitError.TheVariants as errors
use Rattle.pict_gather.specs.Phases.{Phase, accepts, refuses}
use Rattle.pict_gather.specs.Fetching.{text, missing, MayGive}
use Rattle.pict_gather.specs.Gathered.{Gathered, EarlyEnd, refused, with_source}

-- what an import at this place comes to, where that is settled
abbrev pub comes_of : Gathered → Span → Settled → Option (Phase EarlyEnd Gathered)
comes_of g span (Refused code) = Some (refuses (refused g.sources code span))
comes_of g span Over = Some (accepts g)
comes_of g span Open = None

-- a text that may stand there has more bytes than this
pub record IsTooLong (held : Option Texts) (name : List ℕ) (left : ℕ) : Type 0 where
  pub bytes : List ℕ
  pub gives : MayGive held name (text bytes)
  pub long : left < length bytes

abbrev pub IsFound : Option Texts → List ℕ → ℕ → List Source → List Source → Found → Type 0
IsFound held name left old new (Text t) = (new ≡ old) × (length t.items ≤ left) × MayGive held name (text t.items)
IsFound held name left old new Missing = (new ≡ old) × MayGive held name missing
IsFound held name left old new (TooLong span) = (new ≡ with_source old name []) × (span ≡ record { text = length old; start = 0; end = 0 }) × IsTooLong held name left

abbrev pub IsFault : List ℕ → List Source → List Source → VisitError → Type 0
IsFault name old new (errors.Named code span) = ⊥
IsFault name old new errors.Failed = new ≡ with_source old name []
IsFault name old new errors.Memory = Unit {0}

-- that a text is absent isn't settled without a look at the shelf
abbrev pub IsNotAbsent : Settled → Type 0
IsNotAbsent (Refused I1) = ⊥
IsNotAbsent settled = Unit {0}

-- a text is absent only where the shelf missed one
abbrev pub MissedFor : ℕ → ℕ → VisitError → Type 0
MissedFor before now (errors.Named I1 span) = Rose before now
MissedFor before now error = Unit {0}
