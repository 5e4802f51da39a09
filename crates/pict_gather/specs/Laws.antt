-- The laws of gathering.
use Rattle.std.specs.Prelude.{ℕ, List, Option, Some}
use Rattle.pict_outside.specs.Texts.{Texts}
use Rattle.pict_syntax.specs.declared.code.Code.{Code}
use Rattle.pict_syntax.specs.declared.source.Source.{Source}
use Rattle.pict_syntax.specs.declared.span.Span.{Span}
use Rattle.pict_gather.specs.Phases.{refuses, Exactly}
use Rattle.pict_gather.specs.Places.{StandsIn}
use Rattle.pict_gather.specs.Reading.{Reads}
use Rattle.pict_gather.specs.Fetching.{MayGive}
use Rattle.pict_gather.specs.Gathered.{Gathered, refused, Visits}
use Rattle.pict_gather.specs.Reached.{Gathering, Reaches}

-- one text comes to exactly one thing: a program, or one refusal
abbrev pub OneReading : Type 0
OneReading = (names : List (List ℕ)) (number : ℕ) (text : List ℕ) → Exactly (Reads names number text)

-- over a shelf that tells its texts the visit of a text comes to exactly one thing
abbrev pub OneVisit : Type 0
OneVisit = (texts : Texts) (g : Gathered) (name text : List ℕ) → Exactly (Visits (MayGive (Some texts)) g name text)

-- over a shelf that tells its texts a file comes to exactly one thing: it is missing, or refused at one place, or its
-- declarations and names are these
abbrev pub OneReached : Type 0
OneReached = (texts : Texts) (prelude : Option (List ℕ)) (file : List ℕ) → Exactly (Reaches (MayGive (Some texts)) prelude file)

-- over any shelf a refusal of a visit stands in one of the texts that were read
abbrev pub VisitIsPlaced : Type 0
VisitIsPlaced = (held : Option Texts) (g : Gathered) (name text : List ℕ) (sources : List Source) (code : Code) (span : Span)
    → Visits (MayGive held) g name text (refuses (refused sources code span)) → StandsIn sources span

-- over any shelf a refusal of a file does: the file, a text that it reaches, or the prelude
abbrev pub ReachedIsPlaced : Type 0
ReachedIsPlaced = (held : Option Texts) (prelude : Option (List ℕ)) (file : List ℕ) (sources : List Source) (code : Code) (span : Span)
    → Reaches (MayGive held) prelude file (Gathering (refuses (refused sources code span))) → StandsIn sources span
