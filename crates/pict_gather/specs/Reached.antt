-- What a file comes to over a shelf, behind a prelude or without one, before scopes are looked at: the file is fetched, the
-- prelude is read, and then the file is visited.
use Rattle.std.specs.Prelude.{ℕ, List, [], ◌∷◌, Option, Some, None, unwrap_or, codes}
use Rattle.pict_syntax.specs.declared.code.Code.{Code}
use Rattle.pict_syntax.specs.declared.source.Source.{Source}
use Rattle.pict_syntax.specs.declared.span.Span.{Span}
use Rattle.pict_syntax.specs.Trees.{Decs, no_decs}
use Rattle.pict_gather.specs.Phases.{Phase, accepts, refuses}
use Rattle.pict_gather.specs.Reading.{Read, Reads}
use Rattle.pict_gather.specs.Fetching.{Fetch, text, missing, fault}
use Rattle.pict_gather.specs.Gathered.{Gathered, EarlyEnd, refused, failed, with_source, Visits}

-- text 0: the prelude, or an empty text
abbrev pub first_source : List ℕ → List Source
first_source t = record { name = codes "prelude"; text = t } ∷ []

-- nothing was visited yet
abbrev pub opened : List ℕ → List (List ℕ) → Decs → Gathered
opened t names ds = record { sources = first_source t; ended = []; names = names; decs = ds }

-- the prelude is read first, where there is one, and its imports are passed over; then the file is visited
pub data Gathers (Gives : List ℕ → Fetch → Type 0) : Option (List ℕ) → List ℕ → List ℕ → Phase EarlyEnd Gathered → Type 0 where
  bare : {file t : List ℕ} {a : Phase EarlyEnd Gathered} → Visits Gives (opened [] [] no_decs) file t a → Gathers Gives None file t a
  unread_prelude : {prelude file t : List ℕ} {code : Code} {span : Span} → Reads [] 0 prelude (refuses (code, span))
      → Gathers Gives (Some prelude) file t (refuses (refused (first_source prelude) code span))
  behind_prelude : {prelude file t : List ℕ} {r : Read} {a : Phase EarlyEnd Gathered} → Reads [] 0 prelude (accepts r)
      → Visits Gives (opened prelude r.names r.program.decs) file t a → Gathers Gives (Some prelude) file t a

-- there is no such file; or its texts are gathered, as far as that goes
pub data Reached : Type 0 where
  Absent : Reached
  Gathering : Phase EarlyEnd Gathered → Reached

-- the file under its name. Where the shelf fails, the last text has the file's name, behind the prelude or an empty text
pub data Reaches (Gives : List ℕ → Fetch → Type 0) : Option (List ℕ) → List ℕ → Reached → Type 0 where
  not_there : {prelude : Option (List ℕ)} {file : List ℕ} → Gives file missing → Reaches Gives prelude file Absent
  unfetched_file : {prelude : Option (List ℕ)} {file : List ℕ} → Gives file fault
      → Reaches Gives prelude file (Gathering (refuses (failed (with_source (first_source (unwrap_or prelude [])) file []))))
  there : {prelude : Option (List ℕ)} {file t : List ℕ} {a : Phase EarlyEnd Gathered} → Gives file (text t) → Gathers Gives prelude file t a
      → Reaches Gives prelude file (Gathering a)
