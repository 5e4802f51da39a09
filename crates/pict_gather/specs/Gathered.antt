-- The texts that a file reaches by its imports, read in the order in which their visits begin. An import is followed where it
-- stands, before the next one; the declarations of a text come behind those of the texts that it imports.
use Rattle.std.specs.Prelude.{◌≡◌, ℕ, ◌+◌, ◌<◌, ◌≤◌, Bool, false, not, ◌&&◌, ◌==◌, nat_le, if◌then◌else◌, List, [], ◌∷◌, ◌++◌, length, Option, Some, None}
use Rattle.std.specs.List.{list_all}
use Rattle.pict_syntax.specs.declared.limits.TheConstants.{TEXT_LIMIT, SOURCE_LIMIT}
use Rattle.pict_syntax.specs.declared.code.Code.{Code}
use Rattle.pict_syntax.specs.declared.code.Code.TheVariants.{B1, I1, I2, I3, I4}
use Rattle.pict_syntax.specs.declared.source.Source.{Source}
use Rattle.pict_syntax.specs.declared.span.Span.{Span}
use Rattle.pict_syntax.specs.declared.tree.Import.{Import}
use Rattle.pict_syntax.specs.Trees.{Decs, no_decs, more_decs}
use Rattle.pict_gather.specs.Phases.{Phase, accepts, refuses}
use Rattle.pict_gather.specs.Sources.{bytes_in, visited, is_name_of, is_among}
use Rattle.pict_gather.specs.Reading.{Read, Reads}
use Rattle.pict_gather.specs.Fetching.{Fetch, text, missing, fault}

-- the texts that were read so far, with number 0 first; the names of those that were visited to their end; the names of the
-- tokens; and the declarations of those that were visited to their end, one text's behind the other's
pub record Gathered : Type 0 where
  pub sources : List Source
  pub ended : List (List ℕ)
  pub names : List (List ℕ)
  pub decs : Decs

-- why gathering ends early, with the texts that were read so far: a text is refused, or the shelf failed that was asked for the
-- last of them
pub data EarlyEnd : Type 0 where
  refused : List Source → Code → Span → EarlyEnd
  failed : List Source → EarlyEnd

-- each byte is from 0x20 to 0x7E
abbrev pub are_printable : List ℕ → Bool
are_printable bytes = list_all (λ byte. nat_le 32 byte && nat_le byte 126) bytes

-- it isn't empty, doesn't begin with `-` (45), and each of its bytes is from 0x20 to 0x7E
abbrev pub is_import_name : List ℕ → Bool
is_import_name [] = false
is_import_name (first ∷ more) = not (first == 45) && are_printable (first ∷ more)

-- the declarations of one program behind those of another
abbrev pub behind : Decs → Decs → Decs
behind first no_decs = first
behind first (more_decs ds d) = more_decs (behind first ds) d

-- one text more
abbrev pub with_source : List Source → List ℕ → List ℕ → List Source
with_source sources name t = sources ++ record { name = name; text = t } ∷ []

-- the first byte of the next text
abbrev pub next_place : Gathered → Span
next_place g = record { text = length g.sources; start = 0; end = 0 }

-- the visit of a text has begun, and the text was read
abbrev pub begun : Gathered → List ℕ → List ℕ → Read → Gathered
begun g name t r = record { sources = with_source g.sources name t; ended = g.ended; names = r.names; decs = g.decs }

-- the visit of a text is over
abbrev pub finished : List ℕ → Decs → Gathered → Gathered
finished name ds g = record { sources = g.sources; ended = g.ended ++ name ∷ []; names = g.names; decs = behind g.decs ds }

-- the bytes of the texts visited so far
abbrev pub bytes_visited : Gathered → ℕ
bytes_visited g = bytes_in (visited g.sources)

-- an import is refused
abbrev pub refused_at : Gathered → Code → Import → Phase EarlyEnd Gathered
refused_at g code x = refuses (refused g.sources code x.span)

-- what an import comes to without a look at its text, by the first of these that holds: its name is bad; its text was visited to
-- its end, so that there is nothing to do; its text is being visited; there are as many texts as there may be
abbrev pub settled : Gathered → Import → Option (Phase EarlyEnd Gathered)
settled g x =
    if not (is_import_name x.name) then Some (refused_at g I4 x) else
    if is_among x.name g.ended then Some (accepts g) else
    if is_name_of x.name (visited g.sources) then Some (refused_at g I2 x) else
    if nat_le SOURCE_LIMIT (length (visited g.sources)) then Some (refused_at g I3 x) else
    None

mutual
  -- the visit of a text under its name, where `Gives` says what the shelf gives
  pub data Visits (Gives : List ℕ → Fetch → Type 0) : Gathered → List ℕ → List ℕ → Phase EarlyEnd Gathered → Type 0 where
    -- its bytes and those of the texts visited before are too many
    too_long : {g : Gathered} {name t : List ℕ}
        → TEXT_LIMIT < bytes_visited g + length t
        → Visits Gives g name t (refuses (refused (with_source g.sources name []) B1 (next_place g)))
    -- its tokens or its grammar are refused
    unread : {g : Gathered} {name t : List ℕ} {code : Code} {span : Span}
        → bytes_visited g + length t ≤ TEXT_LIMIT → Reads g.names (length g.sources) t (refuses (code, span))
        → Visits Gives g name t (refuses (refused (with_source g.sources name t) code span))
    -- one of its imports ends the gathering
    cut_off : {g : Gathered} {name t : List ℕ} {r : Read} {e : EarlyEnd}
        → bytes_visited g + length t ≤ TEXT_LIMIT → Reads g.names (length g.sources) t (accepts r)
        → Along Gives (begun g name t r) r.program.imports (refuses e)
        → Visits Gives g name t (refuses e)
    -- its imports are followed, and its declarations come behind
    whole : {g h : Gathered} {name t : List ℕ} {r : Read}
        → bytes_visited g + length t ≤ TEXT_LIMIT → Reads g.names (length g.sources) t (accepts r)
        → Along Gives (begun g name t r) r.program.imports (accepts h)
        → Visits Gives g name t (accepts (finished name r.program.decs h))

  -- imports, one after the other
  pub data Along (Gives : List ℕ → Fetch → Type 0) : Gathered → List Import → Phase EarlyEnd Gathered → Type 0 where
    none : {g : Gathered} → Along Gives g [] (accepts g)
    next : {g h : Gathered} {x : Import} {xs : List Import} {a : Phase EarlyEnd Gathered}
        → Leads Gives g x (accepts h) → Along Gives h xs a → Along Gives g (x ∷ xs) a
    stop : {g : Gathered} {x : Import} {xs : List Import} {e : EarlyEnd} → Leads Gives g x (refuses e) → Along Gives g (x ∷ xs) (refuses e)

  -- one import
  pub data Leads (Gives : List ℕ → Fetch → Type 0) : Gathered → Import → Phase EarlyEnd Gathered → Type 0 where
    at_once : {g : Gathered} {x : Import} {a : Phase EarlyEnd Gathered} → settled g x ≡ Some a → Leads Gives g x a
    absent : {g : Gathered} {x : Import} → settled g x ≡ None → Gives x.name missing → Leads Gives g x (refused_at g I1 x)
    unfetched : {g : Gathered} {x : Import} → settled g x ≡ None → Gives x.name fault
        → Leads Gives g x (refuses (failed (with_source g.sources x.name [])))
    visit : {g : Gathered} {x : Import} {t : List ℕ} {a : Phase EarlyEnd Gathered}
        → settled g x ≡ None → Gives x.name (text t) → Visits Gives g x.name t a → Leads Gives g x a
