-- What the code has gathered, as the definitions see it, and what its answers say.
use Rattle.std.specs.Prelude.{◌≡◌, ◌≤◌, ℕ, ◌+◌, List, length, Option, Some, None, Result, Ok, Err}
use Rattle.pict_syntax.specs.declared.limits.TheConstants.{TEXT_LIMIT}
use Rattle.pict_syntax.specs.declared.code.Code.{Code}
use Rattle.pict_syntax.specs.declared.source.Sources.{Sources}
use Rattle.pict_syntax.specs.declared.span.Span.{Span}
use Rattle.pict_syntax.specs.declared.tree.Program.{Program as RProgram}
use Rattle.pict_syntax.specs.Trees.{no_decs}
use Rattle.pict_syntax.specs.PlainTrees.{decs_on, program_of}
use Rattle.pict_outside.specs.Texts.{Texts}
use Rattle.pict_gather.specs.declared.gathering.Gathering.{Gathering}
use Rattle.pict_gather.specs.declared.error.ReadError.{ReadError}
use Rattle.pict_gather.specs.declared.error.ReadError.TheVariants as read
use Rattle.pict_gather.specs.declared.error.VisitError.{VisitError}
use Rattle.pict_gather.specs.declared.error.VisitError.TheVariants.{Named, Failed, Memory}
use Rattle.pict_gather.specs.Phases.{Phase, accepts, refuses}
use Rattle.pict_gather.specs.Sources.{bytes_in, visited}
use Rattle.pict_gather.specs.Reading.{Reads}
use Rattle.pict_gather.specs.Fetching.{Fetch, MayGive, MayGiveOrFail}
use Rattle.pict_gather.specs.Gathered.{Gathered, EarlyEnd, refused, failed, with_source}

-- the texts, and what was gathered beside them
abbrev pub gathered_in : Sources → Gathering → Gathered
gathered_in s g = record { sources = s.list.items; ended = g.ended.items; names = g.names; decs = decs_on no_decs g.decs.items }

-- what the code keeps from call to call: there is room for the places and the names of what may still come
pub record IsKept (s : Sources) (g : Gathering) : Type 0 where
  pub some : 1 ≤ length s.list.items
  pub few : length s.list.items ≤ 65
  pub left : g.left + bytes_in (visited s.list.items) ≡ TEXT_LIMIT
  pub names : length g.names ≤ TEXT_LIMIT + bytes_in (visited s.list.items)

-- what an answer says, with the texts afterwards; nothing where memory ran out
abbrev pub said_error : VisitError → Sources → Option (Phase EarlyEnd Gathered)
said_error (Named code span) s = Some (refuses (refused s.list.items code span))
said_error Failed s = Some (refuses (failed s.list.items))
said_error Memory s = None

abbrev pub said : {T : Type 0} → Result T VisitError → Sources → Gathering → Option (Phase EarlyEnd Gathered)
said (Ok x) s g = Some (accepts (gathered_in s g))
said (Err e) s g = said_error e s

-- what the shelf may have given: a fault only where the answer is one
abbrev pub gives_error : VisitError → Option Texts → List ℕ → Fetch → Type 0
gives_error (Named code span) held = MayGive held
gives_error Failed held = MayGiveOrFail held
gives_error Memory held = MayGive held

abbrev pub gives_for : {T : Type 0} → Result T VisitError → Option Texts → List ℕ → Fetch → Type 0
gives_for (Ok x) held = MayGive held
gives_for (Err e) held = gives_error e held

-- a text was begun: it is the last of the texts, and these are its program and the names
pub record HasBegun (old : Sources) (g : Gathering) (name t : List ℕ) (p : RProgram) (new : Sources) (h : Gathering) : Type 0 where
  pub sources : new.list.items ≡ with_source old.list.items name t
  pub ended : h.ended.items ≡ g.ended.items
  pub decs : h.decs.items ≡ g.decs.items
  pub kept : IsKept new h
  pub reads : Reads g.names (length old.list.items) t (accepts (record { names = h.names; program = program_of p }))

-- a text is the last of the texts, and refused at this place
pub record IsRefused (old : Sources) (g : Gathering) (name t : List ℕ) (new : Sources) (code : Code) (span : Span) : Type 0 where
  pub sources : new.list.items ≡ with_source old.list.items name t
  pub reads : Reads g.names (length old.list.items) t (refuses (code, span))

-- a text has no program, and this is why
abbrev pub IsUnread : Sources → Gathering → List ℕ → List ℕ → Sources → ReadError → Type 0
IsUnread old g name t new (read.Named code span) = IsRefused old g name t new code span
IsUnread old g name t new read.Memory = Unit {0}
