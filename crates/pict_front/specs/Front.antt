-- What the phases before a run say of a file with the texts that it reaches, behind a prelude where there is one: the refusal by
-- the first rule or limit that fails, with its code and place, or the program's core process. The texts are gathered first, and
-- each phase from scopes on looks at the declarations of all of them.
use Rattle.std.specs.Prelude.{◌≡◌, ◌⊎◌, ℕ, ◌<◌, ◌≤◌, List, Option, Some, None}
use Rattle.pict_syntax.specs.declared.limits.TheConstants.{DEPTH_LIMIT}
use Rattle.pict_syntax.specs.declared.code.Code.TheVariants.{C1}
use Rattle.pict_syntax.specs.declared.source.Source.{Source}
use Rattle.pict_syntax.specs.declared.span.Span.{Span}
use Rattle.pict_syntax.specs.Trees.{Decs}
use Rattle.pict_syntax.specs.Stops.{Stop}
use Rattle.pict_gather.specs.Phases.{Phase, accepts, refuses, Then}
use Rattle.pict_gather.specs.Fetching.{Fetch}
use Rattle.pict_gather.specs.Gathered.{Gathered, EarlyEnd, refused}
use Rattle.pict_gather.specs.Reached.{Absent, Gathering, Reaches}
use Rattle.pict_scope.specs.Scopes.{scope_stop}
use Rattle.pict_rules.specs.Derivations.{IsTyped, IsStuckAt}
use Rattle.pict_core.specs.Term.{Process, depth_of}
use Rattle.pict_translation.specs.Translation.{program_core}

-- a program's core process, and the names whose numbers it has
pub record Front : Type 0 where
  pub names : List (List ℕ)
  pub core : Process

-- the same, with the texts that it is read from
pub record Accepted : Type 0 where
  pub sources : List Source
  pub front : Front

-- the first byte of the file
abbrev pub first_place : Span
first_place = record { text = 1; start = 0; end = 0 }

-- SCOPES: no rule of scopes fails, or a first one does
abbrev pub stopped_by : Option Stop → Phase Stop (Unit {0})
stopped_by None = accepts tt
stopped_by (Some stop) = refuses stop

-- TYPES: the program is typed, or its first false line is at a place
abbrev pub Checks : List (List ℕ) → Decs → Phase Stop (Unit {0}) → Type 0
Checks names p (accepts x) = (x ≡ tt) × IsTyped names p
Checks names p (refuses (code, span)) = IsStuckAt names p code span

-- TRANSLATION: the core process of the program is within the limit of depth, or the file is refused at its first byte
abbrev pub Translates : List (List ℕ) → Decs → Phase Stop Front → Type 0
Translates names p answer =
    ((DEPTH_LIMIT < depth_of (program_core names p)) × (answer ≡ refuses (C1, first_place)))
    ⊎ ((depth_of (program_core names p) ≤ DEPTH_LIMIT) × (answer ≡ accepts (record { names = names; core = program_core names p })))

-- the phases behind the grammar, over the declarations of all texts
abbrev pub Judges : List (List ℕ) → Decs → Phase Stop Front → Type 0
Judges names p =
    Then (λ said. said ≡ stopped_by (scope_stop names p)) (λ scoped.
    Then (Checks names p) (λ typed.
    Translates names p))

-- what these phases say, with the texts
abbrev pub with_texts : List Source → Phase Stop Front → Phase EarlyEnd Accepted
with_texts sources (accepts f) = accepts (record { sources = sources; front = f })
with_texts sources (refuses (code, span)) = refuses (refused sources code span)

abbrev pub JudgesTexts : Gathered → Phase EarlyEnd Accepted → Type 0
JudgesTexts g answer = (said : Phase Stop Front) × Judges g.names g.decs said × (answer ≡ with_texts g.sources said)

-- all phases over a file, where `Gives` says what the shelf gives. There is an answer where there is such a file
abbrev pub IsFront : (List ℕ → Fetch → Type 0) → Option (List ℕ) → List ℕ → Option (Phase EarlyEnd Accepted) → Type 0
IsFront Gives prelude file None = Reaches Gives prelude file Absent
IsFront Gives prelude file (Some answer) = Then (λ said. Reaches Gives prelude file (Gathering said)) JudgesTexts answer
