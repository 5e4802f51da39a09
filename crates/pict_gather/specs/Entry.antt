-- What the answers on a file say.
use Rattle.std.specs.Prelude.{◌≡◌, ◌≤◌, ℕ, List, [], length, Option, Some, None, Result, Ok, Err}
use Rattle.std.specs.Option.{option_map}
use Rattle.std.specs.Borrow.{Bor}
use Rattle.pict_syntax.specs.declared.limits.TheConstants.{TEXT_LIMIT}
use Rattle.pict_syntax.specs.declared.code.Code.TheVariants.{I1}
use Rattle.pict_syntax.specs.declared.source.Source.{Source}
use Rattle.pict_syntax.specs.declared.source.Sources.{Sources}
use Rattle.pict_syntax.specs.declared.tree.Import.{Import}
use Rattle.pict_syntax.specs.Trees.{Decs, no_decs}
use Rattle.pict_syntax.specs.PlainTrees.{decs_on}
use Rattle.pict_outside.specs.Texts.{Texts}
use Rattle.pict_outside.specs.Counts.{Rose}
use Rattle.pict_gather.specs.declared.gathering.Gathering.{Gathering}
use Rattle.pict_gather.specs.declared.error.ReadError.{ReadError}
use Rattle.pict_gather.specs.declared.error.ReadError.TheVariants as read
use Rattle.pict_gather.specs.declared.error.GatherError.{GatherError}
use Rattle.pict_gather.specs.declared.error.GatherError.TheVariants.{Named, Missing, Failed, Memory}
use Rattle.pict_gather.specs.declared.entry.Asked.{Asked}
use Rattle.pict_gather.specs.declared.entry.Asked.TheVariants as asked
use Rattle.pict_gather.specs.Phases.{accepts, refuses}
use Rattle.pict_gather.specs.Reading.{Reads}
use Rattle.pict_gather.specs.Fetching.{Fetch, text, missing, MayGive, MayGiveOrFail}
use Rattle.pict_gather.specs.Found.{IsTooLong}
use Rattle.pict_gather.specs.Gathered.{refused, failed, with_source}
use Rattle.pict_gather.specs.Kept.{gathered_in}
use Rattle.pict_gather.specs.Reached.{Reached, Absent, Gathering as gathering}

-- the bytes of a prelude that is lent
abbrev pub lent : Option (Bor (List ℕ)) → Option (List ℕ)
lent prelude = option_map (λ bytes. bytes.now) prelude

-- what an answer says, with the texts afterwards; nothing where memory ran out
abbrev pub reached : Result Gathering GatherError → Sources → Option Reached
reached (Ok g) s = Some (gathering (accepts (gathered_in s g)))
reached (Err (Named code span)) s = Some (gathering (refuses (refused s.list.items code span)))
reached (Err Missing) s = Some Absent
reached (Err Failed) s = Some (gathering (refuses (failed s.list.items)))
reached (Err Memory) s = None

-- what the shelf may have given: a fault only where the answer is one
abbrev pub gives_entry : Result Gathering GatherError → Option Texts → List ℕ → Fetch → Type 0
gives_entry (Err Failed) held = MayGiveOrFail held
gives_entry result held = MayGive held

-- what the shelf gave for the file
abbrev pub IsAsked : Option Texts → List ℕ → Asked → Type 0
IsAsked held file (asked.Text t) = (length t.items ≤ TEXT_LIMIT) × MayGive held file (text t.items)
IsAsked held file asked.TooLong = IsTooLong held file TEXT_LIMIT

-- it gave nothing, and these are the texts before and afterwards
abbrev pub IsUnasked : Option Texts → List ℕ → List ℕ → List Source → List Source → GatherError → Type 0
IsUnasked held file name old new (Named code span) = ⊥
IsUnasked held file name old new Missing = MayGive held file missing
IsUnasked held file name old new Failed = new ≡ with_source old name []
IsUnasked held file name old new Memory = Unit {0}

-- the names and the declarations of a prelude, or none
abbrev pub IsReadFirst : Option (List ℕ) → List (List ℕ) → Decs → Type 0
IsReadFirst None names ds = (names ≡ []) × (ds ≡ no_decs)
IsReadFirst (Some p) names ds = (imports : List Import) × Reads [] 0 p (accepts (record { names = names; program = record { imports = imports; decs = ds } }))

-- the prelude was read, and nothing was visited
pub record IsOpened (prelude : Option (List ℕ)) (g : Gathering) : Type 0 where
  pub ended : g.ended.items ≡ []
  pub left : g.left ≡ TEXT_LIMIT
  pub few : length g.names ≤ TEXT_LIMIT
  pub first : IsReadFirst prelude g.names (decs_on no_decs g.decs.items)

-- the prelude is refused
abbrev pub IsUnopened : Option (List ℕ) → ReadError → Type 0
IsUnopened (Some p) (read.Named code span) = Reads [] 0 p (refuses (code, span))
IsUnopened None (read.Named code span) = ⊥
IsUnopened prelude read.Memory = Unit {0}

-- the text of an import is absent only where the shelf missed one
abbrev pub MissedInFile : ℕ → ℕ → GatherError → Type 0
MissedInFile before now (Named I1 span) = Rose before now
MissedInFile before now error = Unit {0}
