-- The laws of the phases before a run.
use Rattle.std.specs.Prelude.{◌≡◌, ℕ, ◌≤◌, List, Option, Some, None}
use Rattle.std.specs.List.{AllByRecursion}
use Rattle.pict_syntax.specs.declared.limits.TheConstants.{DEPTH_LIMIT}
use Rattle.pict_syntax.specs.Names.{HasNoRepeats}
use Rattle.pict_syntax.specs.Trees.{Decs}
use Rattle.pict_scope.specs.Scopes.{scope_stop}
use Rattle.pict_rules.specs.Derivations.{IsTyped}
use Rattle.pict_core.specs.Term.{depth_of}
use Rattle.pict_core.specs.Configuration.{Configuration, opening}
use Rattle.pict_core.specs.Step.{Label}
use Rattle.pict_core.specs.Run.{Reaches}
use Rattle.pict_object.specs.Cores.{IsObjectCore}
use Rattle.pict_trace.specs.Lines.{lines_text}
use Rattle.pict_trace.specs.Readable.{IsLines}
use Rattle.pict_trace.specs.Ordered.{IsOrderedProcess, FitsLine}
use Rattle.pict_translation.specs.Translation.{program_core}
use Rattle.pict_syntax.specs.declared.code.Code.{Code}
use Rattle.pict_syntax.specs.declared.span.Span.{Span}
use Rattle.pict_syntax.specs.declared.source.Source.{Source}
use Rattle.pict_outside.specs.Texts.{Texts}
use Rattle.pict_gather.specs.Phases.{accepts, refuses, Exactly}
use Rattle.pict_gather.specs.Places.{StandsIn}
use Rattle.pict_gather.specs.Fetching.{MayGive}
use Rattle.pict_gather.specs.Gathered.{refused}
use Rattle.pict_front.specs.Front.{Front, Accepted, IsFront}

-- over a shelf that tells its texts a file, behind a prelude or none, has exactly one answer: it is missing, or refused at one place
-- with one code, or has one core process
abbrev pub OneFront : Type 0
OneFront = (texts : Texts) (prelude : Option (List ℕ)) (file : List ℕ) → Exactly (IsFront (MayGive (Some texts)) prelude file)

-- over any shelf the place of each refusal lies in the text whose number it has: the file, a text that it reaches, or the prelude
abbrev pub RefusedIsPlaced : Type 0
RefusedIsPlaced = (held : Option Texts) (prelude : Option (List ℕ)) (file : List ℕ) (sources : List Source) (code : Code) (span : Span)
    → IsFront (MayGive held) prelude file (Some (refuses (refused sources code span))) → StandsIn sources span

-- a core process comes from declarations in which no rule of scopes fails, that are typed, and of which it is the translation
pub record IsAccepted (f : Front) : Type 0 where
  pub program : Decs
  pub scoped : scope_stop f.names program ≡ None
  pub typed : IsTyped f.names program
  pub core : f.core ≡ program_core f.names program
  pub shallow : depth_of f.core ≤ DEPTH_LIMIT

-- each accepted file is such a program
abbrev pub AcceptedIsTyped : Type 0
AcceptedIsTyped = (held : Option Texts) (prelude : Option (List ℕ)) (file : List ℕ) (a : Accepted) → IsFront (MayGive held) prelude file (Some (accepts a)) → IsAccepted a.front

-- no name of an accepted file stands twice, and in its core process the records have identifiers as labels, in the order of
-- their bytes and so distinct
abbrev pub AcceptedIsOrdered : Type 0
AcceptedIsOrdered = (held : Option Texts) (prelude : Option (List ℕ)) (file : List ℕ) (a : Accepted)
    → IsFront (MayGive held) prelude file (Some (accepts a)) → HasNoRepeats a.front.names × IsOrderedProcess a.front.names a.front.core

-- its core process meets the bounds of objects, so it has one
abbrev pub AcceptedHasObject : Type 0
AcceptedHasObject = (held : Option Texts) (prelude : Option (List ℕ)) (file : List ℕ) (a : Accepted)
    → IsFront (MayGive held) prelude file (Some (accepts a)) → IsObjectCore a.front.names a.front.core

-- what its run writes, where numbers and nesting fit, is read back as the labels of its steps and as nothing else
abbrev pub AcceptedIsReadBack : Type 0
AcceptedIsReadBack = (held : Option Texts) (prelude : Option (List ℕ)) (file : List ℕ) (a : Accepted) (n : ℕ) (labels : List (ℕ × Label)) (C : Configuration)
    → IsFront (MayGive held) prelude file (Some (accepts a)) → let f = a.front in Reaches n (opening f.core) labels C → AllByRecursion FitsLine labels
    → IsLines f.names (lines_text f.names labels) labels × ((others : List (ℕ × Label)) → IsLines f.names (lines_text f.names labels) others → others ≡ labels)
