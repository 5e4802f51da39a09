-- The laws of the codes of the phases before a run.
use Rattle.std.specs.Prelude.{ℕ, List, Option, Some}
use Rattle.pict_syntax.specs.declared.code.Code.{Code}
use Rattle.pict_syntax.specs.declared.source.Source.{Source}
use Rattle.pict_syntax.specs.declared.span.Span.{Span}
use Rattle.pict_outside.specs.Texts.{Texts}
use Rattle.pict_gather.specs.Phases.{refuses}
use Rattle.pict_gather.specs.Fetching.{MayGive}
use Rattle.pict_gather.specs.Gathered.{refused}
use Rattle.pict_gather.specs.Reached.{Gathering, Reaches}
use Rattle.pict_front.specs.Front.{IsFront}
use Rattle.pict_codes.specs.Codes.{IsOneOf}
use Rattle.pict_refused.specs.Codes.{gathering_codes, front_codes}

-- the texts that a file reaches, over any shelf, are refused with codes of gathering
abbrev pub GatheringCodes : Type 0
GatheringCodes = (held : Option Texts) (prelude : Option (List ℕ)) (file : List ℕ) (sources : List Source) (c : Code) (i : Span)
    → Reaches (MayGive held) prelude file (Gathering (refuses (refused sources c i))) → IsOneOf gathering_codes c

-- and all phases before a run refuse with those, or with codes of scopes, of types, or for the depth of the process
abbrev pub FrontCodes : Type 0
FrontCodes = (held : Option Texts) (prelude : Option (List ℕ)) (file : List ℕ) (sources : List Source) (c : Code) (i : Span)
    → IsFront (MayGive held) prelude file (Some (refuses (refused sources c i))) → IsOneOf front_codes c
