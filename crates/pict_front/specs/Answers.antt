-- What the answers of the calls say of the phases.
use Rattle.std.specs.Prelude.{ℕ, List, Option, Some, None, Result, Ok, Err}
use Rattle.std.specs.Prelude.{Vec}
use Rattle.std.specs.declared.alloc.Global.{Global}
use Rattle.pict_syntax.specs.declared.code.Code.TheVariants.{C1, I1}
use Rattle.pict_syntax.specs.declared.source.Source.{Source}
use Rattle.pict_syntax.specs.declared.source.Sources.{Sources}
use Rattle.pict_syntax.specs.Trees.{Decs, no_decs}
use Rattle.pict_syntax.specs.PlainTrees.{decs_on}
use Rattle.pict_syntax.specs.declared.tree.Dec.{Dec as RDec}
use Rattle.pict_syntax.specs.Stops.{Stop}
use Rattle.pict_outside.specs.Texts.{Texts}
use Rattle.pict_outside.specs.Counts.{Rose}
use Rattle.pict_gather.specs.declared.error.GatherError.{GatherError}
use Rattle.pict_gather.specs.declared.error.GatherError.TheVariants as gather
use Rattle.pict_gather.specs.Phases.{Phase, accepts, refuses}
use Rattle.pict_gather.specs.Places.{StandsIn}
use Rattle.pict_gather.specs.Fetching.{Fetch, MayGive, MayGiveOrFail}
use Rattle.pict_gather.specs.Gathered.{EarlyEnd, refused, failed}
use Rattle.pict_scope.specs.declared.error.ScopeError.{ScopeError}
use Rattle.pict_scope.specs.declared.error.ScopeError.TheVariants as scope
use Rattle.pict_check.specs.declared.error.TypeError.{TypeError}
use Rattle.pict_check.specs.declared.error.TypeError.TheVariants as check
use Rattle.pict_derive.specs.declared.whole.DeriveError.{DeriveError}
use Rattle.pict_derive.specs.declared.whole.DeriveError.TheVariants as derive
use Rattle.pict_core.specs.Plain.{plain_core}
use Rattle.pict_front.specs.declared.refusal.Refusal.{Refusal}
use Rattle.pict_front.specs.declared.refusal.Refusal.TheVariants.{Named, Memory}
use Rattle.pict_front.specs.declared.refusal.FrontError.{FrontError}
use Rattle.pict_front.specs.declared.refusal.FrontError.TheVariants as front
use Rattle.pict_front.specs.declared.accepted.Front.{Front as RFront}
use Rattle.pict_front.specs.Front.{Front, Accepted, first_place}

abbrev pub of_scope_error : ScopeError → Refusal
of_scope_error (scope.Named code span) = Named code span
of_scope_error scope.Memory = Memory

abbrev pub of_type_error : TypeError → Refusal
of_type_error (check.Named code span told) = Named code span
of_type_error check.Memory = Memory

-- a process that is too deep is refused at the first byte of the file
abbrev pub of_derive_error : DeriveError → Refusal
of_derive_error (derive.TooDeep depth) = Named C1 first_place
of_derive_error derive.Memory = Memory

-- what an answer says: what was accepted, or the refusal; nothing where memory ran out
abbrev pub said_by : {A B : Type 0} → (A → B) → Result A Refusal → Option (Phase Stop B)
said_by f (Ok x) = Some (accepts (f x))
said_by f (Err (Named code span)) = Some (refuses (code, span))
said_by f (Err Memory) = None

-- the declarations that are answered
abbrev pub plain_decs : Vec RDec Global → Decs
plain_decs ds = decs_on no_decs ds.items

-- the core process that is answered, with its names
abbrev pub plain_front : RFront → Front
plain_front f = record { names = f.names; core = plain_core f.core }

-- the phases behind the grammar refuse
abbrev pub of_refusal : Refusal → FrontError
of_refusal (Named code span) = front.Named code span
of_refusal Memory = front.Memory

-- the texts are not gathered
abbrev pub of_gather_error : GatherError → FrontError
of_gather_error (gather.Named code span) = front.Named code span
of_gather_error gather.Missing = front.Missing
of_gather_error gather.Failed = front.Failed
of_gather_error gather.Memory = front.Memory

-- what an answer on a file says, with the texts afterwards: that there is no such file, or what was accepted, or how that ended;
-- nothing where memory ran out
abbrev pub fronted : Result RFront FrontError → Sources → Option (Option (Phase EarlyEnd Accepted))
fronted (Ok f) s = Some (Some (accepts (record { sources = s.list.items; front = plain_front f })))
fronted (Err (front.Named code span)) s = Some (Some (refuses (refused s.list.items code span)))
fronted (Err front.Missing) s = Some None
fronted (Err front.Failed) s = Some (Some (refuses (failed s.list.items)))
fronted (Err front.Memory) s = None

-- what the shelf may have given: a fault only where the answer is one
abbrev pub gives_front : Result RFront FrontError → Option Texts → List ℕ → Fetch → Type 0
gives_front (Err front.Failed) held = MayGiveOrFail held
gives_front result held = MayGive held

-- the place of a refusal lies in the text whose number it has
abbrev pub RefusalStandsIn : List Source → FrontError → Type 0
RefusalStandsIn sources (front.Named code span) = StandsIn sources span
RefusalStandsIn sources error = Unit {0}

-- the text of an import is absent only where the shelf missed one
abbrev pub MissedInFront : ℕ → ℕ → FrontError → Type 0
MissedInFront before now (front.Named I1 span) = Rose before now
MissedInFront before now error = Unit {0}
