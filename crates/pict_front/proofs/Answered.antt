-- What gathering and the phases behind the grammar answer is what all phases say of a file.
use Rattle.std.proofs.Common.{ℕ, List, Option, Some, Err, IfSome, refl}
use Rattle.pict_syntax.specs.declared.code.Code.{Code}
use Rattle.pict_syntax.specs.declared.code.Code.TheVariants.{I1}
use Rattle.pict_syntax.specs.declared.source.Sources.{Sources}
use Rattle.pict_syntax.specs.declared.span.Span.{Span}
use Rattle.pict_outside.specs.Texts.{Texts}
use Rattle.pict_gather.specs.declared.error.GatherError.{GatherError}
use Rattle.pict_gather.specs.declared.error.GatherError.TheVariants as gather
use Rattle.pict_gather.specs.declared.gathering.Gathering.{Gathering as RGathering}
use Rattle.pict_gather.specs.Phases.{accepts, refuses}
use Rattle.pict_gather.specs.Fetching.{MayGive}
use Rattle.pict_gather.specs.Gathered.{refused, failed}
use Rattle.pict_gather.specs.Reached.{Gathering, Reaches}
use Rattle.pict_gather.specs.Kept.{gathered_in}
use Rattle.pict_gather.specs.Entry.{reached, gives_entry, MissedInFile}
use Rattle.pict_front.specs.declared.accepted.Front.{Front as RFront}
use Rattle.pict_front.specs.declared.refusal.Refusal.{Refusal}
use Rattle.pict_front.specs.declared.refusal.Refusal.TheVariants.{Named, Memory}
use Rattle.pict_front.specs.declared.refusal.FrontError.{FrontError}
use Rattle.pict_front.specs.declared.refusal.FrontError.TheVariants as front
use Rattle.pict_front.specs.Front.{Judges, IsFront}
use Rattle.pict_front.specs.Laws.{IsAccepted}
use Rattle.pict_front.specs.Answers.{RefusalStandsIn, MissedInFront, fronted, gives_front, of_gather_error, of_refusal, plain_decs, plain_front, said_by}
use Rattle.pict_front.proofs.Standing.{IsNoAbsence}
use Rattle.pict_front.proofs.Placed.{gathered_placed, refused_is_placed}
use Rattle.pict_front.proofs.TypedPrograms.{accepted_is_typed}

module _ (held : Option Texts) (prelude : Option (List ℕ)) (file : List ℕ) where
  -- the texts are not gathered
  pub not_gathered : (s : Sources) (e : GatherError) → IfSome (reached (Err e) s) (Reaches (gives_entry (Err e) held) prelude file)
      → IfSome (fronted (Err (of_gather_error e)) s) (IsFront (gives_front (Err (of_gather_error e)) held) prelude file)
  not_gathered s (gather.Named code span) r = (refuses (refused s.list.items code span), r, refl)
  not_gathered s gather.Missing r = r
  not_gathered s gather.Failed r = (refuses (failed s.list.items), r, refl)
  not_gathered s gather.Memory r = tt

  -- they are, and this is what the phases behind the grammar say
  pub judged_behind : (s : Sources) (g : RGathering) (f : RFront) → Reaches (MayGive held) prelude file (Gathering (accepts (gathered_in s g)))
      → Judges g.names (plain_decs g.decs) (accepts (plain_front f)) → IsFront (MayGive held) prelude file (Some (accepts (record { sources = s.list.items; front = plain_front f })))
  judged_behind s g f r judges = (accepts (gathered_in s g), r, (accepts (plain_front f), judges, refl))

  pub refused_behind : (s : Sources) (g : RGathering) (e : Refusal) → Reaches (MayGive held) prelude file (Gathering (accepts (gathered_in s g)))
      → IfSome (said_by plain_front (Err e)) (Judges g.names (plain_decs g.decs)) → IfSome (fronted (Err (of_refusal e)) s) (IsFront (gives_front (Err (of_refusal e)) held) prelude file)
  refused_behind s g (Named code span) r judges = (accepts (gathered_in s g), r, (refuses (code, span), judges, refl))
  refused_behind s g Memory r judges = tt

  -- an answer's refusal is placed
  pub placed : (s : Sources) (e : FrontError) → IfSome (fronted (Err e) s) (IsFront (gives_front (Err e) held) prelude file) → RefusalStandsIn s.list.items e
  placed s (front.Named code span) h = refused_is_placed held prelude file s.list.items code span h
  placed s front.Missing h = tt
  placed s front.Failed h = tt
  placed s front.Memory h = tt

  -- an answer's core process comes from a typed program
  pub accepted : (s : Sources) (f : RFront) → IsFront (MayGive held) prelude file (Some (accepts (record { sources = s.list.items; front = plain_front f }))) → IsAccepted (plain_front f)
  accepted s f h = accepted_is_typed held prelude file (record { sources = s.list.items; front = plain_front f }) h

-- ---- the text of an import is absent only where the shelf missed one

pub import_missed : (before now : ℕ) (e : GatherError) → MissedInFile before now e → MissedInFront before now (of_gather_error e)
import_missed before now (gather.Named I1 span) h = h
import_missed before now (gather.Named code span) h = tt
import_missed before now gather.Missing h = tt
import_missed before now gather.Failed h = tt
import_missed before now gather.Memory h = tt

none_missed : (before now : ℕ) (code : Code) (span : Span) → IsNoAbsence code → MissedInFront before now (front.Named code span)
none_missed before now I1 span allowed = absurd allowed
none_missed before now code span allowed = tt

-- the phases behind the grammar say of nothing that it is absent
pub nothing_missed : (before now : ℕ) (held : Option Texts) (prelude : Option (List ℕ)) (file : List ℕ) (s : Sources) (g : RGathering) (e : Refusal)
    → Reaches (MayGive held) prelude file (Gathering (accepts (gathered_in s g))) → IfSome (said_by plain_front (Err e)) (Judges g.names (plain_decs g.decs))
    → MissedInFront before now (of_refusal e)
nothing_missed before now held prelude file s g (Named code span) r judges =
    none_missed before now code span (gathered_placed held prelude file (gathered_in s g) r code span judges).0
nothing_missed before now held prelude file s g Memory r judges = tt
