-- What an answer says where each text is there that the shelf is asked for: a text is absent only where that is what is refused.
use Rattle.std.proofs.Common.{◌≡◌, ◌⊎◌, inl, inr, ℕ, List, Option, Some, None, subst}
use Rattle.pict_outside.specs.Texts.{Texts}
use Rattle.pict_outside.specs.Counts.{Rose}
use Rattle.pict_syntax.specs.declared.code.Code.{Code}
use Rattle.pict_syntax.specs.declared.code.Code.TheVariants.{I1}
use Rattle.pict_syntax.specs.declared.source.Source.{Source}
use Rattle.pict_syntax.specs.declared.span.Span.{Span}
use Rattle.pict_syntax.specs.declared.tree.Import.{Import}
use Rattle.pict_gather.specs.Phases.{Phase, accepts, refuses}
use Rattle.pict_gather.specs.Fetching.{MayGive}
use Rattle.pict_gather.specs.Gathered.{Gathered, EarlyEnd, refused, Visits, too_long, unread, cut_off, whole, Along, none, next, stop, Leads, at_once, absent, unfetched, visit}
use Rattle.pict_gather.specs.Reached.{Reached, Absent, Gathering, Gathers, bare, unread_prelude, behind_prelude, Reaches, not_there, unfetched_file, there}
use Rattle.pict_front.specs.declared.refusal.FrontError.TheVariants.{Named}
use Rattle.pict_front.specs.Answers.{MissedInFront}
use Rattle.pict_front.specs.Front.{Accepted, IsFront}
use Rattle.pict_top.specs.Origins.{MayGiveText}

-- no text is absent
abbrev EndPresent : EarlyEnd → Type 0
EndPresent (refused sources I1 span) = ⊥
EndPresent _ = Unit {0}

abbrev Present : Phase EarlyEnd Gathered → Type 0
Present (accepts g) = Unit {0}
Present (refuses e) = EndPresent e

abbrev ReachedPresent : Reached → Type 0
ReachedPresent Absent = ⊥
ReachedPresent (Gathering a) = Present a

module _ (held : Option Texts) where
  mutual
    visits_each : {g : Gathered} {name t : List ℕ} {a : Phase EarlyEnd Gathered} → Visits (MayGive held) g name t a → Present a → Visits (MayGiveText held) g name t a
    visits_each (too_long l) p = too_long l
    visits_each (unread l r) p = unread l r
    visits_each (cut_off l r f) p = cut_off l r (along_each f p)
    visits_each (whole l r f) p = whole l r (along_each f tt)

    along_each : {g : Gathered} {xs : List Import} {a : Phase EarlyEnd Gathered} → Along (MayGive held) g xs a → Present a → Along (MayGiveText held) g xs a
    along_each none p = none
    along_each (next l f) p = next (leads_each l tt) (along_each f p)
    along_each (stop l) p = stop (leads_each l p)

    leads_each : {g : Gathered} {x : Import} {a : Phase EarlyEnd Gathered} → Leads (MayGive held) g x a → Present a → Leads (MayGiveText held) g x a
    leads_each (at_once e) p = at_once e
    leads_each (absent e m) p = absurd p
    leads_each (unfetched e m) p = absurd m
    leads_each (visit e m v) p = visit e m (visits_each v p)

  gathers_each : (prelude : Option (List ℕ)) (file t : List ℕ) (a : Phase EarlyEnd Gathered) → Gathers (MayGive held) prelude file t a → Present a → Gathers (MayGiveText held) prelude file t a
  gathers_each None file t a (bare v) p = bare (visits_each v p)
  gathers_each (Some prelude) file t a (unread_prelude r) p = unread_prelude r
  gathers_each (Some prelude) file t a (behind_prelude r v) p = behind_prelude r (visits_each v p)

  reaches_each : (prelude : Option (List ℕ)) (file : List ℕ) (r : Reached) → Reaches (MayGive held) prelude file r → ReachedPresent r → Reaches (MayGiveText held) prelude file r
  reaches_each prelude file r (not_there m) p = absurd p
  reaches_each prelude file r (unfetched_file m) p = absurd m
  reaches_each prelude file r (there {t = t} m f) p = there m (gathers_each prelude file t _ f p)

  module _ (prelude : Option (List ℕ)) (file : List ℕ) where
    pub accepted_each : (a : Accepted) → IsFront (MayGive held) prelude file (Some (accepts a)) → IsFront (MayGiveText held) prelude file (Some (accepts a))
    accepted_each a (accepts g, reaches, judged) = (accepts g, reaches_each prelude file (Gathering (accepts g)) reaches tt, judged)
    accepted_each a (refuses e, reaches, is) = absurd cc

    refused_each : (sources : List Source) (code : Code) (span : Span) → EndPresent (refused sources code span) → IsFront (MayGive held) prelude file (Some (refuses (refused sources code span)))
        → IsFront (MayGiveText held) prelude file (Some (refuses (refused sources code span)))
    refused_each sources code span p (accepts g, reaches, judged) = (accepts g, reaches_each prelude file (Gathering (accepts g)) reaches tt, judged)
    refused_each sources code span p (refuses e, reaches, is) =
        let same : refused sources code span ≡ e = cc in
        (refuses e, reaches_each prelude file (Gathering (refuses e)) reaches (subst EndPresent same p), is)

    -- a refusal is one where each text is there, or the shelf missed one
    pub each_or_missed : (before now : ℕ) (sources : List Source) (code : Code) (span : Span) → MissedInFront before now (Named code span)
        → IsFront (MayGive held) prelude file (Some (refuses (refused sources code span))) → IsFront (MayGiveText held) prelude file (Some (refuses (refused sources code span))) ⊎ Rose before now
    each_or_missed before now sources I1 span missed f = inr missed
    each_or_missed before now sources code span missed f = inl (refused_each sources code span tt f)
