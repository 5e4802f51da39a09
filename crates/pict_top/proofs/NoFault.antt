-- Where no fault is given, gathering never says that the shelf failed.
use Rattle.std.proofs.Common.{if◌then◌else◌, ℕ, Bool, true, false, not, nat_le, List, length, Option, Some, None, subst, sym}
use Rattle.pict_syntax.specs.declared.limits.TheConstants.{SOURCE_LIMIT}
use Rattle.pict_syntax.specs.declared.code.Code.TheVariants.{I2, I3, I4}
use Rattle.pict_syntax.specs.declared.source.Source.{Source}
use Rattle.pict_syntax.specs.declared.tree.Import.{Import}
use Rattle.pict_syntax.specs.Stops.{Stop}
use Rattle.pict_gather.specs.Phases.{Phase, accepts, refuses}
use Rattle.pict_gather.specs.Sources.{visited, is_name_of, is_among}
use Rattle.pict_gather.specs.Fetching.{Fetch, fault}
use Rattle.pict_gather.specs.Gathered.{Gathered, EarlyEnd, refused, failed, is_import_name, refused_at, settled, Visits, too_long, unread, cut_off, whole, Along, none, next, stop, Leads, at_once, absent, unfetched, visit}
use Rattle.pict_gather.specs.Reached.{Reached, Absent, Gathering, Gathers, bare, unread_prelude, behind_prelude, Reaches, not_there, unfetched_file, there}
use Rattle.pict_front.specs.Front.{Front, Accepted, with_texts, IsFront}

abbrev Unfailed : {A : Type 0} → Phase EarlyEnd A → Type 0
Unfailed (refuses (failed sources)) = ⊥
Unfailed _ = Unit {0}

-- ---- what is settled at once

abbrev UnfailedIf : Option (Phase EarlyEnd Gathered) → Type 0
UnfailedIf None = Unit {0}
UnfailedIf (Some a) = Unfailed a

by_tests : (g : Gathered) (x : Import) (bad over being full : Bool)
    → UnfailedIf (if bad then Some (refused_at g I4 x) else if over then Some (accepts g) else if being then Some (refused_at g I2 x) else if full then Some (refused_at g I3 x) else None)
by_tests g x true over being full = tt
by_tests g x false true being full = tt
by_tests g x false false true full = tt
by_tests g x false false false true = tt
by_tests g x false false false false = tt

settled_unfailed : (g : Gathered) (x : Import) → UnfailedIf (settled g x)
settled_unfailed g x = by_tests g x (not (is_import_name x.name)) (is_among x.name g.ended) (is_name_of x.name (visited g.sources)) (nat_le SOURCE_LIMIT (length (visited g.sources)))

-- ---- all that is gathered

module _ (G : List ℕ → Fetch → Type 0) (no_fault : (name : List ℕ) → G name fault → ⊥) where
  mutual
    visits_unfailed : {g : Gathered} {name t : List ℕ} {a : Phase EarlyEnd Gathered} → Visits G g name t a → Unfailed a
    visits_unfailed (too_long l) = tt
    visits_unfailed (unread l r) = tt
    visits_unfailed (cut_off l r f) = along_unfailed f
    visits_unfailed (whole l r f) = tt

    along_unfailed : {g : Gathered} {xs : List Import} {a : Phase EarlyEnd Gathered} → Along G g xs a → Unfailed a
    along_unfailed none = tt
    along_unfailed (next l f) = along_unfailed f
    along_unfailed (stop l) = leads_unfailed l

    leads_unfailed : {g : Gathered} {x : Import} {a : Phase EarlyEnd Gathered} → Leads G g x a → Unfailed a
    leads_unfailed {g = g} {x = x} {a = a} (at_once e) = subst UnfailedIf e (settled_unfailed g x)
    leads_unfailed (absent e m) = tt
    leads_unfailed {x = x} (unfetched e m) = absurd (no_fault x.name m)
    leads_unfailed (visit e m v) = visits_unfailed v

  gathers_unfailed : (prelude : Option (List ℕ)) (file t : List ℕ) (a : Phase EarlyEnd Gathered) → Gathers G prelude file t a → Unfailed a
  gathers_unfailed None file t a (bare v) = visits_unfailed v
  gathers_unfailed (Some p) file t a (unread_prelude r) = tt
  gathers_unfailed (Some p) file t a (behind_prelude r v) = visits_unfailed v

  abbrev ReachedUnfailed : Reached → Type 0
  ReachedUnfailed Absent = Unit {0}
  ReachedUnfailed (Gathering a) = Unfailed a

  reaches_unfailed : (prelude : Option (List ℕ)) (file : List ℕ) (r : Reached) → Reaches G prelude file r → ReachedUnfailed r
  reaches_unfailed prelude file r (not_there m) = tt
  reaches_unfailed prelude file r (unfetched_file m) = absurd (no_fault file m)
  reaches_unfailed prelude file r (there {t = t} m f) = gathers_unfailed prelude file t _ f

  texts_unfailed : (sources : List Source) (said : Phase Stop Front) → Unfailed (with_texts sources said)
  texts_unfailed sources (accepts f) = tt
  texts_unfailed sources (refuses (code, span)) = tt

  end_unfailed : (e : EarlyEnd) → Unfailed {A = Gathered} (refuses e) → Unfailed {A = Accepted} (refuses e)
  end_unfailed (refused sources code span) u = tt
  end_unfailed (failed sources) u = u

  pub front_unfailed : (prelude : Option (List ℕ)) (file : List ℕ) (answer : Phase EarlyEnd Accepted) → IsFront G prelude file (Some answer) → Unfailed answer
  front_unfailed prelude file answer (accepts g, reaches, (said, judged, is)) = subst Unfailed (sym is) (texts_unfailed g.sources said)
  front_unfailed prelude file answer (refuses e, reaches, is) = subst Unfailed (sym is) (end_unfailed e (reaches_unfailed prelude file (Gathering (refuses e)) reaches))
