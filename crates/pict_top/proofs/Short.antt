-- The texts that are read are within the limit of a text.
use Rattle.std.proofs.Common.{◌≡◌, ℕ, ◌≤◌, List, [], length, Option, Some, None, IfSome, sym, subst, arith}
use Rattle.std.proofs.lemmas.List.Elements.{All-nil, All-cons, All-push}
use Rattle.std.specs.Prelude.{codes}
use Rattle.std.specs.Borrow.{Bor}
use Rattle.pict_syntax.specs.declared.limits.TheConstants.{TEXT_LIMIT}
use Rattle.pict_syntax.specs.declared.source.Source.{Source}
use Rattle.pict_syntax.specs.declared.tree.Import.{Import}
use Rattle.pict_syntax.specs.Stops.{Stop}
use Rattle.pict_gather.specs.Phases.{Phase, accepts, refuses}
use Rattle.pict_gather.specs.Fetching.{Fetch}
use Rattle.pict_gather.specs.Gathered.{Gathered, EarlyEnd, refused, failed, with_source, settled, Visits, too_long, unread, cut_off, whole, Along, none, next, stop, Leads, at_once, absent, unfetched, visit}
use Rattle.pict_gather.specs.Reached.{Reached, Absent, Gathering, first_source, Gathers, bare, unread_prelude, behind_prelude, Reaches, not_there, unfetched_file, there}
use Rattle.pict_gather.specs.Entry.{lent}
use Rattle.pict_gather.proofs.Growing.{AtImport, settled_at_import}
use Rattle.pict_front.specs.Front.{Front, Accepted, with_texts, IsFront}
use Rattle.pict_report.specs.Reports.{AreShort}

abbrev IsShort : List ℕ → Type 0
IsShort t = length t ≤ TEXT_LIMIT

abbrev Fits : Source → Type 0
Fits s = length s.text ≤ TEXT_LIMIT

one_more : (sources : List Source) (name t : List ℕ) → IsShort t → AreShort sources → AreShort (with_source sources name t)
one_more sources name t few short = All-push Fits sources (record { name = name; text = t }) short few

first_short : (t : List ℕ) → IsShort t → AreShort (first_source t)
first_short t few = All-cons Fits (record { name = codes "prelude"; text = t }) [] few (All-nil Fits)

-- ---- the texts that were read, whatever that came to

abbrev EndShort : EarlyEnd → Type 0
EndShort (refused sources code span) = AreShort sources
EndShort (failed sources) = Unit {0}

abbrev Short : Phase EarlyEnd Gathered → Type 0
Short (accepts h) = AreShort h.sources
Short (refuses e) = EndShort e

at_once_short : (g : Gathered) (x : Import) (a : Phase EarlyEnd Gathered) → settled g x ≡ Some a → AreShort g.sources → Short a
at_once_short g x (accepts h) e s = subst (λ k. AreShort k.sources) (subst (AtImport g x) e (settled_at_import g x)) s
at_once_short g x (refuses (refused sources code span)) e s = subst AreShort (subst (AtImport g x) e (settled_at_import g x)).0 s
at_once_short g x (refuses (failed sources)) e s = tt

module _ (G : List ℕ → Fetch → Type 0) where
  mutual
    visits_short : {g : Gathered} {name t : List ℕ} {a : Phase EarlyEnd Gathered} → Visits G g name t a → AreShort g.sources → Short a
    visits_short {g = g} {name = name} (too_long l) s = one_more g.sources name [] (omega arith) s
    visits_short {g = g} {name = name} {t = t} (unread l r) s = one_more g.sources name t (omega (arith, l)) s
    visits_short {g = g} {name = name} {t = t} (cut_off l r f) s = along_short f (one_more g.sources name t (omega (arith, l)) s)
    visits_short {g = g} {name = name} {t = t} (whole l r f) s = along_short f (one_more g.sources name t (omega (arith, l)) s)

    along_short : {g : Gathered} {xs : List Import} {a : Phase EarlyEnd Gathered} → Along G g xs a → AreShort g.sources → Short a
    along_short none s = s
    along_short (next l f) s = along_short f (leads_short l s)
    along_short (stop l) s = leads_short l s

    leads_short : {g : Gathered} {x : Import} {a : Phase EarlyEnd Gathered} → Leads G g x a → AreShort g.sources → Short a
    leads_short {g = g} {x = x} {a = a} (at_once e) s = at_once_short g x a e s
    leads_short (absent e m) s = s
    leads_short (unfetched e m) s = tt
    leads_short (visit e m v) s = visits_short v s

  gathers_short : (prelude : Option (List ℕ)) (file t : List ℕ) (a : Phase EarlyEnd Gathered) → IfSome prelude IsShort → Gathers G prelude file t a → Short a
  gathers_short None file t a few (bare v) = visits_short v (first_short [] (omega arith))
  gathers_short (Some p) file t a few (unread_prelude r) = first_short p few
  gathers_short (Some p) file t a few (behind_prelude r v) = visits_short v (first_short p few)

  abbrev ReachedShort : Reached → Type 0
  ReachedShort Absent = Unit {0}
  ReachedShort (Gathering a) = Short a

  reaches_short : (prelude : Option (List ℕ)) (file : List ℕ) (r : Reached) → IfSome prelude IsShort → Reaches G prelude file r → ReachedShort r
  reaches_short prelude file r few (not_there m) = tt
  reaches_short prelude file r few (unfetched_file m) = tt
  reaches_short prelude file r few (there {t = t} m f) = gathers_short prelude file t _ few f

-- ---- all phases

abbrev pub FrontShort : Phase EarlyEnd Accepted → Type 0
FrontShort (accepts a) = AreShort a.sources
FrontShort (refuses e) = EndShort e

texts_short : (sources : List Source) (said : Phase Stop Front) → AreShort sources → FrontShort (with_texts sources said)
texts_short sources (accepts f) s = s
texts_short sources (refuses (code, span)) s = s

module _ (G : List ℕ → Fetch → Type 0) (prelude : Option (List ℕ)) (file : List ℕ) where
  short_by : (answer : Phase EarlyEnd Accepted) → IfSome prelude IsShort → IsFront G prelude file (Some answer) → FrontShort answer
  short_by answer few (accepts g, reaches, (said, judged, is)) = subst FrontShort (sym is) (texts_short g.sources said (reaches_short G prelude file (Gathering (accepts g)) few reaches))
  short_by answer few (refuses e, reaches, is) = subst FrontShort (sym is) (reaches_short G prelude file (Gathering (refuses e)) few reaches)

lent_short : (prelude : Option (Bor (List ℕ))) → IfSome prelude (λ bytes. length bytes.now ≤ TEXT_LIMIT) → IfSome (lent prelude) IsShort
lent_short None few = tt
lent_short (Some bytes) few = few

-- the texts of an answer of the front
pub front_short : (G : List ℕ → Fetch → Type 0) (prelude : Option (Bor (List ℕ))) (file : List ℕ) (answer : Phase EarlyEnd Accepted)
    → IfSome prelude (λ bytes. length bytes.now ≤ TEXT_LIMIT) → IsFront G (lent prelude) file (Some answer) → FrontShort answer
front_short G prelude file answer few = short_by G (lent prelude) file answer (lent_short prelude few)
