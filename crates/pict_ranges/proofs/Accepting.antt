-- Each value of the core process of an accepted file is within the ranges of the machine, and what its runs write is read back.
use Rattle.std.proofs.Common.{◌≡◌, ℕ, ◌<◌, ◌^◌, List, [], length, Option, Some, None, sym, ◌∙◌, ap, subst, arith, append-nil}
use Rattle.std.specs.Prelude.{IfSome}
use Rattle.pict_syntax.specs.declared.token.Token.{Token}
use Rattle.pict_syntax.specs.declared.tree.Import.{Import}
use Rattle.pict_syntax.specs.Cuts.{joined_pieces, tokens_of}
use Rattle.pict_syntax.specs.Programs.{Program, programs}
use Rattle.pict_syntax.specs.Trees.{Decs, no_decs, more_decs}
use Rattle.pict_core.specs.Closed.{IsClosed}
use Rattle.pict_core.specs.Configuration.{opening}
use Rattle.pict_gather.specs.Phases.{Phase, accepts, refuses}
use Rattle.pict_gather.specs.Reading.{Read, Reads}
use Rattle.pict_gather.specs.Fetching.{Fetch, MayGive}
use Rattle.pict_gather.specs.Gathered.{Gathered, EarlyEnd, behind, settled, Visits, too_long, unread, cut_off, whole, Along, none, next, stop, Leads, at_once, absent, unfetched, visit}
use Rattle.pict_gather.specs.Reached.{Reached, Absent, Gathering, Gathers, bare, unread_prelude, behind_prelude, Reaches, not_there, unfetched_file, there}
use Rattle.pict_gather.proofs.Growing.{AtImport, settled_at_import}
use Rattle.pict_gather.proofs.Holding.{read_by}
use Rattle.pict_trace.proofs.ReadBack.{free_runs_are_read_back}
use Rattle.pict_front.specs.Front.{Front}
use Rattle.pict_front.proofs.TypedPrograms.{gathered}
use Rattle.pict_front.proofs.InOrder.{accepted_is_ordered}
use Rattle.pict_front.proofs.ObjectCores.{accepted_has_object}
use Rattle.pict_ranges.specs.Ranges.{IsMachineProcess}
use Rattle.pict_ranges.specs.Laws.{AcceptedIsInRange, AcceptedRunsAreReadBack, AcceptedTraceIsReadBack}
use Rattle.pict_ranges.proofs.Running.{free_runs_fit_lines, opening_closed}
use Rattle.pict_ranges.proofs.Oldest.{oldest_runs_are_free}
use Rattle.pict_ranges.proofs.Lengths.{short_lines}
use Rattle.pict_ranges.proofs.Literals.{DecsAre}
use Rattle.pict_ranges.proofs.Tokens.{TokensAre, split, tokens_are, decs_are}
use Rattle.pict_ranges.proofs.Translated.{program_is}

-- ---- one text

program_are : (p : Program) (ts : List Token) → programs.tree ts p → TokensAre ts → DecsAre p.decs
program_are p ts (us, vs, is, imports, decs) h = decs_are p.decs vs decs (split us vs (subst TokensAre (sym is) h)).1

text_is : (names : List (List ℕ)) (n : ℕ) (text : List ℕ) (r : Read) → Reads names n text (accepts r) → length text < 2 ^ 63 → DecsAre r.program.decs
text_is names n text r reads few =
    let by = read_by names n text r reads in
    let same : length text ≡ length (joined_pieces by.0) = ap length (by.1.cut.whole ∙ append-nil (joined_pieces by.0)) in
    program_are r.program (tokens_of r.names n 0 by.0) by.1.parsed.tree (tokens_are r.names n 0 by.0 [] by.1.cut.each (omega (arith, few, same)))

behind_are : (first ds : Decs) → DecsAre first → DecsAre ds → DecsAre (behind first ds)
behind_are first no_decs a b = a
behind_are first (more_decs ds d) a b = (behind_are first ds a b.0, b.1)

-- ---- all texts

module _ (G : List ℕ → Fetch → Type 0) where
  abbrev Held : Phase EarlyEnd Gathered → Type 0
  Held (accepts h) = DecsAre h.decs
  Held (refuses e) = Unit {0}

  held_at_once : (g : Gathered) (x : Import) (a : Phase EarlyEnd Gathered) → settled g x ≡ Some a → DecsAre g.decs → Held a
  held_at_once g x (accepts h) e p = let same : g ≡ h = subst (AtImport g x) e (settled_at_import g x) in subst (λ (k : Gathered). DecsAre k.decs) same p
  held_at_once g x (refuses s) e p = tt

  mutual
    visit_holds : {g : Gathered} {name t : List ℕ} {a : Phase EarlyEnd Gathered} → Visits G g name t a → DecsAre g.decs → Held a
    visit_holds (too_long l) p = tt
    visit_holds (unread l r) p = tt
    visit_holds (cut_off l is f) p = tt
    visit_holds {g = g} {t = t} (whole {h = k} {r = r} l is f) p =
        behind_are k.decs r.program.decs (along_holds f p) (text_is g.names (length g.sources) t r is (omega (arith, l)))

    along_holds : {g : Gathered} {xs : List Import} {a : Phase EarlyEnd Gathered} → Along G g xs a → DecsAre g.decs → Held a
    along_holds none p = p
    along_holds (next l f) p = along_holds f (lead_holds l p)
    along_holds (stop l) p = tt

    lead_holds : {g : Gathered} {x : Import} {a : Phase EarlyEnd Gathered} → Leads G g x a → DecsAre g.decs → Held a
    lead_holds {g = g} {x = x} {a = a} (at_once e) p = held_at_once g x a e p
    lead_holds (absent e m) p = tt
    lead_holds (unfetched e m) p = tt
    lead_holds (visit e m v) p = visit_holds v p

  abbrev IsShortText : Option (List ℕ) → Type 0
  IsShortText prelude = IfSome prelude (λ text. length text < 2 ^ 63)

  gathering_holds : (prelude : Option (List ℕ)) (file t : List ℕ) (a : Phase EarlyEnd Gathered) → IsShortText prelude → Gathers G prelude file t a → Held a
  gathering_holds None file t a short (bare v) = visit_holds v tt
  gathering_holds (Some prelude) file t a short (unread_prelude is) = tt
  gathering_holds (Some prelude) file t a short (behind_prelude {r = r} is v) = visit_holds v (text_is [] 0 prelude r is short)

  abbrev HeldThere : Reached → Type 0
  HeldThere (Gathering a) = Held a
  HeldThere Absent = Unit {0}

  reaches_hold : (prelude : Option (List ℕ)) (file : List ℕ) (a : Reached) → IsShortText prelude → Reaches G prelude file a → HeldThere a
  reaches_hold prelude file a short (not_there m) = tt
  reaches_hold prelude file a short (unfetched_file m) = tt
  reaches_hold prelude file a short (there {t = t} m g) = gathering_holds prelude file t _ short g

  gathered_are : (prelude : Option (List ℕ)) (file : List ℕ) (h : Gathered) → IsShortText prelude → Reaches G prelude file (Gathering (accepts h)) → DecsAre h.decs
  gathered_are prelude file h short r = reaches_hold prelude file (Gathering (accepts h)) short r

-- ---- the laws

pub accepted_is_in_range : AcceptedIsInRange
accepted_is_in_range held prelude file a front short =
    let read = gathered held prelude file a front in
    let g : Gathered = read.0 in
    subst (λ (f : Front). IsMachineProcess f.core) read.1.judged_as.is (program_is g.names g.decs (gathered_are (MayGive held) prelude file g short read.1.reaches))

pub accepted_runs_are_read_back : AcceptedRunsAreReadBack
accepted_runs_are_read_back held prelude file a places labels C front short runs few bytes low =
    let ordered = accepted_is_ordered held prelude file a front in
    let closed : IsClosed a.front.core = (accepted_has_object held prelude file a front).closed in
    let is = accepted_is_in_range held prelude file a front short in
    let fits = free_runs_fit_lines a.front.core places labels C closed is runs (short_lines a.front.names labels bytes) few low in
    free_runs_are_read_back a.front.names a.front.core places labels C ordered.0 ordered.1 runs fits

pub accepted_trace_is_read_back : AcceptedTraceIsReadBack
accepted_trace_is_read_back held prelude file a n labels C front short reached few bytes low =
    let closed : IsClosed a.front.core = (accepted_has_object held prelude file a front).closed in
    let r = oldest_runs_are_free n (opening a.front.core) C labels (opening_closed a.front.core closed) reached in
    let many = r.many in
    accepted_runs_are_read_back held prelude file a r.places labels C front short r.runs (omega (arith, few, many)) bytes low
