-- Each refusal stands in a text that was read.
use Rattle.std.proofs.Common.{◌≡◌, ℕ, zero, suc, List, [], ◌∷◌, ◌++◌, length, Option, Some, None, refl, sym, ap, subst, ◌∙◌, arith, append-nil, append_assoc}
use Rattle.std.specs.Prelude.{slice_get, codes}
use Rattle.std.specs.List.{AllByRecursion}
use Rattle.pict_syntax.specs.declared.source.Source.{Source}
use Rattle.pict_syntax.specs.declared.span.Span.{Span}
use Rattle.pict_syntax.specs.declared.tree.Import.{Import}
use Rattle.pict_syntax.specs.Trees.{no_decs}
use Rattle.pict_gather.specs.Phases.{Phase, accepts, refuses}
use Rattle.pict_gather.specs.Places.{LiesIn, StandsIn}
use Rattle.pict_gather.specs.Fetching.{Fetch, MayGive}
use Rattle.pict_gather.specs.Gathered.{Gathered, EarlyEnd, refused, failed, with_source, settled, begun, Visits, too_long, unread, cut_off, whole, Along, none, next, stop, Leads, at_once, absent, unfetched, visit}
use Rattle.pict_gather.specs.Reached.{Reached, Gathering, first_source, opened, Gathers, bare, unread_prelude, behind_prelude, Reaches, not_there, unfetched_file, there}
use Rattle.pict_gather.specs.Laws.{VisitIsPlaced, ReachedIsPlaced}
use Rattle.pict_gather.proofs.Growing.{AtImport, settled_at_import}
use Rattle.pict_gather.proofs.ReadPlaces.{refusal_lies, imports_lie}

-- ---- texts under their numbers

get_front : (xs ys : List Source) (i : ℕ) (s : Source) → slice_get xs i ≡ Some s → slice_get (xs ++ ys) i ≡ Some s
get_front [] ys i s e = absurd cc
get_front (x ∷ xs) ys zero s e = e
get_front (x ∷ xs) ys (suc i) s e = get_front xs ys i s e

get_last : (xs : List Source) (s : Source) → slice_get (xs ++ s ∷ []) (length xs) ≡ Some s
get_last [] s = refl
get_last (x ∷ xs) s = get_last xs s

pub stands_on : (xs ys : List Source) (span : Span) → StandsIn xs span → StandsIn (xs ++ ys) span
stands_on xs ys span h = record { source = h.source; at = get_front xs ys span.text h.source h.at; lies = h.lies }

-- a place in the last text
pub lies_last : (xs : List Source) (name t : List ℕ) (span : Span) → LiesIn (length xs) t span → StandsIn (with_source xs name t) span
lies_last xs name t span h =
    let last : Source = record { name = name; text = t } in
    record {
      source = last;
      at = subst (λ n. slice_get (with_source xs name t) n ≡ Some last) (sym h.named) (get_last xs last);
      lies = record { named = refl; ordered = h.ordered; within = h.within };
    }

-- the strings of imports stand in the texts
abbrev AllStand : List Source → List Import → Type 0
AllStand sources xs = AllByRecursion (λ x. StandsIn sources x.span) xs

all_on : (xs ys : List Source) (is : List Import) → AllStand xs is → AllStand (xs ++ ys) is
all_on xs ys [] h = tt
all_on xs ys (x ∷ is) h = (stands_on xs ys x.span h.0, all_on xs ys is h.1)

all_last : (xs : List Source) (name t : List ℕ) (is : List Import) → AllByRecursion (λ x. LiesIn (length xs) t x.span) is → AllStand (with_source xs name t) is
all_last xs name t [] h = tt
all_last xs name t (x ∷ is) h = (lies_last xs name t x.span h.0, all_last xs name t is h.1)

-- ---- visits

-- no text is gone, and a refusal stands in its texts
abbrev Sound : Gathered → Phase EarlyEnd Gathered → Type 0
Sound g (accepts h) = (more : List Source) × (h.sources ≡ g.sources ++ more)
Sound g (refuses (refused sources code span)) = StandsIn sources span
Sound g (refuses (failed sources)) = Unit {0}

sound_at_once : (g : Gathered) (x : Import) (a : Phase EarlyEnd Gathered) → settled g x ≡ Some a → StandsIn g.sources x.span → Sound g a
sound_at_once g x (accepts h) e s = let same : g ≡ h = subst (AtImport g x) e (settled_at_import g x) in ([], ap (λ k. k.sources) (sym same) ∙ sym (append-nil g.sources))
sound_at_once g x (refuses (refused sources code span)) e s =
    let r : AtImport g x (Some (refuses (refused sources code span))) = subst (AtImport g x) e (settled_at_import g x) in
    subst (λ l. StandsIn l span) r.0 (subst (StandsIn g.sources) r.1 s)
sound_at_once g x (refuses (failed sources)) e s = tt

sound_on : (g h : Gathered) (a : Phase EarlyEnd Gathered) (more : List Source) → h.sources ≡ g.sources ++ more → Sound h a → Sound g a
sound_on g h (accepts k) more e (others, f) = (more ++ others, f ∙ ap (λ l. l ++ others) e ∙ append_assoc g.sources more others)
sound_on g h (refuses (refused sources code span)) more e s = s
sound_on g h (refuses (failed sources)) more e s = tt

module _ (G : List ℕ → Fetch → Type 0) where
  mutual
    visit_sound : {g : Gathered} {name t : List ℕ} {a : Phase EarlyEnd Gathered} → Visits G g name t a → Sound g a
    visit_sound {g = g} {name = name} (too_long l) = lies_last g.sources name [] _ (record { named = refl; ordered = omega arith; within = omega arith })
    visit_sound {g = g} {name = name} {t = t} (unread {code = c} {span = i} l r) = lies_last g.sources name t i (refusal_lies g.names (length g.sources) t c i r)
    visit_sound {g = g} {name = name} {t = t} (cut_off {r = r} {e = e} l is f) =
        sound_on g (begun g name t r) (refuses e) (record { name = name; text = t } ∷ []) refl
        (along_sound f (all_last g.sources name t r.program.imports (imports_lie g.names (length g.sources) t r is)))
    visit_sound {g = g} {name = name} {t = t} (whole {h = h} {r = r} l is f) =
        let s : Sound g (accepts h) = sound_on g (begun g name t r) (accepts h) (record { name = name; text = t } ∷ []) refl
        (along_sound f (all_last g.sources name t r.program.imports (imports_lie g.names (length g.sources) t r is))) in
        (s.0, s.1)

    along_sound : {g : Gathered} {xs : List Import} {a : Phase EarlyEnd Gathered} → Along G g xs a → AllStand g.sources xs → Sound g a
    along_sound {g = g} none s = ([], sym (append-nil g.sources))
    along_sound {g = g} {a = a} (next {h = h} {xs = xs} l f) s =
        let m = lead_sound l s.0 in
        sound_on g h a m.0 m.1 (along_sound f (subst (λ k. AllStand k xs) (sym m.1) (all_on g.sources m.0 xs s.1)))
    along_sound (stop l) s = lead_sound l s.0

    lead_sound : {g : Gathered} {x : Import} {a : Phase EarlyEnd Gathered} → Leads G g x a → StandsIn g.sources x.span → Sound g a
    lead_sound {g = g} {x = x} {a = a} (at_once e) s = sound_at_once g x a e s
    lead_sound (absent e m) s = s
    lead_sound (unfetched e m) s = tt
    lead_sound (visit e m v) s = visit_sound v

pub visit_is_placed : VisitIsPlaced
visit_is_placed held g name t sources code span v = visit_sound (MayGive held) v

-- ---- a file

-- a refusal stands in its texts
abbrev StandsThere : Reached → Type 0
StandsThere (Gathering (refuses (refused sources code span))) = StandsIn sources span
StandsThere _ = Unit {0}

of_visit : (g : Gathered) (a : Phase EarlyEnd Gathered) → Sound g a → StandsThere (Gathering a)
of_visit g (accepts h) s = tt
of_visit g (refuses (refused sources code span)) s = s
of_visit g (refuses (failed sources)) s = tt

in_prelude : (p : List ℕ) (span : Span) → LiesIn 0 p span → StandsIn (first_source p) span
in_prelude p span l =
    let first : Source = record { name = codes "prelude"; text = p } in
    record { source = first; at = subst (λ n. slice_get (first_source p) n ≡ Some first) (sym l.named) refl; lies = record { named = refl; ordered = l.ordered; within = l.within } }

gathers_placed : (G : List ℕ → Fetch → Type 0) (prelude : Option (List ℕ)) (file t : List ℕ) (a : Phase EarlyEnd Gathered) → Gathers G prelude file t a → StandsThere (Gathering a)
gathers_placed G None file t a (bare v) = of_visit (opened [] [] no_decs) a (visit_sound G v)
gathers_placed G (Some p) file t a (unread_prelude {code = c} {span = i} r) = in_prelude p i (refusal_lies [] 0 p c i r)
gathers_placed G (Some p) file t a (behind_prelude {r = r} is v) = of_visit (opened p r.names r.program.decs) a (visit_sound G v)

reaches_placed : (G : List ℕ → Fetch → Type 0) (prelude : Option (List ℕ)) (file : List ℕ) (a : Reached) → Reaches G prelude file a → StandsThere a
reaches_placed G prelude file a (not_there m) = tt
reaches_placed G prelude file a (unfetched_file m) = tt
reaches_placed G prelude file a (there {t = t} m h) = gathers_placed G prelude file t _ h

pub reached_is_placed : ReachedIsPlaced
reached_is_placed held prelude file sources code span r = reaches_placed (MayGive held) prelude file (Gathering (refuses (refused sources code span))) r
