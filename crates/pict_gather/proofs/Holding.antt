-- What holds of each text that is read holds of all that is gathered.
use Rattle.std.proofs.Common.{◌≡◌, ℕ, List, [], ◌∷◌, ◌++◌, length, Option, Some, None, refl, sym, ap, subst, ◌∙◌, append-nil, append_assoc}
use Rattle.std.specs.Prelude.{codes}
use Rattle.pict_syntax.specs.Names.{with_names}
use Rattle.pict_syntax.specs.Cuts.{Piece, named, tokens_of}
use Rattle.pict_syntax.specs.Programs.{Program}
use Rattle.pict_syntax.specs.Trees.{Decs, no_decs}
use Rattle.pict_syntax.specs.declared.source.Source.{Source}
use Rattle.pict_syntax.specs.declared.tree.Import.{Import}
use Rattle.pict_syntax.specs.Stops.{Stop}
use Rattle.pict_lex.proofs.StepLemmas.{with_names_last, with_names_grows}
use Rattle.pict_gather.specs.Phases.{Phase, accepts, refuses, Then}
use Rattle.pict_gather.specs.Reading.{Read, Reads, Lexes, HasVerdict, names_with, end_of}
use Rattle.pict_gather.specs.Fetching.{Fetch}
use Rattle.pict_gather.specs.Gathered.{Gathered, EarlyEnd, behind, with_source, settled, begun, Visits, too_long, unread, cut_off, whole, Along, none, next, stop, Leads, at_once, absent, unfetched, visit}
use Rattle.pict_gather.specs.Reached.{Reached, Absent, Gathering, first_source, Gathers, bare, unread_prelude, behind_prelude, Reaches, not_there, unfetched_file, there}
use Rattle.pict_gather.proofs.OneAfterAnother.{accepted_then}
use Rattle.pict_gather.proofs.Growing.{AtImport, settled_at_import}
use Rattle.pict_gather.proofs.ReadPlaces.{program_is}

-- ---- what a text was read by

-- the pieces of a text, and the tree of its tokens
pub record IsReadBy (names : List (List ℕ)) (n : ℕ) (text : List ℕ) (r : Read) (pieces : List Piece) : Type 0 where
  pub cut : Lexes n text (accepts pieces)
  pub parsed : HasVerdict (tokens_of r.names n 0 pieces) (end_of n text) (accepts r.program)
  pub names_are : r.names ≡ names_with names pieces

pub read_by : (names : List (List ℕ)) (n : ℕ) (text : List ℕ) (r : Read) → Reads names n text (accepts r) → (pieces : List Piece) × IsReadBy names n text r pieces
read_by names n text r reads =
    let Parses : List Piece → Phase Stop Program → Type 0 = λ ps. HasVerdict (tokens_of (names_with names ps) n 0 ps) (end_of n text) in
    let Made : List Piece → Program → Phase Stop Read → Type 0 = λ ps p read. read ≡ accepts (record { names = names_with names ps; program = p }) in
    let cut = accepted_then (Lexes n text) (λ ps. Then (Parses ps) (Made ps)) r reads in
    let parsed = accepted_then (Parses cut.0) (Made cut.0) r cut.2 in
    let here : IsReadBy names n text (record { names = names_with names cut.0; program = parsed.0 }) cut.0 = record { cut = cut.1; parsed = parsed.1; names_are = refl } in
    (cut.0, subst (λ q. IsReadBy names n text q cut.0) (sym (program_is r (record { names = names_with names cut.0; program = parsed.0 }) parsed.2)) here)

-- ---- texts and names are kept

-- texts come behind those before, and names
pub record Extends (g h : Gathered) : Type 0 where
  pub texts : List Source
  pub sources : h.sources ≡ g.sources ++ texts
  pub words : List (List ℕ)
  pub names : h.names ≡ with_names g.names words

extends_same : (g : Gathered) → Extends g g
extends_same g = record { texts = []; sources = sym (append-nil g.sources); words = []; names = refl }

extends_on : (g h k : Gathered) → Extends g h → Extends h k → Extends g k
extends_on g h k a b = record {
  texts = a.texts ++ b.texts;
  sources = b.sources ∙ ap (λ l. l ++ b.texts) a.sources ∙ append_assoc g.sources a.texts b.texts;
  words = a.words ++ b.words;
  names = b.names ∙ ap (λ l. with_names l b.words) a.names ∙ sym (with_names_last g.names a.words b.words);
}

begun_extends : (g : Gathered) (name t : List ℕ) (r : Read) → Reads g.names (length g.sources) t (accepts r) → Extends g (begun g name t r)
begun_extends g name t r reads =
    let by = read_by g.names (length g.sources) t r reads in
    record { texts = record { name = name; text = t } ∷ []; sources = refl; words = named by.0; names = by.1.names_are }

abbrev Kept : Gathered → Phase EarlyEnd Gathered → Type 0
Kept g (accepts h) = Extends g h
Kept g (refuses e) = Unit {0}

kept_on : (g h : Gathered) (a : Phase EarlyEnd Gathered) → Extends g h → Kept h a → Kept g a
kept_on g h (accepts k) e f = extends_on g h k e f
kept_on g h (refuses s) e f = tt

kept_at_once : (g : Gathered) (x : Import) (a : Phase EarlyEnd Gathered) → settled g x ≡ Some a → Kept g a
kept_at_once g x (accepts h) e = let same : g ≡ h = subst (AtImport g x) e (settled_at_import g x) in subst (Extends g) same (extends_same g)
kept_at_once g x (refuses s) e = tt

module _ (G : List ℕ → Fetch → Type 0) where
  mutual
    visit_keeps : {g : Gathered} {name t : List ℕ} {a : Phase EarlyEnd Gathered} → Visits G g name t a → Kept g a
    visit_keeps (too_long l) = tt
    visit_keeps (unread l r) = tt
    visit_keeps (cut_off l is f) = tt
    visit_keeps {g = g} {name = name} {t = t} (whole {h = k} {r = r} l is f) =
        let e : Extends g k = extends_on g (begun g name t r) k (begun_extends g name t r is) (along_keeps f) in
        record { texts = e.texts; sources = e.sources; words = e.words; names = e.names }

    along_keeps : {g : Gathered} {xs : List Import} {a : Phase EarlyEnd Gathered} → Along G g xs a → Kept g a
    along_keeps {g = g} none = extends_same g
    along_keeps {g = g} {a = a} (next {h = h} l f) = kept_on g h a (lead_keeps l) (along_keeps f)
    along_keeps (stop l) = lead_keeps l

    lead_keeps : {g : Gathered} {x : Import} {a : Phase EarlyEnd Gathered} → Leads G g x a → Kept g a
    lead_keeps {g = g} {x = x} {a = a} (at_once e) = kept_at_once g x a e
    lead_keeps (absent e m) = tt
    lead_keeps (unfetched e m) = tt
    lead_keeps (visit e m v) = visit_keeps v

-- ---- the names and the texts of a file

-- the names are those of some words, the file is text 1, and number 0 stands before it
pub record IsReached (file : List ℕ) (h : Gathered) : Type 0 where
  pub words : List (List ℕ)
  pub names : h.names ≡ with_names [] words
  pub first : Source
  pub text : List ℕ
  pub more : List Source
  pub sources : h.sources ≡ first ∷ record { name = file; text = text } ∷ more

abbrev ReachedAs : List ℕ → Reached → Type 0
ReachedAs file (Gathering (accepts h)) = IsReached file h
ReachedAs file _ = Unit {0}

module _ (G : List ℕ → Fetch → Type 0) where
  -- a text behind one other is text 1
  visited_as : (first : Source) (words : List (List ℕ)) (names : List (List ℕ)) (ds : Decs) (file t : List ℕ) (a : Phase EarlyEnd Gathered) → names ≡ with_names [] words
      → Visits G (record { sources = first ∷ []; ended = []; names = names; decs = ds }) file t a → ReachedAs file (Gathering a)
  visited_as first words names ds file t a is (too_long l) = tt
  visited_as first words names ds file t a is (unread l r) = tt
  visited_as first words names ds file t a is (cut_off l r f) = tt
  visited_as first words names ds file t a is (whole {h = k} {r = r} l reads f) =
      let g : Gathered = record { sources = first ∷ []; ended = []; names = names; decs = ds } in
      let begins : Extends g (begun g file t r) = begun_extends g file t r reads in
      let goes : Extends (begun g file t r) k = along_keeps G f in
      let e : Extends g k = extends_on g (begun g file t r) k begins goes in
      record { words = words ++ e.words; names = e.names ∙ ap (λ l. with_names l e.words) is ∙ sym (with_names_last [] words e.words); first = first; text = t; more = goes.texts; sources = goes.sources }

  gathers_as : (prelude : Option (List ℕ)) (file t : List ℕ) (a : Phase EarlyEnd Gathered) → Gathers G prelude file t a → ReachedAs file (Gathering a)
  gathers_as None file t a (bare v) = visited_as _ [] [] no_decs file t a refl v
  gathers_as (Some p) file t a (unread_prelude r) = tt
  gathers_as (Some p) file t a (behind_prelude {r = r} reads v) =
      let by = read_by [] 0 p r reads in visited_as _ (named by.0) r.names r.program.decs file t a by.1.names_are v

  reaches_as : (prelude : Option (List ℕ)) (file : List ℕ) (a : Reached) → Reaches G prelude file a → ReachedAs file a
  reaches_as prelude file a (not_there m) = tt
  reaches_as prelude file a (unfetched_file m) = tt
  reaches_as prelude file a (there {t = t} m g) = gathers_as prelude file t _ g

  pub is_reached : (prelude : Option (List ℕ)) (file : List ℕ) (h : Gathered) → Reaches G prelude file (Gathering (accepts h)) → IsReached file h
  is_reached prelude file h r = reaches_as prelude file (Gathering (accepts h)) r

-- ---- what is said of texts, names and declarations

-- it stays where texts and names come, holds of two lists of declarations together where it holds of each, and holds of each text
-- that is read
pub record IsOfTexts (P : List Source → List (List ℕ) → Decs → Type 0) : Type 0 where
  pub grows : (ss more : List Source) (names others : List (List ℕ)) (ds : Decs) → P ss names ds → P (ss ++ more) (names ++ others) ds
  pub joins : (ss : List Source) (names : List (List ℕ)) (ds es : Decs) → P ss names ds → P ss names es → P ss names (behind ds es)
  pub reads : (ss : List Source) (names : List (List ℕ)) (name t : List ℕ) (r : Read) → Reads names (length ss) t (accepts r) → P (with_source ss name t) r.names r.program.decs

module _ (P : List Source → List (List ℕ) → Decs → Type 0) (of : IsOfTexts P) (G : List ℕ → Fetch → Type 0) where
  abbrev Held : Phase EarlyEnd Gathered → Type 0
  Held (accepts h) = P h.sources h.names h.decs
  Held (refuses e) = Unit {0}

  held_on : (g h : Gathered) → Extends g h → (ds : Decs) → P g.sources g.names ds → P h.sources h.names ds
  held_on g h e ds p =
      let grown = with_names_grows g.names e.words in
      subst (λ l. P l h.names ds) (sym e.sources) (subst (λ l. P (g.sources ++ e.texts) l ds) (sym (e.names ∙ grown.1)) (of.grows g.sources e.texts g.names grown.0 ds p))

  held_at_once : (g : Gathered) (x : Import) (a : Phase EarlyEnd Gathered) → settled g x ≡ Some a → P g.sources g.names g.decs → Held a
  held_at_once g x (accepts h) e p = let same : g ≡ h = subst (AtImport g x) e (settled_at_import g x) in subst (λ k. P k.sources k.names k.decs) same p
  held_at_once g x (refuses s) e p = tt

  mutual
    visit_holds : {g : Gathered} {name t : List ℕ} {a : Phase EarlyEnd Gathered} → Visits G g name t a → P g.sources g.names g.decs → Held a
    visit_holds (too_long l) p = tt
    visit_holds (unread l r) p = tt
    visit_holds (cut_off l is f) p = tt
    visit_holds {g = g} {name = name} {t = t} (whole {h = k} {r = r} l is f) p =
        let b : Gathered = begun g name t r in
        of.joins k.sources k.names k.decs r.program.decs
        (along_holds f (held_on g b (begun_extends g name t r is) g.decs p))
        (held_on b k (along_keeps G f) r.program.decs (of.reads g.sources g.names name t r is))

    along_holds : {g : Gathered} {xs : List Import} {a : Phase EarlyEnd Gathered} → Along G g xs a → P g.sources g.names g.decs → Held a
    along_holds none p = p
    along_holds (next l f) p = along_holds f (lead_holds l p)
    along_holds (stop l) p = tt

    lead_holds : {g : Gathered} {x : Import} {a : Phase EarlyEnd Gathered} → Leads G g x a → P g.sources g.names g.decs → Held a
    lead_holds {g = g} {x = x} {a = a} (at_once e) p = held_at_once g x a e p
    lead_holds (absent e m) p = tt
    lead_holds (unfetched e m) p = tt
    lead_holds (visit e m v) p = visit_holds v p

  -- ---- a file, behind a prelude or without one: where it holds of no declarations

  abbrev HeldThere : Reached → Type 0
  HeldThere (Gathering a) = Held a
  HeldThere Absent = Unit {0}

  gathering_holds : (prelude : Option (List ℕ)) (file t : List ℕ) (a : Phase EarlyEnd Gathered) → P (first_source []) [] no_decs → Gathers G prelude file t a → Held a
  gathering_holds None file t a p (bare v) = visit_holds v p
  gathering_holds (Some prelude) file t a p (unread_prelude is) = tt
  gathering_holds (Some prelude) file t a p (behind_prelude {r = r} is v) = visit_holds v (of.reads [] [] (codes "prelude") prelude r is)

  reaches_hold : (prelude : Option (List ℕ)) (file : List ℕ) (a : Reached) → P (first_source []) [] no_decs → Reaches G prelude file a → HeldThere a
  reaches_hold prelude file a p (not_there m) = tt
  reaches_hold prelude file a p (unfetched_file m) = tt
  reaches_hold prelude file a p (there {t = t} m g) = gathering_holds prelude file t _ p g

  pub reached_holds : (prelude : Option (List ℕ)) (file : List ℕ) (h : Gathered) → P (first_source []) [] no_decs → Reaches G prelude file (Gathering (accepts h)) → P h.sources h.names h.decs
  reached_holds prelude file h p r = reaches_hold prelude file (Gathering (accepts h)) p r
