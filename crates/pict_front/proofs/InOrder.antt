-- The core process of an accepted file has its labels in order, so what its run writes is read back.
use Rattle.std.proofs.Common.{◌≡◌, ℕ, ◌+◌, zero, suc, true, List, [], ◌∷◌, ◌++◌, length, Option, Some, sym, ◌∙◌, ap, subst, unwrap_or}
use Rattle.std.specs.Prelude.{slice_get}
use Rattle.pict_outside.specs.Texts.{Texts}
use Rattle.pict_syntax.specs.declared.source.Source.{Source}
use Rattle.pict_syntax.specs.declared.token.Token.{Token}
use Rattle.pict_syntax.specs.declared.token.TokenKind.{TokenKind}
use Rattle.pict_syntax.specs.declared.token.TokenKind.TheVariants.{Identifier}
use Rattle.pict_syntax.specs.Names.{with_name, with_names, number_of, text_of, HasNoRepeats}
use Rattle.pict_syntax.specs.Cuts.{Piece, blank, comment, token, ArePieces, named, tokens_of}
use Rattle.pict_syntax.specs.Programs.{Program, programs}
use Rattle.pict_syntax.specs.Tokens.{identifier, symbol, keyword, number, character, string, sign}
use Rattle.pict_syntax.specs.Trees.{Decs, no_decs, more_decs}
use Rattle.pict_syntax.proofs.NamesLemmas.{has_name, stands_there, has_kept, has_interned, with_grows, interned_distinct}
use Rattle.pict_gather.specs.Phases.{accepts}
use Rattle.pict_gather.specs.Reading.{Read, Reads}
use Rattle.pict_gather.specs.Fetching.{MayGive}
use Rattle.pict_gather.specs.Gathered.{Gathered, behind, with_source}
use Rattle.pict_gather.specs.Reached.{Gathering, Reaches}
use Rattle.pict_gather.proofs.Holding.{read_by, is_reached, IsOfTexts, reached_holds}
use Rattle.pict_scope.proofs.LabelsScoped.{scoped_distinct}
use Rattle.pict_trace.specs.Readable.{IsIdentifier}
use Rattle.pict_trace.specs.Ordered.{IsOrderedProcess}
use Rattle.pict_trace.proofs.ReadBack.{runs_are_read_back}
use Rattle.pict_front.specs.Front.{Front}
use Rattle.pict_front.specs.Laws.{AcceptedIsOrdered, AcceptedIsReadBack}
use Rattle.pict_front.proofs.TypedPrograms.{gathered}
use Rattle.pict_front.proofs.Labelled.{DecsLabels}
use Rattle.pict_front.proofs.Rising.{IsLabel}
use Rattle.pict_front.proofs.Ordering.{program_ordered}
use Rattle.pict_front.proofs.Tokens.{Hold, KindHolds, split, decs_labels}

-- ---- names

-- each of the texts is among the names
abbrev AllNamed : List (List ℕ) → List (List ℕ) → Type 0
AllNamed names [] = Unit {0}
AllNamed names (text ∷ texts) = (has_name names text ≡ true) × AllNamed names texts

kept : (names texts : List (List ℕ)) (text : List ℕ) → has_name names text ≡ true → has_name (with_names names texts) text ≡ true
kept names [] text there = there
kept names (t ∷ texts) text there =
    let grows = with_grows names t in kept (with_name names t) texts text (subst (λ ns. has_name ns text ≡ true) (sym grows.1) (has_kept names grows.0 text there))

all_named : (names texts : List (List ℕ)) → AllNamed (with_names names texts) texts
all_named names [] = tt
all_named names (text ∷ texts) = (kept (with_name names text) texts text (has_interned names text), all_named (with_name names text) texts)

all_distinct : (names texts : List (List ℕ)) → HasNoRepeats names → HasNoRepeats (with_names names texts)
all_distinct names [] distinct = distinct
all_distinct names (text ∷ texts) distinct = all_distinct (with_name names text) texts (interned_distinct names text distinct)

none_distinct : HasNoRepeats []
none_distinct i j text a b = absurd cc

-- ---- tokens

identifier_label : (names : List (List ℕ)) (text : List ℕ) → has_name names text ≡ true → IsIdentifier text → IsLabel names (number_of names text)
identifier_label names text there is =
    let stands = stands_there names text there in
    let same : text_of names (number_of names text) ≡ text = ap (λ o. unwrap_or o []) stands in
    (stands ∙ ap Some (sym same), subst IsIdentifier (sym same) is)

tokens_hold : (names : List (List ℕ)) (n place : ℕ) (pieces : List Piece) (rest : List ℕ) → ArePieces pieces rest → AllNamed names (named pieces) → Hold (IsLabel names) (tokens_of names n place pieces)
tokens_hold names n place [] rest are all = tt
tokens_hold names n place (blank byte ∷ ps) rest are all = tokens_hold names n (place + 1) ps rest are.1 all
tokens_hold names n place (comment bytes ∷ ps) rest are all = tokens_hold names n (place + length bytes) ps rest are.1 all
tokens_hold names n place (token bytes (identifier text) ∷ ps) rest are all = (identifier_label names text all.0 (are.0.0.1, are.0.0.2), tokens_hold names n (place + length bytes) ps rest are.1 all.1)
tokens_hold names n place (token bytes (symbol s) ∷ ps) rest are all = (tt, tokens_hold names n (place + length bytes) ps rest are.1 all.1)
tokens_hold names n place (token bytes (keyword k) ∷ ps) rest are all = (tt, tokens_hold names n (place + length bytes) ps rest are.1 all)
tokens_hold names n place (token bytes (number i) ∷ ps) rest are all = (tt, tokens_hold names n (place + length bytes) ps rest are.1 all)
tokens_hold names n place (token bytes (character value) ∷ ps) rest are all = (tt, tokens_hold names n (place + length bytes) ps rest are.1 all)
tokens_hold names n place (token bytes (string values) ∷ ps) rest are all = (tt, tokens_hold names n (place + length bytes) ps rest are.1 all)
tokens_hold names n place (token bytes (sign s) ∷ ps) rest are all = (tt, tokens_hold names n (place + length bytes) ps rest are.1 all)

behind_labels : (P : ℕ → Type 0) (first ds : Decs) → DecsLabels P first → DecsLabels P ds → DecsLabels P (behind first ds)
behind_labels P first no_decs a b = a
behind_labels P first (more_decs ds d) a b = (behind_labels P first ds a b.0, b.1)

-- ---- the declarations of all texts

get_front : (xs ys : List (List ℕ)) (i : ℕ) (x : List ℕ) → slice_get xs i ≡ Some x → slice_get (xs ++ ys) i ≡ Some x
get_front [] ys i x e = absurd cc
get_front (y ∷ xs) ys zero x e = e
get_front (y ∷ xs) ys (suc i) x e = get_front xs ys i x e

label_kept : (names others : List (List ℕ)) (n : ℕ) → IsLabel names n → IsLabel (names ++ others) n
label_kept names others n h =
    let stands = get_front names others n (text_of names n) h.0 in
    let same : text_of (names ++ others) n ≡ text_of names n = ap (λ o. unwrap_or o []) stands in
    (stands ∙ ap Some (sym same), subst IsIdentifier (sym same) h.1)

module _ (P Q : ℕ → Type 0) (f : (n : ℕ) → P n → Q n) where
  kind_holds : (k : TokenKind) → KindHolds P k → KindHolds Q k
  kind_holds (Identifier n) h = f n.0 h
  kind_holds k h = tt

  holds_on : (ts : List Token) → Hold P ts → Hold Q ts
  holds_on [] h = tt
  holds_on (t ∷ ts) h = (kind_holds t.kind h.0, holds_on ts h.1)

program_labels : (Q : ℕ → Type 0) (p : Program) (ts : List Token) → programs.tree ts p → Hold Q ts → DecsLabels Q p.decs
program_labels Q p ts (us, vs, is, imports, decs) h = decs_labels Q p.decs vs decs (split Q us vs (subst (Hold Q) (sym is) h)).1

module _ (Q : ℕ → Type 0) where
  abbrev Labelled : List Source → List (List ℕ) → Decs → Type 0
  Labelled sources names ds = ((n : ℕ) → IsLabel names n → Q n) → DecsLabels Q ds

  text_labels : (sources : List Source) (names : List (List ℕ)) (name t : List ℕ) (r : Read) → Reads names (length sources) t (accepts r) → Labelled (with_source sources name t) r.names r.program.decs
  text_labels sources names name t r reads f =
      let by = read_by names (length sources) t r reads in
      let all : AllNamed r.names (named by.0) = subst (λ ns. AllNamed ns (named by.0)) (sym by.1.names_are) (all_named names (named by.0)) in
      let hold = tokens_hold r.names (length sources) 0 by.0 [] by.1.cut.each all in
      program_labels Q r.program (tokens_of r.names (length sources) 0 by.0) by.1.parsed.tree (holds_on (IsLabel r.names) Q f _ hold)

  of_texts : IsOfTexts Labelled
  of_texts = record {
    grows = λ ss more names others ds h f. h (λ n label. f n (label_kept names others n label));
    joins = λ ss names ds es a b f. behind_labels Q ds es (a f) (b f);
    reads = text_labels;
  }

-- the labels of what was gathered are its names, and no name stands twice
pub gathered_labels : (held : Option Texts) (prelude : Option (List ℕ)) (file : List ℕ) (g : Gathered) → Reaches (MayGive held) prelude file (Gathering (accepts g)) → DecsLabels (IsLabel g.names) g.decs
gathered_labels held prelude file g reaches =
    let Q : ℕ → Type 0 = IsLabel g.names in
    reached_holds (Labelled Q) (of_texts Q) (MayGive held) prelude file g (λ f. tt) reaches (λ n h. h)

pub gathered_distinct : (held : Option Texts) (prelude : Option (List ℕ)) (file : List ℕ) (g : Gathered) → Reaches (MayGive held) prelude file (Gathering (accepts g)) → HasNoRepeats g.names
gathered_distinct held prelude file g reaches =
    let reached = is_reached (MayGive held) prelude file g reaches in
    subst HasNoRepeats (sym reached.names) (all_distinct [] reached.words none_distinct)

-- ---- the law

pub accepted_is_ordered : AcceptedIsOrdered
accepted_is_ordered held prelude file a front =
    let read = gathered held prelude file a front in
    let g : Gathered = read.0 in
    let labels = gathered_labels held prelude file g read.1.reaches in
    let distinct = gathered_distinct held prelude file g read.1.reaches in
    let j = read.1.judged_as in
    let ordered = program_ordered g.names distinct g.decs labels (scoped_distinct g.names g.decs j.scoped) in
    let P : Front → Type 0 = λ f. HasNoRepeats f.names × IsOrderedProcess f.names f.core in
    subst P j.is (distinct, ordered)

pub accepted_is_read_back : AcceptedIsReadBack
accepted_is_read_back held prelude file a n labels C front reached fits =
    let ordered = accepted_is_ordered held prelude file a front in runs_are_read_back a.front.names a.front.core n labels C ordered.0 ordered.1 reached fits
