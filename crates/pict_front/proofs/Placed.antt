-- The place of each refusal lies in the text whose number it has; and the phases behind the grammar say of nothing that it is
-- absent.
use Rattle.std.proofs.Common.{◌≡◌, inl, inr, ℕ, ◌+◌, ◌≤◌, List, [], ◌∷◌, ◌++◌, length, Option, Some, None, refl, sym, ◌∙◌, ap, subst, arith, length-append}
use Rattle.std.specs.Prelude.{slice_get}
use Rattle.pict_syntax.specs.declared.code.Code.{Code}
use Rattle.pict_syntax.specs.declared.source.Source.{Source}
use Rattle.pict_syntax.specs.declared.span.Span.{Span}
use Rattle.pict_syntax.specs.declared.token.Token.{Token}
use Rattle.pict_syntax.specs.Cuts.{Piece, blank, comment, token, joined_pieces as joined_bytes, IsWholeCut, tokens_of}
use Rattle.pict_syntax.specs.Programs.{Program, programs}
use Rattle.pict_syntax.specs.Trees.{Decs, no_decs, more_decs}
use Rattle.pict_syntax.specs.Stops.{Stop}
use Rattle.pict_outside.specs.Texts.{Texts}
use Rattle.pict_gather.specs.Phases.{Phase, accepts, refuses, Then}
use Rattle.pict_gather.specs.Places.{StandsIn}
use Rattle.pict_gather.specs.Reading.{Read, Reads}
use Rattle.pict_gather.specs.Fetching.{MayGive}
use Rattle.pict_gather.specs.Gathered.{Gathered, EarlyEnd, refused, behind, with_source}
use Rattle.pict_gather.specs.Reached.{Gathering, Reaches}
use Rattle.pict_gather.proofs.OneAfterAnother.{refusal_of, refused_then}
use Rattle.pict_gather.proofs.Placed.{stands_on, lies_last, reached_is_placed}
use Rattle.pict_gather.proofs.Holding.{read_by, IsReached, is_reached, IsOfTexts, reached_holds}
use Rattle.pict_scope.specs.Scopes.{scope_stop}
use Rattle.pict_front.specs.Front.{Front, Accepted, Checks, Translates, Judges, with_texts, JudgesTexts, stopped_by, first_place}
use Rattle.pict_front.specs.Laws.{RefusedIsPlaced}
use Rattle.pict_front.proofs.Standing.{Line, DecsStand}
use Rattle.pict_front.proofs.Spans.{Ascend, split, decs_stand}
use Rattle.pict_front.proofs.ScopePlaces.{scope_stands}
use Rattle.pict_front.proofs.StuckPlaces.{stuck_stands}

-- ---- the tokens of a text lie one after the other

module _ (n finish : ℕ) (P : Span → Type 0) (stands : (s : Span) → s.text ≡ n → s.start ≤ s.end → s.end ≤ finish → P s) where
  abbrev Up : ℕ → ℕ → List Token → Type 0
  Up = Ascend n finish P stands

  lower : (lower_place low high : ℕ) (ts : List Token) → lower_place ≤ low → Up low high ts → Up lower_place high ts
  lower p low high [] le a = omega (arith, le, a)
  lower p low high (t ∷ ts) le a = (record { named = a.0.named; from = omega (arith, le, a.0.from); ordered = a.0.ordered; to = a.0.to; within = a.0.within }, a.1)

  ascends : (names : List (List ℕ)) (place high : ℕ) (ps : List Piece) → place + length (joined_bytes ps) ≡ high → high ≤ finish → Up place high (tokens_of names n place ps)
  ascends names place high [] total few = omega arith
  ascends names place high (blank byte ∷ ps) total few =
      lower place (place + 1) high (tokens_of names n (place + 1) ps) (omega arith) (ascends names (place + 1) high ps (omega arith) few)
  ascends names place high (comment bytes ∷ ps) total few =
      let size : length (bytes ++ joined_bytes ps) ≡ length bytes + length (joined_bytes ps) = length-append bytes (joined_bytes ps) in
      lower place (place + length bytes) high (tokens_of names n (place + length bytes) ps) (omega arith) (ascends names (place + length bytes) high ps (omega arith) few)
  ascends names place high (token bytes form ∷ ps) total few =
      let size : length (bytes ++ joined_bytes ps) ≡ length bytes + length (joined_bytes ps) = length-append bytes (joined_bytes ps) in
      (record { named = refl; from = omega arith; ordered = omega arith; to = omega arith; within = omega arith }, ascends names (place + length bytes) high ps (omega arith) few)

  tree_stands : (names : List (List ℕ)) (text : List ℕ) (ps : List Piece) (p : Program) → finish ≡ length text → IsWholeCut text ps → programs.tree (tokens_of names n 0 ps) p → DecsStand P p.decs
  tree_stands names text ps p ends cut (us, vs, is, imports, decs) =
      let size : length text ≡ length (joined_bytes ps) + 0 = ap length cut.whole ∙ length-append (joined_bytes ps) [] in
      let parts = split n finish P stands 0 finish us vs (subst (Up 0 finish) (sym is) (ascends names 0 finish ps (omega arith) (omega arith))) in
      (decs_stand n finish P stands p.decs parts.0 finish vs decs parts.2).1

-- ---- the declarations of all texts

behind_stands : (P : Span → Type 0) (first ds : Decs) → DecsStand P first → DecsStand P ds → DecsStand P (behind first ds)
behind_stands P first no_decs a b = a
behind_stands P first (more_decs ds d) a b = (behind_stands P first ds a b.0, b.1)

-- they stand where the texts stand
module _ (P : Span → Type 0) where
  abbrev Stand : List Source → List (List ℕ) → Decs → Type 0
  Stand sources names ds = ((s : Span) → StandsIn sources s → P s) → DecsStand P ds

  text_stands : (sources : List Source) (names : List (List ℕ)) (name t : List ℕ) (r : Read) → Reads names (length sources) t (accepts r) → Stand (with_source sources name t) r.names r.program.decs
  text_stands sources names name t r reads f =
      let by = read_by names (length sources) t r reads in
      tree_stands (length sources) (length t) P (λ s named ordered within. f s (lies_last sources name t s (record { named = named; ordered = ordered; within = within })))
      r.names t by.0 r.program refl by.1.cut by.1.parsed.tree

  of_texts : IsOfTexts Stand
  of_texts = record {
    grows = λ ss more names others ds h f. h (λ s stands. f s (stands_on ss more s stands));
    joins = λ ss names ds es a b f. behind_stands P ds es (a f) (b f);
    reads = text_stands;
  }

-- ---- scopes, types, and the translation

first_place_stands : (file : List ℕ) (h : Gathered) → IsReached file h → StandsIn h.sources first_place
first_place_stands file h r =
    let own : Source = record { name = file; text = r.text } in
    record { source = own; at = ap (λ l. slice_get l 1) r.sources; lies = record { named = refl; ordered = omega arith; within = omega arith } }

abbrev stopped : {A : Type 0} → Stop → Phase Stop A
stopped s = refuses s

stopped_is : (o : Option Stop) (s : Stop) → stopped {A = Unit {0}} s ≡ stopped_by o → o ≡ Some s
stopped_is None s e = absurd cc
stopped_is (Some r) s e = ap Some (sym (same r s e))
  where
    same : (r s : Stop) → stopped {A = Unit {0}} s ≡ refuses r → s ≡ r
    same r s e = cc

module _ (P : Span → Type 0) (names : List (List ℕ)) (p : Decs) (stands : DecsStand P p) (first : P first_place) where
  translated_placed : (code : Code) (span : Span) → Translates names p (refuses (code, span)) → Line P (code, span)
  translated_placed code span (inl (deep, e)) = subst (Line P) (sym (ap (λ (said : Phase Stop Front). refusal_of said (code, span)) e)) (tt, first)
  translated_placed code span (inr (fits, e)) = absurd cc

  judged_placed : (code : Code) (span : Span) → Judges names p (refuses (code, span)) → Line P (code, span)
  judged_placed code span judges =
      elim (refused_then (λ said. said ≡ stopped_by (scope_stop names p)) (λ scoped. Then (Checks names p) (λ typed. Translates names p)) (code, span) judges) [
        | inl said ↦ scope_stands P names p code span stands (stopped_is (scope_stop names p) (code, span) said)
        | inr (x, said, next) ↦ elim (refused_then (Checks names p) (λ typed. Translates names p) (code, span) next) [
          | inl stuck ↦ stuck_stands P names p code span stands stuck
          | inr (y, typed, made) ↦ translated_placed code span made
        ]
      ]

-- ---- all phases

-- a refusal with the texts is one of the phases behind the grammar
abbrev refused_at : List Source → Code → Span → Phase EarlyEnd Accepted
refused_at sources code span = refuses (refused sources code span)

of_texts_refused : (texts sources : List Source) (said : Phase Stop Front) (code : Code) (span : Span) → refused_at sources code span ≡ with_texts texts said → (sources ≡ texts) × (said ≡ refuses (code, span))
of_texts_refused texts sources (accepts f) code span e = absurd cc
of_texts_refused texts sources (refuses (c, i)) code span e = (cc, cc)

-- what these phases refuse of all that is gathered
pub gathered_placed : (held : Option Texts) (prelude : Option (List ℕ)) (file : List ℕ) (g : Gathered) → Reaches (MayGive held) prelude file (Gathering (accepts g))
    → (code : Code) (span : Span) → Judges g.names g.decs (refuses (code, span)) → Line (StandsIn g.sources) (code, span)
gathered_placed held prelude file g reaches code span judges =
    let P : Span → Type 0 = StandsIn g.sources in
    let stand : DecsStand P g.decs = reached_holds (Stand P) (of_texts P) (MayGive held) prelude file g (λ f. tt) reaches (λ s h. h) in
    judged_placed P g.names g.decs stand (first_place_stands file g (is_reached (MayGive held) prelude file g reaches)) code span judges

pub refused_is_placed : RefusedIsPlaced
refused_is_placed held prelude file sources code span front =
    let First : Phase EarlyEnd Gathered → Type 0 = λ said. Reaches (MayGive held) prelude file (Gathering said) in
    elim (refused_then First JudgesTexts (refused sources code span) front) [
      | inl gathering ↦ reached_is_placed held prelude file sources code span gathering
      | inr (g, reaches, (said, judges, is)) ↦
          let same = of_texts_refused g.sources sources said code span is in
          subst (λ l. StandsIn l span) (sym same.0) (gathered_placed held prelude file g reaches code span (subst (Judges g.names g.decs) same.1 judges)).1
    ]
