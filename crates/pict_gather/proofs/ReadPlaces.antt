-- A refusal of a text stands in it, and so do the strings of its imports.
use Rattle.std.proofs.Common.{◌≡◌, inl, inr, ℕ, zero, suc, ◌<◌, List, [], ◌∷◌, ◌++◌, length, All, pos, refl, sym, subst, arith}
use Rattle.std.specs.List.{AllByRecursion}
use Rattle.pict_syntax.specs.declared.code.Code.{Code}
use Rattle.pict_syntax.specs.declared.span.Span.{Span}
use Rattle.pict_syntax.specs.declared.token.Token.{Token}
use Rattle.pict_syntax.specs.declared.token.TokenKind.TheVariants.{Number}
use Rattle.pict_syntax.specs.declared.tree.Import.{Import}
use Rattle.pict_syntax.specs.Cuts.{Piece, IsWholeCut, tokens_of}
use Rattle.pict_syntax.specs.Programs.{Program, programs, IsImport, AreImports}
use Rattle.pict_syntax.specs.Verdicts.{StandsAt}
use Rattle.pict_syntax.specs.Stops.{Stop}
use Rattle.pict_lex.specs.Lex.{LiesIn as HasBytesIn}
use Rattle.pict_lex.proofs.PlaceLemmas.{stop_lies, reading_lies}
use Rattle.pict_gather.specs.Phases.{Phase, accepts, refuses, Then}
use Rattle.pict_gather.specs.Places.{LiesIn}
use Rattle.pict_gather.specs.Reading.{Read, Reads, Lexes, HasVerdict, names_with, end_of}
use Rattle.pict_gather.proofs.OneAfterAnother.{accepted_then, refused_then}

lies : (n : ℕ) (text : List ℕ) (span : Span) → HasBytesIn n text span → LiesIn n text span
lies n text span h = record { named = h.named; ordered = omega (arith, h.some); within = h.within }

module _ (names : List (List ℕ)) (n : ℕ) (text : List ℕ) where
  abbrev Tokens : List Piece → List Token
  Tokens ps = tokens_of (names_with names ps) n 0 ps

  abbrev Parses : List Piece → Phase Stop Program → Type 0
  Parses ps = HasVerdict (Tokens ps) (end_of n text)

  abbrev Made : List Piece → Program → Phase Stop Read → Type 0
  Made ps p read = read ≡ accepts (record { names = names_with names ps; program = p })

  tokens_lie : (ps : List Piece) → IsWholeCut text ps → All (λ t. HasBytesIn n text t.span) (Tokens ps)
  tokens_lie ps cut = reading_lies (names_with names ps) n text ps (Tokens ps) cut refl

  -- some token of this text
  abbrev any_token : Token
  any_token = record { kind = Number (pos 0); span = record { text = n; start = 0; end = 0 } }

  at_token : (ps : List Piece) → IsWholeCut text ps → (i : ℕ) (span : Span) → i < length (Tokens ps) → StandsAt (Tokens ps) i span → LiesIn n text span
  at_token ps cut i span below place = subst (LiesIn n text) (place any_token) (lies n text _ (tokens_lie ps cut i any_token below))

  at_end : (span : Span) → end_of n text ≡ span → LiesIn n text span
  at_end span place = subst (LiesIn n text) place (record { named = refl; ordered = omega arith; within = omega arith })

  verdict_lies : (ps : List Piece) → IsWholeCut text ps → (code : Code) (span : Span) → Parses ps (refuses (code, span)) → LiesIn n text span
  verdict_lies ps cut code span (inl (is, inl wrong)) = at_token ps cut wrong.index span wrong.wrong.0 wrong.place
  verdict_lies ps cut code span (inl (is, inr ended)) = at_end span ended.place
  verdict_lies ps cut code span (inr (is, nested)) = at_token ps cut nested.index span nested.nested.0.0 nested.place

  pub refusal_lies : (code : Code) (span : Span) → Reads names n text (refuses (code, span)) → LiesIn n text span
  refusal_lies code span reads =
      elim (refused_then (Lexes n text) (λ ps. Then (Parses ps) (Made ps)) (code, span) reads) [
        | inl stop ↦ lies n text span (stop_lies n text code span stop)
        | inr (ps, cut, next) ↦ elim (refused_then (Parses ps) (Made ps) (code, span) next) [
          | inl refused ↦ verdict_lies ps cut code span refused
          | inr (p, is, made) ↦ absurd cc
        ]
      ]

-- ---- imports

module _ (P : Span → Type 0) where
  abbrev Hold : List Token → Type 0
  Hold ts = AllByRecursion (λ t. P t.span) ts

  split : (us vs : List Token) → Hold (us ++ vs) → Hold us × Hold vs
  split [] vs h = (tt, h)
  split (u ∷ us) vs h = let r = split us vs h.1 in ((h.0, r.0), r.1)

  string_stands : (x : Import) (ts : List Token) → IsImport x ts → Hold ts → P x.span
  string_stands x ts (us, vs, is, word, string) h = (subst Hold string (split us vs (subst Hold (sym is) h)).1).0

  imports_stand : (xs : List Import) (ts : List Token) → AreImports xs ts → Hold ts → AllByRecursion (λ x. P x.span) xs
  unfolding AreImports
  imports_stand [] ts is h = tt
  imports_stand (x ∷ xs) ts (us, vs, is, one, others) h =
      let parts = split us vs (subst Hold (sym is) h) in (string_stands x us one parts.0, imports_stand xs vs others parts.1)

  program_imports : (p : Program) (ts : List Token) → programs.tree ts p → Hold ts → AllByRecursion (λ x. P x.span) p.imports
  program_imports p ts (us, vs, is, imports, decs) h = imports_stand p.imports us imports (split us vs (subst Hold (sym is) h)).0

by_recursion : {A : Type 0} (P : A → Type 0) (xs : List A) → All P xs → AllByRecursion P xs
by_recursion P [] h = tt
by_recursion P (x ∷ xs) h = (h zero x (omega arith), by_recursion P xs (λ k d below. h (suc k) d (omega arith)))

pub program_is : (a b : Read) → (let said : Read → Phase Stop Read = λ r. accepts r in said a ≡ said b) → a ≡ b
program_is a b e = cc

pub imports_lie : (names : List (List ℕ)) (n : ℕ) (text : List ℕ) (r : Read) → Reads names n text (accepts r) → AllByRecursion (λ x. LiesIn n text x.span) r.program.imports
imports_lie names n text r reads =
    let cut = accepted_then (Lexes n text) (λ ps. Then (Parses names n text ps) (Made names n text ps)) r reads in
    let parsed = accepted_then (Parses names n text cut.0) (Made names n text cut.0) r cut.2 in
    let tokens : List Token = Tokens names n text cut.0 in
    let all : All (λ t. LiesIn n text t.span) tokens = λ i d below. lies n text _ (tokens_lie names n text cut.0 cut.1 i d below) in
    let here = program_imports (LiesIn n text) parsed.0 tokens parsed.1.tree (by_recursion (λ t. LiesIn n text t.span) tokens all) in
    subst (λ (q : Read). AllByRecursion (λ x. LiesIn n text x.span) q.program.imports)
    (sym (program_is r (record { names = names_with names cut.0; program = parsed.0 }) parsed.2)) here
