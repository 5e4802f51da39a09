-- What the calls on one text answer is what tokens and grammar say of it.
use Rattle.std.proofs.Common.{◌≡◌, ◌⊎◌, inl, inr, ℕ, ◌+◌, List, [], ◌∷◌, length, Err, IfSome, refl, sym, ◌∙◌, ap, subst}
use Rattle.pict_syntax.specs.declared.code.Code.TheVariants.{P1, P2}
use Rattle.pict_syntax.specs.declared.span.Span.{Span}
use Rattle.pict_syntax.specs.declared.token.Token.{Token}
use Rattle.pict_syntax.specs.Cuts.{Piece, blank, comment, token, IsWholeCut, tokens_of}
use Rattle.pict_syntax.specs.Grammar.{AreDecs}
use Rattle.pict_syntax.specs.Programs.{Program, programs}
use Rattle.pict_syntax.specs.Trees.{no_decs}
use Rattle.pict_syntax.specs.Verdicts.{Verdict, Whole, Unexpected, TooNested, IsVerdict, end_place}
use Rattle.pict_syntax.proofs.LawLemmas.{one_whole_cut}
use Rattle.pict_syntax.specs.Stops.{Stop}
use Rattle.pict_lex.specs.Lex.{AreTokens, GainsNames, IsRefusal}
use Rattle.pict_lex.specs.declared.error.LexError.{LexError}
use Rattle.pict_lex.specs.declared.error.LexError.TheVariants as lex
use Rattle.pict_parse.specs.Answers.{refused}
use Rattle.pict_parse.specs.declared.entry.ParseError.{ParseError}
use Rattle.pict_parse.specs.declared.entry.ParseError.TheVariants as parse
use Rattle.pict_programs.proofs.NoImport.{alone, tree_alone}
use Rattle.pict_gather.specs.Phases.{Phase, accepts, refuses}
use Rattle.pict_gather.specs.Reading.{Read, Reads, names_with, end_of}
use Rattle.pict_gather.specs.Answers.{of_lex_error, of_parse_error, read_said}

-- ---- the end of a text

-- where a text has tokens, the first of them has its number
end_is : (names : List (List ℕ)) (n place : ℕ) (ps : List Piece) (end : ℕ)
    → (tokens_of names n place ps ≡ []) ⊎ (end_place (tokens_of names n place ps) end ≡ record { text = n; start = end; end = end })
end_is names n place [] end = inl refl
end_is names n place (blank byte ∷ ps) end = end_is names n (place + 1) ps end
end_is names n place (comment bytes ∷ ps) end = end_is names n (place + length bytes) ps end
end_is names n place (token bytes form ∷ ps) end = inr refl

empty_program : programs.tree [] (alone no_decs)
unfolding AreDecs
empty_program = tree_alone [] no_decs refl

-- no tokens are a program, wherever their text ends
at_any_end : (a b : Span) (v : Verdict Program) → IsVerdict programs [] a v → IsVerdict programs [] b v
at_any_end a b (Whole p) is = is
at_any_end a b (Unexpected span) (inl wrong) = inl wrong
at_any_end a b (Unexpected span) (inr ended) = absurd (ended.wrong.1 (alone no_decs) empty_program)
at_any_end a b (TooNested span) is = is

at_the_end : (names : List (List ℕ)) (n : ℕ) (text : List ℕ) (ps : List Piece) (v : Verdict Program)
    → IsVerdict programs (tokens_of names n 0 ps) (end_place (tokens_of names n 0 ps) (length text)) v → IsVerdict programs (tokens_of names n 0 ps) (end_of n text) v
at_the_end names n text ps v is = elim (end_is names n 0 ps (length text)) [
  | inl none ↦
      let place : Span = end_place (tokens_of names n 0 ps) (length text) in
      subst (λ ts. IsVerdict programs ts (end_of n text) v) (sym none) (at_any_end place (end_of n text) v (subst (λ ts. IsVerdict programs ts place v) none is))
  | inr same ↦ subst (λ place. IsVerdict programs (tokens_of names n 0 ps) place v) same is
]

-- ---- the calls

-- a text that is cut into pieces, its tokens, and the names before and afterwards
record IsRead (number : ℕ) (text : List ℕ) (old new : List (List ℕ)) (tokens : List Token) (ps : List Piece) : Type 0 where
  cut : IsWholeCut text ps
  tokens_are : tokens ≡ tokens_of new number 0 ps
  names_are : new ≡ names_with old ps

reading : (number : ℕ) (text : List ℕ) (old new : List (List ℕ)) (tokens : List Token) → AreTokens new number text tokens → GainsNames old new text → (ps : List Piece) × IsRead number text old new tokens ps
reading number text old new tokens (ps, cut, are) (qs, also, names) =
    (ps, record { cut = cut; tokens_are = are; names_are = names ∙ ap (names_with old) (one_whole_cut text qs ps also cut) })

-- cutting the text stops
pub cut_short : (old new : List (List ℕ)) (number : ℕ) (text : List ℕ) (e : LexError) → IsRefusal number text e → IfSome (read_said new (Err (of_lex_error e))) (Reads old number text)
cut_short old new number text (lex.Named code span) stop = (refuses (code, span), stop, refl)
cut_short old new number text lex.Memory stop = tt

module _ (old new : List (List ℕ)) (number : ℕ) (text : List ℕ) (tokens : List Token) (are : AreTokens new number text tokens) (gained : GainsNames old new text) where
  verdict_here : (v : Verdict Program) → IsVerdict programs tokens (end_place tokens (length text)) v
      → let r = reading number text old new tokens are gained in IsVerdict programs (tokens_of (names_with old r.0) number 0 r.0) (end_of number text) v
  verdict_here v is =
      let r = reading number text old new tokens are gained in
      subst (λ ns. IsVerdict programs (tokens_of ns number 0 r.0) (end_of number text) v) r.1.names_are
      (at_the_end new number text r.0 v (subst (λ ts. IsVerdict programs ts (end_place ts (length text)) v) r.1.tokens_are is))

  -- the text has a program
  pub read_whole : (p : Program) → IsVerdict programs tokens (end_place tokens (length text)) (Whole p) → Reads old number text (accepts (record { names = new; program = p }))
  read_whole p is =
      let r = reading number text old new tokens are gained in
      let made : List (List ℕ) → Phase Stop Read = λ ns. accepts (record { names = ns; program = p }) in
      (accepts r.0, r.1.cut, (accepts p, verdict_here (Whole p) is, ap made r.1.names_are))

  -- the grammar refuses it
  pub read_refused : (e : ParseError) → IfSome (refused {A = Program} e) (IsVerdict programs tokens (end_place tokens (length text))) → IfSome (read_said new (Err (of_parse_error e))) (Reads old number text)
  read_refused (parse.Unexpected span) is =
      let r = reading number text old new tokens are gained in
      (accepts r.0, r.1.cut, (refuses (P1, span), inl (refl, verdict_here (Unexpected span) is), refl))
  read_refused (parse.TooNested span) is =
      let r = reading number text old new tokens are gained in
      (accepts r.0, r.1.cut, (refuses (P2, span), inr (refl, verdict_here (TooNested span) is), refl))
  read_refused parse.Memory is = tt
