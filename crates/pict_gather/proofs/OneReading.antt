-- One text comes to exactly one thing: by the laws of tokens and of the grammar.
use Rattle.std.proofs.Common.{◌≡◌, inl, inr, ℕ, refl, ap, List}
use Rattle.pict_syntax.specs.declared.code.Code.{Code}
use Rattle.pict_syntax.specs.declared.code.Code.TheVariants.{P1, P2}
use Rattle.pict_syntax.specs.declared.span.Span.{Span}
use Rattle.pict_syntax.specs.declared.token.Token.{Token}
use Rattle.pict_syntax.specs.Cuts.{Piece, IsWholeCut, IsLexStop, tokens_of}
use Rattle.pict_syntax.specs.Programs.{Program, programs}
use Rattle.pict_syntax.specs.Verdicts.{Verdict, Whole, Unexpected, TooNested, IsVerdict}
use Rattle.pict_syntax.proofs.LawLemmas.{one_whole_cut, stop_excludes_whole_cut, one_stop}
use Rattle.pict_syntax.specs.Stops.{Stop}
use Rattle.pict_total.proofs.Cuts.{some_whole_cut}
use Rattle.pict_programs.proofs.Once.{one_verdict}
use Rattle.pict_programs.proofs.Some.{some_verdict}
use Rattle.pict_gather.specs.Phases.{Phase, accepts, refuses, Then, Exactly}
use Rattle.pict_gather.specs.Reading.{Read, Lexes, HasVerdict, names_with, end_of}
use Rattle.pict_gather.specs.Laws.{OneReading}
use Rattle.pict_gather.proofs.OneAfterAnother.{one_then}

same_refusal : {A : Type 0} (c d : Code) (i j : Span) → c ≡ d → i ≡ j → let refused : Code → Span → Phase Stop A = λ c i. refuses (c, i) in refused c i ≡ refused d j
same_refusal c d i j e f = cc

one_lexes : (number : ℕ) (text : List ℕ) → Exactly (Lexes number text)
one_lexes number text = elim (some_whole_cut number text) [
  | inl (pieces, whole) ↦ (accepts pieces, whole, against_cut pieces whole)
  | inr (code, span, stop) ↦ (refuses (code, span), stop, against_stop code span stop)
]
  where
    against_cut : (pieces : List Piece) → IsWholeCut text pieces → (other : Phase Stop (List Piece)) → Lexes number text other → other ≡ accepts pieces
    against_cut pieces whole (accepts others) also = ap accepts (one_whole_cut text others pieces also whole)
    against_cut pieces whole (refuses (code, span)) stop = absurd (stop_excludes_whole_cut number text code span pieces stop whole)

    against_stop : (code : Code) (span : Span) → IsLexStop number text code span → (other : Phase Stop (List Piece)) → Lexes number text other → other ≡ refuses (code, span)
    against_stop code span stop (accepts pieces) whole = absurd (stop_excludes_whole_cut number text code span pieces stop whole)
    against_stop code span stop (refuses (c, i)) s = let both = one_stop number text c code i span s stop in same_refusal c code i span both.0 both.1

one_parses : (tokens : List Token) (end : Span) → Exactly (HasVerdict tokens end)
one_parses tokens end = let some = some_verdict tokens end in answer some.0 some.1
  where
    one : (v w : Verdict Program) → IsVerdict programs tokens end v → IsVerdict programs tokens end w → v ≡ w
    one v w = one_verdict tokens end v w

    against_whole : (p : Program) → IsVerdict programs tokens end (Whole p) → (other : Phase Stop Program) → HasVerdict tokens end other → other ≡ accepts p
    against_whole p is (accepts q) also = let e = one (Whole q) (Whole p) also is in cc
    against_whole p is (refuses (d, i)) (inl (e, also)) = let f = one (Unexpected i) (Whole p) also is in cc
    against_whole p is (refuses (d, i)) (inr (e, also)) = let f = one (TooNested i) (Whole p) also is in cc

    against_unexpected : (span : Span) → IsVerdict programs tokens end (Unexpected span) → (other : Phase Stop Program) → HasVerdict tokens end other → other ≡ refuses (P1, span)
    against_unexpected span is (accepts q) also = let e = one (Whole q) (Unexpected span) also is in cc
    against_unexpected span is (refuses (d, i)) (inl (e, also)) = let f = one (Unexpected i) (Unexpected span) also is in cc
    against_unexpected span is (refuses (d, i)) (inr (e, also)) = let f = one (TooNested i) (Unexpected span) also is in cc

    against_nested : (span : Span) → IsVerdict programs tokens end (TooNested span) → (other : Phase Stop Program) → HasVerdict tokens end other → other ≡ refuses (P2, span)
    against_nested span is (accepts q) also = let e = one (Whole q) (TooNested span) also is in cc
    against_nested span is (refuses (d, i)) (inl (e, also)) = let f = one (Unexpected i) (TooNested span) also is in cc
    against_nested span is (refuses (d, i)) (inr (e, also)) = let f = one (TooNested i) (TooNested span) also is in cc

    answer : (v : Verdict Program) → IsVerdict programs tokens end v → Exactly (HasVerdict tokens end)
    answer (Whole p) is = (accepts p, is, against_whole p is)
    answer (Unexpected span) is = (refuses (P1, span), inl (refl, is), against_unexpected span is)
    answer (TooNested span) is = (refuses (P2, span), inr (refl, is), against_nested span is)

pub one_reading : OneReading
one_reading names number text =
    let Parses : List Piece → Phase Stop Program → Type 0 = λ pieces. HasVerdict (tokens_of (names_with names pieces) number 0 pieces) (end_of number text) in
    let Made : List Piece → Program → Phase Stop Read → Type 0 = λ pieces program read. read ≡ accepts (record { names = names_with names pieces; program = program }) in
    one_then (Lexes number text) (λ pieces. Then (Parses pieces) (Made pieces)) (one_lexes number text) (λ pieces.
    one_then (Parses pieces) (Made pieces) (one_parses (tokens_of (names_with names pieces) number 0 pieces) (end_of number text)) (λ program.
    (accepts (record { names = names_with names pieces; program = program }), refl, λ read is. is)))
