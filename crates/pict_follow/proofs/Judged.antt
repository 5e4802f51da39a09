-- What the verdict on tokens says of whether they are whole and whether they can go on.
use Rattle.std.proofs.Common.{◌≡◌, ℕ, inl, inr, Bool, true, false, not, nat_eq, List, refl, sym, ap, subst, ◌∙◌, arith, ◌⊎◌, ◌↔◌, IsTrue, Option, Some, Result, Ok, IfOk}
use Rattle.std.specs.declared.alloc.AllocError.{AllocError}
use Rattle.std.proofs.lemmas.Bool.Decides.{nat_tests}
use Rattle.pict_syntax.specs.declared.span.Span.{Span}
use Rattle.pict_syntax.specs.declared.token.Token.{Token}
use Rattle.pict_syntax.specs.Programs.{Program, programs}
use Rattle.pict_syntax.specs.Verdicts.{Verdict, Whole, Unexpected, TooNested, IsVerdict, IsWhole, IsUnexpectedToken, IsUnexpectedEnd, IsTooNested, end_place}
use Rattle.pict_parse.specs.Answers.{Answers}
use Rattle.pict_follow.specs.Follow.{AreWhole, CanGoOn, first_end, other_end}
use Rattle.pict_follow.proofs.Last.{of_whole, token_stops, place_starts, end_starts}

-- the only verdict that an answer allows
abbrev pub Only : List Token → ℕ → Option (Verdict Program) → Type 0
Only ts end said = (v : Verdict Program) → IsVerdict programs ts (end_place ts end) v → Answers said v

-- an answer that says something else
other_than : (v w : Verdict Program) → (v ≡ w → ⊥) → Answers (Some v) w → ⊥
other_than v w n (inl e) = n cc
other_than v w n (inr e) = cc

unexpected_is_no_whole : (s : Span) (p : Program) → Unexpected s ≡ Whole p → ⊥
unexpected_is_no_whole s p e = cc

nested_is_no_whole : (s : Span) (p : Program) → TooNested s ≡ Whole p → ⊥
nested_is_no_whole s p e = cc

pub not_whole_unexpected : (ts : List Token) (end : ℕ) (s : Span) → Only ts end (Some (Unexpected s)) → AreWhole ts → ⊥
not_whole_unexpected ts end s only (p, w) = other_than (Unexpected s) (Whole p) (unexpected_is_no_whole s p) (only (Whole p) w)

pub not_whole_nested : (ts : List Token) (end : ℕ) (s : Span) → Only ts end (Some (TooNested s)) → AreWhole ts → ⊥
not_whole_nested ts end s only (p, w) = other_than (TooNested s) (Whole p) (nested_is_no_whole s p) (only (Whole p) w)

pub whole_goes_on : (ts : List Token) (p : Program) → IsWhole programs ts p → CanGoOn ts
whole_goes_on ts p w = (of_whole ts p w, w.shallow)

-- tokens of which one is nested too deep
pub nested_stops : (ts : List Token) (s : Span) → IsTooNested programs ts s → CanGoOn ts → ⊥
nested_stops ts s u g = g.1 u.index u.nested.0.0 u.nested.0

-- the end of tokens that go on moves with the end of the text
at_other : (ts : List Token) (s : Span) → IsUnexpectedEnd programs ts (end_place ts first_end) s → IsUnexpectedEnd programs ts (end_place ts other_end) (end_place ts other_end)
at_other ts s u = record { wrong = u.wrong; shallow = u.shallow; place = refl }

goes : (ts : List Token) (s : Span) → IsUnexpectedEnd programs ts (end_place ts first_end) s → CanGoOn ts
goes ts s u = (u.wrong.0, u.shallow)

-- a wrong token is told at its own place, whatever the end
told_token : (ts : List Token) (s o : Span) → Only ts other_end (Some (Unexpected o)) → IsUnexpectedToken programs ts s → Answers {A = Program} (Some (Unexpected o)) (Unexpected s)
told_token ts s o only u = only (Unexpected s) (inl u)

told_end : (ts : List Token) (s o : Span) → Only ts other_end (Some (Unexpected o)) → IsUnexpectedEnd programs ts (end_place ts first_end) s → Answers {A = Program} (Some (Unexpected o)) (Unexpected (end_place ts other_end))
told_end ts s o only u = only (Unexpected (end_place ts other_end)) (inr (at_other ts s u))

same_place : (o s : Span) → Answers {A = Program} (Some (Unexpected o)) (Unexpected s) → o ≡ s
same_place o s (inl e) = cc
same_place o s (inr e) = absurd cc

pub judged : (ts : List Token) (s o : Span) (b : Bool) → b ≡ not (nat_eq o.start s.start) → Only ts other_end (Some (Unexpected o))
    → IsUnexpectedToken programs ts s ⊎ IsUnexpectedEnd programs ts (end_place ts first_end) s → IsTrue b ↔ CanGoOn ts
judged ts s o true e only (inl u) =
    let p : o.start ≡ s.start = ap (λ z. z.start) (same_place o s (told_token ts s o only u)) in absurd (grind (arith, nat_tests, p, e))
judged ts s o false e only (inl u) = (λ t. absurd cc, λ g. absurd (token_stops ts s u g.0))
judged ts s o true e only (inr u) = (λ t. goes ts s u, λ g. refl)
judged ts s o false e only (inr u) =
    let p : o.start ≡ 2 = ap (λ z. z.start) (same_place o (end_place ts other_end) (told_end ts s o only u)) ∙ place_starts ts other_end in
    let q : s.start ≡ 1 = end_starts ts first_end s u in
    absurd (grind (arith, nat_tests, p, q, e))

pub tested_end : (ts : List Token) (s o : Span) (r : Result Bool AllocError) → r ≡ Ok (not (nat_eq o.start s.start)) → Only ts other_end (Some (Unexpected o))
    → IsUnexpectedToken programs ts s ⊎ IsUnexpectedEnd programs ts (end_place ts first_end) s → IfOk r (λ b. IsTrue b ↔ CanGoOn ts)
tested_end ts s o r h only u = subst (λ x. IfOk x (λ b. IsTrue b ↔ CanGoOn ts)) (sym h) (judged ts s o (not (nat_eq o.start s.start)) refl only u)

-- another end makes no program of tokens that are refused, and nests nothing deeper
pub never_whole : (ts : List Token) (s : Span) (p : Program) → IsUnexpectedToken programs ts s ⊎ IsUnexpectedEnd programs ts (end_place ts first_end) s → IsWhole programs ts p → ⊥
never_whole ts s p (inl u) w = token_stops ts s u (of_whole ts p w)
never_whole ts s p (inr u) w = u.wrong.1 p w.tree

apart : (v w : Verdict Program) (o s : Span) → v ≡ TooNested o → w ≡ Unexpected s → v ≡ w → ⊥
apart v w o s e f g = cc

nested_not_unexpected : (o s : Span) → Answers {A = Program} (Some (TooNested o)) (Unexpected s) → ⊥
nested_not_unexpected o s = other_than (TooNested o) (Unexpected s) (apart (TooNested o) (Unexpected s) o s refl refl)

pub never_nested : (ts : List Token) (s o : Span) → IsUnexpectedToken programs ts s ⊎ IsUnexpectedEnd programs ts (end_place ts first_end) s → Only ts other_end (Some (TooNested o)) → ⊥
never_nested ts s o (inl u) only = nested_not_unexpected o s (only (Unexpected s) (inl u))
never_nested ts s o (inr u) only = nested_not_unexpected o (end_place ts other_end) (only (Unexpected (end_place ts other_end)) (inr (at_other ts s u)))
