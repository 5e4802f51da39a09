-- The verdict on tokens of which the last one is tried.
use Rattle.std.proofs.Common.{◌≡◌, ℕ, ◌+◌, ◌<◌, ◌≤◌, inl, inr, Bool, true, false, nat_lt, nat_eq, List, [], ◌++◌, length, take, drop, refl, sym, ap, subst, ◌∙◌, arith, append_assoc, take-append-drop, take-take, append-nil, get_or, ◌∷◌, ◌⊎◌, ◌↔◌, IsTrue}
use Rattle.std.proofs.Math.Seq.{get_or-append_seam, take-length, take-append_seam}
use Rattle.std.proofs.lemmas.List.{take-append-le, length-append}
use Rattle.std.proofs.lemmas.Bool.Decides.{nat_tests}
use Rattle.pict_syntax.specs.declared.token.Token.{Token}
use Rattle.pict_syntax.specs.declared.token.TokenKind.TheVariants.{Sign}
use Rattle.pict_syntax.specs.declared.token.Sign.TheVariants.{Bang}
use Rattle.pict_syntax.specs.declared.span.Span.{Span}
use Rattle.pict_syntax.specs.Place.{IsPrefix, IsFirstWrong, IsTooNestedAt}
use Rattle.pict_syntax.specs.Programs.{Program, programs}
use Rattle.pict_syntax.specs.Verdicts.{IsShallowBefore, IsWhole, IsUnexpectedToken, IsUnexpectedEnd, IsTooNested, end_place}
use Rattle.pict_syntax.specs.Verdicts.{IsVerdict}
use Rattle.std.specs.Prelude.{Result, Ok, Err, IfOk, IfSome}
use Rattle.std.specs.declared.alloc.AllocError.{AllocError}
use Rattle.pict_parse.specs.Answers.{refused}
use Rattle.pict_parse.specs.declared.entry.ParseError.{ParseError}
use Rattle.pict_parse.specs.declared.entry.ParseError.TheVariants as answer
use Rattle.pict_follow.specs.Follow.{IsAsked}

any_token : Token
any_token = record { kind = Sign Bang; span = record { text = 0; start = 0; end = 0 } }

data Order (i j : ℕ) : Type 0 where
  less : i < j → Order i j
  least : j ≤ i → Order i j

order_by : (i j : ℕ) (a : Bool) → nat_lt i j ≡ a → Order i j
order_by i j true e = less (grind (arith, nat_tests))
order_by i j false e = least (grind (arith, nat_tests))

order : (i j : ℕ) → Order i j
order i j = order_by i j (nat_lt i j) refl

shorter : (a b : List Token) → IsPrefix programs (a ++ b) → IsPrefix programs a
shorter a b (rest, p, t) = (b ++ rest, p, subst (λ l. programs.tree l p) (append_assoc a b rest) t)

front : (ts : List Token) (i j : ℕ) → i ≤ j → IsPrefix programs (take j ts) → IsPrefix programs (take i ts)
front ts i j le h =
    let e : take i (take j ts) ++ drop i (take j ts) ≡ take j ts = take-append-drop i (take j ts) in
    subst (IsPrefix programs) (take-take i j ts le) (shorter (take i (take j ts)) (drop i (take j ts)) (subst (IsPrefix programs) (sym e) h))

front_of_all : (ts : List Token) (i : ℕ) → IsPrefix programs ts → IsPrefix programs (take i ts)
front_of_all ts i h = shorter (take i ts) (drop i ts) (subst (IsPrefix programs) (sym (take-append-drop i ts)) h)

all_of : (ts : List Token) (n : ℕ) → length ts ≡ n → take n ts ≡ ts
all_of ts n h = ap (λ m. take m ts) (sym h) ∙ take-length ts

pub of_whole : (ts : List Token) (p : Program) → IsWhole programs ts p → IsPrefix programs ts
of_whole ts p a = ([], p, subst (λ l. programs.tree l p) (sym (append-nil ts)) a.tree)

-- a wrong token is the last one
is_last : (ts : List Token) (end i : ℕ) → IsAsked ts end → IsFirstWrong programs ts i → (n : ℕ) → length ts ≡ n + 1 → IsPrefix programs (take n ts) → Order i n → i ≡ n
is_last ts end i a w n e p (less h) = absurd (w.2 (front ts (i + 1) n (omega arith) p))
is_last ts end i a w n e p (least h) = let l : i < length ts = w.0 in grind (arith, e)

pub token_is_last : (ts : List Token) (end : ℕ) (s : Span) (a : IsAsked ts end) (u : IsUnexpectedToken programs ts s) → u.index ≡ a.before
token_is_last ts end s a u = is_last ts end u.index a u.wrong a.before a.count a.begins (order u.index a.before)

pub token_stops : (ts : List Token) (s : Span) → IsUnexpectedToken programs ts s → IsPrefix programs ts → ⊥
token_stops ts s u p = u.wrong.2 (front_of_all ts (u.index + 1) p)

pub token_starts : (ts : List Token) (end : ℕ) (s : Span) (a : IsAsked ts end) → IsUnexpectedToken programs ts s → s.start < end
token_starts ts end s a u =
    let at : (get_or ts u.index any_token).span ≡ s = u.place any_token in
    let here : (get_or ts a.before any_token).span ≡ s = subst (λ i. (get_or ts i any_token).span ≡ s) (token_is_last ts end s a u) at in
    subst (λ z. z.start < end) here (a.place any_token)

pub place_starts : (ts : List Token) (end : ℕ) → (end_place ts end).start ≡ end
place_starts [] end = refl
place_starts (t ∷ ts) end = refl

pub end_starts : (ts : List Token) (end : ℕ) (s : Span) → IsUnexpectedEnd programs ts (end_place ts end) s → s.start ≡ end
end_starts ts end s u = ap (λ z. z.start) (sym u.place) ∙ place_starts ts end

nested_last : (ts : List Token) (i n : ℕ) → length ts ≡ n + 1 → ((j : ℕ) → j < n → IsTooNestedAt programs ts j → ⊥) → IsTooNestedAt programs ts i → i < length ts → Order i n → i ≡ n
nested_last ts i n e s h l (less o) = absurd (s i o h)
nested_last ts i n e s h l (least o) = grind (arith, e)

prefix_at : (ts : List Token) (i : ℕ) → IsTooNestedAt programs ts i → IsPrefix programs (take (i + 1) ts)
prefix_at ts i (h, rest, p, t, d) = (rest, p, t)

pub of_nested : (ts : List Token) (end : ℕ) (s : Span) → IsAsked ts end → IsTooNested programs ts s → IsPrefix programs ts
of_nested ts end s a u =
    let e : u.index ≡ a.before = nested_last ts u.index a.before a.count a.shallow u.nested.0 u.nested.0.0 (order u.index a.before) in
    subst (IsPrefix programs) (all_of ts (u.index + 1) (a.count ∙ ap (λ m. m + 1) (sym e))) (prefix_at ts u.index u.nested.0)

-- the test of the place
pub unexpected : (ts : List Token) (end : ℕ) (s : Span) (b : Bool) → IsAsked ts end → b ≡ nat_eq s.start end → IsUnexpectedToken programs ts s ⊎ IsUnexpectedEnd programs ts (end_place ts end) s → IsTrue b ↔ IsPrefix programs ts
unexpected ts end s true a e (inl u) = let l : s.start < end = token_starts ts end s a u in absurd (grind (arith, nat_tests, l, e))
unexpected ts end s false a e (inl u) = (λ t. absurd cc, λ p. absurd (token_stops ts s u p))
unexpected ts end s true a e (inr u) = (λ t. u.wrong.0, λ p. refl)
unexpected ts end s false a e (inr u) = let l : s.start ≡ end = end_starts ts end s u in absurd (grind (arith, nat_tests, l, e))

-- the answers of the parser
pub nested_of : (ts : List Token) (end : Span) (e : ParseError) (s : Span) → e ≡ answer.TooNested s → IfSome (refused {A = Program} e) (IsVerdict programs ts end) → IsTooNested programs ts s
nested_of ts end e s h v = subst (λ x. IfSome (refused {A = Program} x) (IsVerdict programs ts end)) h v

pub unexpected_of : (ts : List Token) (end : Span) (e : ParseError) (s : Span) → e ≡ answer.Unexpected s → IfSome (refused {A = Program} e) (IsVerdict programs ts end) → IsUnexpectedToken programs ts s ⊎ IsUnexpectedEnd programs ts end s
unexpected_of ts end e s h v = subst (λ x. IfSome (refused {A = Program} x) (IsVerdict programs ts end)) h v

pub stands : (P : Type 0) (r : Result Bool AllocError) → r ≡ Ok true → P → IfOk r (λ b. IsTrue b ↔ P)
stands P r h p = subst (λ x. IfOk x (λ b. IsTrue b ↔ P)) (sym h) ((λ t. p), (λ q. refl))

pub stands_not : (P : Type 0) (r : Result Bool AllocError) → r ≡ Ok false → (P → ⊥) → IfOk r (λ b. IsTrue b ↔ P)
stands_not P r h n = subst (λ x. IfOk x (λ b. IsTrue b ↔ P)) (sym h) ((λ t. absurd cc), (λ p. absurd (n p)))

pub tested : (ts : List Token) (end : ℕ) (s : Span) (r : Result Bool AllocError) → r ≡ Ok (nat_eq s.start end) → IsAsked ts end → IsUnexpectedToken programs ts s ⊎ IsUnexpectedEnd programs ts (end_place ts end) s → IfOk r (λ b. IsTrue b ↔ IsPrefix programs ts)
tested ts end s r h a u = subst (λ x. IfOk x (λ b. IsTrue b ↔ IsPrefix programs ts)) (sym h) (unexpected ts end s (nat_eq s.start end) a refl u)

pub roomless : (P : Type 0) (e : AllocError) (r : Result Bool AllocError) → r ≡ Err e → IfOk r (λ b. IsTrue b ↔ P)
roomless P e r h = subst (λ x. IfOk x (λ b. IsTrue b ↔ P)) (sym h) tt

-- a token behind others is the last one
nested_in : (ts : List Token) (t : Token) (j : ℕ) → j < length ts → IsTooNestedAt programs (ts ++ t ∷ []) j → IsTooNestedAt programs ts j
nested_in ts t j below (h, rest, p, tr, d) = (below, rest, p, subst (λ l. programs.tree (l ++ rest) p) (take-append-le (j + 1) ts (t ∷ []) (omega arith)) tr, d)

pub asked_of : (ts : List Token) (t : Token) (end : ℕ) → IsPrefix programs ts → IsShallowBefore programs ts (length ts) → t.span.start < end → IsAsked (ts ++ t ∷ []) end
asked_of ts t end b sh h = record {
  before = length ts;
  count = length-append ts (t ∷ []);
  begins = subst (IsPrefix programs) (sym (take-append_seam ts (t ∷ []))) b;
  shallow = λ j below n. sh j below (nested_in ts t j below n);
  place = λ other. subst (λ u. u.span.start < end) (sym (get_or-append_seam ts t [] other)) h;
}
