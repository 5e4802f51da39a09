-- Where a list of tokens has at most one tree of a grammar, it has at most one verdict.
use Rattle.std.proofs.Common.{◌≡◌, ℕ, ◌+◌, ◌<◌, ◌≤◌, inl, inr, Bool, true, false, nat_lt, List, [], ◌++◌, take, drop, refl, sym, ap, subst, ◌∙◌, arith, append_assoc, take-append-drop, take-take, append-nil, get_or}
use Rattle.std.proofs.lemmas.Bool.Decides.{nat_tests}
use Rattle.pict_syntax.specs.declared.token.Token.{Token}
use Rattle.pict_syntax.specs.declared.token.TokenKind.TheVariants.{Sign}
use Rattle.pict_syntax.specs.declared.token.Sign.TheVariants.{Bang}
use Rattle.pict_syntax.specs.declared.span.Span.{Span}
use Rattle.pict_syntax.specs.Place.{Grammar, IsPrefix, IsFirstWrong, IsTooNestedAt, IsFirstTooNested, OneTree}
use Rattle.pict_syntax.specs.Programs.{declarations}
use Rattle.pict_syntax.specs.Verdicts.{IsShallowBefore, Whole, Unexpected, TooNested, OneVerdict, StandsAt}
use Rattle.pict_automaton.proofs.Programs.{one_tree}

any_token : Token
any_token = record { kind = Sign Bang; span = record { text = 0; start = 0; end = 0 } }

data Order (i j : ℕ) : Type 0 where
  less : i < j → Order i j
  same : i ≡ j → Order i j
  more : j < i → Order i j

order_by : (i j : ℕ) (a b : Bool) → nat_lt i j ≡ a → nat_lt j i ≡ b → Order i j
order_by i j true b e f = less (grind (arith, nat_tests))
order_by i j false true e f = more (grind (arith, nat_tests))
order_by i j false false e f = same (grind (arith, nat_tests))

order : (i j : ℕ) → Order i j
order i j = order_by i j (nat_lt i j) (nat_lt j i) refl refl

-- what stands before a beginning of a tree begins one
shorter : {A : Type 0} (g : Grammar A) (a b : List Token) → IsPrefix g (a ++ b) → IsPrefix g a
shorter g a b (rest, p, t) = (b ++ rest, p, subst (λ l. g.tree l p) (append_assoc a b rest) t)

front : {A : Type 0} (g : Grammar A) (ts : List Token) (i j : ℕ) → i ≤ j → IsPrefix g (take j ts) → IsPrefix g (take i ts)
front g ts i j le h =
    let e : take i (take j ts) ++ drop i (take j ts) ≡ take j ts = take-append-drop i (take j ts) in
    subst (IsPrefix g) (take-take i j ts le) (shorter g (take i (take j ts)) (drop i (take j ts)) (subst (IsPrefix g) (sym e) h))

front_of_all : {A : Type 0} (g : Grammar A) (ts : List Token) (i : ℕ) → IsPrefix g ts → IsPrefix g (take i ts)
front_of_all g ts i h = shorter g (take i ts) (drop i ts) (subst (IsPrefix g) (sym (take-append-drop i ts)) h)

nested_begins : {A : Type 0} (g : Grammar A) (ts : List Token) (i : ℕ) → IsTooNestedAt g ts i → IsPrefix g (take (i + 1) ts)
nested_begins g ts i (h, rest, p, t, d) = (rest, p, t)

-- a wrong token and what goes on at or behind it
wrong_before : {A : Type 0} (g : Grammar A) (ts : List Token) (i j : ℕ) → IsFirstWrong g ts i → i < j → IsPrefix g (take j ts) → ⊥
wrong_before g ts i j w h p = w.2 (front g ts (i + 1) j (omega arith) p)

wrong_in_prefix : {A : Type 0} (g : Grammar A) (ts : List Token) (i : ℕ) → IsFirstWrong g ts i → IsPrefix g ts → ⊥
wrong_in_prefix g ts i w p = w.2 (front_of_all g ts (i + 1) p)

wrong_once : {A : Type 0} (g : Grammar A) (ts : List Token) (i j : ℕ) → IsFirstWrong g ts i → IsFirstWrong g ts j → Order i j → i ≡ j
wrong_once g ts i j v w (less h) = absurd (wrong_before g ts i j v h w.1)
wrong_once g ts i j v w (same e) = e
wrong_once g ts i j v w (more h) = absurd (wrong_before g ts j i w h v.1)

nested_once : {A : Type 0} (g : Grammar A) (ts : List Token) (i j : ℕ) → IsFirstTooNested g ts i → IsFirstTooNested g ts j → Order i j → i ≡ j
nested_once g ts i j v w (less h) = absurd (w.1 i h v.0)
nested_once g ts i j v w (same e) = e
nested_once g ts i j v w (more h) = absurd (v.1 j h w.0)

no_wrong_and_nested : {A : Type 0} (g : Grammar A) (ts : List Token) (i j : ℕ) → IsFirstWrong g ts i → IsShallowBefore g ts i → IsTooNestedAt g ts j → Order i j → ⊥
no_wrong_and_nested g ts i j w s n (less h) = wrong_before g ts i (j + 1) w (omega arith) (nested_begins g ts j n)
no_wrong_and_nested g ts i j w s n (same e) = wrong_before g ts i (j + 1) w (omega arith) (nested_begins g ts j n)
no_wrong_and_nested g ts i j w s n (more h) = s j h n

tree_begins : {A : Type 0} (g : Grammar A) (ts : List Token) (p : A) → g.tree ts p → IsPrefix g ts
tree_begins g ts p t = ([], p, subst (λ l. g.tree l p) (sym (append-nil ts)) t)

places : (ts : List Token) (i j : ℕ) (s r : Span) → StandsAt ts i s → StandsAt ts j r → i ≡ j → s ≡ r
places ts i j s r a b e = sym (a any_token) ∙ ap (λ k. (get_or ts k any_token).span) e ∙ b any_token

pub one_verdict_of : {A : Type 0} (g : Grammar A) → OneTree g → OneVerdict g
one_verdict_of g one ts end (Whole p) (Whole q) a b = ap Whole (one ts p q a.tree b.tree)
one_verdict_of g one ts end (Whole p) (Unexpected s) a (inl b) = absurd (wrong_in_prefix g ts b.index b.wrong (tree_begins g ts p a.tree))
one_verdict_of g one ts end (Whole p) (Unexpected s) a (inr b) = absurd (b.wrong.1 p a.tree)
one_verdict_of g one ts end (Whole p) (TooNested s) a b = absurd (a.shallow b.index b.nested.0.0 b.nested.0)
one_verdict_of g one ts end (Unexpected s) (Whole q) (inl a) b = absurd (wrong_in_prefix g ts a.index a.wrong (tree_begins g ts q b.tree))
one_verdict_of g one ts end (Unexpected s) (Whole q) (inr a) b = absurd (a.wrong.1 q b.tree)
one_verdict_of g one ts end (Unexpected s) (Unexpected r) (inl a) (inl b) = ap Unexpected (places ts a.index b.index s r a.place b.place (wrong_once g ts a.index b.index a.wrong b.wrong (order a.index b.index)))
one_verdict_of g one ts end (Unexpected s) (Unexpected r) (inl a) (inr b) = absurd (wrong_in_prefix g ts a.index a.wrong b.wrong.0)
one_verdict_of g one ts end (Unexpected s) (Unexpected r) (inr a) (inl b) = absurd (wrong_in_prefix g ts b.index b.wrong a.wrong.0)
one_verdict_of g one ts end (Unexpected s) (Unexpected r) (inr a) (inr b) = ap Unexpected (sym a.place ∙ b.place)
one_verdict_of g one ts end (Unexpected s) (TooNested r) (inl a) b = absurd (no_wrong_and_nested g ts a.index b.index a.wrong a.shallow b.nested.0 (order a.index b.index))
one_verdict_of g one ts end (Unexpected s) (TooNested r) (inr a) b = absurd (a.shallow b.index b.nested.0.0 b.nested.0)
one_verdict_of g one ts end (TooNested s) (Whole q) a b = absurd (b.shallow a.index a.nested.0.0 a.nested.0)
one_verdict_of g one ts end (TooNested s) (Unexpected r) a (inl b) = absurd (no_wrong_and_nested g ts b.index a.index b.wrong b.shallow a.nested.0 (order b.index a.index))
one_verdict_of g one ts end (TooNested s) (Unexpected r) a (inr b) = absurd (b.shallow a.index a.nested.0.0 a.nested.0)
one_verdict_of g one ts end (TooNested s) (TooNested r) a b = ap TooNested (places ts a.index b.index s r a.place b.place (nested_once g ts a.index b.index a.nested b.nested (order a.index b.index)))

pub one_verdict : OneVerdict declarations
one_verdict = one_verdict_of declarations one_tree
