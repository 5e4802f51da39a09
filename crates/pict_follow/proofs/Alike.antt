-- Where a token may stand behind others, so may each one of its kind: behind declarations by the parser's states, and behind
-- imports by the two tokens of each.
use Rattle.std.proofs.Common.{◌≡◌, ℕ, List, [], ◌∷◌, ◌++◌, inl, inr, refl, sym, ap, subst, ◌∙◌, ◌⊎◌, ◌↔◌, Bool, IsTrue, Result, Ok, Err, IfOk}
use Rattle.std.specs.declared.alloc.AllocError.{AllocError}
use Rattle.pict_syntax.specs.declared.span.Span.{Span}
use Rattle.pict_syntax.specs.declared.token.Token.{Token}
use Rattle.pict_syntax.specs.declared.token.TokenKind.{TokenKind}
use Rattle.pict_syntax.specs.declared.token.TokenKind.TheVariants.{Keyword, String}
use Rattle.pict_syntax.specs.declared.token.Keyword.TheVariants.{Import as ImportKeyword}
use Rattle.pict_syntax.specs.Phrases.{token}
use Rattle.pict_syntax.specs.Place.{IsPrefix}
use Rattle.pict_syntax.specs.Programs.{declarations, programs}
use Rattle.pict_automaton.specs.Places.{State, stop}
use Rattle.pict_automaton.specs.Machine.{step, run, start}
use Rattle.pict_automaton.proofs.Finish.{Going}
use Rattle.pict_automaton.proofs.Programs.{run_append, no_prefix, prefix_of}
use Rattle.pict_programs.proofs.Beginnings.{after_keyword, BeginsWithout}
use Rattle.pict_programs.proofs.OneImport.{keyword_begins, no_string, prefix_on, prefix_behind}
use Rattle.pict_programs.proofs.NoImport.{prefix_down, prefix_up}
use Rattle.pict_follow.specs.declared.class.Class.{Class}
use Rattle.pict_follow.specs.Classes.{class_of, sample}
use Rattle.pict_follow.specs.Follow.{CanFollow, KindsDecide}
use Rattle.pict_follow.proofs.Said.{said_by, says_the_same, sample_class}
use Rattle.pict_follow.proofs.KeepsValues.{step_keeps}

-- the parser's state behind a token
goes_on_alike : (k m : TokenKind) (i j : Span) (x : State) → class_of k ≡ class_of m → Going (step k i x) → Going (step m j x)
goes_on_alike k m i j x e g = subst (λ l. Going (step l j x)) (says_the_same k m e) (step_keeps (said_by m) i j k x g)

goes_or_stops : (x : State) → Going x ⊎ (x ≡ stop)
goes_or_stops stop = inr refl
goes_or_stops _ = inl tt

-- tokens with which some declarations begin
going_by : (ts : List Token) → Going (run start ts) ⊎ (run start ts ≡ stop) → IsPrefix declarations ts → Going (run start ts)
going_by ts (inl g) h = g
going_by ts (inr e) h = absurd (no_prefix ts e h)

going : (ts : List Token) → IsPrefix declarations ts → Going (run start ts)
going ts h = going_by ts (goes_or_stops (run start ts)) h

declared : (ts : List Token) (t u : Token) → class_of t.kind ≡ class_of u.kind → IsPrefix declarations (ts ++ t ∷ []) → IsPrefix declarations (ts ++ u ∷ [])
declared ts t u e h =
    let g : Going (step t.kind t.span (run start ts)) = subst Going (run_append start ts (t ∷ [])) (going (ts ++ t ∷ []) h) in
    prefix_of (ts ++ u ∷ []) (subst Going (sym (run_append start ts (u ∷ []))) (goes_on_alike t.kind u.kind t.span u.span (run start ts) e g))

-- what is to be shown of tokens
abbrev HoldsOf : List Token → Type 0
HoldsOf ts = (t u : Token) → class_of t.kind ≡ class_of u.kind → IsPrefix programs (ts ++ t ∷ []) → IsPrefix programs (ts ++ u ∷ [])

without : (ts : List Token) (t u : Token) → BeginsWithout (ts ++ t ∷ []) → class_of t.kind ≡ class_of u.kind → IsPrefix programs (ts ++ t ∷ []) → IsPrefix programs (ts ++ u ∷ [])
without ts t u b e h = prefix_up (ts ++ u ∷ []) (declared ts t u e (prefix_down (ts ++ t ∷ []) b h))

-- the first token
import_alike : (m : TokenKind) (j : Span) → class_of (Keyword ImportKeyword) ≡ class_of m → IsPrefix programs (token m j ∷ [])
import_alike (Keyword ImportKeyword) j e = keyword_begins j
import_alike m j e = absurd cc

first : (k m : TokenKind) (i j : Span) → class_of k ≡ class_of m → IsPrefix programs (token k i ∷ []) → IsPrefix programs (token m j ∷ [])
first (Keyword ImportKeyword) m i j e h = import_alike m j e
first k m i j e h = without [] (token k i) (token m j) tt e h

-- behind one token
string_alike : (n : List ℕ) (m : TokenKind) (i j : Span) → class_of (String n) ≡ class_of m → IsPrefix programs (after_keyword i (token m j ∷ []))
string_alike n (String o) i j e = prefix_on i o j [] (prefix_up [] (prefix_of [] tt))
string_alike n m i j e = absurd cc

second : (a k m : TokenKind) (i j l : Span) → class_of k ≡ class_of m → IsPrefix programs (token a i ∷ token k j ∷ []) → IsPrefix programs (token a i ∷ token m l ∷ [])
second (Keyword ImportKeyword) (String n) m i j l e h = string_alike n m i l e
second (Keyword ImportKeyword) k m i j l e h = absurd (no_string i (token k j) [] tt h)
second a k m i j l e h = without (token a i ∷ []) (token k j) (token m l) tt e h

-- behind two and more
later : (a b : TokenKind) (i j : Span) (ts : List Token) → HoldsOf ts → HoldsOf (token a i ∷ token b j ∷ ts)
later (Keyword ImportKeyword) (String n) i j ts more t u e h = prefix_on i n j (ts ++ u ∷ []) (more t u e (prefix_behind i n j (ts ++ t ∷ []) h))
later (Keyword ImportKeyword) b i j ts more t u e h = absurd (no_string i (token b j) (ts ++ t ∷ []) tt h)
later a b i j ts more t u e h = without (token a i ∷ token b j ∷ ts) t u tt e h

pub kinds_decide : KindsDecide
kinds_decide [] t u e h = first t.kind u.kind t.span u.span e h
kinds_decide (a ∷ []) t u e h = second a.kind t.kind u.kind a.span t.span u.span e h
kinds_decide (a ∷ b ∷ ts) t u e h = later a.kind b.kind a.span b.span ts (kinds_decide ts) t u e h

-- a token of this kind may stand exactly where its sample may
pub by_sample : (ts : List Token) (class : Class) → IsPrefix programs (ts ++ sample class ∷ []) ↔ CanFollow ts class
by_sample ts class = (
  (λ h. (sample class, sample_class class, h)),
  (λ f. kinds_decide ts f.0 (sample class) (f.1 ∙ sym (sample_class class)) f.2),
)

followed_by : (ts : List Token) (class : Class) (r : Result Bool AllocError) → IfOk r (λ b. IsTrue b ↔ IsPrefix programs (ts ++ sample class ∷ [])) → IfOk r (λ b. IsTrue b ↔ CanFollow ts class)
followed_by ts class (Ok b) h = let s = by_sample ts class in ((λ t. s.0 (h.0 t)), (λ f. h.1 (s.1 f)))
followed_by ts class (Err e) h = tt

-- the verdict on these tokens and the sample says whether a token of its kind may stand behind them
pub followed : (ts us : List Token) (t : Token) (class : Class) (r : Result Bool AllocError) → us ≡ ts ++ t ∷ [] → t ≡ sample class
    → IfOk r (λ b. IsTrue b ↔ IsPrefix programs us) → IfOk r (λ b. IsTrue b ↔ CanFollow ts class)
followed ts us t class r e f h = followed_by ts class r (subst (λ l. IfOk r (λ b. IsTrue b ↔ IsPrefix programs l)) (e ∙ ap (λ z. ts ++ z ∷ []) f) h)
