-- Lists that the rules go through: a list with one more is judged by the list and then by the one.
use Rattle.std.proofs.Common.{◌≡◌, ℕ, ◌+◌, ◌<◌, ◌≤◌, List, [], ◌∷◌, ◌++◌, length, get_or, take, take-suc, drop, refl, sym, ◌∙◌, ap, subst, add-one, append_assoc}
use Rattle.std.proofs.lemmas.List.{append-nil, take_all, take-append-drop}
use Rattle.pict_rules.specs.Environments.{Environment}
use Rattle.pict_rules.specs.Rules.{Sort, Judgement, Rule, part, ok, stuck}
use Rattle.pict_rules.specs.Rules as rules
use Rattle.pict_rules.specs.Typing.{rule}
use Rattle.pict_rules.specs.Derivations.{Runs, part_ok, part_stuck}
use Rattle.pict_rules.specs.Reached.{Asks, this_part, past_part}
use Rattle.pict_infer.specs.declared.error.InferError.{InferError}
use Rattle.pict_infer.specs.declared.error.InferError.TheVariants.{Named, Memory}
use Rattle.pict_infer.specs.Answering.{IsRefused}
use Rattle.pict_infer.specs.Asking.{IsWellAsked}
use Rattle.pict_infer.proofs.Asked.{asked_of}

-- a list of items that the rules judge in order: what is judged of so many, and how the rule goes on with one more
pub record Row (A : Type 0) (s : Sort) (e : Environment) : Type 0 where
  pub judged : List A → Judgement s
  pub next : List A → A → rules.Result s → Rule s
  pub more : (xs : List A) (x : A) → rule e (judged (xs ++ x ∷ [])) ≡ part e (judged xs) (next xs x)

-- a refusal of the first ones is one of all
refused_on : {A : Type 0} {s : Sort} {e : Environment} (w : Row A s e) (xs ys : List A) (y : InferError) → IsRefused (rule e (w.judged xs)) y → IsRefused (rule e (w.judged (xs ++ ys))) y
refused_on {e = e} w xs [] y h = subst (λ z. IsRefused (rule e (w.judged z)) y) (sym (append-nil xs)) h
refused_on {e = e} w xs (z ∷ ys) (Named c i told) h =
    subst (λ l. IsRefused (rule e (w.judged l)) (Named c i told)) (append_assoc xs (z ∷ []) ys)
    (refused_on w (xs ++ z ∷ []) ys (Named c i told) (subst (λ r. Runs r (stuck c i)) (sym (w.more xs z)) (part_stuck h)))
refused_on w xs (z ∷ ys) Memory h = tt

pub one_more : {A : Type 0} (xs : List A) (i : ℕ) (d : A) → i < length xs → take (i + 1) xs ≡ take i xs ++ get_or xs i d ∷ []
one_more xs i d h = rw (add-one, take-suc xs i d h) refl

all_of : {A : Type 0} (xs : List A) (i : ℕ) (d : A) → i < length xs → xs ≡ (take i xs ++ get_or xs i d ∷ []) ++ drop (i + 1) xs
all_of xs i d h = sym (ap (λ z. z ++ drop (i + 1) xs) (sym (one_more xs i d h)) ∙ take-append-drop (i + 1) xs)

pub row_more : {A : Type 0} {s : Sort} {e : Environment} (w : Row A s e) (xs : List A) (i : ℕ) (d : A) (x y : rules.Result s) → i < length xs → Runs (rule e (w.judged (take i xs))) (ok x) → Runs (w.next (take i xs) (get_or xs i d) x) (ok y) → Runs (rule e (w.judged (take (i + 1) xs))) (ok y)
row_more {e = e} w xs i d x y h p q =
    subst (λ z. Runs (rule e (w.judged z)) (ok y)) (sym (one_more xs i d h)) (subst (λ r. Runs r (ok y)) (sym (w.more (take i xs) (get_or xs i d))) (part_ok p q))

pub row_refused : {A : Type 0} {s : Sort} {e : Environment} (w : Row A s e) (xs : List A) (i : ℕ) (d : A) (x : rules.Result s) (y : InferError) → i < length xs → Runs (rule e (w.judged (take i xs))) (ok x) → IsRefused (w.next (take i xs) (get_or xs i d) x) y → IsRefused (rule e (w.judged xs)) y
row_refused w xs i d x Memory h p q = tt
row_refused {e = e} w xs i d x (Named c j told) h p q =
    subst (λ z. IsRefused (rule e (w.judged z)) (Named c j told)) (sym (all_of xs i d h))
    (refused_on w (take i xs ++ get_or xs i d ∷ []) (drop (i + 1) xs) (Named c j told) (subst (λ r. Runs r (stuck c j)) (sym (w.more (take i xs) (get_or xs i d))) (part_ok p q)))

pub row_all : {A : Type 0} {s : Sort} {e : Environment} (w : Row A s e) (xs : List A) (i : ℕ) (x : rules.Result s) → length xs ≤ i → Runs (rule e (w.judged (take i xs))) (ok x) → Runs (rule e (w.judged xs)) (ok x)
row_all {e = e} w xs i x h p = subst (λ z. Runs (rule e (w.judged z)) (ok x)) (take_all i xs h) p

-- the first ones are well asked where all are
pub first_asked : {A : Type 0} {s : Sort} {e : Environment} (w : Row A s e) (xs ys : List A) → IsWellAsked s e (w.judged (xs ++ ys)) → IsWellAsked s e (w.judged xs)
first_asked {s = s} {e = e} w xs [] h = subst (λ z. IsWellAsked s e (w.judged z)) (append-nil xs) h
first_asked {s = s} {e = e} w xs (z ∷ ys) h =
    asked_of (w.judged (xs ++ z ∷ []))
    (first_asked w (xs ++ z ∷ []) ys (subst (λ l. IsWellAsked s e (w.judged l)) (sym (append_assoc xs (z ∷ []) ys)) h))
    (subst (λ r. Asks s r s e (w.judged xs)) (sym (w.more xs z)) this_part)

-- so many, and one more of them
pub row_first : {A : Type 0} {s : Sort} {e : Environment} (w : Row A s e) (xs : List A) (i : ℕ) (a : A) → i < length xs → IsWellAsked s e (w.judged xs) → IsWellAsked s e (w.judged (take i xs ++ get_or xs i a ∷ []))
row_first {s = s} {e = e} w xs i a h q = first_asked w (take i xs ++ get_or xs i a ∷ []) (drop (i + 1) xs) (subst (λ z. IsWellAsked s e (w.judged z)) (all_of xs i a h) q)

pub first_of : {A : Type 0} {s : Sort} {e : Environment} (w : Row A s e) (xs : List A) (i : ℕ) → IsWellAsked s e (w.judged xs) → IsWellAsked s e (w.judged (take i xs))
first_of {s = s} {e = e} w xs i q = first_asked w (take i xs) (drop i xs) (subst (λ z. IsWellAsked s e (w.judged z)) (sym (take-append-drop i xs)) q)

-- and what is asked of the next one
pub row_asked : {A : Type 0} {s t : Sort} {e d : Environment} {j : Judgement t} (w : Row A s e) (xs : List A) (i : ℕ) (a : A) (x : rules.Result s) → i < length xs → IsWellAsked s e (w.judged xs) → Runs (rule e (w.judged (take i xs))) (ok x) → Asks s (w.next (take i xs) (get_or xs i a) x) t d j → IsWellAsked t d j
row_asked {s = s} {t = t} {e = e} {d = d} {j = j} w xs i a x h q p k =
    asked_of (w.judged (take i xs ++ get_or xs i a ∷ []))
    (row_first w xs i a h q)
    (subst (λ r. Asks s r t d j) (sym (w.more (take i xs) (get_or xs i a))) (past_part p k))
