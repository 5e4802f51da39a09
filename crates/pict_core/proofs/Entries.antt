-- What holds of each entry of a configuration, and what steps do to it.
use Rattle.std.proofs.Common.{ℕ, ◌+◌, ◌<◌, ◌≡◌, ◌≢◌, Bool, true, false, not, nat_eq, List, [], ◌∷◌, ◌++◌, map, refl, sym, ap, ◌∙◌, subst, Option, Some, None, arith, cond}
use Rattle.std.proofs.lemmas.Bool.Decides.{nat_tests}
use Rattle.pict_core.specs.Term.{Process}
use Rattle.pict_core.specs.Configuration.{Entry, StampsRise}
use Rattle.pict_core.specs.Step.{least, entry_at, with_process, is_ready}
use Rattle.pict_core.proofs.Stamps.{without}

abbrev pub Each : (Entry → Type 0) → List Entry → Type 0
Each P [] = Unit {0}
Each P (e ∷ es) = P e × Each P es

pub each_map : (P Q : Entry → Type 0) → ((e : Entry) → P e → Q e) → (es : List Entry) → Each P es → Each Q es
each_map P Q f [] h = tt
each_map P Q f (e ∷ es) h = (f e h.0, each_map P Q f es h.1)

without_cons : (P : Entry → Type 0) (s : ℕ) (e : Entry) (es : List Entry) → P e → Each P (without s es) → (b : Bool) → Each P (cond (not b) (e ∷ without s es) (without s es))
without_cons P s e es h k true = k
without_cons P s e es h k false = (h, k)

pub each_without : (P : Entry → Type 0) (s : ℕ) (es : List Entry) → Each P es → Each P (without s es)
each_without P s [] h = tt
each_without P s (e ∷ es) h = without_cons P s e es h.0 (each_without P s es h.1) (nat_eq s e.stamp)

pub each_added : (P : Entry → Type 0) (es : List Entry) (e : Entry) → Each P es → P e → Each P (es ++ e ∷ [])
each_added P [] e h k = (k, tt)
each_added P (d ∷ es) e h k = (h.0, each_added P es e h.1 k)

found_cons : (P : Entry → Type 0) (d u : Entry) (rest : Option Entry) → P d → (rest ≡ Some u → P u) → (b : Bool) → cond b (Some d) rest ≡ Some u → P u
found_cons P d u rest h k true e = let same : d ≡ u = cc in subst P same h
found_cons P d u rest h k false e = k e

pub each_found : (P : Entry → Type 0) (t : Entry → Bool) (es : List Entry) (u : Entry) → Each P es → least t es ≡ Some u → P u
each_found P t [] u h e = cc
each_found P t (d ∷ es) u h e = found_cons P d u (least t es) h.0 (each_found P t es u h.1) (t d) e

-- ---- the process at a stamp is another

pub with_process_past : (s : ℕ) (p : Process) (low : ℕ) (es : List Entry) (next : ℕ) → s < low → StampsRise low es next → map (with_process s p) es ≡ es
with_process_past s p low [] next h r = refl
with_process_past s p low (e ∷ es) next h r =
    let test : nat_eq s e.stamp ≡ false = grind (arith, nat_tests, r.0) in
    ap (λ b. cond b (record e { process = p }) e ∷ map (with_process s p) es) test ∙ ap (λ l. e ∷ l) (with_process_past s p (e.stamp + 1) es next (omega (arith, r.0)) r.1)

with_cons : (P : Entry → Type 0) (s : ℕ) (p : Process) (d a : Entry) (es : List Entry) (next : ℕ) → ((e : Entry) → is_ready e ≡ true → P e) → is_ready a ≡ true → StampsRise (d.stamp + 1) es next → P d → Each P es
    → (entry_at s es ≡ Some a → Each P (map (with_process s p) es)) → (b : Bool) → nat_eq s d.stamp ≡ b → cond b (Some d) (entry_at s es) ≡ Some a → Each P (cond b (record d { process = p }) d ∷ map (with_process s p) es)
with_cons P s p d a es next f ready r h hs k true t e =
    let same : a ≡ d = cc in
    let below : s < d.stamp + 1 = grind (arith, nat_tests) in
    (f (record d { process = p }) (subst (λ x. is_ready x ≡ true) same ready), subst (Each P) (sym (with_process_past s p (d.stamp + 1) es next below r)) hs)
with_cons P s p d a es next f ready r h hs k false t e = (h, k e)

-- what holds of each entry, and of all that are ready, holds after the change of a ready one's process
pub each_kept : (P : Entry → Type 0) (s : ℕ) (p : Process) (a : Entry) (low : ℕ) (es : List Entry) (next : ℕ) → StampsRise low es next → ((e : Entry) → is_ready e ≡ true → P e) → is_ready a ≡ true → entry_at s es ≡ Some a → Each P es → Each P (map (with_process s p) es)
each_kept P s p a low [] next r f ready e h = tt
each_kept P s p a low (d ∷ es) next r f ready e h =
    with_cons P s p d a es next f ready r.1 h.0 h.1 (λ k. each_kept P s p a (d.stamp + 1) es next r.1 f ready k h.1) (nat_eq s d.stamp) refl e

-- ---- none passes a test

abbrev pub Fails : (Entry → Bool) → Entry → Type 0
Fails t e = t e ≡ false

none_cons : (t : Entry → Bool) (d : Entry) (es : List Entry) → (least t es ≡ None → Each (Fails t) es) → (b : Bool) → t d ≡ b → cond b (Some d) (least t es) ≡ None → Each (Fails t) (d ∷ es)
none_cons t d es f true h k = cc
none_cons t d es f false h k = (h, f k)

pub none_passes : (t : Entry → Bool) (es : List Entry) → least t es ≡ None → Each (Fails t) es
none_passes t [] e = tt
none_passes t (d ∷ es) e = none_cons t d es (none_passes t es) (t d) refl e

pub least_none : (t : Entry → Bool) (es : List Entry) → Each (Fails t) es → least t es ≡ None
least_none t [] h = refl
least_none t (d ∷ es) h = ap (λ b. cond b (Some d) (least t es)) h.0 ∙ least_none t es h.1

-- ---- entries without one

pub without_past : (s low : ℕ) (es : List Entry) (next : ℕ) → s < low → StampsRise low es next → without s es ≡ es
without_past s low [] next h r = refl
without_past s low (e ∷ es) next h r =
    let test : nat_eq s e.stamp ≡ false = grind (arith, nat_tests, r.0) in
    ap (λ b. cond (not b) (e ∷ without s es) (without s es)) test ∙ ap (λ l. e ∷ l) (without_past s (e.stamp + 1) es next (omega (arith, r.0)) r.1)

swap_cons : (r s : ℕ) (d : Entry) (es : List Entry) → without r (without s es) ≡ without s (without r es) → (b : Bool) → nat_eq r d.stamp ≡ b → (k : Bool) → nat_eq s d.stamp ≡ k
    → without r (cond (not k) (d ∷ without s es) (without s es)) ≡ without s (cond (not b) (d ∷ without r es) (without r es))
swap_cons r s d es ih true e true f = ih
swap_cons r s d es ih true e false f = ap (λ b. cond (not b) (d ∷ without r (without s es)) (without r (without s es))) e ∙ ih
swap_cons r s d es ih false e true f = ih ∙ sym (ap (λ b. cond (not b) (d ∷ without s (without r es)) (without s (without r es))) f)
swap_cons r s d es ih false e false f =
    ap (λ b. cond (not b) (d ∷ without r (without s es)) (without r (without s es))) e ∙ ap (λ l. d ∷ l) ih ∙ sym (ap (λ b. cond (not b) (d ∷ without s (without r es)) (without s (without r es))) f)

pub without_swap : (r s : ℕ) (es : List Entry) → without r (without s es) ≡ without s (without r es)
without_swap r s [] = refl
without_swap r s (d ∷ es) = swap_cons r s d es (without_swap r s es) (nat_eq r d.stamp) refl (nat_eq s d.stamp) refl

least_without_cons : (t : Entry → Bool) (s : ℕ) (d u : Entry) (es : List Entry) → u.stamp ≢ s → (least t es ≡ Some u → least t (without s es) ≡ Some u) → (b : Bool) → nat_eq s d.stamp ≡ b → (k : Bool) → t d ≡ k → cond k (Some d) (least t es) ≡ Some u → least t (cond (not b) (d ∷ without s es) (without s es)) ≡ Some u
least_without_cons t s d u es n ih true h true k e = let same : d ≡ u = cc in let at : s ≡ d.stamp = grind (arith, nat_tests) in absurd (n (ap (λ (x : Entry). x.stamp) (sym same) ∙ sym at))
least_without_cons t s d u es n ih true h false k e = ih e
least_without_cons t s d u es n ih false h true k e = ap (λ b. cond b (Some d) (least t (without s es))) k ∙ e
least_without_cons t s d u es n ih false h false k e = ap (λ b. cond b (Some d) (least t (without s es))) k ∙ ih e

-- another entry is found as before
pub least_without : (t : Entry → Bool) (s : ℕ) (u : Entry) (es : List Entry) → u.stamp ≢ s → least t es ≡ Some u → least t (without s es) ≡ Some u
least_without t s u [] n e = cc
least_without t s u (d ∷ es) n e = least_without_cons t s d u es n (least_without t s u es n) (nat_eq s d.stamp) refl (t d) refl e

-- what passes a test that no ready entry passes is parked
pub parked_is : (t : Entry → Bool) (u : Entry) → ((e : Entry) → is_ready e ≡ true → t e ≡ false) → t u ≡ true → is_ready u ≡ false
parked_is t u f h = go (is_ready u) refl
  where
    go : (b : Bool) → is_ready u ≡ b → is_ready u ≡ false
    go true e = let g : t u ≡ false = f u e in cc
    go false e = e
