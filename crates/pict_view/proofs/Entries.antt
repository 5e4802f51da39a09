-- The entries that pass a test, when one goes, or goes on as another process, or comes.
use Rattle.std.proofs.Common.{ℕ, zero, suc, ◌+◌, ◌≤◌, ◌≡◌, Bool, true, false, not, nat_eq, List, [], ◌∷◌, ◌++◌, map, refl, sym, ap, ◌∙◌, Some, arith, cond}
use Rattle.std.specs.Prelude.{filter, slice_get}
use Rattle.std.proofs.lemmas.Bool.Decides.{nat_tests}
use Rattle.pict_core.specs.Term.{Process}
use Rattle.pict_core.specs.Configuration.{Entry, StampsRise}
use Rattle.pict_core.specs.Step.{entry_at, with_process, is_ready}
use Rattle.pict_core.proofs.Stamps.{without, least_above}
use Rattle.pict_core.proofs.Entries.{with_process_past, without_past}
use Rattle.pict_core.proofs.Placing.{above}
use Rattle.pict_view.specs.View.{processes}
use Rattle.pict_view.specs.Placed as placed
use Rattle.pict_view.specs.Placed.{instead}
use Rattle.pict_view.proofs.Lists.{without_suc, instead_suc}

filtered : (q : Entry → Bool) (d : Entry) (es : List Entry) (b : Bool) → q d ≡ b → filter q (d ∷ es) ≡ cond b (d ∷ filter q es) (filter q es)
filtered q d es b e = ap (λ x. cond x (d ∷ filter q es) (filter q es)) e

past : (s : ℕ) (d : Entry) (es : List Entry) → d.stamp + 1 ≤ s → without s (d ∷ es) ≡ d ∷ without s es
past s d es h = let t : nat_eq s d.stamp ≡ false = grind (arith, nat_tests, h) in ap (λ b. cond (not b) (d ∷ without s es) (without s es)) t

own : (d : Entry) (es : List Entry) (next : ℕ) → StampsRise (d.stamp + 1) es next → without d.stamp (d ∷ es) ≡ es
own d es next r =
    let t : nat_eq d.stamp d.stamp ≡ true = grind (arith, nat_tests) in
    ap (λ b. cond (not b) (d ∷ without d.stamp es) (without d.stamp es)) t ∙ without_past d.stamp (d.stamp + 1) es next (omega arith) r

past_kept : (s : ℕ) (x : Process) (d : Entry) (es : List Entry) → d.stamp + 1 ≤ s → map (with_process s x) (d ∷ es) ≡ d ∷ map (with_process s x) es
past_kept s x d es h = let t : nat_eq s d.stamp ≡ false = grind (arith, nat_tests, h) in ap (λ b. cond b (record d { process = x }) d ∷ map (with_process s x) es) t

own_kept : (x : Process) (d : Entry) (es : List Entry) (next : ℕ) → StampsRise (d.stamp + 1) es next → map (with_process d.stamp x) (d ∷ es) ≡ record d { process = x } ∷ es
own_kept x d es next r =
    let t : nat_eq d.stamp d.stamp ≡ true = grind (arith, nat_tests) in
    ap (λ b. cond b (record d { process = x }) d ∷ map (with_process d.stamp x) es) t ∙ ap (λ l. record d { process = x } ∷ l) (with_process_past d.stamp x (d.stamp + 1) es next (omega arith) r)

-- ---- the i-th that passes goes

gone_cons : (p : Entry → Bool) (d t : Entry) (es : List Entry) (next i : ℕ) → StampsRise (d.stamp + 1) es next
    → ((j : ℕ) → slice_get (filter p es) j ≡ Some t → filter p (without t.stamp es) ≡ placed.without j (filter p es))
    → (b : Bool) → p d ≡ b → slice_get (cond b (d ∷ filter p es) (filter p es)) i ≡ Some t
    → filter p (without t.stamp (d ∷ es)) ≡ placed.without i (cond b (d ∷ filter p es) (filter p es))
gone_cons p d t es next zero r ih true h e = let same : d ≡ t = cc in ap (λ (y : Entry). filter p (without y.stamp (d ∷ es))) (sym same) ∙ ap (filter p) (own d es next r)
gone_cons p d t es next (suc i) r ih true h e =
    ap (filter p) (past t.stamp d es (above p (d.stamp + 1) es next i t r e)) ∙ filtered p d (without t.stamp es) true h ∙ ap (λ l. d ∷ l) (ih i e)
    ∙ sym (without_suc i d (filter p es))
gone_cons p d t es next i r ih false h e = ap (filter p) (past t.stamp d es (above p (d.stamp + 1) es next i t r e)) ∙ filtered p d (without t.stamp es) false h ∙ ih i e

pub place_gone : (p : Entry → Bool) (low : ℕ) (es : List Entry) (next i : ℕ) (t : Entry) → StampsRise low es next → slice_get (filter p es) i ≡ Some t
    → filter p (without t.stamp es) ≡ placed.without i (filter p es)
place_gone p low [] next i t r e = cc
place_gone p low (d ∷ es) next i t r e = gone_cons p d t es next i r.1 (λ j k. place_gone p (d.stamp + 1) es next j t r.1 k) (p d) refl e

-- a test that the entry fails sees nothing of its going
other_cons : (q : Entry → Bool) (d t : Entry) (es : List Entry) (next : ℕ) → StampsRise (d.stamp + 1) es next → q t ≡ false
    → (entry_at t.stamp es ≡ Some t → filter q (without t.stamp es) ≡ filter q es)
    → (b : Bool) → nat_eq t.stamp d.stamp ≡ b → cond b (Some d) (entry_at t.stamp es) ≡ Some t → filter q (without t.stamp (d ∷ es)) ≡ filter q (d ∷ es)
other_cons q d t es next r f ih true h e =
    let same : d ≡ t = cc in
    let g : q d ≡ false = ap q same ∙ f in
    ap (λ (y : Entry). filter q (without y.stamp (d ∷ es))) (sym same) ∙ ap (filter q) (own d es next r) ∙ sym (filtered q d es false g)
other_cons q d t es next r f ih false h e = go (q d) refl (least_above _ (d.stamp + 1) es next t r e)
  where
    go : (b : Bool) → q d ≡ b → d.stamp + 1 ≤ t.stamp → filter q (without t.stamp (d ∷ es)) ≡ filter q (d ∷ es)
    go b g up = ap (filter q) (past t.stamp d es up) ∙ filtered q d (without t.stamp es) b g ∙ ap (λ l. cond b (d ∷ l) l) (ih e) ∙ sym (filtered q d es b g)

pub other_gone : (q : Entry → Bool) (low : ℕ) (es : List Entry) (next : ℕ) (t : Entry) → StampsRise low es next → entry_at t.stamp es ≡ Some t → q t ≡ false
    → filter q (without t.stamp es) ≡ filter q es
other_gone q low [] next t r e f = refl
other_gone q low (d ∷ es) next t r e f = other_cons q d t es next r.1 f (λ k. other_gone q (d.stamp + 1) es next t r.1 k f) (nat_eq t.stamp d.stamp) refl e

-- ---- the i-th that passes goes on as x

kept_cons : (p : Entry → Bool) (x : Process) (d t : Entry) (es : List Entry) (next i : ℕ) → StampsRise (d.stamp + 1) es next → p (record t { process = x }) ≡ true
    → ((j : ℕ) → slice_get (filter p es) j ≡ Some t → filter p (map (with_process t.stamp x) es) ≡ instead j (record t { process = x }) (filter p es))
    → (b : Bool) → p d ≡ b → slice_get (cond b (d ∷ filter p es) (filter p es)) i ≡ Some t
    → filter p (map (with_process t.stamp x) (d ∷ es)) ≡ instead i (record t { process = x }) (cond b (d ∷ filter p es) (filter p es))
kept_cons p x d t es next zero r f ih true h e =
    let same : d ≡ t = cc in
    ap (λ (y : Entry). filter p (map (with_process y.stamp x) (d ∷ es))) (sym same) ∙ ap (filter p) (own_kept x d es next r)
    ∙ ap (λ (y : Entry). filter p (record y { process = x } ∷ es)) same ∙ filtered p (record t { process = x }) es true f
kept_cons p x d t es next (suc i) r f ih true h e =
    ap (filter p) (past_kept t.stamp x d es (above p (d.stamp + 1) es next i t r e)) ∙ filtered p d (map (with_process t.stamp x) es) true h ∙ ap (λ l. d ∷ l) (ih i e)
    ∙ sym (instead_suc i (record t { process = x }) d (filter p es))
kept_cons p x d t es next i r f ih false h e =
    ap (filter p) (past_kept t.stamp x d es (above p (d.stamp + 1) es next i t r e)) ∙ filtered p d (map (with_process t.stamp x) es) false h ∙ ih i e

pub place_kept : (p : Entry → Bool) (x : Process) (low : ℕ) (es : List Entry) (next i : ℕ) (t : Entry) → StampsRise low es next → slice_get (filter p es) i ≡ Some t
    → p (record t { process = x }) ≡ true → filter p (map (with_process t.stamp x) es) ≡ instead i (record t { process = x }) (filter p es)
place_kept p x low [] next i t r e f = cc
place_kept p x low (d ∷ es) next i t r e f = kept_cons p x d t es next i r.1 f (λ j k. place_kept p x (d.stamp + 1) es next j t r.1 k f) (p d) refl e

-- a test that sees only parked processes sees nothing of it
parked_cons : (q : Entry → Bool) (x : Process) (d t : Entry) (es : List Entry) (next : ℕ) → ((u : Entry) → is_ready u ≡ true → q u ≡ false) → is_ready t ≡ true
    → StampsRise (d.stamp + 1) es next → (entry_at t.stamp es ≡ Some t → filter q (map (with_process t.stamp x) es) ≡ filter q es)
    → (b : Bool) → nat_eq t.stamp d.stamp ≡ b → cond b (Some d) (entry_at t.stamp es) ≡ Some t → filter q (map (with_process t.stamp x) (d ∷ es)) ≡ filter q (d ∷ es)
parked_cons q x d t es next f ready r ih true h e =
    let same : d ≡ t = cc in
    let rd : is_ready d ≡ true = ap is_ready same ∙ ready in
    ap (λ (y : Entry). filter q (map (with_process y.stamp x) (d ∷ es))) (sym same) ∙ ap (filter q) (own_kept x d es next r)
    ∙ filtered q (record d { process = x }) es false (f (record d { process = x }) rd) ∙ sym (filtered q d es false (f d rd))
parked_cons q x d t es next f ready r ih false h e = go (q d) refl (least_above _ (d.stamp + 1) es next t r e)
  where
    go : (b : Bool) → q d ≡ b → d.stamp + 1 ≤ t.stamp → filter q (map (with_process t.stamp x) (d ∷ es)) ≡ filter q (d ∷ es)
    go b g up = ap (filter q) (past_kept t.stamp x d es up) ∙ filtered q d (map (with_process t.stamp x) es) b g ∙ ap (λ l. cond b (d ∷ l) l) (ih e) ∙ sym (filtered q d es b g)

pub parked_kept : (q : Entry → Bool) (x : Process) (low : ℕ) (es : List Entry) (next : ℕ) (t : Entry) → ((u : Entry) → is_ready u ≡ true → q u ≡ false) → is_ready t ≡ true
    → StampsRise low es next → entry_at t.stamp es ≡ Some t → filter q (map (with_process t.stamp x) es) ≡ filter q es
parked_kept q x low [] next t f ready r e = refl
parked_kept q x low (d ∷ es) next t f ready r e = parked_cons q x d t es next f ready r.1 (λ k. parked_kept q x (d.stamp + 1) es next t f ready r.1 k) (nat_eq t.stamp d.stamp) refl e

-- ---- one comes

pub processes_push : (p : Entry → Bool) (es : List Entry) (u : Entry) (b : Bool) → p u ≡ b → processes p (es ++ u ∷ []) ≡ processes p es ++ cond b (u.process ∷ []) []
processes_push p [] u true h = grind (arith, nat_tests)
processes_push p [] u false h = grind (arith, nat_tests)
processes_push p (v ∷ vs) u b h = let ih : processes p (vs ++ u ∷ []) ≡ processes p vs ++ cond b (u.process ∷ []) [] = processes_push p vs u b h in grind (arith, nat_tests)
