-- The search for the first ready process that passes a test.
use Rattle.std.proofs.Common.{ℕ, suc, ◌+◌, ◌<◌, ◌≡◌, Bool, true, false, ◌&&◌, cond, List, ◌∷◌, length, map, drop, get_or, filter, ap, ◌∙◌, subst, arith, Some}
use Rattle.std.specs.List.{slice_get}
use Rattle.pict_core.specs.Term.{Process}
use Rattle.pict_core.specs.Configuration.{Entry}
use Rattle.pict_core.specs.Step.{is_ready, least}
use Rattle.pict_shared.specs.declared.held.Held.{Held}
use Rattle.pict_shared.specs.Plain.{plain_held}
use Rattle.pict_orders.specs.Settling.{is_ready_for, FirstReady}
use Rattle.pict_orders.proofs.Passing.{readiness, left_at}

-- these are left, behind so many that are ready and don't pass the test
pub record Scan (t : Process → Bool) (es rest : List Entry) (count : ℕ) : Type 0 where
  pub counts : (k : ℕ) → slice_get (filter is_ready es) (count + k) ≡ slice_get (filter is_ready rest) k
  pub none : least (is_ready_for t) es ≡ least (is_ready_for t) rest

module _ (t : Process → Bool) (es rest : List Entry) (a : Entry) (count : ℕ) (s : Scan t es (a ∷ rest) count) where
  at_front : (b : Bool) → is_ready a ≡ b → filter is_ready (a ∷ rest) ≡ cond b (a ∷ filter is_ready rest) (filter is_ready rest)
  at_front b e = ap (λ x. cond x (a ∷ filter is_ready rest) (filter is_ready rest)) e

  pub scan_unready : is_ready a ≡ false → Scan t es rest count
  scan_unready e = record {
    counts = λ k. s.counts k ∙ ap (λ (l : List Entry). slice_get l k) (at_front false e);
    none = s.none ∙ ap (λ x. cond (x && t a.process) (Some a) (least (is_ready_for t) rest)) e;
  }

  pub scan_loud : is_ready a ≡ true → t a.process ≡ false → Scan t es rest (count + 1)
  scan_loud e h = record {
    counts = λ k. (let f : (count + 1) + k ≡ count + suc k = omega arith in ap (slice_get (filter is_ready es)) f ∙ s.counts (suc k) ∙ ap (λ (l : List Entry). slice_get l (suc k)) (at_front true e));
    none = s.none ∙ ap (λ x. cond (x && t a.process) (Some a) (least (is_ready_for t) rest)) e ∙ ap (λ x. cond x (Some a) (least (is_ready_for t) rest)) h;
  }

  pub scan_found : is_ready a ≡ true → t a.process ≡ true → FirstReady t es (Some count)
  scan_found e h = (
    a,
    (let f : count ≡ count + 0 = omega arith in ap (slice_get (filter is_ready es)) f ∙ s.counts 0 ∙ ap (λ (l : List Entry). slice_get l 0) (at_front true e)),
    h,
  )

-- ---- the same in the program's list

module _ (t : Process → Bool) (es : List Held) (k : ℕ) (e : Held) (within : k < length es) (is : e ≡ get_or es k e) (count : ℕ) (s : Scan t (map plain_held es) (map plain_held (drop k es)) count) where
  at_this : Scan t (map plain_held es) (plain_held e ∷ map plain_held (drop (k + 1) es)) count
  at_this = subst (λ (l : List Entry). Scan t (map plain_held es) l count) (left_at es k e within is) s

  pub over_unready : e.ready ≡ false → Scan t (map plain_held es) (map plain_held (drop (k + 1) es)) count
  over_unready h = scan_unready t (map plain_held es) (map plain_held (drop (k + 1) es)) (plain_held e) count at_this (readiness e ∙ h)

  pub over_loud : e.ready ≡ true → t (plain_held e).process ≡ false → Scan t (map plain_held es) (map plain_held (drop (k + 1) es)) (count + 1)
  over_loud h f = scan_loud t (map plain_held es) (map plain_held (drop (k + 1) es)) (plain_held e) count at_this (readiness e ∙ h) f

  pub at_first : e.ready ≡ true → t (plain_held e).process ≡ true → FirstReady t (map plain_held es) (Some count)
  at_first h f = scan_found t (map plain_held es) (map plain_held (drop (k + 1) es)) (plain_held e) count at_this (readiness e ∙ h) f
