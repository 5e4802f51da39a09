-- Entries by their stamps.
use Rattle.std.proofs.Common.{ℕ, ◌+◌, ◌≤◌, ◌≡◌, Bool, true, false, not, nat_eq, List, [], ◌∷◌, ◌++◌, map, filter, Option, Some, None, arith, cond}
use Rattle.std.proofs.lemmas.Bool.Decides.{nat_tests}
use Rattle.pict_core.specs.Term.{Process}
use Rattle.pict_core.specs.Closed.{IsUnder}
use Rattle.pict_core.specs.Configuration.{Mark, Entry, StampsRise, AreClosed}
use Rattle.pict_core.specs.Step.{least, entry_at, with_process}
use Rattle.pict_core.proofs.Closed.{under_more}

abbrev pub without : ℕ → List Entry → List Entry
without s es = filter (λ e. not (nat_eq s e.stamp)) es

-- ---- rising stamps

pub rise_from : (low low' : ℕ) (es : List Entry) (next : ℕ) → low' ≤ low → StampsRise low es next → StampsRise low' es next
rise_from low low' [] next h r = omega arith
rise_from low low' (e ∷ es) next h r = (omega arith, r.1)

rise_cons : (s low : ℕ) (e : Entry) (es : List Entry) (next : ℕ) → low ≤ e.stamp → StampsRise (e.stamp + 1) (without s es) next → (b : Bool) → StampsRise low (cond (not b) (e ∷ without s es) (without s es)) next
rise_cons s low e es next h r true = rise_from (e.stamp + 1) low (without s es) next (omega arith) r
rise_cons s low e es next h r false = (h, r)

pub StampsRise-without : (s low : ℕ) (es : List Entry) (next : ℕ) → StampsRise low es next → StampsRise low (without s es) next
StampsRise-without s low [] next r = r
StampsRise-without s low (e ∷ es) next r = rise_cons s low e es next r.0 (StampsRise-without s (e.stamp + 1) es next r.1) (nat_eq s e.stamp)

kept_rise : (low : ℕ) (e : Entry) (x : Process) (es : List Entry) (next : ℕ) → low ≤ e.stamp → StampsRise (e.stamp + 1) es next → (b : Bool) → StampsRise low (cond b (record e { process = x }) e ∷ es) next
kept_rise low e x es next h r true = (h, r)
kept_rise low e x es next h r false = (h, r)

pub StampsRise-with_process : (s : ℕ) (x : Process) (low : ℕ) (es : List Entry) (next : ℕ) → StampsRise low es next → StampsRise low (map (with_process s x) es) next
StampsRise-with_process s x low [] next r = r
StampsRise-with_process s x low (e ∷ es) next r = kept_rise low e x (map (with_process s x) es) next r.0 (StampsRise-with_process s x (e.stamp + 1) es next r.1) (nat_eq s e.stamp)

pub StampsRise-added : (mark : Mark) (x : Process) (low : ℕ) (es : List Entry) (next : ℕ) → StampsRise low es next → StampsRise low (es ++ record { stamp = next; mark = mark; process = x } ∷ []) (next + 1)
StampsRise-added mark x low [] next r = (r, omega arith)
StampsRise-added mark x low (e ∷ es) next r = (r.0, StampsRise-added mark x (e.stamp + 1) es next r.1)

-- ---- closed processes

without_cons : (c s : ℕ) (e : Entry) (es : List Entry) → IsUnder 0 c e.process → AreClosed c (without s es) → (b : Bool) → AreClosed c (cond (not b) (e ∷ without s es) (without s es))
without_cons c s e es u r true = r
without_cons c s e es u r false = (u, r)

pub AreClosed-without : (c s : ℕ) (es : List Entry) → AreClosed c es → AreClosed c (without s es)
AreClosed-without c s [] r = tt
AreClosed-without c s (e ∷ es) r = without_cons c s e es r.0 (AreClosed-without c s es r.1) (nat_eq s e.stamp)

with_cons : (c : ℕ) (e : Entry) (x : Process) (es : List Entry) → IsUnder 0 c x → IsUnder 0 c e.process → AreClosed c es → (b : Bool) → AreClosed c (cond b (record e { process = x }) e ∷ es)
with_cons c e x es u k r true = (u, r)
with_cons c e x es u k r false = (k, r)

pub AreClosed-with_process : (c s : ℕ) (x : Process) (es : List Entry) → IsUnder 0 c x → AreClosed c es → AreClosed c (map (with_process s x) es)
AreClosed-with_process c s x [] u r = tt
AreClosed-with_process c s x (e ∷ es) u r = with_cons c e x (map (with_process s x) es) u r.0 (AreClosed-with_process c s x es u r.1) (nat_eq s e.stamp)

pub AreClosed-added : (c : ℕ) (es : List Entry) (e : Entry) → IsUnder 0 c e.process → AreClosed c es → AreClosed c (es ++ e ∷ [])
AreClosed-added c [] e u r = (u, tt)
AreClosed-added c (d ∷ es) e u r = (r.0, AreClosed-added c es e u r.1)

pub AreClosed-more : (c c' : ℕ) → c ≤ c' → (es : List Entry) → AreClosed c es → AreClosed c' es
AreClosed-more c c' k [] r = tt
AreClosed-more c c' k (e ∷ es) r = (under_more 0 c c' k e.process r.0, AreClosed-more c c' k es r.1)

-- what is found is closed
abbrev pub EntryClosed : ℕ → Option Entry → Type 0
EntryClosed c None = Unit {0}
EntryClosed c (Some e) = IsUnder 0 c e.process

least_cons : (c : ℕ) (e : Entry) (o : Option Entry) → IsUnder 0 c e.process → EntryClosed c o → (b : Bool) → EntryClosed c (cond b (Some e) o)
least_cons c e o u h true = u
least_cons c e o u h false = h

pub least_closed : (c : ℕ) (p : Entry → Bool) (es : List Entry) → AreClosed c es → EntryClosed c (least p es)
least_closed c p [] r = tt
least_closed c p (e ∷ es) r = least_cons c e (least p es) r.0 (least_closed c p es r.1) (p e)

-- ---- the least entry

pub least_above : (p : Entry → Bool) (low : ℕ) (es : List Entry) (next : ℕ) (u : Entry) → StampsRise low es next → least p es ≡ Some u → low ≤ u.stamp
least_above p low [] next u r e = cc
least_above p low (d ∷ es) next u r e = let ih : least p es ≡ Some u → d.stamp + 1 ≤ u.stamp = least_above p (d.stamp + 1) es next u r.1 in grind (arith, nat_tests)

pub least_passes : (p : Entry → Bool) (es : List Entry) (u : Entry) → least p es ≡ Some u → p u ≡ true
least_passes p [] u e = cc
least_passes p (d ∷ es) u e = let ih : least p es ≡ Some u → p u ≡ true = least_passes p es u in grind (arith, nat_tests)

-- the least entry is the one at its stamp
pub least_stands : (p : Entry → Bool) (low : ℕ) (es : List Entry) (next : ℕ) (u : Entry) → StampsRise low es next → least p es ≡ Some u → entry_at u.stamp es ≡ Some u
least_stands p low [] next u r e = cc
least_stands p low (d ∷ es) next u r e =
    let ih : least p es ≡ Some u → entry_at u.stamp es ≡ Some u = least_stands p (d.stamp + 1) es next u r.1 in
    let above : least p es ≡ Some u → d.stamp + 1 ≤ u.stamp = least_above p (d.stamp + 1) es next u r.1 in
    grind (arith, nat_tests)
