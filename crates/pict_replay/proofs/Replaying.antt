-- What agrees is replayed to its end, and has no fault; what has a fault has one.
use Rattle.std.proofs.Common.{ℕ, ◌+◌, ◌<◌, ◌≤◌, ◌≡◌, ◌⊎◌, inl, inr, Bool, true, false, nat_eq, nat_lt, cond, List, [], ◌∷◌, ◌++◌, length, append_assoc, append-nil, refl, sym, ap, ◌∙◌, subst, arith}
use Rattle.std.specs.Prelude.{◌||◌, ◌-◌}
use Rattle.std.proofs.lemmas.Bool.Decides.{nat_tests}
use Rattle.std.proofs.lemmas.List.{length_push, same_from_push}
use Rattle.pict_core.specs.Term.{Process}
use Rattle.pict_core.specs.Configuration.{Configuration, opening}
use Rattle.pict_core.specs.Step.{Label, Quiet, Comm, Print, Steps, Traps}
use Rattle.pict_core.specs.Run.{shown}
use Rattle.pict_core.specs.Places.{Place, IsPlace, outcome_at}
use Rattle.pict_core.specs.FreeRun.{FreelyRuns}
use Rattle.pict_core.specs.FreeRun as free
use Rattle.pict_pick.proofs.Running.{some_or_none, picked_runs_are_free}
use Rattle.pict_replay.specs.Replayed.{Line, Agrees, given, unused_after, is_overdue, Replays, at_start, by_step, IsAtFault, overdue, left_over, no_place, traps, differs, IsFault}
use Rattle.pict_replay.specs.Laws.{VerdictsAreOne, ReplayedAgrees, PickedAgrees}

same_steps : (C D : Configuration) (a b : Label) → Steps C a ≡ Steps D b → (C ≡ D) × (a ≡ b)
same_steps C D a b e = let h : C ≡ D = cc in let k : a ≡ b = cc in (h, k)

not_empty : {X : Type 0} (xs : List X) (x : X) → [] ≡ xs ++ x ∷ [] → ⊥
not_empty xs x e = let l = length_push xs x in omega (arith, ap length e, l)

-- ---- replays of the same choices are the same

one_replay : (C : Configuration) (lines : List Line) (ps qs : List Place) (D E : Configuration) (u w : List Line) → Replays C lines ps D u → Replays C lines qs E w → ps ≡ qs → (D ≡ E) × (u ≡ w)
one_replay C lines ps qs D E u w at_start at_start e = (refl, refl)
one_replay C lines ps qs D E u w at_start (by_step {choices = qs'} {place = q} k o is f g) e = absurd (not_empty qs' q e)
one_replay C lines ps qs D E u w (by_step {choices = ps'} {place = p} h o is f g) at_start e = absurd (not_empty ps' p (sym e))
one_replay C lines ps qs D E u w (by_step {choices = ps'} {D = M} {unused = u'} {place = p} {label = a} h o is f g) (by_step {choices = qs'} {D = N} {unused = w'} {place = q} {label = b} k o' is' f' g') e =
    let s = same_from_push ps' qs' p q e in
    let r = one_replay C lines ps' qs' M N u' w' h k s.0 in
    let same : Steps D a ≡ Steps E b = sym f ∙ ap (λ x. outcome_at x p) r.0 ∙ ap (outcome_at N) s.1 ∙ f' in
    let t = same_steps D E a b same in
    (t.0, ap (λ (l : List Place). unused_after (length l + 1) u') s.0 ∙ ap (unused_after (length qs' + 1)) r.1)

-- ---- a replay that goes on isn't at fault

record GoesOn (C : Configuration) (lines : List Line) (qs : List Place) (n : ℕ) : Type 0 where
  places : List Place
  place : Place
  more : List Place
  whole : qs ≡ places ++ place ∷ more
  count : length places ≡ n
  at : Configuration
  unused : List Line
  replays : Replays C lines places at unused
  on_time : is_overdue (length places + 1) unused ≡ false
  is : IsPlace at place
  next : Configuration
  label : Label
  steps : outcome_at at place ≡ Steps next label
  as_given : shown (length places + 1) label ≡ given (length places + 1) unused

longer : (C : Configuration) (lines : List Line) (qs : List Place) (q : Place) (n : ℕ) → GoesOn C lines qs n → GoesOn C lines (qs ++ q ∷ []) n
longer C lines qs q n g = record {
  places = g.places;
  place = g.place;
  more = g.more ++ q ∷ [];
  whole = ap (λ l. l ++ q ∷ []) g.whole ∙ append_assoc g.places (g.place ∷ g.more) (q ∷ []);
  count = g.count;
  at = g.at;
  unused = g.unused;
  replays = g.replays;
  on_time = g.on_time;
  is = g.is;
  next = g.next;
  label = g.label;
  steps = g.steps;
  as_given = g.as_given;
}

goes_on : (C : Configuration) (lines : List Line) (qs : List Place) (E : Configuration) (w : List Line) (n : ℕ) → Replays C lines qs E w → n < length qs → GoesOn C lines qs n
goes_on C lines qs E w n at_start l = absurd (omega (arith, l))
goes_on C lines qs E w n (by_step {choices = qs'} {D = N} {unused = w'} {place = q} {label = b} k o is f g) l =
    go (some_or_none (length qs' - n)) (λ h. goes_on C lines qs' N w' n k h)
  where
    go : (1 ≤ length qs' - n) ⊎ (length qs' - n ≡ 0) → (n < length qs' → GoesOn C lines qs' n) → GoesOn C lines (qs' ++ q ∷ []) n
    go (inl h) ih = longer C lines qs' q n (ih (omega (arith, h)))
    go (inr h) ih =
        let len = length_push qs' q in
        record { places = qs'; place = q; more = []; whole = refl; count = omega (arith, h, l, len); at = N; unused = w'; replays = k; on_time = o; is = is; next = E; label = b; steps = f; as_given = g }

no_fault : (k : ℕ) (D : Configuration) (unused : List Line) (place : Place) (more rest : List Place) (E : Configuration) (label : Label)
    → is_overdue k unused ≡ false → IsPlace D place → outcome_at D place ≡ Steps E label → shown k label ≡ given k unused → rest ≡ place ∷ more → IsAtFault k D unused rest → ⊥
no_fault k D unused place more rest E label o is f g e (overdue h) = cc
no_fault k D unused place more rest E label o is f g e (left_over h) = cc
no_fault k D unused place more rest E label o is f g e (no_place {place = p} h) = let s : p ≡ place = cc in h (subst (IsPlace D) (sym s) is)
no_fault k D unused place more rest E label o is f g e (traps {place = p} {at = at} h) =
    let s : p ≡ place = cc in
    let t : Traps at ≡ Steps E label = sym h ∙ ap (outcome_at D) s ∙ f in
    cc
no_fault k D unused place more rest E label o is f g e (differs {place = p} {E = E'} {label = label'} h d) =
    let s : p ≡ place = cc in
    let t : Steps E' label' ≡ Steps E label = sym h ∙ ap (outcome_at D) s ∙ f in
    let l : label' ≡ label = cc in
    d (ap (shown k) l ∙ g)

-- two cuts of one list, where the first parts are as long
same_cut : {X : Type 0} (us bs cs ds : List X) → us ++ bs ≡ cs ++ ds → length us ≡ length cs → (us ≡ cs) × (bs ≡ ds)
same_cut [] bs [] ds e l = (refl, e)
same_cut [] bs (c ∷ cs) ds e l = absurd (omega (arith, l))
same_cut (a ∷ us) bs [] ds e l = absurd (omega (arith, l))
same_cut (a ∷ us) bs (c ∷ cs) ds e l =
    let h : a ≡ c = cc in
    let k : us ++ bs ≡ cs ++ ds = cc in
    let r = same_cut us bs cs ds k (omega (arith, l)) in
    (ap (λ x. x ∷ us) h ∙ ap (λ x. c ∷ x) r.0, r.1)

module _ (p : Process) (choices : List Place) (lines : List Line) where
  -- what is replayed beyond a fault
  not_beyond : (k : ℕ) (x : IsFault p choices lines k) (qs rest : List Place) (E : Configuration) (w : List Line) → choices ≡ qs ++ rest → Replays (opening p) lines qs E w → length x.before < length qs → ⊥
  not_beyond k x qs rest E w whole r l =
      let g = goes_on (opening p) lines qs E w (length x.before) r l in
      let e : x.before ++ x.rest ≡ g.places ++ (g.place ∷ g.more ++ rest) = sym x.whole ∙ whole ∙ ap (λ y. y ++ rest) g.whole ∙ append_assoc g.places (g.place ∷ g.more) rest in
      let c = same_cut x.before x.rest g.places (g.place ∷ g.more ++ rest) e (sym g.count) in
      let s = one_replay (opening p) lines x.before g.places x.at g.at x.unused g.unused x.replays g.replays c.0 in
      let number : k ≡ length g.places + 1 = x.number ∙ ap (λ (y : List Place). length y + 1) c.0 in
      no_fault (length g.places + 1) g.at g.unused g.place (g.more ++ rest) x.rest g.next g.label g.on_time g.is g.steps g.as_given c.1
      (subst (λ n. IsAtFault n g.at g.unused x.rest) number (subst (λ u. IsAtFault k g.at u x.rest) s.1 (subst (λ D. IsAtFault k D x.unused x.rest) s.0 x.fails)))

  one_fault : (k m : ℕ) → IsFault p choices lines k → IsFault p choices lines m → k ≡ m
  one_fault k m x y =
      let a : length x.before < length y.before → ⊥ = not_beyond k x y.before y.rest y.at y.unused y.whole y.replays in
      let b : length y.before < length x.before → ⊥ = not_beyond m y x.before x.rest x.at x.unused x.whole x.replays in
      let count : length x.before ≡ length y.before = omega arith in
      x.number ∙ ap (λ n. n + 1) count ∙ sym y.number

-- ---- a free run is a replay of its labels

-- all lines have numbers from k on
abbrev From : ℕ → List Line → Type 0
From k [] = Unit {0}
From k (l ∷ ls) = (k ≤ l.0) × From k ls

from_less : (k : ℕ) (ls : List Line) → From (k + 1) ls → From k ls
from_less k [] h = tt
from_less k (l ∷ ls) h = (let a = h.0 in omega (arith, a), from_less k ls h.1)

on_time : (k : ℕ) (ls : List Line) → From k ls → is_overdue k ls ≡ false
on_time k [] h = refl
on_time k (l ∷ ls) h = let t : nat_lt l.0 k ≡ false = grind (arith, nat_tests, h.0) in ap (λ b. b || is_overdue k ls) t ∙ on_time k ls h.1

given_none : (k : ℕ) (ls : List Line) → From (k + 1) ls → given k ls ≡ []
given_none k [] h = refl
given_none k (l ∷ ls) h = let t : nat_eq l.0 k ≡ false = grind (arith, nat_tests, h.0) in ap (λ b. cond b (l ∷ []) []) t

unused_all : (k : ℕ) (ls : List Line) → From (k + 1) ls → unused_after k ls ≡ ls
unused_all k [] h = refl
unused_all k (l ∷ ls) h = let t : nat_eq l.0 k ≡ false = grind (arith, nat_tests, h.0) in ap (λ b. cond b ls (l ∷ ls)) t

shown_given : (k : ℕ) (label : Label) (ls : List Line) → From (k + 1) ls → shown k label ≡ given k (shown k label ++ ls)
shown_given k Quiet ls h = sym (given_none k ls h)
shown_given k (Comm c v) ls h = let t : nat_eq k k ≡ true = grind (arith, nat_tests) in sym (ap (λ b. cond b ((k, Comm c v) ∷ []) []) t)
shown_given k (Print bytes) ls h = let t : nat_eq k k ≡ true = grind (arith, nat_tests) in sym (ap (λ b. cond b ((k, Print bytes) ∷ []) []) t)

shown_unused : (k : ℕ) (label : Label) (ls : List Line) → From (k + 1) ls → unused_after k (shown k label ++ ls) ≡ ls
shown_unused k Quiet ls h = unused_all k ls h
shown_unused k (Comm c v) ls h = let t : nat_eq k k ≡ true = grind (arith, nat_tests) in ap (λ b. cond b ls ((k, Comm c v) ∷ ls)) t
shown_unused k (Print bytes) ls h = let t : nat_eq k k ≡ true = grind (arith, nat_tests) in ap (λ b. cond b ls ((k, Print bytes) ∷ ls)) t

shown_from : (k : ℕ) (label : Label) (ls : List Line) → From (k + 1) ls → From k (shown k label ++ ls)
shown_from k Quiet ls h = from_less k ls h
shown_from k (Comm c v) ls h = (omega arith, from_less k ls h)
shown_from k (Print bytes) ls h = (omega arith, from_less k ls h)

run_replays : (C : Configuration) (places : List Place) (labels rest : List Line) (D : Configuration) → FreelyRuns C places labels D → From (length places + 1) rest → Replays C (labels ++ rest) places D rest
run_replays C places labels rest D free.at_start h = at_start
run_replays C places labels rest D (free.by_step {places = ps} {labels = ls} {D = M} {place = place} {label = label} before is e) h =
    let k = length ps + 1 in
    let len : length (ps ++ place ∷ []) + 1 ≡ k + 1 = let l = length_push ps place in omega (arith, l) in
    let later : From (k + 1) rest = subst (λ n. From n rest) len h in
    let r = run_replays C ps ls (shown k label ++ rest) M before (shown_from k label rest later) in
    subst (λ u. Replays C ((ls ++ shown k label) ++ rest) (ps ++ place ∷ []) D u) (shown_unused k label rest later)
    (subst (λ l. Replays C l (ps ++ place ∷ []) D (unused_after k (shown k label ++ rest))) (sym (append_assoc ls (shown k label) rest))
    (by_step r (on_time k (shown k label ++ rest) (shown_from k label rest later)) is e (shown_given k label rest later)))

-- ---- and a replay is a free run of what is used

used : (k : ℕ) (ls : List Line) → ls ≡ given k ls ++ unused_after k ls
used k [] = refl
used k (l ∷ ls) = go (nat_eq l.0 k)
  where
    go : (b : Bool) → l ∷ ls ≡ cond b (l ∷ []) [] ++ cond b ls (l ∷ ls)
    go true = refl
    go false = refl

pub replay_runs : (C : Configuration) (lines : List Line) (places : List Place) (D : Configuration) (unused : List Line) → Replays C lines places D unused → (labels : List Line) × FreelyRuns C places labels D × (lines ≡ labels ++ unused)
replay_runs C lines places D unused at_start = ([], free.at_start, refl)
replay_runs C lines places D unused (by_step {choices = ps} {D = M} {unused = u} {place = place} {label = label} before o is e g) =
    let r = replay_runs C lines ps M u before in
    let k = length ps + 1 in
    (r.0 ++ shown k label, free.by_step r.1 is e, r.2 ∙ ap (λ x. r.0 ++ x) (used k u ∙ ap (λ x. x ++ unused_after k u) (sym g)) ∙ sym (append_assoc r.0 (shown k label) (unused_after k u)))

agreed : (p : Process) (choices : List Place) (lines : List Line) → Agrees p choices lines → (D : Configuration) × Replays (opening p) lines choices D []
agreed p choices lines a = (a.last, subst (λ l. Replays (opening p) l choices a.last []) (append-nil lines) (run_replays (opening p) choices lines [] a.last a.runs tt))

pub replayed_agrees : ReplayedAgrees
replayed_agrees p choices lines = (
  λ r. let f = replay_runs (opening p) lines choices r.0 [] r.1 in record { last = r.0; runs = subst (λ l. FreelyRuns (opening p) choices l r.0) (sym (f.2 ∙ append-nil f.0)) f.1 },
  agreed p choices lines,
)

apart : (p : Process) (choices : List Place) (lines : List Line) (k : ℕ) → Agrees p choices lines → IsFault p choices lines k → ⊥
apart p choices lines k a x = go x.rest refl
  where
    r : (D : Configuration) × Replays (opening p) lines choices D []
    r = agreed p choices lines a

    -- at the end no line is left
    at_end : (u : List Line) → u ≡ [] → (rest : List Place) → rest ≡ [] → IsAtFault k x.at u rest → ⊥
    at_end u e rest f (overdue h) = let t : is_overdue k u ≡ false = ap (is_overdue k) e in cc
    at_end u e rest f (left_over h) = h e
    at_end u e rest f (no_place h) = cc
    at_end u e rest f (traps h) = cc
    at_end u e rest f (differs h d) = cc

    length_more : (xs : List Place) (y : Place) (ys : List Place) → length xs < length (xs ++ y ∷ ys)
    length_more [] y ys = omega arith
    length_more (z ∷ xs) y ys = let ih = length_more xs y ys in omega (arith, ih)

    go : (rest : List Place) → x.rest ≡ rest → ⊥
    go [] e =
        let whole : x.before ≡ choices = sym (append-nil x.before) ∙ ap (λ l. x.before ++ l) (sym e) ∙ sym x.whole in
        let s = one_replay (opening p) lines x.before choices x.at r.0 x.unused [] x.replays r.1 whole in
        at_end x.unused s.1 x.rest e x.fails
    go (q ∷ rest) e =
        let whole : choices ≡ x.before ++ q ∷ rest = x.whole ∙ ap (λ l. x.before ++ l) e in
        not_beyond p choices lines k x choices [] r.0 [] (sym (append-nil choices)) r.1 (subst (λ (l : List Place). length x.before < length l) (sym whole) (length_more x.before q rest))

pub verdicts_are_one : VerdictsAreOne
verdicts_are_one p choices lines = record { apart = apart p choices lines; one = one_fault p choices lines }

pub picked_agrees : PickedAgrees
picked_agrees p seed fuel end places labels r = record { last = r.last; runs = picked_runs_are_free p seed fuel end places labels r }
