-- Runs go on by steps that are passed over.
use Rattle.std.proofs.Common.{ℕ, zero, suc, ◌+◌, ◌<◌, ◌≤◌, ◌≡◌, ◌≢◌, ◌⊎◌, ⊎_elim, inl, inr, Bool, true, false, IsTrue, ◌↔◌, List, [], ◌∷◌, ◌++◌, refl, sym, ap, ◌∙◌, subst, Option, Some, None, Result, Ok, Err, add-zero, add-one, add-suc, append_assoc, append-nil, arith}
use Rattle.std.specs.declared.alloc.AllocError.{AllocError}
use Rattle.pict_syntax.specs.declared.span.Span.{Span}
use Rattle.pict_core.specs.Configuration.{Configuration, IsConfiguration}
use Rattle.pict_core.specs.Step.{Label, Quiet, Comm, Print}
use Rattle.pict_core.specs.Run.{Reaches, shown}
use Rattle.pict_view.specs.View.{View, StandsFor}
use Rattle.pict_view.specs.Stepping.{Follows, IsStepOf}
use Rattle.pict_heap.specs.HeapState.{HeapState}
use Rattle.pict_view.specs.Right.{IsRightFor}
use Rattle.pict_view.specs.Watching.{Saw, SawOrTore, RanFor, BrokeOff, view_after}
use Rattle.pict_view.proofs.Runs.{Stood, empty_of, is_done, is_spent, saw_more}
use Rattle.pict_machine.specs.Events.{end_of, PassesCommunications}
use Rattle.pict_turns.specs.Shown.{label_shown, trap_shown}
use Rattle.pict_machine.specs.Going.{IsPassed, ArePassed, GoesPast, GoesOn, HasEvent, ShowsOrPasses, ThenComes, StopsAs}
use Rattle.pict_machine.specs.Machine.{running_view, heap_of}
use Rattle.pict_turns.specs.declared.event.Shown.{Shown}
use Rattle.pict_turns.specs.declared.event.Shown.TheVariants as shows
use Rattle.pict_machine.specs.declared.event.End.{End}
use Rattle.pict_machine.specs.declared.event.End.TheVariants as end
use Rattle.pict_machine.specs.declared.machine.Machine.{Machine}
use Rattle.pict_machine.proofs.Running.{broke_before}
use Rattle.pict_view.proofs.AtPlaces.{ready_is}

-- ---- labels that are passed over

-- those of a list's two parts
passed_parts : (p : Bool) (xs ys : List (ℕ × Label)) → ArePassed p (xs ++ ys) → ArePassed p xs × ArePassed p ys
passed_parts p [] ys a = (tt, a)
passed_parts p ((n, Quiet) ∷ xs) ys a = absurd a
passed_parts p ((n, Comm c v) ∷ xs) ys a = let r = passed_parts p xs ys a.1 in ((a.0, r.0), r.1)
passed_parts p ((n, Print bytes) ∷ xs) ys a = absurd a

passed_both : (p : Bool) (xs ys : List (ℕ × Label)) → ArePassed p xs → ArePassed p ys → ArePassed p (xs ++ ys)
passed_both p [] ys a b = b
passed_both p ((n, Quiet) ∷ xs) ys a b = absurd a
passed_both p ((n, Comm c v) ∷ xs) ys a b = (a.0, passed_both p xs ys a.1 b)
passed_both p ((n, Print bytes) ∷ xs) ys a b = absurd a

-- the number of a step doesn't matter
passed_number : (p : Bool) (n m : ℕ) (label : Label) → ArePassed p (shown n label) → ArePassed p (shown m label)
passed_number p n m Quiet a = tt
passed_number p n m (Comm c v) a = a
passed_number p n m (Print bytes) a = absurd a

passed_more : (p : Bool) (n m : ℕ) (label : Label) (before more : List (ℕ × Label)) → (ArePassed p before → ArePassed p more)
    → ArePassed p (before ++ shown n label) → ArePassed p (more ++ shown m label)
passed_more p n m label before more f a =
    let r = passed_parts p before (shown n label) a in
    passed_both p more (shown m label) (f r.0) (passed_number p n m label r.1)

-- an event that is passed over has such a label, if any, and is no trap
passed_label : (p : Bool) (h : HeapState) (e : Shown) → IsPassed p e → (n : ℕ) → ArePassed p (shown n (label_shown h e))
passed_label p h shows.Quiet a n = tt
passed_label p h (shows.Comm channel value) a n = (a, tt)
passed_label p h (shows.Print word) a n = absurd a
passed_label p h (shows.Trapped at) a n = absurd a

passed_is_none : (p : Bool) (e : Shown) → IsPassed p e → trap_shown e ≡ None
passed_is_none p shows.Quiet a = refl
passed_is_none p (shows.Comm channel value) a = refl
passed_is_none p (shows.Print word) a = refl
passed_is_none p (shows.Trapped at) a = absurd a

-- they change nothing of what was seen
module _ (p : Bool) (f : List ℕ → ℕ → Label → List ℕ) (passes : IsTrue p → PassesCommunications f) where
  view_past : (v : List ℕ) (ks : List (ℕ × Label)) → ArePassed p ks → view_after f v ks ≡ v
  view_past v [] a = refl
  view_past v ((n, Quiet) ∷ ks) a = absurd a
  view_past v ((n, Comm c x) ∷ ks) a = ap (λ u. view_after f u ks) (passes a.0 v n c x) ∙ view_past v ks a.1
  view_past v ((n, Print bytes) ∷ ks) a = absurd a

  saw_past : (seen : Option (List ℕ)) (ks : List (ℕ × Label)) → ArePassed p ks → Saw f seen seen ks
  saw_past None ks a = tt
  saw_past (Some v) ks a = sym (view_past v ks a)

-- ---- some steps after others

-- k steps after n are n + k steps, and show what both show, but that the numbers of the later ones are greater
pub reaches_more : (n k : ℕ) (C M D : Configuration) (ls ks : List (ℕ × Label)) → Reaches n C ls M → Reaches k M ks D
    → (more : List (ℕ × Label)) × Reaches (n + k) C (ls ++ more) D × ((p : Bool) → ArePassed p ks → ArePassed p more)
reaches_more n zero C M D ls ks r q =
    let there = subst (λ X. Reaches n C ls X) q.0 r in
    ([], subst (λ j. Reaches j C (ls ++ []) D) (sym (add-zero n)) (subst (λ (x : List (ℕ × Label)). Reaches n C x D) (sym (append-nil ls)) there), λ p a. tt)
reaches_more n (suc k) C M D ls ks r (N, before, label, q, steps, is) =
    let (more, reached, passed) = reaches_more n k C M N ls before r q in
    let last = shown (suc (n + k)) label in (
      more ++ last,
      subst (λ j. Reaches j C (ls ++ (more ++ last)) D) (sym (add-suc n k)) (N, ls ++ more, label, reached, steps, sym (append_assoc ls more last)),
      λ p a. passed_more p (suc k) (suc (n + k)) label before more (passed p) (subst (ArePassed p) is a),
    )

-- so many more steps, whose labels are passed over
pub stood_past : (p : Bool) (f : List ℕ → ℕ → Label → List ℕ) → (IsTrue p → PassesCommunications f) → (n k : ℕ) (C : Configuration) (v w : View) (before after : Option (List ℕ))
    → GoesPast p k v w → Stood n C v (Saw f before after) → Stood (n + k) C w (Saw f before after)
stood_past p f passes n k C v w before after go s =
    let (D, ks, passed, reached, is, stands) = go s.last s.is s.stands in
    let (more, all, same) = reaches_more n k C s.last D s.labels ks s.reached reached in
    record {
      labels = s.labels ++ more;
      last = D;
      reached = all;
      is = is;
      stands = stands;
      seen = saw_more f f (λ u m l. refl) before after after more (saw_past p f passes after more (same p passed)) s.labels s.seen;
    }

-- after some steps of a right run the others are right
pub right_after : (n fuel left : ℕ) (v w : View) (Seen : List (ℕ × Label) → Type 0) → n + left ≤ fuel → IsRightFor v fuel
    → ((C : Configuration) → IsConfiguration C → StandsFor v C → Stood n C w Seen) → IsRightFor w left
right_after n fuel left v w Seen within r stood =
    let s = stood r.configuration r.is r.stands in
    record {
      configuration = s.last;
      is = s.is;
      stands = s.stands;
      right = λ k labels D lt reached.
          let (more, all, same) = reaches_more n k r.configuration s.last D s.labels labels s.reached reached in
          r.right (n + k) (s.labels ++ more) D (omega (arith, lt, within)) all;
    }

-- ---- steps that are passed over

-- they are seen as such
pub stood_of : (p : Bool) (n : ℕ) (v w : View) → GoesPast p n v w → (C : Configuration) → IsConfiguration C → StandsFor v C → Stood n C w (ArePassed p)
stood_of p n v w go C is stands =
    let (D, labels, passed, reached, at, by) = go C is stands in
    record { labels = labels; last = D; reached = reached; is = at; stands = by; seen = passed }

-- one more, with this label
pub label_past : (p : Bool) (n : ℕ) (label : Label) (v w u : View) → GoesPast p n v w → ((m : ℕ) → ArePassed p (shown m label))
    → ((D : Configuration) → IsConfiguration D → StandsFor w D → Follows D label u) → GoesPast p (n + 1) v u
label_past p n label v w u go past step C is stands =
    let (D, labels, passed, reached, at, by) = go C is stands in
    let f = step D at by in (
      f.after,
      labels ++ shown (suc n) label,
      passed_both p labels (shown (suc n) label) passed (past (suc n)),
      subst (λ k. Reaches k C (labels ++ shown (suc n) label) f.after) (sym (add-one n)) (D, labels, label, reached, f.steps, refl),
      f.is,
      f.stands,
    )

-- one more, with this event
pub one_past : (p : Bool) (n : ℕ) (h : HeapState) (e : Shown) (v w u : View) → GoesPast p n v w → IsPassed p e
    → ((D : Configuration) → IsConfiguration D → StandsFor w D → IsStepOf D (label_shown h e) (trap_shown e) u) → GoesPast p (n + 1) v u
one_past p n h e v w u go past step =
    label_past p n (label_shown h e) v w u go (passed_label p h e past)
    (λ D at by. subst (λ (t : Option Span). IsStepOf D (label_shown h e) t u) (passed_is_none p e past) (step D at by))

-- ---- where a run stops

pub not_true : (b : Bool) → b ≡ false → IsTrue b → ⊥
not_true b e t = cc

-- steps that show nothing are passed over, whatever else is
any_passed : (p : Bool) (ks : List (ℕ × Label)) → ArePassed false ks → ArePassed p ks
any_passed p [] a = tt
any_passed p ((n, Quiet) ∷ ks) a = absurd a
any_passed p ((n, Comm c v) ∷ ks) a = absurd (not_true false refl a.0)
any_passed p ((n, Print bytes) ∷ ks) a = absurd a

-- some of them more
past_all : (p : Bool) (n k : ℕ) (v w u : View) → GoesPast p n v w → GoesPast p k w u → GoesPast p (n + k) v u
past_all p n k v w u before after C is stands =
    let (D, labels, passed, reached, at, by) = before C is stands in
    let (E, ks, are_passed, further, there, lasts) = after D at by in
    let (more, all, same) = reaches_more n k C D E labels ks reached further in
    (E, labels ++ more, passed_both p labels more passed (same p are_passed), all, there, lasts)

pub past_both : (p : Bool) (n k : ℕ) (v w u : View) → GoesPast p n v w → GoesPast false k w u → GoesPast p (n + k) v u
past_both p n k v w u before after =
    past_all p n k v w u before
    (λ D at by. let (E, ks, quiet, further, there, lasts) = after D at by in (E, ks, any_passed p ks quiet, further, there, lasts))

-- a step that is passed over, whether its event is shown or not
pub passed_on : (p : Bool) (n : ℕ) (v w : View) (new : Machine) (e : Shown) → GoesPast p n v w → IsPassed p e → ShowsOrPasses p w new e → GoesPast p (n + 1) v (running_view new)
passed_on p n v w new e before past (inl has) = one_past p n (heap_of new) e v w (running_view new) before past has.step
passed_on p n v w new e before past (inr x) = past_all p n 1 v w (running_view new) before x.1

-- a step that isn't passed over has its event
pub has_event : (p : Bool) (v : View) (new : Machine) (e : Shown) (b : Bool) → b ≡ false → IsTrue b ↔ IsPassed p e → ShowsOrPasses p v new e → HasEvent v new e
has_event p v new e b same r (inl has) = has
has_event p v new e b same r (inr x) = absurd (not_true b same (r.1 (subst (IsPassed p) (sym x.0) tt)))

-- nobody is next
pub none_next : (v : View) (b : Bool) → b ≡ false → IsTrue b ↔ (v.ready ≢ []) → v.ready ≡ []
none_next v b e r = empty_of v.ready (λ some. not_true b e (r.1 some))

ends_of : (n fuel : ℕ) (C : Configuration) (v : View) (Seen : List (ℕ × Label) → Type 0) (e : End) → StopsAs v e → n ≤ fuel → (v.ready ≢ [] → n ≡ fuel)
    → Stood n C v Seen → RanFor C fuel n (end_of e) v Seen
ends_of n fuel C v Seen end.Done none le all s =
    is_done n fuel C v Seen false n refl le refl (ready_is v false (λ t. absurd (not_true false refl t), λ some. absurd (some none))) s
ends_of n fuel C v Seen end.FuelSpent some le all s =
    let spent = is_spent n fuel C v Seen true (all some) refl (ready_is v true (λ t. some, λ t. refl)) s in
    subst (λ (k : ℕ). RanFor C fuel k (end_of end.FuelSpent) v Seen) (sym (all some)) spent
ends_of n fuel C v Seen (end.Trap at) none le all s = absurd none

-- the end of a run that no trap ends
pub stops_of : (n fuel steps : ℕ) (C : Configuration) (v : View) (Seen : List (ℕ × Label) → Type 0) (e : End) → steps ≡ n → StopsAs v e → n ≤ fuel → (v.ready ≢ [] → n ≡ fuel)
    → Stood n C v Seen → RanFor C fuel steps (end_of e) v Seen
stops_of n fuel steps C v Seen e same stops le all s = subst (λ (k : ℕ). RanFor C fuel k (end_of e) v Seen) (sym same) (ends_of n fuel C v Seen e stops le all s)

-- where somebody is next as many steps are made as may be
all_made : (n passed most fuel : ℕ) (v w : View) → n + most ≡ fuel → w ≡ v → (passed ≡ most) ⊎ (v.ready ≡ []) → w.ready ≢ [] → n + passed ≡ fuel
all_made n passed most fuel v w all same either some =
    ⊎_elim (λ (e : passed ≡ most). ap (λ (k : ℕ). n + k) e ∙ all) (λ (none : v.ready ≡ []). absurd (some (ap (λ (u : View). u.ready) same ∙ none))) either

-- ---- what follows the steps that are passed over

module _ (p : Bool) (f : List ℕ → ℕ → Label → List ℕ) (passes : IsTrue p → PassesCommunications f) (before after : Option (List ℕ)) (n fuel : ℕ) (C : Configuration) (old new : Machine) (most passed : ℕ)
    (r : Result (Option Shown) AllocError) (gone : GoesOn p old new most passed r) (all : n + most ≡ fuel) where
  pub within : n + passed ≤ fuel
  within = let few = gone.few in omega (arith, few, all)

  pub stood_between : Stood n C (running_view old) (Saw f before after) → Stood (n + passed) C gone.between (Saw f before after)
  stood_between s = stood_past p f passes n passed C (running_view old) gone.between before after gone.past s

  then_of : (s : Result (Option Shown) AllocError) → r ≡ s → ThenComes p gone.between new most passed s
  then_of s same = subst (ThenComes p gone.between new most passed) same gone.then

  -- a further step
  pub further : (e : Shown) → r ≡ Ok (Some e) → n + passed < fuel
  further e same = let lt = (then_of (Ok (Some e)) same).0 in omega (arith, lt, all)

  pub event_of : (e : Shown) → r ≡ Ok (Some e) → HasEvent gone.between new e
  event_of e same = (then_of (Ok (Some e)) same).2

  -- no further one
  pub rests : (steps : ℕ) (e : End) → r ≡ Ok None → steps ≡ n + passed → StopsAs (running_view new) e
      → Stood n C (running_view old) (Saw f before after) → RanFor C fuel steps (end_of e) (running_view new) (Saw f before after)
  rests steps e same count stops s =
      let t = then_of (Ok None) same in
      let stood = subst (λ (v : View). Stood (n + passed) C v (Saw f before after)) (sym t.0) (stood_between s) in
      stops_of (n + passed) fuel steps C (running_view new) (Saw f before after) e count stops within (all_made n passed most fuel gone.between (running_view new) all t.0 t.1) stood

  -- memory is wanting
  pub wants : (e : AllocError) (T : List ℕ → ℕ → Label → List ℕ → Type 0) → r ≡ Err e
      → Stood n C (running_view old) (Saw f before after) → BrokeOff C fuel (StandsFor (running_view new)) (SawOrTore f T before after)
  wants e T same s = broke_before (n + passed) fuel C gone.between (running_view new) f T before after within (then_of (Err e) same).1 (stood_between s)
