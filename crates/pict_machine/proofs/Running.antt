-- Runs that break off: before a step for want of memory, or behind one whose showing was refused.
use Rattle.std.proofs.Common.{ℕ, ◌≤◌, ◌≡◌, inl, List, sym, subst, Option, Some, None, Result, Ok, Err, IfOk, OnErr}
use Rattle.pict_core.specs.Configuration.{Configuration, IsConfiguration}
use Rattle.pict_core.specs.Step.{Label}
use Rattle.pict_heap.specs.HeapState.{HeapState}
use Rattle.pict_view.specs.View.{View, StandsFor}
use Rattle.pict_view.specs.Watching.{Saw, SawOrTore, BrokeOff}
use Rattle.pict_view.specs.Stepping.{IsStepOf}
use Rattle.pict_view.proofs.Runs.{Stood}
use Rattle.pict_syntax.specs.declared.span.Span.{Span}
use Rattle.pict_machine.specs.Events.{label_of, trap_of}
use Rattle.pict_turns.specs.Shown.{label_shown, trap_shown}
use Rattle.pict_machine.specs.declared.event.Event.{Event}
use Rattle.pict_turns.specs.declared.event.Shown.{Shown}
use Rattle.pict_turns.specs.declared.event.Shown.TheVariants as shows

saw_all : (f : List ℕ → ℕ → Label → List ℕ) (T : List ℕ → ℕ → Label → List ℕ → Type 0) (before after : Option (List ℕ)) (labels : List (ℕ × Label)) → Saw f before after labels → SawOrTore f T before after labels
saw_all f T None after labels d = tt
saw_all f T (Some b) None labels d = d
saw_all f T (Some b) (Some a) labels d = inl d

-- a step was refused, which changes no view
pub broke_before : (n fuel : ℕ) (C : Configuration) (v v' : View) (f : List ℕ → ℕ → Label → List ℕ) (T : List ℕ → ℕ → Label → List ℕ → Type 0) (before after : Option (List ℕ)) → n ≤ fuel → v' ≡ v
    → Stood n C v (Saw f before after) → BrokeOff C fuel (StandsFor v') (SawOrTore f T before after)
broke_before n fuel C v v' f T before after few same s = record {
  steps = n;
  few = few;
  last = s.last;
  labels = s.labels;
  reached = s.reached;
  is = s.is;
  stands = subst (λ w. StandsFor w s.last) (sym same) s.stands;
  seen = saw_all f T before after s.labels s.seen;
}

-- a step's label, by words of an equal heap, where the event is unpacked
pub seen_steps : (h h' : HeapState) (e : Shown) (x : Event) (v v' : View) → h ≡ h' → label_of h' x ≡ label_shown h' e → trap_of x ≡ trap_shown e
    → ((D : Configuration) → IsConfiguration D → StandsFor v D → IsStepOf D (label_shown h' e) (trap_shown e) v')
    → (D : Configuration) → IsConfiguration D → StandsFor v D → IsStepOf D (label_of h x) (trap_of x) v'
seen_steps h h' e x v v' same label trap steps D is s =
    subst (λ g. IsStepOf D (label_of g x) (trap_of x) v') (sym same)
    (subst (λ t. IsStepOf D (label_of h' x) t v') (sym trap) (subst (λ l. IsStepOf D l (trap_shown e) v') (sym label) (steps D is s)))

-- what traps unpacked traps packed
pub trapped_packed : (e : Shown) (at : Span) → Some at ≡ trap_shown e → e ≡ shows.Trapped at
trapped_packed shows.Quiet at is = cc
trapped_packed (shows.Comm channel value) at is = cc
trapped_packed (shows.Print word) at is = cc
trapped_packed (shows.Trapped there) at is = cc

-- ---- equal views before and afterwards

module _ (v v' w w' : View) (before : v ≡ v') (after : w ≡ w') where
  pub ends_same : {T E : Type 0} (r : Result T E) (P : T → Configuration → View → Type 0) → IfOk r (λ x. (C : Configuration) → IsConfiguration C → StandsFor v C → P x C w)
      → IfOk r (λ x. (C : Configuration) → IsConfiguration C → StandsFor v' C → P x C w')
  ends_same (Ok x) P p = λ C is s. subst (P x C) after (p C is (subst (λ u. StandsFor u C) (sym before) s))
  ends_same (Err e) P p = tt

  pub broken_same : {T E : Type 0} (r : Result T E) (P : Configuration → View → Type 0) → OnErr r ((C : Configuration) → IsConfiguration C → StandsFor v C → P C w)
      → OnErr r ((C : Configuration) → IsConfiguration C → StandsFor v' C → P C w')
  broken_same (Ok x) P p = tt
  broken_same (Err e) P p = λ C is s. subst (P C) after (p C is (subst (λ u. StandsFor u C) (sym before) s))
