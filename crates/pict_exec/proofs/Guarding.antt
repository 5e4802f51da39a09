-- Guarded runs: they stop before a wrong step, and go on behind any other.
use Rattle.std.proofs.Common.{ℕ, zero, suc, ◌<◌, ◌≡◌, ◌≢◌, ◌↔◌, inl, Bool, false, List, [], IsTrue, Option, Some, None, Result, Ok, Err, IfOk, OnErr, refl, sym, subst, arith}
use Rattle.pict_core.specs.Configuration.{Configuration, IsConfiguration, opening}
use Rattle.pict_core.specs.Run as run
use Rattle.pict_core.specs.Run.{End}
use Rattle.pict_core.specs.Step.{Label, Wrong, next}
use Rattle.pict_core.specs.Term.{Process}
use Rattle.pict_view.specs.View.{View, StandsFor}
use Rattle.pict_view.specs.Right.{StepsRight, IsRightFor}
use Rattle.pict_view.specs.Watching.{SawOrTore, Ran, BrokeOff}
use Rattle.pict_view.proofs.Runs.{Stood}
use Rattle.pict_exec.specs.Ends.{Executed, Anywhere}

not_true : (b : Bool) → b ≡ false → IsTrue b → ⊥
not_true b e t = cc

-- a step within the fuel is wrong
pub is_misshapen : (n fuel : ℕ) (C : Configuration) (v v' : View) (Seen : List (ℕ × Label) → Type 0) (b : Bool) → n < fuel → IsTrue b → v' ≡ v
    → ((D : Configuration) → IsConfiguration D → StandsFor v D → IsTrue b ↔ (next D ≡ Wrong)) → Stood n C v Seen → Ran C fuel run.Misshapen v' Seen
is_misshapen n fuel C v v' Seen b lt t same w s =
    record { labels = s.labels; runs = record { steps = n; last = s.last; reached = s.reached; ends = (lt, (w s.last s.is s.stands).0 t) }; is = s.is; stands = subst (λ u. StandsFor u s.last) (sym same) s.stands; seen = s.seen }

one_right : (C : Configuration) → next C ≢ Wrong → StepsRight C 1
one_right C h zero labels D lt reached = subst (λ X. next X ≢ Wrong) reached.0 h
one_right C h (suc n) labels D lt reached = absurd (omega (arith, lt))

-- the next step isn't wrong
pub right_next : (n : ℕ) (C : Configuration) (v : View) (Seen : List (ℕ × Label) → Type 0) (b : Bool) → b ≡ false
    → ((D : Configuration) → IsConfiguration D → StandsFor v D → IsTrue b ↔ (next D ≡ Wrong)) → Stood n C v Seen → IsRightFor v 1
right_next n C v Seen b e w s =
    record { configuration = s.last; is = s.is; stands = s.stands; right = one_right s.last (λ wrong. not_true b e ((w s.last s.is s.stands).1 wrong)) }

-- ---- from a machine to its process

module _ (p : Process) (fuel : ℕ) (v w : View) (Seen : List (ℕ × Label) → Type 0) (is : IsConfiguration (opening p)) (stands : StandsFor v (opening p)) where
  pub ended : {T E : Type 0} (r : Result T E) (end : T → End) → IfOk r (λ x. (C : Configuration) → IsConfiguration C → StandsFor v C → Ran C fuel (end x) w Seen) → IfOk r (λ x. Executed p fuel (end x) Seen)
  ended (Ok x) end h = let ran = h (opening p) is stands in record { labels = ran.labels; runs = ran.runs; seen = ran.seen }
  ended (Err e) end h = tt

  anywhere : BrokeOff (opening p) fuel (StandsFor w) Seen → BrokeOff (opening p) fuel Anywhere Seen
  anywhere b = record { steps = b.steps; few = b.few; last = b.last; labels = b.labels; reached = b.reached; is = b.is; stands = tt; seen = b.seen }

  pub broken : {T E : Type 0} (r : Result T E) → OnErr r ((C : Configuration) → IsConfiguration C → StandsFor v C → BrokeOff C fuel (StandsFor w) Seen) → OnErr r (BrokeOff (opening p) fuel Anywhere Seen)
  broken (Ok x) h = tt
  broken (Err e) h = anywhere (h (opening p) is stands)

-- ---- before the first step

nothing_seen : (f : List ℕ → ℕ → Label → List ℕ) (T : List ℕ → ℕ → Label → List ℕ → Type 0) (before : Option (List ℕ)) → SawOrTore f T before before []
nothing_seen f T None = tt
nothing_seen f T (Some b) = inl refl
