-- What a picker's step says of a choice.
use Rattle.std.proofs.Common.{ℕ, ◌≤◌, ◌≡◌, ◌≢◌, ◌↔◌, Bool, true, false, nat_eq, cond, List, [], ◌∷◌, length, drop, refl, sym, ap, Option, Some, None, arith}
use Rattle.std.proofs.lemmas.Bool.Decides.{nat_tests}
use Rattle.pict_syntax.specs.declared.span.Span.{Span}
use Rattle.pict_core.specs.Configuration.{Configuration}
use Rattle.pict_core.specs.Step.{Label, Quiet, Comm, Print}
use Rattle.pict_core.specs.Run.{shown}
use Rattle.pict_core.specs.Places.{Place, IsPlace}
use Rattle.pict_core.proofs.Placing.{wrong_places}
use Rattle.pict_view.specs.View.{View, StandsFor}
use Rattle.pict_picker.specs.Stepping.{IsRightAt, IsStepAt}
use Rattle.pict_replay.specs.Replayed.{Line, given, unused_after, no_place, traps, differs}
use Rattle.pict_replay.specs.Turns.{StandsRight, IsAsGiven, FailsAt}

-- a place may be taken where no step is wrong
pub may_take : (v : View) (place : Place) (r : StandsRight v) → ((C : Configuration) → StandsFor v C → IsPlace C place) → IsRightAt v place.ready place.partner
may_take v place r there = record {
  configuration = r.configuration;
  is = r.is;
  stands = r.stands;
  there = there r.configuration r.stands;
  right = λ wrong. r.right (wrong_places r.configuration place r.is (there r.configuration r.stands) wrong);
}

module _ (k : ℕ) (C : Configuration) (place : Place) (unused : List Line) where
  pub taken : (label : Label) (trap : Option Span) (w : View) → trap ≡ None → IsStepAt C place label trap w → IsPlace C place → shown k label ≡ given k unused → IsAsGiven k C place unused w
  taken label None w none is there shows = record { there = there; label = label; leads = is; as_given = shows }
  taken label (Some at) w none is there shows = cc

  pub not_taken : (label : Label) (trap : Option Span) (w : View) → trap ≡ None → IsStepAt C place label trap w → (shown k label ≡ given k unused → ⊥) → FailsAt k C place unused
  not_taken label None w none is other rest = differs is.steps other
  not_taken label (Some at) w none is other rest = cc

  pub trapped : (label : Label) (trap : Option Span) (at : Span) (w : View) → trap ≡ Some at → IsStepAt C place label trap w → FailsAt k C place unused
  trapped label None at w some is rest = cc
  trapped label (Some span) at w some is rest = traps is.0

  pub nowhere : (IsPlace C place → ⊥) → FailsAt k C place unused
  nowhere none rest = no_place none

-- ---- what is shown

-- a step shows this label with its number where it has it
pub shows_this : (k : ℕ) (label expected : Label) → expected ≢ Quiet → (label ≡ expected) ↔ (shown k label ≡ (k, expected) ∷ [])
shows_this k Quiet expected some = (λ e. absurd (some (sym e)), λ e. (cc))
shows_this k (Comm c v) expected some = (λ e. ap (λ l. (k, l) ∷ []) e, λ e. (let f : ◌≡◌ {A = ℕ × Label} (k, Comm c v) (k, expected) = cc in ap (λ (x : ℕ × Label). x.1) f))
shows_this k (Print bytes) expected some = (λ e. ap (λ l. (k, l) ∷ []) e, λ e. (let f : ◌≡◌ {A = ℕ × Label} (k, Print bytes) (k, expected) = cc in ap (λ (x : ℕ × Label). x.1) f))

-- and nothing where it is quiet
pub shows_none : (k : ℕ) (label : Label) → (label ≡ Quiet) ↔ (shown k label ≡ [])
shows_none k Quiet = (λ e. refl, λ e. refl)
shows_none k (Comm c v) = (λ e. (cc), λ e. (cc))
shows_none k (Print bytes) = (λ e. (cc), λ e. (cc))

-- ---- what is used

-- what the lines give tells which are left
pub used_one : (k : ℕ) (lines : List Line) (line : Line) → given k lines ≡ line ∷ [] → unused_after k lines ≡ drop 1 lines
used_one k [] line e = cc
used_one k (l ∷ ls) line e = by (nat_eq l.0 k) e
  where
    by : (b : Bool) → cond b (l ∷ []) [] ≡ line ∷ [] → cond b ls (l ∷ ls) ≡ ls
    by true f = refl
    by false f = cc

pub used_none : (k : ℕ) (lines : List Line) → given k lines ≡ [] → unused_after k lines ≡ lines
used_none k [] e = refl
used_none k (l ∷ ls) e = by (nat_eq l.0 k) e
  where
    by : (b : Bool) → cond b (l ∷ []) [] ≡ [] → cond b ls (l ∷ ls) ≡ l ∷ ls
    by true f = cc
    by false f = refl

pub some_line : (k : ℕ) (lines : List Line) (line : Line) → given k lines ≡ line ∷ [] → 1 ≤ length lines
some_line k [] line e = cc
some_line k (l ∷ ls) line e = omega arith

pub given_none : (k : ℕ) (l : Line) (ls : List Line) → l.0 ≢ k → given k (l ∷ ls) ≡ []
given_none k l ls n = let t : nat_eq l.0 k ≡ false = grind (arith, nat_tests, n) in ap (λ b. cond b (l ∷ []) []) t
