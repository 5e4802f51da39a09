-- What becomes of a configuration in a step is a deed, placed.
use Rattle.std.proofs.Common.{ℕ, ◌≡◌, Bool, true, false, refl, List, Option, Some, None}
use Rattle.pict_syntax.specs.declared.span.Span.{Span}
use Rattle.pict_core.specs.Term.{Val, Pat, Process, Chan, Boolean, PrimitiveVal, Out, In, If}
use Rattle.pict_core.specs.Matching.{match_value}
use Rattle.pict_core.specs.Primitives.{Effect, Leaves, Nothing, Answer, Trap, effect_of}
use Rattle.pict_core.specs.Configuration.{Ready, Configuration}
use Rattle.pict_core.specs.Step as step
use Rattle.pict_core.specs.Step.{Label, Steps, Comm, gone, added, printing}
use Rattle.pict_core.specs.Deed as deeds
use Rattle.pict_core.specs.Placing.{place, ActsArePlaced}

module _ (C : Configuration) (s r : ℕ) where
  leaves : (at : Span) (label : Label) (l : Leaves) → step.leave C s at label l ≡ place C s r (deeds.leaves at label l)
  leaves at label Nothing = refl
  leaves at label (Answer k a) = refl
  leaves at label Trap = refl

  performs : (at : Span) (e : Option Effect) → step.perform C s at e ≡ place C s r (deeds.performs at e)
  performs at None = refl
  performs at (Some e) = leaves at (printing e.printed) e.leaves

  serves : (c : ℕ) (v : Val) (b : Bool) (reader body : Process) (bound : Option (List Val))
      → step.received bound body (λ p. Steps (step.served b reader (added Ready p (gone r (gone s C)))) (Comm c v)) ≡ place C s r (deeds.serves c v b reader body bound)
  serves c v b reader body None = refl
  serves c v b reader body (Some bound) = refl

  takes : (c : ℕ) (v : Val) (b : Bool) (body : Process) (bound : Option (List Val))
      → step.received bound body (λ p. Steps (added Ready p (gone r (step.took b s C))) (Comm c v)) ≡ place C s r (deeds.takes c v b body bound)
  takes c v b body None = refl
  takes c v b body (Some bound) = refl

  -- with the partner u
  serves_by : (c : ℕ) (v : Val) (at : Span) (u : Process) → step.meet_reader C s c v r u ≡ place C s r (deeds.offers c v (Out (Chan c) v at) (Some u))
  serves_by c v at (In w b pattern body) = serves c v b (In w b pattern body) body (match_value pattern v)
  serves_by c v at _ = refl

  takes_from : (c : ℕ) (b : Bool) (pattern : Pat) (body u : Process) → step.meet_message C s c b pattern body r u ≡ place C s r (deeds.asks c b pattern body (In (Chan c) b pattern body) (Some u))
  takes_from c b pattern body (Out w v at) = takes c v b body (match_value pattern v)
  takes_from c b pattern body _ = refl

pub acts_are_placed : ActsArePlaced
acts_are_placed C s o (If (Boolean true) p q) = refl
acts_are_placed C s o (If (Boolean false) p q) = refl
acts_are_placed C s o (Out (PrimitiveVal f) v at) = performs C s _ at (effect_of f v)
acts_are_placed C s None (Out (Chan c) v at) = refl
acts_are_placed C s None (In (Chan c) b pattern body) = refl
acts_are_placed C s (Some u) (Out (Chan c) v at) = serves_by C s u.stamp c v at u.process
acts_are_placed C s (Some u) (In (Chan c) b pattern body) = takes_from C s u.stamp c b pattern body u.process
acts_are_placed C s o _ = refl
