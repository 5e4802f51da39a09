-- What the program's actor does is the next step.
use Rattle.std.proofs.Common.{ℕ, ◌≡◌, refl, sym, ap, ◌∙◌, subst, Option, Some, None, option_map, Result, Ok, Err, IfOk}
use Rattle.pict_core.specs.Configuration.{Entry, Configuration, IsConfiguration}
use Rattle.pict_core.specs.Step.{least, is_ready, is_partner, act, next}
use Rattle.std.specs.declared.alloc.AllocError.{AllocError}
use Rattle.pict_core.specs.Term.{Process}
use Rattle.pict_core.proofs.Nexts.{next_acts}
use Rattle.pict_reference.specs.declared.outcome.StepOutcome.{StepOutcome}
use Rattle.pict_reference.specs.Plain.{stamped, IsOutcome, GivesOutcome}

by_actor : (C : Configuration) (s : ℕ) (p : Process) (o : Option Entry) → least is_ready C.entries ≡ o → Some (s, p) ≡ option_map stamped o → IsConfiguration C → next C ≡ act C s (least (is_partner p) C.entries) p
by_actor C s p None h e is = cc
by_actor C s p (Some a) h e is =
    let same : (s, p) ≡ stamped a = cc e in
    let stamp : s ≡ a.stamp = ap (λ (x : ℕ × Process). x.0) same in
    let process : p ≡ a.process = ap (λ (x : ℕ × Process). x.1) same in
    next_acts C is a h ∙ ap (λ q. act C a.stamp (least (is_partner q) C.entries) q) (sym process) ∙ ap (λ t. act C t (least (is_partner p) C.entries) p) (sym stamp)

pub next_found : (C D : Configuration) (s : ℕ) (p : Process) (r : Result StepOutcome AllocError) → Some (s, p) ≡ option_map stamped (least is_ready C.entries) → GivesOutcome r (act C s (least (is_partner p) C.entries) p) C D
    → IfOk r (λ made. IsConfiguration C → IsOutcome made (next C) C D)
next_found C D s p (Ok made) e h = λ is. subst (λ o. IsOutcome made o C D) (sym (by_actor C s p (least is_ready C.entries) refl e is)) h
next_found C D s p (Err x) e h = h
