-- Accepted programs run rightly: their core processes are those of typed programs.
use Rattle.std.proofs.Common.{ℕ, zero, suc, List, subst}
use Rattle.pict_core.specs.Term.{Process}
use Rattle.pict_core.specs.Closed.{IsClosed}
use Rattle.pict_core.specs.Configuration.{Configuration, IsConfiguration, opening}
use Rattle.pict_core.specs.Step.{Label, IsWrong}
use Rattle.pict_core.specs.Run.{Reaches}
use Rattle.pict_core.proofs.Kept.{free_steps_keep, oldest_first_is_free, wrong_steps}
use Rattle.pict_reduction.specs.Reached.{FreelyReaches, NoFreeRunIsWrong, at_start, by_step}
use Rattle.pict_reduction.proofs.Apart.{opening_reached}
use Rattle.pict_sound.proofs.Programs.{program_is_never_wrong, program_steps_are_not_wrong}
use Rattle.pict_view.specs.Right.{RunsRight}
use Rattle.pict_front.specs.Front.{Front}
use Rattle.pict_front.specs.Laws.{IsAccepted}

-- none of the oldest-first steps is wrong, whatever the fuel
pub accepted_runs_right : (front : Front) → IsAccepted front → (fuel : ℕ) → RunsRight front.core fuel
accepted_runs_right front a fuel n labels C few reached =
    program_steps_are_not_wrong front.names a.program n labels C a.typed (subst (λ p. Reaches n (opening p) labels C) a.core reached)

-- a configuration that free steps reach
record IsFree (p : Process) (C : Configuration) : Type 0 where
  is : IsConfiguration C
  freely : FreelyReaches (opening p) C

run_is_free : (p : Process) → IsClosed p → (n : ℕ) (labels : List (ℕ × Label)) (C : Configuration) → Reaches n (opening p) labels C → IsFree p C
run_is_free p closed zero labels C r = subst (IsFree p) r.0 (record { is = (opening_reached p closed).is; freely = at_start })
run_is_free p closed (suc n) labels C r =
    let x = run_is_free p closed n r.1 r.0 r.3 in
    let s = oldest_first_is_free r.0 C r.2 x.is r.4 in
    record { is = free_steps_keep r.0 s.0 C r.2 x.is s.1; freely = by_step x.freely s.1 }

-- where no free run is wrong none of the oldest-first steps is
pub runs_right : (p : Process) → IsClosed p → NoFreeRunIsWrong p → (fuel : ℕ) → RunsRight p fuel
runs_right p closed right fuel n labels C few reached wrong =
    let f = run_is_free p closed n labels C reached in right C f.freely (wrong_steps C f.is wrong)

-- no configuration that free steps reach is wrong
pub accepted_is_freely_right : (front : Front) → IsAccepted front → NoFreeRunIsWrong front.core
accepted_is_freely_right front a C reached = program_is_never_wrong front.names a.program C a.typed (subst (λ p. FreelyReaches (opening p) C) a.core reached)

-- no configuration of the run is wrong
pub accepted_is_never_wrong : (front : Front) → IsAccepted front → IsClosed front.core → (n : ℕ) (labels : List (ℕ × Label)) (C : Configuration) → Reaches n (opening front.core) labels C → IsWrong C → ⊥
accepted_is_never_wrong front a closed n labels C reached = accepted_is_freely_right front a C (run_is_free front.core closed n labels C reached).freely
