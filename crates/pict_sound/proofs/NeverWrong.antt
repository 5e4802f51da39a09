-- Free steps keep typing, so that no choices lead from a well typed configuration to a wrong one.
use Rattle.std.proofs.Common.{ℕ, zero, suc, List, [], refl, subst}
use Rattle.pict_core.specs.Term.{Process}
use Rattle.pict_core.specs.Configuration.{Configuration, IsConfiguration, opening}
use Rattle.pict_core.specs.Step.{Label}
use Rattle.pict_core.specs.Run.{Reaches}
use Rattle.pict_core.proofs.Kept.{free_steps_keep, oldest_first_is_free, wrong_steps}
use Rattle.pict_typing.specs.Worlds.{over}
use Rattle.pict_typing.specs.Processes.{IsTyped, IsWellTyped}
use Rattle.pict_typing.proofs.Rows.{free_step_typed, not_wrong}
use Rattle.pict_typing.proofs.Within.{typed_are_closed}
use Rattle.pict_reduction.specs.Reached.{FreelyReaches, at_start, by_step}
use Rattle.pict_sound.specs.TypingLaws.{FreeStepsKeepTyping, WellTypedIsNotWrong, nowhere, first, NoChoicesGoWrong, TypedIsNeverWrong, TypedStepsAreNotWrong, TypedRunsAreNotWrong}
use Rattle.pict_reduction.proofs.Apart.{opening_reached}

pub free_steps_keep_typing : FreeStepsKeepTyping
free_steps_keep_typing = free_step_typed

pub well_typed_is_not_wrong : WellTypedIsNotWrong
well_typed_is_not_wrong = not_wrong

pub no_choices_go_wrong : NoChoicesGoWrong
no_choices_go_wrong names _ C _ good nowhere wrong = not_wrong names C good wrong
no_choices_go_wrong names _ C E good (first {D = D} {choice = choice} {choices = choices} {label = label} s r) wrong =
    no_choices_go_wrong names choices D E (free_step_typed names C choice D label good s) r wrong

reached_typed : (names : List (List ℕ)) (C D : Configuration) → IsWellTyped names C → FreelyReaches C D → IsWellTyped names D
reached_typed names C _ good at_start = good
reached_typed names C _ good (by_step {D = D} {E = E} {choice = choice} {label = label} r s) = free_step_typed names D choice E label (reached_typed names C D good r) s

opening_typed : (names : List (List ℕ)) (p : Process) → IsTyped (over names []) p → IsWellTyped names (opening p)
opening_typed names p h = record { messages = []; closed = tt; one_each = refl; typed = (h, tt) }

pub typed_is_never_wrong : TypedIsNeverWrong
typed_is_never_wrong names p C h r = not_wrong names C (reached_typed names (opening p) C (opening_typed names p h) r)

-- ---- oldest-first runs

record IsRight (names : List (List ℕ)) (C : Configuration) : Type 0 where
  typed : IsWellTyped names C
  configuration : IsConfiguration C

opening_right : (names : List (List ℕ)) (p : Process) → IsTyped (over names []) p → IsRight names (opening p)
opening_right names p h = let good = opening_typed names p h in record { typed = good; configuration = (opening_reached p (typed_are_closed names (opening p) good).0).is }

run_right : (names : List (List ℕ)) (p : Process) (n : ℕ) (labels : List (ℕ × Label)) (C : Configuration) → IsTyped (over names []) p → Reaches n (opening p) labels C → IsRight names C
run_right names p zero labels C h r = subst (IsRight names) r.0 (opening_right names p h)
run_right names p (suc n) labels C h r =
    let x = run_right names p n r.1 r.0 h r.3 in
    let s = oldest_first_is_free r.0 C r.2 x.configuration r.4 in
    record { typed = free_step_typed names r.0 s.0 C r.2 x.typed s.1; configuration = free_steps_keep r.0 s.0 C r.2 x.configuration s.1 }

pub typed_steps_are_not_wrong : TypedStepsAreNotWrong
typed_steps_are_not_wrong names p n labels C h r wrong =
    let x = run_right names p n labels C h r in
    not_wrong names C x.typed (wrong_steps C x.configuration wrong)

pub typed_runs_are_not_wrong : TypedRunsAreNotWrong
typed_runs_are_not_wrong names p fuel labels h r = typed_steps_are_not_wrong names p r.steps labels r.last h r.reached r.ends.1
