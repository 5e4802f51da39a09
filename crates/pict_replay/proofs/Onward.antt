-- A replay, from choice to choice, where a view stands for the configuration.
use Rattle.std.proofs.Common.{ℕ, ◌+◌, ◌≡◌, ◌≢◌, true, false, List, [], ◌∷◌, ◌++◌, length, append-nil, sym, ap, ◌∙◌, subst}
use Rattle.pict_core.specs.Term.{Process}
use Rattle.pict_core.specs.Closed.{IsClosed}
use Rattle.pict_core.specs.Configuration.{Configuration, IsConfiguration, opening}
use Rattle.pict_core.specs.Places.{Place}
use Rattle.pict_reduction.specs.Reached.{FreelyReaches, NoFreeRunIsWrong}
use Rattle.pict_reduction.proofs.FreeRuns.{free_runs_reach}
use Rattle.pict_view.specs.View.{View, StandsFor}
use Rattle.pict_core.specs.Run.{shown}
use Rattle.pict_replay.specs.Replayed as replayed
use Rattle.pict_replay.specs.Replayed.{Line, Agrees, Replays, at_start, by_step, unused_after, is_overdue, IsAtFault, overdue, left_over, IsFault}
use Rattle.pict_replay.specs.Turns.{StandsRight, IsAsGiven, FailsAt}
use Rattle.pict_replay.proofs.Replaying.{replay_runs, replayed_agrees}

-- These choices were done, none at fault, and these lines are unused. The view stands for the configuration after them.
pub record HasReplayed (p : Process) (lines : List Line) (before : List Place) (unused : List Line) (v : View) : Type 0 where
  pub last : Configuration
  pub replays : Replays (opening p) lines before last unused
  pub is : IsConfiguration last
  pub stands : StandsFor v last

pub begun : (p : Process) (lines : List Line) (v : View) → IsConfiguration (opening p) → StandsFor v (opening p) → HasReplayed p lines [] lines v
begun p lines v is stands = record { last = opening p; replays = at_start; is = is; stands = stands }

module _ (p : Process) (lines : List Line) (before : List Place) (unused : List Line) (v : View) (r : HasReplayed p lines before unused v) where
  -- no step from there is wrong
  pub stands_right : IsClosed p → NoFreeRunIsWrong p → StandsRight v
  stands_right closed right =
      let run = replay_runs (opening p) lines before r.last unused r.replays in
      let reached : FreelyReaches (opening p) r.last = free_runs_reach p before run.0 r.last closed run.1 in
      record { configuration = r.last; is = r.is; stands = r.stands; right = right r.last reached }

  module _ (k : ℕ) (count : k ≡ length before + 1) where
    -- one choice more
    pub onward : (place : Place) (w : View) → is_overdue k unused ≡ false → ((C : Configuration) → IsConfiguration C → StandsFor v C → IsAsGiven k C place unused w) → HasReplayed p lines (before ++ place ∷ []) (unused_after k unused) w
    onward place w late given =
        let on = given r.last r.is r.stands in
        let k_is : k ≡ length before + 1 = count in
        let late_then : is_overdue (length before + 1) unused ≡ false = ap (λ n. is_overdue n unused) (sym k_is) ∙ late in
        let given_then : shown (length before + 1) on.label ≡ replayed.given (length before + 1) unused
        = ap (λ n. shown n on.label) (sym k_is) ∙ on.as_given ∙ ap (λ n. replayed.given n unused) k_is in
        record {
          last = on.leads.after;
          replays = subst (λ n. Replays (opening p) lines (before ++ place ∷ []) on.leads.after (unused_after n unused)) (sym k_is) (by_step r.replays late_then on.there on.leads.steps given_then);
          is = on.leads.is;
          stands = on.leads.stands;
        }

    pub fault : (choices rest : List Place) → choices ≡ before ++ rest → IsAtFault k r.last unused rest → IsFault p choices lines k
    fault choices rest whole fails = record { before = before; rest = rest; whole = whole; number = count; at = r.last; unused = unused; replays = r.replays; fails = fails }

    pub fault_late : (choices rest : List Place) → choices ≡ before ++ rest → is_overdue k unused ≡ true → IsFault p choices lines k
    fault_late choices rest whole late = fault choices rest whole (overdue late)

    pub fault_here : (choices rest : List Place) (place : Place) → choices ≡ before ++ place ∷ rest → ((C : Configuration) → IsConfiguration C → StandsFor v C → FailsAt k C place unused) → IsFault p choices lines k
    fault_here choices rest place whole fails = fault choices (place ∷ rest) whole (fails r.last r.is r.stands rest)

    pub fault_left : (choices : List Place) → choices ≡ before → unused ≢ [] → IsFault p choices lines k
    fault_left choices whole some = fault choices [] (whole ∙ sym (append-nil before)) (left_over some)

  pub agrees : (choices : List Place) → choices ≡ before → unused ≡ [] → Agrees p choices lines
  agrees choices whole none =
      let R : List Place → List Line → Type 0 = λ b u. Replays (opening p) lines b r.last u in
      let moved : R choices [] = subst (R choices) none (subst (λ b. R b unused) (sym whole) r.replays) in
      (replayed_agrees p choices lines).0 (r.last, moved)
