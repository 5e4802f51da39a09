-- An output of kept values that has the turn, on a channel.
use Rattle.std.proofs.Common.{ℕ, ◌≡◌, ap, ◌∙◌}
use Rattle.pict_core.specs.Term.{Process, Chan, Out}
use Rattle.pict_desk.specs.declared.kept.Kept.{Kept}
use Rattle.pict_desk.specs.Known.{value_in}
use Rattle.pict_meetings.specs.Partners.{Sends, SendsKept}
use Rattle.pict_turns.specs.Acting.{HasActing}
use Rattle.pict_turns.specs.declared.store.Store.{Store}
use Rattle.pict_turns.specs.declared.turn.Turn.TheVariants.{Output}
use Rattle.pict_turns.proofs.Outputs.{kept_message, kept_process, kept_is, kept_to_is}

module _ (core : Process) (s : Store) (acting : HasActing core s) (kept : Kept) (has : s.turn ≡ Output kept) where
  module _ (c : ℕ) (e : value_in s.desk.heap kept.to.0 kept.to.1 ≡ Chan c) where
    pub kept_send : Sends core s c kept.message kept.at
    kept_send = record { acting = acting; pair = kept_message core s acting kept has; is = kept_process core s acting kept has ∙ ap (λ v. Out v (value_in s.desk.heap kept.message.0 kept.message.1) kept.at) e }

    pub sends_kept : SendsKept core s c
    sends_kept = record {
      acting = acting;
      kept = kept_is core s acting kept has;
      to = ap (λ (x : ℕ × ℕ). value_in s.desk.heap x.0 x.1) (kept_to_is core s acting kept has) ∙ e;
    }
