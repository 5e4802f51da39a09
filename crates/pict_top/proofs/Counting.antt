-- What is counted of a run is what the summary of the run says.
use Rattle.std.proofs.Common.{◌≡◌, ℕ, List, length}
use Rattle.pict_core.specs.Term.{Process}
use Rattle.pict_load.specs.declared.summary.Tally.{Tally}
use Rattle.pict_load.specs.Text.{load_text}
use Rattle.pict_load.specs.Counted.{IsCounted}
use Rattle.pict_load.specs.Summary.{summary_text}
use Rattle.pict_top.specs.Answer.{Shows, summed_up}
use Rattle.pict_top.specs.Printed.{Somehow}

module _ (n text : ℕ) (p : Process) (fuel : ℕ) (whole : text ≡ length (load_text n)) where
  -- the summary of what was counted shows the run
  pub sums_up : (tally : Tally) → IsCounted p fuel tally → Shows p fuel (summed_up n) tally.end (summary_text n text tally)
  sums_up tally is = record {
    labels = is.labels;
    runs = is.runs;
    shows = λ i. summary_text n (whole i) (record { end = tally.end; steps = is.steps i; communications = is.communications i; printed = is.printed i });
  }

  -- so some work of the run wrote it
  pub some_summed : (tally : Tally) → IsCounted p fuel tally → (P : List ℕ → Type 0) → P (summary_text n text tally) → Somehow (Shows p fuel (summed_up n)) P
  some_summed tally is P holds = record { end = tally.end; bytes = summary_text n text tally; does = sums_up tally is; holds = holds }
