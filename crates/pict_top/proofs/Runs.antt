-- What a command's work with an accepted program comes to.
use Rattle.std.proofs.Common.{ℕ, List, refl}
use Rattle.pict_syntax.specs.declared.source.Source.{Source}
use Rattle.pict_outside.proofs.Gaining.{appends_nothing}
use Rattle.pict_machine.specs.declared.event.End.{End}
use Rattle.pict_machine.specs.declared.event.End.TheVariants.{Done, FuelSpent, Trap}
use Rattle.pict_words.specs.Words.{Command}
use Rattle.pict_front.specs.Front.{Front}
use Rattle.pict_top.specs.Answer.{Does, Ended}
use Rattle.pict_top.specs.Outcome.{outcome_of}
use Rattle.pict_top.specs.Owed.{OwesWork}
use Rattle.pict_top.specs.Changes.{SinkChange}
use Rattle.pict_top.specs.Printed.{Finished, Somehow}
use Rattle.pict_top.specs.Meets.{Meets, EndReports, SomeOutcome}
use Rattle.pict_top.specs.declared.status.Status.{Status}
use Rattle.pict_top.proofs.Meeting.{told, reported, delivered}

module _ (sources : List Source) (front : Front) (command : Command) where
  -- some outcome of the work has what is so of its bytes
  pub some_outcome : (P : List ℕ → Type 0) → Somehow (Does command front.names front.core) P → SomeOutcome (OwesWork sources front command) (λ o. P o.printed)
  some_outcome P some = (outcome_of (Ended sources some.end some.bytes), (some.end, some.bytes, some.does, refl), some.holds)

  -- the work came to its end, and that was reported
  pub came_to_end : (end : End) (out err : SinkChange) (s : Status) → Finished (Does command front.names front.core) end out → EndReports sources end err s → Meets (OwesWork sources front command) (λ o. ⊥) ⊥ out err s
  came_to_end Done out err s work reports =
      delivered _ _ _ _ _ _ (outcome_of (Ended sources Done work.bytes)) (Done, work.bytes, work.does, refl) tt work.written (appends_nothing _ _ reports.1) reports.0
  came_to_end FuelSpent out err s work reports =
      told _ _ _ _ _ _ (outcome_of (Ended sources FuelSpent work.bytes)) (FuelSpent, work.bytes, work.does, refl) tt work.written reports
  came_to_end (Trap at) out err s work reports =
      reported _ _ _ _ _ _ (outcome_of (Ended sources (Trap at) work.bytes)) (Trap at, work.bytes, work.does, refl) tt work.written reports
