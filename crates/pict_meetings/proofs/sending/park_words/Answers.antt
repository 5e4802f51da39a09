use Rattle.std.proofs.Common.{◌+◌, sym, ap, ◌∙◌, arith}
use Rattle.pict_core.specs.Step.{Quiet}
use Rattle.pict_meetings.specs.Waiting.{oldest}
use Rattle.pict_turns.proofs.Room.{done_after, refused_still, cost_still}
use Rattle.pict_turns.proofs.Turns.{cost_nobody}
use Rattle.pict_turns.proofs.Adding.{used_before}
use Rattle.pict_turns.proofs.Growing.{desk_same}
use Rattle.pict_turns.proofs.Passing.{refused_step}
use Rattle.pict_meetings.proofs.Growing.{sends_reserved}
use Rattle.pict_meetings.proofs.sending.park_words.Goals as goal

pub returns-clause-step : goal.returns-clause-step
returns-clause-step c core x none =
    let old = c.args.store.now in
    let mid = c.reserve_kept.new.store in
    let rest = c.reserve_kept.ensures.rest in
    record {
      done = done_after core old mid rest c.park_output.new.store Quiet
          (c.park_output.ensures.done core (sends_reserved core old mid rest c.args.channel c.args.message c.args.at x) (λ number e. none number (sym (ap oldest (rest.contents (c.args.channel + 1))) ∙ e)));
      event = tt;
    }

pub returns-in_err-reserve_kept-clause-step : goal.returns-in_err-reserve_kept-clause-step
returns-in_err-reserve_kept-clause-step c core x none =
    refused_step core c.args.store.now c.reserve_kept.new.store c.from_residual.result _ c.from_residual.ensures.1 (refused_still core c.args.store.now c.reserve_kept.new.store c.reserve_kept.ensures.rest x.acting.store)

pub returns-clause-turn : goal.returns-clause-turn
returns-clause-turn c core = let e = cost_nobody core c.park_output.new.store c.park_output.ensures.turn in omega (arith, e)

pub returns-in_err-reserve_kept-clause-turn : goal.returns-in_err-reserve_kept-clause-turn
returns-in_err-reserve_kept-clause-turn c core = let e = cost_still core c.args.store.now c.reserve_kept.new.store c.reserve_kept.ensures.rest in omega (arith, e)

pub returns-clause-adds : goal.returns-clause-adds
returns-clause-adds c =
    let mid = c.reserve_kept.new.store in
    let last = c.park_output.new.store in
    used_before c.args.store.now.desk.heap.room mid.desk.heap.room last.desk.heap.room _ c.reserve_kept.ensures.rest.room (desk_same mid last c.park_output.ensures.desk)
