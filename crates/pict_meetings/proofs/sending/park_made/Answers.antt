use Rattle.std.proofs.Common.{◌+◌, sym, ap, ◌∙◌, arith}
use Rattle.pict_core.specs.Plain.{plain_val}
use Rattle.pict_core.specs.Step.{Quiet}
use Rattle.pict_meetings.specs.Waiting.{oldest}
use Rattle.pict_turns.proofs.Room.{refused_still, cost_still}
use Rattle.pict_turns.proofs.Turns.{cost_nobody}
use Rattle.pict_turns.specs.declared.store.Store.{Store}
use Rattle.pict_turns.proofs.Adding.{used_before, used_after, used_less}
use Rattle.pict_turns.proofs.Growing.{desk_same}
use Rattle.pict_turns.proofs.Passing.{refused_step}
use Rattle.pict_meetings.proofs.Growing.{sends_made, done_made}
use Rattle.pict_meetings.proofs.sending.park_made.Goals as goal

pub returns-clause-step : goal.returns-clause-step
returns-clause-step c core x none =
    let old = c.args.store.now in
    let mid = c.reserve_message.new.store in
    let rest = c.reserve_message.ensures.rest in
    let message = plain_val c.args.message.now in
    let sends = sends_made core old mid rest c.args.channel message c.args.at x c.word_of-word.new.heap c.word_of-word.new.pending c.deref.result.now c.deref.ensures.value c.word_of-word.result c.word_of-word.ensures.made
    c.pack.result c.pack.ensures.fits (sym c.pack.ensures.pair) in
    record {
      done = done_made core old mid rest c.args.channel message c.args.at x c.word_of-word.new.heap c.word_of-word.new.pending c.deref.result.now c.deref.ensures.value c.word_of-word.result c.word_of-word.ensures.made
          c.park_output.new.store Quiet (c.park_output.ensures.done core sends (λ number e. none number (sym (ap oldest (rest.contents (c.args.channel + 1))) ∙ e)));
      event = tt;
    }

pub returns-in_err-reserve_message-clause-step : goal.returns-in_err-reserve_message-clause-step
returns-in_err-reserve_message-clause-step c core x none =
    refused_step core c.args.store.now c.reserve_message.new.store c.from_residual.result _ c.from_residual.ensures.1 (refused_still core c.args.store.now c.reserve_message.new.store c.reserve_message.ensures.rest x.acts.acting.store)

pub returns-clause-turn : goal.returns-clause-turn
returns-clause-turn c core = let e = cost_nobody core c.park_output.new.store c.park_output.ensures.turn in omega (arith, e)

pub returns-in_err-reserve_message-clause-turn : goal.returns-in_err-reserve_message-clause-turn
returns-in_err-reserve_message-clause-turn c core = let e = cost_still core c.args.store.now c.reserve_message.new.store c.reserve_message.ensures.rest in omega (arith, e)

pub returns-clause-adds : goal.returns-clause-adds
returns-clause-adds c =
    let mid = c.reserve_message.new.store in
    let made : Store = record mid { desk = record mid.desk { heap = c.word_of-word.new.heap; pending = c.word_of-word.new.pending } } in
    let last = c.park_output.new.store in
    used_after c.args.store.now.desk.heap.room mid.desk.heap.room last.desk.heap.room _ c.reserve_message.ensures.rest.room
    (used_before mid.desk.heap.room made.desk.heap.room last.desk.heap.room _ c.word_of-word.ensures.used (desk_same made last c.park_output.ensures.desk))

pub returns-in_err-reserve_message-clause-adds : goal.returns-in_err-reserve_message-clause-adds
returns-in_err-reserve_message-clause-adds c = used_less c.args.store.now.desk.heap.room c.reserve_message.new.store.desk.heap.room _ c.reserve_message.ensures.rest.room
