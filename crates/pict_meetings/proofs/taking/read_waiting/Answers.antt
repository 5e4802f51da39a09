use Rattle.std.proofs.Common.{ℕ, suc, ◌+◌, ◌≡◌, List, [], ◌∷◌, get_or, ap, ◌∙◌, subst}
use Rattle.pict_queue.specs.Contents.{contents, first_words}
use Rattle.pict_desk.specs.Code.{core_in}
use Rattle.pict_turns.specs.Reading.{HasReadNode}
use Rattle.pict_meetings.proofs.Firsts.{first_input}
use Rattle.pict_turns.proofs.Wide.{node_of}
use Rattle.pict_meetings.proofs.taking.read_waiting.Goals as goal

pub read_first-requires-clause-is : goal.read_first-requires-clause-is
read_first-requires-clause-is c =
    let core = core_in c.args.code.now in
    let s = c.args.store.now in
    let list = contents s.queues (c.args.channel + 1) in
    let f = first_input core s.desk.heap list c.args.number (c.requires.store.blocks (c.args.channel + 1)) (c.requires.store.waiting c.args.channel) c.requires.first in
    let is : first_words s.queues c.queue_of.result.0 ≡ suc c.args.number ∷ f.held = ap (first_words s.queues) c.queue_of.ensures ∙ ap (λ (ws : List (List ℕ)). get_or ws 0 []) f.is in
    node_of core s.desk.heap c.args.number f.held (first_words s.queues c.queue_of.result.0) is f.block

pub returns-clause-reads : goal.returns-clause-reads
returns-clause-reads c =
    let core = core_in c.args.code.now in
    let s = c.args.store.now in
    let list = contents s.queues (c.args.channel + 1) in
    let f = first_input core s.desk.heap list c.args.number (c.requires.store.blocks (c.args.channel + 1)) (c.requires.store.waiting c.args.channel) c.requires.first in
    let is : first_words s.queues c.queue_of.result.0 ≡ suc c.args.number ∷ f.held = ap (first_words s.queues) c.queue_of.ensures ∙ ap (λ (ws : List (List ℕ)). get_or ws 0 []) f.is in
    record {
      words = suc c.args.number ∷ f.held;
      others = f.rest;
      waiting = f.is;
      read = subst (HasReadNode core s c.read_first.new.store c.args.number) is c.read_first.ensures.read;
    }
