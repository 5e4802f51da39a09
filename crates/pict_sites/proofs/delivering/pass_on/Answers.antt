use Rattle.std.proofs.Common.{ℕ, ◌<◌, ◌-◌, length, refl, sym, ap, ◌∙◌, arith}
use Rattle.pict_queue.specs.Contents.{contents}
use Rattle.pict_desk.specs.Code.{core_in}
use Rattle.pict_turns.specs.declared.store.Store.{Store}
use Rattle.pict_sites.specs.Turning.{turned}
use Rattle.pict_sites.proofs.Delivered.{passed_store, left_there, passes_on, front_many, post_same}
use Rattle.pict_sites.proofs.delivering.pass_on.Goals as goal

pub return_turn-requires-clause-store : goal.return_turn-requires-clause-store
return_turn-requires-clause-store c =
    passed_store (core_in c.args.code.now) c.take_turn.new.store c.pass-passed.new.store c.pass-passed.result c.take_turn.ensures.acting.store c.pass-passed.ensures.nobody c.pass-passed.ensures.same

pub turn-requires-in-Ok-clause-there : goal.turn-requires-in-Ok-clause-there
turn-requires-in-Ok-clause-there c =
    let s : Store = record c.args.store.now { queues = c.swap.new.x } in
    let many = c.requires.many in
    let low : c.args.j < length (contents c.args.post.now 0) = let there = c.requires.there in omega (arith, many, there) in
    let back = c.return_turn.ensures in
    let most = left_there (core_in c.args.code.now) c.args.post.now c.turn.new.queues c.swap-2.new.y c.return_turn.new.store.queues c.swap-2.new.y c.take_turn.new.store c.pass-passed.new.store s c.args.j low
    c.turn.ensures.turned c.turn.ensures.others c.turn.ensures.queues c.swap.ensures.x_after c.take_turn.ensures.acting c.take_turn.ensures.takes back.ready back.others back.queues c.swap-2.ensures.y_after
    (λ queue apart. refl) refl c.in-Ok.ensures.nobody in
    omega (arith, most, many)

pub returns-in-Ok-clause-passed : goal.returns-in-Ok-clause-passed
returns-in-Ok-clause-passed c =
    let core = core_in c.args.code.now in
    let s : Store = record c.args.store.now { queues = c.swap.new.x } in
    let many = c.requires.many in
    let low : c.args.j < length (contents c.args.post.now 0) = let there = c.requires.there in omega (arith, many, there) in
    let back = c.return_turn.ensures in
    let turn = c.turn-in-Ok.ensures.turned ∙ ap (λ (k : ℕ). turned (k - 1 - c.args.j) (contents c.swap-2.new.y 0)) (sym many) in (
      _,
      _,
      _,
      front_many core c.args.post.now c.turn.new.queues c.swap-2.new.y c.return_turn.new.store.queues c.turn-in-Ok.new.queues c.take_turn.new.store c.pass-passed.new.store s c.args.j low
          c.turn.ensures.turned c.turn.ensures.others c.turn.ensures.queues c.swap.ensures.x_after c.take_turn.ensures.acting c.take_turn.ensures.takes back.ready back.others back.queues c.swap-2.ensures.y_after
          c.turn-in-Ok.ensures.others c.turn-in-Ok.ensures.queues c.in-Ok.ensures.nobody turn c.args.queues.now c.pass-passed.new.queues c.in-Ok.ensures.gains,
      passes_on core c.args.post.now c.turn.new.queues c.swap-2.new.y c.return_turn.new.store.queues c.turn-in-Ok.new.queues c.take_turn.new.store c.pass-passed.new.store s c.args.j low
          c.turn.ensures.turned c.turn.ensures.others c.turn.ensures.queues c.swap.ensures.x_after c.take_turn.ensures.acting c.take_turn.ensures.takes back.ready back.others back.queues c.swap-2.ensures.y_after
          c.turn-in-Ok.ensures.others c.turn-in-Ok.ensures.queues c.in-Ok.ensures.nobody turn c.args.queues.now c.pass-passed.new.queues c.in-Ok.ensures.gains,
    )

pub returns-in-Err-clause-refused : goal.returns-in-Err-clause-refused
returns-in-Err-clause-refused c =
    let s : Store = record c.args.store.now { queues = c.swap.new.x } in
    let many = c.requires.many in
    let low : c.args.j < length (contents c.args.post.now 0) = let there = c.requires.there in omega (arith, many, there) in
    let back = c.return_turn.ensures in
    let turn = c.turn-in-Err.ensures.turned ∙ ap (λ (k : ℕ). turned (k - c.args.j) (contents c.swap-2.new.y 0)) (sym many) in
    post_same (core_in c.args.code.now) c.args.post.now c.turn.new.queues c.swap-2.new.y c.return_turn.new.store.queues c.turn-in-Err.new.queues c.take_turn.new.store c.pass-passed.new.store s c.args.j low
    c.turn.ensures.turned c.turn.ensures.others c.turn.ensures.queues c.swap.ensures.x_after c.take_turn.ensures.acting c.take_turn.ensures.takes back.ready back.others back.queues c.swap-2.ensures.y_after
    c.turn-in-Err.ensures.others c.turn-in-Err.ensures.queues c.in-Err.ensures.same turn
