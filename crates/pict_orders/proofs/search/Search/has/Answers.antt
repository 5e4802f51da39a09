use Rattle.std.proofs.Common.{arith}
use Rattle.pict_orders.specs.Plain.{configuration_of}
use Rattle.pict_orders.proofs.Trying.{found_like}
use Rattle.pict_orders.proofs.search.Search.has.Goals as goal

pub returns-then-branch : goal.returns-then-branch
returns-then-branch c = λ t.
    let k = c.in_ok-is_like-in-Some-next.ensures c.if-branch.true in
    found_like c.args.self.now.found.items c.in-Some-next.number c.index.result.now c.args.bytes.now (configuration_of c.args.state.now) (omega arith) c.index.ensures k.0 k.1
