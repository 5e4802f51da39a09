use Rattle.std.proofs.Common.{ℕ, ◌≡◌, List, length, refl, sym, ap, ◌∙◌, subst, Option, None, Result, Ok, arith}
use Rattle.std.specs.declared.alloc.AllocError.{AllocError}
use Rattle.pict_code.specs.declared.instruction.Node.{Node}
use Rattle.pict_code.proofs.Lines.{on_err}
use Rattle.pict_desk.specs.Code as code
use Rattle.pict_picker.specs.declared.did.Did.{Did}
use Rattle.pict_network.specs.Network as plain
use Rattle.pict_sites.specs.Alone.{IsCalled}
use Rattle.pict_sites.specs.Network.{core_in, heap_of}
use Rattle.pict_sites.specs.Working.{StandWhile, AreWorking}
use Rattle.pict_sites.specs.declared.network.Network.{Network}
use Rattle.pict_sites.specs.declared.sites.Sites.{Sites}
use Rattle.pict_sites.proofs.Calls.{some_called, none_called}
use Rattle.pict_sites.proofs.Going.{goes_none}
use Rattle.pict_sites.proofs.Only.{alone_still}
use Rattle.pict_sites.proofs.network.Network.next_alone.Goals as goal

pub call-requires-clause-working : goal.call-requires-clause-working
call-requires-clause-working c =
    subst (λ (nodes : List Node). AreWorking (code.core_in nodes) 0 c.args.self.now.sites) (sym c.deref.ensures.value) c.requires.kept.sites

pub returns-in_err-did-clause-kept : goal.returns-in_err-did-clause-kept
returns-in_err-did-clause-kept c =
    let n = c.args.self.now in
    let call = c.call.ensures in
    alone_still n c.requires.kept (heap_of n) refl c.call.new.self call.keeps c.deref.result.now c.deref.ensures.value call.working (ap (λ qs. length qs.items) call.queues) (ap (λ ts. ts.items) call.to)

pub returns-in_err-did-clause-refused : goal.returns-in_err-did-clause-refused
returns-in_err-did-clause-refused c =
    let n = c.args.self.now in
    on_err c.from_residual.result
    (λ N st. subst (λ (nodes : List Node). StandWhile (code.core_in nodes) 0 c.call.new.self N) c.deref.ensures.value
    (c.in_err-did.ensures.called N (subst (λ (nodes : List Node). StandWhile (code.core_in nodes) 0 n.sites N) (sym c.deref.ensures.value) st)))

pub returns-in-Some-clause-kept : goal.returns-in-Some-clause-kept
returns-in-Some-clause-kept c =
    let n = c.args.self.now in
    let call = c.call.ensures in
    alone_still n c.requires.kept (heap_of n) refl c.call.new.self call.keeps c.deref.result.now c.deref.ensures.value call.working (ap (λ qs. length qs.items) call.queues) (ap (λ ts. ts.items) call.to)

pub returns-in-Some-clause-ok : goal.returns-in-Some-clause-ok
returns-in-Some-clause-ok c N g st =
    let n = c.args.self.now in
    let is = subst (λ (nodes : List Node). IsCalled (code.core_in nodes) n.sites c.call.new.self c.args.most c.call.result) c.deref.ensures.value c.call.ensures.called in
    (some_called (core_in n) n.sites c.call.new.self c.args.most c.call.result c.in-Some.did (c.in_ok-did.was ∙ ap Ok c.in-Some.is) is).2 N g st

pub returns-in-Some-clause-within : goal.returns-in-Some-clause-within
returns-in-Some-clause-within c =
    (some_called (code.core_in c.deref.result.now) c.args.self.now.sites c.call.new.self c.args.most c.call.result c.in-Some.did (c.in_ok-did.was ∙ ap Ok c.in-Some.is) c.call.ensures.called).0

pub returns-in-Some-clause-words : goal.returns-in-Some-clause-words
returns-in-Some-clause-words c =
    (some_called (code.core_in c.deref.result.now) c.args.self.now.sites c.call.new.self c.args.most c.call.result c.in-Some.did (c.in_ok-did.was ∙ ap Ok c.in-Some.is) c.call.ensures.called).1

-- what stood before no call stands still
still : (n : Network) (m : Sites) (nodes : List Node) (most : ℕ) (x : Result (Option Did) AllocError) → nodes ≡ n.code.nodes.items → x ≡ Ok None → IsCalled (code.core_in nodes) n.sites m most x
    → (N : plain.Network) → StandWhile (core_in n) 0 n.sites N → StandWhile (core_in n) 0 m N
still n m nodes most x value none is =
    none_called (core_in n) n.sites m most x none (subst (λ (ns : List Node). IsCalled (code.core_in ns) n.sites m most x) value is)

pub event_alone-requires-clause-kept : goal.event_alone-requires-clause-kept
event_alone-requires-clause-kept c =
    let n = c.args.self.now in
    let call = c.call.ensures in
    alone_still n c.requires.kept (heap_of n) refl c.call.new.self call.keeps c.deref.result.now c.deref.ensures.value call.working (ap (λ qs. length qs.items) call.queues) (ap (λ ts. ts.items) call.to)

pub event_alone-requires-clause-few : goal.event_alone-requires-clause-few
event_alone-requires-clause-few c =
    let few = c.requires.few in
    let same = c.call.ensures.still (c.in_ok-did.was ∙ ap Ok c.in-None.is) in
    omega (arith, few, same)

pub event_alone-requires-clause-right : goal.event_alone-requires-clause-right
event_alone-requires-clause-right c =
    let r = c.requires.right in
    (r.0, r.1, still c.args.self.now c.call.new.self c.deref.result.now c.args.most c.call.result c.deref.ensures.value (c.in_ok-did.was ∙ ap Ok c.in-None.is) c.call.ensures.called r.0 r.2, r.3)

pub returns-in_err-last-in-None-clause-refused : goal.returns-in_err-last-in-None-clause-refused
returns-in_err-last-in-None-clause-refused c =
    on_err c.from_residual-in_err-last-in-None.result
    (λ N st. c.in_err-last-in-None.ensures.refused N
    (still c.args.self.now c.call.new.self c.deref.result.now c.args.most c.call.result c.deref.ensures.value (c.in_ok-did.was ∙ ap Ok c.in-None.is) c.call.ensures.called N st))

pub returns-in_err-last-in-None-clause-channels : goal.returns-in_err-last-in-None-clause-channels
returns-in_err-last-in-None-clause-channels c =
    let same = c.call.ensures.still (c.in_ok-did.was ∙ ap Ok c.in-None.is) in
    let more = c.event_alone.ensures.channels in
    omega (arith, same, more)

pub returns-in_ok-last-in-None-clause-ok : goal.returns-in_ok-last-in-None-clause-ok
returns-in_ok-last-in-None-clause-ok c N g st = (
  goes_none N g,
  c.in_ok-last-in-None.ensures.ok N g
      (still c.args.self.now c.call.new.self c.deref.result.now c.args.most c.call.result c.deref.ensures.value (c.in_ok-did.was ∙ ap Ok c.in-None.is) c.call.ensures.called N st),
)

pub returns-in_ok-last-in-None-clause-channels : goal.returns-in_ok-last-in-None-clause-channels
returns-in_ok-last-in-None-clause-channels c =
    let same = c.call.ensures.still (c.in_ok-did.was ∙ ap Ok c.in-None.is) in
    let more = c.event_alone.ensures.channels in
    omega (arith, same, more)
