-- Steps of a run cost at most so many times the greatest cost of a step, and make at most so many blocks.
use Rattle.std.proofs.Common.{ℕ, ◌+◌, ◌*◌, ◌≤◌, ◌≡◌, refl, ◌∙◌, subst, arith}
use Rattle.std.proofs.Math.Nat.{add-mul, one-mul, mul-le-mul_right}
use Rattle.pict_core.specs.Term.{Process}
use Rattle.pict_code.specs.Plain.{plain_code}
use Rattle.pict_code.specs.ReadBack.{core_of}
use Rattle.pict_code.specs.declared.instruction.Code.{Code}
use Rattle.pict_queue.specs.QueuesState.{QueuesState, CostsAtMost, LosesNoQueue}
use Rattle.pict_region.specs.RegionState.{KeepsBlocks}
use Rattle.pict_turns.specs.Turns.{turn_cost}
use Rattle.pict_turns.specs.Views.{ready_words}
use Rattle.pict_turns.specs.Widths.{MakesOnly}
use Rattle.pict_turns.specs.declared.store.Store.{Store}
use Rattle.pict_acting.specs.Bounds.{greatest_cost, MakesFew}
use Rattle.pict_machine.specs.Bounds.{greatest_cost_of, SpendsAtMost}
use Rattle.pict_heap.specs.HeapState.{LosesNoRoom}
use Rattle.pict_heap.proofs.Rooms.{room_stays, room_kept}
use Rattle.pict_machine.specs.Machine.{IsRunning, core_in, queues_of, running_cost, running_widths, heap_of}
use Rattle.pict_machine.specs.declared.machine.Machine.{Machine}
use Rattle.pict_acting.proofs.Bounding.{first_low, turn_low, one_step, total_kept}

-- ---- steps after others

pub spends_none : (m : Machine) → SpendsAtMost 0 m m
spends_none m = record {
  code = refl;
  work = record { least = omega arith; most = omega arith };
  blocks = record { least = λ width. omega arith; few = λ widths distinct. omega arith; others = λ width apart. omega arith };
  queues = omega arith;
  room = room_stays (heap_of m).room;
}

-- one step of a run
pub spends_one : (old new : Machine) → IsRunning old → new.code ≡ old.code → CostsAtMost (running_cost old) (queues_of old) (queues_of new) → MakesOnly (queues_of old) (queues_of new) (running_widths old)
    → LosesNoQueue (queues_of old) (queues_of new) → LosesNoRoom (heap_of old).room (heap_of new).room → SpendsAtMost 1 old new
spends_one old new kept code work makes queues room =
    let core = core_in old in
    let up = first_low core old.store (ready_words core old.store) in
    let one = one-mul (greatest_cost core) in
    let least = work.least in
    let most = work.most in
    record {
      code = code;
      work = record { least = least; most = omega (arith, most, up, one) };
      blocks = one_step core old.store (queues_of old) (queues_of new) kept.store makes;
      queues = queues;
      room = room;
    }

-- who has the turn is set down
pub rest_low : (core : Process) (old new : Store) → CostsAtMost (turn_cost core old) old.queues new.queues → CostsAtMost (greatest_cost core) old.queues new.queues
rest_low core old new work =
    let up = turn_low core old in
    let least = work.least in
    let most = work.most in
    record { least = least; most = omega (arith, most, up) }

worked_on : (a b c : QueuesState) (k n most w : ℕ) → CostsAtMost (k * w) a b → CostsAtMost (n * w) b c → k + n ≤ most → CostsAtMost (most * w) a c
worked_on a b c k n most w x y up =
    let sum : (k + n) * w ≡ k * w + n * w = add-mul k n w in
    let all : (k + n) * w ≤ most * w = mul-le-mul_right w up in
    let e = x.most in
    let f = y.most in
    let g = x.least in
    let h = y.least in
    let t : k * w + n * w ≤ most * w = subst (λ (u : ℕ). u ≤ most * w) sum all in
    record { least = omega (arith, g, h); most = omega (arith, e, f, t) }

made_on : (core : Process) (a b c : QueuesState) (k n most : ℕ) → MakesFew core k a b → MakesFew core n b c → k + n ≤ most → MakesFew core most a c
made_on core a b c k n most x y up = record {
  least = λ width. let d = x.least width in let e = y.least width in omega (arith, d, e);
  few = λ widths distinct. let d = x.few widths distinct in let e = y.few widths distinct in omega (arith, d, e, up);
  others = λ width apart. let d = x.others width apart in let e = y.others width apart in omega (arith, d, e);
}

pub spends_on : (a b c : Machine) (k n most : ℕ) → SpendsAtMost k a b → SpendsAtMost n b c → k + n ≤ most → SpendsAtMost most a c
spends_on a b c k n most x y up =
    let work = subst (λ (code : Code). CostsAtMost (n * greatest_cost (core_of (plain_code code))) (queues_of b) (queues_of c)) x.code y.work in
    let blocks = subst (λ (code : Code). MakesFew (core_of (plain_code code)) n (queues_of b) (queues_of c)) x.code y.blocks in
    record {
      code = y.code ∙ x.code;
      work = worked_on (queues_of a) (queues_of b) (queues_of c) k n most (greatest_cost_of a) x.work work up;
      blocks = made_on (core_in a) (queues_of a) (queues_of b) (queues_of c) k n most x.blocks blocks up;
      queues = let first = x.queues in let then_ = y.queues in omega (arith, first, then_);
      room = room_kept (heap_of a).room (heap_of b).room (heap_of c).room x.room y.room;
    }

-- no more steps
pub spends_up : (a b : Machine) (k most : ℕ) → SpendsAtMost k a b → k ≤ most → SpendsAtMost most a b
spends_up a b k most x up = spends_on a b b k 0 most x (spends_none b) (omega (arith, up))

-- steps of a run, and who has the turn is set down
pub rested_work : (a b c : Machine) (k : ℕ) → SpendsAtMost k a b → CostsAtMost (greatest_cost_of b) (queues_of b) (queues_of c) → CostsAtMost ((k + 1) * greatest_cost_of a) (queues_of a) (queues_of c)
rested_work a b c k x work =
    let same = subst (λ (code : Code). CostsAtMost (greatest_cost (core_of (plain_code code))) (queues_of b) (queues_of c)) x.code work in
    let one = one-mul (greatest_cost_of a) in
    let least = same.least in
    let most = same.most in
    let once : CostsAtMost (1 * greatest_cost_of a) (queues_of b) (queues_of c) = record { least = least; most = omega (arith, most, one) } in
    worked_on (queues_of a) (queues_of b) (queues_of c) k 1 (k + 1) (greatest_cost_of a) x.work once (omega arith)

pub rested_blocks : (a b c : Machine) (k : ℕ) → SpendsAtMost k a b → KeepsBlocks (queues_of b).region (queues_of c).region → MakesFew (core_in a) k (queues_of a) (queues_of c)
rested_blocks a b c k x keeps = record {
  least = λ width. let d = x.blocks.least width in let e = keeps width in omega (arith, d, e);
  few = λ widths distinct. let d = x.blocks.few widths distinct in let e = total_kept (queues_of b) (queues_of c) widths keeps in omega (arith, d, e);
  others = λ width apart. let d = x.blocks.others width apart in let e = keeps width in omega (arith, d, e);
}
