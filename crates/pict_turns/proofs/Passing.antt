-- A step is one still where queues worked, or room was made, before.
use Rattle.std.proofs.Common.{ℕ, ◌<◌, ◌≡◌, List, length, map, get_or, refl, sym, ap, ◌∙◌, arith, Some, option_map, Result, Ok, Err}
use Rattle.std.proofs.lemmas.List.{length-map}
use Rattle.std.proofs.lemmas.Option.{slice_get-map, slice_get_read, slice_get_within}
use Rattle.std.specs.List.{slice_get}
use Rattle.std.specs.Result.{IsErrAnd}
use Rattle.std.specs.declared.alloc.AllocError.{AllocError}
use Rattle.pict_core.specs.Term.{Process}
use Rattle.pict_code.specs.Instruction as plain
use Rattle.pict_code.specs.Plain.{plain_node, plain_op}
use Rattle.pict_code.specs.declared.instruction.Node.{Node}
use Rattle.pict_queue.specs.QueuesState.{QueuesState}
use Rattle.pict_view.specs.Placed.{next_view}
use Rattle.pict_blocks.specs.Writing.{OnlyWorks}
use Rattle.pict_code.specs.Instruction.{Op}
use Rattle.pict_turns.specs.Acting.{ActsBy, IsRefused}
use Rattle.pict_desk.specs.Code.{core_in}
use Rattle.pict_turns.specs.Reading.{OnlyReads}
use Rattle.pict_turns.specs.Reserving.{OnlyReserves}
use Rattle.pict_turns.specs.Views.{view_with_turn}
use Rattle.pict_turns.specs.declared.store.Store.{Store}
use Rattle.pict_turns.proofs.AfterReading.{reads_works, acting_read, view_read, done_read, refused_read, queues_read}
use Rattle.pict_turns.proofs.Room.{acting_still, view_still}
use Rattle.pict_turns.specs.Stepping.{MayAct, Acts, IsStepBy}
use Rattle.pict_turns.specs.declared.event.Shown.{Shown}
use Rattle.pict_turns.specs.declared.event.Shown.TheVariants as shows

-- ---- queues work

pub acts_worked : (core : Process) (s : Store) (queues : QueuesState) (op : Op) → OnlyWorks s.queues queues → ActsBy core s op → ActsBy core (record s { queues = queues }) op
acts_worked core s queues op works a =
    let r = reads_works s queues a.acting.store.pairs works in
    record { acting = acting_read s (record s { queues = queues }) r core refl a.acting; number = a.number; node = a.node; is = a.is; op_is = a.op_is }

module _ (code : List Node) (s : Store) (queues : QueuesState) (works : OnlyWorks s.queues queues) (m : MayAct code s) where
  abbrev worked : Store
  worked = record s { queues = queues }

  abbrev only_works : OnlyReads s worked
  only_works = reads_works s queues m.acting.store.pairs works

  same_view : next_view (view_with_turn (core_in code) worked) ≡ next_view (view_with_turn (core_in code) s)
  same_view = ap next_view (view_read s worked only_works (core_in code) refl)

  pub may_worked : MayAct code worked
  may_worked = record {
    code_is = m.code_is;
    acting = acting_read s worked only_works (core_in code) refl m.acting;
    few = let e = queues_read s worked only_works in let low = m.few in omega (arith, e, low);
    right = λ e. m.right (sym same_view ∙ e);
  }

  acts_by_worked : (new : Store) (e : Shown) → Acts (core_in code) worked new e → Acts (core_in code) s new e
  acts_by_worked new shows.Quiet a = record { done = done_read s worked only_works (core_in code) refl new _ a.done; event = a.event }
  acts_by_worked new (shows.Comm channel word) a = record { done = done_read s worked only_works (core_in code) refl new _ a.done; event = a.event }
  acts_by_worked new (shows.Print word) a = record { done = done_read s worked only_works (core_in code) refl new _ a.done; event = a.event }
  acts_by_worked new (shows.Trapped at) a = (sym same_view ∙ a.0, refused_read s worked only_works (core_in code) refl new a.1)

  pub step_worked : (new : Store) (x : Result Shown AllocError) → IsStepBy (core_in code) worked new x → IsStepBy (core_in code) s new x
  step_worked new (Ok e) a = acts_by_worked new e a
  step_worked new (Err e) a = refused_read s worked only_works (core_in code) refl new a

-- ---- room

-- where memory is wanting, the step isn't done
pub refused_step : (core : Process) (old new : Store) (x : Result Shown AllocError) (e : AllocError) → IsErrAnd x (λ y. y ≡ e) → IsRefused core old new → IsStepBy core old new x
refused_step core old new (Ok v) e is refused = absurd is
refused_step core old new (Err y) e is refused = refused

module _ (code : List Node) (old mid : Store) (r : OnlyReserves old mid) (m : MayAct code old) where
  pub may_reserve : MayAct code mid
  may_reserve = record {
    code_is = m.code_is;
    acting = acting_still (core_in code) old mid r m.acting;
    few = let e = ap length r.queues in let low = m.few in omega (arith, e, low);
    right = λ e. m.right (sym (ap next_view (view_still (core_in code) old mid r)) ∙ e);
  }

-- ---- the instruction of a node

pub op_read : (code : List Node) (number : ℕ) (node : Node) (n : plain.Node) → slice_get (map plain_node code) number ≡ Some n → node ≡ get_or code number node → n.op ≡ plain_op (get_or code number node).op
op_read code number node n at is =
    let low : number < length code = omega (arith, slice_get_within (map plain_node code) number n at, length-map code plain_node) in
    let here : slice_get (map plain_node code) number ≡ Some (plain_node node) = slice_get-map plain_node code number ∙ ap (option_map plain_node) (slice_get_read code (length code) number node refl low is) in
    let same : n ≡ plain_node node = let e : Some n ≡ Some (plain_node node) = sym at ∙ here in cc in
    ap (λ (x : plain.Node). x.op) same ∙ ap (λ (x : Node). plain_op x.op) is
