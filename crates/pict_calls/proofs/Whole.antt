-- The steps of outputs to primitives: the clauses of a step, from what a call does.
use Rattle.std.proofs.Common.{ℕ, ◌+◌, ◌≤◌, ◌≡◌, List, [], ◌∷◌, Some, arith, Result, Ok, Err, IfOk, OnErr}
use Rattle.std.specs.declared.alloc.AllocError.{AllocError}
use Rattle.pict_syntax.specs.declared.primitive.Primitive.{Primitive}
use Rattle.pict_syntax.specs.declared.span.Span.{Span}
use Rattle.pict_core.specs.Primitives.{Effect, effect_of}
use Rattle.pict_core.specs.Term.{Val, PrimitiveVal, Process}
use Rattle.pict_code.specs.Instruction as op
use Rattle.pict_code.specs.declared.instruction.Node.{Node}
use Rattle.pict_prim.specs.Acts.{answer_need}
use Rattle.pict_prim.specs.declared.act.Need.{Need}
use Rattle.pict_desk.specs.Arguments.{operand_in}
use Rattle.pict_desk.specs.Code.{core_in}
use Rattle.pict_desk.specs.Known.{known, operand_value}
use Rattle.pict_desk.specs.Needs.{no_need, both_needs}
use Rattle.pict_turns.specs.Acting.{HasActing, ActsBy, IsRefused}
use Rattle.pict_turns.specs.Growing.{AddsAtMost, message_need, given_need}
use Rattle.pict_turns.specs.Stepping.{MayAct, Acts, IsStepBy, StepsBy}
use Rattle.pict_turns.specs.Turns.{turn_cost}
use Rattle.pict_turns.specs.Views.{IsKept, acting_words}
use Rattle.pict_turns.specs.Widths.{MakesOnly, answer_widths}
use Rattle.pict_turns.specs.declared.event.Shown.{Shown}
use Rattle.pict_turns.specs.declared.store.Store.{Store}
use Rattle.pict_turns.proofs.Growing.{node_adds, kept_adds, call_adds}
use Rattle.pict_turns.proofs.Needing.{node_needs, kept_needs, call_needed}
use Rattle.pict_turns.proofs.InPlace.{output_sends, kept_sends, no_plain_call}
use Rattle.pict_turns.proofs.Working.{costs_same, own_cost, kept_cost, alone_works, kept_works}
use Rattle.pict_calls.specs.Calling.{CallsOn}
use Rattle.pict_calls.proofs.Outputs.{takes, node_calls}

step_by : (core : Process) (old new : Store) (r : Result Shown AllocError) → IfOk r (Acts core old new) → OnErr r (IsRefused core old new) → IsStepBy core old new r
step_by core old new (Ok e) done refused = done
step_by core old new (Err e) done refused = refused

-- what a call does that gives the primitive this value, for whose words so much is needed
pub record Calls (s new : Store) (p : Primitive) (v : Val) (at : Span) (given : Need) (r : Result Shown AllocError) : Type 0 where
  pub done : (core : Process) → CallsOn core s p v at → IfOk r (Acts core s new)
  pub refused : (core : Process) → HasActing core s → OnErr r (IsRefused core s new)
  pub blocks : (e : Effect) → effect_of p v ≡ Some e → MakesOnly s.queues new.queues (answer_widths e)
  pub adds : (e : Effect) → effect_of p v ≡ Some e → AddsAtMost s new (both_needs given (answer_need e))
  pub work : new.queues.region.work ≡ s.queues.region.work
  pub turn : (core : Process) → turn_cost core new ≤ turn_cost core s + 13

module _ (code : List Node) (s new : Store) (r : Result Shown AllocError) (may : MayAct code s) (p : Primitive) (at : Span) where
  -- of a node
  pub node_steps : (chan message : Val) → ActsBy (core_in code) s (op.Out chan message at) → operand_value (known s.desk.heap s.desk.values.items) chan ≡ PrimitiveVal p
      → Calls s new p (operand_in s.desk.heap s.desk.values.items message) at (given_need message) r → StepsBy code s new r
  node_steps chan message a to c =
      let core = core_in code in
      let o = op.Out chan message at in
      let v = operand_in s.desk.heap s.desk.values.items message in
      let on = node_calls core s chan message at may.code_is.closed a p to in
      let some = takes core s p v at on may.right in
      let own = own_cost core s o a in
      record {
        step = step_by core s new r (c.done core on) (c.refused core on.acting);
        work = alone_works core s new o a 0 (turn_cost core s + 13) (costs_same s.queues new.queues 0 c.work) (c.turn core) (omega (arith, own));
        blocks = call_needed core s (9 ∷ []) (node_needs core s o a) new p v at on.output some c.blocks;
        adds = call_adds core s (message_need message) (given_need message) (node_adds core s o a) new p v at on.output some c.adds;
        plain = λ meets. absurd (no_plain_call core s (acting_words core s) p v at on.output (output_sends core s chan message at a meets));
      }

  -- of kept values
  pub kept_steps : (v : Val) → IsKept s.desk.heap (acting_words (core_in code) s) → CallsOn (core_in code) s p v at → Calls s new p v at no_need r → StepsBy code s new r
  kept_steps v kept on c =
      let core = core_in code in
      let some = takes core s p v at on may.right in
      let own = kept_cost core s may.acting kept in
      let turn = c.turn core in
      record {
        step = step_by core s new r (c.done core on) (c.refused core on.acting);
        work = kept_works core s new may.acting kept 0 26 (costs_same s.queues new.queues 0 c.work) (omega (arith, own, turn)) (omega arith);
        blocks = call_needed core s [] (kept_needs core s _ kept.is) new p v at on.output some c.blocks;
        adds = call_adds core s no_need no_need (kept_adds core s _ kept.is) new p v at on.output some c.adds;
        plain = λ meets. absurd (no_plain_call core s (acting_words core s) p v at on.output (kept_sends core s kept meets));
      }
