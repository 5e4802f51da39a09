-- What is known of an output to a primitive where a step begins: from who has the turn, and from a step that isn't wrong.
use Rattle.std.proofs.Common.{◌≡◌, ◌≢◌, List, ◌∷◌, map, Option, Some, None, IsSome, refl, ap, ◌∙◌, ◌-◌, sym}
use Rattle.pict_syntax.specs.declared.primitive.Primitive.{Primitive}
use Rattle.pict_syntax.specs.declared.span.Span.{Span}
use Rattle.pict_core.specs.Closed.{IsClosed}
use Rattle.pict_core.specs.Primitives.{Effect, effect_of}
use Rattle.pict_core.specs.Term.{Val, PrimitiveVal, Process, Out}
use Rattle.pict_core.specs.Deed.{performs}
use Rattle.pict_code.specs.Instruction as op
use Rattle.pict_queue.specs.Contents.{contents}
use Rattle.pict_view.specs.Moved.{Misshapen}
use Rattle.pict_view.specs.Placed.{place_at, next_view}
use Rattle.pict_view.proofs.Rows.{act}
use Rattle.pict_blocks.specs.Blocks.{process_of}
use Rattle.pict_desk.specs.Known.{value_in, known, operand_value}
use Rattle.pict_blocks.proofs.Meeting.{outputs_stand}
use Rattle.pict_desk.proofs.Nodes.{op_is}
use Rattle.pict_turns.specs.Acting.{ActsBy, IsRight, HasActing}
use Rattle.pict_turns.specs.Views.{channel_lists, acting_words}
use Rattle.pict_turns.specs.declared.store.Store.{Store}
use Rattle.pict_turns.proofs.Turns.{view_is}
use Rattle.pict_desk.specs.Arguments.{operand_in}
use Rattle.pict_calls.specs.Calling.{CallsOn}
use Rattle.pict_desk.specs.AtHand.{channel_named}
use Rattle.pict_turns.proofs.Outputs.{node_sent_to, pair_value, kept_to, kept_message, kept_process}
use Rattle.pict_desk.specs.declared.kept.Kept.{Kept}
use Rattle.pict_heap.specs.HeapState.{value_of}
use Rattle.pict_heap.specs.Packed.{packed, FitsWord}
use Rattle.pict_heap.specs.declared.word.Word.{Word}
use Rattle.pict_heap.specs.declared.word.Word.TheVariants as word
use Rattle.pict_turns.specs.declared.turn.Turn.TheVariants.{Output}

taken : (ready : List Process) (lists : List (List Process)) (at : Span) (e : Option Effect) → place_at 0 0 ready lists (performs at e) ≢ Misshapen → IsSome e
taken ready lists at None right = absurd (right refl)
taken ready lists at (Some e) right = refl

module _ (core : Process) (s : Store) where
  -- the primitive takes the value, where the step isn't wrong
  pub takes : (p : Primitive) (v : Val) (at : Span) → CallsOn core s p v at → IsRight core s → IsSome (effect_of p v)
  takes p v at on right =
      let rest = map (process_of core (value_in s.desk.heap)) (contents s.queues 0) in
      let lists = map (map (process_of core (value_in s.desk.heap))) (channel_lists s.queues) in
      taken (Out (PrimitiveVal p) v at ∷ rest) lists at (effect_of p v) (λ wrong. right (ap next_view (view_is core s (acting_words core s) on.acting.has) ∙ ap (act rest lists) on.output ∙ wrong))

  module _ (chan message : Val) (at : Span) (closed : IsClosed core) (a : ActsBy core s (op.Out chan message at)) where
    -- an output of a node
    pub node_calls : (p : Primitive) → operand_in s.desk.heap s.desk.values.items chan ≡ PrimitiveVal p → CallsOn core s p (operand_in s.desk.heap s.desk.values.items message) at
    node_calls p to = record {
      acting = a.acting;
      output = outputs_stand core s.desk.heap s.desk.values.items a.number chan message at a.node (acting_words core s) closed a.is a.op_is
          ∙ ap (λ v. Out v (operand_in s.desk.heap s.desk.values.items message) at) to;
    }

-- it calls the primitive that its operand alone is
pub node_call : (core : Process) (s : Store) (closed : IsClosed core) (chan message : Val) (at : Span) → ActsBy core s (op.Out chan message at) → IsRight core s
    → None ≡ channel_named (operand_value (known s.desk.heap s.desk.values.items) chan) → (p : Primitive)
    → ((q : Primitive) → operand_value (known s.desk.heap s.desk.values.items) chan ≡ PrimitiveVal q → p ≡ q) → CallsOn core s p (operand_in s.desk.heap s.desk.values.items message) at
node_call core s closed chan message at a right none p only =
    let to = node_sent_to core s closed chan message at a right none in
    node_calls core s chan message at closed a p (to.1 ∙ ap PrimitiveVal (sym (only to.0 to.1)))

-- an output of kept values to a primitive
module _ (core : Process) (s : Store) (acting : HasActing core s) (kept : Kept) (has : s.turn ≡ Output kept) where
  pub words_call : (to message : Word) → ((x : Word) → FitsWord x → packed x ≡ kept.to → to ≡ x) → ((x : Word) → FitsWord x → packed x ≡ kept.message → message ≡ x)
      → (p : Primitive) → to ≡ word.Prim p → CallsOn core s p (value_of s.desk.heap message) kept.at
  words_call to message to_only message_only p e = record {
    acting = acting;
    output = kept_process core s acting kept has
        ∙ ap (λ v. Out v (value_in s.desk.heap kept.message.0 kept.message.1) kept.at) (pair_value s.desk.heap kept.to (kept_to core s acting kept has) to to_only ∙ ap (value_of s.desk.heap) e)
        ∙ ap (λ v. Out (PrimitiveVal p) v kept.at) (pair_value s.desk.heap kept.message (kept_message core s acting kept has) message message_only);
  }
