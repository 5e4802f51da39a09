-- A call of a primitive whose answer is awaited: five steps. A channel is made, a reader waits there beside an output to a primitive,
-- the primitive answers there, and the reader receives the answer.
use Rattle.std.specs.Prelude.{◌≡◌, ◌≢◌, ◌+◌, ℕ, List, length}
use Rattle.pict_syntax.specs.declared.primitive.Primitive.{Primitive}
use Rattle.pict_syntax.specs.declared.span.Span.{Span}
use Rattle.pict_core.specs.Primitives.{effect_of, answers}
use Rattle.pict_core.specs.Step.{Quiet, Comm}
use Rattle.pict_core.specs.Term.{Process, Val, Labelled, Var, PrimitiveVal}
use Rattle.pict_core.specs.declared.value.CoreVal.{CoreVal}
use Rattle.pict_code.specs.Instruction.{Op, New, Par, Serve, Out, Bind}
use Rattle.pict_heap.specs.HeapState.{HeapState, value_of, IsWord, KeepsWords, LosesNoRoom}
use Rattle.pict_heap.specs.declared.word.Word.{Word}
use Rattle.pict_queue.specs.QueuesState.{LosesNoQueue}
use Rattle.pict_queue.specs.Contents.{HoldsNoMore}
use Rattle.pict_view.specs.Moved.{Moves}
use Rattle.pict_view.specs.Placed.{next_view}
use Rattle.pict_view.specs.View.{View}
use Rattle.pict_desk.specs.Arguments.{operand_in, argument_of}
use Rattle.pict_desk.specs.Known.{pair_at, value_in, known}
use Rattle.pict_desk.specs.Pairs.{IsPair}
use Rattle.pict_turns.specs.Acting.{IsStore}
use Rattle.pict_turns.specs.Turns.{IsNarrow}
use Rattle.pict_turns.specs.Views.{view_with_turn}
use Rattle.pict_turns.specs.declared.store.Store.{Store}
use Rattle.pict_acting.specs.Opening.{IsNarrowWith}
use Rattle.pict_acting.specs.declared.chain.Call.{Call}
use Rattle.pict_acting.specs.declared.chain.Received.{Received}

-- the two words of each level but this one stay
abbrev pub KeepsOtherLevels : ℕ → List (ℕ × ℕ) → List (ℕ × ℕ) → Type 0
KeepsOtherLevels level before after = (other : ℕ) → other ≢ level → pair_at after other ≡ pair_at before other

-- Whatever value the level gets, where the others have these: of a record of these fields the primitive is to print nothing, and to
-- answer at that value what the word stands for.
pub record AnswersAt (h : HeapState) (values : List (ℕ × ℕ)) (p : Primitive) (fields : List CoreVal) (level : ℕ) (answer : Word) : Type 0 where
  pub word : IsWord h answer
  pub effect : (later : List (ℕ × ℕ)) → KeepsOtherLevels level values later → (labelled : Labelled)
      → effect_of p (argument_of h later fields labelled) ≡ answers (known h later level) (value_of h answer)

-- The same of an instruction, which is an output to a primitive.
pub record CallsAt (h : HeapState) (values : List (ℕ × ℕ)) (op : Op) (level : ℕ) (answer : Word) : Type 0 where
  pub primitive : Primitive
  pub message : Val
  pub at : Span
  pub is : op ≡ Out (PrimitiveVal primitive) message at
  pub word : IsWord h answer
  pub effect : (later : List (ℕ × ℕ)) → KeepsOtherLevels level values later
      → effect_of primitive (operand_in h later message) ≡ answers (known h later level) (value_of h answer)

-- The node with this number begins the call: it makes a channel as the value of a new level, for a replicated reader that binds all
-- that it receives, and beside it the output that the primitive answers at that level. All frames stand in blocks themselves.
pub record BeginsCall (core : Process) (h : HeapState) (values : List (ℕ × ℕ)) (number : ℕ) (call : Call) : Type 0 where
  pub both : ℕ
  pub output : ℕ
  pub op : Op
  pub opens : IsNarrowWith core number (New call.level both)
  pub forks : IsNarrowWith core both (Par call.reader output)
  pub waits : IsNarrowWith core call.reader (Serve (Var call.level) (Bind call.bound) call.part)
  pub sends : IsNarrowWith core output op
  pub answer : CallsAt h values op call.level call.answer
  pub part : IsNarrow core call.part

-- The five steps are made. The first four show nothing, and in the last one this is received.
pub record MakesCall (core : Process) (old new : Store) (received : Received) : Type 0 where
  pub opened : View
  pub forked : View
  pub waiting : View
  pub answered : View
  pub opens : next_view (view_with_turn core old) ≡ Moves opened Quiet
  pub forks : next_view opened ≡ Moves forked Quiet
  pub waits : next_view forked ≡ Moves waiting Quiet
  pub answers : next_view waiting ≡ Moves answered Quiet
  pub receives : next_view answered
      ≡ Moves (view_with_turn core new) (Comm received.channel (value_in new.desk.heap received.value.0 received.value.1))
  pub pair : IsPair new.desk.heap received.value
  pub store : IsStore core new
  pub keeps : KeepsWords old.desk.heap new.desk.heap
  pub levels : length new.desk.values.items ≡ length old.desk.values.items
  pub queues : length new.queues.queues ≡ length old.queues.queues + 1
  pub no_more : HoldsNoMore old.queues new.queues
  pub no_loss : LosesNoQueue old.queues new.queues
  pub room : LosesNoRoom old.desk.heap.room new.desk.heap.room
