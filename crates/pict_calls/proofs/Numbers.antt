-- What a primitive answers of two numbers at hand, and the output of the answer that has the turn then.
use Rattle.std.proofs.Common.{List, None, refl}
use Rattle.pict_syntax.specs.declared.primitive.Primitive.{Primitive}
use Rattle.pict_syntax.specs.declared.span.Span.{Span}
use Rattle.pict_core.specs.Primitives.{Effect, Answer}
use Rattle.pict_core.specs.Term.{Val}
use Rattle.pict_core.specs.declared.value.CoreVal.{CoreVal}
use Rattle.pict_desk.specs.declared.kept.Kept.{Kept}
use Rattle.pict_desk.proofs.Making.{keeps_all}
use Rattle.pict_desk.specs.Room.{KeepsHeap}
use Rattle.pict_turns.specs.declared.store.Store.{Store}
use Rattle.pict_turns.specs.declared.turn.Turn.TheVariants.{Output}
use Rattle.pict_desk.proofs.Numbers.{output_kept}
use Rattle.pict_desk.specs.Answers.{IsAnswerOf}
use Rattle.pict_calls.specs.Finishing.{HasActed}
use Rattle.pict_turns.specs.declared.event.Shown.TheVariants as shows

-- to print nothing, and to answer
abbrev pub answering : Val → Val → Effect
answering to answer = record { printed = None; leaves = Answer to answer }

-- the output of the answer has the turn
pub hands_answer : (old mid : Store) → KeepsHeap old.desk.heap mid.desk.heap → (p : Primitive) (fields : List CoreVal) (at : Span) (kept : Kept) (a : IsAnswerOf old.desk.heap old.desk.values.items p fields at kept)
    → HasActed mid (record mid { turn = Output kept }) (answering a.to a.answer) at shows.Quiet
hands_answer old mid k p fields at kept a = record {
  turn = record { kept = kept; is = output_kept old.desk.heap mid.desk.heap k a.to a.answer at kept a.output; turn_is = refl };
  shows = (refl, λ is. cc);
  queues = refl;
  values = refl;
  keeps = keeps_all mid.desk.heap;
  trap = λ is. cc;
}
