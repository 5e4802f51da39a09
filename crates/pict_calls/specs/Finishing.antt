-- What an act of a primitive leaves in a store.
use Rattle.std.specs.Prelude.{◌≡◌, ◌≢◌, ℕ, None, IsSome}
use Rattle.pict_syntax.specs.declared.span.Span.{Span}
use Rattle.pict_core.specs.Term.{Val}
use Rattle.pict_core.specs.Primitives.{Effect, Leaves, Nothing, Answer, Trap}
use Rattle.pict_desk.specs.Kept.{IsOutput}
use Rattle.pict_desk.specs.declared.kept.Kept.{Kept}
use Rattle.pict_heap.specs.HeapState.{HeapState, value_of, IsWord, KeepsWords}
use Rattle.pict_heap.specs.declared.word.Word.{Word}
use Rattle.pict_prim.specs.Printed.{printed_of}
use Rattle.pict_prim.specs.declared.act.Act.{Act}
use Rattle.pict_prim.specs.declared.act.Act.TheVariants as act
use Rattle.pict_turns.specs.declared.store.Store.{Store}
use Rattle.pict_turns.specs.declared.turn.Turn.{Turn}
use Rattle.pict_turns.specs.declared.turn.Turn.TheVariants.{Nobody, Output}
use Rattle.pict_turns.specs.declared.event.Shown.{Shown}
use Rattle.pict_turns.specs.declared.event.Shown.TheVariants as shows

-- the output of an answer has the turn
pub record IsAnswered (h : HeapState) (to answer : Val) (at : Span) (turn : Turn) : Type 0 where
  pub kept : Kept
  pub is : IsOutput h to answer at kept
  pub turn_is : turn ≡ Output kept

-- who has the turn once an output has acted, where there is no trap: nobody, or the output of an answer
abbrev pub IsTurnAfter : HeapState → Leaves → Span → Turn → Type 0
IsTurnAfter h Nothing at turn = turn ≡ Nobody
IsTurnAfter h (Answer to answer) at turn = IsAnswered h to answer at turn
IsTurnAfter h Trap at turn = Unit {0}

-- a word whose bytes the effect prints, if it isn't a trap
pub record PrintsWord (h : HeapState) (e : Effect) (w : Word) : Type 0 where
  pub word : IsWord h w
  pub prints : e.printed ≡ printed_of (value_of h w)
  pub some : IsSome (printed_of (value_of h w))
  pub no_trap : e.leaves ≢ Trap

-- what the event shows of the effect
abbrev pub Shows : HeapState → Effect → Span → Shown → Type 0
Shows h e at shows.Quiet = (e.printed ≡ None) × (e.leaves ≢ Trap)
Shows h e at (shows.Comm channel value) = ⊥
Shows h e at (shows.Print w) = PrintsWord h e w
Shows h e at (shows.Trapped place) = (e.leaves ≡ Trap) × (place ≡ at)

-- The act of the output that had the turn has had this effect. The queues and the values stay, and all words stand for what they
-- stood for. A trap changes nothing.
pub record HasActed (old new : Store) (e : Effect) (at : Span) (event : Shown) : Type 0 where
  pub turn : IsTurnAfter new.desk.heap e.leaves at new.turn
  pub shows : Shows new.desk.heap e at event
  pub queues : new.queues ≡ old.queues
  pub values : new.desk.values ≡ old.desk.values
  pub keeps : KeepsWords old.desk.heap new.desk.heap
  pub trap : e.leaves ≡ Trap → new ≡ old

-- how many free blocks the output that an act leaves needs, so that it can have the turn
abbrev pub outputs_of : Act → ℕ
outputs_of (act.Print w) = 0
outputs_of act.ZeroDivisor = 0
outputs_of _ = 1
