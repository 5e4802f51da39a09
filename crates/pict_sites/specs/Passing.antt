-- Who has the turn, and parts of it, go to other queues.
use Rattle.std.specs.Prelude.{◌≡◌, ◌+◌, ◌++◌, ◌∷◌, [], ℕ, suc, List, length}
use Rattle.pict_core.specs.Term.{Process, Par}
use Rattle.pict_heap.specs.HeapState.{KeepsWords}
use Rattle.pict_queue.specs.QueuesState.{QueuesState}
use Rattle.pict_queue.specs.Contents.{contents, KeepsOtherContents, KeepsAllContents}
use Rattle.pict_blocks.specs.Holding.{HoldsFrame}
use Rattle.pict_desk.specs.Known.{known}
use Rattle.pict_desk.specs.Pairs.{ArePairs}
use Rattle.pict_turns.specs.Acting.{IsStore}
use Rattle.pict_turns.specs.Views.{acting_words, view_with_turn}
use Rattle.pict_turns.specs.declared.store.Store.{Store}
use Rattle.pict_turns.specs.declared.turn.Turn.TheVariants.{Nobody}
use Rattle.pict_sites.specs.Views.{processes_in, IsSite}
use Rattle.pict_sites.specs.Working.{acting_process}
use Rattle.pict_sites.specs.declared.sites.Sites.{Sites}

-- a block with these words is the last of queue 0 now, and the other queues hold what they held
pub record GainsLast (old new : QueuesState) (words : List ℕ) : Type 0 where
  pub last : contents new 0 ≡ contents old 0 ++ words ∷ []
  pub others : KeepsOtherContents old new 0
  pub queues : length new.queues ≡ length old.queues

-- each queue holds what it held
pub record HoldsTheSame (old new : QueuesState) : Type 0 where
  pub contents : KeepsAllContents old new
  pub queues : length new.queues ≡ length old.queues

-- a queue more, which is empty
pub record GainsQueue (old new : QueuesState) : Type 0 where
  pub contents : KeepsAllContents old new
  pub queues : length new.queues ≡ length old.queues + 1

-- The parts stand as blocks, with the values that the levels of their frames had: the first at the front of queue 0 of the store,
-- the second at the back of queue 0 of the other queues.
pub record PutsParts (old new : Store) (before after : QueuesState) (left : ℕ) (first : List ℕ) (right : ℕ) (second : List ℕ) : Type 0 where
  pub held : List ℕ
  pub holds : HoldsFrame new.desk.heap (known old.desk.heap old.desk.values.items) first held
  pub other_held : List ℕ
  pub other_holds : HoldsFrame new.desk.heap (known old.desk.heap old.desk.values.items) second other_held
  pub front : contents new.queues 0 ≡ (suc left ∷ held) ∷ contents old.queues 0
  pub others : KeepsOtherContents old.queues new.queues 0
  pub queues : length new.queues.queues ≡ length old.queues.queues
  pub gains : GainsLast before after (suc right ∷ other_held)
  pub keeps : KeepsWords old.desk.heap new.desk.heap
  pub values : new.desk.values.items ≡ old.desk.values.items
  pub turn : new.turn ≡ Nobody

-- Who had the turn was a parallel composition: its left part is the first of the ready ones now, with nothing else there changed,
-- and its right part the last process in queue 0 of the other queues.
pub record Splits (core : Process) (old new : Store) (before after : QueuesState) : Type 0 where
  pub left : Process
  pub right : Process
  pub was : acting_process core old ≡ Par left right
  pub store : IsStore core new
  pub turn : new.turn ≡ Nobody
  pub ready : view_with_turn core new ≡ record (view_with_turn core old) { ready = left ∷ processes_in core old.desk.heap old.queues }
  pub queues : length new.queues.queues ≡ length old.queues.queues
  pub site : IsSite core new.desk after
  pub last : processes_in core new.desk.heap after ≡ processes_in core old.desk.heap before ++ right ∷ []
  pub more : length (contents after 0) ≡ length (contents before 0) + 1
  pub keeps : KeepsWords old.desk.heap new.desk.heap
  pub levels : length new.desk.values.items ≡ length old.desk.values.items

-- The block with these words, one of the middle of a post, is the last of queue 0 of a site, and those before and behind it stay.
pub record PassesOn (post left : QueuesState) (site new : QueuesState) (front back : List (List ℕ)) (words : List ℕ) : Type 0 where
  pub was : contents post 0 ≡ front ++ words ∷ back
  pub is : contents left 0 ≡ front ++ back
  pub others : KeepsOtherContents post left 0
  pub queues : length left.queues ≡ length post.queues
  pub gains : GainsLast site new words

-- Nothing has changed but work and the values of levels, each of which has the words of a value still; and nobody has the turn.
pub record OnlyLooks (old new : Store) : Type 0 where
  pub heap : new.desk.heap ≡ old.desk.heap
  pub levels : length new.desk.values.items ≡ length old.desk.values.items
  pub pairs : ArePairs new.desk.heap new.desk.values.items
  pub turn : new.turn ≡ Nobody

-- Who had the turn is the last packet, to this site, and nothing else has changed.
pub record Sends (core : Process) (old new : Sites) (to : ℕ) : Type 0 where
  pub post : GainsLast old.post new.post (acting_words core old.store)
  pub destinations : new.to.items ≡ old.to.items ++ to ∷ []
  pub store : new.store ≡ record old.store { turn = Nobody }
  pub queues : new.queues ≡ old.queues
  pub homes : new.homes ≡ old.homes
