-- What stays while blocks are read.
use Rattle.std.proofs.Common.{ℕ, ◌+◌, ◌≤◌, ◌≡◌, List, ◌++◌, length, refl, sym, ap, ◌∙◌, subst, arith}
use Rattle.std.specs.List.{AllByRecursion}
use Rattle.pict_core.specs.Term.{Process}
use Rattle.pict_core.specs.Step.{Label}
use Rattle.pict_code.specs.Nodes.{Place, places}
use Rattle.pict_heap.specs.HeapState.{HeapState, KeepsWords}
use Rattle.pict_region.specs.RegionState.{spare}
use Rattle.pict_queue.specs.QueuesState.{QueuesState, IsHeld}
use Rattle.pict_queue.specs.Contents.{held_words, contents, HoldsNoMore}
use Rattle.pict_view.specs.Placed.{next_view}
use Rattle.pict_blocks.specs.Blocks.{view_of_contents}
use Rattle.pict_blocks.specs.Writing.{OnlyWorks}
use Rattle.pict_blocks.proofs.Held.{works_no_more}
use Rattle.pict_desk.specs.Known.{value_in}
use Rattle.pict_desk.specs.Pairs.{ArePairs}
use Rattle.pict_turns.specs.Acting.{HasBlockFor, IsStore, HasActing, IsDone, IsRefused}
use Rattle.pict_turns.specs.Reading.{OnlyReads}
use Rattle.pict_turns.specs.Turns.{IsTurn}
use Rattle.pict_turns.specs.Views.{IsBlock, CanWait, channel_lists, turn_words, ready_words, acting_words, view_with_turn}
use Rattle.pict_turns.specs.declared.store.Store.{Store}
use Rattle.pict_turns.specs.declared.turn.Turn.{Turn}
use Rattle.pict_turns.specs.declared.turn.Turn.TheVariants.{Nobody}
use Rattle.pict_turns.proofs.Turns.{words_nobody, has_words, same_words, room_more}
use Rattle.pict_turns.proofs.Spare.{spare_more, reads_spare}

-- words alone are read
pub reads_works : (s : Store) (queues : QueuesState) → ArePairs s.desk.heap s.desk.values.items → OnlyWorks s.queues queues → OnlyReads s (record s { queues = queues })
reads_works s queues pairs works = record { queues = works; heap = refl; pending = refl; turn = refl; levels = refl; pairs = pairs }

pub works_more : (a b c : QueuesState) → OnlyWorks a b → OnlyWorks b c → OnlyWorks a c
works_more a b c v w = w ∙ ap (λ (s : QueuesState). record s { region = record s.region { work = c.region.work } }) v

pub reads_more : (a b c : Store) → OnlyReads a b → OnlyReads b c → OnlyReads a c
reads_more a b c v w = record {
  queues = works_more a.queues b.queues c.queues v.queues w.queues;
  heap = w.heap ∙ v.heap;
  pending = w.pending ∙ v.pending;
  turn = w.turn ∙ v.turn;
  levels = w.levels ∙ v.levels;
  pairs = w.pairs;
}

-- who has the turn is another afterwards
pub reads_aside : (s n : Store) → OnlyReads s n → OnlyReads s (record n { turn = s.turn })
reads_aside s n r = record { queues = r.queues; heap = r.heap; pending = r.pending; turn = refl; levels = r.levels; pairs = r.pairs }

module _ (old new : Store) (r : OnlyReads old new) where
  pub contents_read : (queue : ℕ) → contents new.queues queue ≡ contents old.queues queue
  contents_read queue = ap (λ (s : QueuesState). contents s queue) r.queues

  pub words_read : (block : ℕ) → held_words new.queues.region block ≡ held_words old.queues.region block
  words_read block = ap (λ (s : QueuesState). held_words s.region block) r.queues

  pub queues_read : length new.queues.queues ≡ length old.queues.queues
  queues_read = ap (λ (s : QueuesState). length s.queues) r.queues

  pub spare_read : (width : ℕ) → spare new.queues.region width ≡ spare old.queues.region width
  spare_read width = ap (λ (s : QueuesState). spare s.region width) r.queues

  pub held_read : (block : ℕ) → IsHeld old.queues block → IsHeld new.queues block
  held_read block h = subst (λ (s : QueuesState). IsHeld s block) (sym r.queues) (record { live = h.live; apart = h.apart })

  -- no block is held that wasn't held
  pub no_more_read : HoldsNoMore old.queues new.queues
  no_more_read = works_no_more old.queues new.queues r.queues

  channels_read : channel_lists new.queues ≡ channel_lists old.queues
  channels_read = ap (λ (s : QueuesState). channel_lists s) r.queues

  module _ (core : Process) where
    -- the store is one still, where who may have the turn after reading may, and has a free block
    store_after : IsStore core old → IsTurn core new.desk.heap new.desk.values.items new.turn → turn_words core new ≡ turn_words core old → IsStore core new
    store_after s turn words = record {
      ready = let e = queues_read in let low = s.ready in omega (arith, e, low);
      blocks = λ queue. subst (AllByRecursion (IsBlock core new.desk.heap)) (sym (contents_read queue)) (subst (λ (h : HeapState). AllByRecursion (IsBlock core h) (contents old.queues queue)) (sym r.heap) (s.blocks queue));
      waiting = λ channel. subst (AllByRecursion (CanWait core)) (sym (contents_read (channel + 1))) (s.waiting channel);
      pairs = r.pairs;
      levels = subst (λ (n : ℕ). AllByRecursion (λ (p : Place). p.around ≤ n) (places 0 core)) (sym r.levels) s.levels;
      turn = turn;
      room = subst (AllByRecursion (HasBlockFor new.queues.region)) (sym words)
          (room_more old.queues.region new.queues.region (λ width. let e = spare_read width in omega (arith, e)) (turn_words core old) s.room);
    }

    -- where nobody has the turn, the values of levels may change
    pub store_read_idle : old.turn ≡ Nobody → IsStore core old → IsStore core new
    store_read_idle idle s =
        let still : new.turn ≡ Nobody = r.turn ∙ idle in
        store_after s (subst (IsTurn core new.desk.heap new.desk.values.items) (sym still) tt) (words_nobody core new still ∙ sym (words_nobody core old idle))

    module _ (same : new.desk.values.items ≡ old.desk.values.items) where
      words_same : turn_words core new ≡ turn_words core old
      words_same = same_words core old new r.turn same

      pub store_read : IsStore core old → IsStore core new
      store_read s =
          store_after s (subst (λ (h : HeapState). IsTurn core h new.desk.values.items new.turn) (sym r.heap) (subst (λ (vs : List (ℕ × ℕ)). IsTurn core old.desk.heap vs new.turn) (sym same)
          (subst (λ (t : Turn). IsTurn core old.desk.heap old.desk.values.items t) (sym r.turn) s.turn))) words_same

      pub acting_read : HasActing core old → HasActing core new
      acting_read a = record { store = store_read a.store; has = has_words core new (acting_words core old) (words_same ∙ a.has) }

      -- what the store stands for stays
      pub view_read : view_with_turn core new ≡ view_with_turn core old
      view_read =
          ap (λ (h : HeapState). view_of_contents core (value_in h) (ready_words core new) (channel_lists new.queues)) r.heap
          ∙ ap (λ (ws : List (List ℕ)). view_of_contents core (value_in old.desk.heap) (ws ++ contents new.queues 0) (channel_lists new.queues)) words_same
          ∙ ap (λ (rs : List (List ℕ)). view_of_contents core (value_in old.desk.heap) (turn_words core old ++ rs) (channel_lists new.queues)) (contents_read 0)
          ∙ ap (view_of_contents core (value_in old.desk.heap) (ready_words core old)) channels_read

      module _ (last : Store) where
        -- a step that is done once blocks are read is a step
        pub done_read : (label : Label) → IsDone core new last label → IsDone core old last label
        done_read label d = record {
          moves = sym (ap next_view view_read) ∙ d.moves;
          store = d.store;
          keeps = subst (λ (h : HeapState). KeepsWords h last.desk.heap) r.heap d.keeps;
          levels = d.levels ∙ r.levels;
          queues = let e = queues_read in let most = d.queues in omega (arith, e, most);
          no_more = λ block held. no_more_read block (d.no_more block held);
          no_loss = let count = ap (λ (s : QueuesState). length s.queues + s.spare_queues) r.queues in let least = d.no_loss in omega (arith, count, least);
        }

        pub refused_read : IsRefused core new last → IsRefused core old last
        refused_read d = record {
          turn = d.turn ∙ r.turn;
          values = d.values ∙ same;
          contents = λ queue. d.contents queue ∙ contents_read queue;
          queues = d.queues ∙ queues_read;
          heap = record { texts = d.heap.texts ∙ ap (λ (h : HeapState). h.texts) r.heap; records = d.heap.records ∙ ap (λ (h : HeapState). h.records) r.heap };
          store = d.store;
          no_more = λ block held. no_more_read block (d.no_more block held);
          spare = spare_more old new last (reads_spare old new r) d.spare;
        }
