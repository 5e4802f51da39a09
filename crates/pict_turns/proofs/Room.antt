-- Room that is made, and what stays meanwhile.
use Rattle.std.proofs.Common.{ℕ, ◌+◌, ◌-◌, ◌≤◌, ◌≡◌, ◌==◌, Bool, true, false, cond, List, [], ◌++◌, length, get_or, refl, sym, ap, ◌∙◌, subst, arith}
use Rattle.std.specs.List.{AllByRecursion}
use Rattle.pict_core.specs.Term.{Val, Process}
use Rattle.pict_core.specs.Step.{Label}
use Rattle.pict_code.specs.Instruction.{Op}
use Rattle.pict_code.specs.Nodes.{Place, places}
use Rattle.pict_heap.specs.HeapState.{KeepsWords}
use Rattle.pict_heap.proofs.Rooms.{room_stays}
use Rattle.pict_region.specs.RegionState.{spare}
use Rattle.pict_queue.specs.QueuesState.{QueuesState}
use Rattle.pict_queue.specs.Contents.{contents}
use Rattle.pict_prim.specs.declared.act.Need.{Need}
use Rattle.pict_view.specs.Placed.{next_view}
use Rattle.pict_blocks.specs.Blocks.{view_of_contents, IsNodeBlock}
use Rattle.pict_turns.specs.Acting.{HasBlockFor, IsStore, HasActing, ActsBy, IsDone, IsRefused}
use Rattle.pict_turns.specs.Parts.{CanHold, HandsOn}
use Rattle.pict_blocks.specs.Parts.{block_width}
use Rattle.pict_turns.specs.Reserving.{CanHoldAnd, CanHoldBoth, OnlyReserves}
use Rattle.pict_desk.specs.Known.{pair_at, value_in, known}
use Rattle.pict_desk.specs.Pairs.{ArePairs}
use Rattle.pict_desk.proofs.Making.{pairs_keep}
use Rattle.pict_desk.proofs.MakingRoom.{has_room, room_left, keeps_words, value_kept, piles_kept}
use Rattle.pict_desk.specs.Room.{frame_need}
use Rattle.pict_turns.specs.Views.{IsBlock, CanWait, lists_from, channel_lists, turn_words, ready_words, acting_words, view_with_turn}
use Rattle.pict_turns.specs.declared.store.Store.{Store}
use Rattle.pict_turns.proofs.Turns.{same_words, has_words, room_more, acting_block}
use Rattle.pict_turns.proofs.Views.{blocks_stay, lists_stay}
use Rattle.pict_turns.proofs.Spare.{spare_more, reserves_spare}
use Rattle.pict_turns.proofs.Rows.{node_block_stays, turn_by}
use Rattle.pict_turns.specs.Turns.{handing, turn_cost}

-- ---- room for several

pub can_first : (s : Store) (first second : List ℕ) → CanHoldBoth s first second → CanHold s first
can_first s first second c = record { block = c.one; room = has_room s.desk.heap s.desk.pending (frame_need first) (frame_need second) c.room }

one_of : (a : ℕ) (t : Bool) → cond t 2 1 ≤ a → 1 ≤ a
one_of a true h = omega (arith, h)
one_of a false h = h

pub can_hold : (s : Store) (frame : List ℕ) (further : Need) → CanHoldAnd s frame further → CanHold s frame
can_hold s frame further c = record { block = c.block; room = has_room s.desk.heap s.desk.pending (frame_need frame) further c.room }

-- where there are blocks for both frames, and the first has the turn, there is one for the second
pub can_second : (core : Process) (old new : Store) (number : ℕ) (first second : List ℕ) → CanHoldBoth old first second → HandsOn core old new number first → CanHold new second
can_second core old new number first second c one = record {
  block = subst (λ (q : QueuesState). 1 ≤ spare q.region (block_width second)) (sym one.queues)
      (one_of (spare old.queues.region (block_width second)) (block_width second == block_width first) c.other);
  room = room_left old.desk.heap new.desk.heap old.desk.pending new.desk.pending (frame_need first) (frame_need second) c.room one.used one.pending;
}

-- ---- stores whose room alone has changed

pub reserves_nothing : (s : Store) → OnlyReserves s s
reserves_nothing s = record {
  heap = record { texts = refl; records = refl };
  room = record { records_left = omega arith; fields_left = omega arith; texts_left = omega arith; bytes_left = omega arith; records_more = omega arith; fields_more = omega arith; texts_more = omega arith; bytes_more = omega arith; kept = room_stays s.desk.heap.room };
  pending = piles_kept s.desk.pending;
  live = refl;
  work = refl;
  spare = λ width. omega arith;
  queues = refl;
  spare_queues = omega arith;
  contents = λ queue. refl;
  held = λ block held. record { held = held; words = refl };
  no_more = λ block held. held;
  values = refl;
  turn = refl;
}

module _ (core : Process) (old new : Store) (r : OnlyReserves old new) where
  words_kept : KeepsWords old.desk.heap new.desk.heap
  words_kept = keeps_words old.desk.heap new.desk.heap r.heap

  -- the values of levels stay
  pub known_still : known new.desk.heap new.desk.values.items ≡ known old.desk.heap old.desk.values.items
  known_still =
      let levels : (ℕ → ℕ → Val) → ℕ → Val = λ value level. value (pair_at new.desk.values.items level).0 (pair_at new.desk.values.items level).1 in
      ap levels (value_kept old.desk.heap new.desk.heap r.heap)
      ∙ ap (known old.desk.heap) r.values

  -- who has the turn has it still, with the same words
  pub words_still : turn_words core new ≡ turn_words core old
  words_still = same_words core old new r.turn r.values

  pub cost_still : turn_cost core new ≡ turn_cost core old
  cost_still = ap handing words_still

  pub store_still : IsStore core old → IsStore core new
  store_still s = record {
    ready = let e = ap length r.queues in let low = s.ready in omega (arith, e, low);
    blocks = λ queue. subst (AllByRecursion (IsBlock core new.desk.heap)) (sym (r.contents queue)) (blocks_stay old.desk.heap new.desk.heap words_kept core (contents old.queues queue) (s.blocks queue));
    waiting = λ channel. subst (AllByRecursion (CanWait core)) (sym (r.contents (channel + 1))) (s.waiting channel);
    pairs = subst (ArePairs new.desk.heap) (sym r.values) (pairs_keep old.desk.heap new.desk.heap words_kept old.desk.values.items s.pairs);
    levels = subst (λ (vs : List (ℕ × ℕ)). AllByRecursion (λ (p : Place). p.around ≤ length vs) (places 0 core)) (sym r.values) s.levels;
    turn = turn_by core old new words_kept s.pairs r.values r.turn s.turn;
    room = subst (AllByRecursion (HasBlockFor new.queues.region)) (sym words_still) (room_more old.queues.region new.queues.region r.spare (turn_words core old) s.room);
  }

  -- a step that isn't done, and for which room alone was made
  pub refused_still : IsStore core old → IsRefused core old new
  refused_still s = record {
    turn = r.turn;
    values = r.values;
    contents = r.contents;
    queues = ap length r.queues;
    heap = r.heap;
    store = store_still s;
    no_more = r.no_more;
    spare = reserves_spare old new r;
  }

  pub acting_words_still : acting_words core new ≡ acting_words core old
  acting_words_still = ap (λ (ws : List (List ℕ)). get_or ws 0 []) words_still

  pub acting_still : HasActing core old → HasActing core new
  acting_still a = record {
    store = store_still a.store;
    has = has_words core new (acting_words core old) (words_still ∙ a.has);
  }

  pub acts_still : (op : Op) → ActsBy core old op → ActsBy core new op
  acts_still op a = record {
    acting = acting_still a.acting;
    number = a.number;
    node = a.node;
    is = subst (λ (ws : List ℕ). IsNodeBlock core new.desk.heap new.desk.values.items a.number a.node ws) (sym acting_words_still)
        (subst (λ (vs : List (ℕ × ℕ)). IsNodeBlock core new.desk.heap vs a.number a.node (acting_words core old)) (sym r.values)
        (node_block_stays core old.desk.heap new.desk.heap words_kept old.desk.values.items a.acting.store.pairs a.number a.node (acting_words core old) (acting_block core old a.acting) a.is));
    op_is = a.op_is;
  }

  channels_still : channel_lists new.queues ≡ channel_lists old.queues
  channels_still =
      ap (λ (n : ℕ). lists_from new.queues 1 (n - 1)) (ap length r.queues)
      ∙ lists_stay old.queues new.queues 1 (length old.queues.queues - 1) (λ queue low. r.contents queue)

  -- what the store stands for stays
  pub view_still : view_with_turn core new ≡ view_with_turn core old
  view_still =
      ap (λ (value : ℕ → ℕ → Val). view_of_contents core value (ready_words core new) (channel_lists new.queues)) (value_kept old.desk.heap new.desk.heap r.heap)
      ∙ ap (λ (ws : List (List ℕ)). view_of_contents core (value_in old.desk.heap) (ws ++ contents new.queues 0) (channel_lists new.queues)) words_still
      ∙ ap (λ (rs : List (List ℕ)). view_of_contents core (value_in old.desk.heap) (turn_words core old ++ rs) (channel_lists new.queues)) (r.contents 0)
      ∙ ap (view_of_contents core (value_in old.desk.heap) (ready_words core old)) channels_still

  module _ (last : Store) where
    -- a step that is done once room is made is a step
    pub done_after : (label : Label) → IsDone core new last label → IsDone core old last label
    done_after label d = record {
      moves = sym (ap next_view view_still) ∙ d.moves;
      store = d.store;
      keeps = record { words = λ w is. d.keeps.words w (words_kept.words w is); values = λ w is. d.keeps.values w (words_kept.words w is) ∙ words_kept.values w is };
      levels = d.levels ∙ ap length r.values;
      queues = let e = ap length r.queues in let most = d.queues in omega (arith, e, most);
      no_more = λ block held. r.no_more block (d.no_more block held);
      no_loss = let e = ap length r.queues in let more = r.spare_queues in let least = d.no_loss in omega (arith, e, more, least);
    }

    pub refused_after : IsRefused core new last → IsRefused core old last
    refused_after d = record {
      turn = d.turn ∙ r.turn;
      values = d.values ∙ r.values;
      contents = λ queue. d.contents queue ∙ r.contents queue;
      queues = d.queues ∙ ap length r.queues;
      heap = record { texts = d.heap.texts ∙ r.heap.texts; records = d.heap.records ∙ r.heap.records };
      store = d.store;
      no_more = λ block held. r.no_more block (d.no_more block held);
      spare = spare_more old new last (reserves_spare old new r) d.spare;
    }
