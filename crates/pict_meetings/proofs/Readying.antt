-- A part becomes the last of the ready ones.
use Rattle.std.proofs.Common.{ℕ, suc, ◌+◌, ◌≤◌, ◌≡◌, ◌==◌, Bool, true, false, cond, List, [], ◌∷◌, ◌++◌, length, refl, ap, ◌∙◌, subst, arith}
use Rattle.std.proofs.lemmas.Bool.Decides.{nat_tests}
use Rattle.std.specs.List.{AllByRecursion}
use Rattle.pict_core.specs.Term.{Process}
use Rattle.pict_heap.specs.HeapState.{KeepsWords}
use Rattle.pict_region.specs.RegionState.{spare}
use Rattle.pict_queue.specs.Contents.{contents, KeepsOtherContents}
use Rattle.pict_view.specs.Moved.{if_replicated}
use Rattle.pict_desk.specs.Known.{known}
use Rattle.pict_desk.specs.Pairs.{ArePairs}
use Rattle.pict_turns.specs.Acting.{HasBlockFor}
use Rattle.pict_blocks.specs.Holding.{HoldsFrame}
use Rattle.pict_turns.specs.Parts.{CanHold, Spawns, IsLast}
use Rattle.pict_blocks.specs.Parts.{block_width}
use Rattle.pict_turns.specs.Turns.{IsTurn, handing, turn_cost}
use Rattle.pict_turns.specs.Views.{turn_words, ready_words}
use Rattle.pict_turns.specs.declared.store.Store.{Store}
use Rattle.pict_turns.specs.declared.turn.Turn.{Turn}
use Rattle.pict_turns.specs.declared.turn.Turn.TheVariants.{Nobody}
use Rattle.pict_turns.proofs.Handing.{first_left, made_last}
use Rattle.pict_turns.proofs.Rows.{turn_by}
use Rattle.pict_turns.proofs.Turns.{same_words, room_for, cost_is}
use Rattle.pict_meetings.specs.Room.{CanHoldBeside}

-- The part of this number is the last of the ready ones now, with the values that the levels of its frame had, and the first are
-- these, who keep the turn. What other queues hold, and the values, stay, and all words stand for what they stood for.
pub record Readies (core : Process) (old new : Store) (kept : List (List ℕ)) (number : ℕ) (frame : List ℕ) : Type 0 where
  pub held : List ℕ
  pub holds : HoldsFrame new.desk.heap (known old.desk.heap old.desk.values.items) frame held
  pub ready : ready_words core new ≡ kept ++ (contents old.queues 0 ++ (suc number ∷ held) ∷ [])
  pub turn : IsTurn core new.desk.heap new.desk.values.items new.turn
  pub room : AllByRecursion (HasBlockFor new.queues.region) (turn_words core new)
  pub cost : turn_cost core new ≤ handing kept + (block_width frame + 4)
  pub others : KeepsOtherContents old.queues new.queues 0
  pub queues : length new.queues.queues ≡ length old.queues.queues
  pub keeps : KeepsWords old.desk.heap new.desk.heap
  pub values : new.desk.values.items ≡ old.desk.values.items

two_or_one : (width second count : ℕ) (b : Bool) → (second == width) ≡ b → (width ≡ second → 2 ≤ count) → 1 ≤ count → cond b 2 1 ≤ count
two_or_one width second count true e two one = let same : width ≡ second = grind (arith, nat_tests) in two same
two_or_one width second count false e two one = one

module _ (core : Process) (old new : Store) (number : ℕ) (frame : List ℕ) where
  -- behind who keeps the turn
  pub behind : (words : List ℕ) → turn_words core old ≡ words ∷ [] → ArePairs old.desk.heap old.desk.values.items → IsTurn core old.desk.heap old.desk.values.items old.turn
      → CanHoldBeside old (length words + 1) frame → HasBlockFor old.queues.region words → Spawns old new number frame → Readies core old new (words ∷ []) number frame
  behind words is pairs turn beside room s =
      let width = length words + 1 in
      let still : turn_words core new ≡ words ∷ [] = same_words core old new s.turn s.values ∙ is in
      record {
        held = s.held;
        holds = s.holds;
        ready = ap (λ ts. ts ++ contents new.queues 0) still ∙ ap (λ rs. words ∷ rs) s.last;
        turn = turn_by core old new s.keeps pairs s.values s.turn turn;
        room = room_for core new words still new.queues.region
            (first_left old.queues.region new.queues.region width (block_width frame) room
            (two_or_one width (block_width frame) (spare old.queues.region (block_width frame)) (block_width frame == width) refl beside.left beside.can.block) s.spare);
        cost = let e = cost_is core new words still in omega (arith, e);
        others = s.others;
        queues = s.queues;
        keeps = s.keeps;
        values = s.values;
      }

  -- where nobody keeps it
  pub alone : CanHold old frame → IsLast core (record old { turn = Nobody }) new number frame → Readies core old new [] number frame
  alone can last =
      let m = made_last core (record old { turn = Nobody }) new number frame refl can.block last in
      record {
        held = m.held;
        holds = m.holds;
        ready = m.ready;
        turn = m.turn;
        room = m.room;
        cost = let e = m.cost in omega (arith, e);
        others = m.others;
        queues = m.queues;
        keeps = m.keeps;
        values = m.values;
      }

  pub alone_last : old.turn ≡ Nobody → CanHold old frame → IsLast core old new number frame → Readies core old new [] number frame
  alone_last none can last = alone can (subst (λ (x : Store). IsLast core x new number frame) (ap (λ (t : Turn). record old { turn = t }) none) last)

  -- behind who keeps the turn where it is kept
  pub behind_kept : (b : Bool) (words : List ℕ) → turn_words core old ≡ words ∷ [] → ArePairs old.desk.heap old.desk.values.items → IsTurn core old.desk.heap old.desk.values.items old.turn
      → (b ≡ true → CanHoldBeside old (length words + 1) frame) → CanHold old frame → HasBlockFor old.queues.region words
      → (b ≡ true → Spawns old new number frame) → (b ≡ false → IsLast core (record old { turn = Nobody }) new number frame)
      → Readies core old new (if_replicated b words) number frame
  behind_kept true words is pairs turn beside can room one other = behind words is pairs turn (beside refl) room (one refl)
  behind_kept false words is pairs turn beside can room one other = alone can (other refl)
