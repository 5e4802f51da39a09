-- Frames that are read out of blocks.
use Rattle.std.proofs.Common.{ℕ, ◌≤◌, ◌≡◌, List, length, map, drop, refl, Vec, Global}
use Rattle.pict_syntax.specs.declared.limits.TheConstants.{NARROW_LIMIT}
use Rattle.pict_queue.specs.QueuesState.{QueuesState}
use Rattle.pict_desk.specs.Known.{value_in, known}
use Rattle.pict_desk.specs.Pairs.{ArePairs}
use Rattle.pict_desk.specs.declared.desk.Desk.{Desk}
use Rattle.pict_blocks.specs.Blocks.{frame_values}
use Rattle.pict_blocks.specs.Framed.{gathered}
use Rattle.pict_blocks.specs.Parts.{HasReadFrame}
use Rattle.pict_blocks.specs.Writing.{OnlyWorks}
use Rattle.pict_blocks.proofs.WordsHeld.{has_read_frame}
use Rattle.pict_turns.specs.Reading.{HasRead}
use Rattle.pict_turns.specs.declared.store.Store.{Store}

-- a store whose desk has read a frame
pub has_read_by : (s : Store) (queues : QueuesState) (desk : Desk) (words frame : List ℕ) → OnlyWorks s.queues queues → HasReadFrame s.desk desk words frame
    → HasRead s (record s { desk = desk; queues = queues }) words frame
has_read_by s queues desk words frame works r = record {
  values = r.values;
  same = r.same;
  rest = record { queues = works; heap = r.heap; pending = r.pending; turn = refl; levels = r.levels; pairs = r.pairs };
}

-- The values of levels were written by a frame's.
pub has_read : (s : Store) (queues : QueuesState) (vec : Vec (ℕ × ℕ) Global) (words frame : List ℕ) (values : List (ℕ × ℕ)) → vec.items ≡ values → OnlyWorks s.queues queues
    → length values ≡ length s.desk.values.items → ArePairs s.desk.heap values → frame_values (value_in s.desk.heap) (length frame) (drop 1 words) ≡ map (known s.desk.heap values) frame
    → (length frame ≤ NARROW_LIMIT → drop 1 words ≡ gathered values frame)
    → HasRead s (record { desk = record s.desk { values = vec }; queues = queues; turn = s.turn }) words frame
has_read s queues vec words frame values is works levels pairs read same =
    has_read_by s queues (record s.desk { values = vec }) words frame works (has_read_frame s.desk vec words frame values is levels pairs read same)
