use Rattle.std.proofs.Common.{◌≡◌, ◌++◌, [], length}
use Rattle.std.specs.List.{All}
use Rattle.pict_show.specs.Values.{value_text}
use Rattle.pict_heap.specs.HeapState.{value_of}
use Rattle.pict_show_words.specs.Pending.{IsPieceOf, pending}
use Rattle.pict_show_words.proofs.writing.write_word.Given as goal

abbrev pub invariant-loop-piece : goal.invariant-loop-piece
invariant-loop-piece l = record {
  text : l.out.items ++ pending l.names l.heap l.pieces.items [] ≡ l.initial.out.items ++ value_text l.names (value_of l.heap l.fn.word);
  pieces : All (IsPieceOf l.heap) l.pieces.items;
}

abbrev pub decreases-loop-piece : goal.decreases-loop-piece
decreases-loop-piece l = length (pending l.names l.heap l.pieces.items [])
