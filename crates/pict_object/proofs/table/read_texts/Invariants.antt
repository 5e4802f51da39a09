use Rattle.std.proofs.Common.{◌≡◌, ◌-◌}
use Rattle.pict_object.specs.Reading.{text_at, parts_at, counted_at}
use Rattle.pict_object.specs.Heads.{lent}
use Rattle.pict_object.proofs.Loops.{with_front}
use Rattle.pict_object.proofs.table.read_texts.Given as goal

abbrev pub invariant-loop : goal.invariant-loop
invariant-loop l = with_front (lent l.texts.items) (parts_at text_at (l.count - l.counter) l.rest) ≡ counted_at text_at l.bytes
