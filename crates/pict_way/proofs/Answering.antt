-- The file of a way is answered.
use Rattle.std.proofs.Common.{refl}
use Rattle.pict_trace.specs.Lines.{lines_text}
use Rattle.pict_trace.proofs.ReadBack.{free_runs_are_read_back}
use Rattle.pict_replay.specs.Files.{IsFile, file_text}
use Rattle.pict_replay.proofs.Filing.{one_file}
use Rattle.pict_way.specs.Way.{WaysAreAnswered}

pub ways_are_answered : WaysAreAnswered
ways_are_answered names p places text distinct ordered writable w fits =
    let back = free_runs_are_read_back names p places w.labels w.last distinct ordered w.runs fits in
    let file : IsFile names (file_text names places w.labels) places w.labels
    = record {
      trace = lines_text names w.labels;
      choices_are = record { writable = writable; whole = refl };
      lines_are = back.0;
    } in
    record {
      file = file;
      only = λ others lines f. one_file (file_text names places w.labels) names others places lines w.labels distinct f file;
      agrees = record { last = w.last; runs = w.runs };
    }
