use Rattle.std.proofs.Common.{◌≡◌, ◌++◌, ◌+◌, ◌%◌}
use Rattle.pict_load.specs.Text.{lines_below, server_line}
use Rattle.pict_load.proofs.text.add_servers.Given as goal

abbrev pub invariant-loop-place : goal.invariant-loop-place
invariant-loop-place l = l.text.items ≡ l.initial.text.items ++ lines_below (λ j. server_line l.number j ((j + 1) % l.size)) l.place
