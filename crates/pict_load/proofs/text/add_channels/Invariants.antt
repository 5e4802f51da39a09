use Rattle.std.proofs.Common.{◌≡◌, ◌++◌}
use Rattle.pict_load.specs.Text.{channel_lines}
use Rattle.pict_load.proofs.text.add_channels.Given as goal

abbrev pub invariant-loop-place : goal.invariant-loop-place
invariant-loop-place l = l.text.items ≡ l.initial.text.items ++ channel_lines l.number l.place
