use Rattle.std.proofs.Common.{◌≡◌, vec_len}
use Rattle.pict_core.specs.Plain.{plain_core}
use Rattle.pict_derive.specs.Layers.{around}
use Rattle.pict_derive.specs.Built.{layers_of}
use Rattle.pict_derive.proofs.outside.put_around.Given as goal

-- what is left is still to be put around the rest
abbrev pub invariant-loop-layer : goal.invariant-loop-layer
invariant-loop-layer l = around (layers_of l.fn.layers.items) (plain_core l.fn.inner) ≡ around (layers_of l.layers.items) (plain_core l.rest)

abbrev pub decreases-loop-layer : goal.decreases-loop-layer
decreases-loop-layer l = vec_len l.layers
