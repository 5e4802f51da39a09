use Rattle.std.proofs.Common.{◌≡◌, ◌+◌, map, vec_len}
use Rattle.pict_core.specs.Configuration.{IsConfiguration}
use Rattle.pict_orders.specs.Plain.{configuration_of, place_of}
use Rattle.pict_orders.specs.Settling.{LeadsQuietly}
use Rattle.pict_orders.proofs.state.State.settle.Given as goal

-- each round writes a choice
abbrev pub invariant-loop-round : goal.invariant-loop-round
invariant-loop-round l = record {
  grows : vec_len l.choices ≡ vec_len l.fn.choices + l.round;
  leads : IsConfiguration (configuration_of l.fn.self)
      → LeadsQuietly (map place_of l.fn.choices.items) (configuration_of l.fn.self) (map place_of l.choices.items) (configuration_of l.self);
}
