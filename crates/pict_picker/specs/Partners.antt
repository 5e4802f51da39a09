-- At which channel a process stands, and on which side.
use Rattle.std.specs.Prelude.{ℕ, Bool, true, false, Option, Some, None, option_map}
use Rattle.pict_core.specs.Term.{Val, Process, Out, In, Chan}
use Rattle.pict_code.specs.Instruction as op
use Rattle.pict_code.specs.Instruction.{Op}
use Rattle.pict_view.specs.Partners.{is_input, is_output}
use Rattle.pict_desk.specs.AtHand.{channel_named}

-- the channel of an output, which sends, or of an input, which doesn't
abbrev pub stands_at : Process → Option (ℕ × Bool)
stands_at (Out (Chan c) message at) = Some (c, true)
stands_at (In (Chan c) replicated pattern body) = Some (c, false)
stands_at _ = None

-- the channel alone
abbrev pub channel_in : Option (ℕ × Bool) → Option ℕ
channel_in stands = option_map (λ (s : ℕ × Bool). s.0) stands

-- the same of a node with this instruction, where its operand has the value that is told
abbrev pub stands_by : (Val → Val) → Op → Option (ℕ × Bool)
stands_by value (op.Out chan message at) = option_map (λ c. (c, true)) (channel_named (value chan))
stands_by value (op.In chan pattern part) = option_map (λ c. (c, false)) (channel_named (value chan))
stands_by value (op.Serve chan pattern part) = option_map (λ c. (c, false)) (channel_named (value chan))
stands_by value _ = None

-- whether a process is a partner of one that sends, or of one that doesn't
abbrev pub is_partner_of : Bool → Process → Bool
is_partner_of true = is_input
is_partner_of false = is_output
