-- An input is one still where queues worked, or room was made, before; and instructions that are no inputs.
use Rattle.std.proofs.Common.{ℕ, Bool, false, ◌≡◌, List, map, get_or, refl, sym, ap, ◌∙◌}
use Rattle.pict_core.specs.Term.{Val, Process}
use Rattle.pict_code.specs.Instruction as plain
use Rattle.pict_code.specs.Plain.{plain_node, plain_op}
use Rattle.pict_core.specs.declared.value.CoreVal.{CoreVal}
use Rattle.pict_code.specs.declared.instruction.Node.{Node}
use Rattle.pict_code.specs.declared.instruction.Op as written
use Rattle.pict_code.specs.declared.instruction.Op.TheVariants as op
use Rattle.pict_code.specs.declared.pattern.CodePat as written_pattern
use Rattle.pict_meetings.specs.Serving.{IsInputWith}
use Rattle.pict_queue.specs.QueuesState.{QueuesState}
use Rattle.pict_blocks.specs.Writing.{OnlyWorks}
use Rattle.pict_code.specs.Instruction.{Op, CodePat}
use Rattle.pict_code.specs.Nodes.{input_op}
use Rattle.pict_meetings.specs.Partners.{Receives}
use Rattle.pict_desk.specs.Known.{operand_value}
use Rattle.pict_turns.specs.Reserving.{OnlyReserves}
use Rattle.pict_turns.specs.declared.store.Store.{Store}
use Rattle.pict_turns.proofs.Room.{acts_still, known_still}
use Rattle.pict_turns.proofs.Passing.{acts_worked, op_read}

pub receives_worked : (core : Process) (s : Store) (queues : QueuesState) (channel : ℕ) (replicated : Bool) (pattern : CodePat) (part : ℕ) → OnlyWorks s.queues queues
    → Receives core s channel replicated pattern part → Receives core (record s { queues = queues }) channel replicated pattern part
receives_worked core s queues channel replicated pattern part works x =
    record { closed = x.closed; chan = x.chan; acts = acts_worked core s queues (input_op replicated x.chan pattern part) works x.acts; from = x.from }

pub receives_reserved : (core : Process) (old new : Store) → OnlyReserves old new → (channel : ℕ) (replicated : Bool) (pattern : CodePat) (part : ℕ)
    → Receives core old channel replicated pattern part → Receives core new channel replicated pattern part
receives_reserved core old new r channel replicated pattern part x = record {
  closed = x.closed;
  chan = x.chan;
  acts = acts_still core old new r (input_op replicated x.chan pattern part) x.acts;
  from = ap (λ (known : ℕ → Val). operand_value known x.chan) (known_still core old new r) ∙ x.from;
}

-- an instruction that isn't an input, or is a replicated one
other_op : (o : written.Op) (chan : Val) (pattern : CodePat) (part : ℕ) → plain_op o ≡ plain.In chan pattern part
    → ((x : CoreVal) (y : written_pattern.CodePat) (z : ℕ) → ¬ (o ≡ op.In x y z)) → ⊥
other_op op.Zero chan pattern part e not_in = cc
other_op (op.Par l r) chan pattern part e not_in = cc
other_op (op.New l r) chan pattern part e not_in = cc
other_op (op.Out x y at) chan pattern part e not_in = cc
other_op (op.If t l r) chan pattern part e not_in = cc
other_op (op.Serve x y z) chan pattern part e not_in = cc
other_op (op.In x y z) chan pattern part e not_in = not_in x y z refl

pub no_plain_input : (code : List Node) (number : ℕ) (node : Node) → node ≡ get_or code number node → (pattern : CodePat) (part : ℕ) → IsInputWith (map plain_node code) number false pattern part
    → ((x : CoreVal) (y : written_pattern.CodePat) (z : ℕ) → ¬ ((get_or code number node).op ≡ op.In x y z)) → ⊥
no_plain_input code number node is pattern part i not_in =
    other_op (get_or code number node).op i.chan pattern part (sym (op_read code number node i.node i.at is) ∙ i.is) not_in
