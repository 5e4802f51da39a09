-- How many operands an instruction has: an output two, an input and a conditional one, all others none.
use Rattle.pict_code.specs.Instruction.{Op, Zero, Par, New, In, Serve, If}

abbrev pub HasNoOperand : Op → Type 0
HasNoOperand Zero = Unit {0}
HasNoOperand (Par left right) = Unit {0}
HasNoOperand (New level part) = Unit {0}
HasNoOperand _ = ⊥

abbrev pub HasOneOperand : Op → Type 0
HasOneOperand (In chan pattern part) = Unit {0}
HasOneOperand (Serve chan pattern part) = Unit {0}
HasOneOperand (If test left right) = Unit {0}
HasOneOperand _ = ⊥
