-- The numbers of the statuses, as the process ends with them.
use Rattle.std.specs.Prelude.{ℕ}
use Rattle.pict_top.specs.declared.status.Status.{Status}
use Rattle.pict_top.specs.declared.status.Status.TheVariants.{Done, Refused, Usage, FuelSpent, Trap, ReadFault, WriteFault, Memory, Missing, Misshapen, Rejected}

abbrev pub number_of : Status → ℕ
number_of Done = 0
number_of Refused = 1
number_of Usage = 2
number_of FuelSpent = 3
number_of Trap = 4
number_of ReadFault = 5
number_of WriteFault = 6
number_of Memory = 7
number_of Missing = 8
number_of Misshapen = 9
number_of Rejected = 10
