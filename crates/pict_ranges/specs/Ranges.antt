-- Values within the ranges of the machine, and what steps show of them.
use Rattle.std.specs.Prelude.{ℕ, ◌<◌, ◌≤◌, ◌^◌, FitsSigned, length}
use Rattle.std.specs.Int.{w64}
use Rattle.std.specs.List.{AllByRecursion}
use Rattle.pict_core.specs.Term.{Val, Vals, Labelled, Var, Chan, Int, Char, Boolean, Text, PrimitiveVal, Record, no_vals, more_vals, no_labelled, more_labelled, Process, Zero, Par, New, Out, In, If}
use Rattle.pict_core.specs.Closed.{IsOver}
use Rattle.pict_core.specs.Configuration.{Entry, Configuration}
use Rattle.pict_core.specs.Step.{Label, Quiet, Comm, Print}
use Rattle.pict_syntax.specs.declared.limits.TheConstants.{VALUE_NESTING_LIMIT}
use Rattle.pict_trace.specs.Readable.{AreBytes, nesting}

-- A value of the machine: its integers have 64 bits with sign, its bytes 8 bits, and the length of each of its strings is such an
-- integer. Its variables and channels may be any.
abbrev mutual
  pub IsMachineValue : Val → Type 0
  IsMachineValue (Var level) = Unit {0}
  IsMachineValue (Chan number) = Unit {0}
  IsMachineValue (Int n) = FitsSigned w64 n
  IsMachineValue (Char byte) = byte < 2 ^ 8
  IsMachineValue (Boolean b) = Unit {0}
  IsMachineValue (Text bytes) = AreBytes bytes × (length bytes < 2 ^ 63)
  IsMachineValue (PrimitiveVal p) = Unit {0}
  IsMachineValue (Record vs ls) = AreMachineValues vs × AreMachineFields ls

  pub AreMachineValues : Vals → Type 0
  AreMachineValues no_vals = Unit {0}
  AreMachineValues (more_vals v vs) = IsMachineValue v × AreMachineValues vs

  pub AreMachineFields : Labelled → Type 0
  AreMachineFields no_labelled = Unit {0}
  AreMachineFields (more_labelled label v ls) = IsMachineValue v × AreMachineFields ls

-- A message may also be a string of any length, since two strings of the machine, joined, may be longer than one.
abbrev pub IsMachineMessage : Val → Type 0
IsMachineMessage (Text bytes) = AreBytes bytes
IsMachineMessage v = IsMachineValue v

-- so it is with each value of a process
abbrev pub IsMachineProcess : Process → Type 0
IsMachineProcess Zero = Unit {0}
IsMachineProcess (Par p q) = IsMachineProcess p × IsMachineProcess q
IsMachineProcess (New p) = IsMachineProcess p
IsMachineProcess (Out chan message at) = IsMachineValue chan × IsMachineMessage message
IsMachineProcess (In chan replicated pattern body) = IsMachineValue chan × IsMachineProcess body
IsMachineProcess (If test p q) = IsMachineValue test × IsMachineProcess p × IsMachineProcess q

-- and with each process of a configuration
abbrev pub IsMachineConfiguration : Configuration → Type 0
IsMachineConfiguration C = AllByRecursion (λ (e : Entry). IsMachineProcess e.process) C.entries

-- ---- what steps show

-- no string whose length is no integer of the machine is sent
abbrev pub IsShort : Label → Type 0
IsShort (Comm channel (Text bytes)) = length bytes < 2 ^ 63
IsShort _ = Unit {0}

-- So many channels are there: on one of them a value of the machine is sent whose channels are among them, or bytes are printed.
abbrev pub IsShownAmong : ℕ → Label → Type 0
IsShownAmong channels Quiet = Unit {0}
IsShownAmong channels (Comm channel v) = (channel < channels) × IsOver 0 channels v × IsMachineMessage v
IsShownAmong channels (Print bytes) = AreBytes bytes

-- the label of one of so many steps, where no step makes more than one channel
abbrev pub IsShownWithin : ℕ → ℕ × Label → Type 0
IsShownWithin steps (number, label) = (number ≤ steps) × IsShownAmong steps label

-- the records in the value that is sent nest no deeper than in a line that is read
abbrev pub NestsWithin : ℕ × Label → Type 0
NestsWithin (number, Comm channel v) = nesting v ≤ VALUE_NESTING_LIMIT
NestsWithin (number, _) = Unit {0}
