-- Devices of the proof that an object is measured and written: bytes without regard to labels, the numbers that the code holds,
-- and places of labels by their numbers.
use Rattle.std.specs.Prelude.{ℕ, ◌<◌, ◌^◌, FitsSigned, List, slice_get, unwrap_or}
use Rattle.std.specs.Int.{w64}
use Rattle.pict_core.specs.Term.{Val, Vals, Labelled, Var, Int, Record, no_vals, more_vals, no_labelled, more_labelled, Process, Zero, Par, New, Out, In, If}

-- every label at the first place
abbrev pub first_place : ℕ → ℕ
first_place label = 0

-- numbers of the code: levels of 32 bits, and numbers of 64 bits with sign
abbrev mutual
  pub Fit : Val → Type 0
  Fit (Var level) = level < 2 ^ 32
  Fit (Int n) = FitsSigned w64 n
  Fit (Record vs ls) = AreFit vs × FieldsFit ls
  Fit _ = Unit {0}

  pub AreFit : Vals → Type 0
  AreFit no_vals = Unit {0}
  AreFit (more_vals v vs) = Fit v × AreFit vs

  pub FieldsFit : Labelled → Type 0
  FieldsFit no_labelled = Unit {0}
  FieldsFit (more_labelled label v ls) = Fit v × FieldsFit ls

abbrev pub ProcessFits : Process → Type 0
ProcessFits Zero = Unit {0}
ProcessFits (Par p q) = ProcessFits p × ProcessFits q
ProcessFits (New p) = ProcessFits p
ProcessFits (Out chan message at) = Fit chan × Fit message
ProcessFits (In chan replicated pattern body) = Fit chan × ProcessFits body
ProcessFits (If test p q) = Fit test × ProcessFits p × ProcessFits q

-- whatever label it is
abbrev pub Anywhere : ℕ → Type 0
Anywhere label = Unit {0}

-- the places of labels by their numbers
abbrev pub place_at : List ℕ → ℕ → ℕ
place_at places label = unwrap_or (slice_get places label) 0

-- a value that is no record
abbrev pub IsSimple : Val → Type 0
IsSimple (Record vs ls) = ⊥
IsSimple _ = Unit {0}
