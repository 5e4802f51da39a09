-- What a call did to a sink: before and after. Where the sink doesn't tell its bytes nothing is said of them.
use Rattle.std.specs.Prelude.{ℕ, List, Option}
use Rattle.std.specs.Io.KnownBytes.{Appends, Keeps}
use Rattle.pict_outside.specs.Counts.{Rose}
use Rattle.pict_outside.specs.Bytes.{AppendsFront}

-- a sink before and after a call
pub record SinkChange : Type 0 where
  pub old_taken : Option (List ℕ)
  pub new_taken : Option (List ℕ)
  pub old_faults : ℕ
  pub new_faults : ℕ

-- the change of a sink, by its meanings
abbrev pub change_of : {S : Type 0} → (S → Option (List ℕ)) → (S → ℕ) → S → S → SinkChange
change_of taken faults old new = record { old_taken = taken old; new_taken = taken new; old_faults = faults old; new_faults = faults new }

-- it has gained nothing
abbrev pub Untouched : SinkChange → Type 0
Untouched c = Keeps c.old_taken c.new_taken

-- it has gained these bytes, all of them and nothing else
abbrev pub Gained : SinkChange → List ℕ → Type 0
Gained c bytes = Appends c.old_taken c.new_taken bytes

-- it has gained a beginning of these bytes
abbrev pub GainedFront : SinkChange → List ℕ → Type 0
GainedFront c bytes = AppendsFront c.old_taken c.new_taken bytes

-- its count of faults rose
abbrev pub Failed : SinkChange → Type 0
Failed c = Rose c.old_faults c.new_faults

-- it has gained a beginning of these bytes, and failed
pub record FailedWithin (c : SinkChange) (bytes : List ℕ) : Type 0 where
  pub part : GainedFront c bytes
  pub failed : Failed c
