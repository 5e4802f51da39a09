use Rattle.std.proofs.Common.{ℕ, ◌≡◌, ◌<◌, length}
use Rattle.pict_shared.specs.Alike.{through}
use Rattle.pict_shared.proofs.alike.names_back.Given as goal

abbrev pub invariant-loop-c : goal.invariant-loop-c
invariant-loop-c l = (d : ℕ) → d < l.c → (through l.names d < length l.back) × (through l.back (through l.names d) ≡ d)
