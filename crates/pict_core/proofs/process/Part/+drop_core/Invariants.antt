use Rattle.std.proofs.Common.{◌≤◌}
use Rattle.pict_core.specs.declared.process.Core.{size-Core}
use Rattle.pict_core.proofs.process.Part.+drop_core.Given as goal

-- the process gets smaller
abbrev pub invariant-parts : goal.invariant-parts
invariant-parts l = size-Core l.self.inner.value ≤ size-Core l.fn.self.inner.value
