use Rattle.std.proofs.Common.{◌≡◌, ◌+◌, take}
use Rattle.pict_derive.specs.Built.{numbers_of, with_levels}
use Rattle.pict_derive.proofs.parts.bind_all.Given as goal

-- the names so far are bound
abbrev pub invariant-loop-name : goal.invariant-loop-name
invariant-loop-name l = record {
  level : l.level ≡ l.first + l.name-index;
  scope : l.scope ≡ with_levels (numbers_of (take l.name-index l.names)) l.first l.fn.scope;
}
