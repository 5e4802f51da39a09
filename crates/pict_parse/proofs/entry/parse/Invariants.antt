use Rattle.std.proofs.Common.{◌-◌, ◌≤◌, length}
use Rattle.pict_syntax.specs.Verdicts.{end_place}
use Rattle.pict_programs.proofs.Reading.{HasRead}
use Rattle.pict_parse.proofs.entry.parse.Given as goal

abbrev pub invariant-imports : goal.invariant-imports
invariant-imports l = record {
  read : HasRead l.tokens (end_place l.tokens l.end) l.at l.imports.items;
  within : l.at ≤ length l.tokens;
}

abbrev pub decreases-imports : goal.decreases-imports
decreases-imports l = length l.tokens - l.at
