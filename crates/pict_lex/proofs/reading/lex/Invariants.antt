use Rattle.std.proofs.Common.{length, ◌+◌, ◌-◌, ◌^◌, ◌<◌, ◌≤◌}
use Rattle.pict_lex.specs.Steps.{HasRead}
use Rattle.pict_lex.proofs.reading.lex.Given as goal

-- the text is read up to here; each byte makes at most one token and one name
abbrev pub invariant-pieces : goal.invariant-pieces
invariant-pieces l = record {
  read : HasRead l.fn.names l.names l.number l.text l.at l.tokens.items;
  within : l.at ≤ length l.text;
  few : length l.tokens.items ≤ l.at;
  gained : length l.names ≤ length l.fn.names + l.at;
  room : length l.names + (length l.text - l.at) < 2 ^ 32;
}

abbrev pub decreases-pieces : goal.decreases-pieces
decreases-pieces l = length l.text - l.at
