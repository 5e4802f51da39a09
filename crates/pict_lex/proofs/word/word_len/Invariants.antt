use Rattle.std.proofs.Common.{length, ◌-◌, ◌≡◌, ◌<◌, ◌≤◌, ℕ, true, get_or}
use Rattle.pict_syntax.specs.Tokens.{is_word_byte}
use Rattle.pict_lex.proofs.word.word_len.Given as goal

-- the bytes behind the first, so far, are a word's
abbrev pub invariant-loop-len : goal.invariant-loop-len
invariant-loop-len l = record {
  some : 0 < l.len;
  within : l.len ≤ length l.rest;
  word : (k : ℕ) → 0 < k → k < l.len → is_word_byte (get_or l.rest k 0) ≡ true;
}

abbrev pub decreases-loop-len : goal.decreases-loop-len
decreases-loop-len l = length l.rest - l.len
