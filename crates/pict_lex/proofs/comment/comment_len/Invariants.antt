use Rattle.std.proofs.Common.{length, ◌-◌, ◌≤◌}
use Rattle.pict_lex.proofs.BracketLemmas.{IsSearching}
use Rattle.pict_lex.proofs.comment.comment_len.Given as goal

-- from here the open comments close where the comment ends
abbrev pub invariant-inside : goal.invariant-inside
invariant-inside l = record { within : l.at ≤ length l.rest; deep : l.depth ≤ l.at; searching : IsSearching l.rest l.at l.depth }

abbrev pub decreases-inside : goal.decreases-inside
decreases-inside l = length l.rest - l.at
