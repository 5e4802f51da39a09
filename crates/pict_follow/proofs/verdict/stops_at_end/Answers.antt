-- The verdict with another end says which one it was.
use Rattle.std.proofs.Common.{subst}
use Rattle.pict_syntax.specs.Programs.{Program}
use Rattle.pict_syntax.specs.PlainTrees.{program_of}
use Rattle.pict_parse.specs.Answers.{refused}
use Rattle.pict_follow.specs.Follow.{CanGoOn, other_end}
use Rattle.pict_follow.proofs.Last.{stands_not, roomless}
use Rattle.pict_follow.proofs.Judged.{Only, never_whole, never_nested, tested_end}
use Rattle.pict_follow.proofs.verdict.stops_at_end.Goals as goal
use Rattle.pict_follow.proofs.verdict.stops_at_end.Goals.{in-Ok, in-Err-TooNested, in-Err-Unexpected, in-Err-Memory}

pub returns : goal.returns
returns c = elim c.match-parse.branch [
  | in-Ok w ↦ stands_not (CanGoOn c.args.tokens.now) c.match-parse.result w.result-is
      (λ g. never_whole c.args.tokens.now c.args.span (program_of w.in-Ok.field-0) c.requires w.in-Ok.ensures.verdict)
  | in-Err-Unexpected w ↦ tested_end c.args.tokens.now c.args.span w.in-Err-Unexpected.other c.match-parse.result w.result-is
      (subst (λ e. Only c.args.tokens.now other_end (refused {A = Program} e)) w.in-Err-Unexpected.field-0-is w.in-Err-Unexpected.ensures.exact) c.requires
  | in-Err-TooNested w ↦ stands_not (CanGoOn c.args.tokens.now) c.match-parse.result w.result-is
      (λ g. never_nested c.args.tokens.now c.args.span w.in-Err-TooNested.field-0-0 c.requires
      (subst (λ e. Only c.args.tokens.now other_end (refused {A = Program} e)) w.in-Err-TooNested.field-0-is w.in-Err-TooNested.ensures.exact))
  | in-Err-Memory w ↦ roomless (CanGoOn c.args.tokens.now) _ c.match-parse.result w.result-is
]
