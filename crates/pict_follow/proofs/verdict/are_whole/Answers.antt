-- Each verdict says whether the tokens are whole.
use Rattle.std.proofs.Common.{subst}
use Rattle.pict_syntax.specs.Programs.{Program}
use Rattle.pict_syntax.specs.PlainTrees.{program_of}
use Rattle.pict_parse.specs.Answers.{refused}
use Rattle.pict_follow.specs.Follow.{AreWhole, first_end}
use Rattle.pict_follow.proofs.Last.{stands, stands_not, roomless}
use Rattle.pict_follow.proofs.Judged.{Only, not_whole_unexpected, not_whole_nested}
use Rattle.pict_follow.proofs.verdict.are_whole.Goals as goal
use Rattle.pict_follow.proofs.verdict.are_whole.Goals.{in-Ok, in-Err-TooNested, in-Err-Unexpected, in-Err-Memory}

pub returns : goal.returns
returns c = elim c.match-parse.branch [
  | in-Ok w ↦ stands (AreWhole c.args.tokens.now) c.match-parse.result w.result-is (program_of w.in-Ok.field-0, w.in-Ok.ensures.verdict)
  | in-Err-Unexpected w ↦ stands_not (AreWhole c.args.tokens.now) c.match-parse.result w.result-is
      (not_whole_unexpected c.args.tokens.now first_end w.in-Err-Unexpected.field-0-0
      (subst (λ e. Only c.args.tokens.now first_end (refused {A = Program} e)) w.in-Err-Unexpected.field-0-is w.in-Err-Unexpected.ensures.exact))
  | in-Err-TooNested w ↦ stands_not (AreWhole c.args.tokens.now) c.match-parse.result w.result-is
      (not_whole_nested c.args.tokens.now first_end w.in-Err-TooNested.field-0-0
      (subst (λ e. Only c.args.tokens.now first_end (refused {A = Program} e)) w.in-Err-TooNested.field-0-is w.in-Err-TooNested.ensures.exact))
  | in-Err-Memory w ↦ roomless (AreWhole c.args.tokens.now) _ c.match-parse.result w.result-is
]
