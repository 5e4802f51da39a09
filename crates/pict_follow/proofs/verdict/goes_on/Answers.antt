-- Each verdict says whether the last token stands.
use Rattle.pict_syntax.specs.Place.{IsPrefix}
use Rattle.pict_syntax.specs.Programs.{programs}
use Rattle.pict_syntax.specs.PlainTrees.{program_of}
use Rattle.pict_syntax.specs.Verdicts.{end_place}
use Rattle.pict_follow.proofs.Last.{of_whole, of_nested, nested_of, unexpected_of, stands, tested, roomless}
use Rattle.pict_follow.proofs.verdict.goes_on.Goals as goal
use Rattle.pict_follow.proofs.verdict.goes_on.Goals.{in-Ok, in-Err-TooNested, in-Err-Unexpected, in-Err-Memory}

pub returns : goal.returns
returns c = elim c.match-parse.branch [
  | in-Ok w ↦ stands (IsPrefix programs c.args.tokens.now) c.match-parse.result w.result-is (of_whole c.args.tokens.now (program_of w.in-Ok.field-0) w.in-Ok.ensures.verdict)
  | in-Err-TooNested w ↦ stands (IsPrefix programs c.args.tokens.now) c.match-parse.result w.result-is
      (of_nested c.args.tokens.now c.args.end w.in-Err-TooNested.field-0-0 c.requires.asked
      (nested_of c.args.tokens.now (end_place c.args.tokens.now c.args.end) w.in-Err-TooNested.field-0 w.in-Err-TooNested.field-0-0 w.in-Err-TooNested.field-0-is w.in-Err-TooNested.ensures.verdict))
  | in-Err-Unexpected w ↦ tested c.args.tokens.now c.args.end w.in-Err-Unexpected.span c.match-parse.result w.result-is c.requires.asked
      (unexpected_of c.args.tokens.now (end_place c.args.tokens.now c.args.end) w.in-Err-Unexpected.field-0 w.in-Err-Unexpected.span w.in-Err-Unexpected.field-0-is w.in-Err-Unexpected.ensures.verdict)
  | in-Err-Memory w ↦ roomless (IsPrefix programs c.args.tokens.now) _ c.match-parse.result w.result-is
]
