-- Each verdict says whether the tokens can go on.
use Rattle.std.proofs.Common.{subst, sym, IfOk, IsTrue, ◌↔◌}
use Rattle.pict_syntax.specs.PlainTrees.{program_of}
use Rattle.pict_syntax.specs.Verdicts.{end_place}
use Rattle.pict_follow.specs.Follow.{CanGoOn, first_end}
use Rattle.pict_follow.proofs.Last.{stands, stands_not, roomless, nested_of, unexpected_of}
use Rattle.pict_follow.proofs.Judged.{whole_goes_on, nested_stops}
use Rattle.pict_follow.proofs.verdict.can_go_on.Goals as goal
use Rattle.pict_follow.proofs.verdict.can_go_on.Goals.{in-Ok, in-Err-TooNested, in-Err-Unexpected, in-Err-Memory}

pub stops_at_end-requires : goal.stops_at_end-requires
stops_at_end-requires c = unexpected_of c.args.tokens.now (end_place c.args.tokens.now first_end) c.in-Err-Unexpected.field-0 c.in-Err-Unexpected.span c.in-Err-Unexpected.field-0-is c.in-Err-Unexpected.ensures.verdict

pub returns : goal.returns
returns c = elim c.match-parse.branch [
  | in-Ok w ↦ stands (CanGoOn c.args.tokens.now) c.match-parse.result w.result-is (whole_goes_on c.args.tokens.now (program_of w.in-Ok.field-0) w.in-Ok.ensures.verdict)
  | in-Err-Unexpected w ↦ subst (λ x. IfOk x (λ b. IsTrue b ↔ CanGoOn c.args.tokens.now)) (sym w.result-is) w.stops_at_end.ensures
  | in-Err-TooNested w ↦ stands_not (CanGoOn c.args.tokens.now) c.match-parse.result w.result-is
      (nested_stops c.args.tokens.now w.in-Err-TooNested.field-0-0
      (nested_of c.args.tokens.now (end_place c.args.tokens.now first_end) w.in-Err-TooNested.field-0 w.in-Err-TooNested.field-0-0 w.in-Err-TooNested.field-0-is w.in-Err-TooNested.ensures.verdict))
  | in-Err-Memory w ↦ roomless (CanGoOn c.args.tokens.now) _ c.match-parse.result w.result-is
]
