-- No variable is added.
use Rattle.std.proofs.Common.{sym, ◌∙◌}
use Rattle.pict_types.specs.Plain.{plain}
use Rattle.pict_lines.proofs.Answering.{past_none}
use Rattle.pict_lines.proofs.answers.past_added.Goals as goal

pub returns-then-by-eq0 : goal.returns-then-by-eq0
returns-then-by-eq0 c = past_none _ (plain c.args.t.now) (sym c.in_ok-by.ensures ∙ c.if-by-eq0.true)
