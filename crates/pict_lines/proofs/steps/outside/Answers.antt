-- The type mentions one of the variables, or none.
use Rattle.std.proofs.Common.{sym, ◌∙◌}
use Rattle.pict_types.specs.Plain.{plain}
use Rattle.pict_lines.proofs.Stepping.{lowered_none, outside_no, outside_yes}
use Rattle.pict_lines.proofs.steps.outside.Goals as goal

pub returns-then-branch : goal.returns-then-branch
returns-then-branch c = outside_no c.args.count (plain c.args.t) c.args.span (sym c.in_ok-mentions.ensures ∙ c.if-branch.true)

pub returns-then-count-eq0 : goal.returns-then-count-eq0
returns-then-count-eq0 c =
    outside_yes c.args.count (plain c.args.t) (plain c.args.t) c.args.span (sym c.in_ok-mentions.ensures ∙ c.if-branch.false) (lowered_none c.args.count (plain c.args.t) c.if-count-eq0.true)

pub returns : goal.returns
returns c =
    outside_yes c.args.count (plain c.args.t) (plain c.in_ok-lower_type.field-0) c.args.span (sym c.in_ok-mentions.ensures ∙ c.if-branch.false) c.in_ok-lower_type.ensures
