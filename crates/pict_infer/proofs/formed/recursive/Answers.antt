-- A recursive type, and any other.
use Rattle.std.proofs.Common.{sym, ◌∙◌}
use Rattle.pict_types.specs.Plain.{plain}
use Rattle.pict_infer.proofs.Forming.{recursive_yes, recursive_no}
use Rattle.pict_infer.proofs.formed.recursive.Goals as goal

pub returns-then-is_recursive : goal.returns-then-is_recursive
returns-then-is_recursive c = recursive_yes (plain c.args.t.now) c.args.span (sym c.is_recursive.ensures ∙ c.if-is_recursive.true)

pub returns : goal.returns
returns c = recursive_no (plain c.args.t.now) c.args.span (sym c.is_recursive.ensures ∙ c.if-is_recursive.false)
