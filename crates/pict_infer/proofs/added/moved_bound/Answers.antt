-- Nothing moves past no variable.
use Rattle.std.proofs.Common.{sym, ◌∙◌, ap}
use Rattle.pict_types.specs.Plain.{plain_bound}
use Rattle.pict_types.specs.Renaming.{moved, rename_bound}
use Rattle.pict_infer.proofs.Depths.{bound_unmoved}
use Rattle.pict_infer.proofs.added.moved_bound.Goals as goal

pub returns-then-by-eq0 : goal.returns-then-by-eq0
returns-then-by-eq0 c =
    sym (ap (λ n. rename_bound (moved n c.args.from) (plain_bound c.args.b)) c.if-by-eq0.true ∙ bound_unmoved c.args.from (plain_bound c.args.b))
