-- The arguments that are lent are those of the type.
use Rattle.std.proofs.Common.{◌∙◌, ap}
use Rattle.pict_types.proofs.Rows.{apply_is}
use Rattle.pict_sub.proofs.shape.as_applied.Goals as goal

pub returns-in-Apply-clause-some : goal.returns-in-Apply-clause-some
returns-in-Apply-clause-some c = apply_is c.args.t.now c.in-Apply.i c.in-Apply.ts c.deref-in-Apply.result.now c.in-Apply.is (c.deref-in-Apply.ensures.value ∙ ap (λ v. v.items) c.deref.ensures)
