-- A value past the variables of another pattern.
use Rattle.std.proofs.Common.{refl, sym, subst, arith}
use Rattle.pict_infer.specs.Beside.{IsMovedPast}
use Rattle.pict_infer.proofs.Beside.{past_none, past_outside, past_inside}
use Rattle.pict_infer.proofs.added.moved_value.Goals as goal

pub returns-then-by-eq0 : goal.returns-then-by-eq0
returns-then-by-eq0 c = λ more h. subst (λ k. IsMovedPast c.args.base k more c.args.v c.args.v) (sym c.if-by-eq0.true) (past_none c.args.base more c.args.v h)

pub returns-then-v-base : goal.returns-then-v-base
returns-then-v-base c = λ more h. past_outside c.args.base c.args.by more c.args.v c.if-v-base.true

pub returns : goal.returns
returns c = λ more h. past_inside c.args.base c.args.by more c.args.v _ (omega arith) h refl (omega arith) c.in_ok-has.ensures
