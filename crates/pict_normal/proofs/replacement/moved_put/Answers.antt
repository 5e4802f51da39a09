-- A type that mentions no variable is the same wherever it is moved.
use Rattle.std.proofs.Common.{◌≡◌, subst}
use Rattle.std.specs.Prelude.{IfOk}
use Rattle.pict_types.specs.Plain.{plain}
use Rattle.pict_normal.proofs.Defined.{closed_put}
use Rattle.pict_normal.proofs.replacement.moved_put.Goals as goal

pub returns-then-is_closed_put : goal.returns-then-is_closed_put
returns-then-is_closed_put c =
    subst (λ u. IfOk c.copy.result (λ x. plain x ≡ u))
    (closed_put c.args.puts.now c.args.inner.now c.args.i c.args.by (plain c.args.t.now) c.requires.put (c.is_closed_put.ensures c.if-is_closed_put.true))
    c.copy.ensures.same

pub returns : goal.returns
returns c = subst (λ u. IfOk c.shift_type.result (λ x. plain x ≡ u)) c.requires.put c.shift_type.ensures
