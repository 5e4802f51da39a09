-- Nothing moves past no variable.
use Rattle.std.proofs.Common.{◌≡◌, sym, ◌∙◌, ap, subst}
use Rattle.std.specs.Prelude.{IfOk}
use Rattle.pict_types.specs.Plain.{plain}
use Rattle.pict_types.specs.Renaming.{moved, rename}
use Rattle.pict_types.proofs.Past.{not_moved}
use Rattle.pict_types.proofs.shift.shift_type.Goals as goal

pub returns-then-by-eq0 : goal.returns-then-by-eq0
returns-then-by-eq0 c =
    let t = plain c.args.t.now in
    let same = ap (λ k. rename (moved k c.args.from) t) c.if-by-eq0.true ∙ not_moved c.args.from t in
    subst (λ u. IfOk c.copy.result (λ x. plain x ≡ u)) (sym same) c.copy.ensures.same
