-- Where no variable changes, the type stays as it is.
use Rattle.std.proofs.Common.{◌≡◌, sym, ◌∙◌, subst}
use Rattle.std.specs.Prelude.{IfOk}
use Rattle.pict_types.specs.Plain.{plain}
use Rattle.pict_types.specs.Renumbering.{renumbered}
use Rattle.pict_types.proofs.Mentioned.{inner_renamed}
use Rattle.pict_types.proofs.renumber.renumber_type.Goals as goal

pub returns : goal.returns
returns c =
    let same = inner_renamed (renumbered c.args.how) c.args.from (plain c.args.t.now) (sym c.in_ok-changes.ensures ∙ c.if-changes.false) in
    subst (λ u. IfOk c.copy.result (λ x. plain x ≡ u)) (sym same) c.copy.ensures.same
