-- Nothing is lowered by no variable.
use Rattle.std.proofs.Common.{◌≡◌, ℕ, ◌-◌, sym, ◌∙◌, ap, subst, arith}
use Rattle.std.specs.Prelude.{IfOk}
use Rattle.pict_types.specs.Plain.{plain}
use Rattle.pict_types.specs.Mentions.{lowered}
use Rattle.pict_types.specs.Types.{PlainType}
use Rattle.pict_types.proofs.Renamed.{rename_same}
use Rattle.pict_types.proofs.shift.lower_type.Goals as goal

not_lowered : (t : PlainType) → lowered 0 t ≡ t
not_lowered t = rename_same {f = λ i. i - 0} t (record { each = λ i. stays i })
  where
    stays : (i : ℕ) → i - 0 ≡ i
    stays i = omega arith

pub returns-then-by-eq0 : goal.returns-then-by-eq0
returns-then-by-eq0 c =
    let t = plain c.args.t.now in
    let same : lowered c.args.by t ≡ t = ap (λ k. lowered k t) c.if-by-eq0.true ∙ not_lowered t in
    subst (λ u. IfOk c.copy.result (λ x. plain x ≡ u)) (sym same) c.copy.ensures.same
