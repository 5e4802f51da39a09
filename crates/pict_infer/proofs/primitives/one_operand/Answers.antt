-- The fields are the operand and the channel.
use Rattle.std.proofs.Common.{◌≡◌, ◌∙◌, ap, subst}
use Rattle.std.specs.Prelude.{IfOk}
use Rattle.pict_types.specs.Plain.{plain, plain_types}
use Rattle.pict_types.specs.Types.{Fields, no_bound, no_label, no_type, types}
use Rattle.pict_infer.proofs.RecordTypes.{two_items}
use Rattle.pict_infer.proofs.primitives.one_operand.Goals as goal

pub returns : goal.returns
returns c =
    let same = ap (λ z. Fields no_bound (plain_types z) no_label) (two_items _ _ _ _ _ c.new-positional.ensures.items c.in_ok-push.ensures.items c.in_ok-push-2.ensures.items)
    ∙ ap (λ u. Fields no_bound (types (plain c.args.s) (types u no_type)) no_label) c.in_ok-answer.ensures in
    subst (λ u. IfOk c.record_of.result (λ t. plain t ≡ u)) same c.record_of.ensures
