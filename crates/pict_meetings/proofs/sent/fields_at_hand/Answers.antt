use Rattle.std.proofs.Common.{ℕ, ◌<◌, ◌≡◌, List, [], ◌∷◌, length, refl, sym, ap, ◌∙◌, subst, arith, IfSome}
use Rattle.pict_syntax.specs.declared.name.Name.{Name}
use Rattle.pict_core.specs.declared.value.CoreVal.{CoreVal}
use Rattle.pict_core.specs.Term.{no_labelled}
use Rattle.pict_heap.specs.HeapState.{HeapState}
use Rattle.pict_desk.specs.Arguments.{argument_of}
use Rattle.pict_desk.proofs.Reckoning.{labels_of, made_argument}
use Rattle.pict_meetings.specs.Sent.{IsSentFor}
use Rattle.pict_meetings.proofs.sent.fields_at_hand.Goals as goal

no_labels : (h : HeapState) (values : List (ℕ × ℕ)) (fields : List (Name × CoreVal)) → ¬ (0 < length fields) → labels_of h values fields ≡ no_labelled
no_labels h values [] none = refl
no_labels h values (x ∷ xs) none = absurd (none (omega arith))

pub returns-else-len-gt0 : goal.returns-else-len-gt0
returns-else-len-gt0 c h pairs =
    let values = c.args.values.now in
    let x = c.in-Fields in
    let is = made_argument h values c.args.operand.now x.positional x.labelled c.deref.result.now x.is c.deref.ensures.value
    ∙ ap (argument_of h values c.deref.result.now) (no_labels h values x.labelled.items (let len = c.len.ensures in let low = c.if-len-gt0.false in λ some. absurd (omega (arith, len, low, some)))) in
    subst (λ v. IfSome c.fields_of.result (IsSentFor h v)) (sym is) (c.fields_of.ensures h pairs)
