use Rattle.std.proofs.Common.{ℕ, ◌<◌, ◌≡◌, length, ap, sym, ◌∙◌, subst}
use Rattle.std.proofs.lemmas.List.{get_or_read}
use Rattle.pict_core.specs.Closed.{IsOver}
use Rattle.pict_core.specs.Plain.{plain_val}
use Rattle.pict_core.specs.Term as term
use Rattle.pict_desk.specs.Known.{pair_at, value_in, known, operand_value}
use Rattle.pict_desk.specs.Pairs.{IsPair}
use Rattle.pict_desk.proofs.Recording.{plain_var}
use Rattle.pict_desk.proofs.kinds.holds.Goals as goal

pub is_true-requires : goal.is_true-requires
is_true-requires c =
    let d = c.args.desk.now in
    let level = c.in-Var.level in
    let value = known d.heap d.values.items in
    let e : plain_val c.args.test.now ≡ term.Var level = ap plain_val c.in-Var.is ∙ plain_var level in
    let inside : level < length d.values.items = subst (IsOver (length d.values.items) 0) e c.requires.over in
    let there : c.index.result.now ≡ pair_at d.values.items level = get_or_read d.values.items level c.index.result.now inside c.index.ensures (0, 0) in
    let b = c.requires.boolean in (
      d.heap,
      b.0,
      subst (IsPair d.heap) (sym there) (c.requires.pairs level),
      ap (λ (p : ℕ × ℕ). value_in d.heap p.0 p.1) there ∙ sym (ap (operand_value value) e) ∙ b.1,
    )

pub returns-in-Var : goal.returns-in-Var
returns-in-Var c =
    let d = c.args.desk.now in
    let level = c.in-Var.level in
    let value = known d.heap d.values.items in
    let e : plain_val c.args.test.now ≡ term.Var level = ap plain_val c.in-Var.is ∙ plain_var level in
    let inside : level < length d.values.items = subst (IsOver (length d.values.items) 0) e c.requires.over in
    let there : c.index.result.now ≡ pair_at d.values.items level = get_or_read d.values.items level c.index.result.now inside c.index.ensures (0, 0) in
    ap (operand_value value) e ∙ sym (ap (λ (p : ℕ × ℕ). value_in d.heap p.0 p.1) there)
    ∙ c.is_true.ensures d.heap (subst (IsPair d.heap) (sym there) (c.requires.pairs level))
