-- Two applied variables.
use Rattle.std.proofs.Common.{◌≡◌, suc, sym, ◌∙◌, ap, arith}
use Rattle.pict_types.specs.Types.{Operator}
use Rattle.pict_types.specs.Measures.{size, size_types}
use Rattle.pict_types.specs.Plain.{plain, plain_bound, plain_types}
use Rattle.pict_types.proofs.Rows.{apply_is}
use Rattle.pict_sub.proofs.equality.+equal.Goals as goal
use Rattle.pict_types.proofs.Alike.{told_alike}

pub equal_types-returns-then-i-j-clause-answer : goal.equal_types-returns-then-i-j-clause-answer
equal_types-returns-then-i-j-clause-answer g t c =
    let d = apply_is c.args.s.now c.in-Apply-Apply.i c.in-Apply-Apply.ss c.deref-then-i-j.result.now c.in-Apply-Apply.is-0 (c.deref-then-i-j.ensures.value ∙ ap (λ v. v.items) c.deref.ensures) in
    let e = apply_is c.args.t.now c.in-Apply-Apply.j c.in-Apply-Apply.ts c.deref-then-i-j-3.result.now c.in-Apply-Apply.is-1 (c.deref-then-i-j-3.ensures.value ∙ ap (λ v. v.items) c.deref-then-i-j-2.ensures) in
    told_alike (plain c.args.s.now) (plain c.args.t.now) c.in-Apply-Apply.i c.in-Apply-Apply.j _ _ d e c.if-i-j.true c.equal_rows.ensures.answer

pub equal_types-returns-then-i-j-clause-cost : goal.equal_types-returns-then-i-j-clause-cost
equal_types-returns-then-i-j-clause-cost g t c =
    let d = apply_is c.args.s.now c.in-Apply-Apply.i c.in-Apply-Apply.ss c.deref-then-i-j.result.now c.in-Apply-Apply.is-0 (c.deref-then-i-j.ensures.value ∙ ap (λ v. v.items) c.deref.ensures) in
    let h : size (plain c.args.s.now) ≡ suc (size_types (plain_types c.deref-then-i-j.result.now)) = ap size d in
    omega (arith, h, c.equal_rows.ensures.cost, c.tick.ensures.counted)

pub equal_bound-returns-in-Operator-Operator-clause-answer : goal.equal_bound-returns-in-Operator-Operator-clause-answer
equal_bound-returns-in-Operator-Operator-clause-answer g t c =
    let d : plain_bound c.args.b.now ≡ Operator c.deref.result.now = ap plain_bound c.in-Operator-Operator.is-0 ∙ ap Operator (sym c.deref.ensures.value) in
    let e : plain_bound c.args.d.now ≡ Operator c.deref-in-Operator-Operator.result.now = ap plain_bound c.in-Operator-Operator.is-1 ∙ ap Operator (sym c.deref-in-Operator-Operator.ensures.value) in
    (λ h. d ∙ ap Operator (c.equal_marks.ensures.answer.0 h) ∙ sym e, λ h. c.equal_marks.ensures.answer.1 (let z : Operator c.deref.result.now ≡ Operator c.deref-in-Operator-Operator.result.now = sym d ∙ h ∙ e in cc))
