-- The arguments of an operator variable, and labelled fields.
use Rattle.std.proofs.Common.{◌≡◌, suc, ◌∙◌, ap, arith}
use Rattle.pict_types.specs.Measures.{size, size_types}
use Rattle.pict_types.specs.Plain.{plain, plain_types}
use Rattle.pict_types.proofs.Rows.{apply_is}
use Rattle.pict_types.proofs.Items.{label_size}
use Rattle.pict_types.proofs.prints.+prints.Goals as goal

pub print_type-print_types-requires : goal.print_type-print_types-requires
print_type-print_types-requires t c =
    let e = apply_is c.args.t.now c.in-Apply.i c.in-Apply.ts c.deref-in-Apply.result.now c.in-Apply.is (c.deref-in-Apply.ensures.value ∙ ap (λ v. v.items) c.deref.ensures) in
    let h : size (plain c.args.t.now) ≡ suc (size_types (plain_types c.deref-in-Apply.result.now)) = ap size e in
    (omega (arith, h), tt)

pub print_labels-print_type-requires : goal.print_labels-print_type-requires
print_labels-print_type-requires t c =
    (omega (arith, label_size c.args.ls.now c.loop-l.l-index c.l-item.result c.loop-l-test.true c.l-item.is), tt)
