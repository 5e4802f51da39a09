-- The measures and the fields of a record type.
use Rattle.std.proofs.Common.{◌≡◌, ◌∙◌, ap, arith}
use Rattle.pict_types.specs.Types.{Fields}
use Rattle.pict_types.specs.Plain.{plain_record}
use Rattle.pict_normal.proofs.Making.{row_is}
use Rattle.pict_types.proofs.Rows.{plain_fields}
use Rattle.pict_normal.proofs.made.fields.Goals as goal

three : {A B C D : Type 0} (k : A → B → C → D) {a a' : A} {b b' : B} {c c' : C} → a ≡ a' → b ≡ b' → c ≡ c' → k a b c ≡ k a' b' c'
three k p q r = cc

pub returns-clause-made : goal.returns-clause-made
returns-clause-made c = λ ws hs bs ps ls x y z.
    let is = plain_fields c.in_ok-new.field-0
    ∙ ap plain_record c.in_ok-new.ensures.ok
    ∙ three (λ b p l. plain_record (record { binders = b; positional = p; labelled = l })) c.in-Some.binders-is c.in-Some-items.positional-is c.in-Some-items-2.labelled-is
    ∙ three Fields (row_is c.args.binders c.in-Some.binders x c.in-Some.is) (row_is c.args.positional c.in-Some-items.positional y c.in-Some-items.is) (row_is c.args.labelled c.in-Some-items-2.labelled z c.in-Some-items-2.is) in
    let w = ap (λ m. m.weight) c.in_ok-measures.ensures.same in
    let h' = ap (λ m. m.height) c.in_ok-measures.ensures.same in
    c.new-2.ensures.made ws hs (Fields bs ps ls) is
    (omega (arith, w, c.beside.ensures.weight, c.beside-2.ensures.weight, c.above-together.ensures.weight, x.weight, x.light, y.weight, y.light, z.weight, z.light))
    (omega (arith, h', c.beside.ensures.height, c.beside-2.ensures.height, c.above-together.ensures.height, x.height, x.height_fits, y.height, y.height_fits, z.height, z.height_fits))
