-- Applied variables.
use Rattle.std.proofs.Common.{◌≡◌, suc, not, ◌∙◌, sym, ap, arith}
use Rattle.pict_types.specs.Measures.{size, size_types}
use Rattle.pict_types.specs.Plain.{plain, plain_types}
use Rattle.pict_types.specs.Variance.{goes, arguments_go}
use Rattle.pict_types.specs.Bodies.{body_context, seen, way_of}
use Rattle.pict_types.proofs.Rows.{apply_is}
use Rattle.pict_types.proofs.variance.+goes.Goals as goal

pub type_goes-arguments_go-requires : goal.type_goes-arguments_go-requires
type_goes-arguments_go-requires t c =
    let e = apply_is c.args.t.now c.in-Apply.i c.in-Apply.ts c.deref-in-Some-2.result.now c.in-Apply.is (c.deref-in-Some-2.ensures.value ∙ ap (λ v. v.items) c.deref-in-Some.ensures) in
    let h : size (plain c.args.t.now) ≡ suc (size_types (plain_types c.deref-in-Some-2.result.now)) = ap size e in
    (omega (arith, h), tt)

pub type_goes-returns-in-None : goal.type_goes-returns-in-None
type_goes-returns-in-None t c =
    let ctx = body_context c.args.body.now in
    let x = seen c.args.body.now c.args.x in
    let w = way_of c.args.up in
    let ts = plain_types c.deref-in-None.result.now in
    let e = apply_is c.args.t.now c.in-Apply.i c.in-Apply.ts c.deref-in-None.result.now c.in-Apply.is (c.deref-in-None.ensures.value ∙ ap (λ v. v.items) c.deref.ensures) in
    ap not c.types_have.ensures
    ∙ ap (λ ms. arguments_go w ctx x ms ts) (sym c.in-None.ensures.none)
    ∙ ap (goes w ctx x) (sym e)

pub type_goes-returns-in-Some : goal.type_goes-returns-in-Some
type_goes-returns-in-Some t c =
    let ctx = body_context c.args.body.now in
    let x = seen c.args.body.now c.args.x in
    let w = way_of c.args.up in
    let ts = plain_types c.deref-in-Some-2.result.now in
    let e = apply_is c.args.t.now c.in-Apply.i c.in-Apply.ts c.deref-in-Some-2.result.now c.in-Apply.is (c.deref-in-Some-2.ensures.value ∙ ap (λ v. v.items) c.deref-in-Some.ensures) in
    c.arguments_go.ensures
    ∙ ap (λ ms. arguments_go w ctx x ms ts) (sym c.in-Some.ensures.some)
    ∙ ap (goes w ctx x) (sym e)
