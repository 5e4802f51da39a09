-- The nearest value of the name, or else the primitive.
use Rattle.std.proofs.Common.{◌≡◌, ◌-◌, length, get_or, None, sym, ◌∙◌, ap, arith}
use Rattle.std.proofs.lemmas.Result.{IfOk-weaker}
use Rattle.pict_syntax.specs.Names.{text_of}
use Rattle.pict_types.specs.Plain.{plain}
use Rattle.pict_types.specs.PlainContext.{names_of, type_context}
use Rattle.pict_types.specs.Renaming.{moved, rename}
use Rattle.pict_rules.specs.Environments.{type_or_primitive, type_of_use}
use Rattle.pict_infer.specs.Environments.{environment_of}
use Rattle.pict_infer.specs.declared.known.Known.{Known}
use Rattle.pict_infer.proofs.Uses.{depth_within, level_inside, nearest_value, no_value}
use Rattle.pict_infer.proofs.env.Env.type_of_use.Goals as goal

pub index-known-requires : goal.index-known-requires
index-known-requires c =
    let s = c.args.self.now in
    let inside = level_inside s.values.items s.names c.args.name.0 c.in-Some.level s.named (sym c.level.ensures ∙ c.in-Some.is) in
    omega (arith, inside, s.values.ok.0)

pub overflow_sub-variables : goal.overflow_sub-variables
overflow_sub-variables c =
    let s = c.args.self.now in
    let v = c.index-known.result.now in
    let inside = level_inside s.values.items s.names c.args.name.0 c.in-Some.level s.named (sym c.level.ensures ∙ c.in-Some.is) in
    let same : v.depth ≡ (get_or s.values.items c.in-Some.level v).depth = ap (λ (w : Known). w.depth) c.index-known.ensures in
    omega (arith, same, depth_within s.values.items c.in-Some.level v inside, s.placed, c.variables.ensures.count)

pub returns-in-None : goal.returns-in-None
returns-in-None c =
    let s = c.args.self.now in
    let n = c.args.name.0 in
    let k = length (type_context s.context) in
    IfOk-weaker c.primitive_use.result (λ t. plain t ≡ type_or_primitive None c.text.result.now) (λ t. plain t ≡ type_of_use (environment_of s) n)
    (λ t p.
    p ∙ ap (type_or_primitive None) (c.text.ensures.text ∙ ap (λ z. text_of z n) c.names.ensures.same)
    ∙ sym (ap (λ o. type_or_primitive o (text_of (names_of s.context) n)) (no_value k s.values.items s.names n s.named (sym c.level.ensures ∙ c.in-None.is))))
    c.primitive_use.ensures

pub returns-in-Some : goal.returns-in-Some
returns-in-Some c =
    let s = c.args.self.now in
    let n = c.args.name.0 in
    let k = length (type_context s.context) in
    let v = c.index-known.result.now in
    IfOk-weaker c.shift_type.result (λ t. plain t ≡ rename (moved (c.variables.result - v.depth) 0) (plain v.has)) (λ t. plain t ≡ type_of_use (environment_of s) n)
    (λ t p.
    p ∙ ap (λ m. rename (moved (m - v.depth) 0) (plain v.has)) c.variables.ensures.count
    ∙ sym (ap (λ o. type_or_primitive o (text_of (names_of s.context) n)) (nearest_value k s.values.items s.names n c.in-Some.level v s.named (sym c.level.ensures ∙ c.in-Some.is) c.index-known.ensures)))
    c.shift_type.ensures
