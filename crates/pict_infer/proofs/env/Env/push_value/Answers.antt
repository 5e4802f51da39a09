-- One value more.
use Rattle.std.proofs.Common.{◌≡◌, ◌++◌, ◌∷◌, [], length, refl, sym, ◌∙◌, ap, arith}
use Rattle.pict_types.specs.PlainContext.{names_of, plain_context, type_context}
use Rattle.pict_infer.specs.declared.known.Known.{Known}
use Rattle.pict_infer.specs.Knowing.{deepest, known_values, names_known}
use Rattle.pict_infer.proofs.Depths.{deepest_one, names_more, values_more}
use Rattle.pict_infer.proofs.Beside.{value_here}
use Rattle.pict_infer.proofs.Growing.{environment}
use Rattle.pict_infer.proofs.env.Env.push_value.Goals as goal

pub invariant_of-self-2-clause-named : goal.invariant_of-self-2-clause-named
invariant_of-self-2-clause-named c =
    let s = c.args.self.now in
    let v : Known = record { name = c.args.id.name; depth = c.variables-depth.result; has = c.args.has } in
    let items = c.push_reserved.ensures.items ∙ ap (λ z. z ++ v ∷ []) c.reserve.ensures.items in
    c.in_ok-bind.ensures.ok ∙ ap (λ z. c.args.id.name.0 ∷ z) s.named ∙ sym (ap names_known items ∙ names_more s.values.items v)

pub invariant_of-self-2-clause-placed : goal.invariant_of-self-2-clause-placed
invariant_of-self-2-clause-placed c =
    let s = c.args.self.now in
    let v : Known = record { name = c.args.id.name; depth = c.variables-depth.result; has = c.args.has } in
    let items = c.push_reserved.ensures.items ∙ ap (λ z. z ++ v ∷ []) c.reserve.ensures.items in
    let d : deepest c.push_reserved.new.self.items ≡ deepest (s.values.items ++ v ∷ []) = ap deepest items in
    omega (arith, d, deepest_one s.values.items v, s.placed, c.variables-depth.ensures.count)

pub returns-clause-known : goal.returns-clause-known
returns-clause-known c =
    let s = c.args.self.now in
    let v : Known = record { name = c.args.id.name; depth = c.variables-depth.result; has = c.args.has } in
    let n = length (type_context s.context) in
    let items = c.push_reserved.ensures.items ∙ ap (λ z. z ++ v ∷ []) c.reserve.ensures.items in
    environment (names_of s.context) (names_of s.context) (plain_context s.context) (plain_context s.context) _ _ refl refl
    (ap (known_values n) items ∙ values_more n s.values.items v ∙ ap (λ z. z ∷ known_values n s.values.items) (value_here n v c.variables-depth.ensures.count))

pub returns-clause-grew : goal.returns-clause-grew
returns-clause-grew c =
    let s = c.args.self.now in
    let v : Known = record { name = c.args.id.name; depth = c.variables-depth.result; has = c.args.has } in
    let items = c.push_reserved.ensures.items ∙ ap (λ z. z ++ v ∷ []) c.reserve.ensures.items in
    record { texts = refl; inner = []; entries = refl; nearer = v ∷ []; values = items }
