-- A value alone.
use Rattle.std.proofs.Common.{refl, ◌∙◌, ap, ◌++◌, ◌∷◌, []}
use Rattle.pict_infer.specs.declared.known.Known.{Known}
use Rattle.pict_infer.proofs.Beside.{value_alone}
use Rattle.pict_infer.proofs.added.Added.value.Goals as goal

pub returns-clause-value : goal.returns-clause-value
returns-clause-value c =
    let v : Known = record { name = c.args.id.name; depth = c.args.base; has = c.args.has } in
    value_alone c.args.base c.new.result.items c.push.new.self.items v c.new.ensures.items (c.in_ok-push.ensures.items ∙ ap (λ z. z ++ v ∷ []) c.new-values.ensures.items) refl
