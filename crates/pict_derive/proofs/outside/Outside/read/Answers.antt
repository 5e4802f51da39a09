-- One layer more, and the variables of the pattern.
use Rattle.std.proofs.Common.{◌∙◌, ◌+◌, ap, sym, true}
use Rattle.pict_core.specs.Term.{Par, In, Var}
use Rattle.pict_core.specs.Plain.{plain_pat, plain_core}
use Rattle.pict_core.specs.Closed.{binds}
use Rattle.pict_translation.specs.Placed.{variables}
use Rattle.pict_derive.specs.Layers.{around}
use Rattle.pict_derive.specs.Built.{layers_of}
use Rattle.pict_derive.specs.declared.outside.Layer.TheVariants as layer
use Rattle.pict_derive.proofs.Surrounding.{more_layers}
use Rattle.pict_derive.proofs.outside.Outside.read.Goals as goal

pub returns : goal.returns
returns c f s sent at =
    let o = c.args.self.now in
    let p = plain_pat c.args.pattern in
    let vs = variables o.depth (binds p) in
    let rest = f vs in
    sym (more_layers o.layers.items c.push.new.self.items (layer.Reader c.args.chan c.args.pattern c.args.sent) (rest c.args.inside) c.in_ok-push.ensures.items
    ∙ ap (λ n. around (layers_of o.layers.items) (Par (In (Var c.args.chan) true p (rest n)) (plain_core c.args.sent))) at
    ∙ ap (λ q. around (layers_of o.layers.items) (Par (In (Var c.args.chan) true p (rest (o.depth + binds p))) q)) sent)
