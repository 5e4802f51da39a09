-- One layer more.
use Rattle.std.proofs.Common.{◌∙◌, ap, sym}
use Rattle.pict_core.specs.Term.{Par}
use Rattle.pict_derive.specs.Layers.{around}
use Rattle.pict_derive.specs.Built.{layers_of}
use Rattle.pict_derive.specs.declared.outside.Layer.TheVariants as layer
use Rattle.pict_derive.proofs.Surrounding.{more_layers}
use Rattle.pict_derive.proofs.outside.Outside.beside.Goals as goal

pub returns-clause-core : goal.returns-clause-core
returns-clause-core c p q is =
    let o = c.args.self.now in
    sym (more_layers o.layers.items c.push.new.self.items (layer.Beside c.args.left) (q o.depth) c.in_ok-push.ensures.items ∙ ap (λ x. around (layers_of o.layers.items) (Par x (q o.depth))) is)
