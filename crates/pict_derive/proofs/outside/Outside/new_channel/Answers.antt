-- One layer more, and one variable more.
use Rattle.std.proofs.Common.{◌∙◌, ap, sym}
use Rattle.pict_core.specs.Term.{New, Var}
use Rattle.pict_derive.specs.Layers.{around}
use Rattle.pict_derive.specs.Built.{layers_of}
use Rattle.pict_derive.specs.declared.outside.Layer.TheVariants as layer
use Rattle.pict_derive.proofs.Surrounding.{more_layers}
use Rattle.pict_derive.proofs.outside.Outside.new_channel.Goals as goal

pub returns-clause-core : goal.returns-clause-core
returns-clause-core c f =
    let o = c.args.self.now in
    sym (more_layers o.layers.items c.push.new.self.items layer.New _ c.in_ok-push.ensures.items ∙ ap (λ n. around (layers_of o.layers.items) (New (f (Var o.depth) n))) c.in_ok-inside.ensures)
