-- The binders of the layer that is open, and those of the layers outside it.
use Rattle.std.specs.Prelude.{List, take, drop}
use Rattle.pict_binders.specs.declared.binders.Binder.{Binder}
use Rattle.pict_scope.specs.declared.layer.Layer.{Layer}

abbrev pub here : Layer → List Binder
here l = take l.count l.binders

abbrev pub outside : Layer → List Binder
outside l = drop l.count l.binders
