-- A name whose nearest binder stands outside.
use Rattle.std.proofs.Common.{rules, ◌≡◌, sym, Some}
use Rattle.pict_binders.specs.Names.{place_of}
use Rattle.pict_binders.specs.Numbered.{names_of}
use Rattle.pict_scope.proofs.Layering.{place_outside}
use Rattle.pict_scope.proofs.layer.Layer.nearest.Goals as goal

pub returns-else-place-self : goal.returns-else-place-self
returns-else-place-self c =
    let l = c.args.self.now in
    let h : place_of (names_of l.binders) c.args.name.0 ≡ Some c.in-Some.place = search rules in
    sym (place_outside l.binders l.count c.args.name.0 c.in-Some.place h c.if-place-self.false)
