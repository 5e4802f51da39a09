-- The place of a name among the binders is its place among the names.
use Rattle.std.proofs.Common.{rules, ◌≡◌, ◌∙◌, sym, ap}
use Rattle.pict_binders.specs.Names.{place_of}
use Rattle.pict_binders.specs.Numbered.{numbered, names_of}
use Rattle.pict_binders.proofs.Numbers.{names_numbered}
use Rattle.pict_binders.proofs.binders.Binders.place.Goals as goal

pub returns : goal.returns
returns c =
    let i = c.self.inside in
    let view : numbered i.numbers.items i.names ≡ c.args.self.now = search rules in
    let n : c.place.result ≡ place_of i.names c.args.name.0 = search rules in
    n ∙ ap (λ ns. place_of ns c.args.name.0) (sym (names_numbered i.numbers.items i.names) ∙ ap names_of view)
