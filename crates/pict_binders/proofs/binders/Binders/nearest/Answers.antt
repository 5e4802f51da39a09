-- The number of the nearest binder, by its level.
use Rattle.std.proofs.Common.{rules, ◌≡◌, ◌∙◌, sym, ap, length, get_or, Some, None, arith}
use Rattle.pict_binders.specs.Names.{level_of}
use Rattle.pict_binders.proofs.Places.{level_below}
use Rattle.pict_binders.specs.Numbered.{nearest}
use Rattle.pict_binders.specs.Numbered.{numbered}
use Rattle.pict_binders.proofs.Numbers.{nearest_none, nearest_some}
use Rattle.pict_binders.proofs.binders.Binders.nearest.Goals as goal

pub bounds-numbers-level : goal.bounds-numbers-level
bounds-numbers-level c =
    let i = c.self.inside in
    let h : level_of i.names c.args.name.0 ≡ Some c.in-Some.level = search rules in
    let m : length c.as_slice-numbers.result.now ≡ length i.numbers.items = ap length c.as_slice-numbers.ensures.value in
    omega (arith, level_below i.names c.args.name.0 c.in-Some.level h, c.self.invariant, m)

pub returns-in-None : goal.returns-in-None
returns-in-None c =
    let i = c.self.inside in
    let view : numbered i.numbers.items i.names ≡ c.args.self.now = search rules in
    let h : level_of i.names c.args.name.0 ≡ None = search rules in
    sym (ap (λ bs. nearest bs c.args.name.0) (sym view) ∙ nearest_none i.numbers.items i.names c.args.name.0 h)

pub returns-in-Some : goal.returns-in-Some
returns-in-Some c =
    let i = c.self.inside in
    let view : numbered i.numbers.items i.names ≡ c.args.self.now = search rules in
    let h : level_of i.names c.args.name.0 ≡ Some c.in-Some.level = search rules in
    let items : c.as_slice-numbers.result.now ≡ i.numbers.items = c.as_slice-numbers.ensures.value in
    ap (λ ns. Some (get_or ns c.in-Some.level 0)) items ∙ sym (ap (λ bs. nearest bs c.args.name.0) (sym view) ∙ nearest_some i.numbers.items i.names c.args.name.0 c.in-Some.level h)
