-- The place of a name from its level.
use Rattle.std.proofs.Common.{rules, ◌≡◌, ◌-◌, ◌∙◌, sym, ap, subst, length, Some, None, arith}
use Rattle.pict_binders.specs.Names.{level_of, place_of}
use Rattle.pict_binders.specs.Tables.{names_of}
use Rattle.pict_binders.proofs.Binding.{length_names}
use Rattle.pict_binders.proofs.Places.{level_below, place_none, place_some}
use Rattle.pict_binders.proofs.nearest.Nearest.place.Goals as goal

pub overflow_sub-result-in-Some : goal.overflow_sub-result-in-Some
overflow_sub-result-in-Some c =
    let bs = c.self.inside.binders.items in
    let h : level_of (names_of bs) c.args.name.0 ≡ Some c.in-Some.level = sym (c.self.invariant.table c.args.name.0) ∙ search rules in
    let m : c.len.result ≡ length bs = search rules in
    omega (arith, level_below (names_of bs) c.args.name.0 c.in-Some.level h, length_names bs, m)

pub returns-in-None : goal.returns-in-None
returns-in-None c =
    let bs = c.self.inside.binders.items in
    let h : level_of (names_of bs) c.args.name.0 ≡ None = sym (c.self.invariant.table c.args.name.0) ∙ search rules in
    let view : names_of bs ≡ c.args.self.now = search rules in
    subst (λ ms. None ≡ place_of ms c.args.name.0) view (sym (place_none (names_of bs) c.args.name.0 h))

pub returns-in-Some : goal.returns-in-Some
returns-in-Some c =
    let bs = c.self.inside.binders.items in
    let l = c.in-Some.level in
    let h : level_of (names_of bs) c.args.name.0 ≡ Some l = sym (c.self.invariant.table c.args.name.0) ∙ search rules in
    let view : names_of bs ≡ c.args.self.now = search rules in
    let n : c.len.result ≡ length bs = search rules in
    let m : c.len.result ≡ length (names_of bs) = n ∙ sym (length_names bs) in
    subst (λ ms. Some (c.len.result - 1 - l) ≡ place_of ms c.args.name.0) view (ap (λ n. Some (n - 1 - l)) m ∙ sym (place_some (names_of bs) c.args.name.0 l h))
