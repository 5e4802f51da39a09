-- One more name is bound, or none for want of memory.
use Rattle.std.proofs.Common.{rules, ◌≡◌, ◌∷◌, [], ◌++◌, ◌∙◌, ap}
use Rattle.pict_binders.specs.Tables.{names_of}
use Rattle.pict_binders.specs.declared.nearest.Binder.{Binder}
use Rattle.pict_binders.proofs.Binding.{bound, names_onto_snoc}
use Rattle.pict_binders.proofs.nearest.Nearest.bind.Goals as goal

pub invariant_of-self-2 : goal.invariant_of-self-2
invariant_of-self-2 c =
    let old = c.self.inside.binders.items in
    let b : Binder = record { name = c.args.name.0; outer = c.level_at-outer.result } in
    let items : c.push_reserved.new.self.items ≡ old ++ b ∷ [] = c.push_reserved.ensures.items ∙ ap (λ l. l ++ b ∷ []) c.in_ok-reserve.ensures.items in
    rw items (bound old b c.self.inside.levels c.set_level.new.levels c.in-Ok.level c.self.invariant c.in_ok-set_level.ensures.set (search rules) (search rules))

pub returns-clause-ok : goal.returns-clause-ok
returns-clause-ok c =
    let old = c.self.inside.binders.items in
    let b : Binder = record { name = c.args.name.0; outer = c.level_at-outer.result } in
    let items : c.push_reserved.new.self.items ≡ old ++ b ∷ [] = c.push_reserved.ensures.items ∙ ap (λ l. l ++ b ∷ []) c.in_ok-reserve.ensures.items in
    let view : names_of old ≡ c.args.self.now = search rules in
    rw items (names_onto_snoc [] old b ∙ ap (λ l. c.args.name.0 ∷ l) view)
