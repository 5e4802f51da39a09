-- The innermost name is forgotten.
use Rattle.std.proofs.Common.{rules, ◌≡◌, ◌∷◌, [], ◌++◌, ◌∙◌, ap, sym, subst, drop, List}
use Rattle.std.specs.Prelude.{slice_get}
use Rattle.pict_binders.specs.Tables.{StandsFor, names_of}
use Rattle.pict_binders.specs.declared.nearest.Binder.{Binder}
use Rattle.pict_binders.proofs.Binding.{unbound, has_level, names_onto_snoc}
use Rattle.pict_binders.proofs.nearest.Nearest.unbind.Goals as goal

pub restore_level-requires : goal.restore_level-requires
restore_level-requires c =
    let b : Binder = c.in-Some.binder in
    let items : c.self.inside.binders.items ≡ c.pop.new.self.items ++ b ∷ [] = c.in-Some.ensures.items in
    let P : List Binder → Type 0 = λ bs. StandsFor bs c.self.inside.levels in
    has_level c.pop.new.self.items b c.self.inside.levels (subst P items c.self.invariant)

pub invariant_of-self-in-Some : goal.invariant_of-self-in-Some
invariant_of-self-in-Some c =
    let b : Binder = c.in-Some.binder in
    let items : c.self.inside.binders.items ≡ c.pop.new.self.items ++ b ∷ [] = c.in-Some.ensures.items in
    let P : List Binder → Type 0 = λ bs. StandsFor bs c.self.inside.levels in
    let stands = subst P items c.self.invariant in
    unbound c.pop.new.self.items b c.self.inside.levels c.restore_level.new.levels stands c.restore_level.ensures

pub returns-in-Some-clause-rest : goal.returns-in-Some-clause-rest
returns-in-Some-clause-rest c =
    let b : Binder = c.in-Some.binder in
    let items : c.self.inside.binders.items ≡ c.pop.new.self.items ++ b ∷ [] = c.in-Some.ensures.items in
    let view : names_of c.self.inside.binders.items ≡ c.args.self.now = search rules in
    sym (ap (drop 1) (sym view ∙ ap names_of items ∙ names_onto_snoc [] c.pop.new.self.items b))

pub returns-in-Some-clause-last : goal.returns-in-Some-clause-last
returns-in-Some-clause-last c =
    let b : Binder = c.in-Some.binder in
    let items : c.self.inside.binders.items ≡ c.pop.new.self.items ++ b ∷ [] = c.in-Some.ensures.items in
    let view : names_of c.self.inside.binders.items ≡ c.args.self.now = search rules in
    sym (ap (λ ns. slice_get ns 0) (sym view ∙ ap names_of items ∙ names_onto_snoc [] c.pop.new.self.items b))
