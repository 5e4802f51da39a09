-- The whole is put for the variable of the body.
use Rattle.std.proofs.Common.{◌≡◌, ◌∙◌, sym, ap, subst}
use Rattle.pict_types.specs.Types.{Rec, no_type, types}
use Rattle.pict_types.specs.Kinds.{IsWellFormed, kinds}
use Rattle.pict_types.specs.Plain.{plain, plain_types}
use Rattle.pict_types.specs.PlainContext.{names_of, type_context}
use Rattle.pict_types.specs.Replacing.{fill, unfolding_of}
use Rattle.pict_types.specs.Filling.{put_for}
use Rattle.pict_types.specs.Recursion.{unfolded}
use Rattle.pict_types.proofs.FilledReplaced.{unfolding_filled}
use Rattle.pict_types.proofs.Formed.{unfolding_formed}
use Rattle.pict_types.proofs.unfolding.unfold.Goals as goal

pub returns-clause-unfolding : goal.returns-clause-unfolding
returns-clause-unfolding c =
    let t = plain c.args.t.now in
    let b = plain c.deref-2.result.now in
    let e : t ≡ Rec b = ap plain c.in-Rec.is ∙ ap (λ x. Rec (plain x)) (sym c.deref-2.ensures) in
    c.in_ok-fill_type.ensures
    ∙ ap (λ x. fill (put_for (plain_types x) 0) b) c.from_ref.ensures.value
    ∙ ap (λ x. fill (put_for (types x no_type) 0) b) e
    ∙ unfolding_filled b
    ∙ sym (ap unfolded e)

pub returns-clause-formed : goal.returns-clause-formed
returns-clause-formed c =
    let ns = names_of c.args.c.now in
    let ks = kinds (type_context c.args.c.now) in
    let b = plain c.deref-2.result.now in
    let e : plain c.args.t.now ≡ Rec b = ap plain c.in-Rec.is ∙ ap (λ x. Rec (plain x)) (sym c.deref-2.ensures) in
    let whole : IsWellFormed ns ks (Rec b) = subst (IsWellFormed ns ks) e c.requires.t in
    let is : unfolding_of b ≡ plain c.in_ok-fill_type.field-0 = sym (returns-clause-unfolding c ∙ ap unfolded e) in
    subst (IsWellFormed ns ks) is (unfolding_formed ns ks b whole)
