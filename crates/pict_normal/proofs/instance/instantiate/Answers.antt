-- The arguments fit the fields, and keep them well formed.
use Rattle.std.proofs.Common.{◌≡◌, ◌∙◌, refl, sym, ap, subst, arith}
use Rattle.pict_normal.specs.declared.puts.Puts.{Puts}
use Rattle.pict_normal.specs.declared.puts.Source.TheVariants.{Arguments as Arguments_}
use Rattle.pict_types.specs.Types.{Fields}
use Rattle.pict_types.specs.Kinds.{IsWellFormed, AreWellFormed, LabelsAreWellFormed, kinds, kinds_under}
use Rattle.pict_types.specs.Measures.{weigh_types, weigh_labels, weight_of, weights}
use Rattle.pict_types.specs.Plain.{plain_args, plain_bounds, plain_labels, plain_record, plain_types}
use Rattle.pict_types.specs.PlainContext.{names_of, type_context}
use Rattle.pict_normal.specs.Putting.{replacement_in, weights_in}
use Rattle.pict_types.specs.Replacing.{arguments, instance_of, replace_types, replace_labels}
use Rattle.pict_types.proofs.Formed.{arguments_keep, instance_formed}
use Rattle.pict_normal.proofs.Making.{heavy_error, not_high, row_is}
use Rattle.pict_normal.proofs.Placing.{placed_first}
use Rattle.pict_normal.proofs.instance.instantiate.Goals as goal

pub made_types-requires : goal.made_types-requires
made_types-requires c =
    let p : Puts = record { source = Arguments_ c.args.args; context = c.args.c } in
    let r = c.args.r.now in
    let ns = names_of c.args.c.now in
    let bs = plain_bounds r.binders.items in
    let same : plain_types r.positional.items ≡ plain_types c.deref.result.now = ap plain_types (sym c.deref.ensures.value) in
    record {
      placed = placed_first {p = p} c.new-inner.result.items (kinds_under (kinds (type_context c.args.c.now)) bs) c.new-inner.ensures.items (arguments_keep ns (kinds (type_context c.args.c.now)) (plain_args c.args.args.now) bs c.requires.fit c.requires.args) (subst (AreWellFormed ns (kinds_under (kinds (type_context c.args.c.now)) bs)) same c.requires.r.1.0);
    }

pub made_labels-requires : goal.made_labels-requires
made_labels-requires c =
    let p : Puts = record { source = Arguments_ c.args.args; context = c.args.c } in
    let r = c.args.r.now in
    let ns = names_of c.args.c.now in
    let bs = plain_bounds r.binders.items in
    let same : plain_labels r.labelled.items ≡ plain_labels c.deref-2.result.now = ap plain_labels (sym c.deref-2.ensures.value) in
    record {
      placed = placed_first {p = p} c.made_types.new.inner.items (kinds_under (kinds (type_context c.args.c.now)) bs) (c.in_ok-positional.ensures.inner ∙ c.new-inner.ensures.items) (arguments_keep ns (kinds (type_context c.args.c.now)) (plain_args c.args.args.now) bs c.requires.fit c.requires.args) (subst (LabelsAreWellFormed ns (kinds_under (kinds (type_context c.args.c.now)) bs)) same c.requires.r.1.1);
    }

pub returns-in_err-positional-clause-too_heavy : goal.returns-in_err-positional-clause-too_heavy
returns-in_err-positional-clause-too_heavy c =
    let p : Puts = record { source = Arguments_ c.args.args; context = c.args.c } in
    let r = c.args.r.now in
    let ws = weights (type_context c.args.c.now) in
    let args = plain_args c.args.args.now in
    let none = c.new-inner.ensures.items in
    let weighs : weigh_types (weights_in p c.new-inner.result.items) (replace_types (replacement_in p c.new-inner.result.items) (plain_types c.deref.result.now)) ≡ weigh_types ws (replace_types (arguments args) (plain_types r.positional.items)) =
    ap (λ ms. weigh_types (weights_in p ms) (replace_types (replacement_in p ms) (plain_types c.deref.result.now))) none
    ∙ ap (λ x. weigh_types ws (replace_types (arguments args) (plain_types x))) c.deref.ensures.value in
    heavy_error c.from_residual.result c.in_err-positional.field-0.0 _ (weight_of (type_context c.args.c.now) (instance_of args (plain_types r.positional.items) (plain_labels r.labelled.items))) c.from_residual.ensures.1 (λ h. omega (arith, h, weighs)) c.in_err-positional.ensures.reason

pub returns-in_err-positional-clause-too_high : goal.returns-in_err-positional-clause-too_high
returns-in_err-positional-clause-too_high c = λ h. absurd (not_high c.from_residual.result c.in_err-positional.field-0.0 c.from_residual.ensures.1 h)

pub returns-in_err-labelled-clause-too_heavy : goal.returns-in_err-labelled-clause-too_heavy
returns-in_err-labelled-clause-too_heavy c =
    let p : Puts = record { source = Arguments_ c.args.args; context = c.args.c } in
    let r = c.args.r.now in
    let ws = weights (type_context c.args.c.now) in
    let args = plain_args c.args.args.now in
    let none = c.new-inner.ensures.items in
    let weighs : weigh_labels (weights_in p c.made_types.new.inner.items) (replace_labels (replacement_in p c.made_types.new.inner.items) (plain_labels c.deref-2.result.now)) ≡ weigh_labels ws (replace_labels (arguments args) (plain_labels r.labelled.items)) =
    ap (λ ms. weigh_labels (weights_in p ms) (replace_labels (replacement_in p ms) (plain_labels c.deref-2.result.now))) (c.in_ok-positional.ensures.inner ∙ none)
    ∙ ap (λ x. weigh_labels ws (replace_labels (arguments args) (plain_labels x))) c.deref-2.ensures.value in
    heavy_error c.from_residual-in_err-labelled.result c.in_err-labelled.field-0.0 _ (weight_of (type_context c.args.c.now) (instance_of args (plain_types r.positional.items) (plain_labels r.labelled.items))) c.from_residual-in_err-labelled.ensures.1 (λ h. omega (arith, h, weighs)) c.in_err-labelled.ensures.reason

pub returns-in_err-labelled-clause-too_high : goal.returns-in_err-labelled-clause-too_high
returns-in_err-labelled-clause-too_high c = λ h. absurd (not_high c.from_residual-in_err-labelled.result c.in_err-labelled.field-0.0 c.from_residual-in_err-labelled.ensures.1 h)

three : {A B C D : Type 0} (k : A → B → C → D) {a a' : A} {b b' : B} {c c' : C} → a ≡ a' → b ≡ b' → c ≡ c' → k a b c ≡ k a' b' c'
three k p q r = cc

pub returns-clause-formed : goal.returns-clause-formed
returns-clause-formed c =
    let p : Puts = record { source = Arguments_ c.args.args; context = c.args.c } in
    let r = c.args.r.now in
    let ns = names_of c.args.c.now in
    let ks = kinds (type_context c.args.c.now) in
    let args = plain_args c.args.args.now in
    let none = c.new-inner.ensures.items in
    let positional = row_is c.in_ok-positional.positional c.in-Some-items.positional c.in_ok-positional.ensures.made c.in-Some-items.is
    ∙ ap (λ ms. replace_types (replacement_in p ms) (plain_types c.deref.result.now)) none
    ∙ ap (λ x. replace_types (arguments args) (plain_types x)) c.deref.ensures.value in
    let labelled = row_is c.in_ok-labelled.labelled c.in-Some-items-2.labelled c.in_ok-labelled.ensures.made c.in-Some-items-2.is
    ∙ ap (λ ms. replace_labels (replacement_in p ms) (plain_labels c.deref-2.result.now)) (c.in_ok-positional.ensures.inner ∙ none)
    ∙ ap (λ x. replace_labels (arguments args) (plain_labels x)) c.deref-2.ensures.value in
    let built = three (λ b q l. plain_record (record { binders = b; positional = q; labelled = l })) {a = c.new.result} {a' = c.new.result} refl c.in-Some-items.positional-is c.in-Some-items-2.labelled-is
    ∙ three Fields (ap plain_bounds c.new.ensures.items) positional labelled in
    subst (IsWellFormed ns ks) (sym built) (instance_formed ns ks args (plain_bounds r.binders.items) (plain_types r.positional.items) (plain_labels r.labelled.items) c.requires.fit c.requires.args c.requires.r)
