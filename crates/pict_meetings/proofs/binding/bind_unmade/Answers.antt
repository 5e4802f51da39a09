use Rattle.std.proofs.Common.{ℕ, length, map, refl, sym, ap, ◌∙◌, subst}
use Rattle.pict_code.specs.Plain.{plain_pat, plain_pat_field, labelled_pats_of}
use Rattle.pict_core.specs.Plain.{vals_of}
use Rattle.pict_desk.specs.Binding.{BindsPattern}
use Rattle.pict_desk.specs.Known.{value_in}
use Rattle.pict_desk.proofs.Loops.{record_pattern, first_fits, second_fits, first_inside, first_rises, record_bound}
use Rattle.pict_meetings.specs.Sent.{record_of_pairs, TakesWhole}
use Rattle.pict_meetings.proofs.Fields.{no_labels, any_bound}
use Rattle.pict_meetings.proofs.OneLevel.{plain_bind}
use Rattle.pict_meetings.proofs.binding.bind_unmade.Goals as goal

pub bind_each-requires-clause-fits : goal.bind_each-requires-clause-fits
bind_each-requires-clause-fits c =
    let x = c.in-Fields in
    let is = record_pattern c.args.pattern.now x.positional x.labelled c.deref.result.now x.labelled.items x.is c.deref.ensures.value refl in
    first_fits (record_of_pairs c.args.store.now.desk.heap c.args.fields.now) _ _ _ is c.requires.fits

pub bind_each-requires-clause-inside : goal.bind_each-requires-clause-inside
bind_each-requires-clause-inside c =
    let x = c.in-Fields in
    let is = record_pattern c.args.pattern.now x.positional x.labelled c.deref.result.now x.labelled.items x.is c.deref.ensures.value refl in
    first_inside (record_of_pairs c.args.store.now.desk.heap c.args.fields.now) _ _ _ is (length c.args.store.now.desk.values.items) c.requires.inside

pub bind_each-requires-clause-rising : goal.bind_each-requires-clause-rising
bind_each-requires-clause-rising c =
    let x = c.in-Fields in
    let is = record_pattern c.args.pattern.now x.positional x.labelled c.deref.result.now x.labelled.items x.is c.deref.ensures.value refl in
    first_rises (record_of_pairs c.args.store.now.desk.heap c.args.fields.now) _ _ _ is c.requires.rising

pub returns-in-Fields-clause-binds : goal.returns-in-Fields-clause-binds
returns-in-Fields-clause-binds c =
    let x = c.in-Fields in
    let h = c.args.store.now.desk.heap in
    let v = record_of_pairs h c.args.fields.now in
    let last = c.bind_each.new.store.desk.values.items in
    let is = record_pattern c.args.pattern.now x.positional x.labelled c.deref.result.now x.labelled.items x.is c.deref.ensures.value refl in
    record_bound v _ _ _ is h c.args.store.now.desk.values.items last last c.requires.rising c.bind_each.ensures.binds
    (no_labels h (labelled_pats_of (map plain_pat_field x.labelled.items)) (vals_of (map (λ (pair : ℕ × ℕ). value_in h pair.0 pair.1) c.args.fields.now)) last (second_fits v _ _ _ is c.requires.fits))

pub returns-in-Any-clause-binds : goal.returns-in-Any-clause-binds
returns-in-Any-clause-binds c =
    let h = c.args.store.now.desk.heap in
    let v = record_of_pairs h c.args.fields.now in
    let values = c.args.store.now.desk.values.items in
    subst (λ p. BindsPattern h (plain_pat p) v values values) (sym c.in-Any.is) (any_bound h v values)

pub unreachable-requires : goal.unreachable-requires
unreachable-requires c = c.requires.apart (subst TakesWhole (sym (ap plain_pat c.in-Bind.is ∙ plain_bind c.in-Bind.field-0)) tt)
