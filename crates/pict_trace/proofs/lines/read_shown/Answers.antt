use Rattle.std.proofs.Common.{◌≡◌, ◌++◌, ◌∷◌, [], codes, sym, ap, subst}
use Rattle.pict_syntax.specs.Names.{with_names}
use Rattle.pict_trace.specs.Plain.{plain_label}
use Rattle.pict_trace.specs.Readable.{labels_in_line}
use Rattle.pict_trace.specs.Reading.{ReadsShown, BeginsNoShown, NamesGrow}
use Rattle.pict_trace.proofs.Shown.{no_label_shown, shown_grows}
use Rattle.pict_trace.proofs.Growing.{same_names, gained_on, grown_on}
use Rattle.pict_trace.proofs.Steps.{on_one}
use Rattle.pict_trace.proofs.lines.read_shown.Goals as goal

pub returns-in-Some-clause-ok : goal.returns-in-Some-clause-ok
returns-in-Some-clause-ok c =
    on_one c.read_printing.result _ (λ r. ReadsShown c.args.names.now c.args.text.now (plain_label r.label) r.rest.now) (c.read_printing.ensures.ok c.args.names.now)
    (λ x h. subst (λ t. ReadsShown c.args.names.now t (plain_label x.label) x.rest.now) (sym c.in-Some.ensures.some) h)

pub returns-in-Some-clause-bad : goal.returns-in-Some-clause-bad
returns-in-Some-clause-bad c e = subst BeginsNoShown (sym c.in-Some.ensures.some) (c.read_printing.ensures.bad e)

pub returns-in-Some-clause-gained : goal.returns-in-Some-clause-gained
returns-in-Some-clause-gained c =
    on_one c.read_printing.result _ (λ r. c.args.names.now ≡ with_names c.args.names.now (labels_in_line c.args.names.now (0, plain_label r.label))) (c.read_printing.ensures.flat c.args.names.now)
    (λ x h. ap (with_names c.args.names.now) (sym h))

pub returns-in-Some-clause-grows : goal.returns-in-Some-clause-grows
returns-in-Some-clause-grows c =
    on_one c.read_printing.result _ (λ r. NamesGrow c.args.text.now c.args.names.now c.args.names.now r.rest.now) (c.read_printing.ensures.ok c.args.names.now)
    (λ x h. shown_grows c.args.names.now (codes "print \"" ++ c.in-Some.bytes.now) c.args.text.now (plain_label x.label) x.rest.now c.in-Some.ensures.some h)

pub returns-in-Some-behind-clause-ok : goal.returns-in-Some-behind-clause-ok
returns-in-Some-behind-clause-ok c =
    let new = c.read_communication.new.names in
    on_one c.read_communication.result _ (λ r. ReadsShown new c.args.text.now (plain_label r.label) r.rest.now) c.read_communication.ensures.ok
    (λ x h. subst (λ t. ReadsShown new t (plain_label x.label) x.rest.now) (sym c.in-Some-behind.ensures.some) h)

pub returns-in-Some-behind-clause-bad : goal.returns-in-Some-behind-clause-bad
returns-in-Some-behind-clause-bad c e = subst BeginsNoShown (sym c.in-Some-behind.ensures.some) (c.read_communication.ensures.bad e)

pub returns-in-Some-behind-clause-grows : goal.returns-in-Some-behind-clause-grows
returns-in-Some-behind-clause-grows c =
    let new = c.read_communication.new.names in
    let names = c.args.names.now in
    on_one c.read_communication.result _ (λ r. NamesGrow c.args.text.now names new r.rest.now) c.read_communication.ensures.grows
    (λ x h. grown_on c.args.text.now c.in-Some-behind.channel.now x.rest.now names names new (same_names c.args.text.now c.in-Some-behind.channel.now (99 ∷ []) names c.in-Some-behind.ensures.some) h)

pub returns-in-Some-behind-clause-kept : goal.returns-in-Some-behind-clause-kept
returns-in-Some-behind-clause-kept c =
    let names = c.args.names.now in
    gained_on c.args.text.now c.in-Some-behind.channel.now names names c.read_communication.new.names (same_names c.args.text.now c.in-Some-behind.channel.now (99 ∷ []) names c.in-Some-behind.ensures.some) c.read_communication.ensures.kept

pub returns-in-None-clause-bad : goal.returns-in-None-clause-bad
returns-in-None-clause-bad c e = no_label_shown c.args.text.now (c.behind.ensures.none c.in_default.is) (c.behind-2.ensures.none c.in-None.is)
