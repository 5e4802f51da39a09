use Rattle.std.proofs.Common.{take, sym, ◌∙◌, inl, inr}
use Rattle.pict_trace.proofs.Fields.{label_and_rest, other_label, no_label_after}
use Rattle.pict_trace.proofs.label.read_label.Goals as goal

pub returns-in-None-clause-bad : goal.returns-in-None-clause-bad
returns-in-None-clause-bad c e = no_label_after c.args.before.now c.args.text.now (c.label_len.ensures.none c.in-None.is)

pub returns-in-Equal-clause-bad : goal.returns-in-Equal-clause-bad
returns-in-Equal-clause-bad c e =
    let l = c.in-Some.ensures in
    other_label c.args.before.now c.args.text.now (take c.in-Some.len c.args.text.now) _ l.identifier (label_and_rest c.args.text.now c.in-Some.len l.within l.equals)
    (λ less. let same = c.cmp.ensures ∙ less in elim c.in-Equal.is [ inl a ↦ cc | inr a ↦ cc ])

pub returns-in_ok-name-in-Less-clause-label : goal.returns-in_ok-name-in-Less-clause-label
returns-in_ok-name-in-Less-clause-label c =
    let l = c.in-Some.ensures in
    record { is = l.identifier; whole = label_and_rest c.args.text.now c.in-Some.len l.within l.equals; less = sym c.cmp.ensures ∙ c.in-Less.is; stands = c.in_ok-name-in-Less.ensures.stands }
