-- The counts, and then the labels.
use Rattle.std.proofs.Common.{◌∙◌, sym}
use Rattle.pict_types.specs.Plain.{plain_bounds, plain_labels, plain_types}
use Rattle.pict_lines.proofs.CountEnds.{all_counted, no_label_there, other_arguments, other_values}
use Rattle.pict_lines.proofs.counts.counted.Goals as goal

pub returns-then-not-none_or_as_many : goal.returns-then-not-none_or_as_many
returns-then-not-none_or_as_many c =
    other_arguments c.args.span c.args.fields.now (plain_bounds c.args.r.now.binders.items) (plain_types c.args.r.now.positional.items) (plain_labels c.args.r.now.labelled.items)
    (rw (c.deref.ensures.value, c.deref-2.ensures.value) at (sym c.none_or_as_many.ensures ∙ c.if-not-none_or_as_many.true))

pub returns-then-not-as_many : goal.returns-then-not-as_many
returns-then-not-as_many c =
    other_values c.args.span c.args.fields.now (plain_bounds c.args.r.now.binders.items) (plain_types c.args.r.now.positional.items) (plain_labels c.args.r.now.labelled.items)
    (rw (c.deref.ensures.value, c.deref-2.ensures.value) at (sym c.none_or_as_many.ensures ∙ c.if-not-none_or_as_many.false))
    (rw (c.deref-3.ensures.value, c.deref-4.ensures.value) at (sym c.as_many.ensures ∙ c.if-not-as_many.true))

pub returns-then-not-branch : goal.returns-then-not-branch
returns-then-not-branch c =
    no_label_there c.args.span c.args.fields.now (plain_bounds c.args.r.now.binders.items) (plain_types c.args.r.now.positional.items) (plain_labels c.args.r.now.labelled.items)
    (rw (c.deref.ensures.value, c.deref-2.ensures.value) at (sym c.none_or_as_many.ensures ∙ c.if-not-none_or_as_many.false))
    (rw (c.deref-3.ensures.value, c.deref-4.ensures.value) at (sym c.as_many.ensures ∙ c.if-not-as_many.false))
    (rw (c.deref-5.ensures.value, c.deref-6.ensures.value) at (sym c.in_ok-all_written.ensures ∙ c.if-not-branch.true))

pub returns : goal.returns
returns c =
    all_counted c.args.span c.args.fields.now (plain_bounds c.args.r.now.binders.items) (plain_types c.args.r.now.positional.items) (plain_labels c.args.r.now.labelled.items)
    (rw (c.deref.ensures.value, c.deref-2.ensures.value) at (sym c.none_or_as_many.ensures ∙ c.if-not-none_or_as_many.false))
    (rw (c.deref-3.ensures.value, c.deref-4.ensures.value) at (sym c.as_many.ensures ∙ c.if-not-as_many.false))
    (rw (c.deref-5.ensures.value, c.deref-6.ensures.value) at (sym c.in_ok-all_written.ensures ∙ c.if-not-branch.false))
