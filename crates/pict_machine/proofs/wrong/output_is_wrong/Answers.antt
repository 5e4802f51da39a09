use Rattle.std.proofs.Common.{not, refl, sym, ap, ◌∙◌}
use Rattle.pict_core.specs.Matching.{match_value}
use Rattle.pict_core.specs.Primitives.{effect_of}
use Rattle.pict_core.specs.Term.{Out}
use Rattle.pict_code.specs.Plain.{plain_pat}
use Rattle.pict_code.specs.ReadBack.{unleveled}
use Rattle.pict_desk.specs.Code.{core_in}
use Rattle.pict_desk.specs.Known.{value_in}
use Rattle.pict_meetings.proofs.Ops.{input_waits_first}
use Rattle.pict_meetings.proofs.Serving.{input_coded}
use Rattle.pict_shapes.specs.Fitting.{is_found}
use Rattle.pict_shapes.specs.Shapes.{is_effect}
use Rattle.pict_machine.specs.Wrong.{primitive_named}
use Rattle.pict_machine.proofs.Asking.{output_queue, sent_wrong, none_served, called_wrong, sent_nowhere}
use Rattle.pict_turns.proofs.Outputs.{named_channel, kept_to, kept_message, kept_process, pair_value}
use Rattle.pict_machine.proofs.wrong.output_is_wrong.Goals as goal

pub first_waiting-requires-clause-queue : goal.first_waiting-requires-clause-queue
first_waiting-requires-clause-queue c =
    let core = core_in c.args.code.now in
    let s = c.args.store.now in
    let h = s.desk.heap in
    let kept = c.args.kept in
    let acting = c.requires.may.acting in
    let message = value_in h kept.message.0 kept.message.1 in
    let to = c.channel_of.ensures h (kept_to core s acting kept c.requires.kept) in
    let is = kept_process core s acting kept c.requires.kept ∙ ap (λ v. Out v message kept.at) (named_channel (value_in h kept.to.0 kept.to.1) c.in-Some.channel (sym c.in-Some.is ∙ to)) in
    output_queue core s c.requires.may c.in-Some.channel message kept.at is

pub first_waiting-requires-clause-waiting : goal.first_waiting-requires-clause-waiting
first_waiting-requires-clause-waiting c = (core_in c.args.code.now, c.requires.may.acting.store.waiting c.in-Some.channel)

pub pattern_at-pattern-requires : goal.pattern_at-pattern-requires
pattern_at-pattern-requires c =
    let w = input_waits_first c.args.code.now c.args.store.now c.in-Some.channel c.in-Input.reader c.requires.code c.requires.may.acting.store (sym c.first_waiting.ensures.first ∙ c.in-Input.is) in
    record { inside = w.low; input = (w.replicated, w.pattern, w.part, w.input) }

pub returns-in-Input-clause-wrong : goal.returns-in-Input-clause-wrong
returns-in-Input-clause-wrong c =
    let core = core_in c.args.code.now in
    let s = c.args.store.now in
    let h = s.desk.heap in
    let kept = c.args.kept in
    let acting = c.requires.may.acting in
    let message = value_in h kept.message.0 kept.message.1 in
    let to = c.channel_of.ensures h (kept_to core s acting kept c.requires.kept) in
    let is = kept_process core s acting kept c.requires.kept ∙ ap (λ v. Out v message kept.at) (named_channel (value_in h kept.to.0 kept.to.1) c.in-Some.channel (sym c.in-Some.is ∙ to)) in
    let first = sym c.first_waiting.ensures.first ∙ c.in-Input.is in
    let w = input_waits_first c.args.code.now s c.in-Some.channel c.in-Input.reader c.requires.code acting.store first in
    ap not (c.fits.ensures
    ∙ ap (λ v. is_found (match_value (unleveled (plain_pat c.pattern_at-pattern.result.now)) v)) (sym (pair_value h kept.message (kept_message core s acting kept c.requires.kept) c.word_at.result c.word_at.ensures))
    ∙ ap (λ p. is_found (match_value (unleveled p) message)) (c.pattern_at-pattern.ensures w.replicated w.pattern w.part w.input))
    ∙ sym (sent_wrong core s c.requires.may c.in-Some.channel message kept.at c.in-Input.reader w.replicated w.pattern w.part is first
    (input_coded _ c.in-Input.reader w.part w.replicated w.pattern c.requires.code w.input))

pub returns-in_default : goal.returns-in_default
returns-in_default c =
    let core = core_in c.args.code.now in
    let s = c.args.store.now in
    let h = s.desk.heap in
    let kept = c.args.kept in
    let acting = c.requires.may.acting in
    let message = value_in h kept.message.0 kept.message.1 in
    let to = c.channel_of.ensures h (kept_to core s acting kept c.requires.kept) in
    let is = kept_process core s acting kept c.requires.kept ∙ ap (λ v. Out v message kept.at) (named_channel (value_in h kept.to.0 kept.to.1) c.in-Some.channel (sym c.in-Some.is ∙ to)) in
    record {
      wrong = sym (none_served core s c.requires.may c.in-Some.channel message kept.at is (λ number e. c.in_default.not-Input number (c.first_waiting.ensures.first ∙ e)));
      asks = record { rest = refl; works = c.first_waiting.ensures.rest };
    }

pub returns-in-Some-primitive_of-clause-wrong : goal.returns-in-Some-primitive_of-clause-wrong
returns-in-Some-primitive_of-clause-wrong c =
    let core = core_in c.args.code.now in
    let s = c.args.store.now in
    let h = s.desk.heap in
    let kept = c.args.kept in
    let acting = c.requires.may.acting in
    let message = value_in h kept.message.0 kept.message.1 in
    let to = c.channel_of.ensures h (kept_to core s acting kept c.requires.kept) in
    let named = c.primitive_of.ensures h ∙ ap primitive_named (sym (pair_value h kept.to (kept_to core s acting kept c.requires.kept) c.word_at-in-None.result c.word_at-in-None.ensures)) in
    ap not (c.takes.ensures
    ∙ ap (λ v. is_effect (effect_of c.in-Some-primitive_of.p v)) (sym (pair_value h kept.message (kept_message core s acting kept c.requires.kept) c.word_at-in-Some-primitive_of.result c.word_at-in-Some-primitive_of.ensures)))
    ∙ sym (called_wrong core s c.requires.may (value_in h kept.to.0 kept.to.1) message kept.at (kept_process core s acting kept c.requires.kept) c.in-Some-primitive_of.p (sym c.in-Some-primitive_of.is ∙ named))

pub returns-in-None-primitive_of-clause-wrong : goal.returns-in-None-primitive_of-clause-wrong
returns-in-None-primitive_of-clause-wrong c =
    let core = core_in c.args.code.now in
    let s = c.args.store.now in
    let h = s.desk.heap in
    let kept = c.args.kept in
    let acting = c.requires.may.acting in
    let message = value_in h kept.message.0 kept.message.1 in
    let to = c.channel_of.ensures h (kept_to core s acting kept c.requires.kept) in
    let named = c.primitive_of.ensures h ∙ ap primitive_named (sym (pair_value h kept.to (kept_to core s acting kept c.requires.kept) c.word_at-in-None.result c.word_at-in-None.ensures)) in
    sym (sent_nowhere core s c.requires.may (value_in h kept.to.0 kept.to.1) message kept.at (kept_process core s acting kept c.requires.kept) (sym c.in-None.is ∙ to) (sym c.in-None-primitive_of.is ∙ named))
