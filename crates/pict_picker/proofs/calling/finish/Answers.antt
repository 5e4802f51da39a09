use Rattle.std.proofs.Common.{sym, ap, ◌∙◌, subst}
use Rattle.pict_prim.specs.Acts.{effect_done, IsDoneOf}
use Rattle.pict_picker.proofs.Effects.{acted_printed, acted_answer, acted_printed_answer, acted_stops}
use Rattle.pict_picker.proofs.calling.finish.Goals as goal

pub returns-in-Printed-clause-effect : goal.returns-in-Printed-clause-effect
returns-in-Printed-clause-effect c =
    let h = c.perform.new.heap in
    acted_printed h c.args.at c.in-Printed.word _ (sym (ap (effect_done h) c.in-Printed.is) ∙ c.perform.ensures.effect) (subst (IsDoneOf h) c.in-Printed.is c.perform.ensures.words)

pub returns-in-Answer-clause-effect : goal.returns-in-Answer-clause-effect
returns-in-Answer-clause-effect c =
    let h = c.perform.new.heap in
    let words = subst (IsDoneOf h) c.in-Answer.is c.perform.ensures.words in
    acted_answer h c.args.at c.in-Answer.to c.in-Answer.answer _ c.output_to.result (sym (ap (effect_done h) c.in-Answer.is) ∙ c.perform.ensures.effect) (c.output_to.ensures h words.0 words.1)

pub returns-in-PrintedAnswer-clause-effect : goal.returns-in-PrintedAnswer-clause-effect
returns-in-PrintedAnswer-clause-effect c =
    let h = c.perform.new.heap in
    let words = subst (IsDoneOf h) c.in-PrintedAnswer.is c.perform.ensures.words in
    acted_printed_answer h c.args.at c.in-PrintedAnswer.word c.in-PrintedAnswer.to c.in-PrintedAnswer.answer _ c.output_to-in-PrintedAnswer.result
    (sym (ap (effect_done h) c.in-PrintedAnswer.is) ∙ c.perform.ensures.effect) words.0 (c.output_to-in-PrintedAnswer.ensures h words.1 words.2)

pub returns-in-ZeroDivisor-clause-effect : goal.returns-in-ZeroDivisor-clause-effect
returns-in-ZeroDivisor-clause-effect c =
    let h = c.perform.new.heap in
    acted_stops h c.args.at _ (sym (ap (effect_done h) c.in-ZeroDivisor.is) ∙ c.perform.ensures.effect)
