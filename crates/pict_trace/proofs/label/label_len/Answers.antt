use Rattle.std.proofs.Common.{sym, ◌∙◌}
use Rattle.pict_trace.proofs.Labels.{front_same, not_at_end, equals_at}
use Rattle.pict_trace.proofs.label.label_len.Goals as goal
use Rattle.pict_trace.proofs.label.label_len.Goals.{then-len-text-via-then-len-text, then-len-text-via-else-len-text+then-text-len-ne61}

pub returns-then-len-text-clause-none : goal.returns-then-len-text-clause-none
returns-then-len-text-clause-none c n word rest h e =
    let w = c.word_len-len.ensures in
    let same = front_same c.args.text.now word rest c.word_len-len.result h e w.within w.word w.longest in
    elim c.then-len-text.branch [
      | then-len-text-via-then-len-text b ↦ not_at_end c.args.text.now rest c.word_len-len.result same.1 b.if-len-text.true
      | then-len-text-via-else-len-text+then-text-len-ne61 b ↦ b.if-text-len-ne61.true (equals_at c.args.text.now rest c.word_len-len.result same.1)
    ]

pub returns-in-Some-clause-none : goal.returns-in-Some-clause-none
returns-in-Some-clause-none c n word rest h e =
    let w = c.word_len-len.ensures in
    h.1 c.in-Some.field-0 (sym (front_same c.args.text.now word rest c.word_len-len.result h e w.within w.word w.longest).0 ∙ c.in-Some.ensures.found)
