use Rattle.std.proofs.Common.{sym, subst, refl}
use Rattle.pict_desk.specs.Answers.{IsAnswerOf}
use Rattle.pict_desk.specs.Arguments.{argument_of}
use Rattle.pict_desk.specs.Pairs.{ArePairs}
use Rattle.pict_desk.proofs.Making.{keeps_all}
use Rattle.pict_picker.proofs.Effects.{at_hand}
use Rattle.pict_picker.proofs.calling.call_fields.Goals as goal

pub answer_at_hand-requires-clause-pairs : goal.answer_at_hand-requires-clause-pairs
answer_at_hand-requires-clause-pairs c = let h = c.args.desk.now.heap in (h, subst (ArePairs h) (sym c.deref.ensures.value) c.requires.pairs)

pub returns-in-Some-clause-effect : goal.returns-in-Some-clause-effect
returns-in-Some-clause-effect c labelled e is =
    let d = c.args.desk.now in
    let h = d.heap in
    let answer = c.in-Some.ensures h (subst (ArePairs h) (sym c.deref.ensures.value) c.requires.pairs) in
    let a = subst (λ vs. IsAnswerOf h vs c.args.p c.args.fields.now c.args.at c.in-Some.kept) c.deref.ensures.value answer in
    at_hand h c.args.at c.args.p (argument_of h d.values.items c.args.fields.now labelled) a.to a.answer c.in-Some.kept e (a.effect labelled) a.output is

pub returns-in-Some-clause-rest : goal.returns-in-Some-clause-rest
returns-in-Some-clause-rest c = record { words = keeps_all c.args.desk.now.heap; values = refl }

pub returns-in-Some-clause-undone : goal.returns-in-Some-clause-undone
returns-in-Some-clause-undone c u = absurd u
