use Rattle.std.proofs.Common.{sym, ap}
use Rattle.pict_prim.specs.Needed.{needed}
use Rattle.pict_prim.proofs.Needs.{if_needs}
use Rattle.pict_prim.proofs.deciding.act_on_two.Goals as goal

pub returns-in-Pr-clause-words : goal.returns-in-Pr-clause-words
returns-in-Pr-clause-words c = c.print_and_answer.ensures.words c.args.heap.now c.requires.operand c.requires.target

pub returns-in-Chr-clause-words : goal.returns-in-Chr-clause-words
returns-in-Chr-clause-words c = c.chr.ensures.words c.args.heap.now c.requires.target

pub returns-in-Ord-clause-words : goal.returns-in-Ord-clause-words
returns-in-Ord-clause-words c = c.ord.ensures.words c.args.heap.now c.requires.target

pub returns-in-Intstr-clause-words : goal.returns-in-Intstr-clause-words
returns-in-Intstr-clause-words c = c.spell.ensures.words c.args.heap.now c.requires.target

pub returns-in-Not-clause-words : goal.returns-in-Not-clause-words
returns-in-Not-clause-words c = c.negate.ensures.words c.args.heap.now c.requires.target

pub returns-in-Pr-clause-need : goal.returns-in-Pr-clause-need
returns-in-Pr-clause-need c v = if_needs c.args.heap.now c.print_and_answer.result _ _ (ap (λ p. needed p v) (sym c.in-Pr.is)) (c.print_and_answer.ensures.need c.args.heap.now v)

pub returns-in-Chr-clause-need : goal.returns-in-Chr-clause-need
returns-in-Chr-clause-need c v = if_needs c.args.heap.now c.chr.result _ _ (ap (λ p. needed p v) (sym c.in-Chr.is)) (c.chr.ensures.need c.args.heap.now v)

pub returns-in-Ord-clause-need : goal.returns-in-Ord-clause-need
returns-in-Ord-clause-need c v = if_needs c.args.heap.now c.ord.result _ _ (ap (λ p. needed p v) (sym c.in-Ord.is)) (c.ord.ensures.need c.args.heap.now v)

pub returns-in-Intstr-clause-need : goal.returns-in-Intstr-clause-need
returns-in-Intstr-clause-need c v = if_needs c.args.heap.now c.spell.result _ _ (ap (λ p. needed p v) (sym c.in-Intstr.is)) (c.spell.ensures.need c.args.heap.now v)

pub returns-in-Size-clause-need : goal.returns-in-Size-clause-need
returns-in-Size-clause-need c v = if_needs c.args.heap.now c.size.result _ _ (ap (λ p. needed p v) (sym c.in-Size.is)) (c.size.ensures.need c.args.heap.now v)

pub returns-in-Not-clause-need : goal.returns-in-Not-clause-need
returns-in-Not-clause-need c v = if_needs c.args.heap.now c.negate.result _ _ (ap (λ p. needed p v) (sym c.in-Not.is)) (c.negate.ensures.need c.args.heap.now v)
