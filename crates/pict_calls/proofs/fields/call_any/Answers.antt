use Rattle.std.proofs.Common.{ℕ, List, sym, ◌∙◌, ap, subst}
use Rattle.pict_core.specs.Plain.{vals_of}
use Rattle.pict_core.specs.Primitives.{effect_of}
use Rattle.pict_core.specs.Term.{Val, Record}
use Rattle.pict_desk.specs.Arguments.{argument_of}
use Rattle.pict_desk.specs.Pairs.{ArePairs}
use Rattle.pict_turns.proofs.Adding.{used_beside}
use Rattle.pict_calls.proofs.fields.call_any.Goals as goal

pub three_at_hand-requires-clause-pairs : goal.three_at_hand-requires-clause-pairs
three_at_hand-requires-clause-pairs c = let h = c.args.store.now.desk.heap in (h, subst (ArePairs h) (sym c.deref.ensures.value) c.requires.pairs)

pub two_at_hand-requires-clause-pairs : goal.two_at_hand-requires-clause-pairs
two_at_hand-requires-clause-pairs c = let h = c.args.store.now.desk.heap in (h, subst (ArePairs h) (sym c.deref-2.ensures.value) c.requires.pairs)

pub returns-in-Some-clause-blocks : goal.returns-in-Some-clause-blocks
returns-in-Some-clause-blocks c labelled e is =
    let h = c.args.store.now.desk.heap in
    let words = c.in-Some.ensures h (subst (ArePairs h) (sym c.deref.ensures.value) c.requires.pairs) in
    c.call_words.ensures.blocks labelled e
    (ap (λ (vs : List Val). effect_of c.args.p (Record (vals_of vs) labelled)) words.stand
    ∙ ap (λ (xs : List (ℕ × ℕ)). effect_of c.args.p (argument_of h xs c.args.fields.now labelled)) c.deref.ensures.value ∙ is)

pub returns-in-Some-two_at_hand-clause-blocks : goal.returns-in-Some-two_at_hand-clause-blocks
returns-in-Some-two_at_hand-clause-blocks c labelled e is =
    let h = c.args.store.now.desk.heap in
    let words = c.in-Some-two_at_hand.ensures h (subst (ArePairs h) (sym c.deref-2.ensures.value) c.requires.pairs) in
    c.call_words-in-Some-two_at_hand.ensures.blocks labelled e
    (ap (λ (vs : List Val). effect_of c.args.p (Record (vals_of vs) labelled)) words.stand
    ∙ ap (λ (xs : List (ℕ × ℕ)). effect_of c.args.p (argument_of h xs c.args.fields.now labelled)) c.deref-2.ensures.value ∙ is)

pub returns-in-Some-clause-adds : goal.returns-in-Some-clause-adds
returns-in-Some-clause-adds c labelled e is =
    let h = c.args.store.now.desk.heap in
    let words = c.in-Some.ensures h (subst (ArePairs h) (sym c.deref.ensures.value) c.requires.pairs) in
    used_beside h.room c.call_words.new.store.desk.heap.room _ _
    (c.call_words.ensures.adds labelled e
    (ap (λ (vs : List Val). effect_of c.args.p (Record (vals_of vs) labelled)) words.stand
    ∙ ap (λ (xs : List (ℕ × ℕ)). effect_of c.args.p (argument_of h xs c.args.fields.now labelled)) c.deref.ensures.value ∙ is))

pub returns-in-Some-two_at_hand-clause-adds : goal.returns-in-Some-two_at_hand-clause-adds
returns-in-Some-two_at_hand-clause-adds c labelled e is =
    let h = c.args.store.now.desk.heap in
    let words = c.in-Some-two_at_hand.ensures h (subst (ArePairs h) (sym c.deref-2.ensures.value) c.requires.pairs) in
    used_beside h.room c.call_words-in-Some-two_at_hand.new.store.desk.heap.room _ _
    (c.call_words-in-Some-two_at_hand.ensures.adds labelled e
    (ap (λ (vs : List Val). effect_of c.args.p (Record (vals_of vs) labelled)) words.stand
    ∙ ap (λ (xs : List (ℕ × ℕ)). effect_of c.args.p (argument_of h xs c.args.fields.now labelled)) c.deref-2.ensures.value ∙ is))
