use Rattle.std.proofs.Common.{ℕ, ◌<◌, [], length, ◌≡◌, ap, sym, ◌∙◌, subst, arith}
use Rattle.std.specs.Option.{unwrap_or}
use Rattle.std.specs.FinMap.{get}
use Rattle.pict_region.proofs.Uses.{Live, Holds, holds_live, holds_width, holds_same, both_taken, both_set, both_same, second_left}
use Rattle.pict_machine_tests.proofs.regions.have_words_of_their_own.Goals as goal

inside : (live : Live) (number width i : ℕ) → Holds live number width → i < width → i < length (unwrap_or (get live number) [])
inside live number width i h below = omega (arith, holds_width live number width h, below)

pub set-requires-clause-live : goal.set-requires-clause-live
set-requires-clause-live c =
    let taken = both_taken _ _ _ _ 2 _ 5 c.take-narrow.ensures.live c.take-wide.ensures.fresh c.take-wide.ensures.live in
    holds_live _ _ _ taken.one

pub set-requires-clause-inside : goal.set-requires-clause-inside
set-requires-clause-inside c =
    let taken = both_taken _ _ _ _ 2 _ 5 c.take-narrow.ensures.live c.take-wide.ensures.fresh c.take-wide.ensures.live in
    inside _ _ _ 1 taken.one (omega arith)

pub set-requires-2-clause-live : goal.set-requires-2-clause-live
set-requires-2-clause-live c =
    let taken = both_taken _ _ _ _ 2 _ 5 c.take-narrow.ensures.live c.take-wide.ensures.fresh c.take-wide.ensures.live in
    let put-1 = both_set _ _ _ _ _ _ _ 1 7 taken c.set.ensures.live in
    holds_live _ _ _ put-1.two

pub set-requires-2-clause-inside : goal.set-requires-2-clause-inside
set-requires-2-clause-inside c =
    let taken = both_taken _ _ _ _ 2 _ 5 c.take-narrow.ensures.live c.take-wide.ensures.fresh c.take-wide.ensures.live in
    let put-1 = both_set _ _ _ _ _ _ _ 1 7 taken c.set.ensures.live in
    inside _ _ _ 4 put-1.two (omega arith)

pub get-requires-clause-live : goal.get-requires-clause-live
get-requires-clause-live c =
    let taken = both_taken _ _ _ _ 2 _ 5 c.take-narrow.ensures.live c.take-wide.ensures.fresh c.take-wide.ensures.live in
    let put-1 = both_set _ _ _ _ _ _ _ 1 7 taken c.set.ensures.live in
    let put-2 = both_set _ _ _ _ _ _ _ 4 9 put-1 c.set-2.ensures.live in
    holds_live _ _ _ put-2.one

pub get-requires-clause-inside : goal.get-requires-clause-inside
get-requires-clause-inside c =
    let taken = both_taken _ _ _ _ 2 _ 5 c.take-narrow.ensures.live c.take-wide.ensures.fresh c.take-wide.ensures.live in
    let put-1 = both_set _ _ _ _ _ _ _ 1 7 taken c.set.ensures.live in
    let put-2 = both_set _ _ _ _ _ _ _ 4 9 put-1 c.set-2.ensures.live in
    inside _ _ _ 1 put-2.one (omega arith)

pub get-requires-2-clause-live : goal.get-requires-2-clause-live
get-requires-2-clause-live c =
    let taken = both_taken _ _ _ _ 2 _ 5 c.take-narrow.ensures.live c.take-wide.ensures.fresh c.take-wide.ensures.live in
    let put-1 = both_set _ _ _ _ _ _ _ 1 7 taken c.set.ensures.live in
    let put-2 = both_set _ _ _ _ _ _ _ 4 9 put-1 c.set-2.ensures.live in
    let read-1 = both_same _ _ _ _ _ _ put-2 (ap (λ r. r.live) c.get.ensures.rest) in
    holds_live _ _ _ read-1.two

pub get-requires-2-clause-inside : goal.get-requires-2-clause-inside
get-requires-2-clause-inside c =
    let taken = both_taken _ _ _ _ 2 _ 5 c.take-narrow.ensures.live c.take-wide.ensures.fresh c.take-wide.ensures.live in
    let put-1 = both_set _ _ _ _ _ _ _ 1 7 taken c.set.ensures.live in
    let put-2 = both_set _ _ _ _ _ _ _ 4 9 put-1 c.set-2.ensures.live in
    let read-1 = both_same _ _ _ _ _ _ put-2 (ap (λ r. r.live) c.get.ensures.rest) in
    inside _ _ _ 4 read-1.two (omega arith)

pub get-requires-3-clause-live : goal.get-requires-3-clause-live
get-requires-3-clause-live c =
    let taken = both_taken _ _ _ _ 2 _ 5 c.take-narrow.ensures.live c.take-wide.ensures.fresh c.take-wide.ensures.live in
    let put-1 = both_set _ _ _ _ _ _ _ 1 7 taken c.set.ensures.live in
    let put-2 = both_set _ _ _ _ _ _ _ 4 9 put-1 c.set-2.ensures.live in
    let read-1 = both_same _ _ _ _ _ _ put-2 (ap (λ r. r.live) c.get.ensures.rest) in
    let read-2 = both_same _ _ _ _ _ _ read-1 (ap (λ r. r.live) c.get-2.ensures.rest) in
    holds_live _ _ _ read-2.two

pub get-requires-3-clause-inside : goal.get-requires-3-clause-inside
get-requires-3-clause-inside c =
    let taken = both_taken _ _ _ _ 2 _ 5 c.take-narrow.ensures.live c.take-wide.ensures.fresh c.take-wide.ensures.live in
    let put-1 = both_set _ _ _ _ _ _ _ 1 7 taken c.set.ensures.live in
    let put-2 = both_set _ _ _ _ _ _ _ 4 9 put-1 c.set-2.ensures.live in
    let read-1 = both_same _ _ _ _ _ _ put-2 (ap (λ r. r.live) c.get.ensures.rest) in
    let read-2 = both_same _ _ _ _ _ _ read-1 (ap (λ r. r.live) c.get-2.ensures.rest) in
    inside _ _ _ 0 read-2.two (omega arith)

pub give-requires : goal.give-requires
give-requires c =
    let taken = both_taken _ _ _ _ 2 _ 5 c.take-narrow.ensures.live c.take-wide.ensures.fresh c.take-wide.ensures.live in
    let put-1 = both_set _ _ _ _ _ _ _ 1 7 taken c.set.ensures.live in
    let put-2 = both_set _ _ _ _ _ _ _ 4 9 put-1 c.set-2.ensures.live in
    let read-1 = both_same _ _ _ _ _ _ put-2 (ap (λ r. r.live) c.get.ensures.rest) in
    let read-2 = both_same _ _ _ _ _ _ read-1 (ap (λ r. r.live) c.get-2.ensures.rest) in
    let read-3 = both_same _ _ _ _ _ _ read-2 (ap (λ r. r.live) c.get-3.ensures.rest) in
    holds_live _ _ _ read-3.one

named : (live : Live) (number width other : ℕ) → Holds live number width → other ≡ number → Holds live other width
named live number width other h same = subst (λ n. Holds live n width) (sym same) h

pub block-wide-requires : goal.block-wide-requires
block-wide-requires c =
    let taken = both_taken _ _ _ _ 2 _ 5 c.take-narrow.ensures.live c.take-wide.ensures.fresh c.take-wide.ensures.live in
    let put-1 = both_set _ _ _ _ _ _ _ 1 7 taken c.set.ensures.live in
    let put-2 = both_set _ _ _ _ _ _ _ 4 9 put-1 c.set-2.ensures.live in
    let read-1 = both_same _ _ _ _ _ _ put-2 (ap (λ r. r.live) c.get.ensures.rest) in
    let read-2 = both_same _ _ _ _ _ _ read-1 (ap (λ r. r.live) c.get-2.ensures.rest) in
    let read-3 = both_same _ _ _ _ _ _ read-2 (ap (λ r. r.live) c.get-3.ensures.rest) in
    let kept = second_left _ _ _ _ _ _ read-3 c.give.ensures.live in
    holds_live _ _ _ (named _ _ _ _ kept c.number-number.ensures)

pub get-is_kept-requires-clause-live : goal.get-is_kept-requires-clause-live
get-is_kept-requires-clause-live c =
    let taken = both_taken _ _ _ _ 2 _ 5 c.take-narrow.ensures.live c.take-wide.ensures.fresh c.take-wide.ensures.live in
    let put-1 = both_set _ _ _ _ _ _ _ 1 7 taken c.set.ensures.live in
    let put-2 = both_set _ _ _ _ _ _ _ 4 9 put-1 c.set-2.ensures.live in
    let read-1 = both_same _ _ _ _ _ _ put-2 (ap (λ r. r.live) c.get.ensures.rest) in
    let read-2 = both_same _ _ _ _ _ _ read-1 (ap (λ r. r.live) c.get-2.ensures.rest) in
    let read-3 = both_same _ _ _ _ _ _ read-2 (ap (λ r. r.live) c.get-3.ensures.rest) in
    let kept = second_left _ _ _ _ _ _ read-3 c.give.ensures.live in
    let reached = holds_same _ _ _ _ kept (ap (λ r. r.live) c.block-wide.ensures.rest) in
    holds_live _ _ _ (named _ _ _ _ reached (c.block-wide.ensures.token ∙ c.number-number.ensures))

pub get-is_kept-requires-clause-inside : goal.get-is_kept-requires-clause-inside
get-is_kept-requires-clause-inside c =
    let taken = both_taken _ _ _ _ 2 _ 5 c.take-narrow.ensures.live c.take-wide.ensures.fresh c.take-wide.ensures.live in
    let put-1 = both_set _ _ _ _ _ _ _ 1 7 taken c.set.ensures.live in
    let put-2 = both_set _ _ _ _ _ _ _ 4 9 put-1 c.set-2.ensures.live in
    let read-1 = both_same _ _ _ _ _ _ put-2 (ap (λ r. r.live) c.get.ensures.rest) in
    let read-2 = both_same _ _ _ _ _ _ read-1 (ap (λ r. r.live) c.get-2.ensures.rest) in
    let read-3 = both_same _ _ _ _ _ _ read-2 (ap (λ r. r.live) c.get-3.ensures.rest) in
    let kept = second_left _ _ _ _ _ _ read-3 c.give.ensures.live in
    let reached = holds_same _ _ _ _ kept (ap (λ r. r.live) c.block-wide.ensures.rest) in
    inside _ _ _ 4 (named _ _ _ _ reached (c.block-wide.ensures.token ∙ c.number-number.ensures)) (omega arith)

pub give-requires-2 : goal.give-requires-2
give-requires-2 c =
    let taken = both_taken _ _ _ _ 2 _ 5 c.take-narrow.ensures.live c.take-wide.ensures.fresh c.take-wide.ensures.live in
    let put-1 = both_set _ _ _ _ _ _ _ 1 7 taken c.set.ensures.live in
    let put-2 = both_set _ _ _ _ _ _ _ 4 9 put-1 c.set-2.ensures.live in
    let read-1 = both_same _ _ _ _ _ _ put-2 (ap (λ r. r.live) c.get.ensures.rest) in
    let read-2 = both_same _ _ _ _ _ _ read-1 (ap (λ r. r.live) c.get-2.ensures.rest) in
    let read-3 = both_same _ _ _ _ _ _ read-2 (ap (λ r. r.live) c.get-3.ensures.rest) in
    let kept = second_left _ _ _ _ _ _ read-3 c.give.ensures.live in
    let reached = holds_same _ _ _ _ kept (ap (λ r. r.live) c.block-wide.ensures.rest) in
    let read-4 = holds_same _ _ _ _ reached (ap (λ r. r.live) c.get-is_kept.ensures.rest) in
    holds_live _ _ _ (named _ _ _ _ read-4 (c.block-wide.ensures.token ∙ c.number-number.ensures))
