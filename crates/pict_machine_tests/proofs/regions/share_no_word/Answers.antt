use Rattle.std.proofs.Common.{◌≡◌, ℕ, ◌+◌, ◌<◌, ◌≤◌, List, [], length, get_or, ap, sym, subst, arith}
use Rattle.std.specs.Option.{unwrap_or}
use Rattle.std.specs.FinMap.{get}
use Rattle.pict_region.proofs.Uses.{Live, Holds, holds_live, holds_width, holds_same, holds_taken, apart_from_new, holds_beside, HoldsBoth, both_taken, both_set, both_same, second_left}
use Rattle.pict_machine_tests.proofs.regions.share_no_word.Goals as goal

inside : (live : Live) (number width i : ℕ) → Holds live number width → i < width → i < length (unwrap_or (get live number) [])
inside live number width i h below = omega (arith, holds_width live number width h, below)

some_spare : (free : List ℕ) (width wanted n : ℕ) → get_or free width 0 ≡ n + 1 → width ≡ wanted → 1 ≤ get_or free wanted 0
some_spare free width wanted n is same = subst (λ w. 1 ≤ get_or free w 0) same (omega (arith, is))

pub set-requires-clause-live : goal.set-requires-clause-live
set-requires-clause-live c =
    let taken = both_taken _ _ _ _ 3 _ 3 c.take-first.ensures.live c.take-second.ensures.fresh c.take-second.ensures.live in
    holds_live _ _ _ taken.one

pub set-requires-clause-inside : goal.set-requires-clause-inside
set-requires-clause-inside c =
    let taken = both_taken _ _ _ _ 3 _ 3 c.take-first.ensures.live c.take-second.ensures.fresh c.take-second.ensures.live in
    inside _ _ _ 1 taken.one (omega arith)

pub get-requires-clause-live : goal.get-requires-clause-live
get-requires-clause-live c =
    let taken = both_taken _ _ _ _ 3 _ 3 c.take-first.ensures.live c.take-second.ensures.fresh c.take-second.ensures.live in
    let put = both_set _ _ _ _ _ _ _ 1 7 taken c.set.ensures.live in
    holds_live _ _ _ put.one

pub get-requires-clause-inside : goal.get-requires-clause-inside
get-requires-clause-inside c =
    let taken = both_taken _ _ _ _ 3 _ 3 c.take-first.ensures.live c.take-second.ensures.fresh c.take-second.ensures.live in
    let put = both_set _ _ _ _ _ _ _ 1 7 taken c.set.ensures.live in
    inside _ _ _ 1 put.one (omega arith)

pub get-requires-2-clause-live : goal.get-requires-2-clause-live
get-requires-2-clause-live c =
    let taken = both_taken _ _ _ _ 3 _ 3 c.take-first.ensures.live c.take-second.ensures.fresh c.take-second.ensures.live in
    let put = both_set _ _ _ _ _ _ _ 1 7 taken c.set.ensures.live in
    let read-1 = both_same _ _ _ _ _ _ put (ap (λ r. r.live) c.get.ensures.rest) in
    holds_live _ _ _ read-1.two

pub get-requires-2-clause-inside : goal.get-requires-2-clause-inside
get-requires-2-clause-inside c =
    let taken = both_taken _ _ _ _ 3 _ 3 c.take-first.ensures.live c.take-second.ensures.fresh c.take-second.ensures.live in
    let put = both_set _ _ _ _ _ _ _ 1 7 taken c.set.ensures.live in
    let read-1 = both_same _ _ _ _ _ _ put (ap (λ r. r.live) c.get.ensures.rest) in
    inside _ _ _ 1 read-1.two (omega arith)

pub give-requires : goal.give-requires
give-requires c =
    let taken = both_taken _ _ _ _ 3 _ 3 c.take-first.ensures.live c.take-second.ensures.fresh c.take-second.ensures.live in
    let put = both_set _ _ _ _ _ _ _ 1 7 taken c.set.ensures.live in
    let read-1 = both_same _ _ _ _ _ _ put (ap (λ r. r.live) c.get.ensures.rest) in
    let read-2 = both_same _ _ _ _ _ _ read-1 (ap (λ r. r.live) c.get-2.ensures.rest) in
    holds_live _ _ _ read-2.one

pub take-third-requires : goal.take-third-requires
take-third-requires c =
    let taken = both_taken _ _ _ _ 3 _ 3 c.take-first.ensures.live c.take-second.ensures.fresh c.take-second.ensures.live in
    let put = both_set _ _ _ _ _ _ _ 1 7 taken c.set.ensures.live in
    let read-1 = both_same _ _ _ _ _ _ put (ap (λ r. r.live) c.get.ensures.rest) in
    let read-2 = both_same _ _ _ _ _ _ read-1 (ap (λ r. r.live) c.get-2.ensures.rest) in
    some_spare c.give.new.self.free _ 3 _ c.give.ensures.spare (holds_width _ _ _ read-2.one)

pub get-requires-3-clause-live : goal.get-requires-3-clause-live
get-requires-3-clause-live c =
    let third = holds_taken _ _ _ 3 c.take-third.ensures.live in
    holds_live _ _ _ third

pub get-requires-3-clause-inside : goal.get-requires-3-clause-inside
get-requires-3-clause-inside c =
    let third = holds_taken _ _ _ 3 c.take-third.ensures.live in
    inside _ _ _ 0 third (omega arith)

pub get-requires-4-clause-live : goal.get-requires-4-clause-live
get-requires-4-clause-live c =
    let third = holds_taken _ _ _ 3 c.take-third.ensures.live in
    let read-3 = holds_same _ _ _ _ third (ap (λ r. r.live) c.get-3.ensures.rest) in
    holds_live _ _ _ read-3

pub get-requires-4-clause-inside : goal.get-requires-4-clause-inside
get-requires-4-clause-inside c =
    let third = holds_taken _ _ _ 3 c.take-third.ensures.live in
    let read-3 = holds_same _ _ _ _ third (ap (λ r. r.live) c.get-3.ensures.rest) in
    inside _ _ _ 1 read-3 (omega arith)

pub get-requires-5-clause-live : goal.get-requires-5-clause-live
get-requires-5-clause-live c =
    let third = holds_taken _ _ _ 3 c.take-third.ensures.live in
    let read-3 = holds_same _ _ _ _ third (ap (λ r. r.live) c.get-3.ensures.rest) in
    let read-4 = holds_same _ _ _ _ read-3 (ap (λ r. r.live) c.get-4.ensures.rest) in
    holds_live _ _ _ read-4

pub get-requires-5-clause-inside : goal.get-requires-5-clause-inside
get-requires-5-clause-inside c =
    let third = holds_taken _ _ _ 3 c.take-third.ensures.live in
    let read-3 = holds_same _ _ _ _ third (ap (λ r. r.live) c.get-3.ensures.rest) in
    let read-4 = holds_same _ _ _ _ read-3 (ap (λ r. r.live) c.get-4.ensures.rest) in
    inside _ _ _ 2 read-4 (omega arith)

pub give-requires-2 : goal.give-requires-2
give-requires-2 c =
    let taken = both_taken _ _ _ _ 3 _ 3 c.take-first.ensures.live c.take-second.ensures.fresh c.take-second.ensures.live in
    let put = both_set _ _ _ _ _ _ _ 1 7 taken c.set.ensures.live in
    let read-1 = both_same _ _ _ _ _ _ put (ap (λ r. r.live) c.get.ensures.rest) in
    let read-2 = both_same _ _ _ _ _ _ read-1 (ap (λ r. r.live) c.get-2.ensures.rest) in
    let kept = second_left _ _ _ _ _ _ read-2 c.give.ensures.live in
    let all : HoldsBoth c.take-third.new.self.live c.take-third.result 3 c.take-second.result 3 = record { one = holds_taken _ _ _ 3 c.take-third.ensures.live; two = holds_beside _ _ _ _ _ _ kept c.take-third.ensures.fresh c.take-third.ensures.live; apart = apart_from_new _ _ _ _ kept c.take-third.ensures.fresh } in
    let read-3 = both_same _ _ _ _ _ _ all (ap (λ r. r.live) c.get-3.ensures.rest) in
    let read-4 = both_same _ _ _ _ _ _ read-3 (ap (λ r. r.live) c.get-4.ensures.rest) in
    let read-5 = both_same _ _ _ _ _ _ read-4 (ap (λ r. r.live) c.get-5.ensures.rest) in
    holds_live _ _ _ read-5.two

pub give-requires-3 : goal.give-requires-3
give-requires-3 c =
    let taken = both_taken _ _ _ _ 3 _ 3 c.take-first.ensures.live c.take-second.ensures.fresh c.take-second.ensures.live in
    let put = both_set _ _ _ _ _ _ _ 1 7 taken c.set.ensures.live in
    let read-1 = both_same _ _ _ _ _ _ put (ap (λ r. r.live) c.get.ensures.rest) in
    let read-2 = both_same _ _ _ _ _ _ read-1 (ap (λ r. r.live) c.get-2.ensures.rest) in
    let kept = second_left _ _ _ _ _ _ read-2 c.give.ensures.live in
    let all : HoldsBoth c.take-third.new.self.live c.take-second.result 3 c.take-third.result 3 = record { one = holds_beside _ _ _ _ _ _ kept c.take-third.ensures.fresh c.take-third.ensures.live; two = holds_taken _ _ _ 3 c.take-third.ensures.live; apart = λ same. apart_from_new _ _ _ _ kept c.take-third.ensures.fresh (sym same) } in
    let read-3 = both_same _ _ _ _ _ _ all (ap (λ r. r.live) c.get-3.ensures.rest) in
    let read-4 = both_same _ _ _ _ _ _ read-3 (ap (λ r. r.live) c.get-4.ensures.rest) in
    let read-5 = both_same _ _ _ _ _ _ read-4 (ap (λ r. r.live) c.get-5.ensures.rest) in
    holds_live _ _ _ (second_left _ _ _ _ _ _ read-5 c.give-2.ensures.live)
