-- What is left gives the whole; and each call has less that is wanted.
use Rattle.std.proofs.Common.{◌≡◌, ◌+◌, ◌-◌, ◌*◌, ◌≤◌, length, drop, take}
use Rattle.pict_types.specs.Types.{under}
use Rattle.pict_types.specs.Measures.{size, size_types, size_labels, size_bound, size_bounds}
use Rattle.pict_types.specs.Plain.{plain, plain_bound, plain_bounds, plain_labels, plain_record, plain_types}
use Rattle.pict_sub.specs.Scopes.{scope_context}
use Rattle.pict_rules.specs.Found.{matched_types, matched_labels, matched_bounds}
use Rattle.pict_match.specs.PlainFound.{found_in}
use Rattle.pict_match.proofs.Growing.{Grows}
use Rattle.pict_match.proofs.Lists.{IsLeft}
use Rattle.pict_match.proofs.matching.+matching.Given as goal

abbrev pub invariant-match_types-loop-i : goal.invariant-match_types-loop-i
invariant-match_types-loop-i l = record {
  reached : l.i ≤ length l.given;
  so_far : Grows (found_in l.fn.found) (found_in l.found);
  left : matched_types (scope_context l.scope) l.inner (plain_types (drop l.i l.wanted)) (plain_types (drop l.i l.given)) (found_in l.found) ≡ matched_types (scope_context l.scope) l.inner (plain_types l.wanted) (plain_types l.given) (found_in l.fn.found);
}

abbrev pub invariant-match_labels-loop-i : goal.invariant-match_labels-loop-i
invariant-match_labels-loop-i l = record {
  wanted_in : l.i ≤ length l.wanted;
  given_in : l.j ≤ length l.given;
  so_far : Grows (found_in l.fn.found) (found_in l.found);
  left : IsLeft l.names (scope_context l.scope) l.inner (plain_labels (drop l.i l.wanted)) (plain_labels (drop l.j l.given)) (found_in l.found) (matched_labels (scope_context l.scope) l.inner (plain_labels l.wanted) (plain_labels l.given) (found_in l.fn.found));
}

abbrev pub decreases-match_labels-loop-i : goal.decreases-match_labels-loop-i
decreases-match_labels-loop-i l = (length l.wanted - l.i) + (length l.given - l.j)

abbrev pub invariant-match_bounds-loop-i : goal.invariant-match_bounds-loop-i
invariant-match_bounds-loop-i l = record {
  so_far : Grows (found_in l.fn.found) (found_in l.found);
  left : matched_bounds (under (scope_context l.scope) (plain_bounds (take l.i l.given))) (l.inner + l.i) (plain_bounds (drop l.i l.wanted)) (plain_bounds (drop l.i l.given)) (found_in l.found) ≡ matched_bounds (scope_context l.scope) l.inner (plain_bounds l.wanted) (plain_bounds l.given) (found_in l.fn.found);
}

-- by what is wanted alone: what is given may grow by exposing
abbrev pub decreases-match_at : goal.decreases-match_at
decreases-match_at l = 4 * size (plain l.wanted.now)

abbrev pub decreases-match_contents : goal.decreases-match_contents
decreases-match_contents l = 4 * size (plain l.wanted.now) + 1

abbrev pub decreases-match_body : goal.decreases-match_body
decreases-match_body l = 4 * size (plain l.wanted.now) + 1

abbrev pub decreases-match_arguments : goal.decreases-match_arguments
decreases-match_arguments l = 4 * size_types (plain_types l.wanted.now) + 2

abbrev pub decreases-match_record : goal.decreases-match_record
decreases-match_record l = 4 * size (plain_record l.wanted.now) - 1

abbrev pub decreases-match_records : goal.decreases-match_records
decreases-match_records l = 4 * size (plain_record l.wanted.now) - 2

abbrev pub decreases-match_types : goal.decreases-match_types
decreases-match_types l = 4 * size_types (plain_types l.wanted.now) + 1

abbrev pub decreases-match_labels : goal.decreases-match_labels
decreases-match_labels l = 4 * size_labels (plain_labels l.wanted.now) + 1

abbrev pub decreases-match_bounds : goal.decreases-match_bounds
decreases-match_bounds l = 4 * size_bounds (plain_bounds l.wanted.now) + 1

abbrev pub decreases-match_bound : goal.decreases-match_bound
decreases-match_bound l = 4 * size_bound (plain_bound l.wanted.now)
