use Rattle.std.proofs.Common.{rules}
use Rattle.std.proofs.lemmas.List.Sorted.{IsNonDecreasingBy-from_sort_by_key}
use Rattle.pict_heap.specs.Layout.{label_of}
use Rattle.pict_heap.proofs.heap.sort_fields.Goals as goal

pub returns-clause-sorted : goal.returns-clause-sorted
returns-clause-sorted c = IsNonDecreasingBy-from_sort_by_key label_of _ c.sort_unstable_by_key.ensures.sorted (λ a r q k. search rules)
