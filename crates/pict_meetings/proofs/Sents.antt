-- What is sent stands for the same where the heap grows.
use Rattle.std.proofs.Common.{ℕ, ◌≡◌, List, [], ◌∷◌, map, refl, ap}
use Rattle.std.specs.List.{AllByRecursion}
use Rattle.pict_core.specs.Plain.{vals_of}
use Rattle.pict_core.specs.Term.{Record, no_labelled}
use Rattle.pict_heap.specs.HeapState.{HeapState, KeepsWords}
use Rattle.pict_desk.specs.Known.{value_in}
use Rattle.pict_desk.specs.Pairs.{IsPair}
use Rattle.pict_turns.proofs.Views.{pair_stays, value_stays}
use Rattle.pict_meetings.specs.Sent.{record_of_pairs, sent_value, IsSent}
use Rattle.pict_meetings.specs.declared.sent.Sent.{Sent}
use Rattle.pict_meetings.specs.declared.sent.Sent.TheVariants.{Whole, Two, Three}

module _ (old new : HeapState) (keeps : KeepsWords old new) where
  values_stay : (pairs : List (ℕ × ℕ)) → AllByRecursion (IsPair old) pairs
      → map (λ (pair : ℕ × ℕ). value_in new pair.0 pair.1) pairs ≡ map (λ (pair : ℕ × ℕ). value_in old pair.0 pair.1) pairs
  values_stay [] all = refl
  values_stay (pair ∷ pairs) all = let one = value_stays old new keeps pair all.0 in let others = values_stay pairs all.1 in cc

  record_stays : (pairs : List (ℕ × ℕ)) → AllByRecursion (IsPair old) pairs → record_of_pairs new pairs ≡ record_of_pairs old pairs
  record_stays pairs all = ap (λ vs. Record (vals_of vs) no_labelled) (values_stay pairs all)

  pairs_stay : (pairs : List (ℕ × ℕ)) → AllByRecursion (IsPair old) pairs → AllByRecursion (IsPair new) pairs
  pairs_stay [] all = tt
  pairs_stay (pair ∷ pairs) all = (pair_stays old new keeps pair all.0, pairs_stay pairs all.1)

  pub sent_stays : (sent : Sent) → IsSent old sent → sent_value new sent ≡ sent_value old sent
  sent_stays (Whole pair) is = value_stays old new keeps pair is
  sent_stays (Two a b) is = record_stays (a ∷ b ∷ []) is
  sent_stays (Three a b c) is = record_stays (a ∷ b ∷ c ∷ []) is

  pub sent_still : (sent : Sent) → IsSent old sent → IsSent new sent
  sent_still (Whole pair) is = pair_stays old new keeps pair is
  sent_still (Two a b) is = pairs_stay (a ∷ b ∷ []) is
  sent_still (Three a b c) is = pairs_stay (a ∷ b ∷ c ∷ []) is
