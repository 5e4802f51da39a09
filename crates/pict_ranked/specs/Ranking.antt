-- What a ranked list stands for, and its slots.
use Rattle.std.specs.Prelude.{ℕ, ◌≤◌, ◌≡◌, ◌-◌, List, [], ◌∷◌, ◌++◌, length, map, replicate, Option, Some, None, refl}
use Rattle.std.specs.Coded.{Coded, code_by, coded×, coded_list, coded_ℕ}

-- A list, and how many more may be pushed before room has to be made.
pub record Ranking (X : Type 0) : Type 0 where
  pub items : List X
  pub room : ℕ

-- what stands in slots, in order
abbrev pub standing : {X : Type 0} → List (Option X) → List X
standing [] = []
standing (None ∷ slots) = standing slots
standing (Some x ∷ slots) = x ∷ standing slots

-- 1 for a slot in which something stands, 0 for an empty one
abbrev pub one_if_full : {X : Type 0} → Option X → ℕ
one_if_full None = 0
one_if_full (Some x) = 1

-- The counts are those of the slots, and 0 for each slot that isn't used yet. Each count has a slot in memory.
pub record IsRanked {X : Type 0} (slots : List (Option X)) (capacity : ℕ) (counts : List ℕ) : Type 0 where
  pub full : counts ≡ map one_if_full slots ++ replicate (length counts - length slots) 0
  pub within : length slots ≤ length counts
  pub fits : length counts ≤ capacity

-- a ranking is stored as the pair of its fields
abbrev pub ranking_code : {X : Type 0} → Coded X → Coded (Ranking X)
ranking_code c =
    code_by (List _ × ℕ) (coded× (coded_list c) coded_ℕ) (λ r. (r.items, r.room))
    (λ p. record { items = p.0; room = p.1 }) (λ _. refl)
