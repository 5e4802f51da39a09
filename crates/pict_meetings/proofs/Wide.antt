-- Of the blocks that end one is as wide as another.
use Rattle.std.proofs.Common.{ℕ, ◌+◌, ◌≤◌, ◌≡◌, ◌==◌, true, cond, List, ◌∷◌, length, arith}
use Rattle.std.proofs.lemmas.Bool.Decides.{nat_tests}
use Rattle.pict_meetings.specs.Room.{as_wide}

one_wide : (n width rest : ℕ) → n ≡ width → 1 ≤ cond (n == width) 1 0 + rest
one_wide n width rest e = let test : (n == width) ≡ true = grind (arith, nat_tests) in rw test (omega arith)

pub first_reused : (width : ℕ) (words : List ℕ) (rest : List (List ℕ)) → length words + 1 ≡ width → 1 ≤ as_wide width (words ∷ rest)
first_reused width words rest wide = one_wide (length words + 1) width (as_wide width rest) wide
