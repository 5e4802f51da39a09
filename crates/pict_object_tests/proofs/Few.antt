-- Names grow by one name at most.
use Rattle.std.proofs.Common.{ℕ, ◌+◌, ◌≤◌, List, [], ◌∷◌, inl, inr, length, ap, ◌∙◌, arith}
use Rattle.std.proofs.lemmas.Bool.{cases_Bool}
use Rattle.std.proofs.lemmas.List.{length-append}
use Rattle.pict_syntax.specs.Names.{with_name}
use Rattle.pict_syntax.proofs.NamesLemmas.{has_name, with_there, with_absent}

pub few_more : (names : List (List ℕ)) (text : List ℕ) → length (with_name names text) ≤ length names + 1
few_more names text = elim (cases_Bool (has_name names text)) [
  | inl h ↦ omega (arith, ap length (with_there names text h))
  | inr h ↦ omega (arith, ap length (with_absent names text h) ∙ length-append names (text ∷ []))
]
