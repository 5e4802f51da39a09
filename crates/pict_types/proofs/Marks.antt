-- Lists of marks, read from the front.
use Rattle.std.proofs.Common.{◌≡◌, ℕ, ◌+◌, ◌≤◌, ◌<◌, List, [], ◌∷◌, length, get_or, drop, refl, ap₂, add-one, drop-cons, ◌↔◌}
use Rattle.std.proofs.lemmas.List.{drop_all}
use Rattle.pict_syntax.specs.declared.type_tree.Mark.{Mark}

pub marks_drop : (xs : List Mark) (i : ℕ) (d : Mark) → i < length xs → drop i xs ≡ get_or xs i d ∷ drop (i + 1) xs
marks_drop xs i d h = rw (add-one, drop-cons xs i d) refl

pub marks_end : (xs : List Mark) (i : ℕ) → length xs ≤ i → drop i xs ≡ []
marks_end xs i h = drop_all i xs h

pub marks_first : (x y : Mark) (xs ys : List Mark) → (x ∷ xs ≡ y ∷ ys) ↔ ((x ≡ y) × (xs ≡ ys))
marks_first x y xs ys = (λ e. (cc, cc), λ e. ap₂ (λ a b. a ∷ b) e.0 e.1)

pub ruleset marks_compared = (marks_drop, marks_end, marks_first)
