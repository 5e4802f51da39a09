-- Marks are the same exactly where they compare so.
use Rattle.std.proofs.Common.{◌≡◌, Bool, true, false, ◌&&◌, List, [], ◌∷◌, refl, sym, ap₂, subst, ◌↔◌}
use Rattle.pict_syntax.specs.declared.type_tree.Mark.{Mark}
use Rattle.pict_syntax.specs.declared.type_tree.Mark.TheVariants.{Plus, Minus, Plain as Unmarked}
use Rattle.pict_rules.specs.Shapes.{same_mark, same_marks}

mark_alike : (a b : Mark) → same_mark a b ≡ true → a ≡ b
mark_alike Plus Plus h = refl
mark_alike Minus Minus h = refl
mark_alike Unmarked Unmarked h = refl
mark_alike _ _ h = absurd cc

mark_itself : (a : Mark) → same_mark a a ≡ true
mark_itself Plus = refl
mark_itself Minus = refl
mark_itself Unmarked = refl

both_true : (a b : Bool) → a && b ≡ true → (a ≡ true) × (b ≡ true)
both_true true b h = (refl, h)
both_true false b h = absurd cc

marks_alike : (ns ms : List Mark) → same_marks ns ms ≡ true → ns ≡ ms
marks_alike [] [] h = refl
marks_alike [] (m ∷ ms) h = absurd cc
marks_alike (n ∷ ns) [] h = absurd cc
marks_alike (n ∷ ns) (m ∷ ms) h =
    let q = both_true (same_mark n m) (same_marks ns ms) h in
    ap₂ (λ x xs. x ∷ xs) (mark_alike n m q.0) (marks_alike ns ms q.1)

marks_themselves : (ms : List Mark) → same_marks ms ms ≡ true
marks_themselves [] = refl
marks_themselves (m ∷ ms) = ap₂ (λ x y. x && y) (mark_itself m) (marks_themselves ms)

pub same_marks_exactly : (ns ms : List Mark) → (same_marks ns ms ≡ true) ↔ (ns ≡ ms)
same_marks_exactly ns ms = (marks_alike ns ms, λ e. subst (λ xs. same_marks ns xs ≡ true) e (marks_themselves ns))

-- an answer that is true exactly where the marks are the same
pub same_marks_answered : (b : Bool) (ns ms : List Mark) → ((b ≡ true) ↔ (ns ≡ ms)) → b ≡ same_marks ns ms
same_marks_answered true ns ms h = sym ((same_marks_exactly ns ms).1 (h.0 refl))
same_marks_answered false ns ms h = none (same_marks ns ms) (λ e. h.1 ((same_marks_exactly ns ms).0 e))
  where
    none : (x : Bool) → (x ≡ true → false ≡ true) → false ≡ x
    none false k = refl
    none true k = k refl
