-- The table of places grows from the end of the list.
use Rattle.std.proofs.Common.{◌≡◌, ℕ, ◌+◌, ◌<◌, nat_eq, Bool, true, false, not, cond, List, ◌∷◌, length, get_or, drop, sym, ◌∙◌, ap, subst, arith}
use Rattle.std.specs.Prelude.{if◌then◌else◌}
use Rattle.std.specs.List.{position_or_len}
use Rattle.std.proofs.lemmas.List.{drop_more}
use Rattle.pict_scope.specs.declared.target.Target.TheVariants.{Prim}
use Rattle.pict_scope.specs.Places.{HasPlacesFrom, SetsPlace}

here_or_later : (i : ℕ) (b : Bool) (p : ℕ) → (if b then i else (i + 1 + p)) ≡ i + cond (not b) (1 + p) 0
here_or_later i true p = omega arith
here_or_later i false p = omega arith

-- the number before has its place
pub one_place : (order table new : List ℕ) (none i x d : ℕ) → i < length order → x ≡ get_or order i d → none ≡ length order → HasPlacesFrom (i + 1) order table → SetsPlace none x i table new → HasPlacesFrom i order new
one_place order table new none i x d h is l k set =
    let head : drop i order ≡ x ∷ drop (i + 1) order = drop_more order i d h ∙ ap (λ y. y ∷ drop (i + 1) order) (sym is) in
    let set : SetsPlace (length order) x i table new = subst (λ m. SetsPlace m x i table new) l set in
    record {
      place = λ n.
          let rest = position_or_len (λ m. nat_eq n m) (drop (i + 1) order) in
          set n ∙ (ap (λ p. if nat_eq n x then i else p) (k.place n) ∙ (here_or_later i (nat_eq n x) rest ∙ sym (ap (λ ms. i + position_or_len (λ m. nat_eq n m) ms) head)));
    }
