-- Two lists of levels in order made one.
use Rattle.std.proofs.Common.{◌≡◌, ℕ, zero, suc, ◌+◌, ◌-◌, ◌<◌, ◌≤◌, ◌==◌, min, Bool, true, false, ◌||◌, List, [], ◌∷◌, ◌++◌, drop, take, length, get_or, nat_le, refl, sym, ap, ◌∙◌, subst, arith, append_assoc, append-nil, ◌⊎◌, inl, inr, ⊎_elim}
use Rattle.std.proofs.lemmas.Bool.Decides.{nat_tests}
use Rattle.std.proofs.lemmas.Bool.{cases_lt}
use Rattle.std.proofs.lemmas.List.{drop_more, take_rest}
use Rattle.std.specs.Int.{from_bool}
use Rattle.pict_syntax.proofs.ListLemmas.{or_assoc}
use Rattle.pict_code.specs.Levels.{has, Rises}
use Rattle.pict_code.proofs.Levels.{has_append}

-- What is made of two lists, and what is left of them: it stands before either rest, and has all levels with them.
pub record Merging (whole_left whole_right made left right : List ℕ) : Type 0 where
  pub before_left : Rises 0 (made ++ left)
  pub before_right : Rises 0 (made ++ right)
  pub same : (level : ℕ) → has level made || (has level left || has level right) ≡ has level whole_left || has level whole_right

rises_between : (low l r : ℕ) (xs ls rs : List ℕ) → Rises low (xs ++ l ∷ ls) → Rises low (xs ++ r ∷ rs) → l < r → Rises low (xs ++ l ∷ r ∷ rs)
rises_between low l r [] ls rs a b h = (a.0, (omega arith, b.1))
rises_between low l r (x ∷ xs) ls rs a b h = (a.0, rises_between (x + 1) l r xs ls rs a.1 b.1 h)

moved_left : (m e a b : Bool) → (m || (e || false)) || (a || b) ≡ m || ((e || a) || b)
moved_left true e a b = refl
moved_left false true a b = refl
moved_left false false a b = refl

moved_right : (m e a b : Bool) → (m || (e || false)) || (a || b) ≡ m || (a || (e || b))
moved_right true e a b = refl
moved_right false true true b = refl
moved_right false true false b = refl
moved_right false false a b = refl

moved_both : (m e a b : Bool) → (m || (e || false)) || (a || b) ≡ m || ((e || a) || (e || b))
moved_both true e a b = refl
moved_both false true a b = refl
moved_both false false a b = refl

module _ (L R made : List ℕ) (l r : ℕ) (ls rs : List ℕ) (m : Merging L R made (l ∷ ls) (r ∷ rs)) where
  take_left : l < r → Merging L R (made ++ l ∷ []) ls (r ∷ rs)
  take_left h = record {
    before_left = subst (Rises 0) (sym (append_assoc made (l ∷ []) ls)) m.before_left;
    before_right = subst (Rises 0) (sym (append_assoc made (l ∷ []) (r ∷ rs))) (rises_between 0 l r made ls rs m.before_left m.before_right h);
    same = λ level. ap (λ b. b || (has level ls || has level (r ∷ rs))) (has_append level made (l ∷ [])) ∙ moved_left (has level made) (level == l) (has level ls) (has level (r ∷ rs)) ∙ m.same level;
  }

  take_right : r < l → Merging L R (made ++ r ∷ []) (l ∷ ls) rs
  take_right h = record {
    before_left = subst (Rises 0) (sym (append_assoc made (r ∷ []) (l ∷ ls))) (rises_between 0 r l made rs ls m.before_right m.before_left h);
    before_right = subst (Rises 0) (sym (append_assoc made (r ∷ []) rs)) m.before_right;
    same = λ level. ap (λ b. b || (has level (l ∷ ls) || has level rs)) (has_append level made (r ∷ [])) ∙ moved_right (has level made) (level == r) (has level (l ∷ ls)) (has level rs) ∙ m.same level;
  }

  take_both : l ≡ r → Merging L R (made ++ l ∷ []) ls rs
  take_both e = record {
    before_left = subst (Rises 0) (sym (append_assoc made (l ∷ []) ls)) m.before_left;
    before_right = subst (Rises 0) (sym (append_assoc made (l ∷ []) rs)) (subst (λ x. Rises 0 (made ++ x ∷ rs)) (sym e) m.before_right);
    same = λ level. ap (λ b. b || (has level ls || has level rs)) (has_append level made (l ∷ [])) ∙ moved_both (has level made) (level == l) (has level ls) (has level rs)
        ∙ ap (λ x. has level made || (has level (l ∷ ls) || ((level == x) || has level rs))) e ∙ m.same level;
  }

-- one turn of the loop: the lesser of the two, and each rest that begins with it goes on
module _ (L R made : List ℕ) (i j : ℕ) (in_left : i < length L) (in_right : j < length R) (m : Merging L R made (drop i L) (drop j R)) where
  split : Merging L R made (get_or L i 0 ∷ drop (i + 1) L) (get_or R j 0 ∷ drop (j + 1) R)
  split = subst (λ l. Merging L R made l (get_or R j 0 ∷ drop (j + 1) R)) (drop_more L i 0 in_left) (subst (λ r. Merging L R made (drop i L) r) (drop_more R j 0 in_right) m)

  left_goes : get_or L i 0 < get_or R j 0 → Merging L R (made ++ get_or L i 0 ∷ []) (drop (i + 1) L) (drop j R)
  left_goes h = subst (λ r. Merging L R (made ++ get_or L i 0 ∷ []) (drop (i + 1) L) r) (sym (drop_more R j 0 in_right))
      (take_left L R made (get_or L i 0) (get_or R j 0) (drop (i + 1) L) (drop (j + 1) R) split h)

  right_goes : get_or R j 0 < get_or L i 0 → Merging L R (made ++ get_or R j 0 ∷ []) (drop i L) (drop (j + 1) R)
  right_goes h = subst (λ l. Merging L R (made ++ get_or R j 0 ∷ []) l (drop (j + 1) R)) (sym (drop_more L i 0 in_left))
      (take_right L R made (get_or L i 0) (get_or R j 0) (drop (i + 1) L) (drop (j + 1) R) split h)

  both_go : get_or L i 0 ≡ get_or R j 0 → Merging L R (made ++ get_or L i 0 ∷ []) (drop (i + 1) L) (drop (j + 1) R)
  both_go e = take_both L R made (get_or L i 0) (get_or R j 0) (drop (i + 1) L) (drop (j + 1) R) split e

  put : (made' : List ℕ) (x y k k' n n' : ℕ) → made' ≡ made ++ x ∷ [] → x ≡ y → k ≡ k' → n ≡ n' → Merging L R (made ++ y ∷ []) (drop k' L) (drop n' R) → Merging L R made' (drop k L) (drop n R)
  put made' x y k k' n n' e f g h done =
      subst (λ l. Merging L R l (drop k L) (drop n R)) (sym e) (subst (λ z. Merging L R (made ++ z ∷ []) (drop k L) (drop n R)) (sym f)
      (subst (λ z. Merging L R (made ++ y ∷ []) (drop z L) (drop n R)) (sym g) (subst (λ z. Merging L R (made ++ y ∷ []) (drop k' L) (drop z R)) (sym h) done)))

  pub step : (made' : List ℕ) (x k n : ℕ) → made' ≡ made ++ x ∷ [] → x ≡ min (get_or L i 0) (get_or R j 0)
      → k ≡ i + from_bool (nat_le (get_or L i 0) (get_or R j 0)) → n ≡ j + from_bool (nat_le (get_or R j 0) (get_or L i 0)) → Merging L R made' (drop k L) (drop n R)
  step made' x k n e f g h =
      ⊎_elim
      (λ (less : get_or L i 0 < get_or R j 0).
      let a : nat_le (get_or L i 0) (get_or R j 0) ≡ true = grind (arith, nat_tests) in
      let b : nat_le (get_or R j 0) (get_or L i 0) ≡ false = grind (arith, nat_tests) in
      let lesser : x ≡ get_or L i 0 = omega arith in
      let on : n ≡ j = h ∙ ap (λ t. j + from_bool t) b ∙ omega arith in
      put made' x (get_or L i 0) k (i + 1) n j e lesser (g ∙ ap (λ t. i + from_bool t) a) on (left_goes less))
      (λ (high : get_or R j 0 ≤ get_or L i 0). ⊎_elim
      (λ (more : get_or R j 0 < get_or L i 0).
      let a : nat_le (get_or L i 0) (get_or R j 0) ≡ false = grind (arith, nat_tests) in
      let b : nat_le (get_or R j 0) (get_or L i 0) ≡ true = grind (arith, nat_tests) in
      let lesser : x ≡ get_or R j 0 = omega arith in
      let on : k ≡ i = g ∙ ap (λ t. i + from_bool t) a ∙ omega arith in
      put made' x (get_or R j 0) k i n (j + 1) e lesser on (h ∙ ap (λ t. j + from_bool t) b) (right_goes more))
      (λ (low : get_or L i 0 ≤ get_or R j 0).
      let same : get_or L i 0 ≡ get_or R j 0 = omega arith in
      let a : nat_le (get_or L i 0) (get_or R j 0) ≡ true = grind (arith, nat_tests) in
      let b : nat_le (get_or R j 0) (get_or L i 0) ≡ true = grind (arith, nat_tests) in
      let lesser : x ≡ get_or L i 0 = omega arith in
      put made' x (get_or L i 0) k (i + 1) n (j + 1) e lesser (g ∙ ap (λ t. i + from_bool t) a) (h ∙ ap (λ t. j + from_bool t) b) (both_go same))
      (cases_lt (get_or R j 0) (get_or L i 0)))
      (cases_lt (get_or L i 0) (get_or R j 0))

-- one of the rests is empty at the end
pub ends_rising : (L R made left right : List ℕ) → Merging L R made left right → (length left ≡ 0) ⊎ (length right ≡ 0) → Rises 0 ((made ++ left) ++ right)
ends_rising L R made [] right m e = subst (λ l. Rises 0 (l ++ right)) (sym (append-nil made)) m.before_right
ends_rising L R made (l ∷ ls) [] m e = subst (Rises 0) (sym (append-nil (made ++ l ∷ ls))) m.before_left
ends_rising L R made (l ∷ ls) (r ∷ rs) m (inl e) = absurd (omega arith)
ends_rising L R made (l ∷ ls) (r ∷ rs) m (inr e) = absurd (omega arith)

ends_same : (L R made left right : List ℕ) → Merging L R made left right → (level : ℕ) → has level ((made ++ left) ++ right) ≡ has level L || has level R
ends_same L R made left right m level =
    has_append level (made ++ left) right ∙ ap (λ b. b || has level right) (has_append level made left)
    ∙ or_assoc (has level made) (has level left) (has level right) ∙ m.same level

pub at_most_one : (b : Bool) → from_bool b ≤ 1
at_most_one true = omega arith
at_most_one false = omega arith

-- both rests behind what was made
pub ended : (L R made mid new : List ℕ) (i j : ℕ) → mid ≡ made ++ take (length L - i) (drop i L) → new ≡ mid ++ take (length R - j) (drop j R) → Merging L R made (drop i L) (drop j R)
    → (level : ℕ) → has level new ≡ has level L || has level R
ended L R made mid new i j e f m level =
    let whole : new ≡ (made ++ drop i L) ++ drop j R =
    f ∙ ap (λ l. l ++ take (length R - j) (drop j R)) (e ∙ ap (λ l. made ++ l) (take_rest L i)) ∙ ap (λ l. (made ++ drop i L) ++ l) (take_rest R j) in
    ap (has level) whole ∙ ends_same L R made (drop i L) (drop j R) m level
