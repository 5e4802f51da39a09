-- The kinds that were tried so far, and those of them that were found.
use Rattle.std.proofs.Common.{◌≡◌, ℕ, ◌+◌, ◌<◌, Bool, true, false, List, [], ◌∷◌, ◌++◌, length, take, get_or, sym, ap, subst, ◌∙◌, ◌↔◌, IsTrue}
use Rattle.std.proofs.Math.Seq.{take-length}
use Rattle.std.proofs.lemmas.List.{take_more}
use Rattle.pict_syntax.specs.declared.token.Token.{Token}
use Rattle.pict_follow.specs.declared.class.Class.{Class}
use Rattle.pict_follow.specs.Follow.{AreThose, taken, left_out, CanFollow}

-- all of these
pub all_of : {X : Type 0} (xs : List X) (n : ℕ) → n ≡ length xs → take n xs ≡ xs
all_of xs n h = ap (λ m. take m xs) h ∙ take-length xs

differ : (b : Bool) → b ≡ false → IsTrue b → ⊥
differ b h t = cc

-- one kind more is tried, behind tokens that are as they were
module _ (start ts : List Token) (classes : List Class) (i : ℕ) (d : Class) (old : List Class) (b : Bool) (same : ts ≡ start) (within : i < length classes) (before : AreThose (CanFollow start) (take i classes) old) (tried : IsTrue b ↔ CanFollow ts (get_or classes i d)) where
  abbrev class : Class
  class = get_or classes i d

  next : take i classes ++ class ∷ [] ≡ take (i + 1) classes
  next = sym (take_more classes i d within)

  pub step_found : (new : List Class) → b ≡ true → new ≡ old ++ get_or classes i d ∷ [] → AreThose (CanFollow start) (take (i + 1) classes) new
  step_found new h e =
      let stands : CanFollow start class = subst (λ l. CanFollow l class) same (tried.0 h) in
      subst (AreThose (CanFollow start) (take (i + 1) classes)) (sym e) (subst (λ l. AreThose (CanFollow start) l (old ++ class ∷ [])) next (taken {xs = take i classes} {ys = old} {x = class} before stands))

  pub step_not : (new : List Class) → b ≡ false → new ≡ old → AreThose (CanFollow start) (take (i + 1) classes) new
  step_not new h e =
      subst (AreThose (CanFollow start) (take (i + 1) classes)) (sym e)
      (subst (λ l. AreThose (CanFollow start) l old) next (left_out {xs = take i classes} {ys = old} {x = class} before (λ p. differ b h (tried.1 (subst (λ l. CanFollow l class) (sym same) p)))))
