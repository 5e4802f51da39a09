-- Marks of the parameters of an operator, one part of its body after another.
use Rattle.std.proofs.Common.{◌≡◌, ℕ, ◌<◌, List, length, get_or, Bool, false, sym, ◌∙◌, ap, subst}
use Rattle.std.specs.Prelude.{◌||◌}
use Rattle.pict_syntax.proofs.ListLemmas.{or_assoc}
use Rattle.pict_normal.specs.Uses.{AreMarked}

-- the parameters that are marked, and those of what is left, are those that were and those of the whole
pub record MarkedSoFar (all rest : ℕ → Bool) (before now : List Bool) : Type 0 where
  pub length_ : length now ≡ length before
  pub each : (i : ℕ) → i < length before → (get_or now i false || rest i) ≡ (get_or before i false || all i)

-- three parts
pub marked_three : {a b c d : List Bool} {f g h : ℕ → Bool} (all : ℕ → Bool) → ((i : ℕ) → all i ≡ (f i || (g i || h i))) → length b ≡ length a → length c ≡ length b → AreMarked f a b → AreMarked g b c → AreMarked h c d → AreMarked all a d
marked_three {a = a} {b = b} {c = c} {d = d} {f = f} {g = g} {h = h} all e l k x y z = record {
  each = λ i p.
      let q : i < length b = subst (λ n. i < n) (sym l) p in
      let r : i < length c = subst (λ n. i < n) (sym k) q in
      z.each i r
      ∙ ap (λ v. v || h i) (y.each i q ∙ ap (λ v. v || g i) (x.each i p))
      ∙ or_assoc (get_or a i false || f i) (g i) (h i)
      ∙ or_assoc (get_or a i false) (f i) (g i || h i)
      ∙ ap (λ v. get_or a i false || v) (sym (e i));
}

-- the same test
pub marked_as : {test : ℕ → Bool} {before after : List Bool} (same : ℕ → Bool) → ((i : ℕ) → same i ≡ test i) → AreMarked test before after → AreMarked same before after
marked_as {test = test} {before = before} same e m = record { each = λ i p. m.each i p ∙ ap (λ v. get_or before i false || v) (sym (e i)) }
