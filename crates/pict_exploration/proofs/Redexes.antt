-- The redex of a reduction of one process by itself is one of the components.
use Rattle.std.proofs.Common.{ℕ, zero, suc, ◌+◌, ◌≡◌, Bool, true, false, cond, List, [], ◌∷◌, ◌++◌, map, refl, sym, ap, ◌∙◌, subst, arith, Some}
use Rattle.std.specs.Prelude.{IsPermutation}
use Rattle.std.proofs.lemmas.List.Sorted.{IsPermutation-refl, IsPermutation-trans, IsPermutation-map, IsPermutation-append}
use Rattle.pict_syntax.specs.declared.span.Span.{Span}
use Rattle.pict_core.specs.Term.{Process, Boolean, Zero, Par, New, Out, If}
use Rattle.pict_core.specs.Primitives.{Leaves, Nothing, Answer, Trap}
use Rattle.pict_reduction.specs.Congruence.{Congruent, symmetric, transitive, in_par, in_new, unit, renaming}
use Rattle.pict_reduction.specs.Reduction.{left_by, Reduces}
use Rattle.pict_reduction.specs.Reduction as rule
use Rattle.pict_reduction.specs.Reading.{declare}
use Rattle.pict_reduction.specs.Components.{Components, renamed, make_room, components, Permutes, AreAlike}
use Rattle.pict_reduction.specs.Redex.{Fires, communicates, serves, chooses, performs}
use Rattle.pict_reduction.proofs.Natural.{effect_natural, replace_leaves}
use Rattle.pict_reduction.proofs.Renaming.{then, same, each-then, each_as, each-same}
use Rattle.pict_reduction.proofs.Alike.{permutes_inverse, equal_lists, congruent_are_alike}
use Rattle.pict_reduction.proofs.Reductions.{same_process}
use Rattle.pict_reduction.proofs.Rebuilding.{together, rebuilds, alike_rebuilt, beside_rebuilt}
use Rattle.pict_exploration.specs.Alone.{IsByItself}

-- One component of p fires by itself, and q is what is left beside the others.
pub record FiresAlone (n : ℕ) (bytes : List ℕ) (p q : Process) : Type 0 where
  pub acting : Process
  pub residual : Process
  pub rest : List Process
  pub fires : Fires (n + (components n p).news) bytes (acting ∷ []) residual
  pub chosen : IsPermutation (components n p).primes (acting ∷ rest)
  pub left : Congruent n q (declare (components n p).news (Par residual (together rest)))

-- ---- renamed

left_renamed : (f : ℕ → ℕ) (at : Span) (l : Leaves) (p : Process) → left_by at l ≡ Some p → left_by at (replace_leaves (renaming f) l) ≡ Some (renamed f p)
left_renamed f at Nothing p e = let e' : Zero ≡ p = cc in ap (λ q. Some (renamed f q)) e'
left_renamed f at (Answer k a) p e = let e' : Out k a at ≡ p = cc in ap (λ q. Some (renamed f q)) e'
left_renamed f at Trap p e = cc

chosen_renamed : (f : ℕ → ℕ) (b : Bool) (p q : Process) → cond b (renamed f p) (renamed f q) ≡ renamed f (cond b p q)
chosen_renamed f true p q = refl
chosen_renamed f false p q = refl

-- one process fires by itself under any number of variables, and renamed
fires_renamed : (f : ℕ → ℕ) (m l : ℕ) (bytes : List ℕ) (x : Process) (redex : List Process) (residual : Process) → redex ≡ x ∷ [] → Fires m bytes redex residual → Fires l bytes (map (renamed f) redex) (renamed f residual)
fires_renamed f m l bytes x redex residual e (communicates name h) = cc
fires_renamed f m l bytes x redex residual e (serves name h) = cc
fires_renamed f m l bytes x redex residual e (chooses {b = b} {p = p} {q = q}) = subst (Fires l [] (map (renamed f) (If (Boolean b) p q ∷ []))) (chosen_renamed f b p q) chooses
fires_renamed f m l bytes x redex residual e (performs {f = g} {v = v} {at = at} {effect = effect} {p = p} h k) = performs (effect_natural (renaming f) g v effect h) (left_renamed f at effect.leaves p k)

-- ---- by each rule

module _ (n : ℕ) (bytes : List ℕ) where
  alone_itself : (p q : Process) → components n p ≡ record { news = 0; primes = p ∷ [] } → Fires n bytes (p ∷ []) q → FiresAlone n bytes p q
  alone_itself p q e h =
      let none : (components n p).news ≡ 0 = ap (λ (c : Components). c.news) e in
      let level : n ≡ n + (components n p).news = omega (arith, none) in
      record {
        acting = p;
        residual = q;
        rest = [];
        fires = subst (λ m. Fires m bytes (p ∷ []) q) level h;
        chosen = equal_lists _ _ (ap (λ (c : Components). c.primes) e);
        left = transitive (symmetric unit) (same_process (ap (λ k. declare k (Par q Zero)) (sym none)));
      }

  alone_beside : (p q r : Process) → FiresAlone n bytes p q → FiresAlone n bytes (Par p r) (Par q r)
  alone_beside p q r h =
      let a = components n p in
      let b = components n r in
      let f = make_room (n + a.news) b.news in
      let others : List Process = map (renamed (make_room n a.news)) b.primes in
      record {
        acting = renamed f h.acting;
        residual = renamed f h.residual;
        rest = map (renamed f) h.rest ++ map (renamed (make_room n a.news)) b.primes;
        fires = fires_renamed f (n + a.news) (n + (a.news + b.news)) bytes h.acting (h.acting ∷ []) h.residual refl h.fires;
        chosen = IsPermutation-append _ _ _ _ (IsPermutation-map (renamed f) a.primes (h.acting ∷ h.rest) h.chosen) (IsPermutation-refl others);
        left = transitive (in_par h.left (rebuilds n r)) (beside_rebuilt n (record { news = a.news; primes = h.residual ∷ h.rest }) b);
      }

new_declared : (k : ℕ) (p : Process) → New (declare k p) ≡ declare k (New p)
new_declared zero p = refl
new_declared (suc k) p = new_declared k (New p)

alone_under : (n : ℕ) (bytes : List ℕ) (p q : Process) → FiresAlone (suc n) bytes p q → FiresAlone n bytes (New p) (New q)
alone_under n bytes p q h =
    let c = components (suc n) p in
    let level : suc n + c.news ≡ n + suc c.news = omega arith in
    record {
      acting = h.acting;
      residual = h.residual;
      rest = h.rest;
      fires = subst (λ m. Fires m bytes (h.acting ∷ []) h.residual) level h.fires;
      chosen = h.chosen;
      left = transitive (in_new h.left) (same_process (new_declared c.news (Par h.residual (together h.rest))));
    }

alone_alike : (n : ℕ) (bytes : List ℕ) (p p' q q' : Process) → Congruent n p p' → Congruent n q' q → FiresAlone n bytes p' q' → FiresAlone n bytes p q
alone_alike n bytes p p' q q' c d h =
    let a = components n p in
    let a' = components n p' in
    let alike : AreAlike n a a' = congruent_are_alike n p p' c in
    let f : ℕ → ℕ = alike.permutes.inverse in
    let moves : Permutes n a'.news f = subst (λ k. Permutes n k f) alike.count (permutes_inverse n a.news alike.bijection alike.permutes) in
    let left_alike : AreAlike n (record { news = a'.news; primes = h.residual ∷ h.rest }) (record { news = a.news; primes = renamed f h.residual ∷ map (renamed f) h.rest }) =
    record { count = sym alike.count; bijection = f; permutes = moves; same = IsPermutation-refl _ } in
    record {
      acting = renamed f h.acting;
      residual = renamed f h.residual;
      rest = map (renamed f) h.rest;
      fires = fires_renamed f (n + a'.news) (n + a.news) bytes h.acting (h.acting ∷ []) h.residual refl h.fires;
      chosen = IsPermutation-trans _ _ _
          (equal_lists _ _ (sym (each-then alike.bijection f a.primes ∙ each_as (then alike.bijection f) same alike.permutes.back a.primes ∙ each-same a.primes)))
          (IsPermutation-trans _ _ _ (IsPermutation-map (renamed f) (map (renamed alike.bijection) a.primes) a'.primes alike.same)
          (IsPermutation-map (renamed f) a'.primes (h.acting ∷ h.rest) h.chosen));
      left = transitive (symmetric d) (transitive h.left (alike_rebuilt n _ _ left_alike));
    }

pub fires_by_itself : (n : ℕ) (bytes : List ℕ) (p q : Process) (h : Reduces n bytes p q) → IsByItself h → FiresAlone n bytes p q
fires_by_itself n bytes p q (rule.communicates x e) a = absurd a
fires_by_itself n bytes p q (rule.serves x e) a = absurd a
fires_by_itself n bytes p q rule.chooses a = alone_itself n bytes p q refl chooses
fires_by_itself n bytes p q (rule.performs e h) a = alone_itself n bytes p q refl (performs e h)
fires_by_itself n bytes p q (rule.in_par {p = x} {p' = y} {q = z} h) a = alone_beside n bytes x y z (fires_by_itself n bytes x y h a)
fires_by_itself n bytes p q (rule.in_new {p = x} {p' = y} h) a = alone_under n bytes x y (fires_by_itself (suc n) bytes x y h a)
fires_by_itself n bytes p q (rule.up_to {p' = x} {q' = y} c h d) a = alone_alike n bytes p x q y c d (fires_by_itself n bytes x y h a)
