-- Free runs.
use Rattle.std.proofs.Common.{ℕ, ◌+◌, ◌≡◌, List, [], ◌∷◌, ◌++◌, length, refl, sym, ap, ◌∙◌, arith}
use Rattle.std.proofs.lemmas.List.{length_push, same_from_push}
use Rattle.pict_core.specs.Configuration.{Configuration}
use Rattle.pict_core.specs.Step.{Label, Steps}
use Rattle.pict_core.specs.Run.{shown}
use Rattle.pict_core.specs.Places.{Place, outcome_at}
use Rattle.pict_core.specs.FreeRun.{FreelyRuns, at_start, by_step}
use Rattle.pict_core.specs.Laws.{FreeRunsAreOne}

not_empty : {X : Type 0} (xs : List X) (x : X) → [] ≡ xs ++ x ∷ [] → ⊥
not_empty xs x e = let l = length_push xs x in omega (arith, ap length e, l)

same_steps : (C D : Configuration) (a b : Label) → Steps C a ≡ Steps D b → (C ≡ D) × (a ≡ b)
same_steps C D a b e = let h : C ≡ D = cc in let k : a ≡ b = cc in (h, k)

one_run : (C : Configuration) (ps qs : List Place) (labels others : List (ℕ × Label)) (D E : Configuration) → FreelyRuns C ps labels D → FreelyRuns C qs others E → ps ≡ qs → (labels ≡ others) × (D ≡ E)
one_run C ps qs labels others D E at_start at_start e = (refl, refl)
one_run C ps qs labels others D E at_start (by_step {places = qs'} {place = q} k is f) e = absurd (not_empty qs' q e)
one_run C ps qs labels others D E (by_step {places = ps'} {place = p} h is f) at_start e = absurd (not_empty ps' p (sym e))
one_run C ps qs labels others D E (by_step {places = ps'} {labels = ls} {D = M} {place = p} {label = a} h is f) (by_step {places = qs'} {labels = ks} {D = N} {place = q} {label = b} k is' g) e =
    let s = same_from_push ps' qs' p q e in
    let r = one_run C ps' qs' ls ks M N h k s.0 in
    let same : Steps D a ≡ Steps E b = sym f ∙ ap (λ x. outcome_at x p) r.1 ∙ ap (outcome_at N) s.1 ∙ g in
    let t = same_steps D E a b same in
    (ap (λ l. l ++ shown (length ps' + 1) a) r.0 ∙ ap (λ (l : List Place). ks ++ shown (length l + 1) a) s.0 ∙ ap (λ x. ks ++ shown (length qs' + 1) x) t.1, t.0)

pub free_runs_are_one : FreeRunsAreOne
free_runs_are_one C places labels others D E h k = one_run C places places labels others D E h k refl
