-- Steps after steps are steps.
use Rattle.std.proofs.Common.{ℕ, zero, suc, ◌+◌, ◌≡◌, List, [], ◌∷◌, ◌++◌, refl, sym, ap, ◌∙◌, subst, add-zero, add-suc, append_assoc, append-nil}
use Rattle.pict_core.specs.Configuration.{Configuration}
use Rattle.pict_core.specs.Step.{Label, Quiet, Comm, Print}
use Rattle.pict_core.specs.Run.{Reaches, shown, numbered_after}

numbered_both : (n : ℕ) (xs ys : List (ℕ × Label)) → numbered_after n (xs ++ ys) ≡ numbered_after n xs ++ numbered_after n ys
numbered_both n [] ys = refl
numbered_both n (x ∷ xs) ys = ap (λ (ls : List (ℕ × Label)). (n + x.0, x.1) ∷ ls) (numbered_both n xs ys)

numbered_shown : (n m : ℕ) (label : Label) → numbered_after n (shown m label) ≡ shown (n + m) label
numbered_shown n m Quiet = refl
numbered_shown n m (Comm c v) = refl
numbered_shown n m (Print bytes) = refl

pub steps_go_on : (n m : ℕ) (C D E : Configuration) (labels later : List (ℕ × Label)) → Reaches n C labels D → Reaches m D later E → Reaches (n + m) C (labels ++ numbered_after n later) E
steps_go_on n zero C D E labels later r q =
    let there = subst (λ (X : Configuration). Reaches n C labels X) q.0 r in
    let all : labels ++ numbered_after n later ≡ labels = ap (λ (ls : List (ℕ × Label)). labels ++ numbered_after n ls) q.1 ∙ append-nil labels in
    subst (λ (k : ℕ). Reaches k C (labels ++ numbered_after n later) E) (sym (add-zero n)) (subst (λ (ls : List (ℕ × Label)). Reaches n C ls E) (sym all) there)
steps_go_on n (suc m) C D E labels later r (M, before, label, q, steps, is) =
    let reached = steps_go_on n m C D M labels before r q in
    let last : numbered_after n (shown (suc m) label) ≡ shown (suc (n + m)) label = numbered_shown n (suc m) label ∙ ap (λ (k : ℕ). shown k label) (add-suc n m) in
    let all : labels ++ numbered_after n later ≡ (labels ++ numbered_after n before) ++ shown (suc (n + m)) label =
    ap (λ (ls : List (ℕ × Label)). labels ++ numbered_after n ls) is
    ∙ ap (λ (ls : List (ℕ × Label)). labels ++ ls) (numbered_both n before (shown (suc m) label) ∙ ap (λ (ls : List (ℕ × Label)). numbered_after n before ++ ls) last)
    ∙ sym (append_assoc labels (numbered_after n before) (shown (suc (n + m)) label)) in
    subst (λ (k : ℕ). Reaches k C (labels ++ numbered_after n later) E) (sym (add-suc n m)) (M, labels ++ numbered_after n before, label, reached, steps, all)
