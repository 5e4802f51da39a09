-- The levels that a pattern binds are the next ones.
use Rattle.std.proofs.Common.{ℕ, ◌+◌, ◌<◌, ◌≤◌, ◌≡◌, List, [], ◌∷◌, ◌++◌, subst, arith}
use Rattle.std.specs.List.{AllByRecursion}
use Rattle.pict_core.specs.Closed.{binds, binds_all, binds_labelled}
use Rattle.pict_core.specs.Term as term
use Rattle.pict_core.specs.Term.{Pat, Pats, LabelledPats}
use Rattle.pict_code.specs.Levels.{Rises}
use Rattle.pict_code.specs.Nodes.{leveled, leveled_all, leveled_labelled}
use Rattle.pict_desk.specs.Binding.{levels_of, levels_of_all, levels_of_labelled}

-- the levels increase from the first number on, and stay below the second
abbrev Spans : ℕ → List ℕ → ℕ → Type 0
Spans a [] b = a ≤ b
Spans a (l ∷ ls) b = (a ≤ l) × Spans (l + 1) ls b

spans_from : (a b c : ℕ) (ls : List ℕ) → a ≤ b → Spans b ls c → Spans a ls c
spans_from a b c [] h s = omega arith
spans_from a b c (l ∷ ls) h s = (omega (arith, h, s.0), s.1)

spans_both : (a b c : ℕ) (xs ys : List ℕ) → Spans a xs b → Spans b ys c → Spans a (xs ++ ys) c
spans_both a b c [] ys s t = spans_from a b c ys s t
spans_both a b c (x ∷ xs) ys s t = (s.0, spans_both (x + 1) b c xs ys s.1 t)

mutual
  spans_leveled : (n : ℕ) (p : Pat) → Spans n (levels_of (leveled n p)) (n + binds p)
  spans_leveled n term.Bind = (omega arith, omega arith)
  spans_leveled n term.Any = omega arith
  spans_leveled n (term.RecordPat ps ls) =
      let e : n + binds_all ps + binds_labelled ls ≡ n + (binds_all ps + binds_labelled ls) = omega arith in
      subst (Spans n (levels_of_all (leveled_all n ps) ++ levels_of_labelled (leveled_labelled (n + binds_all ps) ls))) e
      (spans_both n (n + binds_all ps) (n + binds_all ps + binds_labelled ls) (levels_of_all (leveled_all n ps)) (levels_of_labelled (leveled_labelled (n + binds_all ps) ls))
      (spans_all n ps) (spans_labelled (n + binds_all ps) ls))

  spans_all : (n : ℕ) (ps : Pats) → Spans n (levels_of_all (leveled_all n ps)) (n + binds_all ps)
  spans_all n term.no_pats = omega arith
  spans_all n (term.more_pats p ps) =
      let e : n + binds p + binds_all ps ≡ n + (binds p + binds_all ps) = omega arith in
      subst (Spans n (levels_of (leveled n p) ++ levels_of_all (leveled_all (n + binds p) ps))) e
      (spans_both n (n + binds p) (n + binds p + binds_all ps) (levels_of (leveled n p)) (levels_of_all (leveled_all (n + binds p) ps)) (spans_leveled n p) (spans_all (n + binds p) ps))

  spans_labelled : (n : ℕ) (ls : LabelledPats) → Spans n (levels_of_labelled (leveled_labelled n ls)) (n + binds_labelled ls)
  spans_labelled n term.no_labelled_pats = omega arith
  spans_labelled n (term.more_labelled_pats label p ls) =
      let e : n + binds p + binds_labelled ls ≡ n + (binds p + binds_labelled ls) = omega arith in
      subst (Spans n (levels_of (leveled n p) ++ levels_of_labelled (leveled_labelled (n + binds p) ls))) e
      (spans_both n (n + binds p) (n + binds p + binds_labelled ls) (levels_of (leveled n p)) (levels_of_labelled (leveled_labelled (n + binds p) ls)) (spans_leveled n p) (spans_labelled (n + binds p) ls))

spans_rise : (low a b : ℕ) (ls : List ℕ) → low ≤ a → Spans a ls b → Rises low ls
spans_rise low a b [] h s = tt
spans_rise low a b (l ∷ ls) h s = (omega (arith, h, s.0), spans_rise (l + 1) (l + 1) b ls (omega arith) s.1)

spans_end : (a b : ℕ) (ls : List ℕ) → Spans a ls b → a ≤ b
spans_end a b [] s = s
spans_end a b (l ∷ ls) s = omega (arith, s.0, spans_end (l + 1) b ls s.1)

spans_below : (a b n : ℕ) (ls : List ℕ) → b ≤ n → Spans a ls b → AllByRecursion (λ level. level < n) ls
spans_below a b n [] h s = tt
spans_below a b n (l ∷ ls) h s = (omega (arith, h, spans_end (l + 1) b ls s.1), spans_below (l + 1) b n ls h s.1)

module _ (n : ℕ) (p : Pat) where
  pub pattern_rises : Rises 0 (levels_of (leveled n p))
  pattern_rises = spans_rise 0 n (n + binds p) (levels_of (leveled n p)) (omega arith) (spans_leveled n p)

  pub pattern_inside : (d : ℕ) → n + binds p ≤ d → AllByRecursion (λ level. level < d) (levels_of (leveled n p))
  pattern_inside d low = spans_below n (n + binds p) d (levels_of (leveled n p)) low (spans_leveled n p)
