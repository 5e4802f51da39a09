-- Frames: the free variables of a process, by their levels.
use Rattle.std.specs.Prelude.{ℕ, zero, suc, ◌==◌, ◌||◌, Bool, false, List, [], ◌∷◌, ◌++◌, filter}
use Rattle.pict_core.specs.Term.{Val, Vals, Labelled, Var, Record, no_vals, more_vals, no_labelled, more_labelled, Process, Zero, Par, New, Out, In, If}

-- whether the variable of this level occurs
abbrev mutual
  pub in_value : ℕ → Val → Bool
  in_value level (Var l) = level == l
  in_value level (Record vs ls) = in_values level vs || in_labelled level ls
  in_value level _ = false

  pub in_values : ℕ → Vals → Bool
  in_values level no_vals = false
  in_values level (more_vals v vs) = in_value level v || in_values level vs

  pub in_labelled : ℕ → Labelled → Bool
  in_labelled level no_labelled = false
  in_labelled level (more_labelled label v ls) = in_value level v || in_labelled level ls

abbrev pub occurs : ℕ → Process → Bool
occurs level Zero = false
occurs level (Par p q) = occurs level p || occurs level q
occurs level (New p) = occurs level p
occurs level (Out chan message at) = in_value level chan || in_value level message
occurs level (In chan replicated pattern body) = in_value level chan || occurs level body
occurs level (If test p q) = in_value level test || (occurs level p || occurs level q)

-- 0, 1, .. n - 1
abbrev pub levels_below : ℕ → List ℕ
levels_below zero = []
levels_below (suc n) = levels_below n ++ n ∷ []

-- The frame of a process around which n variables are bound: those of them that occur in it, increasing. The levels from n
-- on are bound inside.
abbrev pub frame_of : ℕ → Process → List ℕ
frame_of n p = filter (λ level. occurs level p) (levels_below n)
