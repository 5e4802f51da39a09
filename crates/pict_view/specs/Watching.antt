-- What a watcher of a run has seen, and how a run ends.
use Rattle.std.specs.Prelude.{ℕ, ◌≡◌, ◌≤◌, ◌⊎◌, List, [], ◌∷◌, ◌++◌, Option, Some, None}
use Rattle.pict_core.specs.Configuration.{Configuration, IsConfiguration}
use Rattle.pict_core.specs.Step.{Label}
use Rattle.pict_core.specs.Run.{End, Reaches, RunsFrom, steps_done}
use Rattle.pict_view.specs.View.{View, StandsFor}

-- Where a view is told, it is told afterwards too, and is then as P says.
abbrev pub WhereTold : (List ℕ → List ℕ → Type 0) → Option (List ℕ) → Option (List ℕ) → Type 0
WhereTold P None after = Unit {0}
WhereTold P (Some before) None = ⊥
WhereTold P (Some before) (Some after) = P before after

-- the view after these labels were shown, in order, with their step numbers
abbrev pub view_after : (List ℕ → ℕ → Label → List ℕ) → List ℕ → List (ℕ × Label) → List ℕ
view_after next view [] = view
view_after next view (l ∷ ls) = view_after next (next view l.0 l.1) ls

-- the view is as if the watcher had seen exactly these labels
abbrev pub Saw : (List ℕ → ℕ → Label → List ℕ) → Option (List ℕ) → Option (List ℕ) → List (ℕ × Label) → Type 0
Saw next before after labels = WhereTold (λ b a. a ≡ view_after next b labels) before after

-- the showing of the last of these labels was refused
abbrev pub IsTorn : (List ℕ → ℕ → Label → List ℕ) → (List ℕ → ℕ → Label → List ℕ → Type 0) → List (ℕ × Label) → List ℕ → List ℕ → Type 0
IsTorn next torn labels before after =
    (front : List (ℕ × Label)) × (last : ℕ × Label) × (labels ≡ front ++ last ∷ []) × torn (view_after next before front) last.0 last.1 after

-- the view is as if the watcher had seen exactly these labels, or the showing of the last one was refused
abbrev pub SawOrTore : (List ℕ → ℕ → Label → List ℕ) → (List ℕ → ℕ → Label → List ℕ → Type 0) → Option (List ℕ) → Option (List ℕ) → List (ℕ × Label) → Type 0
SawOrTore next torn before after labels = WhereTold (λ b a. (a ≡ view_after next b labels) ⊎ IsTorn next torn labels b a) before after

-- ---- runs

-- The run from C with this fuel has this end. It leads to a configuration, for which the view stands, and what was seen fits its
-- labels.
pub record Ran (C : Configuration) (fuel : ℕ) (end : End) (v : View) (Seen : List (ℕ × Label) → Type 0) : Type 0 where
  pub labels : List (ℕ × Label)
  pub runs : RunsFrom C fuel end labels
  pub is : IsConfiguration runs.last
  pub stands : StandsFor v runs.last
  pub seen : Seen labels

-- The same, and the run does so many steps.
pub record RanFor (C : Configuration) (fuel steps : ℕ) (end : End) (v : View) (Seen : List (ℕ × Label) → Type 0) : Type 0 where
  pub ran : Ran C fuel end v Seen
  pub count : steps_done end ran.runs.steps ≡ steps

-- The run from C broke off after some of its steps, which lead to a configuration; what was seen fits their labels.
pub record BrokeOff (C : Configuration) (fuel : ℕ) (Stands : Configuration → Type 0) (Seen : List (ℕ × Label) → Type 0) : Type 0 where
  pub steps : ℕ
  pub few : steps ≤ fuel
  pub last : Configuration
  pub labels : List (ℕ × Label)
  pub reached : Reaches steps C labels last
  pub is : IsConfiguration last
  pub stands : Stands last
  pub seen : Seen labels
