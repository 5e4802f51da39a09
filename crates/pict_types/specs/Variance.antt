-- How a type goes with a variable: it rises or falls with it. And operators that vary as marks say.
use Rattle.std.specs.Prelude.{ℕ, zero, suc, Bool, true, false, ◌&&◌, not, nat_eq, List, [], ◌∷◌, length}
use Rattle.pict_types.specs.Types.{Both, Read, Write, Respond, PlainType, Top, Int, Char, Str, Boolean, Var, Apply, Chan, Fields, Rec, PlainTypes, no_type, types, PlainLabels, no_label, labels, PlainBound, Free, Below, Operator, PlainBounds, no_bound, bounds, PlainArg, Plain, Op, TypeContext, under}
use Rattle.pict_syntax.specs.declared.type_tree.Mark.{Mark}
use Rattle.pict_syntax.specs.declared.type_tree.Mark.TheVariants.{Plus, Minus, Plain as Unmarked}
use Rattle.pict_types.specs.Renaming.{bound_at}
use Rattle.pict_types.specs.Mentions.{outside, mentions, mentions_types, mentions_bounds}

-- up: the type rises with the variable, and down: it falls
pub data Way : Type 0 where
  up down : Way

abbrev pub opposite : Way → Way
opposite up = down
opposite down = up

-- variable i alone
abbrev pub only : ℕ → ℕ → Bool
only i j = nat_eq i j

abbrev pub marks_by : PlainBound → List Mark
marks_by Free = []
marks_by (Below t) = []
marks_by (Operator ms) = ms

-- the marks of an operator variable
abbrev pub marks_at : TypeContext → ℕ → List Mark
marks_at c i = marks_by (bound_at c i)

-- a variable, seen under the type fields of a record
abbrev pub past : PlainBounds → ℕ → ℕ
past no_bound x = x
past (bounds b bs) x = past bs (suc x)

abbrev mutual
  -- written in c, the type goes this way with variable x
  pub goes : Way → TypeContext → ℕ → PlainType → Bool
  goes w c x Top = true
  goes w c x Int = true
  goes w c x Char = true
  goes w c x Str = true
  goes w c x Boolean = true
  goes up c x (Var i) = true
  goes down c x (Var i) = not (nat_eq x i)
  goes w c x (Apply i ts) = arguments_go w c x (marks_at c i) ts
  goes w c x (Chan Read t) = goes w c x t
  goes w c x (Chan Write t) = goes (opposite w) c x t
  goes w c x (Chan Respond t) = goes (opposite w) c x t
  goes w c x (Chan Both t) = not (mentions (only x) t)
  goes w c x (Fields bs ps ls) =
      not (mentions_bounds (only x) bs) && (all_go w (under c bs) (past bs x) ps && labels_go w (under c bs) (past bs x) ls)
  goes w c x (Rec t) = not (mentions (outside (only x)) t)

  -- each argument, as it is marked; one past the marks has none
  pub arguments_go : Way → TypeContext → ℕ → List Mark → PlainTypes → Bool
  arguments_go w c x [] ts = not (mentions_types (only x) ts)
  arguments_go w c x (m ∷ ms) no_type = true
  arguments_go w c x (Plus ∷ ms) (types t ts) = goes w c x t && arguments_go w c x ms ts
  arguments_go w c x (Minus ∷ ms) (types t ts) = goes (opposite w) c x t && arguments_go w c x ms ts
  arguments_go w c x (Unmarked ∷ ms) (types t ts) = not (mentions (only x) t) && arguments_go w c x ms ts

  pub all_go : Way → TypeContext → ℕ → PlainTypes → Bool
  all_go w c x no_type = true
  all_go w c x (types t ts) = goes w c x t && all_go w c x ts

  pub labels_go : Way → TypeContext → ℕ → PlainLabels → Bool
  labels_go w c x no_label = true
  labels_go w c x (labels l t ls) = goes w c x t && labels_go w c x ls

abbrev pub rises : TypeContext → ℕ → PlainType → Bool
rises = goes up

abbrev pub falls : TypeContext → ℕ → PlainType → Bool
falls = goes down

-- a type goes with a variable as a mark says; without mark it may be as it is
abbrev pub goes_as : Mark → TypeContext → ℕ → PlainType → Bool
goes_as Plus = rises
goes_as Minus = falls
goes_as Unmarked = λ c x t. true

-- so with the innermost variables: the last mark is that of variable 0
abbrev pub body_varies : TypeContext → List Mark → PlainType → Bool
body_varies c [] t = true
body_varies c (m ∷ ms) t = goes_as m c (length ms) t && body_varies c ms t

-- the context with n parameters
abbrev pub under_parameters : ℕ → TypeContext → TypeContext
under_parameters zero c = c
under_parameters (suc n) c = Free ∷ under_parameters n c

-- an operator varies as marks say
abbrev pub varies : TypeContext → PlainArg → List Mark → Bool
varies c (Plain t) ms = false
varies c (Op n t) ms = body_varies (under_parameters n c) ms t
