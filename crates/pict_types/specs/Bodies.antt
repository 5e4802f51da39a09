-- The variables at a place within the body of an operator, and a parameter seen from there.
use Rattle.std.specs.Prelude.{ℕ, suc, Bool, true, false, not, ◌∷◌}
use Rattle.pict_syntax.specs.declared.type_tree.Mark.{Mark}
use Rattle.pict_syntax.specs.declared.type_tree.Mark.TheVariants.{Plus, Minus, Plain as Unmarked}
use Rattle.pict_types.specs.Types.{PlainType, Free, TypeContext, under}
use Rattle.pict_types.specs.Mentions.{mentions}
use Rattle.pict_types.specs.Plain.{plain_bounds}
use Rattle.pict_types.specs.PlainContext.{type_context}
use Rattle.pict_types.specs.Variance.{Way, up, down, opposite, only, goes, past, under_parameters}
use Rattle.pict_types.specs.declared.variance.Body.{Body}
use Rattle.pict_types.specs.declared.variance.Body.TheVariants.{Parameters, Inner', Recursive'}

abbrev pub body_context : Body → TypeContext
body_context (Parameters n c) = under_parameters n (type_context c.now)
body_context (Inner' bs p outer) = under (body_context outer) (plain_bounds bs.now)
body_context (Recursive' p outer) = Free ∷ body_context outer

-- the variable that parameter x of the operator is there
abbrev pub seen : Body → ℕ → ℕ
seen (Parameters n c) x = x
seen (Inner' bs p outer) x = past (plain_bounds bs.now) (seen outer x)
seen (Recursive' p outer) x = suc (seen outer x)

abbrev pub way_of : Bool → Way
way_of true = up
way_of false = down

-- an argument, as it is marked
abbrev pub argument_goes : Way → TypeContext → ℕ → Mark → PlainType → Bool
argument_goes w c x Plus t = goes w c x t
argument_goes w c x Minus t = goes (opposite w) c x t
argument_goes w c x Unmarked t = not (mentions (only x) t)
