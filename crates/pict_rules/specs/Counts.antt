-- How many values, patterns and type binders are written.
use Rattle.std.specs.Prelude.{ℕ, suc}
use Rattle.pict_syntax.specs.Trees.{Pats, no_pats, more_pats, TypeBinders, no_binders, more_binders, Vals, no_vals, more_vals}

abbrev pub count_vals : Vals → ℕ
count_vals no_vals = 0
count_vals (more_vals vs v) = suc (count_vals vs)

abbrev pub count_pats : Pats → ℕ
count_pats no_pats = 0
count_pats (more_pats ps p) = suc (count_pats ps)

abbrev pub count_binders : TypeBinders → ℕ
count_binders no_binders = 0
count_binders (more_binders bs b) = suc (count_binders bs)
