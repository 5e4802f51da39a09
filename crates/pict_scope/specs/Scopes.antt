-- Scopes of a program: what each use means, and the first place in reading order where a rule of scopes fails.
use Rattle.std.specs.Prelude.{ℕ, List, [], map, Option}
use Rattle.pict_syntax.specs.Trees.{Decs}
use Rattle.pict_syntax.specs.Stops.{Stop}
use Rattle.pict_scope.specs.declared.target.Target.{Target}
use Rattle.pict_scope.specs.Around.{Around}
use Rattle.pict_scope.specs.Marks.{Mark, first_stop, value_meanings, type_meanings, binders_read, by_place}
use Rattle.pict_scope.specs.Outlines.{marks}
use Rattle.pict_scope.specs.Forms.{in_decs}

-- around a whole program nothing is bound
abbrev pub outermost : List (List ℕ) → Around
outermost texts = record { texts = texts; values = []; types_ = []; pattern_values = []; pattern_types = []; group = []; next_value = 0; next_type = 0 }

abbrev pub program_marks : List (List ℕ) → Decs → List Mark
program_marks texts p = marks (in_decs p) (outermost texts)

-- the first place in reading order where a rule of scopes fails
abbrev pub scope_stop : List (List ℕ) → Decs → Option Stop
scope_stop texts p = first_stop (program_marks texts p)

-- what each use of a value means, in reading order. A binder goes by its place among the binders of values in reading order
abbrev pub value_targets : List (List ℕ) → Decs → List Target
value_targets texts p = map (by_place (binders_read (program_marks texts p))) (value_meanings (program_marks texts p))

-- the binder of each use of a type, in reading order
abbrev pub type_targets : List (List ℕ) → Decs → List ℕ
type_targets texts p = type_meanings (program_marks texts p)
