-- The binders of an outline, in the order in which they are read.
use Rattle.std.specs.Prelude.{List, [], ◌∷◌, ◌++◌}
use Rattle.pict_syntax.specs.declared.id.Id.{Id}
use Rattle.pict_scope.specs.Outlines.{Outline, ◌▸◌, closed, binds_value, binds_type, defines, pattern_value, pattern_type, pattern, group}

-- of types: each stands before what stands in its bound or in what it names
abbrev pub types_bound : Outline → List Id
types_bound (o ▸ p) = types_bound o ++ types_bound p
types_bound (closed o) = types_bound o
types_bound (binds_type x o) = x ∷ types_bound o
types_bound (pattern_type x o) = x ∷ types_bound o
types_bound (pattern o p) = types_bound o ++ types_bound p
types_bound (group o) = types_bound o
types_bound _ = []

-- of values: those of a `def` stand where they are read, and not where they are bound
abbrev pub values_bound : Outline → List Id
values_bound (o ▸ p) = values_bound o ++ values_bound p
values_bound (closed o) = values_bound o
values_bound (binds_value x) = x ∷ []
values_bound (binds_type x o) = values_bound o
values_bound (defines x) = x ∷ []
values_bound (pattern_value x) = x ∷ []
values_bound (pattern_type x o) = values_bound o
values_bound (pattern o p) = values_bound o ++ values_bound p
values_bound (group o) = values_bound o
values_bound _ = []
