-- What stands in a text as to values, in reading order: a use at its place, or an identifier that binds.
use Rattle.std.specs.Prelude.{◌≡◌, ℕ, List, [], ◌∷◌}
use Rattle.pict_syntax.specs.declared.span.Span.{Span}
use Rattle.pict_syntax.specs.Trees.{Decs}
use Rattle.pict_scope.specs.Marks.{Mark, value_used, type_used, value_bound, stands_twice}
use Rattle.pict_scope.specs.Scopes.{program_marks}
use Rattle.pict_unused.specs.declared.item.Item.{Item}
use Rattle.pict_unused.specs.declared.item.Item.TheVariants.{Use, Bind}
use Rattle.pict_unused.specs.Items.{items_of}

pub data Sight : Type 0 where
  used : Span → Sight
  bound : Sight

-- as scopes have it
abbrev pub sights_of_marks : List Mark → List Sight
sights_of_marks [] = []
sights_of_marks (value_used s meaning ∷ ms) = used s ∷ sights_of_marks ms
sights_of_marks (type_used s meaning ∷ ms) = sights_of_marks ms
sights_of_marks (value_bound n ∷ ms) = bound ∷ sights_of_marks ms
sights_of_marks (stands_twice c s ∷ ms) = sights_of_marks ms

-- and as items have it
abbrev pub sights_of_items : List Item → List Sight
sights_of_items [] = []
sights_of_items (Use role s ∷ is) = used s ∷ sights_of_items is
sights_of_items (Bind form x ∷ is) = bound ∷ sights_of_items is

-- the two are the same. So the first of the roles is that of the use that the first target tells of, and so on; and the number of a
-- binder, which is its place among the binders in reading order, is its place among the items that bind
abbrev pub ItemsAreMarks : Type 0
ItemsAreMarks = (texts : List (List ℕ)) (p : Decs) → sights_of_marks (program_marks texts p) ≡ sights_of_items (items_of p)
