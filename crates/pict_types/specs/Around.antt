-- The measures of the variables around a place, the innermost first.
use Rattle.std.specs.Prelude.{◌≡◌, ℕ, ◌+◌, ◌-◌, ◌≤◌, max, List, ◌++◌, map, reverse}
use Rattle.pict_types.specs.Types.{PlainBounds, PlainTypes, PlainLabels}
use Rattle.pict_types.specs.Measures.{measure_at, weigh_bounds, weigh_types, weigh_labels, weights_under, rise_bounds, rise_types, rise_labels, heights_under}
use Rattle.pict_types.specs.Plain.{plain_bounds, plain_types, plain_labels}
use Rattle.pict_types.specs.declared.types.Bound.{Bound}
use Rattle.pict_types.specs.declared.types.Record.{Record}
use Rattle.pict_types.specs.declared.measure.Measures.{Measures}
use Rattle.pict_types.specs.declared.measure.Around.{Around}
use Rattle.pict_types.specs.declared.measure.Around.TheVariants.{Outer, Inner'}

-- the measures of the variables under binders with these, the innermost last, before the measures of the others
abbrev pub weights_inside : List Measures → List ℕ → List ℕ
weights_inside ms ws = reverse (map (λ m. m.weight) ms) ++ ws

abbrev pub heights_inside : List Measures → List ℕ → List ℕ
heights_inside ms hs = reverse (map (λ m. m.height) ms) ++ hs

abbrev pub around_weights : Around → List ℕ
around_weights (Outer known) = reverse (map (λ k. k.measures.weight) known.now)
around_weights (Inner' known p outer q far n d) = weights_inside known.now (around_weights outer)

abbrev pub around_heights : Around → List ℕ
around_heights (Outer known) = reverse (map (λ k. k.measures.height) known.now)
around_heights (Inner' known p outer q far n d) = heights_inside known.now (around_heights outer)

-- without its first n the one list measures the variables as the other does
pub record Skips (n : ℕ) (ws vs : List ℕ) : Type 0 where
  pub each : (i : ℕ) → n ≤ i → measure_at ws i ≡ measure_at vs (i - n)

-- the part far stands so many variables further out than one with these measures within outer
abbrev pub LeadsTo : ℕ → List Measures → Around → Around → Type 0
LeadsTo n ms outer far =
    Skips n (weights_inside ms (around_weights outer)) (around_weights far) × Skips n (heights_inside ms (around_heights outer)) (around_heights far)

-- each part points to one further out
abbrev pub IsLinked : Around → Type 0
IsLinked (Outer known) = Unit {0}
IsLinked (Inner' known p outer q far n d) = LeadsTo n known.now outer far × (IsLinked outer × IsLinked far)

-- the parts of a record: its type fields, and the fields under them
abbrev pub weigh_parts : List ℕ → PlainBounds → PlainTypes → PlainLabels → ℕ
weigh_parts ws bs ps ls = weigh_bounds ws bs + (weigh_types (weights_under ws bs) ps + weigh_labels (weights_under ws bs) ls)

abbrev pub rise_parts : List ℕ → PlainBounds → PlainTypes → PlainLabels → ℕ
rise_parts hs bs ps ls = max (rise_bounds hs bs) (max (rise_types (heights_under hs bs) ps) (rise_labels (heights_under hs bs) ls))

-- these type fields, the last ones of a record, and its fields under them
abbrev pub weigh_rest : List ℕ → List Bound → Record → ℕ
weigh_rest ws bs r = weigh_parts ws (plain_bounds bs) (plain_types r.positional.items) (plain_labels r.labelled.items)

abbrev pub rise_rest : List ℕ → List Bound → Record → ℕ
rise_rest hs bs r = rise_parts hs (plain_bounds bs) (plain_types r.positional.items) (plain_labels r.labelled.items)
