-- The counts and the labels of fields, and what an abstraction goes against.
use Rattle.std.specs.Prelude.{◌≡◌, ◌||◌, ℕ, Bool, nat_eq, Option}
use Rattle.std.specs.BTreeSet.{BTreeSet, contains}
use Rattle.std.specs.Ordering.{nat_cmp}
use Rattle.pict_syntax.specs.declared.code.Code.TheVariants.{Y5, Y6}
use Rattle.pict_syntax.specs.declared.span.Span.{Span}
use Rattle.pict_syntax.specs.Trees.{FieldVals, field_vals, LabelledVals, TypeTrees, Vals}
use Rattle.pict_types.specs.Types.{PlainType, PlainTypes, PlainLabels, PlainBounds, count_types, count_bounds}
use Rattle.pict_normal.specs.Normal.{count_trees}
use Rattle.pict_rules.specs.Counts.{count_vals}
use Rattle.pict_rules.specs.Shapes.{all_written, is_written, none_written, respond_or_write}
use Rattle.pict_rules.specs.Rules.{Rule, nothing_, ensure}
use Rattle.pict_rules.specs.Clauses.{done}

-- no type argument is written, or as many as there are type fields
abbrev pub none_or_as_many : TypeTrees → PlainBounds → Bool
none_or_as_many ts bs = none_written ts || nat_eq (count_trees ts) (count_bounds bs)

-- as many values as positional fields
abbrev pub as_many : Vals → PlainTypes → Bool
as_many vs ps = nat_eq (count_vals vs) (count_types ps)

abbrev pub counted : Span → FieldVals → PlainBounds → PlainTypes → PlainLabels → Rule nothing_
counted s (field_vals ts vs ls) bs ps ms =
    ensure (none_or_as_many ts bs) Y5 s (
    ensure (as_many vs ps) Y5 s (
    ensure (all_written ms ls) Y6 s done))

abbrev pub sent : PlainType → Option PlainType
sent t = respond_or_write t

-- the set has the labels that are written
abbrev pub HasLabels : BTreeSet ℕ → LabelledVals → Type 0
HasLabels written ls = (l : ℕ) → contains nat_cmp written l ≡ is_written l ls

-- and one more
abbrev pub AddsLabel : BTreeSet ℕ → BTreeSet ℕ → ℕ → Type 0
AddsLabel old new label = (l : ℕ) → contains nat_cmp new l ≡ (nat_eq l label || contains nat_cmp old l)
