-- The environment with a record pattern's own binders has the context of the record's fields.
use Rattle.std.proofs.Common.{◌≡◌, ◌+◌, List, [], ◌∷◌, ◌++◌, length, refl, sym, ◌∙◌, ap, arith}
use Rattle.pict_types.specs.Types.{PlainBound, PlainBounds, no_bound, bounds, TypeContext, under}
use Rattle.pict_normal.specs.Normal.{and_bound}
use Rattle.pict_types.specs.Entries.{PlainContext, variables}
use Rattle.pict_rules.specs.Environments.{Environment, KnownType, context_of, entries_of, bounds_of}
use Rattle.pict_rules.specs.Clauses.{with_own}

under_one_more : (c : TypeContext) (bs : PlainBounds) (b : PlainBound) → under c (and_bound bs b) ≡ b ∷ under c bs
under_one_more c no_bound b = refl
under_one_more c (bounds d bs) b = under_one_more (d ∷ c) bs b

own_variables : (c : PlainContext) (own : List KnownType) → variables (entries_of own ++ c) ≡ under (variables c) (bounds_of own)
own_variables c [] = refl
own_variables c (b ∷ own) = ap (λ d. b.bound ∷ d) (own_variables c own) ∙ sym (under_one_more (variables c) (bounds_of own) b.bound)

pub own_context : (e : Environment) (own : List KnownType) → context_of (with_own e own) ≡ under (context_of e) (bounds_of own)
own_context e own = own_variables e.context own

-- as many variables more as there are binders
pub opened_count : (bs : List KnownType) (c : PlainContext) → length (variables (entries_of bs ++ c)) ≡ length (variables c) + length bs
opened_count [] c = omega arith
opened_count (b ∷ bs) c = omega (arith, opened_count bs c)
