-- What the uses mean, and what look-up finds around them.
use Rattle.std.proofs.Common.{◌∷◌, ◌++◌, ◌∙◌, ap}
use Rattle.pict_scope.specs.Marks.{value_used, type_used, value_meanings, type_meanings}
use Rattle.pict_scope.specs.Outlines.{◌▸◌, value_use, type_use, opens, marks}
use Rattle.pict_scope.specs.Laws.{ValuesByLookUp, TypesByLookUp}
use Rattle.pict_scope.proofs.Reading.{values_both, types_both}

pub values_by_look_up : ValuesByLookUp
unfolding opens marks
values_by_look_up o p a s n t h =
    values_both (marks o a) (marks (value_use s n ▸ p) (opens o a)) ∙ ap (λ m. value_meanings (marks o a) ++ value_meanings (value_used s m ∷ marks p (opens o a))) h

pub types_by_look_up : TypesByLookUp
unfolding opens marks
types_by_look_up o p a s n k h =
    types_both (marks o a) (marks (type_use s n ▸ p) (opens o a)) ∙ ap (λ m. type_meanings (marks o a) ++ type_meanings (type_used s m ∷ marks p (opens o a))) h
