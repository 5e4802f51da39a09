-- A value as it is worked out by hand.
use Rattle.std.proofs.Common.{◌≡◌, ◌∷◌, [], true, refl, codes}
use Rattle.pict_core.specs.Term.{Char, Boolean, Text, Record, no_vals, more_vals, no_labelled, more_labelled}
use Rattle.pict_show.specs.Values.{value_text}

row : value_text (codes "a" ∷ codes "b" ∷ [])
    (Record (more_vals (Boolean true) (more_vals (Record no_vals no_labelled) no_vals))
    (more_labelled 0 (Char 39) (more_labelled 1 (Text (34 ∷ 39 ∷ 10 ∷ 200 ∷ [])) no_labelled)))
    ≡ codes "[true [] a='\\'' b=\"\\\"'\\n\\xc8\"]"
row = refl
