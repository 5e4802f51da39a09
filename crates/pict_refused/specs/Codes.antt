-- The codes of the phases before a run.
use Rattle.std.specs.Prelude.{List, [], ◌∷◌, ◌++◌}
use Rattle.pict_syntax.specs.declared.code.Code.{Code}
use Rattle.pict_syntax.specs.declared.code.Code.TheVariants.{B1, L1, L2, L3, L4, L5, P1, P2, I1, I2, I3, I4, C1}
use Rattle.pict_codes.specs.Codes.{scope_codes, type_codes}

-- of the texts that a file reaches: of their length, of tokens, of the grammar, of imports
abbrev pub gathering_codes : List Code
gathering_codes = B1 ∷ L1 ∷ L2 ∷ L3 ∷ L4 ∷ L5 ∷ P1 ∷ P2 ∷ I1 ∷ I2 ∷ I3 ∷ I4 ∷ []

-- of all phases before a run: those, then scopes, types and the depth of the process
abbrev pub front_codes : List Code
front_codes = gathering_codes ++ (scope_codes ++ (type_codes ++ C1 ∷ []))
