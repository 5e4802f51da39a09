-- The codes that each part of the work refuses with.
use Rattle.std.specs.Prelude.{◌≡◌, List, [], ◌∷◌, ◌⊎◌}
use Rattle.pict_syntax.specs.declared.code.Code.{Code}
use Rattle.pict_syntax.specs.declared.code.Code.TheVariants.{S1, S2, S3, S4, K1, K2, K3, K4, K5, Y1, Y2, Y3, Y4, Y5, Y6, Y7, Y8, Y9, Y10, Y11, Y12, Y13, Y14, Y15, Y16}
use Rattle.pict_rules.specs.Rules.{Sort, Judgement, gives, has, is_condition, application, fields_fit, written_arguments, value_fits, given_fits, abstraction_gives, abstraction_against, pattern_gives, binders_give, pattern_against, fields_against, binders_against, labelled_patterns_against, declaration, signature, process, receives}

abbrev pub IsOneOf : List Code → Code → Type 0
IsOneOf [] c = ⊥
IsOneOf (d ∷ ds) c = (c ≡ d) ⊎ IsOneOf ds c

-- of scopes
abbrev pub scope_codes : List Code
scope_codes = S1 ∷ S2 ∷ S3 ∷ S4 ∷ []

-- of a written type that is expanded
abbrev pub kind_codes : List Code
kind_codes = K1 ∷ K2 ∷ K3 ∷ K4 ∷ []

-- of patterns
abbrev pub pattern_codes : List Code
pattern_codes = K1 ∷ K2 ∷ K3 ∷ K4 ∷ Y4 ∷ Y5 ∷ Y6 ∷ Y7 ∷ Y13 ∷ Y16 ∷ []

-- of the typing rules together
abbrev pub type_codes : List Code
type_codes =
    K1 ∷ K2 ∷ K3 ∷ K4 ∷ K5
    ∷ Y1 ∷ Y2 ∷ Y3 ∷ Y4 ∷ Y5 ∷ Y6 ∷ Y7 ∷ Y8 ∷ Y9 ∷ Y10 ∷ Y11 ∷ Y12 ∷ Y13 ∷ Y14 ∷ Y15 ∷ Y16 ∷ []

-- of the lines of one judgement, without those of the judgements that it asks
abbrev pub own_codes : {s : Sort} → Judgement s → List Code
own_codes (gives v) = K1 ∷ K2 ∷ K3 ∷ K4 ∷ Y7 ∷ Y11 ∷ Y13 ∷ Y14 ∷ []
own_codes (has v t) = K4 ∷ Y4 ∷ Y13 ∷ []
own_codes (is_condition v) = Y12 ∷ []
own_codes (application s f vs t) = K4 ∷ Y4 ∷ Y8 ∷ []
own_codes (fields_fit s f bs ps ls g) = K4 ∷ Y5 ∷ Y6 ∷ Y9 ∷ Y10 ∷ []
own_codes (written_arguments s ts bs) = K1 ∷ K2 ∷ K3 ∷ K4 ∷ K5 ∷ Y9 ∷ []
own_codes (value_fits s v t g) = K4 ∷ []
own_codes (given_fits s v t u g) = K4 ∷ Y4 ∷ Y10 ∷ []
own_codes (abstraction_gives f) = K1 ∷ K2 ∷ K3 ∷ K4 ∷ Y14 ∷ []
own_codes (abstraction_against f t) = K1 ∷ K2 ∷ K3 ∷ K4 ∷ Y4 ∷ Y8 ∷ []
own_codes (pattern_gives p) = K1 ∷ K2 ∷ K3 ∷ K4 ∷ Y7 ∷ Y13 ∷ []
own_codes (binders_give bs) = K1 ∷ K2 ∷ K3 ∷ K4 ∷ []
own_codes (pattern_against p t) = K1 ∷ K2 ∷ K3 ∷ K4 ∷ Y4 ∷ Y5 ∷ Y13 ∷ []
own_codes (fields_against s f bs ps ls) = Y5 ∷ []
own_codes (binders_against bs rs) = K1 ∷ K2 ∷ K3 ∷ K4 ∷ Y16 ∷ []
own_codes (labelled_patterns_against ls ms) = Y6 ∷ []
own_codes (declaration d) = K1 ∷ K2 ∷ K3 ∷ K4 ∷ Y15 ∷ []
own_codes (signature x f) = K1 ∷ K2 ∷ K3 ∷ K4 ∷ Y7 ∷ []
own_codes (process p) = Y1 ∷ Y2 ∷ []
own_codes (receives c f) = Y1 ∷ Y3 ∷ []
own_codes _ = []
