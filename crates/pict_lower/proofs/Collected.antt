-- The levels of the variables in values.
use Rattle.std.proofs.Common.{◌≡◌, ℕ, ◌||◌, ◌==◌, Bool, true, false, List, [], ◌∷◌, ◌++◌, map, refl, sym, ap, ◌∙◌, rules, Vec, Global, Result, Ok, Err, OnOk}
use Rattle.pict_syntax.specs.declared.name.Name.{Name}
use Rattle.pict_syntax.proofs.ListLemmas.{or_assoc}
use Rattle.pict_core.specs.Plain.{plain_val, plain_field, vals_of, labelled_of}
use Rattle.pict_core.specs.Term.{Var}
use Rattle.pict_core.specs.declared.value.CoreVal.{CoreVal, the_lemmas}
use Rattle.pict_core.specs.declared.value.CoreVal.TheVariants as value
use Rattle.pict_core.proofs.Fields.{plain_val-Fields}
use Rattle.pict_code.specs.Frames.{in_value, in_values, in_labelled}
use Rattle.pict_code.specs.Levels.{has}
use Rattle.pict_code.proofs.Levels.{has_append}

or_none : (a : Bool) → a || false ≡ a
or_none true = refl
or_none false = refl

plain_val-Var : (l : ℕ) → plain_val (value.Var l) ≡ Var l
plain_val-Var l = search (rules, the_lemmas)

pub one_variable : (old new : List ℕ) (v : CoreVal) (l : ℕ) → v ≡ value.Var l → new ≡ old ++ l ∷ [] → (level : ℕ) → has level new ≡ has level old || in_value level (plain_val v)
one_variable old new v l is e level =
    ap (has level) e ∙ has_append level old (l ∷ []) ∙ ap (λ b. has level old || b) (or_none (level == l) ∙ ap (in_value level) (sym (plain_val-Var l) ∙ ap plain_val (sym is)))

pub record_variables : (old mid new : List ℕ) (v : CoreVal) (ps : Vec CoreVal Global) (ls : Vec (Name × CoreVal) Global) (positional : List CoreVal) (labelled : List (Name × CoreVal))
    → v ≡ value.Fields ps ls → positional ≡ ps.items → labelled ≡ ls.items
    → ((level : ℕ) → has level mid ≡ has level old || in_values level (vals_of (map plain_val positional)))
    → ((level : ℕ) → has level new ≡ has level mid || in_labelled level (labelled_of (map plain_field labelled)))
    → (level : ℕ) → has level new ≡ has level old || in_value level (plain_val v)
record_variables old mid new v ps ls positional labelled is e f g h level =
    h level ∙ ap (λ b. b || in_labelled level (labelled_of (map plain_field labelled))) (g level)
    ∙ or_assoc (has level old) (in_values level (vals_of (map plain_val positional))) (in_labelled level (labelled_of (map plain_field labelled)))
    ∙ ap (λ l. has level old || (in_values level (vals_of (map plain_val l)) || in_labelled level (labelled_of (map plain_field labelled)))) e
    ∙ ap (λ l. has level old || (in_values level (vals_of (map plain_val ps.items)) || in_labelled level (labelled_of (map plain_field l)))) f
    ∙ ap (λ w. has level old || in_value level w) (sym (plain_val-Fields ps ls) ∙ ap plain_val (sym is))
