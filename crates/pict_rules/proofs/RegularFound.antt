-- Steps of regularity: the values of a record's fields, with what is found.
use Rattle.std.proofs.Common.{refl, sym, ◌∙◌, subst}
use Rattle.pict_syntax.specs.declared.span.Span.{Span}
use Rattle.pict_syntax.specs.Trees.{Val, Vals, no_vals, more_vals, LabelledVals, no_labelled_vals, more_labelled_vals}
use Rattle.pict_types.specs.Types.{PlainType, PlainTypes, PlainLabels, type_at}
use Rattle.pict_types.specs.Kinds.{IsWellFormed, AreWellFormed, LabelsAreWellFormed}
use Rattle.pict_rules.specs.Found.{Found}
use Rattle.pict_rules.specs.Counts.{count_vals}
use Rattle.pict_rules.specs.Shapes.{nth_type}
use Rattle.pict_rules.specs.Environments.{Environment}
use Rattle.pict_rules.specs.Rules.{found_, values_fit, labelled_values_fit, given_fits}
use Rattle.pict_rules.specs.Regular.{IsRegular, kinds_in, kinds_within, FoundFits}
use Rattle.pict_rules.proofs.Results.{gives_, needs, parts, ensures, unless}
use Rattle.pict_rules.proofs.Regularity.{Step, label_formed, labels_formed_at}
use Rattle.pict_rules.proofs.RegularMatched.{within_same}
use Rattle.pict_rules.proofs.RegularPatterns.{number_formed}

pub matching_regular : (e : Environment) (s : Span) (v : Val) (t u : PlainType) (g : Found) → FoundFits e g → Step found_ e (given_fits s v t u g)
matching_regular e s v t u g w = ensures _ _ _ (unless _ (needs (gives_ (refl, w))))

pub positional_found_regular : (e : Environment) (s : Span) (vs : Vals) (ps : PlainTypes) (g : Found) → IsRegular e → AreWellFormed e.names (kinds_within (kinds_in e) g) ps → FoundFits e g → Step found_ e (values_fit s vs ps g)
positional_found_regular e s no_vals ps g r w k = gives_ (refl, k)
positional_found_regular e s (more_vals vs v) ps g r w k =
    parts (r, (w, k)) (λ f h.
    parts (r, (subst (λ ks. IsWellFormed e.names ks (nth_type (count_vals vs) ps)) (sym (within_same (kinds_in e) f g h.1.0)) (number_formed e.names (kinds_within (kinds_in e) g) (count_vals vs) ps w), h.1.1)) (λ x i.
    gives_ (i.1.0 ∙ h.1.0, i.1.1)))

pub labelled_found_regular : (e : Environment) (s : Span) (ls : LabelledVals) (ms : PlainLabels) (g : Found) → IsRegular e → LabelsAreWellFormed e.names (kinds_within (kinds_in e) g) ms → FoundFits e g → Step found_ e (labelled_values_fit s ls ms g)
labelled_found_regular e s no_labelled_vals ms g r w k = gives_ (refl, k)
labelled_found_regular e s (more_labelled_vals ls l v) ms g r w k =
    parts (r, (w, k)) (λ f h.
    labels_formed_at e.names (kinds_within (kinds_in e) g) (type_at l.name.0 ms) (label_formed e.names (kinds_within (kinds_in e) g) l.name.0 ms w)
    (λ t i. parts (r, (subst (λ ks. IsWellFormed e.names ks t) (sym (within_same (kinds_in e) f g h.1.0)) i, h.1.1)) (λ x j. gives_ (j.1.0 ∙ h.1.0, j.1.1)))
    (parts (r, tt) (λ x j. gives_ (h.1.0, h.1.1))))
