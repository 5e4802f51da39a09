-- Steps of regularity: labelled fields, whose labels are distinct.
use Rattle.std.proofs.Common.{◌≡◌, ℕ, List}
use Rattle.pict_syntax.specs.Trees.{LabelledPats, no_labelled_pats, more_labelled_pats, LabelledVals, no_labelled_vals, more_labelled_vals}
use Rattle.pict_types.specs.Types.{PlainType, PlainLabels, no_label, labels}
use Rattle.pict_normal.specs.Normal.{with_labelled_type}
use Rattle.pict_normal.proofs.RawFormed.{IsNew, new_with, with_labelled_type_formed}
use Rattle.pict_rules.specs.Environments.{Environment}
use Rattle.pict_rules.specs.Rules.{labels_, labelled_patterns_, labelled_values_give, labelled_patterns_give}
use Rattle.pict_scope.specs.DistinctLabels.{LabelledPatsAreDistinct, LabelledValsAreDistinct}
use Rattle.pict_rules.specs.Regular.{IsRegular, Lacks, kinds_in}
use Rattle.pict_rules.proofs.Results.{gives_, parts}
use Rattle.pict_rules.proofs.Regularity.{Step}
use Rattle.pict_rules.proofs.RegularJoined.{joined_adds}
use Rattle.pict_rules.proofs.RegularPatterns.{none_adds}

is_new : (l : ℕ) (ms : PlainLabels) → Lacks ms l → IsNew l ms
is_new l no_label h = tt
is_new l (labels m t ms) h = (h.0, is_new l ms h.1)

lacks : (l : ℕ) (ms : PlainLabels) → IsNew l ms → Lacks ms l
lacks l no_label h = tt
lacks l (labels m t ms) h = (h.0, lacks l ms h.1)

still_lacks : (ns : List (List ℕ)) (l m : ℕ) (u : PlainType) (ms : PlainLabels) → (l ≡ m → ⊥) → Lacks ms l → Lacks (with_labelled_type ns m u ms) l
still_lacks ns l m u ms h k = lacks l (with_labelled_type ns m u ms) (new_with ns l m u ms h (is_new l ms k))

pub labelled_values_regular : (e : Environment) (ls : LabelledVals) → LabelledValsAreDistinct ls → IsRegular e → Step labels_ e (labelled_values_give ls)
labelled_values_regular e no_labelled_vals d r = gives_ (tt, λ l h. tt)
labelled_values_regular e (more_labelled_vals ls x v) d r =
    parts (r, tt) (λ ms h. parts (r, tt) (λ t i.
    gives_ (with_labelled_type_formed e.names (kinds_in e) x.name.0 t ms (is_new x.name.0 ms (h.1.1 x.name.0 d.1.0)) i.1 h.1.0, λ l k. still_lacks e.names l x.name.0 t ms k.1 (h.1.1 l k.0))))

pub labelled_patterns_regular : (e : Environment) (ls : LabelledPats) → LabelledPatsAreDistinct ls → IsRegular e → Step labelled_patterns_ e (labelled_patterns_give ls)
labelled_patterns_regular e no_labelled_pats d r = gives_ (tt, (λ l h. tt, none_adds e r))
labelled_patterns_regular e (more_labelled_pats ls x p) d r =
    parts (r, tt) (λ g h. parts (r, tt) (λ y i.
    gives_ (
      with_labelled_type_formed e.names (kinds_in e) x.name.0 y.has g.have (is_new x.name.0 g.have (h.1.1.0 x.name.0 d.1.0)) i.1.0 h.1.0,
      (λ l k. still_lacks e.names l x.name.0 y.has g.have k.1 (h.1.1.0 l k.0), joined_adds e g.adds y.adds r h.1.1.1 i.1.1),
    )))
