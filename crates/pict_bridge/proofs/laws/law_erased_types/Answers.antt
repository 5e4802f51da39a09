use Rattle.pict_bridge.proofs.Erased.{erased_type, below_erased}
use Rattle.pict_bridge.proofs.laws.law_erased_types.Goals as goal

pub returns-clause-types_ : goal.returns-clause-types_
returns-clause-types_ c = λ names c t w. erased_type names c t w

pub returns-clause-subtypes : goal.returns-clause-subtypes
returns-clause-subtypes c = λ c s t d. below_erased d
