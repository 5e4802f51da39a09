use Rattle.std.proofs.Common.{refl}
use Rattle.pict_named.proofs.laws.law_worked_scopes.Goals as goal

pub returns : goal.returns
returns c = record { not_in_its_own_value = refl; inner_is_nearer = refl; not_in_itself = refl; over_its_own_record_and_the_body = refl; directly_over_the_result = refl }
