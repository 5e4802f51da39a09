-- Each variable put for itself.
use Rattle.std.proofs.Common.{refl}
use Rattle.pict_types.proofs.Renamed.{rename_same}
use Rattle.pict_types.proofs.Replacements.{fill_same, no_filling_still, replace_same, nothing_changed, formed_normal}
use Rattle.pict_types.proofs.laws.law_itself_changes_nothing.Goals as goal

pub returns : goal.returns
returns c = record {
  renamed = λ t. rename_same t (record { each = λ i. refl });
  filled = λ t n. fill_same t no_filling_still n;
  replaced = λ t n. replace_same t nothing_changed n;
  normal = formed_normal;
}
