use Rattle.std.proofs.Common.{ap, ◌∙◌, map}
use Rattle.pict_core.specs.Plain.{plain_pat, plain_pat_field}
use Rattle.pict_core.proofs.Fields.{same_pat_fields}
use Rattle.pict_core.proofs.pattern.+copy_pattern.Goals as goal

pub CorePat::copy-returns-in_ok-copy_pattern_fields-in-Fields : goal.CorePat::copy-returns-in_ok-copy_pattern_fields-in-Fields
CorePat::copy-returns-in_ok-copy_pattern_fields-in-Fields t c =
    same_pat_fields _ _ _ _ _ c.in-Fields.is (c.in_ok-copy_patterns-in-Fields.ensures ∙ ap (map plain_pat) c.deref.ensures.value) (c.in_ok-copy_pattern_fields-in-Fields.ensures ∙ ap (map plain_pat_field) c.deref-in-Fields.ensures.value)
