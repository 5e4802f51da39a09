use Rattle.std.proofs.Common.{sym, ap, ◌∙◌, map}
use Rattle.pict_core.specs.Plain.{plain_pat, plain_pat_field}
use Rattle.pict_shared.proofs.Becoming.{pattern_becomes}
use Rattle.pict_shared.proofs.same.+same_pattern.Goals as goal

pub same_pattern-returns-else-not-same_patterns : goal.same_pattern-returns-else-not-same_patterns
same_pattern-returns-else-not-same_patterns t c = λ h.
    pattern_becomes _ _ _ _ _ _ c.in-Fields.is c.in-Fields-other.is
    (ap (map plain_pat) (sym c.deref.ensures.value) ∙ c.same_patterns.ensures c.if-not-same_patterns.false ∙ ap (map plain_pat) c.deref-in-Fields-other.ensures.value)
    (ap (map plain_pat_field) (sym c.deref-in-Fields-other-2.ensures.value) ∙ c.same_pattern_fields.ensures h ∙ ap (map plain_pat_field) c.deref-in-Fields-other-3.ensures.value)
