use Rattle.std.proofs.Common.{◌≡◌, max, map, drop}
use Rattle.pict_code.specs.Plain.{plain_pat, plain_pat_field, pats_of, labelled_pats_of}
use Rattle.pict_desk.specs.Binding.{levels_of_all, levels_of_labelled}
use Rattle.pict_desk.specs.Levels.{past}
use Rattle.pict_desk.proofs.levels.+pattern_end.Given as goal

abbrev pub invariant-fields_end-loop-pattern : goal.invariant-fields_end-loop-pattern
invariant-fields_end-loop-pattern l =
    max l.end (past (levels_of_all (pats_of (map plain_pat (drop l.pattern-index l.patterns))))) ≡ past (levels_of_all (pats_of (map plain_pat l.patterns)))

abbrev pub invariant-labelled_end-loop-field : goal.invariant-labelled_end-loop-field
invariant-labelled_end-loop-field l =
    max l.end (past (levels_of_labelled (labelled_pats_of (map plain_pat_field (drop l.field-index l.patterns))))) ≡ past (levels_of_labelled (labelled_pats_of (map plain_pat_field l.patterns)))
