use Rattle.std.proofs.Common.{◌≡◌, map}
use Rattle.pict_core.specs.Plain.{plain_pat}
use Rattle.pict_translation.specs.Patterns.{labelled_names_in}
use Rattle.pict_derive.specs.Built.{numbers_of, opened_field, pattern_of}
use Rattle.pict_derive.proofs.patterns.apart.Given as goal

-- the patterns so far, and all their names
abbrev pub invariant-loop-field : goal.invariant-loop-field
invariant-loop-field l = record {
  patterns : map pattern_of l.patterns.items ≡ map (λ f. (f.0.0, plain_pat f.1.pattern)) l.yielded;
  bound : numbers_of l.bound.items ≡ labelled_names_in (map opened_field l.yielded);
}
