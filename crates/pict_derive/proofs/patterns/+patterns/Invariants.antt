use Rattle.std.proofs.Common.{◌≡◌, map, take}
use Rattle.pict_syntax.specs.Trees.{no_pats, no_labelled_pats}
use Rattle.pict_syntax.specs.PlainTrees.{pats_on, labelled_pats_on}
use Rattle.pict_core.specs.Plain.{plain_pat}
use Rattle.pict_translation.specs.Patterns.{all_opened, labelled_opened, names_opened}
use Rattle.pict_derive.specs.Built.{numbers_of, opened_field}
use Rattle.pict_derive.proofs.patterns.+patterns.Given as goal

-- the patterns so far, and all their names
abbrev pub invariant-open_positional-loop-tree : goal.invariant-open_positional-loop-tree
invariant-open_positional-loop-tree l = record {
  patterns : map plain_pat l.patterns.items ≡ map (λ o. o.pattern) (all_opened l.names (pats_on no_pats (take l.tree-index l.trees)));
  bound : numbers_of l.bound.items ≡ names_opened (all_opened l.names (pats_on no_pats (take l.tree-index l.trees)));
}

abbrev pub invariant-open_labelled-loop-tree : goal.invariant-open_labelled-loop-tree
invariant-open_labelled-loop-tree l = map opened_field l.fields.items ≡ labelled_opened l.names (labelled_pats_on no_labelled_pats (take l.tree-index l.trees))
