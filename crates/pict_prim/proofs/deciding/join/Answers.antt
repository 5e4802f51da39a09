use Rattle.std.proofs.Common.{sym}
use Rattle.pict_heap.specs.HeapState.{value_of}
use Rattle.pict_prim.proofs.Bases.{no_text, none_of_text}
use Rattle.pict_prim.proofs.deciding.join.Goals as goal

pub returns-in_default-t-clause-effect : goal.returns-in_default-t-clause-effect
returns-in_default-t-clause-effect c h = sym (none_of_text (value_of h c.args.s) _ (λ front. no_text h c.args.t c.in_default-t.not-Text _))

pub returns-in_default-clause-effect : goal.returns-in_default-clause-effect
returns-in_default-clause-effect c h = sym (no_text h c.args.s c.in_default.not-Text _)
