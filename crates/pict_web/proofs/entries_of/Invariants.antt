-- What the loop keeps.
use Rattle.std.proofs.Common.{◌≡◌, ◌++◌, drop}
use Rattle.pict_outside.specs.Entries.{pairs_of}
use Rattle.pict_web.specs.Asked.{texts_cut}
use Rattle.pict_web.proofs.entries_of.Given as goal

-- the texts so far, and those that are cut from what is left
abbrev pub invariant-loop-cut : goal.invariant-loop-cut
invariant-loop-cut l = pairs_of l.entries.items ++ texts_cut (drop l.cut-index l.cuts) l.rest ≡ texts_cut l.fn.cuts l.fn.texts
