use Rattle.std.proofs.Common.{sym, ap, ◌∙◌}
use Rattle.pict_heap.specs.HeapState.{value_of}
use Rattle.pict_heap.specs.Packed.{packed}
use Rattle.pict_replay.proofs.Simple.{same_simple, same_packed}
use Rattle.pict_replay.proofs.same.same_word.Goals as goal

pub returns : goal.returns
returns c h =
    let word = c.args.word in
    let simple = c.args.simple in (
      λ t. ap (value_of h) (same_packed word simple c.pack-found.ensures.fits c.pack-wanted.ensures.fits (sym c.pack-found.ensures.pair ∙ c.same_pair.ensures.0 t ∙ c.pack-wanted.ensures.pair)),
      λ e. c.same_pair.ensures.1 (c.pack-found.ensures.pair ∙ ap packed (same_simple h word simple c.requires e) ∙ sym c.pack-wanted.ensures.pair),
    )
