use Rattle.std.proofs.Common.{ℕ, List, ◌∷◌, [], drop, ap, sym, ◌∙◌}
use Rattle.pict_blocks.specs.Keeping.{kept_words}
use Rattle.pict_desk.specs.declared.kept.Kept.{Kept}
use Rattle.pict_region.specs.RegionState.{words_of}
use Rattle.pict_queue.specs.Contents.{held_words}
use Rattle.pict_turns.proofs.AfterReading.{reads_works}
use Rattle.pict_blocks.proofs.WordsHeld.{whole_length}
use Rattle.pict_turns.proofs.Taking.{kept_taken}
use Rattle.pict_turns.proofs.turning.read_output.Goals as goal

pub read_kept-requires-clause-wide : goal.read_kept-requires-clause-wide
read_kept-requires-clause-wide c =
    let k = c.requires.kept in
    whole_length (words_of c.args.store.now.queues.region c.args.block.now) 0 (drop 1 (kept_words k.kept)) k.is

pub read_kept-requires-clause-kept : goal.read_kept-requires-clause-kept
read_kept-requires-clause-kept c = let k = c.requires.kept in (k.kept, k.fits, k.is)

pub returns-clause-read : goal.returns-clause-read
returns-clause-read c = λ core.
    let s = c.args.store.now in
    let k = c.requires.kept in
    let same = c.read_kept.ensures.kept k.kept k.fits k.is in
    rw c.set.ensures (record {
      words = ap (λ (kept : Kept). kept_words kept ∷ []) same ∙ ap (λ (us : List ℕ). us ∷ []) (sym k.is);
      turn = kept_taken s.desk.heap (held_words s.queues.region c.args.block.now) k c.read_kept.result same;
      rest = reads_works s c.read_kept.new.queues c.requires.pairs c.read_kept.ensures.rest;
    })
