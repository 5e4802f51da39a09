use Rattle.std.proofs.Common.{ap, ◌∙◌, ◌∷◌, add-one}
use Rattle.pict_queue.specs.QueuesState.{QueuesState}
use Rattle.pict_blocks.specs.Framed.{gathered}
use Rattle.pict_blocks.proofs.spawning.block_of.Goals as goal

pub returns-clause-made : goal.returns-clause-made
returns-clause-made c = record {
  held = c.take_gathered.ensures.held;
  here = c.take_gathered.ensures.words ∙ ap (λ n. n ∷ gathered c.args.values.now c.args.frame.now) (add-one c.args.number);
  contents = c.take_gathered.ensures.contents;
  spare = c.take_gathered.ensures.spare;
  widths = c.take_gathered.ensures.others;
  queues = ap (λ (s : QueuesState). s.queues) c.take_gathered.ensures.rest;
  spare_queues = ap (λ (s : QueuesState). s.spare_queues) c.take_gathered.ensures.rest;
  apart = c.take_gathered.ensures.apart;
  kept = c.take_gathered.ensures.kept;
  more = c.take_gathered.ensures.more;
  blocks = c.take_gathered.ensures.blocks;
}
