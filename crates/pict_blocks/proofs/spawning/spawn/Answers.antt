use Rattle.std.proofs.Common.{◌++◌, ◌∷◌, [], ap, ◌∙◌, add-one}
use Rattle.pict_queue.specs.Contents.{contents}
use Rattle.pict_blocks.specs.Framed.{gathered}
use Rattle.pict_blocks.proofs.spawning.spawn.Goals as goal

pub returns-clause-pushed : goal.returns-clause-pushed
returns-clause-pushed c =
    c.push_gathered.ensures.pushed ∙ ap (λ n. contents c.args.queues.now c.args.queue.0 ++ (n ∷ gathered c.args.values.now c.args.frame.now) ∷ []) (add-one c.args.number)
