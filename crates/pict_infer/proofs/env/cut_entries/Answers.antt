-- One entry less.
use Rattle.std.proofs.Common.{◌<◌, length, ◌∙◌, arith}
use Rattle.pict_types.specs.PlainContext.{plain_context}
use Rattle.pict_infer.proofs.Growing.{cut_more}
use Rattle.pict_infer.proofs.env.cut_entries.Goals as goal

pub loop-context-preserved : goal.loop-context-preserved
loop-context-preserved c =
    let more : c.args.left < length (plain_context c.loop-context.context) = omega arith in
    record {
      entries = cut_more (plain_context c.loop-context.context) (plain_context c.pop.new.self) c.args.left c.pop.ensures.popped more ∙ c.loop-context.invariant.entries;
      names = c.pop.ensures.names ∙ c.loop-context.invariant.names;
    }
