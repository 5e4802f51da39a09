use Rattle.pict_trace.proofs.Ordered.{free_steps_keep_order}
use Rattle.pict_trace.proofs.laws.law_free_steps_keep_order.Goals as goal

pub returns : goal.returns
returns c = free_steps_keep_order
