use Rattle.std.proofs.Common.{rules}
use Rattle.pict_syntax.specs.PlainTrees.{pat_of}
use Rattle.pict_parse_binding.proofs.PatternOthers.{bind_other}
use Rattle.pict_parse_binding.proofs.patterns.step_bind.Goals as goal

pub returns-in_default : goal.returns-in_default
unfolding pat_of
returns-in_default c =
    rw (bind_other c.args.kind.now (λ e. search rules)) c.step_pattern.ensures
