use Rattle.pict_parse.proofs.Others.{ended_other}
use Rattle.pict_parse.proofs.declarations.ended.Goals as goal

pub returns-in_default : goal.returns-in_default
returns-in_default c = ended_other c.args.state c.in_default.not-Need c.in_default.not-HaveDefinition
