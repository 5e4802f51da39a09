-- A name stands for the first time in its group.
use Rattle.pict_scope.proofs.Groups.{once_first}
use Rattle.pict_scope.proofs.reader.Reader.once.Goals as goal

pub returns-in_ok-bind-in-None : goal.returns-in_ok-bind-in-None
returns-in_ok-bind-in-None c =
    once_first c.args.code c.args.id c.args.self.now c.bind.new.self c.in-None.ensures c.in_ok-bind-in-None.ensures.here c.in_ok-bind-in-None.ensures.outside
