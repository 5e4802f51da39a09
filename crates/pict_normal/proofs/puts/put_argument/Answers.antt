-- An argument is not moved.
use Rattle.pict_normal.proofs.puts.put_argument.Goals as goal

pub returns-then-i-args-clause-room : goal.returns-then-i-args-clause-room
returns-then-i-args-clause-room c = λ n. c.put_of.ensures.room n c.args.i
