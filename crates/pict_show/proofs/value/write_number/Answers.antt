use Rattle.std.proofs.Common.{rules}
use Rattle.pict_show.proofs.Pieces.{number_grows}
use Rattle.pict_show.proofs.value.write_number.Goals as goal
use Rattle.pict_syntax.proofs.ListLemmas.{on_ok}

pub returns-clause-grows : goal.returns-clause-grows
returns-clause-grows c = on_ok c.extend_from_slice.result (number_grows c.args.out.now.items c.extend_from_slice.new.self.items c.args.n c.ranges.n) (search rules)
