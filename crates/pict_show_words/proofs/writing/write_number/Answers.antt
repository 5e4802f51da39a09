use Rattle.std.proofs.Common.{rules}
use Rattle.std.proofs.lemmas.Result.{on_ok_weaker}
use Rattle.pict_show.proofs.Pieces.{number_grows}
use Rattle.pict_show_words.proofs.writing.write_number.Goals as goal

pub returns-clause-grows : goal.returns-clause-grows
returns-clause-grows c = on_ok_weaker c.extend_from_slice.result (number_grows c.args.out.now.items c.extend_from_slice.new.self.items c.args.n c.ranges.n) (search rules)
