use Rattle.pict_turns.proofs.Numbered.{coded_inside}
use Rattle.pict_desk.proofs.Numbered.{coded_rising}
use Rattle.pict_turns.proofs.reading.read_first.Goals as goal

pub read_first_narrow-requires-clause-inside : goal.read_first_narrow-requires-clause-inside
read_first_narrow-requires-clause-inside c = coded_inside c.args.code.now c.requires.code c.args.store.now c.requires.store c.args.number c.frame_at-frame.result.now c.frame_at-frame.ensures

pub read_first_wide-requires-clause-inside : goal.read_first_wide-requires-clause-inside
read_first_wide-requires-clause-inside c = coded_inside c.args.code.now c.requires.code c.args.store.now c.requires.store c.args.number c.frame_at-frame.result.now c.frame_at-frame.ensures

pub read_first_narrow-requires-clause-rising : goal.read_first_narrow-requires-clause-rising
read_first_narrow-requires-clause-rising c = coded_rising c.args.code.now c.requires.code c.args.number c.frame_at-frame.result.now c.frame_at-frame.ensures

pub read_first_wide-requires-clause-rising : goal.read_first_wide-requires-clause-rising
read_first_wide-requires-clause-rising c = coded_rising c.args.code.now c.requires.code c.args.number c.frame_at-frame.result.now c.frame_at-frame.ensures
