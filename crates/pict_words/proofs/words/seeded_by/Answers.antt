use Rattle.std.proofs.Common.{[]}
use Rattle.pict_words.proofs.Lists.{three_words, four_words, five_words, six_words, none_seeded_in}
use Rattle.pict_words.proofs.words.seeded_by.Goals as goal

pub returns-in-len3-clause-none : goal.returns-in-len3-clause-none
returns-in-len3-clause-none c = none_seeded_in _ _ _ (three_words c.args.words.now (record { ref_ptr = (0, 0); now = [] }) c.in-len3.len_at_least c.in-len3.len_below) c.seeded_by_three.ensures.none

pub returns-in-len4-clause-none : goal.returns-in-len4-clause-none
returns-in-len4-clause-none c = none_seeded_in _ _ _ (four_words c.args.words.now (record { ref_ptr = (0, 0); now = [] }) c.in-len4.len_at_least c.in-len4.len_below) c.seeded_by_four.ensures.none

pub returns-in-len5-clause-none : goal.returns-in-len5-clause-none
returns-in-len5-clause-none c = none_seeded_in _ _ _ (five_words c.args.words.now (record { ref_ptr = (0, 0); now = [] }) c.in-len5.len_at_least c.in-len5.len_below) c.seeded_by_five.ensures.none

pub returns-in-len6-clause-none : goal.returns-in-len6-clause-none
returns-in-len6-clause-none c = none_seeded_in _ _ _ (six_words c.args.words.now (record { ref_ptr = (0, 0); now = [] }) c.in-len6.len_at_least c.in-len6.len_below) c.seeded_by_six.ensures.none
