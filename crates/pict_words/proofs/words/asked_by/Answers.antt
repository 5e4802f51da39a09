use Rattle.std.proofs.Common.{[]}
use Rattle.pict_words.proofs.Lists.{two_words, three_words, four_words, five_words, none_in}
use Rattle.pict_words.proofs.words.asked_by.Goals as goal

pub returns-in-len2-clause-none : goal.returns-in-len2-clause-none
returns-in-len2-clause-none c = none_in _ _ _ (two_words c.args.words.now (record { ref_ptr = (0, 0); now = [] }) c.in-len2.len_at_least c.in-len2.len_below) c.asked_by_two.ensures.none

pub returns-in-len3-clause-none : goal.returns-in-len3-clause-none
returns-in-len3-clause-none c = none_in _ _ _ (three_words c.args.words.now (record { ref_ptr = (0, 0); now = [] }) c.in-len3.len_at_least c.in-len3.len_below) c.asked_by_three.ensures.none

pub returns-in-len4-clause-none : goal.returns-in-len4-clause-none
returns-in-len4-clause-none c = none_in _ _ _ (four_words c.args.words.now (record { ref_ptr = (0, 0); now = [] }) c.in-len4.len_at_least c.in-len4.len_below) c.asked_by_four.ensures.none

pub returns-in-len5-clause-none : goal.returns-in-len5-clause-none
returns-in-len5-clause-none c = none_in _ _ _ (five_words c.args.words.now (record { ref_ptr = (0, 0); now = [] }) c.in-len5.len_at_least c.in-len5.len_below) c.asked_by_five.ensures.none
