use Rattle.std.proofs.Common.{[]}
use Rattle.pict_words.proofs.Lists.{four_words, five_words, six_words, seven_words}
use Rattle.pict_words.proofs.Sites.{none_sited_in}
use Rattle.pict_words.proofs.siting.sites_command.Goals as goal

pub returns-in-len4-clause-none : goal.returns-in-len4-clause-none
returns-in-len4-clause-none c = none_sited_in _ _ _ (four_words c.args.words.now (record { ref_ptr = (0, 0); now = [] }) c.in-len4.len_at_least c.in-len4.len_below) c.sites_four.ensures.none

pub returns-in-len5-clause-none : goal.returns-in-len5-clause-none
returns-in-len5-clause-none c = none_sited_in _ _ _ (five_words c.args.words.now (record { ref_ptr = (0, 0); now = [] }) c.in-len5.len_at_least c.in-len5.len_below) c.sites_five.ensures.none

pub returns-in-len6-clause-none : goal.returns-in-len6-clause-none
returns-in-len6-clause-none c = none_sited_in _ _ _ (six_words c.args.words.now (record { ref_ptr = (0, 0); now = [] }) c.in-len6.len_at_least c.in-len6.len_below) c.sites_six.ensures.none

pub returns-in-len7-clause-none : goal.returns-in-len7-clause-none
returns-in-len7-clause-none c = none_sited_in _ _ _ (seven_words c.args.words.now (record { ref_ptr = (0, 0); now = [] }) c.in-len7.len_at_least c.in-len7.len_below) c.sites_seven.ensures.none
