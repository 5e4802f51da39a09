-- Each way that a body of the cycle ends, and what each of its calls asks: the answers stand beside, by the modules of the functions.
use Rattle.pict_check.proofs.+values.Answers.Values as values
use Rattle.pict_check.proofs.+values.Answers.Channels as channels
use Rattle.pict_check.proofs.+values.Answers.Chains as chains
use Rattle.pict_check.proofs.+values.Answers.Fitting as fitting
use Rattle.pict_check.proofs.+values.Answers.Abstractions as abstractions
use Rattle.pict_check.proofs.+values.Answers.Declarations as declarations
use Rattle.pict_check.proofs.+values.Answers.Processes as processes
use Rattle.pict_check.proofs.+values.Goals as goal
mod Values
mod Channels
mod Chains
mod Fitting
mod Abstractions
mod Declarations
mod Processes

pub values::gives_below-gives-requires : goal.values::gives_below-gives-requires
values::gives_below-gives-requires = values.gives_below-gives-requires

pub values::gives_below-returns-in_err-s-clause-answer : goal.values::gives_below-returns-in_err-s-clause-answer
values::gives_below-returns-in_err-s-clause-answer = values.gives_below-returns-in_err-s-clause-answer

pub values::gives_below-below-requires-clause-s : goal.values::gives_below-below-requires-clause-s
values::gives_below-below-requires-clause-s = values.gives_below-below-requires-clause-s

pub values::gives_below-below-requires-clause-t : goal.values::gives_below-below-requires-clause-t
values::gives_below-below-requires-clause-t = values.gives_below-below-requires-clause-t

pub values::gives_below-returns-clause-answer : goal.values::gives_below-returns-clause-answer
values::gives_below-returns-clause-answer = values.gives_below-returns-clause-answer

pub values::gives_below-returns-clause-same : goal.values::gives_below-returns-clause-same
values::gives_below-returns-clause-same = values.gives_below-returns-clause-same

pub values::gives-channel_gives-requires : goal.values::gives-channel_gives-requires
values::gives-channel_gives-requires = values.gives-channel_gives-requires

pub values::gives-returns-in-OfChan-clause-answer : goal.values::gives-returns-in-OfChan-clause-answer
values::gives-returns-in-OfChan-clause-answer = values.gives-returns-in-OfChan-clause-answer

pub values::gives-returns-in-Number-clause-answer : goal.values::gives-returns-in-Number-clause-answer
values::gives-returns-in-Number-clause-answer = values.gives-returns-in-Number-clause-answer

pub values::gives-returns-in-Character-clause-answer : goal.values::gives-returns-in-Character-clause-answer
values::gives-returns-in-Character-clause-answer = values.gives-returns-in-Character-clause-answer

pub values::gives-returns-in-String-clause-answer : goal.values::gives-returns-in-String-clause-answer
values::gives-returns-in-String-clause-answer = values.gives-returns-in-String-clause-answer

pub values::gives-returns-in-True-clause-answer : goal.values::gives-returns-in-True-clause-answer
values::gives-returns-in-True-clause-answer = values.gives-returns-in-True-clause-answer

pub values::gives-returns-in-False-clause-answer : goal.values::gives-returns-in-False-clause-answer
values::gives-returns-in-False-clause-answer = values.gives-returns-in-False-clause-answer

pub values::gives-record_gives-requires : goal.values::gives-record_gives-requires
values::gives-record_gives-requires = values.gives-record_gives-requires

pub values::gives-returns-in-Fields-clause-answer : goal.values::gives-returns-in-Fields-clause-answer
values::gives-returns-in-Fields-clause-answer = values.gives-returns-in-Fields-clause-answer

pub values::gives-gives_below-requires : goal.values::gives-gives_below-requires
values::gives-gives_below-requires = values.gives-gives_below-requires

pub values::gives-returns-in_err-gives_below-in-If-clause-answer : goal.values::gives-returns-in_err-gives_below-in-If-clause-answer
values::gives-returns-in_err-gives_below-in-If-clause-answer = values.gives-returns-in_err-gives_below-in-If-clause-answer

pub values::gives-gives-requires : goal.values::gives-gives-requires
values::gives-gives-requires = values.gives-gives-requires

pub values::gives-returns-in_err-s-in-If-clause-answer : goal.values::gives-returns-in_err-s-in-If-clause-answer
values::gives-returns-in_err-s-in-If-clause-answer = values.gives-returns-in_err-s-in-If-clause-answer

pub values::gives-gives-requires-in-If : goal.values::gives-gives-requires-in-If
values::gives-gives-requires-in-If = values.gives-gives-requires-in-If

pub values::gives-returns-in_err-t-in-If-clause-answer : goal.values::gives-returns-in_err-t-in-If-clause-answer
values::gives-returns-in_err-t-in-If-clause-answer = values.gives-returns-in_err-t-in-If-clause-answer

pub values::gives-either-requires-clause-s : goal.values::gives-either-requires-clause-s
values::gives-either-requires-clause-s = values.gives-either-requires-clause-s

pub values::gives-either-requires-clause-t : goal.values::gives-either-requires-clause-t
values::gives-either-requires-clause-t = values.gives-either-requires-clause-t

pub values::gives-returns-in_ok-t-in-If-clause-answer : goal.values::gives-returns-in_ok-t-in-If-clause-answer
values::gives-returns-in_ok-t-in-If-clause-answer = values.gives-returns-in_ok-t-in-If-clause-answer

pub values::gives-returns-in_ok-t-in-If-clause-same : goal.values::gives-returns-in_ok-t-in-If-clause-same
values::gives-returns-in_ok-t-in-If-clause-same = values.gives-returns-in_ok-t-in-If-clause-same

pub values::gives-abstraction_gives-requires : goal.values::gives-abstraction_gives-requires
values::gives-abstraction_gives-requires = values.gives-abstraction_gives-requires

pub values::gives-returns-in_err-r-in-Lambda-clause-answer : goal.values::gives-returns-in_err-r-in-Lambda-clause-answer
values::gives-returns-in_err-r-in-Lambda-clause-answer = values.gives-returns-in_err-r-in-Lambda-clause-answer

pub values::gives-returns-in_ok-r-in-Lambda-clause-answer : goal.values::gives-returns-in_ok-r-in-Lambda-clause-answer
values::gives-returns-in_ok-r-in-Lambda-clause-answer = values.gives-returns-in_ok-r-in-Lambda-clause-answer

pub values::gives-returns-in_ok-r-in-Lambda-clause-same : goal.values::gives-returns-in_ok-r-in-Lambda-clause-same
values::gives-returns-in_ok-r-in-Lambda-clause-same = values.gives-returns-in_ok-r-in-Lambda-clause-same

pub values::values_give-loop-v-init : goal.values::values_give-loop-v-init
values::values_give-loop-v-init = values.values_give-loop-v-init

pub values::values_give-gives-requires : goal.values::values_give-gives-requires
values::values_give-gives-requires = values.values_give-gives-requires

pub values::values_give-returns-in_err-gives-clause-answer : goal.values::values_give-returns-in_err-gives-clause-answer
values::values_give-returns-in_err-gives-clause-answer = values.values_give-returns-in_err-gives-clause-answer

pub values::values_give-loop-v-preserved : goal.values::values_give-loop-v-preserved
values::values_give-loop-v-preserved = values.values_give-loop-v-preserved

pub values::values_give-returns-clause-answer : goal.values::values_give-returns-clause-answer
values::values_give-returns-clause-answer = values.values_give-returns-clause-answer

pub values::values_give-returns-clause-same : goal.values::values_give-returns-clause-same
values::values_give-returns-clause-same = values.values_give-returns-clause-same

pub values::labelled_values_give-loop-l-init : goal.values::labelled_values_give-loop-l-init
values::labelled_values_give-loop-l-init = values.labelled_values_give-loop-l-init

pub values::labelled_values_give-gives-requires : goal.values::labelled_values_give-gives-requires
values::labelled_values_give-gives-requires = values.labelled_values_give-gives-requires

pub values::labelled_values_give-returns-in_err-gives-clause-answer : goal.values::labelled_values_give-returns-in_err-gives-clause-answer
values::labelled_values_give-returns-in_err-gives-clause-answer = values.labelled_values_give-returns-in_err-gives-clause-answer

pub values::labelled_values_give-loop-l-preserved : goal.values::labelled_values_give-loop-l-preserved
values::labelled_values_give-loop-l-preserved = values.labelled_values_give-loop-l-preserved

pub values::labelled_values_give-returns-clause-answer : goal.values::labelled_values_give-returns-clause-answer
values::labelled_values_give-returns-clause-answer = values.labelled_values_give-returns-clause-answer

pub values::labelled_values_give-returns-clause-same : goal.values::labelled_values_give-returns-clause-same
values::labelled_values_give-returns-clause-same = values.labelled_values_give-returns-clause-same

pub values::record_gives-returns-then-not-is_empty-clause-answer : goal.values::record_gives-returns-then-not-is_empty-clause-answer
values::record_gives-returns-then-not-is_empty-clause-answer = values.record_gives-returns-then-not-is_empty-clause-answer

pub values::record_gives-values_give-requires : goal.values::record_gives-values_give-requires
values::record_gives-values_give-requires = values.record_gives-values_give-requires

pub values::record_gives-returns-in_err-positional-clause-answer : goal.values::record_gives-returns-in_err-positional-clause-answer
values::record_gives-returns-in_err-positional-clause-answer = values.record_gives-returns-in_err-positional-clause-answer

pub values::record_gives-labelled_values_give-requires : goal.values::record_gives-labelled_values_give-requires
values::record_gives-labelled_values_give-requires = values.record_gives-labelled_values_give-requires

pub values::record_gives-returns-in_err-labelled-clause-answer : goal.values::record_gives-returns-in_err-labelled-clause-answer
values::record_gives-returns-in_err-labelled-clause-answer = values.record_gives-returns-in_err-labelled-clause-answer

pub values::record_gives-returns-clause-answer : goal.values::record_gives-returns-clause-answer
values::record_gives-returns-clause-answer = values.record_gives-returns-clause-answer

pub values::record_gives-returns-clause-same : goal.values::record_gives-returns-clause-same
values::record_gives-returns-clause-same = values.record_gives-returns-clause-same

pub values::record_has-fields_fit-requires : goal.values::record_has-fields_fit-requires
values::record_has-fields_fit-requires = values.record_has-fields_fit-requires

pub values::record_has-returns-in_err-fields_fit-clause-answer : goal.values::record_has-returns-in_err-fields_fit-clause-answer
values::record_has-returns-in_err-fields_fit-clause-answer = values.record_has-returns-in_err-fields_fit-clause-answer

pub values::record_has-returns-clause-answer : goal.values::record_has-returns-clause-answer
values::record_has-returns-clause-answer = values.record_has-returns-clause-answer

pub values::has-channel_has-requires : goal.values::has-channel_has-requires
values::has-channel_has-requires = values.has-channel_has-requires

pub values::has-returns-in-OfChan-clause-answer : goal.values::has-returns-in-OfChan-clause-answer
values::has-returns-in-OfChan-clause-answer = values.has-returns-in-OfChan-clause-answer

pub values::has-record_has-requires : goal.values::has-record_has-requires
values::has-record_has-requires = values.has-record_has-requires

pub values::has-returns-in-Some-clause-answer : goal.values::has-returns-in-Some-clause-answer
values::has-returns-in-Some-clause-answer = values.has-returns-in-Some-clause-answer

pub values::has-gives_below-requires : goal.values::has-gives_below-requires
values::has-gives_below-requires = values.has-gives_below-requires

pub values::has-returns-in-None-clause-answer : goal.values::has-returns-in-None-clause-answer
values::has-returns-in-None-clause-answer = values.has-returns-in-None-clause-answer

pub values::has-gives_below-requires-in-If : goal.values::has-gives_below-requires-in-If
values::has-gives_below-requires-in-If = values.has-gives_below-requires-in-If

pub values::has-returns-in_err-gives_below-in-If-clause-answer : goal.values::has-returns-in_err-gives_below-in-If-clause-answer
values::has-returns-in_err-gives_below-in-If-clause-answer = values.has-returns-in_err-gives_below-in-If-clause-answer

pub values::has-has-requires : goal.values::has-has-requires
values::has-has-requires = values.has-has-requires

pub values::has-returns-in_err-has-in-If-clause-answer : goal.values::has-returns-in_err-has-in-If-clause-answer
values::has-returns-in_err-has-in-If-clause-answer = values.has-returns-in_err-has-in-If-clause-answer

pub values::has-has-requires-in-If : goal.values::has-has-requires-in-If
values::has-has-requires-in-If = values.has-has-requires-in-If

pub values::has-returns-in_ok-has-in-If-clause-answer : goal.values::has-returns-in_ok-has-in-If-clause-answer
values::has-returns-in_ok-has-in-If-clause-answer = values.has-returns-in_ok-has-in-If-clause-answer

pub values::has-returns-in_ok-has-in-If-clause-same : goal.values::has-returns-in_ok-has-in-If-clause-same
values::has-returns-in_ok-has-in-If-clause-same = values.has-returns-in_ok-has-in-If-clause-same

pub values::has-abstraction_against-requires : goal.values::has-abstraction_against-requires
values::has-abstraction_against-requires = values.has-abstraction_against-requires

pub values::has-returns-in-Some-as_sent-clause-answer : goal.values::has-returns-in-Some-as_sent-clause-answer
values::has-returns-in-Some-as_sent-clause-answer = values.has-returns-in-Some-as_sent-clause-answer

pub values::has-gives_below-requires-in-None-as_sent : goal.values::has-gives_below-requires-in-None-as_sent
values::has-gives_below-requires-in-None-as_sent = values.has-gives_below-requires-in-None-as_sent

pub values::has-returns-in-None-as_sent-clause-answer : goal.values::has-returns-in-None-as_sent-clause-answer
values::has-returns-in-None-as_sent-clause-answer = values.has-returns-in-None-as_sent-clause-answer

pub values::has-gives_below-requires-in-Number : goal.values::has-gives_below-requires-in-Number
values::has-gives_below-requires-in-Number = values.has-gives_below-requires-in-Number

pub values::has-returns-in-Number-clause-answer : goal.values::has-returns-in-Number-clause-answer
values::has-returns-in-Number-clause-answer = values.has-returns-in-Number-clause-answer

pub values::has-gives_below-requires-in-Character : goal.values::has-gives_below-requires-in-Character
values::has-gives_below-requires-in-Character = values.has-gives_below-requires-in-Character

pub values::has-returns-in-Character-clause-answer : goal.values::has-returns-in-Character-clause-answer
values::has-returns-in-Character-clause-answer = values.has-returns-in-Character-clause-answer

pub values::has-gives_below-requires-in-String : goal.values::has-gives_below-requires-in-String
values::has-gives_below-requires-in-String = values.has-gives_below-requires-in-String

pub values::has-returns-in-String-clause-answer : goal.values::has-returns-in-String-clause-answer
values::has-returns-in-String-clause-answer = values.has-returns-in-String-clause-answer

pub values::has-gives_below-requires-in-True : goal.values::has-gives_below-requires-in-True
values::has-gives_below-requires-in-True = values.has-gives_below-requires-in-True

pub values::has-returns-in-True-clause-answer : goal.values::has-returns-in-True-clause-answer
values::has-returns-in-True-clause-answer = values.has-returns-in-True-clause-answer

pub values::has-gives_below-requires-in-False : goal.values::has-gives_below-requires-in-False
values::has-gives_below-requires-in-False = values.has-gives_below-requires-in-False

pub values::has-returns-in-False-clause-answer : goal.values::has-returns-in-False-clause-answer
values::has-returns-in-False-clause-answer = values.has-returns-in-False-clause-answer

pub channels::channel_below-channel_gives-requires : goal.channels::channel_below-channel_gives-requires
channels::channel_below-channel_gives-requires = channels.channel_below-channel_gives-requires

pub channels::channel_below-returns-in_err-s-clause-answer : goal.channels::channel_below-returns-in_err-s-clause-answer
channels::channel_below-returns-in_err-s-clause-answer = channels.channel_below-returns-in_err-s-clause-answer

pub channels::channel_below-below-requires-clause-s : goal.channels::channel_below-below-requires-clause-s
channels::channel_below-below-requires-clause-s = channels.channel_below-below-requires-clause-s

pub channels::channel_below-below-requires-clause-t : goal.channels::channel_below-below-requires-clause-t
channels::channel_below-below-requires-clause-t = channels.channel_below-below-requires-clause-t

pub channels::channel_below-returns-clause-answer : goal.channels::channel_below-returns-clause-answer
channels::channel_below-returns-clause-answer = channels.channel_below-returns-clause-answer

pub channels::channel_below-returns-clause-same : goal.channels::channel_below-returns-clause-same
channels::channel_below-returns-clause-same = channels.channel_below-returns-clause-same

pub channels::channel_gives-returns-in_ok-type_of_use-in-Use-clause-answer : goal.channels::channel_gives-returns-in_ok-type_of_use-in-Use-clause-answer
channels::channel_gives-returns-in_ok-type_of_use-in-Use-clause-answer = channels.channel_gives-returns-in_ok-type_of_use-in-Use-clause-answer

pub channels::channel_gives-annotated_fold-requires : goal.channels::channel_gives-annotated_fold-requires
channels::channel_gives-annotated_fold-requires = channels.channel_gives-annotated_fold-requires

pub channels::channel_gives-returns-in_err-fold-in-Fold-clause-answer : goal.channels::channel_gives-returns-in_err-fold-in-Fold-clause-answer
channels::channel_gives-returns-in_err-fold-in-Fold-clause-answer = channels.channel_gives-returns-in_err-fold-in-Fold-clause-answer

pub channels::channel_gives-has-requires : goal.channels::channel_gives-has-requires
channels::channel_gives-has-requires = channels.channel_gives-has-requires

pub channels::channel_gives-returns-in_err-has-in-Fold-clause-answer : goal.channels::channel_gives-returns-in_err-has-in-Fold-clause-answer
channels::channel_gives-returns-in_err-has-in-Fold-clause-answer = channels.channel_gives-returns-in_err-has-in-Fold-clause-answer

pub channels::channel_gives-returns-in_ok-has-in-Fold-clause-answer : goal.channels::channel_gives-returns-in_ok-has-in-Fold-clause-answer
channels::channel_gives-returns-in_ok-has-in-Fold-clause-answer = channels.channel_gives-returns-in_ok-has-in-Fold-clause-answer

pub channels::channel_gives-declarations-requires : goal.channels::channel_gives-declarations-requires
channels::channel_gives-declarations-requires = channels.channel_gives-declarations-requires

pub channels::channel_gives-returns-in_err-declarations-in-Block-clause-answer : goal.channels::channel_gives-returns-in_err-declarations-in-Block-clause-answer
channels::channel_gives-returns-in_err-declarations-in-Block-clause-answer = channels.channel_gives-returns-in_err-declarations-in-Block-clause-answer

pub channels::channel_gives-overflow_sub-opened : goal.channels::channel_gives-overflow_sub-opened
channels::channel_gives-overflow_sub-opened = channels.channel_gives-overflow_sub-opened

pub channels::channel_gives-gives-requires : goal.channels::channel_gives-gives-requires
channels::channel_gives-gives-requires = channels.channel_gives-gives-requires

pub channels::channel_gives-returns-in_err-given-in-Block-clause-answer : goal.channels::channel_gives-returns-in_err-given-in-Block-clause-answer
channels::channel_gives-returns-in_err-given-in-Block-clause-answer = channels.channel_gives-returns-in_err-given-in-Block-clause-answer

pub channels::channel_gives-returns-in_err-t-in-Block-clause-answer : goal.channels::channel_gives-returns-in_err-t-in-Block-clause-answer
channels::channel_gives-returns-in_err-t-in-Block-clause-answer = channels.channel_gives-returns-in_err-t-in-Block-clause-answer

pub channels::channel_gives-cut-requires : goal.channels::channel_gives-cut-requires
channels::channel_gives-cut-requires = channels.channel_gives-cut-requires

pub channels::channel_gives-returns-in_ok-t-in-Block-clause-answer : goal.channels::channel_gives-returns-in_ok-t-in-Block-clause-answer
channels::channel_gives-returns-in_ok-t-in-Block-clause-answer = channels.channel_gives-returns-in_ok-t-in-Block-clause-answer

pub channels::channel_gives-returns-in_ok-t-in-Block-clause-same : goal.channels::channel_gives-returns-in_ok-t-in-Block-clause-same
channels::channel_gives-returns-in_ok-t-in-Block-clause-same = channels.channel_gives-returns-in_ok-t-in-Block-clause-same

pub channels::channel_gives-gives-requires-in-Apply : goal.channels::channel_gives-gives-requires-in-Apply
channels::channel_gives-gives-requires-in-Apply = channels.channel_gives-gives-requires-in-Apply

pub channels::channel_gives-returns-in_err-t-in-Apply-clause-answer : goal.channels::channel_gives-returns-in_err-t-in-Apply-clause-answer
channels::channel_gives-returns-in_err-t-in-Apply-clause-answer = channels.channel_gives-returns-in_err-t-in-Apply-clause-answer

pub channels::channel_gives-application-requires : goal.channels::channel_gives-application-requires
channels::channel_gives-application-requires = channels.channel_gives-application-requires

pub channels::channel_gives-returns-in_ok-t-in-Apply-clause-answer : goal.channels::channel_gives-returns-in_ok-t-in-Apply-clause-answer
channels::channel_gives-returns-in_ok-t-in-Apply-clause-answer = channels.channel_gives-returns-in_ok-t-in-Apply-clause-answer

pub channels::channel_gives-returns-in_ok-t-in-Apply-clause-same : goal.channels::channel_gives-returns-in_ok-t-in-Apply-clause-same
channels::channel_gives-returns-in_ok-t-in-Apply-clause-same = channels.channel_gives-returns-in_ok-t-in-Apply-clause-same

pub channels::channel_has-channel_below-requires : goal.channels::channel_has-channel_below-requires
channels::channel_has-channel_below-requires = channels.channel_has-channel_below-requires

pub channels::channel_has-returns-in-Use-clause-answer : goal.channels::channel_has-returns-in-Use-clause-answer
channels::channel_has-returns-in-Use-clause-answer = channels.channel_has-returns-in-Use-clause-answer

pub channels::channel_has-channel_below-requires-in-Some : goal.channels::channel_has-channel_below-requires-in-Some
channels::channel_has-channel_below-requires-in-Some = channels.channel_has-channel_below-requires-in-Some

pub channels::channel_has-returns-in-Some-clause-answer : goal.channels::channel_has-returns-in-Some-clause-answer
channels::channel_has-returns-in-Some-clause-answer = channels.channel_has-returns-in-Some-clause-answer

pub channels::channel_has-fold_unfolding-requires : goal.channels::channel_has-fold_unfolding-requires
channels::channel_has-fold_unfolding-requires = channels.channel_has-fold_unfolding-requires

pub channels::channel_has-returns-in_err-unfolding-in-None-clause-answer : goal.channels::channel_has-returns-in_err-unfolding-in-None-clause-answer
channels::channel_has-returns-in_err-unfolding-in-None-clause-answer = channels.channel_has-returns-in_err-unfolding-in-None-clause-answer

pub channels::channel_has-has-requires : goal.channels::channel_has-has-requires
channels::channel_has-has-requires = channels.channel_has-has-requires

pub channels::channel_has-returns-in_ok-unfolding-in-None-clause-answer : goal.channels::channel_has-returns-in_ok-unfolding-in-None-clause-answer
channels::channel_has-returns-in_ok-unfolding-in-None-clause-answer = channels.channel_has-returns-in_ok-unfolding-in-None-clause-answer

pub channels::channel_has-declarations-requires : goal.channels::channel_has-declarations-requires
channels::channel_has-declarations-requires = channels.channel_has-declarations-requires

pub channels::channel_has-returns-in_err-declarations-in-Block-clause-answer : goal.channels::channel_has-returns-in_err-declarations-in-Block-clause-answer
channels::channel_has-returns-in_err-declarations-in-Block-clause-answer = channels.channel_has-returns-in_err-declarations-in-Block-clause-answer

pub channels::channel_has-overflow_sub-opened : goal.channels::channel_has-overflow_sub-opened
channels::channel_has-overflow_sub-opened = channels.channel_has-overflow_sub-opened

pub channels::channel_has-has-requires-in-Block : goal.channels::channel_has-has-requires-in-Block
channels::channel_has-has-requires-in-Block = channels.channel_has-has-requires-in-Block

pub channels::channel_has-returns-in_err-has-in-Block-clause-answer : goal.channels::channel_has-returns-in_err-has-in-Block-clause-answer
channels::channel_has-returns-in_err-has-in-Block-clause-answer = channels.channel_has-returns-in_err-has-in-Block-clause-answer

pub channels::channel_has-cut-requires : goal.channels::channel_has-cut-requires
channels::channel_has-cut-requires = channels.channel_has-cut-requires

pub channels::channel_has-returns-in_ok-has-in-Block-clause-answer : goal.channels::channel_has-returns-in_ok-has-in-Block-clause-answer
channels::channel_has-returns-in_ok-has-in-Block-clause-answer = channels.channel_has-returns-in_ok-has-in-Block-clause-answer

pub channels::channel_has-returns-in_ok-has-in-Block-clause-same : goal.channels::channel_has-returns-in_ok-has-in-Block-clause-same
channels::channel_has-returns-in_ok-has-in-Block-clause-same = channels.channel_has-returns-in_ok-has-in-Block-clause-same

pub channels::channel_has-gives-requires : goal.channels::channel_has-gives-requires
channels::channel_has-gives-requires = channels.channel_has-gives-requires

pub channels::channel_has-returns-in_err-head-in-Apply-clause-answer : goal.channels::channel_has-returns-in_err-head-in-Apply-clause-answer
channels::channel_has-returns-in_err-head-in-Apply-clause-answer = channels.channel_has-returns-in_err-head-in-Apply-clause-answer

pub channels::channel_has-application-requires : goal.channels::channel_has-application-requires
channels::channel_has-application-requires = channels.channel_has-application-requires

pub channels::channel_has-returns-in_err-application-in-Apply-clause-answer : goal.channels::channel_has-returns-in_err-application-in-Apply-clause-answer
channels::channel_has-returns-in_err-application-in-Apply-clause-answer = channels.channel_has-returns-in_err-application-in-Apply-clause-answer

pub channels::channel_has-returns-in_ok-application-in-Apply-clause-answer : goal.channels::channel_has-returns-in_ok-application-in-Apply-clause-answer
channels::channel_has-returns-in_ok-application-in-Apply-clause-answer = channels.channel_has-returns-in_ok-application-in-Apply-clause-answer

pub channels::channel_has-returns-in_ok-application-in-Apply-clause-same : goal.channels::channel_has-returns-in_ok-application-in-Apply-clause-same
channels::channel_has-returns-in_ok-application-in-Apply-clause-same = channels.channel_has-returns-in_ok-application-in-Apply-clause-same

pub channels::channel_gives-right_gives-requires : goal.channels::channel_gives-right_gives-requires
channels::channel_gives-right_gives-requires = channels.channel_gives-right_gives-requires

pub channels::channel_gives-returns-in-Right-clause-answer : goal.channels::channel_gives-returns-in-Right-clause-answer
channels::channel_gives-returns-in-Right-clause-answer = channels.channel_gives-returns-in-Right-clause-answer

pub channels::channel_has-right_has-requires : goal.channels::channel_has-right_has-requires
channels::channel_has-right_has-requires = channels.channel_has-right_has-requires

pub channels::channel_has-returns-in-Right-clause-answer : goal.channels::channel_has-returns-in-Right-clause-answer
channels::channel_has-returns-in-Right-clause-answer = channels.channel_has-returns-in-Right-clause-answer

pub channels::channel_gives-left_gives-requires : goal.channels::channel_gives-left_gives-requires
channels::channel_gives-left_gives-requires = channels.channel_gives-left_gives-requires

pub channels::channel_gives-returns-in-Left-clause-answer : goal.channels::channel_gives-returns-in-Left-clause-answer
channels::channel_gives-returns-in-Left-clause-answer = channels.channel_gives-returns-in-Left-clause-answer

pub channels::channel_has-left_has-requires : goal.channels::channel_has-left_has-requires
channels::channel_has-left_has-requires = channels.channel_has-left_has-requires

pub channels::channel_has-returns-in-Left-clause-answer : goal.channels::channel_has-returns-in-Left-clause-answer
channels::channel_has-returns-in-Left-clause-answer = channels.channel_has-returns-in-Left-clause-answer

pub channels::application-returns-in_err-function-clause-answer : goal.channels::application-returns-in_err-function-clause-answer
channels::application-returns-in_err-function-clause-answer = channels.application-returns-in_err-function-clause-answer

pub channels::application-found_first-requires-clause-regular : goal.channels::application-found_first-requires-clause-regular
channels::application-found_first-requires-clause-regular = channels.application-found_first-requires-clause-regular

pub channels::application-found_first-requires-clause-f : goal.channels::application-found_first-requires-clause-f
channels::application-found_first-requires-clause-f = channels.application-found_first-requires-clause-f

pub channels::application-found_first-requires-clause-expected : goal.channels::application-found_first-requires-clause-expected
channels::application-found_first-requires-clause-expected = channels.application-found_first-requires-clause-expected

pub channels::application-fields_fit-requires : goal.channels::application-fields_fit-requires
channels::application-fields_fit-requires = channels.application-fields_fit-requires

pub channels::application-returns-in_err-args-clause-answer : goal.channels::application-returns-in_err-args-clause-answer
channels::application-returns-in_err-args-clause-answer = channels.application-returns-in_err-args-clause-answer

pub channels::application-application_end-requires-clause-answer : goal.channels::application-application_end-requires-clause-answer
channels::application-application_end-requires-clause-answer = channels.application-application_end-requires-clause-answer

pub channels::application-application_end-requires-clause-args : goal.channels::application-application_end-requires-clause-args
channels::application-application_end-requires-clause-args = channels.application-application_end-requires-clause-args

pub channels::application-application_end-requires-clause-expected : goal.channels::application-application_end-requires-clause-expected
channels::application-application_end-requires-clause-expected = channels.application-application_end-requires-clause-expected

pub channels::application-returns-clause-answer : goal.channels::application-returns-clause-answer
channels::application-returns-clause-answer = channels.application-returns-clause-answer

pub channels::application-returns-clause-same : goal.channels::application-returns-clause-same
channels::application-returns-clause-same = channels.application-returns-clause-same

pub chains::right_gives-right-requires : goal.chains::right_gives-right-requires
chains::right_gives-right-requires = chains.right_gives-right-requires

pub chains::right_gives-returns-in_err-t-clause-answer : goal.chains::right_gives-returns-in_err-t-clause-answer
chains::right_gives-returns-in_err-t-clause-answer = chains.right_gives-returns-in_err-t-clause-answer

pub chains::right_gives-returns-clause-answer : goal.chains::right_gives-returns-clause-answer
chains::right_gives-returns-clause-answer = chains.right_gives-returns-clause-answer

pub chains::right_has-right-requires : goal.chains::right_has-right-requires
chains::right_has-right-requires = chains.right_has-right-requires

pub chains::right_has-returns-in_err-_given-clause-answer : goal.chains::right_has-returns-in_err-_given-clause-answer
chains::right_has-returns-in_err-_given-clause-answer = chains.right_has-returns-in_err-_given-clause-answer

pub chains::right_has-returns-clause-answer : goal.chains::right_has-returns-clause-answer
chains::right_has-returns-clause-answer = chains.right_has-returns-clause-answer

pub chains::left_gives-left-requires : goal.chains::left_gives-left-requires
chains::left_gives-left-requires = chains.left_gives-left-requires

pub chains::left_gives-returns-in_err-t-clause-answer : goal.chains::left_gives-returns-in_err-t-clause-answer
chains::left_gives-returns-in_err-t-clause-answer = chains.left_gives-returns-in_err-t-clause-answer

pub chains::left_gives-returns-clause-answer : goal.chains::left_gives-returns-clause-answer
chains::left_gives-returns-clause-answer = chains.left_gives-returns-clause-answer

pub chains::left_has-left-requires : goal.chains::left_has-left-requires
chains::left_has-left-requires = chains.left_has-left-requires

pub chains::left_has-returns-in_err-_given-clause-answer : goal.chains::left_has-returns-in_err-_given-clause-answer
chains::left_has-returns-in_err-_given-clause-answer = chains.left_has-returns-in_err-_given-clause-answer

pub chains::left_has-returns-clause-answer : goal.chains::left_has-returns-clause-answer
chains::left_has-returns-clause-answer = chains.left_has-returns-clause-answer

pub chains::judged-returns-in_ok-gives-in-None-clause-formed : goal.chains::judged-returns-in_ok-gives-in-None-clause-formed
chains::judged-returns-in_ok-gives-in-None-clause-formed = chains.judged-returns-in_ok-gives-in-None-clause-formed

pub chains::right-alone-requires : goal.chains::right-alone-requires
chains::right-alone-requires = chains.right-alone-requires

pub chains::right-returns-then-vs-lt2-clause-answer : goal.chains::right-returns-then-vs-lt2-clause-answer
chains::right-returns-then-vs-lt2-clause-answer = chains.right-returns-then-vs-lt2-clause-answer

pub chains::right-returns-in_err-o-clause-answer : goal.chains::right-returns-in_err-o-clause-answer
chains::right-returns-in_err-o-clause-answer = chains.right-returns-in_err-o-clause-answer

pub chains::right-right_by-requires : goal.chains::right-right_by-requires
chains::right-right_by-requires = chains.right-right_by-requires

pub chains::right-returns-clause-answer : goal.chains::right-returns-clause-answer
chains::right-returns-clause-answer = chains.right-returns-clause-answer

pub chains::right_by-enter-requires : goal.chains::right_by-enter-requires
chains::right_by-enter-requires = chains.right_by-enter-requires

pub chains::right_by-returns-in_err-frames-clause-answer : goal.chains::right_by-returns-in_err-frames-clause-answer
chains::right_by-returns-in_err-frames-clause-answer = chains.right_by-returns-in_err-frames-clause-answer

pub chains::right_by-wanted_around-requires-clause-field : goal.chains::right_by-wanted_around-requires-clause-field
chains::right_by-wanted_around-requires-clause-field = chains.right_by-wanted_around-requires-clause-field

pub chains::right_by-wanted_around-requires-clause-found : goal.chains::right_by-wanted_around-requires-clause-found
chains::right_by-wanted_around-requires-clause-found = chains.right_by-wanted_around-requires-clause-found

pub chains::right_by-wanted_around-requires-clause-room : goal.chains::right_by-wanted_around-requires-clause-room
chains::right_by-wanted_around-requires-clause-room = chains.right_by-wanted_around-requires-clause-room

pub chains::right_by-returns-in_err-inside-clause-answer : goal.chains::right_by-returns-in_err-inside-clause-answer
chains::right_by-returns-in_err-inside-clause-answer = chains.right_by-returns-in_err-inside-clause-answer

pub chains::right_by-judged-requires : goal.chains::right_by-judged-requires
chains::right_by-judged-requires = chains.right_by-judged-requires

pub chains::right_by-returns-in_err-given-clause-answer : goal.chains::right_by-returns-in_err-given-clause-answer
chains::right_by-returns-in_err-given-clause-answer = chains.right_by-returns-in_err-given-clause-answer

pub chains::right_by-leave-requires-clause-form : goal.chains::right_by-leave-requires-clause-form
chains::right_by-leave-requires-clause-form = chains.right_by-leave-requires-clause-form

pub chains::right_by-leave-requires-clause-entered : goal.chains::right_by-leave-requires-clause-entered
chains::right_by-leave-requires-clause-entered = chains.right_by-leave-requires-clause-entered

pub chains::right_by-leave-requires-clause-last : goal.chains::right_by-leave-requires-clause-last
chains::right_by-leave-requires-clause-last = chains.right_by-leave-requires-clause-last

pub chains::right_by-leave-requires-clause-given : goal.chains::right_by-leave-requires-clause-given
chains::right_by-leave-requires-clause-given = chains.right_by-leave-requires-clause-given

pub chains::right_by-returns-clause-answer : goal.chains::right_by-returns-clause-answer
chains::right_by-returns-clause-answer = chains.right_by-returns-clause-answer

pub chains::enter-loop-i-init : goal.chains::enter-loop-i-init
chains::enter-loop-i-init = chains.enter-loop-i-init

pub chains::enter-returns-clause-entered : goal.chains::enter-returns-clause-entered
chains::enter-returns-clause-entered = chains.enter-returns-clause-entered

pub chains::enter-start-requires-clause-regular : goal.chains::enter-start-requires-clause-regular
chains::enter-start-requires-clause-regular = chains.enter-start-requires-clause-regular

pub chains::enter-start-requires-clause-formed : goal.chains::enter-start-requires-clause-formed
chains::enter-start-requires-clause-formed = chains.enter-start-requires-clause-formed

pub chains::enter-start-requires-clause-wanted : goal.chains::enter-start-requires-clause-wanted
chains::enter-start-requires-clause-wanted = chains.enter-start-requires-clause-wanted

pub chains::enter-returns-in_err-found-clause-refused : goal.chains::enter-returns-in_err-found-clause-refused
chains::enter-returns-in_err-found-clause-refused = chains.enter-returns-in_err-found-clause-refused

pub chains::enter-value_fits-requires : goal.chains::enter-value_fits-requires
chains::enter-value_fits-requires = chains.enter-value_fits-requires

pub chains::enter-returns-in_err-value_fits-clause-refused : goal.chains::enter-returns-in_err-value_fits-clause-refused
chains::enter-returns-in_err-value_fits-clause-refused = chains.enter-returns-in_err-value_fits-clause-refused

pub chains::enter-field_wanted-requires-clause-field : goal.chains::enter-field_wanted-requires-clause-field
chains::enter-field_wanted-requires-clause-field = chains.enter-field_wanted-requires-clause-field

pub chains::enter-field_wanted-requires-clause-found : goal.chains::enter-field_wanted-requires-clause-found
chains::enter-field_wanted-requires-clause-found = chains.enter-field_wanted-requires-clause-found

pub chains::enter-returns-in_err-inside-2-clause-refused : goal.chains::enter-returns-in_err-inside-2-clause-refused
chains::enter-returns-in_err-inside-2-clause-refused = chains.enter-returns-in_err-inside-2-clause-refused

pub chains::enter-loop-i-preserved : goal.chains::enter-loop-i-preserved
chains::enter-loop-i-preserved = chains.enter-loop-i-preserved

pub chains::left-alone-requires : goal.chains::left-alone-requires
chains::left-alone-requires = chains.left-alone-requires

pub chains::left-returns-then-vs-lt2-clause-answer : goal.chains::left-returns-then-vs-lt2-clause-answer
chains::left-returns-then-vs-lt2-clause-answer = chains.left-returns-then-vs-lt2-clause-answer

pub chains::left-returns-in_err-o-clause-answer : goal.chains::left-returns-in_err-o-clause-answer
chains::left-returns-in_err-o-clause-answer = chains.left-returns-in_err-o-clause-answer

pub chains::left-left_by-requires : goal.chains::left-left_by-requires
chains::left-left_by-requires = chains.left-left_by-requires

pub chains::left-returns-clause-answer : goal.chains::left-returns-clause-answer
chains::left-returns-clause-answer = chains.left-returns-clause-answer

pub chains::left_by-returns-in_err-frames-clause-answer : goal.chains::left_by-returns-in_err-frames-clause-answer
chains::left_by-returns-in_err-frames-clause-answer = chains.left_by-returns-in_err-frames-clause-answer

pub chains::left_by-wanted_around-requires-clause-field : goal.chains::left_by-wanted_around-requires-clause-field
chains::left_by-wanted_around-requires-clause-field = chains.left_by-wanted_around-requires-clause-field

pub chains::left_by-wanted_around-requires-clause-found : goal.chains::left_by-wanted_around-requires-clause-found
chains::left_by-wanted_around-requires-clause-found = chains.left_by-wanted_around-requires-clause-found

pub chains::left_by-wanted_around-requires-clause-room : goal.chains::left_by-wanted_around-requires-clause-room
chains::left_by-wanted_around-requires-clause-room = chains.left_by-wanted_around-requires-clause-room

pub chains::left_by-returns-in_err-inside-clause-answer : goal.chains::left_by-returns-in_err-inside-clause-answer
chains::left_by-returns-in_err-inside-clause-answer = chains.left_by-returns-in_err-inside-clause-answer

pub chains::left_by-judged-requires : goal.chains::left_by-judged-requires
chains::left_by-judged-requires = chains.left_by-judged-requires

pub chains::left_by-returns-in_err-given-clause-answer : goal.chains::left_by-returns-in_err-given-clause-answer
chains::left_by-returns-in_err-given-clause-answer = chains.left_by-returns-in_err-given-clause-answer

pub chains::left_by-finish-requires : goal.chains::left_by-finish-requires
chains::left_by-finish-requires = chains.left_by-finish-requires

pub chains::left_by-returns-clause-answer : goal.chains::left_by-returns-clause-answer
chains::left_by-returns-clause-answer = chains.left_by-returns-clause-answer

pub chains::finish-up-init : goal.chains::finish-up-init
chains::finish-up-init = chains.finish-up-init

pub chains::finish-returns-clause-answer : goal.chains::finish-returns-clause-answer
chains::finish-returns-clause-answer = chains.finish-returns-clause-answer

pub chains::finish-field_given-requires-clause-regular : goal.chains::finish-field_given-requires-clause-regular
chains::finish-field_given-requires-clause-regular = chains.finish-field_given-requires-clause-regular

pub chains::finish-field_given-requires-clause-field : goal.chains::finish-field_given-requires-clause-field
chains::finish-field_given-requires-clause-field = chains.finish-field_given-requires-clause-field

pub chains::finish-field_given-requires-clause-found : goal.chains::finish-field_given-requires-clause-found
chains::finish-field_given-requires-clause-found = chains.finish-field_given-requires-clause-found

pub chains::finish-field_given-requires-clause-given : goal.chains::finish-field_given-requires-clause-given
chains::finish-field_given-requires-clause-given = chains.finish-field_given-requires-clause-given

pub chains::finish-returns-in_err-field_given-clause-answer : goal.chains::finish-returns-in_err-field_given-clause-answer
chains::finish-returns-in_err-field_given-clause-answer = chains.finish-returns-in_err-field_given-clause-answer

pub chains::finish-value_fits-requires : goal.chains::finish-value_fits-requires
chains::finish-value_fits-requires = chains.finish-value_fits-requires

pub chains::finish-returns-in_err-value_fits-clause-answer : goal.chains::finish-returns-in_err-value_fits-clause-answer
chains::finish-returns-in_err-value_fits-clause-answer = chains.finish-returns-in_err-value_fits-clause-answer

pub chains::finish-end_fields-requires-clause-regular : goal.chains::finish-end_fields-requires-clause-regular
chains::finish-end_fields-requires-clause-regular = chains.finish-end_fields-requires-clause-regular

pub chains::finish-end_fields-requires-clause-formed : goal.chains::finish-end_fields-requires-clause-formed
chains::finish-end_fields-requires-clause-formed = chains.finish-end_fields-requires-clause-formed

pub chains::finish-end_fields-requires-clause-found : goal.chains::finish-end_fields-requires-clause-found
chains::finish-end_fields-requires-clause-found = chains.finish-end_fields-requires-clause-found

pub chains::finish-returns-in_err-args-clause-answer : goal.chains::finish-returns-in_err-args-clause-answer
chains::finish-returns-in_err-args-clause-answer = chains.finish-returns-in_err-args-clause-answer

pub chains::finish-wanted_around-requires-clause-field : goal.chains::finish-wanted_around-requires-clause-field
chains::finish-wanted_around-requires-clause-field = chains.finish-wanted_around-requires-clause-field

pub chains::finish-wanted_around-requires-clause-found : goal.chains::finish-wanted_around-requires-clause-found
chains::finish-wanted_around-requires-clause-found = chains.finish-wanted_around-requires-clause-found

pub chains::finish-wanted_around-requires-clause-room : goal.chains::finish-wanted_around-requires-clause-room
chains::finish-wanted_around-requires-clause-room = chains.finish-wanted_around-requires-clause-room

pub chains::finish-returns-in_err-around-clause-answer : goal.chains::finish-returns-in_err-around-clause-answer
chains::finish-returns-in_err-around-clause-answer = chains.finish-returns-in_err-around-clause-answer

pub chains::finish-end_application-requires-clause-regular : goal.chains::finish-end_application-requires-clause-regular
chains::finish-end_application-requires-clause-regular = chains.finish-end_application-requires-clause-regular

pub chains::finish-end_application-requires-clause-formed : goal.chains::finish-end_application-requires-clause-formed
chains::finish-end_application-requires-clause-formed = chains.finish-end_application-requires-clause-formed

pub chains::finish-end_application-requires-clause-wanted : goal.chains::finish-end_application-requires-clause-wanted
chains::finish-end_application-requires-clause-wanted = chains.finish-end_application-requires-clause-wanted

pub chains::finish-returns-in_err-end_application-clause-answer : goal.chains::finish-returns-in_err-end_application-clause-answer
chains::finish-returns-in_err-end_application-clause-answer = chains.finish-returns-in_err-end_application-clause-answer

pub chains::finish-up-preserved : goal.chains::finish-up-preserved
chains::finish-up-preserved = chains.finish-up-preserved

pub fitting::value_fits-gives-requires : goal.fitting::value_fits-gives-requires
fitting::value_fits-gives-requires = fitting.value_fits-gives-requires

pub fitting::value_fits-returns-in_err-given-clause-answer : goal.fitting::value_fits-returns-in_err-given-clause-answer
fitting::value_fits-returns-in_err-given-clause-answer = fitting.value_fits-returns-in_err-given-clause-answer

pub fitting::value_fits-match_type-requires-clause-wanted : goal.fitting::value_fits-match_type-requires-clause-wanted
fitting::value_fits-match_type-requires-clause-wanted = fitting.value_fits-match_type-requires-clause-wanted

pub fitting::value_fits-match_type-requires-clause-given : goal.fitting::value_fits-match_type-requires-clause-given
fitting::value_fits-match_type-requires-clause-given = fitting.value_fits-match_type-requires-clause-given

pub fitting::value_fits-given_fits-requires-clause-count : goal.fitting::value_fits-given_fits-requires-clause-count
fitting::value_fits-given_fits-requires-clause-count = fitting.value_fits-given_fits-requires-clause-count

pub fitting::value_fits-given_fits-requires-clause-t : goal.fitting::value_fits-given_fits-requires-clause-t
fitting::value_fits-given_fits-requires-clause-t = fitting.value_fits-given_fits-requires-clause-t

pub fitting::value_fits-given_fits-requires-clause-given : goal.fitting::value_fits-given_fits-requires-clause-given
fitting::value_fits-given_fits-requires-clause-given = fitting.value_fits-given_fits-requires-clause-given

pub fitting::value_fits-given_fits-requires-clause-fits : goal.fitting::value_fits-given_fits-requires-clause-fits
fitting::value_fits-given_fits-requires-clause-fits = fitting.value_fits-given_fits-requires-clause-fits

pub fitting::value_fits-returns-then-branch-clause-answer : goal.fitting::value_fits-returns-then-branch-clause-answer
fitting::value_fits-returns-then-branch-clause-answer = fitting.value_fits-returns-then-branch-clause-answer

pub fitting::value_fits-returns-then-branch-clause-count : goal.fitting::value_fits-returns-then-branch-clause-count
fitting::value_fits-returns-then-branch-clause-count = fitting.value_fits-returns-then-branch-clause-count

pub fitting::value_fits-returns-then-branch-clause-same : goal.fitting::value_fits-returns-then-branch-clause-same
fitting::value_fits-returns-then-branch-clause-same = fitting.value_fits-returns-then-branch-clause-same

pub fitting::value_fits-returns-in_err-put-clause-answer : goal.fitting::value_fits-returns-in_err-put-clause-answer
fitting::value_fits-returns-in_err-put-clause-answer = fitting.value_fits-returns-in_err-put-clause-answer

pub fitting::value_fits-has-requires : goal.fitting::value_fits-has-requires
fitting::value_fits-has-requires = fitting.value_fits-has-requires

pub fitting::value_fits-returns-clause-answer : goal.fitting::value_fits-returns-clause-answer
fitting::value_fits-returns-clause-answer = fitting.value_fits-returns-clause-answer

pub fitting::labelled_value_fits-labelled_type-requires : goal.fitting::labelled_value_fits-labelled_type-requires
fitting::labelled_value_fits-labelled_type-requires = fitting.labelled_value_fits-labelled_type-requires

pub fitting::labelled_value_fits-value_fits-requires : goal.fitting::labelled_value_fits-value_fits-requires
fitting::labelled_value_fits-value_fits-requires = fitting.labelled_value_fits-value_fits-requires

pub fitting::labelled_value_fits-returns-in-Some-clause-answer : goal.fitting::labelled_value_fits-returns-in-Some-clause-answer
fitting::labelled_value_fits-returns-in-Some-clause-answer = fitting.labelled_value_fits-returns-in-Some-clause-answer

pub fitting::labelled_value_fits-gives-requires : goal.fitting::labelled_value_fits-gives-requires
fitting::labelled_value_fits-gives-requires = fitting.labelled_value_fits-gives-requires

pub fitting::labelled_value_fits-returns-in_err-gives-in-None-clause-answer : goal.fitting::labelled_value_fits-returns-in_err-gives-in-None-clause-answer
fitting::labelled_value_fits-returns-in_err-gives-in-None-clause-answer = fitting.labelled_value_fits-returns-in_err-gives-in-None-clause-answer

pub fitting::labelled_value_fits-returns-in_ok-gives-in-None-clause-answer : goal.fitting::labelled_value_fits-returns-in_ok-gives-in-None-clause-answer
fitting::labelled_value_fits-returns-in_ok-gives-in-None-clause-answer = fitting.labelled_value_fits-returns-in_ok-gives-in-None-clause-answer

pub fitting::labelled_values_fit-loop-l-init : goal.fitting::labelled_values_fit-loop-l-init
fitting::labelled_values_fit-loop-l-init = fitting.labelled_values_fit-loop-l-init

pub fitting::labelled_values_fit-labelled_value_fits-requires : goal.fitting::labelled_values_fit-labelled_value_fits-requires
fitting::labelled_values_fit-labelled_value_fits-requires = fitting.labelled_values_fit-labelled_value_fits-requires

pub fitting::labelled_values_fit-returns-in_err-labelled_value_fits-clause-answer : goal.fitting::labelled_values_fit-returns-in_err-labelled_value_fits-clause-answer
fitting::labelled_values_fit-returns-in_err-labelled_value_fits-clause-answer = fitting.labelled_values_fit-returns-in_err-labelled_value_fits-clause-answer

pub fitting::labelled_values_fit-loop-l-preserved : goal.fitting::labelled_values_fit-loop-l-preserved
fitting::labelled_values_fit-loop-l-preserved = fitting.labelled_values_fit-loop-l-preserved

pub fitting::labelled_values_fit-returns-clause-answer : goal.fitting::labelled_values_fit-returns-clause-answer
fitting::labelled_values_fit-returns-clause-answer = fitting.labelled_values_fit-returns-clause-answer

pub fitting::values_fit-loop-i-init : goal.fitting::values_fit-loop-i-init
fitting::values_fit-loop-i-init = fitting.values_fit-loop-i-init

pub fitting::values_fit-value_fits-requires : goal.fitting::values_fit-value_fits-requires
fitting::values_fit-value_fits-requires = fitting.values_fit-value_fits-requires

pub fitting::values_fit-returns-in_err-value_fits-clause-answer : goal.fitting::values_fit-returns-in_err-value_fits-clause-answer
fitting::values_fit-returns-in_err-value_fits-clause-answer = fitting.values_fit-returns-in_err-value_fits-clause-answer

pub fitting::values_fit-loop-i-preserved : goal.fitting::values_fit-loop-i-preserved
fitting::values_fit-loop-i-preserved = fitting.values_fit-loop-i-preserved

pub fitting::values_fit-returns-clause-answer : goal.fitting::values_fit-returns-clause-answer
fitting::values_fit-returns-clause-answer = fitting.values_fit-returns-clause-answer

pub fitting::in_order-values_fit-requires : goal.fitting::in_order-values_fit-requires
fitting::in_order-values_fit-requires = fitting.in_order-values_fit-requires

pub fitting::in_order-returns-in_err-values_fit-clause-answer : goal.fitting::in_order-returns-in_err-values_fit-clause-answer
fitting::in_order-returns-in_err-values_fit-clause-answer = fitting.in_order-returns-in_err-values_fit-clause-answer

pub fitting::in_order-labelled_values_fit-requires : goal.fitting::in_order-labelled_values_fit-requires
fitting::in_order-labelled_values_fit-requires = fitting.in_order-labelled_values_fit-requires

pub fitting::in_order-returns-clause-answer : goal.fitting::in_order-returns-clause-answer
fitting::in_order-returns-clause-answer = fitting.in_order-returns-clause-answer

pub fitting::fields_fit-returns-in_err-counted-clause-answer : goal.fitting::fields_fit-returns-in_err-counted-clause-answer
fitting::fields_fit-returns-in_err-counted-clause-answer = fitting.fields_fit-returns-in_err-counted-clause-answer

pub fitting::fields_fit-in_order-requires : goal.fitting::fields_fit-in_order-requires
fitting::fields_fit-in_order-requires = fitting.fields_fit-in_order-requires

pub fitting::fields_fit-returns-in_err-in_order-clause-answer : goal.fitting::fields_fit-returns-in_err-in_order-clause-answer
fitting::fields_fit-returns-in_err-in_order-clause-answer = fitting.fields_fit-returns-in_err-in_order-clause-answer

pub fitting::fields_fit-fields_end-requires-clause-kinds : goal.fitting::fields_fit-fields_end-requires-clause-kinds
fitting::fields_fit-fields_end-requires-clause-kinds = fitting.fields_fit-fields_end-requires-clause-kinds

pub fitting::fields_fit-fields_end-requires-clause-fits : goal.fitting::fields_fit-fields_end-requires-clause-fits
fitting::fields_fit-fields_end-requires-clause-fits = fitting.fields_fit-fields_end-requires-clause-fits

pub fitting::fields_fit-returns-then-is_empty-clause-answer : goal.fitting::fields_fit-returns-then-is_empty-clause-answer
fitting::fields_fit-returns-then-is_empty-clause-answer = fitting.fields_fit-returns-then-is_empty-clause-answer

pub fitting::fields_fit-written_arguments-requires-clause-right : goal.fitting::fields_fit-written_arguments-requires-clause-right
fitting::fields_fit-written_arguments-requires-clause-right = fitting.fields_fit-written_arguments-requires-clause-right

pub fitting::fields_fit-written_arguments-requires-clause-count : goal.fitting::fields_fit-written_arguments-requires-clause-count
fitting::fields_fit-written_arguments-requires-clause-count = fitting.fields_fit-written_arguments-requires-clause-count

pub fitting::fields_fit-returns-in_err-args-clause-answer : goal.fitting::fields_fit-returns-in_err-args-clause-answer
fitting::fields_fit-returns-in_err-args-clause-answer = fitting.fields_fit-returns-in_err-args-clause-answer

pub fitting::fields_fit-record_instance-requires-clause-args : goal.fitting::fields_fit-record_instance-requires-clause-args
fitting::fields_fit-record_instance-requires-clause-args = fitting.fields_fit-record_instance-requires-clause-args

pub fitting::fields_fit-record_instance-requires-clause-fit : goal.fitting::fields_fit-record_instance-requires-clause-fit
fitting::fields_fit-record_instance-requires-clause-fit = fitting.fields_fit-record_instance-requires-clause-fit

pub fitting::fields_fit-record_instance-requires-clause-vary : goal.fitting::fields_fit-record_instance-requires-clause-vary
fitting::fields_fit-record_instance-requires-clause-vary = fitting.fields_fit-record_instance-requires-clause-vary

pub fitting::fields_fit-returns-in_err-put-clause-answer : goal.fitting::fields_fit-returns-in_err-put-clause-answer
fitting::fields_fit-returns-in_err-put-clause-answer = fitting.fields_fit-returns-in_err-put-clause-answer

pub fitting::fields_fit-in_order-requires-2 : goal.fitting::fields_fit-in_order-requires-2
fitting::fields_fit-in_order-requires-2 = fitting.fields_fit-in_order-requires-2

pub fitting::fields_fit-returns-in_err-in_order-2-clause-answer : goal.fitting::fields_fit-returns-in_err-in_order-2-clause-answer
fitting::fields_fit-returns-in_err-in_order-2-clause-answer = fitting.fields_fit-returns-in_err-in_order-2-clause-answer

pub fitting::fields_fit-returns-clause-answer : goal.fitting::fields_fit-returns-clause-answer
fitting::fields_fit-returns-clause-answer = fitting.fields_fit-returns-clause-answer

pub abstractions::abstraction_gives-pattern_gives-requires : goal.abstractions::abstraction_gives-pattern_gives-requires
abstractions::abstraction_gives-pattern_gives-requires = abstractions.abstraction_gives-pattern_gives-requires

pub abstractions::abstraction_gives-returns-in_err-given-in-Process-clause-answer : goal.abstractions::abstraction_gives-returns-in_err-given-in-Process-clause-answer
abstractions::abstraction_gives-returns-in_err-given-in-Process-clause-answer = abstractions.abstraction_gives-returns-in_err-given-in-Process-clause-answer

pub abstractions::abstraction_gives-process-requires : goal.abstractions::abstraction_gives-process-requires
abstractions::abstraction_gives-process-requires = abstractions.abstraction_gives-process-requires

pub abstractions::abstraction_gives-returns-in_err-process-in-Process-clause-answer : goal.abstractions::abstraction_gives-returns-in_err-process-in-Process-clause-answer
abstractions::abstraction_gives-returns-in_err-process-in-Process-clause-answer = abstractions.abstraction_gives-returns-in_err-process-in-Process-clause-answer

pub abstractions::abstraction_gives-cut-requires : goal.abstractions::abstraction_gives-cut-requires
abstractions::abstraction_gives-cut-requires = abstractions.abstraction_gives-cut-requires

pub abstractions::abstraction_gives-returns-in_ok-process-in-Process-clause-answer : goal.abstractions::abstraction_gives-returns-in_ok-process-in-Process-clause-answer
abstractions::abstraction_gives-returns-in_ok-process-in-Process-clause-answer = abstractions.abstraction_gives-returns-in_ok-process-in-Process-clause-answer

pub abstractions::abstraction_gives-untyped_gives-requires : goal.abstractions::abstraction_gives-untyped_gives-requires
abstractions::abstraction_gives-untyped_gives-requires = abstractions.abstraction_gives-untyped_gives-requires

pub abstractions::abstraction_gives-returns-in-None-clause-answer : goal.abstractions::abstraction_gives-returns-in-None-clause-answer
abstractions::abstraction_gives-returns-in-None-clause-answer = abstractions.abstraction_gives-returns-in-None-clause-answer

pub abstractions::abstraction_gives-typed_gives-requires : goal.abstractions::abstraction_gives-typed_gives-requires
abstractions::abstraction_gives-typed_gives-requires = abstractions.abstraction_gives-typed_gives-requires

pub abstractions::abstraction_gives-returns-in-Some-clause-answer : goal.abstractions::abstraction_gives-returns-in-Some-clause-answer
abstractions::abstraction_gives-returns-in-Some-clause-answer = abstractions.abstraction_gives-returns-in-Some-clause-answer

pub abstractions::untyped_gives-returns-in_err-own-clause-answer : goal.abstractions::untyped_gives-returns-in_err-own-clause-answer
abstractions::untyped_gives-returns-in_err-own-clause-answer = abstractions.untyped_gives-returns-in_err-own-clause-answer

pub abstractions::untyped_gives-gives-requires : goal.abstractions::untyped_gives-gives-requires
abstractions::untyped_gives-gives-requires = abstractions.untyped_gives-gives-requires

pub abstractions::untyped_gives-returns-in_err-given-clause-answer : goal.abstractions::untyped_gives-returns-in_err-given-clause-answer
abstractions::untyped_gives-returns-in_err-given-clause-answer = abstractions.untyped_gives-returns-in_err-given-clause-answer

pub abstractions::untyped_gives-returns-in_err-answer-clause-answer : goal.abstractions::untyped_gives-returns-in_err-answer-clause-answer
abstractions::untyped_gives-returns-in_err-answer-clause-answer = abstractions.untyped_gives-returns-in_err-answer-clause-answer

pub abstractions::untyped_gives-cut-requires : goal.abstractions::untyped_gives-cut-requires
abstractions::untyped_gives-cut-requires = abstractions.untyped_gives-cut-requires

pub abstractions::untyped_gives-returns-clause-answer : goal.abstractions::untyped_gives-returns-clause-answer
abstractions::untyped_gives-returns-clause-answer = abstractions.untyped_gives-returns-clause-answer

pub abstractions::untyped_gives-returns-clause-same : goal.abstractions::untyped_gives-returns-clause-same
abstractions::untyped_gives-returns-clause-same = abstractions.untyped_gives-returns-clause-same

pub abstractions::typed_gives-returns-in_err-own-clause-answer : goal.abstractions::typed_gives-returns-in_err-own-clause-answer
abstractions::typed_gives-returns-in_err-own-clause-answer = abstractions.typed_gives-returns-in_err-own-clause-answer

pub abstractions::typed_gives-returns-in_err-answer-clause-answer : goal.abstractions::typed_gives-returns-in_err-answer-clause-answer
abstractions::typed_gives-returns-in_err-answer-clause-answer = abstractions.typed_gives-returns-in_err-answer-clause-answer

pub abstractions::typed_gives-has-requires : goal.abstractions::typed_gives-has-requires
abstractions::typed_gives-has-requires = abstractions.typed_gives-has-requires

pub abstractions::typed_gives-returns-in_err-has-clause-answer : goal.abstractions::typed_gives-returns-in_err-has-clause-answer
abstractions::typed_gives-returns-in_err-has-clause-answer = abstractions.typed_gives-returns-in_err-has-clause-answer

pub abstractions::typed_gives-cut-requires : goal.abstractions::typed_gives-cut-requires
abstractions::typed_gives-cut-requires = abstractions.typed_gives-cut-requires

pub abstractions::typed_gives-returns-clause-answer : goal.abstractions::typed_gives-returns-clause-answer
abstractions::typed_gives-returns-clause-answer = abstractions.typed_gives-returns-clause-answer

pub abstractions::typed_gives-returns-clause-same : goal.abstractions::typed_gives-returns-clause-same
abstractions::typed_gives-returns-clause-same = abstractions.typed_gives-returns-clause-same

pub abstractions::abstraction_against-pattern_against-requires : goal.abstractions::abstraction_against-pattern_against-requires
abstractions::abstraction_against-pattern_against-requires = abstractions.abstraction_against-pattern_against-requires

pub abstractions::abstraction_against-returns-in_err-pattern_against-in-Process-clause-answer : goal.abstractions::abstraction_against-returns-in_err-pattern_against-in-Process-clause-answer
abstractions::abstraction_against-returns-in_err-pattern_against-in-Process-clause-answer = abstractions.abstraction_against-returns-in_err-pattern_against-in-Process-clause-answer

pub abstractions::abstraction_against-process-requires : goal.abstractions::abstraction_against-process-requires
abstractions::abstraction_against-process-requires = abstractions.abstraction_against-process-requires

pub abstractions::abstraction_against-returns-in_err-process-in-Process-clause-answer : goal.abstractions::abstraction_against-returns-in_err-process-in-Process-clause-answer
abstractions::abstraction_against-returns-in_err-process-in-Process-clause-answer = abstractions.abstraction_against-returns-in_err-process-in-Process-clause-answer

pub abstractions::abstraction_against-cut-requires : goal.abstractions::abstraction_against-cut-requires
abstractions::abstraction_against-cut-requires = abstractions.abstraction_against-cut-requires

pub abstractions::abstraction_against-returns-in-Process-clause-answer : goal.abstractions::abstraction_against-returns-in-Process-clause-answer
abstractions::abstraction_against-returns-in-Process-clause-answer = abstractions.abstraction_against-returns-in-Process-clause-answer

pub abstractions::abstraction_against-returns-in-None-clause-answer : goal.abstractions::abstraction_against-returns-in-None-clause-answer
abstractions::abstraction_against-returns-in-None-clause-answer = abstractions.abstraction_against-returns-in-None-clause-answer

pub abstractions::abstraction_against-function_against-requires : goal.abstractions::abstraction_against-function_against-requires
abstractions::abstraction_against-function_against-requires = abstractions.abstraction_against-function_against-requires

pub abstractions::abstraction_against-returns-clause-answer : goal.abstractions::abstraction_against-returns-clause-answer
abstractions::abstraction_against-returns-clause-answer = abstractions.abstraction_against-returns-clause-answer

pub abstractions::function_against-returns-in_err-answer-clause-answer : goal.abstractions::function_against-returns-in_err-answer-clause-answer
abstractions::function_against-returns-in_err-answer-clause-answer = abstractions.function_against-returns-in_err-answer-clause-answer

pub abstractions::function_against-open_fields_against-requires : goal.abstractions::function_against-open_fields_against-requires
abstractions::function_against-open_fields_against-requires = abstractions.function_against-open_fields_against-requires

pub abstractions::function_against-returns-in_err-adds-clause-answer : goal.abstractions::function_against-returns-in_err-adds-clause-answer
abstractions::function_against-returns-in_err-adds-clause-answer = abstractions.function_against-returns-in_err-adds-clause-answer

pub abstractions::function_against-body_type-requires-clause-answer : goal.abstractions::function_against-body_type-requires-clause-answer
abstractions::function_against-body_type-requires-clause-answer = abstractions.function_against-body_type-requires-clause-answer

pub abstractions::function_against-returns-in_err-wanted-clause-answer : goal.abstractions::function_against-returns-in_err-wanted-clause-answer
abstractions::function_against-returns-in_err-wanted-clause-answer = abstractions.function_against-returns-in_err-wanted-clause-answer

pub abstractions::function_against-has-requires : goal.abstractions::function_against-has-requires
abstractions::function_against-has-requires = abstractions.function_against-has-requires

pub abstractions::function_against-returns-in_err-has-clause-answer : goal.abstractions::function_against-returns-in_err-has-clause-answer
abstractions::function_against-returns-in_err-has-clause-answer = abstractions.function_against-returns-in_err-has-clause-answer

pub abstractions::function_against-cut-requires : goal.abstractions::function_against-cut-requires
abstractions::function_against-cut-requires = abstractions.function_against-cut-requires

pub abstractions::function_against-returns-clause-answer : goal.abstractions::function_against-returns-clause-answer
abstractions::function_against-returns-clause-answer = abstractions.function_against-returns-clause-answer

pub abstractions::function_against-returns-clause-same : goal.abstractions::function_against-returns-clause-same
abstractions::function_against-returns-clause-same = abstractions.function_against-returns-clause-same

pub declarations::declaration-new_channel-requires : goal.declarations::declaration-new_channel-requires
declarations::declaration-new_channel-requires = declarations.declaration-new_channel-requires

pub declarations::declaration-returns-in-New-clause-answer : goal.declarations::declaration-returns-in-New-clause-answer
declarations::declaration-returns-in-New-clause-answer = declarations.declaration-returns-in-New-clause-answer

pub declarations::declaration-process-requires : goal.declarations::declaration-process-requires
declarations::declaration-process-requires = declarations.declaration-process-requires

pub declarations::declaration-returns-in-Run-clause-answer : goal.declarations::declaration-returns-in-Run-clause-answer
declarations::declaration-returns-in-Run-clause-answer = declarations.declaration-returns-in-Run-clause-answer

pub declarations::declaration-returns-in-Run-clause-grew : goal.declarations::declaration-returns-in-Run-clause-grew
declarations::declaration-returns-in-Run-clause-grew = declarations.declaration-returns-in-Run-clause-grew

pub declarations::declaration-is_complete-requires : goal.declarations::declaration-is_complete-requires
declarations::declaration-is_complete-requires = declarations.declaration-is_complete-requires

pub declarations::declaration-value_of_pattern-requires : goal.declarations::declaration-value_of_pattern-requires
declarations::declaration-value_of_pattern-requires = declarations.declaration-value_of_pattern-requires

pub declarations::declaration-value_against_pattern-requires : goal.declarations::declaration-value_against_pattern-requires
declarations::declaration-value_against_pattern-requires = declarations.declaration-value_against_pattern-requires

pub declarations::declaration-returns-then-complete-clause-answer : goal.declarations::declaration-returns-then-complete-clause-answer
declarations::declaration-returns-then-complete-clause-answer = declarations.declaration-returns-then-complete-clause-answer

pub declarations::declaration-returns-else-complete-clause-answer : goal.declarations::declaration-returns-else-complete-clause-answer
declarations::declaration-returns-else-complete-clause-answer = declarations.declaration-returns-else-complete-clause-answer

pub declarations::declaration-definitions-requires : goal.declarations::declaration-definitions-requires
declarations::declaration-definitions-requires = declarations.declaration-definitions-requires

pub declarations::declaration-returns-in-Def-clause-answer : goal.declarations::declaration-returns-in-Def-clause-answer
declarations::declaration-returns-in-Def-clause-answer = declarations.declaration-returns-in-Def-clause-answer

pub declarations::declaration-alias-requires : goal.declarations::declaration-alias-requires
declarations::declaration-alias-requires = declarations.declaration-alias-requires

pub declarations::declaration-returns-in-Alias-clause-answer : goal.declarations::declaration-returns-in-Alias-clause-answer
declarations::declaration-returns-in-Alias-clause-answer = declarations.declaration-returns-in-Alias-clause-answer

pub declarations::declaration-operator-requires : goal.declarations::declaration-operator-requires
declarations::declaration-operator-requires = declarations.declaration-operator-requires

pub declarations::declaration-returns-in-Operator-clause-answer : goal.declarations::declaration-returns-in-Operator-clause-answer
declarations::declaration-returns-in-Operator-clause-answer = declarations.declaration-returns-in-Operator-clause-answer

pub declarations::declaration-has-requires : goal.declarations::declaration-has-requires
declarations::declaration-has-requires = declarations.declaration-has-requires

pub declarations::declaration-returns-in_ok-empty-in-Await-clause-answer : goal.declarations::declaration-returns-in_ok-empty-in-Await-clause-answer
declarations::declaration-returns-in_ok-empty-in-Await-clause-answer = declarations.declaration-returns-in_ok-empty-in-Await-clause-answer

pub declarations::declaration-returns-in_ok-empty-in-Await-clause-grew : goal.declarations::declaration-returns-in_ok-empty-in-Await-clause-grew
declarations::declaration-returns-in_ok-empty-in-Await-clause-grew = declarations.declaration-returns-in_ok-empty-in-Await-clause-grew

pub declarations::value_of_pattern-typed_pattern-requires : goal.declarations::value_of_pattern-typed_pattern-requires
declarations::value_of_pattern-typed_pattern-requires = declarations.value_of_pattern-typed_pattern-requires

pub declarations::value_of_pattern-returns-in_err-typed-clause-answer : goal.declarations::value_of_pattern-returns-in_err-typed-clause-answer
declarations::value_of_pattern-returns-in_err-typed-clause-answer = declarations.value_of_pattern-returns-in_err-typed-clause-answer

pub declarations::value_of_pattern-has-requires : goal.declarations::value_of_pattern-has-requires
declarations::value_of_pattern-has-requires = declarations.value_of_pattern-has-requires

pub declarations::value_of_pattern-returns-in-Err-clause-answer : goal.declarations::value_of_pattern-returns-in-Err-clause-answer
declarations::value_of_pattern-returns-in-Err-clause-answer = declarations.value_of_pattern-returns-in-Err-clause-answer

pub declarations::value_of_pattern-add-requires : goal.declarations::value_of_pattern-add-requires
declarations::value_of_pattern-add-requires = declarations.value_of_pattern-add-requires

pub declarations::value_of_pattern-returns-in_ok-add-in-Ok-clause-answer : goal.declarations::value_of_pattern-returns-in_ok-add-in-Ok-clause-answer
declarations::value_of_pattern-returns-in_ok-add-in-Ok-clause-answer = declarations.value_of_pattern-returns-in_ok-add-in-Ok-clause-answer

pub declarations::value_against_pattern-gives-requires : goal.declarations::value_against_pattern-gives-requires
declarations::value_against_pattern-gives-requires = declarations.value_against_pattern-gives-requires

pub declarations::value_against_pattern-returns-in_err-t-clause-answer : goal.declarations::value_against_pattern-returns-in_err-t-clause-answer
declarations::value_against_pattern-returns-in_err-t-clause-answer = declarations.value_against_pattern-returns-in_err-t-clause-answer

pub declarations::value_against_pattern-pattern_against-requires : goal.declarations::value_against_pattern-pattern_against-requires
declarations::value_against_pattern-pattern_against-requires = declarations.value_against_pattern-pattern_against-requires

pub declarations::value_against_pattern-returns-clause-answer : goal.declarations::value_against_pattern-returns-clause-answer
declarations::value_against_pattern-returns-clause-answer = declarations.value_against_pattern-returns-clause-answer

pub declarations::value_against_pattern-returns-clause-grew : goal.declarations::value_against_pattern-returns-clause-grew
declarations::value_against_pattern-returns-clause-grew = declarations.value_against_pattern-returns-clause-grew

pub declarations::declarations-loop-d-init : goal.declarations::declarations-loop-d-init
declarations::declarations-loop-d-init = declarations.declarations-loop-d-init

pub declarations::declarations-declaration-requires : goal.declarations::declarations-declaration-requires
declarations::declarations-declaration-requires = declarations.declarations-declaration-requires

pub declarations::declarations-returns-in_err-declaration-clause-answer : goal.declarations::declarations-returns-in_err-declaration-clause-answer
declarations::declarations-returns-in_err-declaration-clause-answer = declarations.declarations-returns-in_err-declaration-clause-answer

pub declarations::declarations-loop-d-preserved : goal.declarations::declarations-loop-d-preserved
declarations::declarations-loop-d-preserved = declarations.declarations-loop-d-preserved

pub definitions::definitions-returns-in_err-insides-clause-answer : goal.definitions::definitions-returns-in_err-insides-clause-answer
definitions::definitions-returns-in_err-insides-clause-answer = declarations.definitions-returns-in_err-insides-clause-answer

pub definitions::definitions-bodies-requires : goal.definitions::definitions-bodies-requires
definitions::definitions-bodies-requires = declarations.definitions-bodies-requires

pub definitions::definitions-returns-clause-answer : goal.definitions::definitions-returns-clause-answer
definitions::definitions-returns-clause-answer = declarations.definitions-returns-clause-answer

pub definitions::bodies-unreachable-requires : goal.definitions::bodies-unreachable-requires
definitions::bodies-unreachable-requires = declarations.bodies-unreachable-requires

pub definitions::bodies-body-requires : goal.definitions::bodies-body-requires
definitions::bodies-body-requires = declarations.bodies-body-requires

pub definitions::bodies-returns-in_err-body-clause-answer : goal.definitions::bodies-returns-in_err-body-clause-answer
definitions::bodies-returns-in_err-body-clause-answer = declarations.bodies-returns-in_err-body-clause-answer

pub definitions::bodies-loop-d-preserved : goal.definitions::bodies-loop-d-preserved
definitions::bodies-loop-d-preserved = declarations.bodies-loop-d-preserved

pub definitions::bodies-returns-clause-answer : goal.definitions::bodies-returns-clause-answer
definitions::bodies-returns-clause-answer = declarations.bodies-returns-clause-answer

pub definitions::body-judged_body-requires : goal.definitions::body-judged_body-requires
definitions::body-judged_body-requires = declarations.body-judged_body-requires

pub definitions::body-returns-in_err-judged_body-clause-answer : goal.definitions::body-returns-in_err-judged_body-clause-answer
definitions::body-returns-in_err-judged_body-clause-answer = declarations.body-returns-in_err-judged_body-clause-answer

pub definitions::body-cut-requires : goal.definitions::body-cut-requires
definitions::body-cut-requires = declarations.body-cut-requires

pub definitions::body-returns-clause-answer : goal.definitions::body-returns-clause-answer
definitions::body-returns-clause-answer = declarations.body-returns-clause-answer

pub definitions::judged_body-process-requires : goal.definitions::judged_body-process-requires
definitions::judged_body-process-requires = declarations.judged_body-process-requires

pub definitions::judged_body-returns-in-Process-clause-answer : goal.definitions::judged_body-returns-in-Process-clause-answer
definitions::judged_body-returns-in-Process-clause-answer = declarations.judged_body-returns-in-Process-clause-answer

pub definitions::judged_body-has-requires : goal.definitions::judged_body-has-requires
definitions::judged_body-has-requires = declarations.judged_body-has-requires

pub definitions::judged_body-returns-in-Some-clause-answer : goal.definitions::judged_body-returns-in-Some-clause-answer
definitions::judged_body-returns-in-Some-clause-answer = declarations.judged_body-returns-in-Some-clause-answer

pub definitions::judged_body-unreachable-requires : goal.definitions::judged_body-unreachable-requires
definitions::judged_body-unreachable-requires = declarations.judged_body-unreachable-requires

pub processes::process-channel_gives-requires : goal.processes::process-channel_gives-requires
processes::process-channel_gives-requires = processes.process-channel_gives-requires

pub processes::process-returns-in_err-t-in-Send-clause-answer : goal.processes::process-returns-in_err-t-in-Send-clause-answer
processes::process-returns-in_err-t-in-Send-clause-answer = processes.process-returns-in_err-t-in-Send-clause-answer

pub processes::process-returns-in_err-u-in-Send-clause-answer : goal.processes::process-returns-in_err-u-in-Send-clause-answer
processes::process-returns-in_err-u-in-Send-clause-answer = processes.process-returns-in_err-u-in-Send-clause-answer

pub processes::process-has-requires : goal.processes::process-has-requires
processes::process-has-requires = processes.process-has-requires

pub processes::process-returns-in_ok-u-in-Send-clause-answer : goal.processes::process-returns-in_ok-u-in-Send-clause-answer
processes::process-returns-in_ok-u-in-Send-clause-answer = processes.process-returns-in_ok-u-in-Send-clause-answer

pub processes::process-channel_gives-requires-in-Receive : goal.processes::process-channel_gives-requires-in-Receive
processes::process-channel_gives-requires-in-Receive = processes.process-channel_gives-requires-in-Receive

pub processes::process-returns-in_err-t-in-Receive-clause-answer : goal.processes::process-returns-in_err-t-in-Receive-clause-answer
processes::process-returns-in_err-t-in-Receive-clause-answer = processes.process-returns-in_err-t-in-Receive-clause-answer

pub processes::process-receives-requires : goal.processes::process-receives-requires
processes::process-receives-requires = processes.process-receives-requires

pub processes::process-returns-in_ok-t-in-Receive-clause-answer : goal.processes::process-returns-in_ok-t-in-Receive-clause-answer
processes::process-returns-in_ok-t-in-Receive-clause-answer = processes.process-returns-in_ok-t-in-Receive-clause-answer

pub processes::process-channel_gives-requires-in-Serve : goal.processes::process-channel_gives-requires-in-Serve
processes::process-channel_gives-requires-in-Serve = processes.process-channel_gives-requires-in-Serve

pub processes::process-returns-in_err-t-in-Serve-clause-answer : goal.processes::process-returns-in_err-t-in-Serve-clause-answer
processes::process-returns-in_err-t-in-Serve-clause-answer = processes.process-returns-in_err-t-in-Serve-clause-answer

pub processes::process-receives-requires-in-Serve : goal.processes::process-receives-requires-in-Serve
processes::process-receives-requires-in-Serve = processes.process-receives-requires-in-Serve

pub processes::process-returns-in_ok-t-in-Serve-clause-answer : goal.processes::process-returns-in_ok-t-in-Serve-clause-answer
processes::process-returns-in_ok-t-in-Serve-clause-answer = processes.process-returns-in_ok-t-in-Serve-clause-answer

pub processes::process-gives_below-requires : goal.processes::process-gives_below-requires
processes::process-gives_below-requires = processes.process-gives_below-requires

pub processes::process-returns-in_err-gives_below-in-If-clause-answer : goal.processes::process-returns-in_err-gives_below-in-If-clause-answer
processes::process-returns-in_err-gives_below-in-If-clause-answer = processes.process-returns-in_err-gives_below-in-If-clause-answer

pub processes::process-process-requires : goal.processes::process-process-requires
processes::process-process-requires = processes.process-process-requires

pub processes::process-returns-in_err-process-in-If-clause-answer : goal.processes::process-returns-in_err-process-in-If-clause-answer
processes::process-returns-in_err-process-in-If-clause-answer = processes.process-returns-in_err-process-in-If-clause-answer

pub processes::process-process-requires-in-If : goal.processes::process-process-requires-in-If
processes::process-process-requires-in-If = processes.process-process-requires-in-If

pub processes::process-returns-in_ok-process-in-If-clause-answer : goal.processes::process-returns-in_ok-process-in-If-clause-answer
processes::process-returns-in_ok-process-in-If-clause-answer = processes.process-returns-in_ok-process-in-If-clause-answer

pub processes::process-returns-in-Inert-clause-answer : goal.processes::process-returns-in-Inert-clause-answer
processes::process-returns-in-Inert-clause-answer = processes.process-returns-in-Inert-clause-answer

pub processes::process-declarations-requires : goal.processes::process-declarations-requires
processes::process-declarations-requires = processes.process-declarations-requires

pub processes::process-returns-in_err-declarations-in-Group-clause-answer : goal.processes::process-returns-in_err-declarations-in-Group-clause-answer
processes::process-returns-in_err-declarations-in-Group-clause-answer = processes.process-returns-in_err-declarations-in-Group-clause-answer

pub processes::process-processes-requires : goal.processes::process-processes-requires
processes::process-processes-requires = processes.process-processes-requires

pub processes::process-returns-in_err-processes-in-Group-clause-answer : goal.processes::process-returns-in_err-processes-in-Group-clause-answer
processes::process-returns-in_err-processes-in-Group-clause-answer = processes.process-returns-in_err-processes-in-Group-clause-answer

pub processes::process-cut-requires : goal.processes::process-cut-requires
processes::process-cut-requires = processes.process-cut-requires

pub processes::process-returns-in_ok-processes-in-Group-clause-answer : goal.processes::process-returns-in_ok-processes-in-Group-clause-answer
processes::process-returns-in_ok-processes-in-Group-clause-answer = processes.process-returns-in_ok-processes-in-Group-clause-answer

pub processes::receives-returns-in_err-u-clause-answer : goal.processes::receives-returns-in_err-u-clause-answer
processes::receives-returns-in_err-u-clause-answer = processes.receives-returns-in_err-u-clause-answer

pub processes::receives-abstraction_against-requires : goal.processes::receives-abstraction_against-requires
processes::receives-abstraction_against-requires = processes.receives-abstraction_against-requires

pub processes::receives-returns-clause-answer : goal.processes::receives-returns-clause-answer
processes::receives-returns-clause-answer = processes.receives-returns-clause-answer

pub processes::processes-loop-p-init : goal.processes::processes-loop-p-init
processes::processes-loop-p-init = processes.processes-loop-p-init

pub processes::processes-process-requires : goal.processes::processes-process-requires
processes::processes-process-requires = processes.processes-process-requires

pub processes::processes-returns-in_err-process-clause-answer : goal.processes::processes-returns-in_err-process-clause-answer
processes::processes-returns-in_err-process-clause-answer = processes.processes-returns-in_err-process-clause-answer

pub processes::processes-loop-p-preserved : goal.processes::processes-loop-p-preserved
processes::processes-loop-p-preserved = processes.processes-loop-p-preserved
