-- What is said of an answer that is an error.
pub mod Ends
-- The texts of a shelf that holds one.
pub mod Only
-- The texts that are read are within the limit of a text.
pub mod Short
-- Where no fault is given, gathering never says that the shelf failed.
pub mod NoFault
-- What an answer says where each text is there that the shelf is asked for: a text is absent only where that is what is refused.
pub mod Each
-- What a command is given: from the shelf, or its own text.
pub mod Reading
-- What files come to, by what the front says of them.
pub mod Files
-- The replay of a text over an accepted program comes to one answer.
pub mod Replayed
-- Each process has a run, and steps that were done are the first of it.
pub mod Beyond
-- Ends of guarded runs are those of runs.
pub mod GuardedEnds
-- The file of an object comes to one answer.
pub mod Executions
-- Words come to at most one outcome where the texts are told.
pub mod One
-- The command `load` asks the shelf for nothing.
pub mod Load
-- The runs of accepted programs are sound.
pub mod Sound
-- How a call meets what is owed.
pub mod Meeting
-- Accepted programs run rightly: their core processes are those of typed programs.
pub mod Right
-- Each process that runs rightly has a run, and steps that were done are the first of it.
pub mod Continuing
-- What a printer wrote of a run.
pub mod Written
-- What the machine's run says of the run of a process.
pub mod Running
-- What a seed has picked so far, and how its run goes on and ends.
pub mod Picked
-- What is written of a picked run.
pub mod Recording
-- What a run on several sites, whose events are chosen by a seed, says of what it prints.
pub mod Sited
-- What is counted of a run is what the summary of the run says.
pub mod Counting
-- What a command's work with an accepted program comes to.
pub mod Runs
-- An accepted file has few names.
pub mod Few
-- A verdict is told.
pub mod Judging
-- What the run of an object comes to.
pub mod Executing
-- An object that is written, and that it runs as its program.
pub mod Building
-- Words come to an outcome over a shelf that tells its texts, and the words `load N` over any; and so to exactly one.
pub mod Some
-- What is written of a picked run is answered `yes`.
pub mod Answered
