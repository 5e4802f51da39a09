-- What it is that the machine reads a phrase: from one state it comes to another over each list of the phrase.
pub mod Reading
-- Kinds of tokens by what they may follow.
pub mod Ahead
-- The machine reads types.
pub mod ReadsTypes
-- The machine reads patterns.
pub mod ReadsPatterns
-- What single tokens do where values, processes and declarations are read.
pub mod ValuePlaces
-- The machine reads values, processes and declarations.
pub mod ReadsValues
-- Inclusions of phrases.
pub mod Inclusions
-- What has been read at each place and in each state.
pub mod Says
-- A phrase that is put at its place has been read behind what was read there.
pub mod SaysPuts
-- A token that is read has been read behind what was read: types, type binders and patterns.
pub mod SaysTypes
-- A token that is read has been read behind what was read: declarations, values and processes; and all states.
pub mod SaysValues
-- Each state but `stop` can be finished: some tokens lead on to the end of declarations.
pub mod Finish
-- The machine reads declarations, and no list of tokens has two trees.
pub mod Programs
-- The nestings of what has been read at each place and in each state, before further ones.
pub mod Nests
-- A phrase that is put at its place is nested as in the tree that it joins, and no deeper than the place.
pub mod NestsPuts
-- A token adds its nesting, the greater of the depths before and behind it, to the nestings of what was read.
pub mod NestsAdds
-- A token adds its nesting: types, type binders and patterns.
pub mod NestsTypes
-- A token adds its nesting: declarations, values and processes; and all states.
pub mod NestsValues
-- How deep the tokens of declarations are nested, told by the depths of the machine's states, and which token is the first too deep.
pub mod Nestings
-- Where a list of tokens has at most one tree of a grammar, it has at most one verdict.
pub mod OneVerdict
-- The verdict on a list of tokens, by the states that reading it leads to.
pub mod Judging
