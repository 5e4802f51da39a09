-- The summary of a run of the program that is made from a number: its rings, the length of its text, and what is counted of
-- the run, a line each.
use Rattle.std.specs.Prelude.{ℕ, List, [], ◌∷◌, ◌++◌, map, codes}
use Rattle.std.specs.List.{flat_map}
use Rattle.std.specs.Fmt.{decimal}
use Rattle.pict_machine.specs.declared.event.End.TheVariants as end
use Rattle.pict_load.specs.declared.summary.Tally.{Tally}
use Rattle.pict_load.specs.declared.summary.Line.{Line}
use Rattle.pict_load.specs.declared.summary.Line.TheVariants.{Ring, Text, Steps, Communications, Printed, End}
use Rattle.pict_load.specs.Rings.{rings_of}

-- a word, a blank and a number
abbrev pub count_line : List ℕ → ℕ → List ℕ
count_line word n = word ++ (32 ∷ (decimal n ++ 10 ∷ []))

abbrev pub line_text : Line → List ℕ
line_text (Ring ring) = codes "ring " ++ (decimal ring.size ++ (32 ∷ (decimal ring.token ++ 10 ∷ [])))
line_text (Text bytes) = count_line (codes "text") bytes
line_text (Steps steps) = count_line (codes "steps") steps
line_text (Communications count) = count_line (codes "communications") count
line_text (Printed bytes) = count_line (codes "printed") bytes
line_text (End end.Done) = codes "end done\n"
line_text (End _) = codes "end fuel\n"

abbrev pub summary_lines : ℕ → ℕ → Tally → List Line
summary_lines n text tally =
    map Ring (rings_of n) ++ (Text text ∷ Steps tally.steps ∷ Communications tally.communications ∷ Printed tally.printed ∷ End tally.end ∷ [])

abbrev pub summary_text : ℕ → ℕ → Tally → List ℕ
summary_text n text tally = flat_map line_text (summary_lines n text tally)
