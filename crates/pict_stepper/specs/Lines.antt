-- How a run is written as lines: 9 is a tab, 10 a newline, 34 `"`, 58 a colon.
use Rattle.std.specs.Prelude.{ℕ, suc, ◌==◌, if◌then◌else◌, Bool, true, false, List, [], ◌∷◌, ◌++◌, map, codes, Option, Some, None, option_map}
use Rattle.std.specs.Option.{option_or}
use Rattle.std.specs.List.{join_with_byte, flat_map}
use Rattle.std.specs.Fmt.{decimal}
use Rattle.pict_syntax.specs.declared.source.Source.{Source}
use Rattle.pict_syntax.specs.declared.span.Span.{Span}
use Rattle.pict_core.specs.Term.{Process, Zero, Par, New, Out, In, If, Chan}
use Rattle.pict_core.specs.Configuration.{Mark, Ready, Parked, Entry}
use Rattle.pict_core.specs.Step.{Label, Quiet, Comm, Print}
use Rattle.pict_show.specs.Values.{value_text, quoted}
use Rattle.pict_report.specs.Reports.{Position, position_of}
use Rattle.pict_reference.specs.Plain.{plain_entry, plain_label}
use Rattle.pict_stepper.specs.declared.rule.Rule.{Rule}
use Rattle.pict_stepper.specs.declared.rule.Rule.TheVariants as rule
use Rattle.pict_stepper.specs.declared.run.Step.{Step}
use Rattle.pict_stepper.specs.declared.run.Run.{Run}
use Rattle.pict_stepper.specs.declared.run.End.{End}
use Rattle.pict_stepper.specs.declared.run.End.TheVariants as end
use Rattle.pict_stepper.specs.Told.{stamp_of}

-- ---- places

-- the name of a text and a colon, where it isn't the file, whose number is 1
abbrev pub text_prefix : ℕ → List ℕ → List ℕ
text_prefix text name = if text == 1 then [] else name ++ 58 ∷ []

abbrev pub position_text : ℕ → Position → List ℕ
position_text text p = text_prefix text p.name ++ (decimal p.row ++ (58 ∷ decimal p.column))

-- line and column of the start of a place, behind the name of its text where this isn't the file
abbrev pub place_text : List Source → Span → List ℕ
place_text sources at = position_text at.text (position_of sources at)

-- the place of the first output of a process, in the order of reading
abbrev pub first_output : Process → Option Span
first_output Zero = None
first_output (Par p q) = option_or (first_output p) (first_output q)
first_output (New p) = first_output p
first_output (Out chan message at) = Some at
first_output (In chan replicated pattern body) = first_output body
first_output (If test p q) = option_or (first_output p) (first_output q)

-- two dots before the place of the first output within a process, if it has one
abbrev pub place_within : List Source → Option Span → List ℕ
place_within sources None = []
place_within sources (Some at) = codes ".." ++ place_text sources at

-- the place of an output; of any other process that of its first output, behind two dots
abbrev pub place_of : List Source → Process → List ℕ
place_of sources (Out chan message at) = place_text sources at
place_of sources p = place_within sources (first_output p)

-- ---- processes, rows and what is shown

-- what stands behind the channel of an input, which serves again and again or once
abbrev pub input_text : Bool → List ℕ
input_text true = codes "?*p = P"
input_text false = codes "?p = P"

-- a process by its form
abbrev pub process_text : List (List ℕ) → Process → List ℕ
process_text names Zero = codes "0"
process_text names (Par p q) = codes "P | Q"
process_text names (New p) = codes "new x P"
process_text names (Out chan message at) = value_text names chan ++ (codes "!" ++ value_text names message)
process_text names (In chan replicated pattern body) = value_text names chan ++ input_text replicated
process_text names (If test p q) = codes "if " ++ (value_text names test ++ codes " P Q")

abbrev pub rule_text : Rule → List ℕ
rule_text rule.Ends = codes "ends"
rule_text rule.Forks = codes "forks"
rule_text rule.MakesChannel = codes "makes_channel"
rule_text rule.TakesFirst = codes "takes_first"
rule_text rule.TakesSecond = codes "takes_second"
rule_text rule.PrimitiveEnds = codes "primitive_ends"
rule_text rule.PrimitiveAnswers = codes "primitive_answers"
rule_text rule.OutputParks = codes "output_parks"
rule_text rule.OutputMeetsReader = codes "output_meets_reader"
rule_text rule.OutputMeetsServer = codes "output_meets_server"
rule_text rule.InputParks = codes "input_parks"
rule_text rule.ReaderMeetsMessage = codes "reader_meets_message"
rule_text rule.ServerMeetsMessage = codes "server_meets_message"

-- what a step shows: `VALUE on cN`, or `prints "BYTES"`
abbrev pub label_text : List (List ℕ) → Label → List ℕ
label_text names Quiet = []
label_text names (Comm channel v) = value_text names v ++ (codes " on " ++ value_text names (Chan channel))
label_text names (Print bytes) = codes "prints " ++ quoted 34 bytes

-- ---- lines

-- a line of fields, with a tab between two of them
abbrev pub fields_line : List (List ℕ) → List ℕ
fields_line fields = join_with_byte 9 fields ++ 10 ∷ []

abbrev pub mark_text : Mark → List ℕ
mark_text Ready = codes "ready"
mark_text Parked = codes "waits"

-- `come STAMP ready|waits PROCESS PLACE`
abbrev pub come_line : List (List ℕ) → List Source → Entry → List ℕ
come_line names sources e =
    fields_line (codes "come" ∷ decimal e.stamp ∷ mark_text e.mark ∷ process_text names e.process ∷ place_of sources e.process ∷ [])

abbrev pub come_lines : List (List ℕ) → List Source → List Entry → List ℕ
come_lines names sources es = flat_map (come_line names sources) es

-- a stamp, if there is one
abbrev pub stamp_text : Option ℕ → List ℕ
stamp_text None = []
stamp_text (Some stamp) = decimal stamp

-- `step NUMBER STAMP ROW PARTNER SHOWN`
abbrev pub step_line : List (List ℕ) → ℕ → Step → List ℕ
step_line names number t =
    fields_line (codes "step" ∷ decimal number ∷ decimal t.actor.stamp ∷ rule_text t.rule
    ∷ stamp_text (stamp_of (option_map plain_entry t.partner)) ∷ label_text names (plain_label t.label) ∷ [])

-- a step, and those who come by it
abbrev pub step_lines : List (List ℕ) → List Source → ℕ → Step → List ℕ
step_lines names sources number t = step_line names number t ++ come_lines names sources (map plain_entry t.come.items)

-- steps, of which the first has this number
abbrev pub steps_lines : List (List ℕ) → List Source → ℕ → List Step → List ℕ
steps_lines names sources number [] = []
steps_lines names sources number (t ∷ ts) = step_lines names sources number t ++ steps_lines names sources (suc number) ts

abbrev pub end_line : List Source → End → List ℕ
end_line sources end.Finished = fields_line (codes "end" ∷ codes "finished" ∷ [])
end_line sources (end.Trap at) = fields_line (codes "end" ∷ codes "divides" ∷ place_text sources at ∷ [])
end_line sources end.GoesOn = fields_line (codes "end" ∷ codes "goes on" ∷ [])

-- The one who is there first, the steps in order, each with those who come by it, and why there are no more.
abbrev pub run_lines : List (List ℕ) → List Source → Run → List ℕ
run_lines names sources run =
    come_line names sources (plain_entry run.first) ++ (steps_lines names sources 1 run.steps.items ++ end_line sources run.end)
