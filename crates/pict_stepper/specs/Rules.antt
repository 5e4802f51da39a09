-- The names of the rows of the table of steps.
use Rattle.std.specs.Prelude.{ℕ, Bool, true, false, Option, Some, None}
use Rattle.pict_syntax.specs.declared.primitive.Primitive.{Primitive}
use Rattle.pict_syntax.specs.declared.primitive.Primitive.TheVariants as primitive
use Rattle.pict_core.specs.Term.{Val, Boolean, PrimitiveVal, Process, Zero, Par, New, Out, In, If}
use Rattle.pict_core.specs.Configuration.{Entry, Configuration}
use Rattle.pict_core.specs.Step.{Label}
use Rattle.pict_core.specs.Table as table
use Rattle.pict_core.specs.Table.{Row}
use Rattle.pict_stepper.specs.declared.rule.Rule.{Rule}
use Rattle.pict_stepper.specs.declared.rule.Rule.TheVariants as rule

-- the row by which a step is taken, by its name
abbrev pub rule_of_row : {C : Configuration} {s : ℕ} {o : Option Entry} {p : Process} {D : Configuration} {label : Label} → Row C s o p D label → Rule
rule_of_row table.ends = rule.Ends
rule_of_row table.forks = rule.Forks
rule_of_row table.makes_channel = rule.MakesChannel
rule_of_row table.takes_first = rule.TakesFirst
rule_of_row table.takes_second = rule.TakesSecond
rule_of_row (table.primitive_ends h n) = rule.PrimitiveEnds
rule_of_row (table.primitive_answers h n) = rule.PrimitiveAnswers
rule_of_row table.output_parks = rule.OutputParks
rule_of_row (table.output_meets_reader h m) = rule.OutputMeetsReader
rule_of_row (table.output_meets_server h m) = rule.OutputMeetsServer
rule_of_row table.input_parks = rule.InputParks
rule_of_row (table.reader_meets_message h m) = rule.ReaderMeetsMessage
rule_of_row (table.server_meets_message h m) = rule.ServerMeetsMessage

-- ---- the same by the forms of the process and of its partner

abbrev pub branch_rule : Val → Rule
branch_rule (Boolean false) = rule.TakesSecond
branch_rule _ = rule.TakesFirst

-- printing leaves nothing; every other primitive answers
abbrev pub performing_rule : Primitive → Rule
performing_rule primitive.Print = rule.PrimitiveEnds
performing_rule primitive.Printi = rule.PrimitiveEnds
performing_rule _ = rule.PrimitiveAnswers

abbrev pub reader_rule : Process → Rule
reader_rule (In chan true pattern body) = rule.OutputMeetsServer
reader_rule _ = rule.OutputMeetsReader

abbrev pub sending_rule : Option Entry → Rule
sending_rule None = rule.OutputParks
sending_rule (Some u) = reader_rule u.process

abbrev pub output_rule : Val → Option Entry → Rule
output_rule (PrimitiveVal f) o = performing_rule f
output_rule _ o = sending_rule o

abbrev pub receiving_rule : Bool → Option Entry → Rule
receiving_rule b None = rule.InputParks
receiving_rule true (Some u) = rule.ServerMeetsMessage
receiving_rule false (Some u) = rule.ReaderMeetsMessage

abbrev pub rule_for : Process → Option Entry → Rule
rule_for Zero o = rule.Ends
rule_for (Par p q) o = rule.Forks
rule_for (New p) o = rule.MakesChannel
rule_for (If test p q) o = branch_rule test
rule_for (Out chan message at) o = output_rule chan o
rule_for (In chan replicated pattern body) o = receiving_rule replicated o
