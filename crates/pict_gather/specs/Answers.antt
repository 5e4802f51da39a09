-- What the answers of the calls say of one text, and the errors that come of errors.
use Rattle.std.specs.Prelude.{ℕ, List, Option, Some, None, Result, Ok, Err}
use Rattle.pict_syntax.specs.declared.code.Code.TheVariants.{P1, P2}
use Rattle.pict_syntax.specs.declared.tree.Program.{Program as RProgram}
use Rattle.pict_syntax.specs.PlainTrees.{program_of}
use Rattle.pict_syntax.specs.Stops.{Stop}
use Rattle.pict_lex.specs.declared.error.LexError.{LexError}
use Rattle.pict_lex.specs.declared.error.LexError.TheVariants as lex
use Rattle.pict_parse.specs.declared.entry.ParseError.{ParseError}
use Rattle.pict_parse.specs.declared.entry.ParseError.TheVariants as parse
use Rattle.pict_gather.specs.declared.error.ReadError.{ReadError}
use Rattle.pict_gather.specs.declared.error.ReadError.TheVariants as read
use Rattle.pict_gather.specs.declared.error.VisitError.{VisitError}
use Rattle.pict_gather.specs.declared.error.VisitError.TheVariants as visit
use Rattle.pict_gather.specs.declared.error.GatherError.{GatherError}
use Rattle.pict_gather.specs.declared.error.GatherError.TheVariants as gather
use Rattle.pict_gather.specs.Phases.{Phase, accepts, refuses}
use Rattle.pict_gather.specs.Reading.{Read}

abbrev pub of_lex_error : LexError → ReadError
of_lex_error (lex.Named code span) = read.Named code span
of_lex_error lex.Memory = read.Memory

abbrev pub of_parse_error : ParseError → ReadError
of_parse_error (parse.Unexpected span) = read.Named P1 span
of_parse_error (parse.TooNested span) = read.Named P2 span
of_parse_error parse.Memory = read.Memory

abbrev pub of_read_error : ReadError → VisitError
of_read_error (read.Named code span) = visit.Named code span
of_read_error read.Memory = visit.Memory

abbrev pub of_visit_error : VisitError → GatherError
of_visit_error (visit.Named code span) = gather.Named code span
of_visit_error visit.Failed = gather.Failed
of_visit_error visit.Memory = gather.Memory

-- what an answer says of a text, with the names afterwards; nothing where memory ran out
abbrev pub read_said : List (List ℕ) → Result RProgram ReadError → Option (Phase Stop Read)
read_said names (Ok p) = Some (accepts (record { names = names; program = program_of p }))
read_said names (Err (read.Named code span)) = Some (refuses (code, span))
read_said names (Err read.Memory) = None
