-- What the parser's answers say of the tokens.
use Rattle.std.specs.Prelude.{◌≡◌, ◌≢◌, ℕ, ◌⊎◌, List, Option, Some, None, Result, Ok, Err}
use Rattle.std.specs.Prelude.{Vec}
use Rattle.std.specs.declared.alloc.Global.{Global}
use Rattle.pict_syntax.specs.declared.token.Token.{Token}
use Rattle.pict_syntax.specs.declared.token.TokenKind.TheVariants.{String}
use Rattle.pict_syntax.specs.declared.tree.Dec.{Dec as RDec}
use Rattle.pict_syntax.specs.declared.tree.Import.{Import}
use Rattle.pict_syntax.specs.declared.tree.Program.{Program as RProgram}
use Rattle.pict_syntax.specs.Trees.{Decs}
use Rattle.pict_syntax.specs.PlainTrees.{program_of}
use Rattle.pict_syntax.specs.Programs.{Program}
use Rattle.pict_syntax.specs.Verdicts.{Verdict, Whole, Unexpected, TooNested}
use Rattle.pict_automaton.specs.Places.{State}
use Rattle.pict_automaton.specs.Machine.{ended}
use Rattle.pict_parse_states.specs.View.{decs_in}
use Rattle.pict_parse.specs.declared.entry.ParseError.{ParseError}
use Rattle.pict_parse.specs.declared.entry.ParseError.TheVariants as answer

-- the verdict that a refusal gives; nothing where memory ran out
abbrev pub refused : {A : Type 0} → ParseError → Option (Verdict A)
refused (answer.Unexpected span) = Some (Unexpected span)
refused (answer.TooNested span) = Some (TooNested span)
refused answer.Memory = None

-- the verdict that an answer gives, on programs and on declarations
abbrev pub verdict_of : Result RProgram ParseError → Option (Verdict Program)
verdict_of (Ok p) = Some (Whole (program_of p))
verdict_of (Err e) = refused e

abbrev pub declared : Result (Vec RDec Global) ParseError → Option (Verdict Decs)
declared (Ok ds) = Some (Whole (decs_in ds))
declared (Err e) = refused e

-- an answer that says this is this verdict, unless memory ran out
abbrev pub Answers : {A : Type 0} → Option (Verdict A) → Verdict A → Type 0
Answers said verdict = (said ≡ Some verdict) ⊎ (said ≡ None)

-- the declarations that a state ends, if any
abbrev pub Ends : State → Option (Vec RDec Global) → Type 0
Ends x (Some ds) = ended x ≡ Some (decs_in ds)
Ends x None = ended x ≡ None

-- the token is the string of this import; or it is no string, and refused where it stands
abbrev pub IsImportOf : Token → Result Import ParseError → Type 0
IsImportOf t (Ok x) = (t.kind ≡ String x.name) × (x.span ≡ t.span)
IsImportOf t (Err (answer.Unexpected span)) = ((n : List ℕ) → t.kind ≢ String n) × (span ≡ t.span)
IsImportOf t (Err (answer.TooNested span)) = ⊥
IsImportOf t (Err answer.Memory) = Unit {0}
