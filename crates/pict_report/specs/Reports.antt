-- The texts that are written on the error output.
use Rattle.std.specs.Prelude.{ℕ, ◌≤◌, List, [], ◌∷◌, ◌++◌, length, get_or, codes}
use Rattle.std.specs.List.{All}
use Rattle.std.specs.Fmt.{decimal}
use Rattle.pict_syntax.specs.declared.limits.TheConstants.{TEXT_LIMIT}
use Rattle.pict_syntax.specs.declared.source.Source.{Source}
use Rattle.pict_syntax.specs.Position.{line_of, column_of}
use Rattle.pict_syntax.specs.declared.span.Span.{Span}
use Rattle.pict_syntax.specs.declared.code.Code.{Code}
use Rattle.pict_syntax.specs.declared.code.Code.TheVariants.{B1, L1, L2, L3, L4, L5, P1, P2, S1, S2, S3, S4, K1, K2, K3, K4, K5, Y1, Y2, Y3, Y4, Y5, Y6, Y7, Y8, Y9, Y10, Y11, Y12, Y13, Y14, Y15, Y16, C1, I1, I2, I3, I4, V1, O1, O2}

-- a code with its text
abbrev pub text_of_code : Code → List ℕ
text_of_code B1 = codes "B1 text longer than 1048576 bytes"
text_of_code L1 = codes "L1 byte begins no token"
text_of_code L2 = codes "L2 literal not closed"
text_of_code L3 = codes "L3 bad escape"
text_of_code L4 = codes "L4 number out of range"
text_of_code L5 = codes "L5 comment not closed"
text_of_code P1 = codes "P1 unexpected token"
text_of_code P2 = codes "P2 nested too deep"
text_of_code S1 = codes "S1 unbound name"
text_of_code S2 = codes "S2 unbound type"
text_of_code S3 = codes "S3 name bound twice"
text_of_code S4 = codes "S4 label twice"
text_of_code K1 = codes "K1 wrong number of type arguments"
text_of_code K2 = codes "K2 operator needs arguments"
text_of_code K3 = codes "K3 bound on an operator"
text_of_code K4 = codes "K4 type too big"
text_of_code K5 = codes "K5 operator varies otherwise"
text_of_code Y1 = codes "Y1 not a channel"
text_of_code Y2 = codes "Y2 no right to send"
text_of_code Y3 = codes "Y3 no right to receive"
text_of_code Y4 = codes "Y4 not a subtype"
text_of_code Y5 = codes "Y5 wrong number of fields"
text_of_code Y6 = codes "Y6 label missing"
text_of_code Y7 = codes "Y7 annotation needed"
text_of_code Y8 = codes "Y8 not a function"
text_of_code Y9 = codes "Y9 bound not met"
text_of_code Y10 = codes "Y10 type argument not found"
text_of_code Y11 = codes "Y11 branches differ"
text_of_code Y12 = codes "Y12 condition is not Bool"
text_of_code Y13 = codes "Y13 not a recursive type"
text_of_code Y14 = codes "Y14 type variable escapes"
text_of_code Y15 = codes "Y15 new needs a ^ type"
text_of_code Y16 = codes "Y16 not this package"
text_of_code C1 = codes "C1 process too deep"
text_of_code I1 = codes "I1 no such text"
text_of_code I2 = codes "I2 import cycle"
text_of_code I3 = codes "I3 too many texts"
text_of_code I4 = codes "I4 bad import name"
text_of_code V1 = codes "V1 not a replay file"
text_of_code O1 = codes "O1 not an object"
text_of_code O2 = codes "O2 object too big"

-- ---- places

-- what a report says of a place: the name of a text, and a line and a column of it
pub record Position : Type 0 where
  pub name : List ℕ
  pub row : ℕ
  pub column : ℕ

-- a byte of the text that has this name. Behind its end it is the end
abbrev pub position_in : List ℕ → List ℕ → ℕ → Position
position_in name text at = record { name = name; row = line_of text at; column = column_of text at }

-- the text with this number; one without a name and without bytes where there is none
abbrev pub source_at : List Source → ℕ → Source
source_at sources number = get_or sources number (record { name = []; text = [] })

-- the start of a place, in the text whose number it has
abbrev pub position_of : List Source → Span → Position
position_of sources span = let source = source_at sources span.text in position_in source.name source.text span.start

-- each of the texts is within the limit of a text
abbrev pub AreShort : List Source → Type 0
AreShort sources = All (λ s. length s.text ≤ TEXT_LIMIT) sources

-- what is said of a place, behind its position. 58 is a colon
abbrev pub at_position : Position → List ℕ → List ℕ
at_position p said = p.name ++ (58 ∷ (decimal p.row ++ (58 ∷ (decimal p.column ++ (codes ": " ++ said)))))

-- ---- reports

-- a line about a text, by its name
abbrev pub line : List ℕ → List ℕ → List ℕ
line file rest = file ++ (rest ++ 10 ∷ [])

-- a refusal at a place
abbrev pub refusal_report : Position → Code → List ℕ
refusal_report p code = at_position p (text_of_code code ++ 10 ∷ [])

-- a division by zero at a place
abbrev pub trap_report : Position → List ℕ
trap_report p = at_position p (codes "division by zero\n")

-- the fuel is spent
abbrev pub spent_report : List ℕ
spent_report = line (codes "fuel spent") []

-- no such file
abbrev pub missing_report : List ℕ → List ℕ
missing_report file = line file (codes ": no such file")

-- a text that can't be read
abbrev pub fault_report : List ℕ → List ℕ
fault_report file = line file (codes ": cannot be read")

-- a division by zero in the run of an object, which has no places
abbrev pub object_trap_report : List ℕ → List ℕ
object_trap_report object = line object (codes ": division by zero")

-- a step of the run of an object is wrong
abbrev pub misshapen_report : List ℕ → List ℕ
misshapen_report object = line object (codes ": message of a wrong shape")

-- the words have no listed shape
abbrev pub usage_report : List ℕ
usage_report = line (codes "usage: pict run|trace|check|code [--bare] [--fuel N] FILE, or pict load N") []
