-- A refusal says that a text is absent only where the shelf missed one.
use Rattle.std.proofs.Common.{◌≡◌, ℕ, ◌≤◌, List, [], Option, Some, None, Ok, Err, IfErr, inl, inr, arith}
use Rattle.std.specs.Prelude.{Result}
use Rattle.pict_syntax.specs.declared.code.Code.{Code}
use Rattle.pict_syntax.specs.declared.code.Code.TheVariants.{I1}
use Rattle.pict_syntax.specs.declared.source.Source.{Source}
use Rattle.pict_syntax.specs.declared.source.Sources.{Sources}
use Rattle.pict_syntax.specs.declared.span.Span.{Span}
use Rattle.pict_syntax.specs.Cuts.{Piece, tokens_of}
use Rattle.pict_syntax.specs.Programs.{Program}
use Rattle.pict_syntax.specs.Stops.{Stop}
use Rattle.pict_outside.specs.Counts.{Rose}
use Rattle.pict_gather.specs.declared.gathering.Gathering.{Gathering}
use Rattle.pict_gather.specs.declared.error.ReadError.{ReadError}
use Rattle.pict_gather.specs.declared.error.ReadError.TheVariants as read
use Rattle.pict_gather.specs.declared.error.VisitError.{VisitError}
use Rattle.pict_gather.specs.declared.error.VisitError.TheVariants as visit
use Rattle.pict_gather.specs.declared.visits.Settled.TheVariants.{Refused}
use Rattle.pict_gather.specs.Phases.{Phase, accepts, refuses, Then}
use Rattle.pict_gather.specs.Reading.{Read, Reads, Lexes, HasVerdict, names_with, end_of}
use Rattle.pict_gather.specs.Answers.{of_read_error, of_visit_error}
use Rattle.pict_gather.specs.Kept.{IsUnread}
use Rattle.pict_gather.specs.Found.{IsFault, IsNotAbsent, MissedFor}
use Rattle.pict_gather.specs.Entry.{IsUnopened, MissedInFile}
use Rattle.pict_gather.proofs.OneAfterAnother.{refused_then}

-- ---- reading a text never says so

never_absent : (names : List (List ℕ)) (n : ℕ) (t : List ℕ) (span : Span) → Reads names n t (refuses (I1, span)) → ⊥
never_absent names n t span reads =
    let Parses : List Piece → Phase Stop Program → Type 0 = λ ps. HasVerdict (tokens_of (names_with names ps) n 0 ps) (end_of n t) in
    let Made : List Piece → Program → Phase Stop Read → Type 0 = λ ps p read. read ≡ accepts (record { names = names_with names ps; program = p }) in
    elim (refused_then (Lexes n t) (λ ps. Then (Parses ps) (Made ps)) (I1, span) reads) [
      | inl stop ↦ stop.stops
      | inr (ps, cut, next) ↦ elim (refused_then (Parses ps) (Made ps) (I1, span) next) [
        | inl refused ↦ elim refused [ inl (is, unexpected) ↦ absurd cc | inr (is, nested) ↦ absurd cc ]
        | inr (p, is, made) ↦ absurd cc
      ]
    ]

read_missed : (before now : ℕ) (names : List (List ℕ)) (n : ℕ) (t : List ℕ) (code : Code) (span : Span) → Reads names n t (refuses (code, span)) → MissedFor before now (visit.Named code span)
read_missed before now names n t I1 span reads = absurd (never_absent names n t span reads)
read_missed before now names n t code span reads = tt

pub unread_missed : (before now : ℕ) (s : Sources) (g : Gathering) (name t : List ℕ) (new : Sources) (e : ReadError) → IsUnread s g name t new e → MissedFor before now (of_read_error e)
unread_missed before now s g name t new (read.Named code span) u = read_missed before now g.names _ t code span u.reads
unread_missed before now s g name t new read.Memory u = tt

-- ---- nor does what is settled at once, nor a fault

pub settled_missed : (before now : ℕ) (code : Code) (span : Span) → IsNotAbsent (Refused code) → MissedFor before now (visit.Named code span)
settled_missed before now I1 span h = absurd h
settled_missed before now code span h = tt

pub fault_missed : (before now : ℕ) (name : List ℕ) (old new : List Source) (e : VisitError) → IsFault name old new e → MissedFor before now e
fault_missed before now name old new (visit.Named code span) f = absurd f
fault_missed before now name old new visit.Failed f = tt
fault_missed before now name old new visit.Memory f = tt

-- ---- counts from an earlier time on

rose_earlier : (first before now : ℕ) → first ≤ before → Rose before now → Rose first now
rose_earlier first before now le rose = λ few. let more = rose few in omega (arith, le, more)

pub missed_earlier : (first before now : ℕ) → first ≤ before → (e : VisitError) → MissedFor before now e → MissedFor first now e
missed_earlier first before now le (visit.Named I1 span) m = rose_earlier first before now le m
missed_earlier first before now le (visit.Named code span) m = tt
missed_earlier first before now le visit.Failed m = tt
missed_earlier first before now le visit.Memory m = tt

pub result_earlier : {T : Type 0} (first before now : ℕ) → first ≤ before → (r : Result T VisitError) → IfErr r (MissedFor before now) → IfErr r (MissedFor first now)
result_earlier first before now le (Ok x) m = tt
result_earlier first before now le (Err e) m = missed_earlier first before now le e m

-- ---- a file

pub file_missed : (first before now : ℕ) → first ≤ before → (e : VisitError) → MissedFor before now e → MissedInFile first now (of_visit_error e)
file_missed first before now le (visit.Named I1 span) m = rose_earlier first before now le m
file_missed first before now le (visit.Named code span) m = tt
file_missed first before now le visit.Failed m = tt
file_missed first before now le visit.Memory m = tt

prelude_missed : (before now : ℕ) (names : List (List ℕ)) (n : ℕ) (t : List ℕ) (code : Code) (span : Span) → Reads names n t (refuses (code, span)) → MissedInFile before now (of_visit_error (visit.Named code span))
prelude_missed before now names n t I1 span reads = absurd (never_absent names n t span reads)
prelude_missed before now names n t code span reads = tt

pub unopened_missed : (before now : ℕ) (prelude : Option (List ℕ)) (e : ReadError) → IsUnopened prelude e → MissedInFile before now (of_visit_error (of_read_error e))
unopened_missed before now None (read.Named code span) u = absurd u
unopened_missed before now (Some p) (read.Named code span) u = prelude_missed before now [] 0 p code span u
unopened_missed before now None read.Memory u = tt
unopened_missed before now (Some p) read.Memory u = tt
