-- The same processes with other numbers for their labels, and with other places: what they do is the same.
use Rattle.std.specs.Prelude.{ℕ, ◌≡◌, ◌+◌, true, List, map, length, if◌then◌else◌}
use Rattle.std.specs.List.{list_any}
use Rattle.std.specs.Str.{bytes_eq}
use Rattle.pict_syntax.specs.Names.{text_of, number_of}
use Rattle.pict_syntax.specs.declared.span.Span.{Span}
use Rattle.pict_core.specs.Term.{Val, Vals, Labelled, Pat, Pats, LabelledPats, Bind, Any, RecordPat, no_pats, more_pats, no_labelled_pats, more_labelled_pats, Process, Var, Chan, Int, Char, Boolean, Text, PrimitiveVal, Record, no_vals, more_vals, no_labelled, more_labelled, Zero, Par, New, Out, In, If}
use Rattle.pict_core.specs.Configuration.{Entry, Configuration}
use Rattle.pict_core.specs.Step.{Label, Quiet, Comm, Print, StepOutcome, Steps, Traps, Wrong, Finished, next}
use Rattle.pict_core.specs.Run.{End, Done, FuelSpent, Trap, Misshapen, Runs, bytes_of}
use Rattle.pict_object.specs.Objects.{nowhere, bare}

-- what stands in place of each label and of each place
pub record Dress : Type 0 where
  pub label : ℕ → ℕ
  pub place : Span → Span

abbrev mutual
  pub dressed_value : Dress → Val → Val
  dressed_value d (Var level) = Var level
  dressed_value d (Chan number) = Chan number
  dressed_value d (Int n) = Int n
  dressed_value d (Char byte) = Char byte
  dressed_value d (Boolean b) = Boolean b
  dressed_value d (Text bytes) = Text bytes
  dressed_value d (PrimitiveVal p) = PrimitiveVal p
  dressed_value d (Record vs ls) = Record (dressed_values d vs) (dressed_labelled d ls)

  pub dressed_values : Dress → Vals → Vals
  dressed_values d no_vals = no_vals
  dressed_values d (more_vals v vs) = more_vals (dressed_value d v) (dressed_values d vs)

  pub dressed_labelled : Dress → Labelled → Labelled
  dressed_labelled d no_labelled = no_labelled
  dressed_labelled d (more_labelled label v ls) = more_labelled (d.label label) (dressed_value d v) (dressed_labelled d ls)

abbrev mutual
  pub dressed_pattern : Dress → Pat → Pat
  dressed_pattern d Bind = Bind
  dressed_pattern d Any = Any
  dressed_pattern d (RecordPat ps ls) = RecordPat (dressed_patterns d ps) (dressed_labelled_patterns d ls)

  pub dressed_patterns : Dress → Pats → Pats
  dressed_patterns d no_pats = no_pats
  dressed_patterns d (more_pats p ps) = more_pats (dressed_pattern d p) (dressed_patterns d ps)

  pub dressed_labelled_patterns : Dress → LabelledPats → LabelledPats
  dressed_labelled_patterns d no_labelled_pats = no_labelled_pats
  dressed_labelled_patterns d (more_labelled_pats label p ps) = more_labelled_pats (d.label label) (dressed_pattern d p) (dressed_labelled_patterns d ps)

abbrev pub dressed : Dress → Process → Process
dressed d Zero = Zero
dressed d (Par p q) = Par (dressed d p) (dressed d q)
dressed d (New p) = New (dressed d p)
dressed d (Out chan message at) = Out (dressed_value d chan) (dressed_value d message) (d.place at)
dressed d (In chan replicated pattern body) = In (dressed_value d chan) replicated (dressed_pattern d pattern) (dressed d body)
dressed d (If test p q) = If (dressed_value d test) (dressed d p) (dressed d q)

abbrev pub dressed_entry : Dress → Entry → Entry
dressed_entry d e = record { stamp = e.stamp; mark = e.mark; process = dressed d e.process }

abbrev pub dressed_configuration : Dress → Configuration → Configuration
dressed_configuration d C = record { channels = C.channels; next_stamp = C.next_stamp; entries = map (dressed_entry d) C.entries }

abbrev pub dressed_label : Dress → Label → Label
dressed_label d Quiet = Quiet
dressed_label d (Comm c v) = Comm c (dressed_value d v)
dressed_label d (Print bytes) = Print bytes

abbrev pub dressed_outcome : Dress → StepOutcome → StepOutcome
dressed_outcome d (Steps C label) = Steps (dressed_configuration d C) (dressed_label d label)
dressed_outcome d (Traps at) = Traps (d.place at)
dressed_outcome d Wrong = Wrong
dressed_outcome d Finished = Finished

abbrev pub dressed_end : Dress → End → End
dressed_end d Done = Done
dressed_end d FuelSpent = FuelSpent
dressed_end d (Trap at) = Trap (d.place at)
dressed_end d Misshapen = Misshapen

abbrev pub dressed_labels : Dress → List (ℕ × Label) → List (ℕ × Label)
dressed_labels d labels = map (λ l. (l.0, dressed_label d l.1)) labels

-- no two labels get one number
abbrev pub KeepsLabelsApart : Dress → Type 0
KeepsLabelsApart d = (l m : ℕ) → d.label l ≡ d.label m → l ≡ m

-- the oldest-first step of a dressed configuration is that of the configuration, dressed
abbrev pub StepsAreDressed : Type 0
StepsAreDressed = (d : Dress) → KeepsLabelsApart d → (C : Configuration) → next (dressed_configuration d C) ≡ dressed_outcome d (next C)

-- a dressed process has the runs of the process, dressed; they print the same bytes
abbrev pub RunsAreDressed : Type 0
RunsAreDressed =
    (d : Dress) → KeepsLabelsApart d → (p : Process) (fuel : ℕ) (end : End) (labels : List (ℕ × Label))
    → Runs p fuel end labels → Runs (dressed d p) fuel (dressed_end d end) (dressed_labels d labels) × (bytes_of (dressed_labels d labels) ≡ bytes_of labels)

-- labels keep their numbers, and each place is nowhere
abbrev pub undressed : Dress
undressed = record { label = λ l. l; place = λ at. nowhere }

-- a process without places is dressed so
abbrev pub WithoutPlaces : Type 0
WithoutPlaces = (p : Process) → dressed undressed p ≡ bare p

-- the number of a label's text in another list of names, or a number behind all of these where it isn't among them
abbrev pub renumbered : List (List ℕ) → List (List ℕ) → ℕ → ℕ
renumbered names others label = if list_any (bytes_eq (text_of names label)) others then number_of others (text_of names label) else length others + label

-- labels have the numbers of their texts in another list of names, and each place is nowhere
abbrev pub anew : List (List ℕ) → List (List ℕ) → Dress
anew names others = record { label = renumbered names others; place = λ at. nowhere }

-- labels of which each has a text of its own stay apart
abbrev pub LabelsExtend : Type 0
LabelsExtend =
    (names others : List (List ℕ)) (l m : ℕ)
    → (text_of names l ≡ text_of names m → list_any (bytes_eq (text_of names l)) others ≡ true → l ≡ m)
    → renumbered names others l ≡ renumbered names others m → l ≡ m
