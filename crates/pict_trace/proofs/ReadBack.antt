-- What runs write is read back as their labels.
use Rattle.std.proofs.Common.{ℕ, List, [], ◌∷◌, sym, ◌∙◌, append-nil}
use Rattle.std.specs.List.{AllByRecursion}
use Rattle.pict_syntax.specs.Names.{text_of, HasNoRepeats}
use Rattle.pict_core.specs.Term.{Val, Vals, Labelled, Var, Chan, Int, Char, Boolean, Text, PrimitiveVal, Record, no_vals, more_vals, no_labelled, more_labelled}
use Rattle.pict_core.specs.Step.{Label, Quiet, Comm, Print}
use Rattle.pict_trace.specs.Lines.{lines_text}
use Rattle.pict_trace.specs.Readable.{IsOrderly, AreOrderly, LabelsAfter, IsReadable}
use Rattle.pict_trace.specs.Ordered.{IsOrdered, AreOrdered, LabelsRise, IsOrderedLabel, IsInRange, AreInRange, LabelledInRange, FitsLine}
use Rattle.pict_trace.specs.Laws.{AreReadBack, RunsAreReadBack, FreeRunsAreReadBack}
use Rattle.pict_trace.proofs.Unique.{lines_unique}
use Rattle.pict_trace.proofs.Ordered.{runs_show_order, free_runs_show_order}

module _ (names : List (List ℕ)) where
  mutual
    orderly : (v : Val) → IsOrdered names v → IsInRange v → IsOrderly names v
    orderly (Var x) o r = r
    orderly (Chan x) o r = r
    orderly (Int x) o r = r
    orderly (Char x) o r = r
    orderly (Boolean x) o r = tt
    orderly (Text x) o r = r
    orderly (PrimitiveVal x) o r = tt
    orderly (Record vs ls) o r = (all_orderly vs o.0 r.0, labels_after [] ls o.1 r.1)

    all_orderly : (vs : Vals) → AreOrdered names vs → AreInRange vs → AreOrderly names vs
    all_orderly no_vals o r = tt
    all_orderly (more_vals v vs) o r = (orderly v o.0 r.0, all_orderly vs o.1 r.1)

    labels_after : (before : List ℕ) (ls : Labelled) → LabelsRise names before ls → LabelledInRange ls → LabelsAfter names before ls
    labels_after before no_labelled o r = tt
    labels_after before (more_labelled l v ls) o r = (o.0, o.1, orderly v o.2 r.0, labels_after (text_of names l) ls o.3 r.1)

  readable : (l : ℕ × Label) → IsOrderedLabel names l.1 → FitsLine l → IsReadable names l
  readable (n, Quiet) o f = absurd f
  readable (n, Comm channel v) o f = (f.0, (f.1, (orderly v o f.2, f.3)))
  readable (n, Print bytes) o f = (f.0, f.1)

  all_readable : (ls : List (ℕ × Label)) → AllByRecursion (λ (l : ℕ × Label). IsOrderedLabel names l.1) ls → AllByRecursion FitsLine ls → AllByRecursion (IsReadable names) ls
  all_readable [] o f = tt
  all_readable (l ∷ ls) o f = (readable l o.0 f.0, all_readable ls o.1 f.1)

  -- labels in order that fit are read back
  read_back : (labels : List (ℕ × Label)) → HasNoRepeats names → AllByRecursion (λ (l : ℕ × Label). IsOrderedLabel names l.1) labels → AllByRecursion FitsLine labels → AreReadBack names labels
  read_back labels distinct ordered fits =
      let all = all_readable labels ordered fits in (
        record { shown = all; whole = sym (append-nil (lines_text names labels)) },
        λ others read. lines_unique names distinct others labels read.shown all (sym (append-nil (lines_text names others)) ∙ sym read.whole),
      )

pub runs_are_read_back : RunsAreReadBack
runs_are_read_back names p n labels C distinct ordered reached fits = read_back names labels distinct (runs_show_order names p n labels C ordered reached) fits

pub free_runs_are_read_back : FreeRunsAreReadBack
free_runs_are_read_back names p places labels C distinct ordered runs fits = read_back names labels distinct (free_runs_show_order names p places labels C ordered runs) fits
