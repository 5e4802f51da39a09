-- What is written of a picked run is answered `yes`.
use Rattle.std.proofs.Common.{◌≡◌, ℕ, ◌+◌, ◌≤◌, ◌<◌, ◌^◌, Bool, true, false, List, [], ◌∷◌, ◌++◌, length, Option, refl, sym, ◌∙◌, ap, subst, arith, length-append}
use Rattle.std.specs.Prelude.{IfSome}
use Rattle.std.specs.Fmt.{decimal}
use Rattle.std.specs.List.{AllByRecursion}
use Rattle.pict_syntax.specs.Names.{text_of, with_name, with_names}
use Rattle.pict_syntax.specs.Tokens.{IsWord}
use Rattle.pict_syntax.proofs.NamesLemmas.{with_there, has_standing}
use Rattle.pict_core.specs.Term.{Val, Vals, Labelled, Var, Chan, Int, Char, Boolean, Text, PrimitiveVal, Record, no_vals, more_vals, no_labelled, more_labelled}
use Rattle.pict_core.specs.Step.{Label, Quiet, Comm, Print}
use Rattle.pict_core.specs.Places.{Place}
use Rattle.pict_report.specs.Prelude.{prelude_text}
use Rattle.pict_pick.proofs.Running.{picked_runs_are_free}
use Rattle.pict_trace.specs.Lines.{lines_text}
use Rattle.pict_trace.specs.Readable.{IsOrderly, AreOrderly, LabelsAfter, IsReadable, labels_of, labels_of_all, labels_of_labelled, labels_in_line, labels_in}
use Rattle.pict_trace.proofs.Unique.{name_stands}
use Rattle.pict_front.proofs.InOrder.{accepted_is_ordered}
use Rattle.pict_front.proofs.ObjectCores.{accepted_has_object}
use Rattle.pict_ranges.proofs.Running.{free_runs_fit_lines}
use Rattle.pict_ranges.proofs.Lengths.{short_lines}
use Rattle.pict_ranges.proofs.Accepting.{accepted_is_in_range}
use Rattle.pict_replay.specs.Files.{IsFile, choice_text, choices_text, trace_line, file_text}
use Rattle.pict_replay.proofs.Written.{picked_is_answered as replay_answers}
use Rattle.pict_top.specs.Answer.{judged}
use Rattle.pict_machine.specs.Events.{end_of}
use Rattle.pict_top.specs.Origins.{File, prelude_of}
use Rattle.pict_top.specs.Laws.{PickedIsAnswered}

module _ (names : List (List ℕ)) where
  -- these texts are no news
  abbrev Gain : List (List ℕ) → Type 0
  Gain texts = with_names names texts ≡ names

  gain_both : (xs ys : List (List ℕ)) → Gain xs → Gain ys → Gain (xs ++ ys)
  gain_both xs ys h k = with_both names xs ys ∙ ap (λ n. with_names n ys) h ∙ k
    where
      with_both : (n : List (List ℕ)) (xs ys : List (List ℕ)) → with_names n (xs ++ ys) ≡ with_names (with_names n xs) ys
      with_both n [] ys = refl
      with_both n (x ∷ xs) ys = with_both (with_name n x) xs ys

  gain_one : (l : ℕ) (texts : List (List ℕ)) → IsWord (text_of names l) → Gain texts → Gain (text_of names l ∷ texts)
  gain_one l texts h k = ap (λ n. with_names n texts) (with_there names (text_of names l) (has_standing names (text_of names l) l (name_stands names l h))) ∙ k

  mutual
    value_gain : (v : Val) → IsOrderly names v → Gain (labels_of names v)
    value_gain (Record vs ls) h = gain_both (labels_of_all names vs) (labels_of_labelled names ls) (vals_gain vs h.0) (labelled_gain [] ls h.1)
    value_gain (Var x) h = refl
    value_gain (Chan x) h = refl
    value_gain (Int x) h = refl
    value_gain (Char x) h = refl
    value_gain (Boolean x) h = refl
    value_gain (Text x) h = refl
    value_gain (PrimitiveVal x) h = refl

    vals_gain : (vs : Vals) → AreOrderly names vs → Gain (labels_of_all names vs)
    vals_gain no_vals h = refl
    vals_gain (more_vals v vs) h = gain_both (labels_of names v) (labels_of_all names vs) (value_gain v h.0) (vals_gain vs h.1)

    labelled_gain : (before : List ℕ) (ls : Labelled) → LabelsAfter names before ls → Gain (labels_of_labelled names ls)
    labelled_gain before no_labelled h = refl
    labelled_gain before (more_labelled l v ls) h =
        gain_one l (labels_of names v ++ labels_of_labelled names ls) h.0.0 (gain_both (labels_of names v) (labels_of_labelled names ls) (value_gain v h.2) (labelled_gain (text_of names l) ls h.3))

  line_gain : (line : ℕ × Label) → IsReadable names line → Gain (labels_in_line names line)
  line_gain (number, Comm channel v) (few, (below, (h, low))) = value_gain v h
  line_gain (number, Print bytes) h = refl
  line_gain (number, Quiet) h = refl

  lines_gain : (lines : List (ℕ × Label)) → AllByRecursion (IsReadable names) lines → Gain (labels_in names lines)
  lines_gain [] h = refl
  lines_gain (line ∷ lines) h = gain_both (labels_in_line names line) (labels_in names lines) (line_gain line h.0) (lines_gain lines h.1)

-- ---- lengths

-- the line of a choice has a byte at least
choices_long : (places : List Place) → length places ≤ length (choices_text places)
choices_long [] = omega arith
choices_long (p ∷ ps) =
    let r = choices_long ps in
    let a = length-append (decimal p.ready) (32 ∷ (decimal p.partner ++ (10 ∷ []))) in
    let b = length-append (choice_text p) (choices_text ps) in
    omega (arith, r, a, b)

file_long : (names : List (List ℕ)) (places : List Place) (labels : List (ℕ × Label)) → length (choices_text places) + length (lines_text names labels) ≤ length (file_text names places labels)
file_long names places labels =
    let a = length-append (choices_text places) (trace_line ++ lines_text names labels) in
    let b = length-append trace_line (lines_text names labels) in
    omega (arith, a, b)

prelude_long : length prelude_text ≡ 663
unfolding prelude_text
prelude_long = refl

prelude_short : (alone : Bool) (file : List ℕ) → IfSome (prelude_of (File alone file)) (λ text. length text < 2 ^ 63)
prelude_short true file = tt
prelude_short false file = let long = prelude_long in omega (arith, long)

-- ---- the law

pub picked_is_answered : PickedIsAnswered
picked_is_answered held alone file trace bytes a seed fuel end front r low few gives =
    let prelude : Option (List ℕ) = prelude_of (File alone file) in
    let f = a.front in
    let ordered = accepted_is_ordered held prelude file a front in
    let size : length bytes ≡ length (file_text f.names r.places r.labels) = ap length r.shows in
    let parts = file_long f.names r.places r.labels in
    let long = choices_long r.places in
    let lines : length (lines_text f.names r.labels) < 2 ^ 63 = omega (arith, few, size, parts) in
    let fits = free_runs_fit_lines f.core r.places r.labels r.runs.last (accepted_has_object held prelude file a front).closed
    (accepted_is_in_range held prelude file a front (prelude_short alone file))
    (picked_runs_are_free f.core seed fuel (end_of end) r.places r.labels r.runs)
    (short_lines f.names r.labels lines) (omega (arith, few, size, parts, long)) low in
    let x = replay_answers f.names f.core seed fuel (end_of end) r.places r.labels ordered.0 ordered.1 r.runs fits in
    judged gives few (record {
      file = subst (λ t. IsFile f.names t r.places r.labels) (sym r.shows) x.file;
      gained = sym (lines_gain f.names r.labels x.file.lines_are.shown);
    }) x.agrees
