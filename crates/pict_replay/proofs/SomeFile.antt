-- Each text is a file or none, by names that hang on the text.
use Rattle.std.proofs.Common.{◌≡◌, ◌≢◌, ℕ, zero, suc, ◌+◌, ◌^◌, ◌⊎◌, inl, inr, List, [], ◌∷◌, ◌++◌, length, append-nil, Some, slice_get, refl, sym, ap, ◌∙◌, subst, arith}
use Rattle.pict_syntax.specs.Names.{HasNoRepeats, number_of, with_name, with_names}
use Rattle.pict_syntax.proofs.NamesLemmas.{interned_distinct, stands_interned}
use Rattle.pict_core.specs.Places.{Place}
use Rattle.pict_trace.specs.Lines.{lines_text}
use Rattle.pict_trace.specs.Readable.{IsLines, IsFirstBad, BeginsWithLine, BeginsWithLines, labels_in}
use Rattle.pict_trace.proofs.Unique.{lines_unique}
use Rattle.pict_trace.proofs.Kept.{Extends}
use Rattle.pict_trace.proofs.Gained.{names_extend}
use Rattle.pict_replay.specs.Replayed.{Line}
use Rattle.pict_replay.specs.Files.{BeginsWithChoices, trace_line, IsNoFile, ends, no_choice, no_line}
use Rattle.pict_replay.specs.Laws.{FileFor, SomeFile, OneFile}
use Rattle.pict_replay.proofs.SomeReading.{Some as SomeChoices, as_many, behind}
use Rattle.pict_replay.proofs.Filing.{same_trace, same_lines}
use Rattle.pict_replay.proofs.Renaming.{HasNumber, HaveNumbers, renamed_lines}
use Rattle.pict_replay.proofs.Covering.{covering}
use Rattle.pict_replay.proofs.SomeLines.{as_many_lines}

-- ---- names that grow

get_more : (xs ys : List (List ℕ)) (l : ℕ) (t : List ℕ) → slice_get xs l ≡ Some t → slice_get (xs ++ ys) l ≡ Some t
get_more [] ys l t e = cc
get_more (x ∷ xs) ys zero t e = e
get_more (x ∷ xs) ys (suc l) t e = get_more xs ys l t e

number_kept : (old new : List (List ℕ)) (text : List ℕ) → Extends old new → HasNumber old text → HasNumber new text
number_kept old new text (more, e) (n, there) = (n, ap (λ names. slice_get names n) e ∙ get_more old more n text there)

numbers_kept : (old new : List (List ℕ)) (texts : List (List ℕ)) → Extends old new → HaveNumbers old texts → HaveNumbers new texts
numbers_kept old new [] e h = tt
numbers_kept old new (t ∷ ts) e h = (number_kept old new t e h.0, numbers_kept old new ts e h.1)

names_distinct : (names texts : List (List ℕ)) → HasNoRepeats names → HasNoRepeats (with_names names texts)
names_distinct names [] h = h
names_distinct names (t ∷ ts) h = names_distinct (with_name names t) ts (interned_distinct names t h)

have_gained : (names texts : List (List ℕ)) → HaveNumbers (with_names names texts) texts
have_gained names [] = tt
have_gained names (t ∷ ts) = (number_kept (with_name names t) (with_names (with_name names t) ts) t (names_extend (with_name names t) ts) (number_of (with_name names t) t, stands_interned names t), have_gained (with_name names t) ts)

-- ---- some

module _ (base : List (List ℕ)) (text : List ℕ) (places : List Place) (trace : List ℕ) (choices : BeginsWithChoices text places (trace_line ++ trace)) where
  abbrev Answer : Type 0
  Answer = FileFor base text ⊎ ((k : ℕ) × IsNoFile text k)

  whole_file : (names : List (List ℕ)) (lines : List Line) → IsLines names trace lines → FileFor base text
  whole_file names lines x =
      let r = renamed_lines names (with_names base (labels_in names lines)) lines x.shown (have_gained base (labels_in names lines)) in
      record {
        names = with_names base (labels_in names lines);
        places = places;
        lines = r.new;
        is = record {
          file = record { trace = trace; choices_are = choices; lines_are = record { shown = r.readable; whole = x.whole ∙ ap (λ t. t ++ []) (sym r.text) } };
          gained = ap (with_names base) (sym r.labels);
        };
      }

  bad_line : (names : List (List ℕ)) (lines : List Line) (rest : List ℕ) → BeginsWithLines names trace lines rest → rest ≢ [] → ((others : List (List ℕ)) → ¬ BeginsWithLine others rest) → (k : ℕ) × IsNoFile text k
  bad_line names lines rest are more none =
      let bad : IsFirstBad trace (length lines + 1) = record { names = names; lines = lines; rest = rest; before = are; place = refl; more = more; bad = none } in (_, no_line choices bad)

  by_lines : (names : List (List ℕ)) (lines : List Line) (rest : List ℕ) → BeginsWithLines names trace lines rest → ((others : List (List ℕ)) → ¬ BeginsWithLine others rest) → Answer
  by_lines names lines [] are none = inl (whole_file names lines are)
  by_lines names lines (b ∷ rest) are none = inr (bad_line names lines (b ∷ rest) are (λ e. cc) none)

  with_trace : Answer
  with_trace =
      let n = length trace in
      let c = covering (2 ^ 8) n in
      let x = as_many_lines c.0 n c.1 n trace (omega arith) (omega arith) in
      by_lines c.0 x.lines x.rest x.are x.no_more

by_choices : (base : List (List ℕ)) (text : List ℕ) → SomeChoices text → FileFor base text ⊎ ((k : ℕ) × IsNoFile text k)
by_choices base text (places, [], x, none) = inr (length text, ends x)
by_choices base text (places, b ∷ rest, x, none) = elim (behind trace_line (b ∷ rest)) [
  | inl t ↦ with_trace base text places t.0 (subst (BeginsWithChoices text places) t.1 x)
  | inr other ↦ inr (_, no_choice x (λ e. cc) none (λ trace e. other (trace, e)))
]

pub some_file : SomeFile
some_file base text = by_choices base text (as_many text)

-- ---- one

pub one_file_for : OneFile
one_file_for base names others text places more lines further distinct x y =
    let s = same_trace text places more x.file.trace y.file.trace x.file.choices_are y.file.choices_are in
    let first : HasNoRepeats names = subst HasNoRepeats (sym x.gained) (names_distinct base (labels_in names lines) distinct) in
    let all = with_names names (labels_in others further) in
    let here : HaveNumbers names (labels_in names lines) = subst (λ ns. HaveNumbers ns (labels_in names lines)) (sym x.gained) (have_gained base (labels_in names lines)) in
    let a = renamed_lines names all lines x.file.lines_are.shown (numbers_kept names all (labels_in names lines) (names_extend names (labels_in others further)) here) in
    let b = renamed_lines others all further y.file.lines_are.shown (have_gained names (labels_in others further)) in
    let texts : lines_text names lines ≡ lines_text others further
    = sym (append-nil (lines_text names lines)) ∙ sym x.file.lines_are.whole ∙ s.1 ∙ y.file.lines_are.whole ∙ append-nil (lines_text others further) in
    let same = lines_unique all (names_distinct names (labels_in others further) first) a.new b.new a.readable b.readable (a.text ∙ texts ∙ sym b.text) in
    let labels : labels_in names lines ≡ labels_in others further = sym a.labels ∙ ap (labels_in all) same ∙ b.labels in
    let one : names ≡ others = x.gained ∙ ap (with_names base) labels ∙ sym y.gained in
    (one, s.0, same_lines names x.file.trace y.file.trace lines further first s.1 x.file.lines_are (subst (λ ns. IsLines ns y.file.trace further) (sym one) y.file.lines_are))
