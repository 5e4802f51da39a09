-- A text is a file in one way, or is none at one place.
use Rattle.std.proofs.Common.{ℕ, ◌+◌, ◌-◌, ◌≡◌, ◌≢◌, List, [], ◌∷◌, ◌++◌, length, append_assoc, append-nil, refl, sym, ap, ◌∙◌, subst, arith}
use Rattle.std.specs.Int.{IsInRange}
use Rattle.std.specs.Fmt.{decimal}
use Rattle.std.proofs.lemmas.List.{append_cancel_left, length-append}
use Rattle.pict_syntax.specs.Names.{HasNoRepeats}
use Rattle.pict_core.specs.Places.{Place}
use Rattle.pict_trace.specs.Lines.{lines_text}
use Rattle.pict_trace.specs.Readable.{IsLines, IsFirstBad, BeginsWithLines, BeginsWithLine, GainsLabels}
use Rattle.pict_trace.proofs.Unique.{first_of_bytes, numeral, first_digit, lines_unique}
use Rattle.pict_trace.proofs.Ends.{first_bad_is_one}
use Rattle.pict_trace.proofs.Growing.{same_names, gained_on}
use Rattle.pict_replay.specs.Replayed.{Line}
use Rattle.pict_replay.specs.Files.{choices_text, trace_line, BeginsWithChoices, BeginsWithChoice, IsFile, IsNoFile, ends, no_choice, no_line}
use Rattle.pict_replay.specs.Laws.{FilesAreReadOnce}
use Rattle.pict_replay.proofs.OneReading.{spread, same_cut, end_no_choice}

-- ---- the line `trace` is no choice, and not the end

letter : (ds a c : List ℕ) → (d : ℕ) × (rest : List ℕ) × (ds ≡ d ∷ rest) × IsInRange 48 57 d → 116 ∷ c ≡ ds ++ a → ⊥
letter ds a c f e =
    let whole : 116 ∷ c ≡ f.0 ∷ (f.1 ++ a) = e ∙ ap (λ l. l ++ a) f.2 in
    let first : 116 ≡ f.0 = ap first_of_bytes whole in
    let digit = f.3 in
    omega (arith, first, digit)

trace_no_choice : (trace : List ℕ) → ¬ BeginsWithChoice (trace_line ++ trace)
trace_no_choice trace b = letter (decimal b.0.ready) _ _ (first_digit (decimal b.0.ready) (numeral b.0.ready b.2.0)) (b.3 ∙ spread b.0 b.1)

trace_there : (trace : List ℕ) → trace_line ++ trace ≡ [] → ⊥
trace_there trace e = omega (arith, ap first_of_bytes e)

-- ---- two readings

module _ (text : List ℕ) (ps qs : List Place) (a c : List ℕ) where
  pub same_trace : BeginsWithChoices text ps (trace_line ++ a) → BeginsWithChoices text qs (trace_line ++ c) → (ps ≡ qs) × (a ≡ c)
  same_trace x y = let s = same_cut text ps qs (trace_line ++ a) (trace_line ++ c) x y (trace_no_choice a) (trace_no_choice c) in (s.0, append_cancel_left trace_line a c s.1)

  -- where a trace begins no other line does
  only_trace : BeginsWithChoices text ps (trace_line ++ a) → BeginsWithChoices text qs c → ¬ BeginsWithChoice c → trace_line ++ a ≡ c
  only_trace x y none = (same_cut text ps qs (trace_line ++ a) c x y (trace_no_choice a) none).1

pub same_lines : (names : List (List ℕ)) (a c : List ℕ) (xs ys : List Line) → HasNoRepeats names → a ≡ c → IsLines names a xs → IsLines names c ys → xs ≡ ys
same_lines names a c xs ys distinct e x y =
    lines_unique names distinct xs ys x.shown y.shown (sym (append-nil (lines_text names xs)) ∙ sym x.whole ∙ e ∙ y.whole ∙ append-nil (lines_text names ys))

same_bad : (a c : List ℕ) (k m : ℕ) (x : IsFirstBad a k) (y : IsFirstBad c m) → a ≡ c → lines_text x.names x.lines ≡ lines_text y.names y.lines
same_bad a c k m x y e =
    let Same : List ℕ → Type 0 = λ t. (z : IsFirstBad t m) → lines_text x.names x.lines ≡ lines_text z.names z.lines in
    let here : Same a = λ z. (first_bad_is_one a).one_place k m x z in
    subst Same e here y

pub one_file : (text : List ℕ) (names : List (List ℕ)) (ps qs : List Place) (xs ys : List Line) → HasNoRepeats names → IsFile names text ps xs → IsFile names text qs ys → (ps ≡ qs) × (xs ≡ ys)
one_file text names ps qs xs ys distinct x y =
    let s = same_trace text ps qs x.trace y.trace x.choices_are y.choices_are in
    (s.0, same_lines names x.trace y.trace xs ys distinct s.1 x.lines_are y.lines_are)

never_both : (text : List ℕ) (names : List (List ℕ)) (ps : List Place) (xs : List Line) (k : ℕ) → IsFile names text ps xs → IsNoFile text k → ⊥
never_both text names ps xs k x (ends {places = qs} y) = trace_there x.trace (only_trace text ps qs x.trace [] x.choices_are y end_no_choice)
never_both text names ps xs k x (no_choice {places = qs} {rest = rest} y more none other) = other x.trace (sym (only_trace text ps qs x.trace rest x.choices_are y none))
never_both text names ps xs k x (no_line {places = qs} {trace = c} {number = m} y bad) =
    let s = same_trace text ps qs x.trace c x.choices_are y in
    (first_bad_is_one c).never_both names xs m (subst (λ t. IsLines names t xs) s.1 x.lines_are) bad

one_place : (text : List ℕ) (k m : ℕ) → IsNoFile text k → IsNoFile text m → k ≡ m
one_place text k m (ends {places = ps} x) (ends {places = qs} y) = refl
one_place text k m (ends {places = ps} x) (no_choice {places = qs} {rest = rest} y more none other) = absurd (more (sym (same_cut text ps qs [] rest x y end_no_choice none).1))
one_place text k m (ends {places = ps} x) (no_line {places = qs} {trace = c} y bad) = absurd (trace_there c (only_trace text qs ps c [] y x end_no_choice))
one_place text k m (no_choice {places = ps} {rest = rest} x more none other) (ends {places = qs} y) = absurd (more (same_cut text ps qs rest [] x y none end_no_choice).1)
one_place text k m (no_choice {places = ps} {rest = a} x more none other) (no_choice {places = qs} {rest = c} y more' none' other') = ap (λ (l : List Place). length (choices_text l)) (same_cut text ps qs a c x y none none').0
one_place text k m (no_choice {places = ps} {rest = a} x more none other) (no_line {places = qs} {trace = c} y bad) = absurd (other c (sym (only_trace text qs ps c a y x none)))
one_place text k m (no_line {places = ps} {trace = a} x bad) (ends {places = qs} y) = absurd (trace_there a (only_trace text ps qs a [] x y end_no_choice))
one_place text k m (no_line {places = ps} {trace = a} x bad) (no_choice {places = qs} {rest = c} y more none other) = absurd (other a (sym (only_trace text ps qs a c x y none)))
one_place text k m (no_line {places = ps} {trace = a} {number = i} x bad) (no_line {places = qs} {trace = c} {number = j} y bad') =
    let s = same_trace text ps qs a c x y in
    ap (λ (l : List Place). length (choices_text l ++ (trace_line ++ lines_text bad.names bad.lines))) s.0
    ∙ ap (λ t. length (choices_text qs ++ (trace_line ++ t))) (same_bad a c i j bad bad' s.1)

pub files_are_read_once : FilesAreReadOnce
files_are_read_once text = record {
  one_file = λ names ps qs xs ys distinct x y. one_file text names ps qs xs ys distinct x y;
  one_place = λ k m x y. one_place text k m x y;
  never_both = λ names ps xs k x y. never_both text names ps xs k x y;
}

-- ---- what the reader has

-- so many bytes stand before a rest
before_rest : (text front rest : List ℕ) (at : ℕ) → text ≡ front ++ rest → at ≡ length text - length rest → at ≡ length front
before_rest text front rest at e f = let l : length text ≡ length front + length rest = ap length e ∙ length-append front rest in omega (arith, l, f)

pub is_file : (names : List (List ℕ)) (text rest trace : List ℕ) (ps : List Place) (xs : List Line) (more : List ℕ) → BeginsWithChoices text ps rest → rest ≡ trace_line ++ trace → BeginsWithLines names trace xs more → more ≡ [] → IsFile names text ps xs
is_file names text rest trace ps xs more x e y f = record {
  trace = trace;
  choices_are = subst (BeginsWithChoices text ps) e x;
  lines_are = subst (BeginsWithLines names trace xs) f y;
}

pub ends_early : (text rest : List ℕ) (ps : List Place) (at : ℕ) → BeginsWithChoices text ps rest → rest ≡ [] → at ≡ length text → IsNoFile text at
ends_early text rest ps at x e f = subst (IsNoFile text) (sym f) (ends (subst (BeginsWithChoices text ps) e x))

pub bad_choice : (text rest : List ℕ) (ps : List Place) (at : ℕ) → BeginsWithChoices text ps rest → rest ≢ [] → ¬ BeginsWithChoice rest → ((trace : List ℕ) → rest ≢ trace_line ++ trace) → at ≡ length text - length rest → IsNoFile text at
bad_choice text rest ps at x more none other f = subst (IsNoFile text) (sym (before_rest text (choices_text ps) rest at x.whole f)) (no_choice x more none other)

pub bad_line : (names : List (List ℕ)) (text rest trace left : List ℕ) (ps : List Place) (xs : List Line) (at : ℕ) → BeginsWithChoices text ps rest → rest ≡ trace_line ++ trace → BeginsWithLines names trace xs left → left ≢ []
    → ((others : List (List ℕ)) → ¬ BeginsWithLine others left) → at ≡ length text - length left → IsNoFile text at
bad_line names text rest trace left ps xs at x e y more none f =
    let bad : IsFirstBad trace (length xs + 1) = record { names = names; lines = xs; rest = left; before = y; place = refl; more = more; bad = none } in
    let z : BeginsWithChoices text ps (trace_line ++ trace) = subst (BeginsWithChoices text ps) e x in
    let whole : text ≡ (choices_text ps ++ (trace_line ++ lines_text names xs)) ++ left
    = z.whole ∙ ap (λ t. choices_text ps ++ (trace_line ++ t)) y.whole ∙ ap (λ t. choices_text ps ++ t) (sym (append_assoc trace_line (lines_text names xs) left)) ∙ sym (append_assoc (choices_text ps) (trace_line ++ lines_text names xs) left) in
    subst (IsNoFile text) (sym (before_rest text (choices_text ps ++ (trace_line ++ lines_text names xs)) left at whole f)) (no_line z bad)

-- the names gain labels of the trace, which are labels of the text
pub labels_kept : (text rest trace : List ℕ) (ps : List Place) (old new : List (List ℕ)) → BeginsWithChoices text ps rest → rest ≡ trace_line ++ trace → GainsLabels trace old new → GainsLabels text old new
labels_kept text rest trace ps old new x e gained =
    let whole : text ≡ (choices_text ps ++ trace_line) ++ trace = x.whole ∙ ap (λ t. choices_text ps ++ t) e ∙ sym (append_assoc (choices_text ps) trace_line trace) in
    gained_on text trace old old new (same_names text trace (choices_text ps ++ trace_line) old whole) gained
