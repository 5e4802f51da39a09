-- Where lines end, whatever the names: at the same places, so a text has one first line that is none.
use Rattle.std.proofs.Common.{ℕ, ◌+◌, ◌≡◌, List, [], ◌∷◌, ◌++◌, length, refl, sym, ap, ◌∙◌, inl, arith, append_assoc}
use Rattle.std.specs.List.{AllByRecursion}
use Rattle.std.specs.Fmt.{decimal}
use Rattle.std.proofs.lemmas.List.{append_cancel_right}
use Rattle.pict_core.specs.Step.{Label, Quiet, Comm, Print}
use Rattle.pict_show.specs.Values.{value_text}
use Rattle.pict_trace.specs.Laws.{FirstBadIsOne}
use Rattle.pict_trace.specs.Lines.{shown_text, line_text, lines_text}
use Rattle.pict_trace.specs.Readable.{IsReadable, IsReadableLabel, BeginsWithLine, IsFirstBad}
use Rattle.pict_trace.proofs.Unique.{tail, first_of_bytes, quoted_unique, number_unique, value_ends, line_some}

-- ---- a line

shown_ends : (names others : List (List ℕ)) (l k : Label) (a c : List ℕ) → IsReadableLabel names l → IsReadableLabel others k → shown_text names l ++ (10 ∷ a) ≡ shown_text others k ++ (10 ∷ c) → a ≡ c
shown_ends names others Quiet k a c h i e = absurd h
shown_ends names others l Quiet a c h i e = absurd i
shown_ends names others (Comm m v) (Comm n w) a c h i e =
    let spread : decimal m ++ (32 ∷ (value_text names v ++ (10 ∷ a))) ≡ decimal n ++ (32 ∷ (value_text others w ++ (10 ∷ c)))
    = sym (append_assoc (decimal m) (32 ∷ value_text names v) (10 ∷ a)) ∙ ap tail e ∙ append_assoc (decimal n) (32 ∷ value_text others w) (10 ∷ c) in
    let r = number_unique m n (value_text names v ++ (10 ∷ a)) (value_text others w ++ (10 ∷ c)) (let b = h.0 in omega (arith, b)) (let b = i.0 in omega (arith, b)) spread in
    ap tail (value_ends names others v w (10 ∷ a) (10 ∷ c) h.1.0 i.1.0 refl refl r.1)
shown_ends names others (Comm m v) (Print y) a c h i e = absurd (let f = ap first_of_bytes e in omega (arith, f))
shown_ends names others (Print x) (Comm n w) a c h i e = absurd (let f = ap first_of_bytes e in omega (arith, f))
shown_ends names others (Print x) (Print y) a c h i e =
    ap tail (quoted_unique 34 x y (10 ∷ a) (10 ∷ c) (inl refl) h i (ap tail (ap tail (ap tail (ap tail (ap tail (ap tail e))))))).1

line_ends : (names others : List (List ℕ)) (l k : ℕ × Label) (a c : List ℕ) → IsReadable names l → IsReadable others k → line_text names l.0 l.1 ++ a ≡ line_text others k.0 k.1 ++ c → a ≡ c
line_ends names others (m, l) (n, k) a c h i e =
    let spread : decimal m ++ (32 ∷ (shown_text names l ++ (10 ∷ a))) ≡ decimal n ++ (32 ∷ (shown_text others k ++ (10 ∷ c)))
    = ap (λ t. decimal m ++ (32 ∷ t)) (sym (append_assoc (shown_text names l) (10 ∷ []) a)) ∙ sym (append_assoc (decimal m) (32 ∷ (shown_text names l ++ 10 ∷ [])) a)
    ∙ e ∙ append_assoc (decimal n) (32 ∷ (shown_text others k ++ 10 ∷ [])) c ∙ ap (λ t. decimal n ++ (32 ∷ t)) (append_assoc (shown_text others k) (10 ∷ []) c) in
    let r = number_unique m n (shown_text names l ++ (10 ∷ a)) (shown_text others k ++ (10 ∷ c)) h.0 i.0 spread in
    shown_ends names others l k a c h.1 i.1 r.1

-- ---- lines

-- no line of any names is in front
abbrev pub BeginsWithNone : List ℕ → Type 0
BeginsWithNone text = (others : List (List ℕ)) → ¬ BeginsWithLine others text

pub end_begins_none : BeginsWithNone []
end_begins_none others (line, after, readable, e) = line_some others line after readable (sym e)

pub lines_end : (names others : List (List ℕ)) (xs ys : List (ℕ × Label)) (a c : List ℕ) → AllByRecursion (IsReadable names) xs → AllByRecursion (IsReadable others) ys → BeginsWithNone a → BeginsWithNone c
    → lines_text names xs ++ a ≡ lines_text others ys ++ c → (length xs ≡ length ys) × (a ≡ c)
lines_end names others [] [] a c h k n m e = (refl, e)
lines_end names others [] (y ∷ ys) a c h k n m e = absurd (n others (y, lines_text others ys ++ c, k.0, e ∙ append_assoc (line_text others y.0 y.1) (lines_text others ys) c))
lines_end names others (x ∷ xs) [] a c h k n m e = absurd (m names (x, lines_text names xs ++ a, h.0, sym e ∙ append_assoc (line_text names x.0 x.1) (lines_text names xs) a))
lines_end names others (x ∷ xs) (y ∷ ys) a c h k n m e =
    let first = line_ends names others x y (lines_text names xs ++ a) (lines_text others ys ++ c) h.0 k.0
    (sym (append_assoc (line_text names x.0 x.1) (lines_text names xs) a) ∙ e ∙ append_assoc (line_text others y.0 y.1) (lines_text others ys) c) in
    let others_end = lines_end names others xs ys a c h.1 k.1 n m first in
    (let l = others_end.0 in omega (arith, l), others_end.1)

module _ (text : List ℕ) where
  both : (k m : ℕ) (x : IsFirstBad text k) (y : IsFirstBad text m) → (length x.lines ≡ length y.lines) × (x.rest ≡ y.rest)
  both k m x y = lines_end x.names y.names x.lines y.lines x.rest y.rest x.before.shown y.before.shown x.bad y.bad (sym x.before.whole ∙ y.before.whole)

pub first_bad_is_one : FirstBadIsOne
first_bad_is_one text = record {
  one_line = λ k m x y. x.place ∙ ap (λ n. n + 1) (both text k m x y).0 ∙ sym y.place;
  one_place = λ k m x y. append_cancel_right (lines_text x.names x.lines) (lines_text y.names y.lines) y.rest
      (ap (λ t. lines_text x.names x.lines ++ t) (sym (both text k m x y).1) ∙ sym x.before.whole ∙ y.before.whole);
  never_both = λ names lines k x y. y.more (sym (lines_end names y.names lines y.lines [] y.rest x.shown y.before.shown end_begins_none y.bad (sym x.whole ∙ y.before.whole)).1);
}
