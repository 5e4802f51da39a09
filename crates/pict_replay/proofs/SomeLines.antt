-- A text begins with a line of some names, or with none whatever the names.
use Rattle.std.proofs.Common.{◌≡◌, ℕ, zero, suc, ◌+◌, ◌≤◌, ◌<◌, ◌^◌, ◌⊎◌, inl, inr, List, [], ◌∷◌, ◌++◌, length, append_assoc, refl, sym, ap, ◌∙◌, arith}
use Rattle.std.specs.Fmt.{decimal}
use Rattle.std.specs.List.{AllByRecursion}
use Rattle.std.proofs.lemmas.List.{length-append}
use Rattle.pict_syntax.specs.declared.limits.TheConstants.{VALUE_NESTING_LIMIT}
use Rattle.pict_core.specs.Step.{Quiet, Comm, Print}
use Rattle.pict_trace.specs.Lines.{shown_text, line_text, lines_text}
use Rattle.pict_trace.specs.Readable.{IsReadable, BeginsWithLine, BeginsWithLines, labels_in_line}
use Rattle.pict_replay.specs.Replayed.{Line}
use Rattle.pict_replay.proofs.SomeReading.{Behind, behind}
use Rattle.pict_replay.proofs.Renaming.{HaveNumbers, renamed_line}
use Rattle.pict_replay.proofs.Covering.{Covers}
use Rattle.pict_replay.proofs.Searching.{Decided, both, either, Found, IsShort, IsWithin, search_below, search_texts, search_values}
use Rattle.pict_replay.proofs.Sizes.{within, value_in_line, bytes_in_line, line_short}
use Rattle.pict_replay.proofs.Readables.{readable_or_not}

-- a part of a text is no longer than it
no_longer : (text front rest : List ℕ) → text ≡ front ++ rest → length front + length rest ≡ length text
no_longer text front rest e = sym (ap length e ∙ length-append front rest)

module _ (names : List (List ℕ)) (text : List ℕ) where
  abbrev LineIs : Line → Type 0
  LineIs line = IsReadable names line × Behind (line_text names line.0 line.1) text

  line_is_or_not : (line : Line) → Decided (LineIs line)
  line_is_or_not line = both (readable_or_not names line) (behind (line_text names line.0 line.1) text)

  -- a communication, or a printing, of the step with this number
  abbrev Comms : ℕ → Type 0
  Comms number = Found (λ k. k < 2 ^ 32) (λ k. Found (IsWithin (length names) VALUE_NESTING_LIMIT (length text)) (λ v. LineIs (number, Comm k v)))

  abbrev Prints : ℕ → Type 0
  Prints number = Found (IsShort (2 ^ 8) (length text)) (λ t. LineIs (number, Print t))

  abbrev Lines : Type 0
  Lines = Found (λ number. number < 2 ^ 64) (λ number. Comms number ⊎ Prints number)

  lines_or_not : Decided Lines
  lines_or_not = search_below (2 ^ 64) (λ number. Comms number ⊎ Prints number) (λ number. either
      (search_below (2 ^ 32) (λ k. Found (IsWithin (length names) VALUE_NESTING_LIMIT (length text)) (λ v. LineIs (number, Comm k v)))
      (λ k. search_values (length names) (length text) VALUE_NESTING_LIMIT (λ v. LineIs (number, Comm k v)) (λ v. line_is_or_not (number, Comm k v))))
      (search_texts (2 ^ 8) (length text) (λ t. LineIs (number, Print t)) (λ t. line_is_or_not (number, Print t))))

  of_lines : Lines → BeginsWithLine names text
  of_lines (number, few, inl (k, below, (v, w, (readable, (rest, e))))) = ((number, Comm k v), rest, readable, e)
  of_lines (number, few, inr (t, short, (readable, (rest, e)))) = ((number, Print t), rest, readable, e)

  to_lines : BeginsWithLine names text → Lines
  to_lines ((number, Comm k v), rest, (few, (below, (orderly, low))), e) =
      let size = no_longer text (line_text names number (Comm k v)) rest e in
      let long = value_in_line names number k v in
      (number, few, inl (k, below, (v, within names VALUE_NESTING_LIMIT (length text) v orderly low (omega (arith, size, long)), ((few, (below, (orderly, low))), (rest, e)))))
  to_lines ((number, Print t), rest, (few, bytes), e) =
      let size = no_longer text (line_text names number (Print t)) rest e in
      let long = bytes_in_line names number t in
      (number, few, inr (t, (bytes, omega (arith, size, long)), ((few, bytes), (rest, e))))
  to_lines ((number, Quiet), rest, (few, never), e) = absurd never

  line_or_not : Decided (BeginsWithLine names text)
  line_or_not = elim lines_or_not [ inl x ↦ inl (of_lines x) | inr none ↦ inr (λ b. none (to_lines b)) ]

-- ---- whatever the names

module _ (names : List (List ℕ)) (n : ℕ) (covers : Covers (2 ^ 8) n names) where
  have_numbers : (texts : List (List ℕ)) → AllByRecursion (IsShort (2 ^ 8) n) texts → HaveNumbers names texts
  have_numbers [] h = tt
  have_numbers (t ∷ ts) h = (covers.has t h.0.0 h.0.1, have_numbers ts h.1)

  line_here : (others : List (List ℕ)) (text : List ℕ) → length text ≤ n → BeginsWithLine others text → BeginsWithLine names text
  line_here others text few (line, after, readable, whole) =
      let size = no_longer text (line_text others line.0 line.1) after whole in
      let short = line_short others n line readable (omega (arith, size, few)) in
      let r = renamed_line others names line readable (have_numbers (labels_in_line others line) short) in
      (r.new, after, r.readable, whole ∙ ap (λ t. t ++ after) (sym r.text))

  abbrev NoLine : List ℕ → Type 0
  NoLine text = (others : List (List ℕ)) → ¬ BeginsWithLine others text

  line_or_none : (text : List ℕ) → length text ≤ n → BeginsWithLine names text ⊎ NoLine text
  line_or_none text few = elim (line_or_not names text) [
    | inl b ↦ inl b
    | inr none ↦ inr (λ others b. none (line_here others text few b))
  ]

  -- as many lines as there are
  pub record AsManyLines (text : List ℕ) : Type 0 where
    pub lines : List Line
    pub rest : List ℕ
    pub are : BeginsWithLines names text lines rest
    pub no_more : NoLine rest

  line_some : (line : Line) (after : List ℕ) → 1 + length after ≤ length (line_text names line.0 line.1 ++ after)
  line_some line after =
      let a = length-append (line_text names line.0 line.1) after in
      let b = length-append (decimal line.0) (32 ∷ (shown_text names line.1 ++ 10 ∷ [])) in
      omega (arith, a, b)

  none_more : (text : List ℕ) → NoLine text → AsManyLines text
  none_more text none = record { lines = []; rest = text; are = record { shown = tt; whole = refl }; no_more = none }

  one_more : (text after : List ℕ) (line : Line) → IsReadable names line → text ≡ line_text names line.0 line.1 ++ after → AsManyLines after → AsManyLines text
  one_more text after line readable e x = record {
    lines = line ∷ x.lines;
    rest = x.rest;
    are = record {
      shown = (readable, x.are.shown);
      whole = e ∙ ap (λ t. line_text names line.0 line.1 ++ t) x.are.whole ∙ sym (append_assoc (line_text names line.0 line.1) (lines_text names x.lines) x.rest);
    };
    no_more = x.no_more;
  }

  pub as_many_lines : (fuel : ℕ) (text : List ℕ) → length text ≤ fuel → fuel ≤ n → AsManyLines text
  as_many_lines zero text few most = elim (line_or_none text (omega (arith, few, most))) [
    | inl b ↦ absurd (let s = line_some b.0 b.1 in let size = ap length b.3 in omega (arith, s, size, few))
    | inr none ↦ none_more text none
  ]
  as_many_lines (suc fuel) text few most = elim (line_or_none text (omega (arith, few, most))) [
    | inl b ↦ let s = line_some b.0 b.1 in let size = ap length b.3 in
        one_more text b.1 b.0 b.2 b.3 (as_many_lines fuel b.1 (omega (arith, s, size, few)) (omega (arith, most)))
    | inr none ↦ none_more text none
  ]
