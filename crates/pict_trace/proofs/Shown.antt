-- Lines, read back from their texts.
use Rattle.std.proofs.Common.{◌≡◌, ◌≢◌, ℕ, ◌+◌, ◌-◌, ◌<◌, ◌^◌, true, false, List, [], ◌∷◌, ◌++◌, length, take, drop, get_or, codes, refl, sym, ◌∙◌, ap, subst, append_assoc, append-nil, arith, take-append-drop, ◌==◌}
use Rattle.std.specs.List.{AllByRecursion}
use Rattle.std.specs.Fmt.{decimal}
use Rattle.pict_lex.proofs.RunLemmas.{slice_rest}
use Rattle.pict_syntax.specs.Names.{with_names}
use Rattle.pict_syntax.specs.declared.limits.TheConstants.{VALUE_NESTING_LIMIT}
use Rattle.pict_core.specs.Term.{Val}
use Rattle.pict_core.specs.Step.{Label, Quiet, Comm, Print}
use Rattle.pict_show.specs.Values.{value_text, quoted}
use Rattle.pict_trace.specs.Lines.{shown_text, line_text, lines_text}
use Rattle.pict_trace.specs.Readable.{IsReadable, IsReadableLabel, BeginsWithLine, BeginsWithLines, IsFirstBad, labels_in_line, labels_in}
use Rattle.pict_trace.specs.Reading.{is_end, EndsString, EndsNoString, Reads, BeginsNoValue, ReadsShown, BeginsNoShown, ReadsLine, NamesGrow}
use Rattle.pict_trace.proofs.Growing.{same_names}
use Rattle.pict_trace.proofs.Unique.{tail, first_of_bytes, is_solid, run_same, stops_solid, digits_all, digit_solid, numeral, number_unique, value_ends}
use Rattle.pict_trace.proofs.Bares.{ends_drop, solid_taken}
use Rattle.pict_trace.proofs.Literals.{string_closed, string_same}
use Rattle.pict_trace.proofs.Kept.{Extends, kept_value}
use Rattle.pict_trace.proofs.Gained.{labels_kept}
use Rattle.pict_trace.proofs.Fields.{labels_extend}
use Rattle.pict_lex.proofs.StepLemmas.{with_names_last}

-- ---- the number in front, and the byte that ends it

pub number_found : (text : List ℕ) (stop n : ℕ) (len : ℕ) (rest : List ℕ) → take len text ≡ decimal n → take (length text - len) (drop len text) ≡ stop ∷ rest → text ≡ decimal n ++ (stop ∷ rest)
number_found text stop n len rest e f = sym (take-append-drop len text) ∙ ap (λ t. t ++ drop len text) e ∙ ap (λ t. decimal n ++ t) (sym (slice_rest text len) ∙ f)

number_parts : (text : List ℕ) (stop len n : ℕ) (rest : List ℕ) → is_end stop ≡ true → ((k : ℕ) → k < len → is_end (get_or text k 0) ≡ false) → (len < length text → is_end (get_or text len 0) ≡ true) → n < 2 ^ 64 → text ≡ decimal n ++ (stop ∷ rest)
    → (take len text ≡ decimal n) × (drop len text ≡ stop ∷ rest)
number_parts text stop len n rest is before ends few e =
    run_same is_solid (take len text) (decimal n) (drop len text) (stop ∷ rest) (solid_taken len text before) (digits_all is_solid digit_solid (decimal n) (numeral n few).1) (stops_solid (drop len text) (ends_drop len text ends)) (stops_solid (stop ∷ rest) is) (take-append-drop len text ∙ e)

pub number_none : (text : List ℕ) (stop len : ℕ) → is_end stop ≡ true → ((k : ℕ) → k < len → is_end (get_or text k 0) ≡ false) → (len < length text → is_end (get_or text len 0) ≡ true) → ((n : ℕ) → n < 2 ^ 64 → take len text ≢ decimal n)
    → (n : ℕ) (rest : List ℕ) → n < 2 ^ 64 → text ≢ decimal n ++ (stop ∷ rest)
number_none text stop len is before ends none n rest few e = none n few (number_parts text stop len n rest is before ends few e).0

pub stop_none : (text : List ℕ) (stop len : ℕ) → is_end stop ≡ true → ((k : ℕ) → k < len → is_end (get_or text k 0) ≡ false) → (len < length text → is_end (get_or text len 0) ≡ true) → ((rest : List ℕ) → take (length text - len) (drop len text) ≢ stop ∷ rest)
    → (n : ℕ) (rest : List ℕ) → n < 2 ^ 64 → text ≢ decimal n ++ (stop ∷ rest)
stop_none text stop len is before ends none n rest few e = none rest (slice_rest text len ∙ (number_parts text stop len n rest is before ends few e).1)

-- ---- printings

pub printing_found : (names : List (List ℕ)) (after bytes more rest : List ℕ) → EndsString after bytes more → more ≡ 10 ∷ rest → ReadsShown names (codes "print \"" ++ after) (Print bytes) rest
printing_found names after bytes more rest x e = record {
  readable = x.are;
  whole = ap (λ t. 112 ∷ 114 ∷ 105 ∷ 110 ∷ 116 ∷ 32 ∷ 34 ∷ t) (x.whole ∙ sym (string_closed bytes more) ∙ ap (λ t. tail (quoted 34 bytes) ++ t) e);
}

printing_only : (after : List ℕ) → ((bytes rest : List ℕ) → ¬ EndsString after bytes (10 ∷ rest)) → BeginsNoShown (codes "print \"" ++ after)
printing_only after none others label rest x = by label x.readable x.whole
  where
    by : (label : Label) → IsReadableLabel others label → codes "print \"" ++ after ≡ shown_text others label ++ (10 ∷ rest) → ⊥
    by Quiet r e = r
    by (Comm channel v) r e = omega (arith, ap first_of_bytes e)
    by (Print bytes) r e = none bytes rest (record { are = r; whole = ap tail (ap tail (ap tail (ap tail (ap tail (ap tail (ap tail e)))))) ∙ string_closed bytes (10 ∷ rest) })

pub no_string_bad : (after : List ℕ) → EndsNoString after → BeginsNoShown (codes "print \"" ++ after)
no_string_bad after none = printing_only after (λ bytes rest. none bytes (10 ∷ rest))

pub no_newline_bad : (after bytes more : List ℕ) → EndsString after bytes more → ((rest : List ℕ) → more ≢ 10 ∷ rest) → BeginsNoShown (codes "print \"" ++ after)
no_newline_bad after bytes more x none = printing_only after (λ others rest y. none rest (sym (string_same after others bytes (10 ∷ rest) more y x)))

-- ---- communications

pub communication_found : (names : List (List ℕ)) (text value r rest : List ℕ) (channel : ℕ) (v : Val) → channel < 2 ^ 32 → text ≡ decimal channel ++ (32 ∷ value) → Reads names VALUE_NESTING_LIMIT value v r → r ≡ 10 ∷ rest
    → ReadsShown names (99 ∷ text) (Comm channel v) rest
communication_found names text value r rest channel v few e read f = record {
  readable = (few, (read.orderly, read.low));
  whole = ap (λ t. 99 ∷ t) (e ∙ ap (λ t. decimal channel ++ (32 ∷ t)) (read.whole ∙ ap (λ t. value_text names v ++ t) f) ∙ sym (append_assoc (decimal channel) (32 ∷ value_text names v) (10 ∷ rest)));
}

communication_only : (text : List ℕ) → ((others : List (List ℕ)) (channel : ℕ) (value : List ℕ) (v : Val) (rest : List ℕ) → channel < 2 ^ 32 → text ≡ decimal channel ++ (32 ∷ value) → Reads others VALUE_NESTING_LIMIT value v (10 ∷ rest) → ⊥)
    → BeginsNoShown (99 ∷ text)
communication_only text none others label rest x = by label x.readable x.whole
  where
    by : (label : Label) → IsReadableLabel others label → 99 ∷ text ≡ shown_text others label ++ (10 ∷ rest) → ⊥
    by Quiet r e = r
    by (Comm channel v) r e = none others channel (value_text others v ++ (10 ∷ rest)) v rest r.0 (ap tail e ∙ append_assoc (decimal channel) (32 ∷ value_text others v) (10 ∷ rest)) (record { orderly = r.1.0; low = r.1.1; ends = refl; whole = refl })
    by (Print bytes) r e = omega (arith, ap first_of_bytes e)

pub no_number_bad : (text : List ℕ) → ((n : ℕ) (rest : List ℕ) → n < 2 ^ 64 → text ≢ decimal n ++ (32 ∷ rest)) → BeginsNoShown (99 ∷ text)
no_number_bad text none = communication_only text (λ others channel value v rest few e read. none channel value (omega (arith, few)) e)

pub big_channel_bad : (text value : List ℕ) (n : ℕ) → text ≡ decimal n ++ (32 ∷ value) → n < 2 ^ 64 → ¬ (n < 2 ^ 32) → BeginsNoShown (99 ∷ text)
big_channel_bad text value n e few big =
    communication_only text (λ others channel other v rest small f read. let same = number_unique n channel value other few (omega (arith, small)) (sym e ∙ f) in big (subst (λ k. k < 2 ^ 32) (sym same.0) small))

pub no_value_bad : (text value : List ℕ) (n : ℕ) → text ≡ decimal n ++ (32 ∷ value) → n < 2 ^ 64 → BeginsNoValue VALUE_NESTING_LIMIT value → BeginsNoShown (99 ∷ text)
no_value_bad text value n e few none =
    communication_only text (λ others channel other v rest small f read. let same = number_unique n channel value other few (omega (arith, small)) (sym e ∙ f) in none others v (10 ∷ rest) (subst (λ t. Reads others VALUE_NESTING_LIMIT t v (10 ∷ rest)) (sym same.1) read))

pub no_end_bad : (names : List (List ℕ)) (text value r : List ℕ) (n : ℕ) (v : Val) → text ≡ decimal n ++ (32 ∷ value) → n < 2 ^ 64 → Reads names VALUE_NESTING_LIMIT value v r → ((rest : List ℕ) → r ≢ 10 ∷ rest) → BeginsNoShown (99 ∷ text)
no_end_bad names text value r n v e few read none =
    communication_only text (λ others channel other w rest small f x.
    let same = number_unique n channel value other few (omega (arith, small)) (sym e ∙ f) in
    none rest (value_ends names others v w r (10 ∷ rest) read.orderly x.orderly read.ends refl (sym read.whole ∙ same.1 ∙ x.whole)))

-- neither
pub no_label_shown : (text : List ℕ) → ((rest : List ℕ) → text ≢ codes "print \"" ++ rest) → ((rest : List ℕ) → text ≢ 99 ∷ rest) → BeginsNoShown text
no_label_shown text no_printing no_communication others label rest x = by label x.readable x.whole
  where
    by : (label : Label) → IsReadableLabel others label → text ≡ shown_text others label ++ (10 ∷ rest) → ⊥
    by Quiet r e = r
    by (Comm channel v) r e = no_communication _ e
    by (Print bytes) r e = no_printing _ e

-- ---- lines

line_whole : (names : List (List ℕ)) (number : ℕ) (label : Label) (rest : List ℕ) → line_text names number label ++ rest ≡ decimal number ++ (32 ∷ (shown_text names label ++ (10 ∷ rest)))
line_whole names number label rest = append_assoc (decimal number) (32 ∷ (shown_text names label ++ 10 ∷ [])) rest ∙ ap (λ t. decimal number ++ (32 ∷ t)) (append_assoc (shown_text names label) (10 ∷ []) rest)

pub line_found : (names : List (List ℕ)) (text shown : List ℕ) (number : ℕ) (label : Label) (rest : List ℕ) → number < 2 ^ 64 → text ≡ decimal number ++ (32 ∷ shown) → ReadsShown names shown label rest → ReadsLine names text (number, label) rest
line_found names text shown number label rest few e x = record { readable = (few, x.readable); whole = e ∙ ap (λ t. decimal number ++ (32 ∷ t)) x.whole ∙ sym (line_whole names number label rest) }

pub line_number_bad : (text : List ℕ) → ((n : ℕ) (rest : List ℕ) → n < 2 ^ 64 → text ≢ decimal n ++ (32 ∷ rest)) → (others : List (List ℕ)) → ¬ BeginsWithLine others text
line_number_bad text none others (line, rest, readable, e) = none line.0 (shown_text others line.1 ++ (10 ∷ rest)) readable.0 (e ∙ line_whole others line.0 line.1 rest)

pub line_shown_bad : (text shown : List ℕ) (number : ℕ) → number < 2 ^ 64 → text ≡ decimal number ++ (32 ∷ shown) → BeginsNoShown shown → (others : List (List ℕ)) → ¬ BeginsWithLine others text
line_shown_bad text shown number few e none others (line, rest, readable, f) =
    let same = number_unique number line.0 shown (shown_text others line.1 ++ (10 ∷ rest)) few readable.0 (sym e ∙ f ∙ line_whole others line.0 line.1 rest) in
    none others line.1 rest (record { readable = readable.1; whole = same.1 })

-- ---- texts

kept_label : (old more : List (List ℕ)) (label : Label) → IsReadableLabel old label → (shown_text (old ++ more) label ≡ shown_text old label) × IsReadableLabel (old ++ more) label
kept_label old more Quiet h = absurd h
kept_label old more (Comm channel v) h = let k = kept_value old more v h.1.0 in (ap (λ t. 99 ∷ (decimal channel ++ (32 ∷ t))) k.0, (h.0, (k.1, h.1.1)))
kept_label old more (Print bytes) h = (refl, h)

kept_lines : (old more : List (List ℕ)) (lines : List (ℕ × Label)) → AllByRecursion (IsReadable old) lines → (lines_text (old ++ more) lines ≡ lines_text old lines) × AllByRecursion (IsReadable (old ++ more)) lines
kept_lines old more [] h = (refl, tt)
kept_lines old more (l ∷ ls) h =
    let first = kept_label old more l.1 h.0.1 in
    let others = kept_lines old more ls h.1 in
    (ap (λ t. (decimal l.0 ++ (32 ∷ (t ++ 10 ∷ []))) ++ lines_text (old ++ more) ls) first.0 ∙ ap (λ t. line_text old l.0 l.1 ++ t) others.0, ((h.0.0, first.1), others.1))

kept_line_labels : (old more : List (List ℕ)) (l : ℕ × Label) → IsReadable old l → labels_in_line (old ++ more) l ≡ labels_in_line old l
kept_line_labels old more (n, Quiet) h = refl
kept_line_labels old more (n, Comm channel v) h = labels_kept old more v h.1.1.0
kept_line_labels old more (n, Print bytes) h = refl

kept_labels_in : (old more : List (List ℕ)) (lines : List (ℕ × Label)) → AllByRecursion (IsReadable old) lines → labels_in (old ++ more) lines ≡ labels_in old lines
kept_labels_in old more [] h = refl
kept_labels_in old more (l ∷ ls) h = ap (λ t. t ++ labels_in (old ++ more) ls) (kept_line_labels old more l h.0) ∙ ap (λ t. labels_in_line old l ++ t) (kept_labels_in old more ls h.1)

lines_more : (names : List (List ℕ)) (lines : List (ℕ × Label)) (line : ℕ × Label) (rest : List ℕ) → lines_text names (lines ++ line ∷ []) ++ rest ≡ lines_text names lines ++ (line_text names line.0 line.1 ++ rest)
lines_more names [] line rest = ap (λ t. t ++ rest) (append-nil (line_text names line.0 line.1))
lines_more names (l ∷ ls) line rest =
    append_assoc (line_text names l.0 l.1) (lines_text names (ls ++ line ∷ [])) rest ∙ ap (λ t. line_text names l.0 l.1 ++ t) (lines_more names ls line rest)
    ∙ sym (append_assoc (line_text names l.0 l.1) (lines_text names ls) (line_text names line.0 line.1 ++ rest))

readable_more : (names : List (List ℕ)) (lines : List (ℕ × Label)) (line : ℕ × Label) → AllByRecursion (IsReadable names) lines → IsReadable names line → AllByRecursion (IsReadable names) (lines ++ line ∷ [])
readable_more names [] line h k = (k, tt)
readable_more names (l ∷ ls) line h k = (h.0, readable_more names ls line h.1 k)

labels_in_more : (names : List (List ℕ)) (lines : List (ℕ × Label)) (line : ℕ × Label) → labels_in names (lines ++ line ∷ []) ≡ labels_in names lines ++ labels_in_line names line
labels_in_more names [] line = append-nil (labels_in_line names line)
labels_in_more names (l ∷ ls) line = ap (λ t. labels_in_line names l ++ t) (labels_in_more names ls line) ∙ sym (append_assoc (labels_in_line names l) (labels_in names ls) (labels_in_line names line))

pub none_yet : (names : List (List ℕ)) (text : List ℕ) → BeginsWithLines names text [] text
none_yet names text = record { shown = tt; whole = refl }

pub one_line_more : (names new : List (List ℕ)) (text rest rest' : List ℕ) (lines : List (ℕ × Label)) (line : ℕ × Label) → BeginsWithLines names text lines rest → new ≡ with_names names (labels_in_line new line) → ReadsLine new rest line rest'
    → BeginsWithLines new text (lines ++ line ∷ []) rest'
one_line_more names new text rest rest' lines line x gained read =
    let grown = labels_extend names new (labels_in_line new line) gained in
    let kept = kept_lines names grown.0 lines x.shown in
    let shown : AllByRecursion (IsReadable new) lines = subst (λ n. AllByRecursion (IsReadable n) lines) (sym grown.1) kept.1 in
    let same : lines_text new lines ≡ lines_text names lines = ap (λ n. lines_text n lines) grown.1 ∙ kept.0 in
    record {
      shown = readable_more new lines line shown read.readable;
      whole = x.whole ∙ ap (λ t. t ++ rest) (sym same) ∙ ap (λ t. lines_text new lines ++ t) read.whole ∙ sym (lines_more new lines line rest');
    }

-- lines are so by more names
pub lines_stand : (names new : List (List ℕ)) (text rest : List ℕ) (lines : List (ℕ × Label)) → BeginsWithLines names text lines rest → Extends names new → BeginsWithLines new text lines rest
lines_stand names new text rest lines x (more, e) =
    let kept = kept_lines names more lines x.shown in
    record {
      shown = subst (λ n. AllByRecursion (IsReadable n) lines) (sym e) kept.1;
      whole = x.whole ∙ ap (λ t. t ++ rest) (sym (ap (λ n. lines_text n lines) e ∙ kept.0));
    }

pub lines_gained : (old names new : List (List ℕ)) (lines : List (ℕ × Label)) (line : ℕ × Label) → AllByRecursion (IsReadable names) lines → names ≡ with_names old (labels_in names lines) → new ≡ with_names names (labels_in_line new line)
    → new ≡ with_names old (labels_in new (lines ++ line ∷ []))
lines_gained old names new lines line shown e gained =
    let grown = labels_extend names new (labels_in_line new line) gained in
    gained ∙ ap (λ n. with_names n (labels_in_line new line)) e ∙ sym (with_names_last old (labels_in names lines) (labels_in_line new line))
    ∙ ap (λ ls. with_names old (ls ++ labels_in_line new line)) (sym (ap (λ n. labels_in n lines) grown.1 ∙ kept_labels_in names grown.0 lines shown))
    ∙ ap (with_names old) (sym (labels_in_more new lines line))

pub first_bad : (names : List (List ℕ)) (text rest : List ℕ) (lines : List (ℕ × Label)) (number : ℕ) → BeginsWithLines names text lines rest → number ≡ length lines + 1 → rest ≢ [] → ((others : List (List ℕ)) → ¬ BeginsWithLine others rest) → IsFirstBad text number
first_bad names text rest lines number x place more bad = record { names = names; lines = lines; rest = rest; before = x; place = place; more = more; bad = bad }

pub all_lines : (names : List (List ℕ)) (text rest : List ℕ) (lines : List (ℕ × Label)) → BeginsWithLines names text lines rest → rest ≡ [] → BeginsWithLines names text lines []
all_lines names text rest lines x e = subst (BeginsWithLines names text lines) e x

-- ---- names

-- the names stay while a number and its space are read, and what a step shows without a record
pub number_grows : (text : List ℕ) (n : ℕ) (rest : List ℕ) (names : List (List ℕ)) → text ≡ decimal n ++ (32 ∷ rest) → NamesGrow text names names rest
number_grows text n rest names e = same_names text rest (decimal n ++ 32 ∷ []) names (e ∙ sym (append_assoc (decimal n) (32 ∷ []) rest))

pub shown_grows : (names : List (List ℕ)) (text all : List ℕ) (label : Label) (rest : List ℕ) → all ≡ text → ReadsShown names text label rest → NamesGrow all names names rest
shown_grows names text all label rest e x = same_names all rest (shown_text names label ++ 10 ∷ []) names (e ∙ x.whole ∙ sym (append_assoc (shown_text names label) (10 ∷ []) rest))

pub some_left : (r : List ℕ) → (length r == 0) ≡ false → r ≢ []
some_left [] h e = grind (arith, h)
some_left (x ∷ xs) h e = cc

pub nothing_left : (r : List ℕ) → (length r == 0) ≡ true → r ≡ []
nothing_left [] h = refl
nothing_left (x ∷ xs) h = grind (arith, h)
