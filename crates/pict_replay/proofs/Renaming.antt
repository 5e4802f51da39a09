-- The same lines by other names, which have a number for each label that stands in them.
use Rattle.std.proofs.Common.{◌≡◌, ℕ, ◌+◌, ◌≤◌, ◌<◌, ◌^◌, List, [], ◌∷◌, ◌++◌, Some, slice_get, unwrap_or, nat_cmp, refl, sym, ◌∙◌, ap, subst}
use Rattle.std.specs.Prelude.{max}
use Rattle.std.specs.Fmt.{decimal}
use Rattle.std.specs.List.{AllByRecursion}
use Rattle.std.specs.Cmp.Lexicographic.{slice_cmp}
use Rattle.pict_syntax.specs.declared.limits.TheConstants.{VALUE_NESTING_LIMIT}
use Rattle.pict_syntax.specs.Names.{text_of}
use Rattle.pict_core.specs.Term.{Val, Vals, Labelled, Var, Chan, Int, Char, Boolean, Text, PrimitiveVal, Record, no_vals, more_vals, no_labelled, more_labelled}
use Rattle.pict_core.specs.Step.{Quiet, Comm, Print}
use Rattle.pict_show.specs.Values.{value_text, positional_texts, labelled_texts, in_brackets}
use Rattle.pict_trace.specs.Lines.{line_text, lines_text}
use Rattle.pict_trace.specs.Readable.{IsIdentifier, IsOrderly, AreOrderly, LabelsAfter, IsReadable, nesting, nesting_all, nesting_labelled, labels_of, labels_of_all, labels_of_labelled, labels_in_line, labels_in}
use Rattle.pict_replay.specs.Replayed.{Line}

-- the text has a number
abbrev pub HasNumber : List (List ℕ) → List ℕ → Type 0
HasNumber names text = (number : ℕ) × (slice_get names number ≡ Some text)

abbrev pub HaveNumbers : List (List ℕ) → List (List ℕ) → Type 0
HaveNumbers names texts = AllByRecursion (HasNumber names) texts

-- the text of a number
numbers_text : (names : List (List ℕ)) (text : List ℕ) (n : HasNumber names text) → text_of names n.0 ≡ text
numbers_text names text n = ap (λ o. unwrap_or o []) n.1

pub all_split : (P : List ℕ → Type 0) (xs ys : List (List ℕ)) → AllByRecursion P (xs ++ ys) → AllByRecursion P xs × AllByRecursion P ys
all_split P [] ys h = (tt, h)
all_split P (x ∷ xs) ys h = let s = all_split P xs ys h.1 in ((h.0, s.0), s.1)

module _ (names others : List (List ℕ)) where
  pub record RenamedValue (v : Val) : Type 0 where
    pub new : Val
    pub text : value_text others new ≡ value_text names v
    pub orderly : IsOrderly others new
    pub nested : nesting new ≡ nesting v
    pub labels : labels_of others new ≡ labels_of names v

  pub record RenamedVals (vs : Vals) : Type 0 where
    pub new : Vals
    pub texts : positional_texts others new ≡ positional_texts names vs
    pub orderly : AreOrderly others new
    pub nested : nesting_all new ≡ nesting_all vs
    pub labels : labels_of_all others new ≡ labels_of_all names vs

  pub record RenamedLabelled (before : List ℕ) (ls : Labelled) : Type 0 where
    pub new : Labelled
    pub texts : labelled_texts others new ≡ labelled_texts names ls
    pub orderly : LabelsAfter others before new
    pub nested : nesting_labelled new ≡ nesting_labelled ls
    pub labels : labels_of_labelled others new ≡ labels_of_labelled names ls

  record_by : (vs : Vals) (ls : Labelled) → RenamedVals vs → RenamedLabelled [] ls → RenamedValue (Record vs ls)
  record_by vs ls a b = record {
    new = Record a.new b.new;
    text = λ i. in_brackets (a.texts i ++ b.texts i);
    orderly = (a.orderly, b.orderly);
    nested = λ i. max (a.nested i) (b.nested i) + 1;
    labels = λ i. a.labels i ++ b.labels i;
  }

  vals_by : (v : Val) (vs : Vals) → RenamedValue v → RenamedVals vs → RenamedVals (more_vals v vs)
  vals_by v vs a b = record {
    new = more_vals a.new b.new;
    texts = λ i. a.text i ∷ b.texts i;
    orderly = (a.orderly, b.orderly);
    nested = λ i. max (a.nested i) (b.nested i);
    labels = λ i. a.labels i ++ b.labels i;
  }

  labelled_by : (before : List ℕ) (l : ℕ) (v : Val) (ls : Labelled) → LabelsAfter names before (more_labelled l v ls) → HasNumber others (text_of names l) → RenamedValue v → RenamedLabelled (text_of names l) ls → RenamedLabelled before (more_labelled l v ls)
  labelled_by before l v ls h n a b =
      let is = numbers_text others (text_of names l) n in
      record {
        new = more_labelled n.0 a.new b.new;
        texts = λ i. (is i ++ (61 ∷ a.text i)) ∷ b.texts i;
        orderly = (subst IsIdentifier (sym is) h.0, ap (slice_cmp nat_cmp before) is ∙ h.1, a.orderly, subst (λ w. LabelsAfter others w b.new) (sym is) b.orderly);
        nested = λ i. max (a.nested i) (b.nested i);
        labels = λ i. is i ∷ (a.labels i ++ b.labels i);
      }

  mutual
    pub renamed_value : (v : Val) → IsOrderly names v → HaveNumbers others (labels_of names v) → RenamedValue v
    renamed_value (Record vs ls) h has =
        let s = all_split (HasNumber others) (labels_of_all names vs) (labels_of_labelled names ls) has in record_by vs ls (renamed_vals vs h.0 s.0) (renamed_labelled [] ls h.1 s.1)
    renamed_value (Var x) h has = absurd h
    renamed_value (Chan x) h has = record { new = Chan x; text = refl; orderly = h; nested = refl; labels = refl }
    renamed_value (Int x) h has = record { new = Int x; text = refl; orderly = h; nested = refl; labels = refl }
    renamed_value (Char x) h has = record { new = Char x; text = refl; orderly = h; nested = refl; labels = refl }
    renamed_value (Boolean x) h has = record { new = Boolean x; text = refl; orderly = h; nested = refl; labels = refl }
    renamed_value (Text x) h has = record { new = Text x; text = refl; orderly = h; nested = refl; labels = refl }
    renamed_value (PrimitiveVal x) h has = record { new = PrimitiveVal x; text = refl; orderly = h; nested = refl; labels = refl }

    pub renamed_vals : (vs : Vals) → AreOrderly names vs → HaveNumbers others (labels_of_all names vs) → RenamedVals vs
    renamed_vals no_vals h has = record { new = no_vals; texts = refl; orderly = tt; nested = refl; labels = refl }
    renamed_vals (more_vals v vs) h has =
        let s = all_split (HasNumber others) (labels_of names v) (labels_of_all names vs) has in vals_by v vs (renamed_value v h.0 s.0) (renamed_vals vs h.1 s.1)

    pub renamed_labelled : (before : List ℕ) (ls : Labelled) → LabelsAfter names before ls → HaveNumbers others (labels_of_labelled names ls) → RenamedLabelled before ls
    renamed_labelled before no_labelled h has = record { new = no_labelled; texts = refl; orderly = tt; nested = refl; labels = refl }
    renamed_labelled before (more_labelled l v ls) h has =
        let s = all_split (HasNumber others) (labels_of names v) (labels_of_labelled names ls) has.1 in
        labelled_by before l v ls h has.0 (renamed_value v h.2 s.0) (renamed_labelled (text_of names l) ls h.3 s.1)

  pub record RenamedLine (line : Line) : Type 0 where
    pub new : Line
    pub text : line_text others new.0 new.1 ≡ line_text names line.0 line.1
    pub readable : IsReadable others new
    pub labels : labels_in_line others new ≡ labels_in_line names line

  comm_by : (number channel : ℕ) (v : Val) → number < 2 ^ 64 → channel < 2 ^ 32 → nesting v ≤ VALUE_NESTING_LIMIT → RenamedValue v → RenamedLine (number, Comm channel v)
  comm_by number channel v few below low r = record {
    new = (number, Comm channel r.new);
    text = λ i. decimal number ++ (32 ∷ ((99 ∷ (decimal channel ++ (32 ∷ r.text i))) ++ 10 ∷ []));
    readable = (few, (below, (r.orderly, subst (λ n. n ≤ VALUE_NESTING_LIMIT) (sym r.nested) low)));
    labels = r.labels;
  }

  pub renamed_line : (line : Line) → IsReadable names line → HaveNumbers others (labels_in_line names line) → RenamedLine line
  renamed_line (number, Comm channel v) (few, (below, (h, low))) has = comm_by number channel v few below low (renamed_value v h has)
  renamed_line (number, Print bytes) h has = record { new = (number, Print bytes); text = refl; readable = h; labels = refl }
  renamed_line (number, Quiet) (few, h) has = absurd h

  pub record RenamedLines (lines : List Line) : Type 0 where
    pub new : List Line
    pub text : lines_text others new ≡ lines_text names lines
    pub readable : AllByRecursion (IsReadable others) new
    pub labels : labels_in others new ≡ labels_in names lines

  pub renamed_lines : (lines : List Line) → AllByRecursion (IsReadable names) lines → HaveNumbers others (labels_in names lines) → RenamedLines lines
  renamed_lines [] h has = record { new = []; text = refl; readable = tt; labels = refl }
  renamed_lines (line ∷ lines) h has =
      let s = all_split (HasNumber others) (labels_in_line names line) (labels_in names lines) has in
      let a = renamed_line line h.0 s.0 in
      let b = renamed_lines lines h.1 s.1 in
      record { new = a.new ∷ b.new; text = λ i. a.text i ++ b.text i; readable = (a.readable, b.readable); labels = λ i. a.labels i ++ b.labels i }
