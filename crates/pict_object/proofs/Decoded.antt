-- What is read of an object is its process, and where nothing is read there is no object.
use Rattle.std.proofs.Common.{◌≡◌, ℕ, zero, suc, ◌<◌, ◌^◌, nat_eq, Bool, true, false, ◌||◌, inl, inr, List, [], ◌∷◌, ◌++◌, map, length, take, drop, get_or, Some, None, refl, sym, ◌∙◌, ap, ap₂, subst, unwrap_or, arith}
use Rattle.std.specs.Prelude.{IsTrue, IfSome}
use Rattle.std.specs.List.{AllByRecursion, list_any, flat_map}
use Rattle.std.specs.Str.{bytes_eq}
use Rattle.std.proofs.lemmas.Bool.{cases_lt, eqb-true, eq-eqb}
use Rattle.std.proofs.lemmas.Option.{get_or_from_slice_get, unwrap_or-slice_get}
use Rattle.std.proofs.lemmas.List.{get_or_append_left, get_or_push, length-append}
use Rattle.std.proofs.lemmas.Slice.Eq.{bytes_eq-Decides}
use Rattle.pict_syntax.specs.declared.name.Name.{Name}
use Rattle.pict_syntax.specs.Names.{text_of, number_of, with_names}
use Rattle.pict_syntax.proofs.NamesLemmas.{stands_there}
use Rattle.pict_core.specs.Term.{Val, Vals, Labelled, Pat, Pats, LabelledPats, Bind, Any, RecordPat, no_pats, more_pats, no_labelled_pats, more_labelled_pats, Process, Var, Chan, Int, Char, Boolean, Text, PrimitiveVal, Record, no_vals, more_vals, no_labelled, more_labelled, Zero, Par, New, Out, In, If}
use Rattle.pict_object.specs.Objects.{count_bytes, process_bytes, labels_of, labels_of_value, labels_of_values, labels_of_labelled, labels_of_pattern, labels_of_patterns, labels_of_labelled_patterns, TextsRise, place_in, text_bytes, header}
use Rattle.pict_object.specs.Fits.{ValueHasBytes, ValuesHaveBytes, LabelledHaveBytes, PatternHasBytes, PatternsHaveBytes, LabelledPatternsHaveBytes, HasBytes}
use Rattle.pict_object.specs.Cores.{IsLabelText, ComesBefore, IsObject}
use Rattle.pict_object.specs.Dressing.{Dress, dressed_value, dressed_values, dressed_labelled, dressed_pattern, dressed_patterns, dressed_labelled_patterns, dressed}
use Rattle.pict_object.specs.Reading.{label_in, no_label, whole_at}
use Rattle.pict_object.specs.Decoded.{IsNoObject, IsDecoded, GainsFirst}
use Rattle.pict_object.specs.Heads.{AreLabelTexts, IsHead, own_labels, UsesLabels, AreNumbered}
use Rattle.pict_object.proofs.Lists.{all_both, all_weaker}
use Rattle.pict_object.proofs.Fronts.{IsBytes}
use Rattle.pict_object.proofs.Once.{count_once}
use Rattle.pict_object.proofs.Whole.{tables_once}
use Rattle.pict_object.proofs.Tables.{In as IsIn, Before, trans, not_itself, after_it, in_first, in_rest, first_or_rest}
use Rattle.pict_object.proofs.Ordered.{one_place, in_at}
use Rattle.pict_object.proofs.Places.{number_below}
use Rattle.pict_object.proofs.Found.{AreFor}
use Rattle.pict_object.proofs.Standing.{IsWholeRead, whole_read}
use Rattle.pict_object.proofs.Again.{relabelled, whole_again}

pub same_some : {A : Type 0} (x y : A) → Some x ≡ Some y → x ≡ y
same_some x y e = cc

-- ---- lists

rest_or : (b c : Bool) → c ≡ true → (b || c) ≡ true
rest_or true c k = refl
rest_or false c k = k

any_mapped : {A B : Type 0} (f : A → B) (P : A → Bool) (Q : B → Bool) → ((x : A) → P x ≡ true → Q (f x) ≡ true) → (xs : List A) → list_any P xs ≡ true → list_any Q (map f xs) ≡ true
any_mapped f P Q each [] h = h
any_mapped f P Q each (x ∷ xs) h = go (P x) (list_any P xs) refl h (each x) (any_mapped f P Q each xs)
  where
    go : (b c : Bool) → P x ≡ b → (b || c) ≡ true → (P x ≡ true → Q (f x) ≡ true) → (c ≡ true → list_any Q (map f xs) ≡ true) → (Q (f x) || list_any Q (map f xs)) ≡ true
    go true c e k first rest = ap (λ z. z || list_any Q (map f xs)) (first e)
    go false c e k first rest = rest_or (Q (f x)) (list_any Q (map f xs)) (rest k)

any_weaker : {A : Type 0} (P Q : A → Bool) → ((x : A) → P x ≡ true → Q x ≡ true) → (xs : List A) → list_any P xs ≡ true → list_any Q xs ≡ true
any_weaker P Q each [] h = h
any_weaker P Q each (x ∷ xs) h = go (P x) (list_any P xs) refl h (each x) (any_weaker P Q each xs)
  where
    go : (b c : Bool) → P x ≡ b → (b || c) ≡ true → (P x ≡ true → Q x ≡ true) → (c ≡ true → list_any Q xs ≡ true) → (Q x || list_any Q xs) ≡ true
    go true c e k first rest = ap (λ z. z || list_any Q xs) (first e)
    go false c e k first rest = rest_or (Q x) (list_any Q xs) (rest k)

-- ---- texts of labels

rising : (before : List ℕ) (table : List (List ℕ)) → AreLabelTexts before table → TextsRise before table
rising before [] h = tt
rising before (text ∷ table) h = (h.1, rising text table h.2)

identifier : (before : List ℕ) (table : List (List ℕ)) (text : List ℕ) → AreLabelTexts before table → IsIn text table → IsLabelText text
identifier before [] text h k = absurd cc
identifier before (first ∷ table) text h k = elim (first_or_rest text first table k) [
  | inl e ↦ subst IsLabelText (sym e) h.0
  | inr m ↦ identifier first table text h.2 m
]

label_texts : (before : List ℕ) (table : List (List ℕ)) → TextsRise before table → ((text : List ℕ) → IsIn text table → IsLabelText text) → AreLabelTexts before table
label_texts before [] h each = tt
label_texts before (text ∷ table) h each = (each text (in_first text table), h.0, label_texts text table h.1 (λ other k. each other (in_rest other text table k)))

-- the text at a place comes before that at a later one
texts_before : (before : List ℕ) (table : List (List ℕ)) → TextsRise before table → (j k : ℕ) → j < k → k < length table → Before (get_or table j []) (get_or table k [])
texts_before before [] h j k l m = absurd (omega (arith, m))
texts_before before (text ∷ table) h zero zero l m = absurd (omega (arith, l))
texts_before before (text ∷ table) h zero (suc k) l m = after_it text (get_or table k []) table h.1 (in_at table k (omega (arith, m)))
texts_before before (text ∷ table) h (suc j) zero l m = absurd (omega (arith, l))
texts_before before (text ∷ table) h (suc j) (suc k) l m = texts_before text table h.1 j k (omega (arith, l)) (omega (arith, m))

pub text_at_number : (table : List (List ℕ)) (text : List ℕ) → IsIn text table → get_or table (number_of table text) [] ≡ text
text_at_number table text h = get_or_from_slice_get table (number_of table text) text [] (stands_there table text h)

number_at_place : (table : List (List ℕ)) → TextsRise [] table → (k : ℕ) → k < length table → number_of table (get_or table k []) ≡ k
number_at_place table rise k h =
    let there : IsIn (get_or table k []) table = in_at table k h in
    one_place [] table rise (number_of table (get_or table k [])) k (number_below table (get_or table k []) there) h (text_at_number table (get_or table k []) there)

-- ---- labels of a process that have a place

module _ (P : ℕ → Type 0) where
  mutual
    value_labels : (v : Val) → ValueHasBytes P v → AllByRecursion P (labels_of_value v)
    value_labels (Var level) h = tt
    value_labels (Chan number) h = tt
    value_labels (Int n) h = tt
    value_labels (Char byte) h = tt
    value_labels (Boolean b) h = tt
    value_labels (Text bytes) h = tt
    value_labels (PrimitiveVal p) h = tt
    value_labels (Record vs ls) h = all_both P (labels_of_values vs) (labels_of_labelled ls) (values_labels vs h.2) (labelled_labels ls h.3)

    values_labels : (vs : Vals) → ValuesHaveBytes P vs → AllByRecursion P (labels_of_values vs)
    values_labels no_vals h = tt
    values_labels (more_vals v vs) h = all_both P (labels_of_value v) (labels_of_values vs) (value_labels v h.0) (values_labels vs h.1)

    labelled_labels : (ls : Labelled) → LabelledHaveBytes P ls → AllByRecursion P (labels_of_labelled ls)
    labelled_labels no_labelled h = tt
    labelled_labels (more_labelled label v ls) h = (h.0, all_both P (labels_of_value v) (labels_of_labelled ls) (value_labels v h.1) (labelled_labels ls h.2))

  mutual
    pattern_labels : (p : Pat) → PatternHasBytes P p → AllByRecursion P (labels_of_pattern p)
    pattern_labels Bind h = tt
    pattern_labels Any h = tt
    pattern_labels (RecordPat ps ls) h = all_both P (labels_of_patterns ps) (labels_of_labelled_patterns ls) (patterns_labels ps h.2) (labelled_patterns_labels ls h.3)

    patterns_labels : (ps : Pats) → PatternsHaveBytes P ps → AllByRecursion P (labels_of_patterns ps)
    patterns_labels no_pats h = tt
    patterns_labels (more_pats p ps) h = all_both P (labels_of_pattern p) (labels_of_patterns ps) (pattern_labels p h.0) (patterns_labels ps h.1)

    labelled_patterns_labels : (ls : LabelledPats) → LabelledPatternsHaveBytes P ls → AllByRecursion P (labels_of_labelled_patterns ls)
    labelled_patterns_labels no_labelled_pats h = tt
    labelled_patterns_labels (more_labelled_pats label p ls) h = (h.0, all_both P (labels_of_pattern p) (labels_of_labelled_patterns ls) (pattern_labels p h.1) (labelled_patterns_labels ls h.2))

  process_labels : (p : Process) → HasBytes P p → AllByRecursion P (labels_of p)
  process_labels Zero h = tt
  process_labels (Par p q) h = all_both P (labels_of p) (labels_of q) (process_labels p h.0) (process_labels q h.1)
  process_labels (New p) h = process_labels p h
  process_labels (Out chan message at) h = all_both P (labels_of_value chan) (labels_of_value message) (value_labels chan h.0) (value_labels message h.1)
  process_labels (In chan replicated pattern body) h =
      all_both P (labels_of_value chan) (labels_of_pattern pattern ++ labels_of body) (value_labels chan h.0) (all_both P (labels_of_pattern pattern) (labels_of body) (pattern_labels pattern h.1) (process_labels body h.2))
  process_labels (If test p q) h = all_both P (labels_of_value test) (labels_of p ++ labels_of q) (value_labels test h.0) (all_both P (labels_of p) (labels_of q) (process_labels p h.1) (process_labels q h.2))

-- ---- the labels of a dressed process

mapped_both : (f : ℕ → ℕ) (xs ys a b : List ℕ) → a ≡ map f xs → b ≡ map f ys → a ++ b ≡ map f (xs ++ ys)
mapped_both f [] ys a b e k = ap₂ (λ z w. z ++ w) e k
mapped_both f (x ∷ xs) ys a b e k = ap (λ z. z ++ b) e ∙ ap (λ z. f x ∷ z) (mapped_both f xs ys (map f xs) b refl k)

module _ (d : Dress) where
  mutual
    dressed_value_labels : (v : Val) → labels_of_value (dressed_value d v) ≡ map d.label (labels_of_value v)
    dressed_value_labels (Var level) = refl
    dressed_value_labels (Chan number) = refl
    dressed_value_labels (Int n) = refl
    dressed_value_labels (Char byte) = refl
    dressed_value_labels (Boolean b) = refl
    dressed_value_labels (Text bytes) = refl
    dressed_value_labels (PrimitiveVal p) = refl
    dressed_value_labels (Record vs ls) = mapped_both d.label (labels_of_values vs) (labels_of_labelled ls) _ _ (dressed_values_labels vs) (dressed_labelled_labels ls)

    dressed_values_labels : (vs : Vals) → labels_of_values (dressed_values d vs) ≡ map d.label (labels_of_values vs)
    dressed_values_labels no_vals = refl
    dressed_values_labels (more_vals v vs) = mapped_both d.label (labels_of_value v) (labels_of_values vs) _ _ (dressed_value_labels v) (dressed_values_labels vs)

    dressed_labelled_labels : (ls : Labelled) → labels_of_labelled (dressed_labelled d ls) ≡ map d.label (labels_of_labelled ls)
    dressed_labelled_labels no_labelled = refl
    dressed_labelled_labels (more_labelled label v ls) = ap (λ z. d.label label ∷ z) (mapped_both d.label (labels_of_value v) (labels_of_labelled ls) _ _ (dressed_value_labels v) (dressed_labelled_labels ls))

  mutual
    dressed_pattern_labels : (p : Pat) → labels_of_pattern (dressed_pattern d p) ≡ map d.label (labels_of_pattern p)
    dressed_pattern_labels Bind = refl
    dressed_pattern_labels Any = refl
    dressed_pattern_labels (RecordPat ps ls) = mapped_both d.label (labels_of_patterns ps) (labels_of_labelled_patterns ls) _ _ (dressed_patterns_labels ps) (dressed_labelled_patterns_labels ls)

    dressed_patterns_labels : (ps : Pats) → labels_of_patterns (dressed_patterns d ps) ≡ map d.label (labels_of_patterns ps)
    dressed_patterns_labels no_pats = refl
    dressed_patterns_labels (more_pats p ps) = mapped_both d.label (labels_of_pattern p) (labels_of_patterns ps) _ _ (dressed_pattern_labels p) (dressed_patterns_labels ps)

    dressed_labelled_patterns_labels : (ls : LabelledPats) → labels_of_labelled_patterns (dressed_labelled_patterns d ls) ≡ map d.label (labels_of_labelled_patterns ls)
    dressed_labelled_patterns_labels no_labelled_pats = refl
    dressed_labelled_patterns_labels (more_labelled_pats label p ls) = ap (λ z. d.label label ∷ z) (mapped_both d.label (labels_of_pattern p) (labels_of_labelled_patterns ls) _ _ (dressed_pattern_labels p) (dressed_labelled_patterns_labels ls))

  dressed_labels : (p : Process) → labels_of (dressed d p) ≡ map d.label (labels_of p)
  dressed_labels Zero = refl
  dressed_labels (Par p q) = mapped_both d.label (labels_of p) (labels_of q) _ _ (dressed_labels p) (dressed_labels q)
  dressed_labels (New p) = dressed_labels p
  dressed_labels (Out chan message at) = mapped_both d.label (labels_of_value chan) (labels_of_value message) _ _ (dressed_value_labels chan) (dressed_value_labels message)
  dressed_labels (In chan replicated pattern body) =
      mapped_both d.label (labels_of_value chan) (labels_of_pattern pattern ++ labels_of body) _ _ (dressed_value_labels chan)
      (mapped_both d.label (labels_of_pattern pattern) (labels_of body) _ _ (dressed_pattern_labels pattern) (dressed_labels body))
  dressed_labels (If test p q) =
      mapped_both d.label (labels_of_value test) (labels_of p ++ labels_of q) _ _ (dressed_value_labels test) (mapped_both d.label (labels_of p) (labels_of q) _ _ (dressed_labels p) (dressed_labels q))

-- ---- what is read of an object

-- what holds of the texts of labels holds of one that is among them
pub found : (P : List ℕ → Type 0) (names : List (List ℕ)) (text : List ℕ) (labels : List ℕ) → AllByRecursion (λ label. P (text_of names label)) labels → list_any (λ label. bytes_eq text (text_of names label)) labels ≡ true → P text
found P names text [] h k = absurd cc
found P names text (l ∷ labels) h k = go (bytes_eq text (text_of names l)) (list_any (λ label. bytes_eq text (text_of names label)) labels) refl k (found P names text labels h.1)
  where
    go : (b c : Bool) → bytes_eq text (text_of names l) ≡ b → (b || c) ≡ true → (c ≡ true → P text) → P text
    go true c e m rest = subst P (sym ((bytes_eq-Decides text (text_of names l)).0 e)) h.0
    go false c e m rest = rest m

-- labels whose texts are those of a table that rises
module _ (names table : List (List ℕ)) (labels : List Name) (up : TextsRise [] table) (many : length labels ≡ length table) (texts : (k : ℕ) → k < length table → text_of names (label_in labels k).0 ≡ get_or table k []) where
  abbrev InTable : ℕ → Type 0
  InTable label = IsTrue (list_any (bytes_eq (text_of names label)) table)

  within : (k : ℕ) → k < length labels → k < length table
  within k h = omega (arith, h, many)

  are_for : AreFor labels (place_in names table) InTable (ComesBefore names)
  are_for = record {
    back = λ k h. ap (number_of table) (texts k (within k h)) ∙ number_at_place table up k (within k h);
    placed = λ k h. subst (λ t. IsIn t table) (sym (texts k (within k h))) (in_at table k (within k h));
    rise = λ j k l h. subst (λ t. Before t (text_of names (label_in labels k).0)) (sym (texts j (omega (arith, l, within k h))))
        (subst (λ t. Before (get_or table j []) t) (sym (texts k (within k h))) (texts_before [] table up j k l (within k h)));
    apart = λ l m b e. not_itself (text_of names l) (subst (λ x. Before (text_of names l) (text_of names x)) (sym e) b);
    trans = λ l m n a b. trans (text_of names l) (text_of names m) (text_of names n) a b;
  }

  abbrev IsRead : List ℕ → Process → Type 0
  IsRead rest p = IsWholeRead labels (place_in names table) InTable (ComesBefore names) are_for rest p

  is_read : (rest : List ℕ) → IsBytes rest → (p : Process) → whole_at labels rest ≡ Some p → IsRead rest p
  is_read rest fits p e = subst (λ z. IfSome z (IsRead rest)) e (whole_read labels (place_in names table) InTable (ComesBefore names) are_for rest fits)

  -- the object of a process that uses each label of its table
  object_of : (bytes rest : List ℕ) (p : Process) → IsHead bytes table rest → IsRead rest p
      → ((k : ℕ) → k < length table → IsTrue (list_any (λ label. bytes_eq (get_or table k []) (text_of names label)) (labels_of p))) → IsObject names bytes p
  object_of bytes rest p head h used =
      let placed : AllByRecursion InTable (labels_of p) = process_labels InTable p h.3 in
      record {
        core = record {
          closed = h.0;
          shallow = h.1;
          nests = h.2;
          identifiers = all_weaker InTable (λ label. IsLabelText (text_of names label)) (λ label k. identifier [] table (text_of names label) head.labels k) (labels_of p) placed;
          rising = h.4;
        };
        table = table;
        labels = record {
          rise = up;
          exactly = λ text. (
            (λ k. subst (λ t. IsTrue (list_any (λ label. bytes_eq t (text_of names label)) (labels_of p))) (text_at_number table text k) (used (number_of table text) (number_below table text k))),
            (λ k. found (λ t. IsIn t table) names text (labels_of p) placed k),
          );
        };
        fits = record { few = head.few; short = head.short; labels = h.3 };
        is = head.is ∙ ap (λ z. header ++ (count_bytes (length table) ++ (flat_map text_bytes table ++ z))) h.6;
      }

-- ---- labels that are numbered by their places

own_many : (n : ℕ) → length (own_labels n) ≡ n
own_many zero = refl
own_many (suc n) = let e = length-append (own_labels n) (record { 0 = n } ∷ []) in omega (arith, e, own_many n)

own_at : (n k : ℕ) → k < n → label_in (own_labels n) k ≡ record { 0 = k }
own_at zero k h = absurd (omega (arith, h))
own_at (suc n) k h = elim (cases_lt k n) [
  | inl less ↦ get_or_append_left (own_labels n) (record { 0 = n } ∷ []) no_label k (omega (arith, less, own_many n)) ∙ own_at n k less
  | inr more ↦ let e : k ≡ n = omega (arith, more, h) in
      ap (λ z. label_in (own_labels (suc n)) z) e ∙ get_or_push (own_labels n) (record { 0 = n }) no_label n (own_many n) ∙ ap (λ z. record { 0 = z }) (sym e)
]

own_number : (n k : ℕ) → k < n → (label_in (own_labels n) k).0 ≡ k
own_number n k h = ap (λ (name : Name). name.0) (own_at n k h)

below_own : (n k : ℕ) → k < length (own_labels n) → k < n
below_own n k h = omega (arith, h, own_many n)

abbrev same_place : ℕ → ℕ
same_place l = l

abbrev Below : ℕ → ℕ → Type 0
Below n l = l < n

abbrev Lower : ℕ → ℕ → Type 0
Lower l m = l < m

own_for : (n : ℕ) → AreFor (own_labels n) same_place (Below n) Lower
own_for n = record {
  back = λ k h. own_number n k (below_own n k h);
  placed = λ k h. let m : k < n = below_own n k h in subst (λ z. z < n) (sym (own_number n k m)) m;
  rise = λ j k l h.
      let m : k < n = below_own n k h in
      let i : j < n = omega (arith, l, m) in
      let e = own_number n j i in
      let f = own_number n k m in
      omega (arith, l, e, f);
  apart = λ l m b e. omega (arith, b, e);
  trans = λ l m n a b. omega (arith, a, b);
}

-- what a process that uses its labels is read as with others in their places
module _ (table : List (List ℕ)) (rest : List ℕ) (fits : IsBytes rest) (used : UsesLabels (length table) rest) where
  abbrev IsFirst : Process → Type 0
  IsFirst p = IsWholeRead (own_labels (length table)) same_place (Below (length table)) Lower (own_for (length table)) rest p

  first : IsFirst used.process
  first = subst (λ z. IfSome z IsFirst) used.is (whole_read (own_labels (length table)) same_place (Below (length table)) Lower (own_for (length table)) rest fits)

  read_again : (labels : List Name) → length labels ≡ length table → length table < 2 ^ 32 → whole_at labels rest ≡ Some (dressed (relabelled labels same_place) used.process)
  read_again labels many few =
      ap (whole_at labels) first.6
      ∙ whole_again labels same_place (Below (length table)) Lower (record { few = omega (arith, many, few); low = λ l h. omega (arith, h, many); rise = λ l m a b c. c }) used.process first.0 first.1 first.2 first.3 first.4

  -- all labels are used, whatever their numbers
  used_again : (names : List (List ℕ)) (labels : List Name) → length labels ≡ length table → length table < 2 ^ 32 → ((k : ℕ) → k < length table → text_of names (label_in labels k).0 ≡ get_or table k [])
      → (p : Process) → whole_at labels rest ≡ Some p → (k : ℕ) → k < length table → IsTrue (list_any (λ label. bytes_eq (get_or table k []) (text_of names label)) (labels_of p))
  used_again names labels many few texts p e k h =
      let d : Dress = relabelled labels same_place in
      let same : p ≡ dressed d used.process = same_some p (dressed d used.process) (sym e ∙ read_again labels many few) in
      ap (list_any (λ label. bytes_eq (get_or table k []) (text_of names label))) (ap labels_of same ∙ dressed_labels d used.process)
      ∙ any_mapped d.label (nat_eq k) (λ label. bytes_eq (get_or table k []) (text_of names label))
      (λ x f. (bytes_eq-Decides (get_or table k []) (text_of names (label_in labels x).0)).1 (sym (texts k h) ∙ ap (λ z. text_of names (label_in labels z).0) (eqb-true k x f)))
      (labels_of used.process) (used.all k h)

-- ---- decoding

numbered_texts : (old new table : List (List ℕ)) (labels : List Name) → AreNumbered old new table labels → (k : ℕ) → k < length table → text_of new (label_in labels k).0 ≡ get_or table k []
numbered_texts old new table labels numbered k h = ap (λ o. unwrap_or o []) (numbered.stand k h)

pub decoded : (old new table : List (List ℕ)) (labels : List Name) (bytes rest : List ℕ) → IsBytes rest → IsHead bytes table rest → UsesLabels (length table) rest → AreNumbered old new table labels
    → (p : Process) → whole_at labels rest ≡ Some p → IsDecoded old new bytes p
unfolding object_of
decoded old new table labels bytes rest fits head used numbered p e =
    let texts = numbered_texts old new table labels numbered in
    let read = is_read new table labels (rising [] table head.labels) numbered.many texts rest fits p e in
    record {
      object = object_of new table labels (rising [] table head.labels) numbered.many texts bytes rest p head read (used_again table rest fits used new labels numbered.many head.few texts p e);
      without_places = read.5;
      names = numbered.names;
    }

-- with the numbers of other names it is read too
pub read_at_last : (old new table : List (List ℕ)) (labels : List Name) (bytes rest : List ℕ) → IsBytes rest → IsHead bytes table rest → UsesLabels (length table) rest → AreNumbered old new table labels → whole_at labels rest ≡ None → ⊥
read_at_last old new table labels bytes rest fits head used numbered e = none_some _ (sym e ∙ read_again table rest fits used labels numbered.many head.few)
  where
    none_some : (p : Process) → None ≡ Some p → ⊥
    none_some p k = cc

own_texts : (table : List (List ℕ)) (k : ℕ) → k < length table → text_of table (label_in (own_labels (length table)) k).0 ≡ get_or table k []
own_texts table k h = ap (text_of table) (own_number (length table) k h) ∙ unwrap_or-slice_get table k []

pub gained : (old new table : List (List ℕ)) (bytes rest : List ℕ) (count : ℕ) → IsBytes rest → IsHead bytes table rest → UsesLabels (length table) rest → new ≡ with_names old (take count table) → GainsFirst bytes old new
unfolding object_of
gained old new table bytes rest count fits head used e =
    let own : List Name = own_labels (length table) in
    let up : TextsRise [] table = rising [] table head.labels in
    let texts = own_texts table in
    let read = is_read table table own up (own_many (length table)) texts rest fits used.process used.is in
    record {
      others = table;
      process = used.process;
      object = object_of table table own up (own_many (length table)) texts bytes rest used.process head read (used_again table rest fits used table own (own_many (length table)) head.few texts used.process used.is);
      count = count;
      gained = e;
    }

-- ---- no object

pub heads_once : (bytes : List ℕ) (t u : List (List ℕ)) (r s : List ℕ) → IsHead bytes t r → IsHead bytes u s → (t ≡ u) × (r ≡ s)
heads_once bytes t u r s f g =
    let n = count_once (length t) (length u) (flat_map text_bytes t ++ r) (flat_map text_bytes u ++ s) f.few g.few (ap (drop 5) (sym f.is ∙ g.is)) in
    tables_once t u r s n.0 f.short g.short n.1

pub head_of : (names : List (List ℕ)) (bytes : List ℕ) (p : Process) (f : IsObject names bytes p) → IsHead bytes f.table (process_bytes (place_in names f.table) p)
head_of names bytes p f = record {
  labels = label_texts [] f.table f.labels.rise (λ text h. found IsLabelText names text (labels_of p) f.core.identifiers ((f.labels.exactly text).0 h));
  few = f.fits.few;
  short = f.fits.short;
  is = f.is;
}

-- texts of a table that rises have places that go up
pub places_up : (table : List (List ℕ)) → TextsRise [] table → (a b : List ℕ) → IsIn a table → IsIn b table → Before a b → number_of table a < number_of table b
places_up table up a b h k less = elim (cases_lt (number_of table a) (number_of table b)) [
  | inl lower ↦ lower
  | inr upper ↦ absurd (elim (cases_lt (number_of table b) (number_of table a)) [
    | inl lower ↦ not_itself a (trans a b a less (subst (λ x. Before b x) (text_at_number table a h) (subst (λ x. Before x (get_or table (number_of table a) [])) (text_at_number table b k)
        (texts_before [] table up (number_of table b) (number_of table a) lower (number_below table a h)))))
    | inr same ↦ let e : number_of table a ≡ number_of table b = omega (arith, upper, same) in
        not_itself a (subst (λ x. Before a x) (sym (text_at_number table b k) ∙ ap (λ z. get_or table z []) (sym e) ∙ text_at_number table a h) less)
  ])
]

uses_of : (names : List (List ℕ)) (bytes : List ℕ) (p : Process) (f : IsObject names bytes p) → UsesLabels (length f.table) (process_bytes (place_in names f.table) p)
uses_of names bytes p f =
    let own : List Name = own_labels (length f.table) in
    let many = own_many (length f.table) in
    let d : Dress = relabelled own (place_in names f.table) in
    record {
      process = dressed d p;
      is = whole_again own (place_in names f.table) (λ label. IsIn (text_of names label) f.table) (ComesBefore names)
          (record {
            few = omega (arith, many, f.fits.few);
            low = λ l h. omega (arith, many, number_below f.table (text_of names l) h);
            rise = λ l m h k b. places_up f.table f.labels.rise (text_of names l) (text_of names m) h k b;
          })
          p f.core.closed f.core.shallow f.core.nests f.fits.labels f.core.rising;
      all = λ k h.
          let text : List ℕ = get_or f.table k [] in
          ap (list_any (nat_eq k)) (dressed_labels d p)
          ∙ any_mapped d.label (λ label. bytes_eq text (text_of names label)) (nat_eq k)
          (λ x e.
          let place : place_in names f.table x ≡ k = ap (number_of f.table) (sym ((bytes_eq-Decides text (text_of names x)).0 e)) ∙ number_at_place f.table f.labels.rise k h in
          eq-eqb k (d.label x) (sym (ap (λ z. (label_in own z).0) place ∙ own_number (length f.table) k h)))
          (labels_of p) ((f.labels.exactly text).0 (in_at f.table k h));
    }

pub headless : (bytes : List ℕ) → ((table : List (List ℕ)) (rest : List ℕ) → IsHead bytes table rest → ⊥) → IsNoObject bytes
headless bytes none names p f = none f.table (process_bytes (place_in names f.table) p) (head_of names bytes p f)

pub useless : (bytes : List ℕ) (table : List (List ℕ)) (rest : List ℕ) → IsHead bytes table rest → (UsesLabels (length table) rest → ⊥) → IsNoObject bytes
useless bytes table rest head none names p f =
    let once = heads_once bytes f.table table (process_bytes (place_in names f.table) p) rest (head_of names bytes p f) head in
    none (subst (λ z. UsesLabels (length table) z) once.1 (subst (λ t. UsesLabels (length t) (process_bytes (place_in names f.table) p)) once.0 (uses_of names bytes p f)))
