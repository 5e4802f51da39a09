-- One field with a label, as the reader meets it.
use Rattle.std.proofs.Common.{◌≡◌, ◌≢◌, ℕ, suc, zero, ◌+◌, ◌-◌, ◌<◌, List, [], ◌∷◌, ◌++◌, length, take, drop, get_or, nat_cmp, sym, ◌∙◌, ap, subst, append_assoc, append-nil, arith, unwrap_or}
use Rattle.std.specs.Cmp.Lexicographic.{slice_cmp}
use Rattle.std.specs.declared.cmp.Ordering.TheVariants.{Less}
use Rattle.pict_lex.proofs.RunLemmas.{slice_rest}
use Rattle.pict_syntax.specs.declared.name.Name.{Name}
use Rattle.pict_syntax.specs.Names.{text_of, with_name, with_names}
use Rattle.pict_core.specs.Term.{Val, Labelled, Record}
use Rattle.pict_core.specs.Plain.{vals_of, labelled_of}
use Rattle.pict_trace.specs.Readable.{IsIdentifier, AreOrderly, LabelsAfter, labels_of, labels_of_all, labels_of_labelled}
use Rattle.pict_trace.specs.Reading.{Reads, BeginsNoLabel, BeginsNoLabelAfter, IsLabelAfter}
use Rattle.pict_trace.proofs.Unique.{label_unique}
use Rattle.pict_trace.proofs.Kept.{Extends, text_kept, extends_on}
use Rattle.pict_trace.proofs.Gained.{names_extend, all_kept, labelled_kept}
use Rattle.pict_trace.proofs.Records.{IsField}
use Rattle.pict_lex.proofs.StepLemmas.{with_names_last}

-- the label, its `=` (61), and what is behind it
pub label_front : (rest : List ℕ) (n : ℕ) → n < length rest → get_or rest n 0 ≡ 61 → rest ≡ take n rest ++ (61 ∷ drop (suc n) rest)
label_front [] n h e = absurd (omega (arith, h))
label_front (b ∷ bs) zero h e = ap (λ x. x ∷ bs) e
label_front (b ∷ bs) (suc n) h e = ap (λ t. b ∷ t) (label_front bs n (omega (arith, h)) e)

pub label_and_rest : (rest : List ℕ) (n : ℕ) → n < length rest → get_or rest n 0 ≡ 61 → rest ≡ take n rest ++ (61 ∷ take (length rest - (n + 1)) (drop (n + 1) rest))
label_and_rest rest n h e =
    let one : n + 1 ≡ suc n = omega arith in
    label_front rest n h e ∙ ap (λ t. take n rest ++ (61 ∷ t)) (ap (λ k. drop k rest) (sym one) ∙ sym (slice_rest rest (n + 1)))

-- whoever reads a label that comes after `before` reads this one
pub other_label : (before text word rest : List ℕ) → IsIdentifier word → text ≡ word ++ (61 ∷ rest) → slice_cmp nat_cmp before word ≢ Less → BeginsNoLabelAfter before text
other_label before text word rest is e other w r iw less f =
    let same = label_unique word w rest r is.0 iw.0 (sym e ∙ f) in
    other (ap (slice_cmp nat_cmp before) same.0 ∙ less)

pub no_label_after : (before text : List ℕ) → BeginsNoLabel text → BeginsNoLabelAfter before text
no_label_after before text none word rest is less = none word rest is

-- the label's number keeps its text while names grow
pub field_of : (mid new : List (List ℕ)) (depth : ℕ) (before rest word more : List ℕ) (name : ℕ) (v : Val) (r : List ℕ) → IsLabelAfter mid before rest name word more → Extends mid new
    → Reads new depth more v r → IsField new depth rest word name v r
field_of mid new depth before rest word more name v r label (grown, e) value =
    let text : text_of mid name ≡ word = ap (λ o. unwrap_or o []) label.stands in
    record { more = more; is = label.is; whole = label.whole; text = ap (λ n. text_of n name) e ∙ text_kept mid grown name (subst (λ w. IsIdentifier w) (sym text) label.is).0 ∙ text; value = value }

pub labels_extend : (mid new : List (List ℕ)) (labels : List (List ℕ)) → new ≡ with_names mid labels → Extends mid new
labels_extend mid new labels e = let x = names_extend mid labels in (x.0, e ∙ x.1)

pub label_extends : (names mid : List (List ℕ)) (label : List ℕ) → mid ≡ with_name names label → Extends names mid
label_extends names mid label e = labels_extend names mid (label ∷ []) e

all_more : (names : List (List ℕ)) (vs : List Val) (v : Val) → labels_of_all names (vals_of (vs ++ v ∷ [])) ≡ labels_of_all names (vals_of vs) ++ labels_of names v
all_more names [] v = append-nil (labels_of names v)
all_more names (w ∷ ws) v = ap (λ t. labels_of names w ++ t) (all_more names ws v) ∙ sym (append_assoc (labels_of names w) (labels_of_all names (vals_of ws)) (labels_of names v))

labelled_more_labels : (names : List (List ℕ)) (fs : List (Name × Val)) (name : Name) (v : Val)
    → labels_of_labelled names (labelled_of (fs ++ (name, v) ∷ [])) ≡ labels_of_labelled names (labelled_of fs) ++ (text_of names name.0 ∷ labels_of names v)
labelled_more_labels names [] name v = ap (λ t. text_of names name.0 ∷ t) (append-nil (labels_of names v))
labelled_more_labels names (f ∷ fs) name v =
    ap (λ t. text_of names f.0.0 ∷ (labels_of names f.1 ++ t)) (labelled_more_labels names fs name v)
    ∙ ap (λ t. text_of names f.0.0 ∷ t) (sym (append_assoc (labels_of names f.1) (labels_of_labelled names (labelled_of fs)) (text_of names name.0 ∷ labels_of names v)))

-- the labels of positional fields, with one more
pub values_gained : (old names new : List (List ℕ)) (vs : List Val) (v : Val) → AreOrderly names (vals_of vs) → names ≡ with_names old (labels_of_all names (vals_of vs)) → new ≡ with_names names (labels_of new v)
    → new ≡ with_names old (labels_of_all new (vals_of (vs ++ v ∷ [])))
values_gained old names new vs v o e f =
    let x = labels_extend names new (labels_of new v) f in
    f ∙ ap (λ n. with_names n (labels_of new v)) e ∙ sym (with_names_last old (labels_of_all names (vals_of vs)) (labels_of new v))
    ∙ ap (λ ls. with_names old (ls ++ labels_of new v)) (sym (ap (λ n. labels_of_all n (vals_of vs)) x.1 ∙ all_kept names x.0 (vals_of vs) o))
    ∙ ap (with_names old) (sym (all_more new vs v))

-- the labels of fields with labels, with one more
pub labels_gained : (old names mid new : List (List ℕ)) (fs : List (Name × Val)) (name : Name) (v : Val) (word before : List ℕ) → LabelsAfter names before (labelled_of fs) → names ≡ with_names old (labels_of_labelled names (labelled_of fs))
    → mid ≡ with_name names word → text_of new name.0 ≡ word → new ≡ with_names mid (labels_of new v) → new ≡ with_names old (labels_of_labelled new (labelled_of (fs ++ (name, v) ∷ [])))
labels_gained old names mid new fs name v word before o e f text g =
    let x = extends_on names mid new (label_extends names mid word f) (labels_extend mid new (labels_of new v) g) in
    let more = word ∷ labels_of new v in
    g ∙ ap (λ n. with_names n (labels_of new v)) f ∙ ap (λ n. with_names n more) e ∙ sym (with_names_last old (labels_of_labelled names (labelled_of fs)) more)
    ∙ ap (λ ls. with_names old (ls ++ more)) (sym (ap (λ n. labels_of_labelled n (labelled_of fs)) x.1 ∙ labelled_kept names x.0 before (labelled_of fs) o))
    ∙ ap (λ w. with_names old (labels_of_labelled new (labelled_of fs) ++ (w ∷ labels_of new v))) (sym text)
    ∙ ap (with_names old) (sym (labelled_more_labels new fs name v))

-- a record's labels are those of its positional fields, and then the others
pub record_gained : (old names new : List (List ℕ)) (vs : List Val) (ls : Labelled) → AreOrderly names (vals_of vs) → names ≡ with_names old (labels_of_all names (vals_of vs)) → new ≡ with_names names (labels_of_labelled new ls)
    → new ≡ with_names old (labels_of new (Record (vals_of vs) ls))
record_gained old names new vs ls o e f =
    let x = labels_extend names new (labels_of_labelled new ls) f in
    f ∙ ap (λ n. with_names n (labels_of_labelled new ls)) e ∙ sym (with_names_last old (labels_of_all names (vals_of vs)) (labels_of_labelled new ls))
    ∙ ap (λ ks. with_names old (ks ++ labels_of_labelled new ls)) (sym (ap (λ n. labels_of_all n (vals_of vs)) x.1 ∙ all_kept names x.0 (vals_of vs) o))
