-- Reading the fields of a record.
use Rattle.std.proofs.Common.{◌⊎◌, inl, inr, ◌≡◌, ◌≢◌, ℕ, ◌+◌, ◌≤◌, List, [], ◌∷◌, ◌++◌, nat_cmp, refl, sym, ◌∙◌, ap, subst, arith}
use Rattle.std.specs.Cmp.Lexicographic.{slice_cmp}
use Rattle.std.specs.declared.cmp.Ordering.TheVariants.{Less}
use Rattle.pict_syntax.specs.Names.{text_of}
use Rattle.pict_syntax.specs.declared.name.Name.{Name}
use Rattle.pict_core.specs.Term.{Val, Vals, Labelled, Record, no_vals, more_vals, no_labelled, more_labelled}
use Rattle.pict_core.specs.Plain.{vals_of, labelled_of}
use Rattle.pict_show.specs.Values.{value_text}
use Rattle.pict_show.specs.Pending.{fields_text}
use Rattle.pict_trace.specs.Readable.{IsIdentifier, IsOrderly, AreOrderly, LabelsAfter, labels_of, nesting, nesting_all, nesting_labelled}
use Rattle.pict_trace.specs.Reading.{Ends, Reads, ReadsFields, ReadsLabelled, BeginsNoValue, BeginsNoFields, BeginsNoLabel, BeginsNoLabelAfter, BeginsNoLabelled, spaced_labels}
use Rattle.pict_trace.proofs.Unique.{spaced, ends_spaced, ends_labels, closes_labels, Closes, opened, tail, never_same, lead, lead_of, lead_value, value_ends, record_ends, no_label, label_unique}
use Rattle.pict_trace.proofs.Kept.{Extends, text_kept, kept_vals, kept_labels, kept_spaced, kept_spaced_labels}

-- ---- what is left

-- the text is the fields left of a record with labels after one, its end, and `after`
pub record LeftLabelled (others : List (List ℕ)) (depth : ℕ) (before rest after : List ℕ) : Type 0 where
  pub labels : Labelled
  pub orderly : LabelsAfter others before labels
  pub low : nesting_labelled labels ≤ depth
  pub whole : rest ≡ spaced_labels others labels (93 ∷ after)

-- the same, with positional fields before them
pub record Left (others : List (List ℕ)) (depth : ℕ) (rest after : List ℕ) : Type 0 where
  pub values : Vals
  pub orderly : AreOrderly others values
  pub low : nesting_all values ≤ depth
  pub middle : List ℕ
  pub whole : rest ≡ spaced others values middle
  pub labels : LeftLabelled others depth [] middle after

closes : (others : List (List ℕ)) (depth : ℕ) (before rest after : List ℕ) → LeftLabelled others depth before rest after → Closes rest
closes others depth before rest after x = subst Closes (sym x.whole) (closes_labels others before x.labels after x.orderly)

no_four : (v : Val) → lead_of v ≢ 4
no_four v e = grind arith

labelled_head : (others : List (List ℕ)) (depth : ℕ) (before r after : List ℕ) → LeftLabelled others depth before r after → (r ≡ 93 ∷ after) ⊎ ((more : List ℕ) × (r ≡ 32 ∷ more))
labelled_head others depth before r after x = by x.labels x.whole
  where
    by : (ls : Labelled) → r ≡ spaced_labels others ls (93 ∷ after) → (r ≡ 93 ∷ after) ⊎ ((more : List ℕ) × (r ≡ 32 ∷ more))
    by no_labelled f = inl f
    by (more_labelled l v ls) f = inr (text_of others l ++ (61 ∷ (value_text others v ++ spaced_labels others ls (93 ∷ after))), f)

left_head : (others : List (List ℕ)) (depth : ℕ) (r after : List ℕ) → Left others depth r after → (r ≡ 93 ∷ after) ⊎ ((more : List ℕ) × (r ≡ 32 ∷ more))
left_head others depth r after x = by x.values x.whole
  where
    by : (vs : Vals) → r ≡ spaced others vs x.middle → (r ≡ 93 ∷ after) ⊎ ((more : List ℕ) × (r ≡ 32 ∷ more))
    by no_vals f = labelled_head others depth [] r after (subst (λ m. LeftLabelled others depth [] m after) (sym f) x.labels)
    by (more_vals v vs) f = inr (value_text others v ++ spaced others vs x.middle, f)

-- without a label at the front no labelled field is left
no_labels_left : (others : List (List ℕ)) (depth : ℕ) (before rest after : List ℕ) → BeginsNoLabel rest → ¬ LeftLabelled others depth before (32 ∷ rest) after
no_labels_left others depth before rest after none x = by x.labels x.orderly x.whole
  where
    by : (ls : Labelled) → LabelsAfter others before ls → 32 ∷ rest ≡ spaced_labels others ls (93 ∷ after) → ⊥
    by no_labelled h f = never_same _ _ (sym f)
    by (more_labelled l v ls) h f = none (text_of others l) (value_text others v ++ spaced_labels others ls (93 ∷ after)) h.0 (ap tail f)

-- with one no positional field is left
labels_left : (others : List (List ℕ)) (depth : ℕ) (rest after word more : List ℕ) → IsIdentifier word → rest ≡ word ++ (61 ∷ more) → Left others depth (32 ∷ rest) after → LeftLabelled others depth [] (32 ∷ rest) after
labels_left others depth rest after word more is e x = by x.values x.orderly x.whole
  where
    by : (vs : Vals) → AreOrderly others vs → 32 ∷ rest ≡ spaced others vs x.middle → LeftLabelled others depth [] (32 ∷ rest) after
    by no_vals h f = subst (λ m. LeftLabelled others depth [] m after) (sym f) x.labels
    by (more_vals v vs) h f = absurd (no_label others v word (spaced others vs x.middle) more h.0 is.0 (ends_spaced others vs x.middle (closes others depth [] x.middle after x.labels)) (sym (ap tail f) ∙ e))

fields_left : (others : List (List ℕ)) (depth : ℕ) (text : List ℕ) (vs : Vals) (ls : Labelled) (after : List ℕ) → ReadsFields others depth text vs ls after → (text ≡ 93 ∷ after) ⊎ Left others depth (32 ∷ text) after
fields_left others depth text vs ls after x =
    let low = x.low in
    elim (opened others vs ls after x.orderly.0 x.orderly.1) [
      | inl o ↦ inl (ap tail x.whole ∙ o.0)
      | inr o ↦ inr (record {
        values = vs;
        orderly = x.orderly.0;
        low = omega (arith, low);
        middle = spaced_labels others ls (93 ∷ after);
        whole = ap (λ t. 32 ∷ t) (ap tail x.whole) ∙ o.0;
        labels = record { labels = ls; orderly = x.orderly.1; low = omega (arith, low); whole = refl };
      })
    ]

-- ---- positional fields

-- whoever reads the whole record reads the rest of it from here
abbrev pub Must : ℕ → List ℕ → List ℕ → Type 0
Must depth text rest = (others : List (List ℕ)) (vs : Vals) (ls : Labelled) (after : List ℕ) → ReadsFields others depth text vs ls after → Left others depth rest after

pub record Midway (names : List (List ℕ)) (depth : ℕ) (text : List ℕ) (vs : List Val) (rest : List ℕ) : Type 0 where
  pub orderly : AreOrderly names (vals_of vs)
  pub low : nesting_all (vals_of vs) ≤ depth
  pub sofar : 32 ∷ text ≡ spaced names (vals_of vs) (32 ∷ rest)
  pub must : Must depth text (32 ∷ rest)

spaced_more : (names : List (List ℕ)) (vs : List Val) (v : Val) (r : List ℕ) → spaced names (vals_of (vs ++ v ∷ [])) r ≡ spaced names (vals_of vs) (32 ∷ (value_text names v ++ r))
spaced_more names [] v r = refl
spaced_more names (w ∷ ws) v r = ap (λ t. 32 ∷ (value_text names w ++ t)) (spaced_more names ws v r)

orderly_more : (names : List (List ℕ)) (vs : List Val) (v : Val) → AreOrderly names (vals_of vs) → IsOrderly names v → AreOrderly names (vals_of (vs ++ v ∷ []))
orderly_more names [] v h k = (k, tt)
orderly_more names (w ∷ ws) v h k = (h.0, orderly_more names ws v h.1 k)

low_more : (depth : ℕ) (vs : List Val) (v : Val) → nesting_all (vals_of vs) ≤ depth → nesting v ≤ depth → nesting_all (vals_of (vs ++ v ∷ [])) ≤ depth
low_more depth [] v h k = omega arith
low_more depth (w ∷ ws) v h k = let r = low_more depth ws v (omega (arith, h)) k in omega (arith, h, r)

must_step : (others names : List (List ℕ)) (depth : ℕ) (rest after r : List ℕ) (v : Val) → Left others depth (32 ∷ rest) after → Reads names depth rest v r → BeginsNoLabel rest → Left others depth r after
must_step others names depth rest after r v x read none = by x.values x.orderly x.low x.whole
  where
    by : (vs : Vals) → AreOrderly others vs → nesting_all vs ≤ depth → 32 ∷ rest ≡ spaced others vs x.middle → Left others depth r after
    by no_vals h n f = absurd (no_labels_left others depth [] rest after none (subst (λ m. LeftLabelled others depth [] m after) (sym f) x.labels))
    by (more_vals w ws) h n f = record {
      values = ws;
      orderly = h.1;
      low = omega (arith, n);
      middle = x.middle;
      labels = x.labels;
      whole = value_ends names others v w r (spaced others ws x.middle) read.orderly h.0 read.ends (ends_spaced others ws x.middle (closes others depth [] x.middle after x.labels)) (sym read.whole ∙ ap tail f);
    }

none_left : (others : List (List ℕ)) (depth : ℕ) (rest after : List ℕ) → Left others depth (32 ∷ rest) after → BeginsNoValue depth rest → BeginsNoLabel rest → ⊥
none_left others depth rest after x no_value none = by x.values x.orderly x.low x.whole
  where
    by : (vs : Vals) → AreOrderly others vs → nesting_all vs ≤ depth → 32 ∷ rest ≡ spaced others vs x.middle → ⊥
    by no_vals h n f = no_labels_left others depth [] rest after none (subst (λ m. LeftLabelled others depth [] m after) (sym f) x.labels)
    by (more_vals w ws) h n f = no_value others w (spaced others ws x.middle)
        (record { orderly = h.0; low = omega (arith, n); ends = ends_spaced others ws x.middle (closes others depth [] x.middle after x.labels); whole = ap tail f })

pub begun : (names : List (List ℕ)) (depth : ℕ) (text : List ℕ) → ((a : List ℕ) → text ≢ 93 ∷ a) → Midway names depth text [] text
begun names depth text h = record {
  orderly = tt;
  low = omega arith;
  sofar = refl;
  must = λ others vs ls after x. elim (fields_left others depth text vs ls after x) [ inl y ↦ absurd (h after y) | inr y ↦ y ];
}

pub empty_fields : (names : List (List ℕ)) (depth : ℕ) (text rest : List ℕ) → text ≡ 93 ∷ rest → ReadsFields names depth text no_vals no_labelled rest
empty_fields names depth text rest e = record { orderly = (tt, tt); low = omega arith; whole = ap (λ t. 91 ∷ t) e }

pub field_bad : (names : List (List ℕ)) (depth : ℕ) (text : List ℕ) (vs : List Val) (rest : List ℕ) → Midway names depth text vs rest → BeginsNoLabel rest → BeginsNoValue depth rest → BeginsNoFields depth text
field_bad names depth text vs rest m none no_value others ws ls after x = none_left others depth rest after (m.must others ws ls after x) no_value none

-- what is behind a field is neither `]` nor a space
pub behind_bad : (names new : List (List ℕ)) (depth : ℕ) (text : List ℕ) (vs : List Val) (rest r : List ℕ) (v : Val) → Midway names depth text vs rest → BeginsNoLabel rest → Reads new depth rest v r
    → ((a : List ℕ) → r ≢ 93 ∷ a) → ((a : List ℕ) → r ≢ 32 ∷ a) → BeginsNoFields depth text
behind_bad names new depth text vs rest r v m none read no_end no_space others ws ls after x =
    let left = must_step others new depth rest after r v (m.must others ws ls after x) read none in
    elim (left_head others depth r after left) [ inl e ↦ no_end after e | inr e ↦ no_space e.0 e.1 ]

kept_midway : (names new : List (List ℕ)) (depth : ℕ) (text : List ℕ) (vs : List Val) (rest : List ℕ) → Midway names depth text vs rest → Extends names new
    → AreOrderly new (vals_of vs) × (32 ∷ text ≡ spaced new (vals_of vs) (32 ∷ rest))
kept_midway names new depth text vs rest m (more, grown) = (
  subst (λ n. AreOrderly n (vals_of vs)) (sym grown) (kept_vals names more (vals_of vs) m.orderly).1,
  m.sofar ∙ sym (ap (λ n. spaced n (vals_of vs) (32 ∷ rest)) grown ∙ kept_spaced names more (vals_of vs) (32 ∷ rest) m.orderly),
)

-- one field more
pub stepped : (names new : List (List ℕ)) (depth : ℕ) (text : List ℕ) (vs : List Val) (rest r rest' : List ℕ) (v : Val) → Midway names depth text vs rest → Extends names new → BeginsNoLabel rest → Reads new depth rest v r
    → r ≡ 32 ∷ rest' → Midway new depth text (vs ++ v ∷ []) rest'
stepped names new depth text vs rest r rest' v m grown none read e =
    let kept = kept_midway names new depth text vs rest m grown in
    record {
      orderly = orderly_more new vs v kept.0 read.orderly;
      low = low_more depth vs v m.low read.low;
      sofar = kept.1 ∙ ap (λ t. spaced new (vals_of vs) (32 ∷ t)) (read.whole ∙ ap (λ t. value_text new v ++ t) e) ∙ sym (spaced_more new vs v (32 ∷ rest'));
      must = λ others ws ls after x. subst (λ t. Left others depth t after) e (must_step others new depth rest after r v (m.must others ws ls after x) read none);
    }

-- all the fields of a record, as they stand in brackets
all_fields : (names : List (List ℕ)) (vs : Vals) (ls : Labelled) (text after : List ℕ) → AreOrderly names vs → LabelsAfter names [] ls → 32 ∷ text ≡ spaced names vs (spaced_labels names ls (93 ∷ after))
    → text ≡ fields_text names vs ls ++ after
all_fields names vs ls text after h k all = elim (opened names vs ls after h k) [
  | inl o ↦ absurd (never_same after text (sym (all ∙ ap (λ l. spaced names l (spaced_labels names ls (93 ∷ after))) o.1 ∙ ap (λ l. spaced_labels names l (93 ∷ after)) o.2)))
  | inr o ↦ ap tail (all ∙ sym o.0)
]

-- the end of a record behind a positional field
pub closed : (names new : List (List ℕ)) (depth : ℕ) (text : List ℕ) (vs : List Val) (rest r rest' : List ℕ) (v : Val) → Midway names depth text vs rest → Extends names new → Reads new depth rest v r
    → r ≡ 93 ∷ rest' → ReadsFields new depth text (vals_of (vs ++ v ∷ [])) no_labelled rest'
closed names new depth text vs rest r rest' v m grown read e =
    let kept = kept_midway names new depth text vs rest m grown in
    let orderly = orderly_more new vs v kept.0 read.orderly in
    let low = low_more depth vs v m.low read.low in
    record {
      orderly = (orderly, tt);
      low = omega (arith, low);
      whole = ap (λ t. 91 ∷ t) (all_fields new (vals_of (vs ++ v ∷ [])) no_labelled text rest' orderly tt
          (kept.1 ∙ ap (λ t. spaced new (vals_of vs) (32 ∷ t)) (read.whole ∙ ap (λ t. value_text new v ++ t) e) ∙ sym (spaced_more new vs v (93 ∷ rest'))));
    }

-- the end of a record behind a field with a label
pub closed_labelled : (names new : List (List ℕ)) (depth : ℕ) (text : List ℕ) (vs : List Val) (rest end : List ℕ) (ls : Labelled) → Midway names depth text vs rest → Extends names new → ReadsLabelled new depth [] rest ls end
    → ReadsFields new depth text (vals_of vs) ls end
closed_labelled names new depth text vs rest end ls m grown read =
    let kept = kept_midway names new depth text vs rest m grown in
    let low = m.low in
    let low_labels = read.low in
    record {
      orderly = (kept.0, read.orderly);
      low = omega (arith, low, low_labels);
      whole = ap (λ t. 91 ∷ t) (all_fields new (vals_of vs) ls text end kept.0 read.orderly (kept.1 ∙ ap (spaced new (vals_of vs)) read.whole));
    }

-- the fields with labels are refused
pub labelled_bad : (names : List (List ℕ)) (depth : ℕ) (text : List ℕ) (vs : List Val) (rest word more : List ℕ) → Midway names depth text vs rest → IsIdentifier word → rest ≡ word ++ (61 ∷ more)
    → BeginsNoLabelled depth rest → BeginsNoFields depth text
labelled_bad names depth text vs rest word more m is e bad others ws ls after x =
    let left = labels_left others depth rest after word more is e (m.must others ws ls after x) in
    bad others left.labels after (record { orderly = left.orderly; low = left.low; whole = left.whole })

-- ---- records

pub fields_value : (names : List (List ℕ)) (depth : ℕ) (text : List ℕ) (vs : Vals) (ls : Labelled) (v : Val) (rest r : List ℕ) → ReadsFields names depth text vs ls rest → Ends rest → v ≡ Record vs ls → r ≡ rest
    → Reads names (depth + 1) (91 ∷ text) v r
fields_value names depth text vs ls v rest r x ends e f =
    subst (λ w. Reads names (depth + 1) (91 ∷ text) w r) (sym e) (subst (λ t. Reads names (depth + 1) (91 ∷ text) (Record vs ls) t) (sym f)
    (record { orderly = x.orderly; low = x.low; ends = ends; whole = x.whole }))

-- a value behind a bracket is a record
record_only : (depth : ℕ) (text : List ℕ) → ((others : List (List ℕ)) (vs : Vals) (ls : Labelled) (after : List ℕ) → Ends after → ¬ ReadsFields others depth text vs ls after) → BeginsNoValue (depth + 1) (91 ∷ text)
record_only depth text none others w after x = by w x.orderly x.low x.whole (ap lead x.whole ∙ lead_value others w after x.orderly)
  where
    by : (w : Val) → IsOrderly others w → nesting w ≤ depth + 1 → 91 ∷ text ≡ value_text others w ++ after → 1 ≡ lead_of w → ⊥
    by (Record vs ls) h n e f = none others vs ls after x.ends (record { orderly = h; low = n; whole = e })
    by w h n e f = omega (arith, f)

pub no_fields : (depth : ℕ) (text : List ℕ) → BeginsNoFields depth text → BeginsNoValue (depth + 1) (91 ∷ text)
no_fields depth text none = record_only depth text (λ others vs ls after ends. none others vs ls after)

-- no value may end behind the record
pub end_bad : (names : List (List ℕ)) (depth : ℕ) (text : List ℕ) (vs : Vals) (ls : Labelled) (rest : List ℕ) → ReadsFields names depth text vs ls rest → ¬ Ends rest → BeginsNoValue (depth + 1) (91 ∷ text)
end_bad names depth text vs ls rest read bad = record_only depth text (λ others ws ms after ends x. bad (subst Ends (record_ends others names ws vs ms ls after rest x.orderly read.orderly (sym x.whole ∙ read.whole)) ends))

pub too_deep : (text : List ℕ) → BeginsNoValue 0 (91 ∷ text)
too_deep text others w after x = by w x.low (ap lead x.whole ∙ lead_value others w after x.orderly)
  where
    by : (w : Val) → nesting w ≤ 0 → 1 ≡ lead_of w → ⊥
    by (Record vs ls) n f = omega (arith, n)
    by w n f = omega (arith, f)

pub shallow : (names : List (List ℕ)) (depth : ℕ) (text : List ℕ) (v : Val) (rest : List ℕ) → Reads names 0 text v rest → Reads names depth text v rest
shallow names depth text v rest x = let low = x.low in record { orderly = x.orderly; low = omega (arith, low); ends = x.ends; whole = x.whole }

-- without a bracket at the front no record is read
pub no_record : (depth : ℕ) (text : List ℕ) → ((a : List ℕ) → text ≢ 91 ∷ a) → BeginsNoValue 0 text → BeginsNoValue depth text
no_record depth text h none others w after x = by w x.orderly x.whole
  where
    by : (w : Val) → IsOrderly others w → text ≡ value_text others w ++ after → ⊥
    by (Record vs ls) o e = h (fields_text others vs ls ++ after) e
    by w o e = none others w after (record { orderly = o; low = omega arith; ends = x.ends; whole = e })

-- a value without a record has no labels
pub flat_labels : (names : List (List ℕ)) (v : Val) → nesting v ≤ 0 → labels_of names v ≡ []
flat_labels names (Record vs ls) n = absurd (omega (arith, n))
flat_labels names v n = refl

-- ---- fields with labels

-- the last label, or what stands before the first
abbrev pub last_label : List (List ℕ) → List ℕ → Labelled → List ℕ
last_label names before no_labelled = before
last_label names before (more_labelled l v ls) = last_label names (text_of names l) ls

pub record MidLabelled (names : List (List ℕ)) (depth : ℕ) (text : List ℕ) (fs : List (Name × Val)) (before rest : List ℕ) : Type 0 where
  pub orderly : LabelsAfter names [] (labelled_of fs)
  pub last : before ≡ last_label names [] (labelled_of fs)
  pub low : nesting_labelled (labelled_of fs) ≤ depth
  pub sofar : 32 ∷ text ≡ spaced_labels names (labelled_of fs) (32 ∷ rest)
  pub must : (others : List (List ℕ)) (after : List ℕ) → LeftLabelled others depth [] (32 ∷ text) after → LeftLabelled others depth before (32 ∷ rest) after

-- a label, and the value behind it
pub record IsField (names : List (List ℕ)) (depth : ℕ) (rest word : List ℕ) (name : ℕ) (v : Val) (r : List ℕ) : Type 0 where
  pub more : List ℕ
  pub is : IsIdentifier word
  pub whole : rest ≡ word ++ (61 ∷ more)
  pub text : text_of names name ≡ word
  pub value : Reads names depth more v r

labels_more : (names : List (List ℕ)) (fs : List (Name × Val)) (name : Name) (v : Val) (before : List ℕ) → LabelsAfter names before (labelled_of fs) → IsIdentifier (text_of names name.0)
    → slice_cmp nat_cmp (last_label names before (labelled_of fs)) (text_of names name.0) ≡ Less → IsOrderly names v → LabelsAfter names before (labelled_of (fs ++ (name, v) ∷ []))
labels_more names [] name v before h is less o = (is, less, o, tt)
labels_more names (f ∷ fs) name v before h is less o = (h.0, h.1, h.2, labels_more names fs name v (text_of names f.0.0) h.3 is less o)

last_more : (names : List (List ℕ)) (fs : List (Name × Val)) (name : Name) (v : Val) (before : List ℕ) → last_label names before (labelled_of (fs ++ (name, v) ∷ [])) ≡ text_of names name.0
last_more names [] name v before = refl
last_more names (f ∷ fs) name v before = last_more names fs name v (text_of names f.0.0)

low_labels_more : (depth : ℕ) (fs : List (Name × Val)) (name : Name) (v : Val) → nesting_labelled (labelled_of fs) ≤ depth → nesting v ≤ depth → nesting_labelled (labelled_of (fs ++ (name, v) ∷ [])) ≤ depth
low_labels_more depth [] name v h k = omega arith
low_labels_more depth (f ∷ fs) name v h k = let r = low_labels_more depth fs name v (omega (arith, h)) k in omega (arith, h, r)

spaced_labels_more : (names : List (List ℕ)) (fs : List (Name × Val)) (name : Name) (v : Val) (r : List ℕ)
    → spaced_labels names (labelled_of (fs ++ (name, v) ∷ [])) r ≡ spaced_labels names (labelled_of fs) (32 ∷ (text_of names name.0 ++ (61 ∷ (value_text names v ++ r))))
spaced_labels_more names [] name v r = refl
spaced_labels_more names (f ∷ fs) name v r = ap (λ t. 32 ∷ (text_of names f.0.0 ++ (61 ∷ (value_text names f.1 ++ t)))) (spaced_labels_more names fs name v r)

kept_last : (old more : List (List ℕ)) (before : List ℕ) (ls : Labelled) → LabelsAfter old before ls → last_label (old ++ more) before ls ≡ last_label old before ls
kept_last old more before no_labelled h = refl
kept_last old more before (more_labelled l v ls) h = ap (λ t. last_label (old ++ more) t ls) (text_kept old more l h.0.0) ∙ kept_last old more (text_of old l) ls h.3

pub record KeptLabelled (new : List (List ℕ)) (text : List ℕ) (fs : List (Name × Val)) (before rest : List ℕ) : Type 0 where
  pub orderly : LabelsAfter new [] (labelled_of fs)
  pub last : before ≡ last_label new [] (labelled_of fs)
  pub sofar : 32 ∷ text ≡ spaced_labels new (labelled_of fs) (32 ∷ rest)

kept_labelled : (names new : List (List ℕ)) (depth : ℕ) (text : List ℕ) (fs : List (Name × Val)) (before rest : List ℕ) → MidLabelled names depth text fs before rest → Extends names new → KeptLabelled new text fs before rest
kept_labelled names new depth text fs before rest m (more, grown) = subst (λ n. KeptLabelled n text fs before rest) (sym grown) (record {
  orderly = (kept_labels names more [] (labelled_of fs) m.orderly).1;
  last = m.last ∙ sym (kept_last names more [] (labelled_of fs) m.orderly);
  sofar = m.sofar ∙ sym (kept_spaced_labels names more [] (labelled_of fs) (32 ∷ rest) m.orderly);
})

-- the field that is left first is the one at the front
first_left : (others : List (List ℕ)) (depth : ℕ) (before rest after word more : List ℕ) (P : Type 0) → LeftLabelled others depth before (32 ∷ rest) after → IsIdentifier word → rest ≡ word ++ (61 ∷ more)
    → ((v : Val) (ls : Labelled) → slice_cmp nat_cmp before word ≡ Less → IsOrderly others v → nesting v ≤ depth → LabelsAfter others word ls → nesting_labelled ls ≤ depth → more ≡ value_text others v ++ spaced_labels others ls (93 ∷ after) → P) → P
first_left others depth before rest after word more P x is e go = by x.labels x.orderly x.low x.whole
  where
    by : (ls : Labelled) → LabelsAfter others before ls → nesting_labelled ls ≤ depth → 32 ∷ rest ≡ spaced_labels others ls (93 ∷ after) → P
    by no_labelled h n f = absurd (never_same _ _ (sym f))
    by (more_labelled l v ls) h n f =
        let same = label_unique word (text_of others l) more (value_text others v ++ spaced_labels others ls (93 ∷ after)) is.0 h.0.0 (sym e ∙ ap tail f) in
        go v ls (subst (λ w. slice_cmp nat_cmp before w ≡ Less) (sym same.0) h.1) h.2 (omega (arith, n)) (subst (λ w. LabelsAfter others w ls) (sym same.0) h.3) (omega (arith, n)) same.1

labelled_step : (others names : List (List ℕ)) (depth : ℕ) (before rest after word : List ℕ) (name : ℕ) (v : Val) (r : List ℕ) → LeftLabelled others depth before (32 ∷ rest) after → IsField names depth rest word name v r
    → LeftLabelled others depth word r after
labelled_step others names depth before rest after word name v r x field =
    first_left others depth before rest after word field.more (LeftLabelled others depth word r after) x field.is field.whole (λ w ls less o n k m e. record {
      labels = ls;
      orderly = k;
      low = m;
      whole = value_ends names others v w r (spaced_labels others ls (93 ∷ after)) field.value.orderly o field.value.ends (ends_labels others ls after) (sym field.value.whole ∙ e);
    })

left_of : (others : List (List ℕ)) (depth : ℕ) (text : List ℕ) (ls : Labelled) (after : List ℕ) → ReadsLabelled others depth [] text ls after → LeftLabelled others depth [] (32 ∷ text) after
left_of others depth text ls after x = record { labels = ls; orderly = x.orderly; low = x.low; whole = x.whole }

-- the causes of refusals: no label that comes after the one before, no value, and something else behind the value
pub label_bad : (names : List (List ℕ)) (depth : ℕ) (text : List ℕ) (fs : List (Name × Val)) (before rest : List ℕ) → MidLabelled names depth text fs before rest → BeginsNoLabelAfter before rest → BeginsNoLabelled depth text
label_bad names depth text fs before rest m none others ls after x = by left.labels left.orderly left.whole
  where
    left : LeftLabelled others depth before (32 ∷ rest) after
    left = m.must others after (left_of others depth text ls after x)

    by : (ks : Labelled) → LabelsAfter others before ks → 32 ∷ rest ≡ spaced_labels others ks (93 ∷ after) → ⊥
    by no_labelled h f = never_same _ _ (sym f)
    by (more_labelled l v ks) h f = none (text_of others l) (value_text others v ++ spaced_labels others ks (93 ∷ after)) h.0 h.1 (ap tail f)

pub value_bad : (names : List (List ℕ)) (depth : ℕ) (text : List ℕ) (fs : List (Name × Val)) (before rest word more : List ℕ) → MidLabelled names depth text fs before rest → IsIdentifier word → rest ≡ word ++ (61 ∷ more)
    → BeginsNoValue depth more → BeginsNoLabelled depth text
value_bad names depth text fs before rest word more m is e none others ls after x =
    first_left others depth before rest after word more ⊥ (m.must others after (left_of others depth text ls after x)) is e
    (λ w ks less o n k l f. none others w (spaced_labels others ks (93 ∷ after)) (record { orderly = o; low = n; ends = ends_labels others ks after; whole = f }))

pub after_bad : (names new : List (List ℕ)) (depth : ℕ) (text : List ℕ) (fs : List (Name × Val)) (before rest word : List ℕ) (name : ℕ) (v : Val) (r : List ℕ) → MidLabelled names depth text fs before rest
    → IsField new depth rest word name v r → ((a : List ℕ) → r ≢ 93 ∷ a) → ((a : List ℕ) → r ≢ 32 ∷ a) → BeginsNoLabelled depth text
after_bad names new depth text fs before rest word name v r m field no_end no_space others ls after x =
    let left = labelled_step others new depth before rest after word name v r (m.must others after (left_of others depth text ls after x)) field in
    elim (labelled_head others depth word r after left) [ inl e ↦ no_end after e | inr e ↦ no_space e.0 e.1 ]

labelled_more : (new : List (List ℕ)) (depth : ℕ) (text : List ℕ) (fs : List (Name × Val)) (before rest word : List ℕ) (name : Name) (v : Val) (r : List ℕ) → KeptLabelled new text fs before rest → IsField new depth rest word name.0 v r
    → slice_cmp nat_cmp before word ≡ Less → LabelsAfter new [] (labelled_of (fs ++ (name, v) ∷ []))
labelled_more new depth text fs before rest word name v r kept field less =
    labels_more new fs name v [] kept.orderly (subst IsIdentifier (sym field.text) field.is) (ap (λ b. slice_cmp nat_cmp b (text_of new name.0)) (sym kept.last) ∙ ap (slice_cmp nat_cmp before) field.text ∙ less) field.value.orderly

sofar_more : (new : List (List ℕ)) (depth : ℕ) (text : List ℕ) (fs : List (Name × Val)) (before rest word : List ℕ) (name : Name) (v : Val) (r : List ℕ) → KeptLabelled new text fs before rest → IsField new depth rest word name.0 v r
    → 32 ∷ text ≡ spaced_labels new (labelled_of (fs ++ (name, v) ∷ [])) r
sofar_more new depth text fs before rest word name v r kept field =
    kept.sofar ∙ ap (λ t. spaced_labels new (labelled_of fs) (32 ∷ t)) (field.whole ∙ ap (λ w. w ++ (61 ∷ field.more)) (sym field.text) ∙ ap (λ t. text_of new name.0 ++ (61 ∷ t)) field.value.whole)
    ∙ sym (spaced_labels_more new fs name v r)

pub stepped_labelled : (names new : List (List ℕ)) (depth : ℕ) (text : List ℕ) (fs : List (Name × Val)) (before rest word : List ℕ) (name : Name) (v : Val) (r rest' : List ℕ) → MidLabelled names depth text fs before rest
    → Extends names new → IsField new depth rest word name.0 v r → slice_cmp nat_cmp before word ≡ Less → r ≡ 32 ∷ rest' → MidLabelled new depth text (fs ++ (name, v) ∷ []) word rest'
stepped_labelled names new depth text fs before rest word name v r rest' m grown field less e =
    let kept = kept_labelled names new depth text fs before rest m grown in
    record {
      orderly = labelled_more new depth text fs before rest word name v r kept field less;
      last = sym field.text ∙ sym (last_more new fs name v []);
      low = low_labels_more depth fs name v m.low field.value.low;
      sofar = sofar_more new depth text fs before rest word name v r kept field ∙ ap (spaced_labels new (labelled_of (fs ++ (name, v) ∷ []))) e;
      must = λ others after x. subst (λ t. LeftLabelled others depth word t after) e (labelled_step others new depth before rest after word name.0 v r (m.must others after x) field);
    }

pub ended_labelled : (names new : List (List ℕ)) (depth : ℕ) (text : List ℕ) (fs : List (Name × Val)) (before rest word : List ℕ) (name : Name) (v : Val) (r rest' : List ℕ) → MidLabelled names depth text fs before rest
    → Extends names new → IsField new depth rest word name.0 v r → slice_cmp nat_cmp before word ≡ Less → r ≡ 93 ∷ rest' → ReadsLabelled new depth [] text (labelled_of (fs ++ (name, v) ∷ [])) rest'
ended_labelled names new depth text fs before rest word name v r rest' m grown field less e =
    let kept = kept_labelled names new depth text fs before rest m grown in
    record {
      orderly = labelled_more new depth text fs before rest word name v r kept field less;
      low = low_labels_more depth fs name v m.low field.value.low;
      whole = sofar_more new depth text fs before rest word name v r kept field ∙ ap (spaced_labels new (labelled_of (fs ++ (name, v) ∷ []))) e;
    }
