-- Records of a core process nest at most as deep as the tokens of its program.
use Rattle.std.proofs.Common.{◌≡◌, ℕ, zero, suc, ◌+◌, ◌-◌, ◌≤◌, Bool, true, false, List, [], ◌∷◌, ◌++◌, length, drop, get_or, nat_eq, cond, Option, Some, None, subst, arith, option_map, option_and_then, unwrap_or, if◌then◌else◌}
use Rattle.std.specs.List.{AllByRecursion}
use Rattle.std.specs.Ordering.{is_lt}
use Rattle.pict_syntax.specs.Names.{text_of}
use Rattle.pict_syntax.specs.Labels.{label_cmp, with_label, with_labels, in_label_order}
use Rattle.pict_syntax.specs.Trees as tree
use Rattle.pict_syntax.specs.Trees.{RType, bind_pat, any_pat, fields_pat, fold_pat, FieldPats, field_pats, Dec, new_dec, run_dec, let_dec, def_dec, alias_dec, operator_dec, await_dec, Decs, no_decs, more_decs, Definitions, no_definitions, more_definitions, Abs, process_abs, function_abs, Chan, use_chan, fold_chan, block_chan, apply_chan, right_chan, left_chan, of_chan, number_val, character_val, string_val, true_val, false_val, fields_val, if_val, lambda_val, Vals, no_vals, more_vals, FieldVals, field_vals, LabelledVals, no_labelled_vals, more_labelled_vals, Proc, send_proc, receive_proc, serve_proc, if_proc, inert_proc, group_proc, Procs, no_procs, more_procs}
use Rattle.pict_core.specs.Term as core
use Rattle.pict_core.specs.Term.{Val, Var, Chan as ChanVal, Int, Char, Boolean, Text, PrimitiveVal, Record}
use Rattle.pict_core.specs.Closed.{binds}
use Rattle.pict_core.specs.Plain.{vals_of}
use Rattle.pict_scope.specs.PrimitiveNames.{primitive_named}
use Rattle.pict_translation.specs.Placed.{Placed, inert, new_channels, side_by_side, served, variables}
use Rattle.pict_translation.specs.Arguments.{Argument, with_value, sent_as_one, application, right, left_after, left, labelled_of}
use Rattle.pict_translation.specs.Patterns.{Opened, answer, patterns_in, labelled_patterns_in, opened, all_opened, labelled_opened, pat_core, function_pat, pat_names, names_before, names_after}
use Rattle.pict_translation.specs.Simple.{Around, value_at, binding, bound, pat_bound, function_bound, answer_channel, or_primitive, use_of, nothing, record_of_fields, one_more, simple, simple_chan, simple_fields, simple_vals, simple_labelled}
use Rattle.pict_translation.specs.Translation.{definition_names, sending, sending_chan, decs_core, dec_core, proc_core, procs_core, reader, with_fields, arguments, with_vals, with_labelled, servers}
use Rattle.pict_syntax.specs.Nesting.{val_nest, chan_nest, vals_nest, field_vals_nest, labelled_vals_nest, pat_nest, pats_nest, labelled_pats_nest, field_pats_nest, annotation_nest, arguments_nest, binders_nest, abs_nest, dec_nest, decs_nest, definitions_nest, proc_nest, procs_nest}
use Rattle.pict_translation.specs.Within.{Within, AreWithin, LabelledWithin, PatWithin, PatsWithin, LabelledPatsWithin, Nests, TranslationNests}

-- ---- more room

mutual
  within_more : (b c : ℕ) (v : Val) → b ≤ c → Within b v → Within c v
  within_more b c (Var x) le w = tt
  within_more b c (ChanVal x) le w = tt
  within_more b c (Int x) le w = tt
  within_more b c (Char x) le w = tt
  within_more b c (Boolean x) le w = tt
  within_more b c (Text x) le w = tt
  within_more b c (PrimitiveVal x) le w = tt
  within_more zero c (Record vs ls) le w = absurd w
  within_more (suc b) zero (Record vs ls) le w = absurd (omega (arith, le))
  within_more (suc b) (suc c) (Record vs ls) le w = (are_more b c vs (omega (arith, le)) w.0, labelled_more b c ls (omega (arith, le)) w.1)

  are_more : (b c : ℕ) (vs : core.Vals) → b ≤ c → AreWithin b vs → AreWithin c vs
  are_more b c core.no_vals le w = tt
  are_more b c (core.more_vals v vs) le w = (within_more b c v le w.0, are_more b c vs le w.1)

  labelled_more : (b c : ℕ) (vs : core.Labelled) → b ≤ c → LabelledWithin b vs → LabelledWithin c vs
  labelled_more b c core.no_labelled le w = tt
  labelled_more b c (core.more_labelled l v vs) le w = (within_more b c v le w.0, labelled_more b c vs le w.1)

mutual
  pat_more : (b c : ℕ) (p : core.Pat) → b ≤ c → PatWithin b p → PatWithin c p
  pat_more b c core.Bind le w = tt
  pat_more b c core.Any le w = tt
  pat_more zero c (core.RecordPat ps ls) le w = absurd w
  pat_more (suc b) zero (core.RecordPat ps ls) le w = absurd (omega (arith, le))
  pat_more (suc b) (suc c) (core.RecordPat ps ls) le w = (pats_more b c ps (omega (arith, le)) w.0, labelled_pats_more b c ls (omega (arith, le)) w.1)

  pats_more : (b c : ℕ) (ps : core.Pats) → b ≤ c → PatsWithin b ps → PatsWithin c ps
  pats_more b c core.no_pats le w = tt
  pats_more b c (core.more_pats p ps) le w = (pat_more b c p le w.0, pats_more b c ps le w.1)

  labelled_pats_more : (b c : ℕ) (ps : core.LabelledPats) → b ≤ c → LabelledPatsWithin b ps → LabelledPatsWithin c ps
  labelled_pats_more b c core.no_labelled_pats le w = tt
  labelled_pats_more b c (core.more_labelled_pats l p ps) le w = (pat_more b c p le w.0, labelled_pats_more b c ps le w.1)

least : (n : ℕ) → 0 ≤ n
least n = omega arith

flat_within : (b : ℕ) (v : Val) → Within 0 v → Within b v
flat_within b v w = within_more 0 b v (least b) w

-- ---- lists

AllFit : (A : Type 0) → (A → Type 0) → List A → Type 0
AllFit A P xs = AllByRecursion P xs

fit_append : {A : Type 0} (P : A → Type 0) (xs ys : List A) → AllByRecursion P xs → AllByRecursion P ys → AllByRecursion P (xs ++ ys)
fit_append P [] ys h k = k
fit_append P (x ∷ xs) ys h k = (h.0, fit_append P xs ys h.1 k)

fit_front : {A : Type 0} (P : A → Type 0) (xs ys : List A) → AllByRecursion P (xs ++ ys) → AllByRecursion P xs
fit_front P [] ys h = tt
fit_front P (x ∷ xs) ys h = (h.0, fit_front P xs ys h.1)

fit_back : {A : Type 0} (P : A → Type 0) (xs ys : List A) → AllByRecursion P (xs ++ ys) → AllByRecursion P ys
fit_back P [] ys h = h
fit_back P (x ∷ xs) ys h = fit_back P xs ys h.1

by_test : {A : Type 0} (P : A → Type 0) (b : Bool) (xs ys : List A) → AllByRecursion P xs → AllByRecursion P ys → AllByRecursion P (cond b xs ys)
by_test P true xs ys h k = h
by_test P false xs ys h k = k

with_label_fits : {A : Type 0} (P : ℕ × A → Type 0) (names : List (List ℕ)) (l : ℕ) (a : A) (xs : List (ℕ × A)) → P (l, a) → AllByRecursion P xs → AllByRecursion P (with_label names l a xs)
with_label_fits P names l a [] p h = (p, tt)
with_label_fits P names l a (x ∷ xs) p h = by_test P (is_lt (label_cmp names l x.0)) ((l, a) ∷ x ∷ xs) (x ∷ with_label names l a xs) (p, h) (h.0, with_label_fits P names l a xs p h.1)

with_labels_fit : {A : Type 0} (P : ℕ × A → Type 0) (names : List (List ℕ)) (sorted xs : List (ℕ × A)) → AllByRecursion P sorted → AllByRecursion P xs → AllByRecursion P (with_labels names sorted xs)
with_labels_fit P names sorted [] s h = s
with_labels_fit P names sorted (x ∷ xs) s h = with_labels_fit P names (with_label names x.0 x.1 sorted) xs (with_label_fits P names x.0 x.1 sorted h.0 s) h.1

in_order_fits : {A : Type 0} (P : ℕ × A → Type 0) (names : List (List ℕ)) (xs : List (ℕ × A)) → AllByRecursion P xs → AllByRecursion P (in_label_order names xs)
in_order_fits P names xs h = with_labels_fit P names [] xs tt h

-- ---- fields

abbrev FieldWithin : ℕ → ℕ × Val → Type 0
FieldWithin b f = Within b f.1

vals_within : (b : ℕ) (vs : List Val) → AllByRecursion (Within b) vs → AreWithin b (vals_of vs)
vals_within b [] h = tt
vals_within b (v ∷ vs) h = (h.0, vals_within b vs h.1)

labels_within : (b : ℕ) (fs : List (ℕ × Val)) → AllByRecursion (FieldWithin b) fs → LabelledWithin b (labelled_of fs)
labels_within b [] h = tt
labels_within b (f ∷ fs) h = (h.0, labels_within b fs h.1)

record_within : (b : ℕ) (e : Around) (vs : List Val) (fs : List (ℕ × Val)) → AllByRecursion (Within b) vs → AllByRecursion (FieldWithin b) fs → Within (suc b) (record_of_fields e vs fs)
record_within b e vs fs h k = (vals_within b vs h, labels_within b (in_label_order e.names fs) (in_order_fits (FieldWithin b) e.names fs k))

-- ---- what is bound is flat

abbrev Flat : List (ℕ × Val) → Type 0
Flat bs = AllByRecursion (FieldWithin 0) bs

abbrev AllFlat : List Val → Type 0
AllFlat vs = AllByRecursion (Within 0) vs

variables_flat : (n k : ℕ) → AllFlat (variables n k)
variables_flat n zero = tt
variables_flat n (suc k) = (tt, variables_flat (n + 1) k)

binding_flat : (ns : List ℕ) (vs : List Val) (bs : List (ℕ × Val)) → AllFlat vs → Flat bs → Flat (binding ns vs bs)
binding_flat [] vs bs o p = p
binding_flat (x ∷ ns) [] bs o p = p
binding_flat (x ∷ ns) (v ∷ vs) bs o p = binding_flat ns vs ((x, v) ∷ bs) o.1 (o.0, p)

drop_flat : (k : ℕ) (vs : List Val) → AllFlat vs → AllFlat (drop k vs)
drop_flat zero vs o = o
drop_flat (suc k) [] o = tt
drop_flat (suc k) (v ∷ vs) o = drop_flat k vs o.1

get_flat : (k : ℕ) (vs : List Val) → AllFlat vs → Within 0 (get_or vs k nothing)
get_flat k [] o = tt
get_flat zero (v ∷ vs) o = o.0
get_flat (suc k) (v ∷ vs) o = get_flat k vs o.1

abbrev SomeWithin : ℕ → Option Val → Type 0
SomeWithin b None = Unit {0}
SomeWithin b (Some v) = Within b v

some_by : (n : ℕ) (b : Bool) (x y : Option Val) → SomeWithin n x → SomeWithin n y → SomeWithin n (if b then x else y)
some_by n true x y p q = p
some_by n false x y p q = q

at_flat : (bs : List (ℕ × Val)) (x : ℕ) → Flat bs → SomeWithin 0 (value_at bs x)
at_flat [] x o = tt
at_flat (b ∷ bs) x o = some_by 0 (nat_eq x b.0) (Some b.1) (value_at bs x) o.0 (at_flat bs x o.1)

named_flat : (p : _) → Within 0 (unwrap_or (option_map core.PrimitiveVal p) nothing)
named_flat None = tt
named_flat (Some p) = tt

or_flat : (text : List ℕ) (v : Option Val) → SomeWithin 0 v → Within 0 (or_primitive text v)
or_flat text (Some v) o = o
or_flat text None o = named_flat (primitive_named text)

use_flat : (e : Around) (x : ℕ) → Flat e.values → Within 0 (use_of e x)
use_flat e x o = or_flat (text_of e.names x) (value_at e.values x) (at_flat e.values x o)

pat_flat : (n b : ℕ) (names : List ℕ) (bs : List (ℕ × Val)) → Flat bs → Flat (binding names (variables n b) bs)
pat_flat n b names bs o = binding_flat names (variables n b) bs (variables_flat n b) o

function_flat : (n b : ℕ) (f : FieldPats) (e : Around) → Flat e.values → Flat (function_bound f (variables n b) e).values
function_flat n b f e o =
    binding_flat (names_after e.names f) (drop (length (names_before e.names f) + 1) (variables n b)) (binding (names_before e.names f) (variables n b) e.values)
    (drop_flat (length (names_before e.names f) + 1) (variables n b) (variables_flat n b)) (pat_flat n b (names_before e.names f) e.values o)

answer_flat : (n b : ℕ) (names : List (List ℕ)) (f : FieldPats) → Within 0 (answer_channel names f (variables n b))
answer_flat n b names f = get_flat (length (names_before names f)) (variables n b) (variables_flat n b)

some_more : (b c : ℕ) (v : Option Val) → b ≤ c → SomeWithin b v → SomeWithin c v
some_more b c None le o = tt
some_more b c (Some v) le o = within_more b c v le o

abbrev AllSome : ℕ → Option (List Val) → Type 0
AllSome b None = Unit {0}
AllSome b (Some vs) = AllByRecursion (Within b) vs

abbrev LabelledSome : ℕ → Option (List (ℕ × Val)) → Type 0
LabelledSome b None = Unit {0}
LabelledSome b (Some fs) = AllByRecursion (FieldWithin b) fs

all_some_more : (b : ℕ) (vs : Option (List Val)) (v : Option Val) → AllSome b vs → SomeWithin b v → AllSome b (one_more vs v)
all_some_more b (Some vs) (Some v) o one = fit_append (Within b) vs (v ∷ []) o (one, tt)
all_some_more b (Some vs) None o one = tt
all_some_more b None v o one = tt

labelled_some_more : (b : ℕ) (fs : Option (List (ℕ × Val))) (l : ℕ) (v : Option Val) → LabelledSome b fs → SomeWithin b v → LabelledSome b (one_more fs (option_map (λ u. (l, u)) v))
labelled_some_more b (Some fs) l (Some v) o one = fit_append (FieldWithin b) fs ((l, v) ∷ []) o (one, tt)
labelled_some_more b (Some fs) l None o one = tt
labelled_some_more b None l v o one = tt

record_some : (b : ℕ) (e : Around) (vs : Option (List Val)) (fs : Option (List (ℕ × Val))) → AllSome b vs → LabelledSome b fs → SomeWithin (suc b) (option_and_then (λ us. option_map (record_of_fields e us) fs) vs)
record_some b e (Some vs) (Some fs) o p = record_within b e vs fs o p
record_some b e (Some vs) None o p = tt
record_some b e None fs o p = tt

module _ (L : ℕ) where
  abbrev Low : ℕ → Type 0
  Low n = n ≤ L

  abbrev Ok : List ℕ → Type 0
  Ok xs = AllByRecursion Low xs

  front : (xs ys : List ℕ) → Ok (xs ++ ys) → Ok xs
  front xs ys h = fit_front Low xs ys h

  back : (xs ys : List ℕ) → Ok (xs ++ ys) → Ok ys
  back xs ys h = fit_back Low xs ys h

  one_deeper : (d : ℕ) → suc d ≤ L → suc (L - suc d) ≡ L - d
  one_deeper d h = omega (arith, h)

  at_most_all : (d : ℕ) → L - d ≤ L
  at_most_all d = omega arith

  deeper : (d : ℕ) → L - suc d ≤ L - d
  deeper d = omega arith

  -- ---- simple values

  mutual
    unfolding simple simple_chan simple_fields simple_vals simple_labelled val_nest chan_nest vals_nest field_vals_nest labelled_vals_nest

    simple_within : (d : ℕ) (e : Around) (v : tree.Val) → Flat e.values → Ok (val_nest d v) → SomeWithin (L - d) (simple e v)
    simple_within d e (of_chan c) o k = simple_chan_within d e c o k
    simple_within d e (number_val s i) o k = tt
    simple_within d e (character_val s b) o k = tt
    simple_within d e (string_val s b) o k = tt
    simple_within d e (true_val s) o k = tt
    simple_within d e (false_val s) o k = tt
    simple_within d e (fields_val s f) o k = subst (λ b. SomeWithin b (simple_fields e f)) (one_deeper d k.0) (simple_fields_within (suc d) e f o (front (field_vals_nest (suc d) f) (suc d ∷ []) k.1))
    simple_within d e (if_val s c v w) o k = tt
    simple_within d e (lambda_val s a) o k = tt

    simple_chan_within : (d : ℕ) (e : Around) (c : Chan) → Flat e.values → Ok (chan_nest d c) → SomeWithin (L - d) (simple_chan e c)
    simple_chan_within d e (use_chan s x) o k = flat_within (L - d) (use_of e x.0) (use_flat e x.0 o)
    simple_chan_within d e (fold_chan s t v) o k =
        some_more (L - suc d) (L - d) (simple e v) (deeper d) (simple_within (suc d) e v o (front (val_nest (suc d) v) (suc d ∷ []) (back (annotation_nest (suc d) t) (val_nest (suc d) v ++ suc d ∷ []) k.1.1)))
    simple_chan_within d e (block_chan s ds v) o k = tt
    simple_chan_within d e (apply_chan s f a) o k = tt
    simple_chan_within d e (right_chan s f vs) o k = tt
    simple_chan_within d e (left_chan s f vs) o k = tt

    simple_fields_within : (d : ℕ) (e : Around) (f : FieldVals) → Flat e.values → Ok (field_vals_nest d f) → SomeWithin (suc (L - d)) (simple_fields e f)
    simple_fields_within d e (field_vals ts vs ls) o k =
        let r = back (arguments_nest d ts) (vals_nest d vs ++ labelled_vals_nest d ls) k in
        record_some (L - d) e (simple_vals e vs) (simple_labelled e ls) (simple_vals_within d e vs o (front (vals_nest d vs) (labelled_vals_nest d ls) r)) (simple_labelled_within d e ls o (back (vals_nest d vs) (labelled_vals_nest d ls) r))

    simple_vals_within : (d : ℕ) (e : Around) (vs : Vals) → Flat e.values → Ok (vals_nest d vs) → AllSome (L - d) (simple_vals e vs)
    simple_vals_within d e no_vals o k = tt
    simple_vals_within d e (more_vals vs v) o k =
        all_some_more (L - d) (simple_vals e vs) (simple e v) (simple_vals_within d e vs o (front (vals_nest d vs) (val_nest d v) k)) (simple_within d e v o (back (vals_nest d vs) (val_nest d v) k))

    simple_labelled_within : (d : ℕ) (e : Around) (ls : LabelledVals) → Flat e.values → Ok (labelled_vals_nest d ls) → LabelledSome (L - d) (simple_labelled e ls)
    simple_labelled_within d e no_labelled_vals o k = tt
    simple_labelled_within d e (more_labelled_vals ls l v) o k =
        labelled_some_more (L - d) (simple_labelled e ls) l.name.0 (simple e v) (simple_labelled_within d e ls o (front (labelled_vals_nest d ls) (d ∷ d ∷ val_nest d v) k)) (simple_within d e v o (back (labelled_vals_nest d ls) (d ∷ d ∷ val_nest d v) k).1.1)

  -- ---- patterns

  abbrev OpenedWithin : ℕ → Opened → Type 0
  OpenedWithin b p = PatWithin b p.pattern

  abbrev LabelOpened : ℕ → ℕ × Opened → Type 0
  LabelOpened b f = PatWithin b f.1.pattern

  patterns_within : (b : ℕ) (ps : List Opened) → AllByRecursion (OpenedWithin b) ps → PatsWithin b (patterns_in ps)
  patterns_within b [] h = tt
  patterns_within b (p ∷ ps) h = (h.0, patterns_within b ps h.1)

  labelled_patterns_within : (b : ℕ) (fs : List (ℕ × Opened)) → AllByRecursion (LabelOpened b) fs → LabelledPatsWithin b (labelled_patterns_in fs)
  labelled_patterns_within b [] h = tt
  labelled_patterns_within b (f ∷ fs) h = (h.0, labelled_patterns_within b fs h.1)

  mutual
    unfolding opened all_opened labelled_opened pat_nest pats_nest labelled_pats_nest field_pats_nest

    opened_within : (d : ℕ) (names : List (List ℕ)) (p : tree.Pat) → Ok (pat_nest d p) → PatWithin (L - d) (opened names p).pattern
    opened_within d names (bind_pat s x t) k = tt
    opened_within d names (any_pat s t) k = tt
    opened_within d names (fields_pat s (field_pats bs ps ls)) k =
        let r = back (binders_nest (suc d) bs) (pats_nest (suc d) ps ++ labelled_pats_nest (suc d) ls) (front (field_pats_nest (suc d) (field_pats bs ps ls)) (suc d ∷ []) k.1) in
        subst (λ b. PatWithin b (opened names (fields_pat s (field_pats bs ps ls))).pattern) (one_deeper d k.0) (
          patterns_within (L - suc d) (all_opened names ps) (all_opened_within (suc d) names ps (front (pats_nest (suc d) ps) (labelled_pats_nest (suc d) ls) r)),
          labelled_patterns_within (L - suc d) (in_label_order names (labelled_opened names ls))
              (in_order_fits (LabelOpened (L - suc d)) names (labelled_opened names ls) (labelled_opened_within (suc d) names ls (back (pats_nest (suc d) ps) (labelled_pats_nest (suc d) ls) r))),
        )
    opened_within d names (fold_pat s t p) k =
        pat_more (L - suc d) (L - d) (opened names p).pattern (deeper d) (opened_within (suc d) names p (front (pat_nest (suc d) p) (suc d ∷ []) (back (annotation_nest (suc d) t) (pat_nest (suc d) p ++ suc d ∷ []) k.1.1)))

    all_opened_within : (d : ℕ) (names : List (List ℕ)) (ps : tree.Pats) → Ok (pats_nest d ps) → AllByRecursion (OpenedWithin (L - d)) (all_opened names ps)
    all_opened_within d names tree.no_pats k = tt
    all_opened_within d names (tree.more_pats ps p) k =
        fit_append (OpenedWithin (L - d)) (all_opened names ps) (opened names p ∷ []) (all_opened_within d names ps (front (pats_nest d ps) (pat_nest d p) k)) (opened_within d names p (back (pats_nest d ps) (pat_nest d p) k), tt)

    labelled_opened_within : (d : ℕ) (names : List (List ℕ)) (ls : tree.LabelledPats) → Ok (labelled_pats_nest d ls) → AllByRecursion (LabelOpened (L - d)) (labelled_opened names ls)
    labelled_opened_within d names tree.no_labelled_pats k = tt
    labelled_opened_within d names (tree.more_labelled_pats ls l p) k =
        fit_append (LabelOpened (L - d)) (labelled_opened names ls) ((l.name.0, opened names p) ∷ []) (labelled_opened_within d names ls (front (labelled_pats_nest d ls) (d ∷ d ∷ pat_nest d p) k))
        (opened_within d names p (back (labelled_pats_nest d ls) (d ∷ d ∷ pat_nest d p) k).1.1, tt)

  function_within : (d : ℕ) (names : List (List ℕ)) (f : FieldPats) → Ok (field_pats_nest d f) → PatWithin (suc (L - d)) (function_pat names f)
  unfolding field_pats_nest
  function_within d names (field_pats bs ps ls) k =
      let r = back (binders_nest d bs) (pats_nest d ps ++ labelled_pats_nest d ls) k in (
        patterns_within (L - d) (all_opened names ps ++ answer ∷ []) (fit_append (OpenedWithin (L - d)) (all_opened names ps) (answer ∷ []) (all_opened_within d names ps (front (pats_nest d ps) (labelled_pats_nest d ls) r)) (tt, tt)),
        labelled_patterns_within (L - d) (in_label_order names (labelled_opened names ls))
            (in_order_fits (LabelOpened (L - d)) names (labelled_opened names ls) (labelled_opened_within d names ls (back (pats_nest d ps) (labelled_pats_nest d ls) r))),
      )

  -- ---- parts of processes

  -- what sends a value on a channel
  abbrev Sends : (Val → Placed) → Type 0
  Sends f = (k : Val) → Within 0 k → (m : ℕ) → Nests L (f k m)

  with_at : (b : ℕ) (s : Option Val) (sent E : Val → Placed) → SomeWithin b s → Sends sent → ((u : Val) → Within b u → (m : ℕ) → Nests L (E u m)) → (m : ℕ) → Nests L (with_value s sent E m)
  with_at b (Some u) sent E o sends rest m = rest u o m
  with_at b None sent E o sends rest m = ((tt, tt, rest (Var (m + 1)) tt (m + 1 + 1)), sends (Var m) tt (m + 1))

  flat_L : (v : Val) → Within 0 v → Within L v
  flat_L v w = flat_within L v w

  all_L : (d : ℕ) (v : Val) → Within (L - d) v → Within L v
  all_L d v w = within_more (L - d) L v (at_most_all d) w

  record ArgumentNests (b : ℕ) (a : Argument) : Type 0 where
    value : SomeWithin b a.simple
    sends : Sends a.sent

  three_within : (b : ℕ) (x y k : Val) → suc b ≤ L → Within b x → Within b y → Within 0 k → Within L (Record (core.more_vals x (core.more_vals y (core.more_vals k core.no_vals))) core.no_labelled)
  three_within b x y k le p q r = within_more (suc b) L (Record (core.more_vals x (core.more_vals y (core.more_vals k core.no_vals))) core.no_labelled) le ((p, (q, (flat_within b k r, tt))), tt)

  application_nests : (b : ℕ) (f : Val) (s : _) (a c : Argument) → suc b ≤ L → Within 0 f → ArgumentNests b a → ArgumentNests b c → ArgumentNests b (application f s a c)
  application_nests b f s a c le of x y = record {
    value = tt;
    sends = λ k ok m. with_at b a.simple a.sent _ x.value x.sends (λ u ou m2. with_at b c.simple c.sent _ y.value y.sends (λ w ow m3. (flat_L f of, three_within b u w k le ou ow ok)) m2) m;
  }

  abbrev AllArguments : ℕ → List Argument → Type 0
  AllArguments b xs = AllByRecursion (ArgumentNests b) xs

  right_nests : (b : ℕ) (f : Val) (s : _) (xs : List Argument) → suc b ≤ L → Within 0 f → AllArguments b xs → ArgumentNests b (right f s xs)
  right_nests b f s [] le of o = record { value = tt; sends = λ k ok m. (flat_L k ok, tt) }
  right_nests b f s (a ∷ []) le of o = o.0
  right_nests b f s (a ∷ c ∷ xs) le of o = application_nests b f s a (right f s (c ∷ xs)) le of o.0 (right_nests b f s (c ∷ xs) le of o.1)

  left_after_nests : (b : ℕ) (f : Val) (s : _) (a : Argument) (xs : List Argument) → suc b ≤ L → Within 0 f → ArgumentNests b a → AllArguments b xs → ArgumentNests b (left_after f s a xs)
  left_after_nests b f s a [] le of one o = one
  left_after_nests b f s a (c ∷ xs) le of one o = left_after_nests b f s (application f s a c) xs le of (application_nests b f s a c le of one o.0) o.1

  left_nests : (b : ℕ) (f : Val) (s : _) (xs : List Argument) → suc b ≤ L → Within 0 f → AllArguments b xs → ArgumentNests b (left f s xs)
  left_nests b f s [] le of o = record { value = tt; sends = λ k ok m. (flat_L k ok, tt) }
  left_nests b f s (a ∷ xs) le of o = left_after_nests b f s a xs le of o.0 o.1

  abbrev NestsAt : Placed → Type 0
  NestsAt p = (m : ℕ) → Nests L (p m)

  side_nests : (ps : List Placed) → AllByRecursion NestsAt ps → NestsAt (side_by_side ps)
  side_nests [] o m = tt
  side_nests (p ∷ []) o m = o.0 m
  side_nests (p ∷ q ∷ ps) o m = (o.0 m, side_nests (q ∷ ps) o.1 m)

  abbrev Serves : (Val → Placed) → Type 0
  Serves s = (x : Val) → Within 0 x → NestsAt (s x)

  served_nests : (ss : List (Val → Placed)) (xs : List Val) (rest : Placed) → AllByRecursion Serves ss → AllFlat xs → NestsAt rest → NestsAt (served ss xs rest)
  served_nests [] xs rest o a r m = r m
  served_nests (s ∷ ss) [] rest o a r m = r m
  served_nests (s ∷ ss) (x ∷ xs) rest o a r m = (o.0 x a.0 m, served_nests ss xs rest o.1 a.1 r m)

  channels_nest : (n : ℕ) (f : List Val → Placed) → ((xs : List Val) → AllFlat xs → NestsAt (f xs)) → NestsAt (new_channels n f)
  channels_nest zero f h m = h [] tt m
  channels_nest (suc n) f h m = channels_nest n (λ xs. f (Var m ∷ xs)) (λ xs o. h (Var m ∷ xs) (tt, o)) (m + 1)

  whole_nests : (b : ℕ) (v : Option Val) (k : Val) (s : _) (p : Placed) → b ≤ L → SomeWithin b v → Within 0 k → NestsAt p → NestsAt (sent_as_one v k s p)
  whole_nests b (Some u) k s p le o ok h m = (flat_L k ok, within_more b L u le o)
  whole_nests b None k s p le o ok h m = h m

  record_L : (d : ℕ) (v : Val) → suc d ≤ L → Within (suc (L - suc d)) v → Within L v
  record_L d v le w = within_more (suc (L - suc d)) L v (omega (arith, le)) w

  pat_L : (d : ℕ) (p : core.Pat) → PatWithin (L - d) p → PatWithin L p
  pat_L d p w = pat_more (L - d) L p (at_most_all d) w

  module _ (some_room : 1 ≤ L) where
    unit_pat_nests : (b : ℕ) → 1 ≤ b → PatWithin b (core.RecordPat core.no_pats core.no_labelled_pats)
    unit_pat_nests zero h = absurd (omega (arith, h))
    unit_pat_nests (suc b) h = (tt, tt)

    mutual
      unfolding sending sending_chan decs_core dec_core proc_core procs_core reader with_fields arguments with_vals with_labelled servers val_nest chan_nest vals_nest field_vals_nest labelled_vals_nest abs_nest dec_nest decs_nest definitions_nest proc_nest procs_nest

      val_nests : (d : ℕ) (e : Around) (v : tree.Val) → Ok (val_nest d v) → Flat e.values → Sends (sending e v)
      val_nests d e (of_chan c) t o k ok m = chan_nests d e c t o k ok m
      val_nests d e (number_val s i) t o k ok m = (flat_L k ok, tt)
      val_nests d e (character_val s b) t o k ok m = (flat_L k ok, tt)
      val_nests d e (string_val s b) t o k ok m = (flat_L k ok, tt)
      val_nests d e (true_val s) t o k ok m = (flat_L k ok, tt)
      val_nests d e (false_val s) t o k ok m = (flat_L k ok, tt)
      val_nests d e (fields_val s f) t o k ok m =
          fields_nest (suc d) e f (front (field_vals_nest (suc d) f) (suc d ∷ []) t.1) o _ (λ us ws a b m2. (flat_L k ok, record_L d (record_of_fields e us ws) t.0 (record_within (L - suc d) e us ws a b))) m
      val_nests d e (if_val s c v w) t o k ok m =
          let r1 = back (val_nest (suc d) c) (suc d ∷ (val_nest (suc d) v ++ (suc d ∷ val_nest (suc d) w))) t.1 in
          let r2 = back (val_nest (suc d) v) (suc d ∷ val_nest (suc d) w) r1.1 in
          let tc = front (val_nest (suc d) c) (suc d ∷ (val_nest (suc d) v ++ (suc d ∷ val_nest (suc d) w))) t.1 in
          let tv = front (val_nest (suc d) v) (suc d ∷ val_nest (suc d) w) r1.1 in
          with_at (L - suc d) (simple e c) (sending e c) _ (simple_within (suc d) e c o tc) (val_nests (suc d) e c tc o)
          (λ b ob m2. (all_L (suc d) b ob, val_nests (suc d) e v tv o k ok m2, val_nests (suc d) e w r2.1 o k ok m2)) m
      val_nests d e (lambda_val s a) t o k ok m = (abs_nests d e a t.1 o (Var m) true tt (m + 1), (flat_L k ok, tt))

      chan_nests : (d : ℕ) (e : Around) (c : Chan) → Ok (chan_nest d c) → Flat e.values → Sends (sending_chan e c)
      chan_nests d e (use_chan s x) t o k ok m = (flat_L k ok, flat_L (use_of e x.0) (use_flat e x.0 o))
      chan_nests d e (fold_chan s r v) t o k ok m =
          let tv = front (val_nest (suc d) v) (suc d ∷ []) (back (annotation_nest (suc d) r) (val_nest (suc d) v ++ suc d ∷ []) t.1.1) in
          whole_nests (L - suc d) (simple e v) k s (sending e v k) (at_most_all (suc d)) (simple_within (suc d) e v o tv) ok (val_nests (suc d) e v tv o k ok) m
      chan_nests d e (block_chan s ds v) t o k ok m =
          let r = back (decs_nest (suc d) ds) (val_nest (suc d) v ++ suc d ∷ []) t.1 in
          decs_nests (suc d) e ds (front (decs_nest (suc d) ds) (val_nest (suc d) v ++ suc d ∷ []) t.1) o _ (λ e2 o2 m2. val_nests (suc d) e2 v (front (val_nest (suc d) v) (suc d ∷ []) r) o2 k ok m2) m
      chan_nests d e (apply_chan s f a) t o k ok m =
          let tf = front (val_nest (suc d) f) (field_vals_nest (suc d) a ++ suc d ∷ []) t.1 in
          let ta = front (field_vals_nest (suc d) a) (suc d ∷ []) (back (val_nest (suc d) f) (field_vals_nest (suc d) a ++ suc d ∷ []) t.1) in
          with_at (L - suc d) (simple e f) (sending e f) _ (simple_within (suc d) e f o tf) (val_nests (suc d) e f tf o)
          (λ g og m2. fields_nest (suc d) e a ta o _ (λ us ws p q m3. (all_L (suc d) g og, record_L d (record_of_fields e (us ++ k ∷ []) ws) t.0 (record_within (L - suc d) e (us ++ k ∷ []) ws (fit_append (Within (L - suc d)) us (k ∷ []) p (flat_within (L - suc d) k ok, tt)) q))) m2) m
      chan_nests d e (right_chan s f vs) t o k ok m =
          (right_nests (L - suc d) (use_of e f.name.0) s (arguments e vs) (omega (arith, t.0)) (use_flat e f.name.0 o) (arguments_nests (suc d) e vs (front (vals_nest (suc d) vs) (suc d ∷ []) t.1.1.1) o)).sends k ok m
      chan_nests d e (left_chan s f vs) t o k ok m =
          (left_nests (L - suc d) (use_of e f.name.0) s (arguments e vs) (omega (arith, t.0)) (use_flat e f.name.0 o) (arguments_nests (suc d) e vs (front (vals_nest (suc d) vs) (suc d ∷ []) t.1.1.1) o)).sends k ok m

      arguments_nests : (d : ℕ) (e : Around) (vs : Vals) → Ok (vals_nest d vs) → Flat e.values → AllArguments (L - d) (arguments e vs)
      arguments_nests d e no_vals t o = tt
      arguments_nests d e (more_vals vs v) t o =
          let tv = back (vals_nest d vs) (val_nest d v) t in
          fit_append (ArgumentNests (L - d)) (arguments e vs) _ (arguments_nests d e vs (front (vals_nest d vs) (val_nest d v) t) o) (record { value = simple_within d e v o tv; sends = val_nests d e v tv o }, tt)

      fields_nest : (d : ℕ) (e : Around) (f : FieldVals) → Ok (field_vals_nest d f) → Flat e.values → (E : List Val → List (ℕ × Val) → Placed)
          → ((us : List Val) (ws : List (ℕ × Val)) → AllByRecursion (Within (L - d)) us → AllByRecursion (FieldWithin (L - d)) ws → NestsAt (E us ws)) → NestsAt (with_fields e f E)
      fields_nest d e (field_vals ts vs ls) t o E h m =
          let r = back (arguments_nest d ts) (vals_nest d vs ++ labelled_vals_nest d ls) t in
          withs_nest d e vs (front (vals_nest d vs) (labelled_vals_nest d ls) r) o _ (λ us a m2. labelled_nest d e ls (back (vals_nest d vs) (labelled_vals_nest d ls) r) o _ (λ ws b m3. h us ws a b m3) m2) m

      withs_nest : (d : ℕ) (e : Around) (vs : Vals) → Ok (vals_nest d vs) → Flat e.values → (E : List Val → Placed) → ((us : List Val) → AllByRecursion (Within (L - d)) us → NestsAt (E us)) → NestsAt (with_vals e vs E)
      withs_nest d e no_vals t o E h m = h [] tt m
      withs_nest d e (more_vals vs v) t o E h m =
          let tv = back (vals_nest d vs) (val_nest d v) t in
          withs_nest d e vs (front (vals_nest d vs) (val_nest d v) t) o _ (λ us a m2. with_at (L - d) (simple e v) (sending e v) _ (simple_within d e v o tv) (val_nests d e v tv o) (λ u ou m3. h (us ++ u ∷ []) (fit_append (Within (L - d)) us (u ∷ []) a (ou, tt)) m3) m2) m

      labelled_nest : (d : ℕ) (e : Around) (ls : LabelledVals) → Ok (labelled_vals_nest d ls) → Flat e.values → (E : List (ℕ × Val) → Placed) → ((ws : List (ℕ × Val)) → AllByRecursion (FieldWithin (L - d)) ws → NestsAt (E ws)) → NestsAt (with_labelled e ls E)
      labelled_nest d e no_labelled_vals t o E h m = h [] tt m
      labelled_nest d e (more_labelled_vals ls l v) t o E h m =
          let tv = (back (labelled_vals_nest d ls) (d ∷ d ∷ val_nest d v) t).1.1 in
          labelled_nest d e ls (front (labelled_vals_nest d ls) (d ∷ d ∷ val_nest d v) t) o _ (λ ws a m2. with_at (L - d) (simple e v) (sending e v) _ (simple_within d e v o tv) (val_nests d e v tv o) (λ u ou m3. h (ws ++ (l.name.0, u) ∷ []) (fit_append (FieldWithin (L - d)) ws ((l.name.0, u) ∷ []) a (ou, tt)) m3) m2) m

      abs_nests : (d : ℕ) (e : Around) (a : Abs) → Ok (abs_nest d a) → Flat e.values → (x : Val) (replicated : Bool) → Within L x → NestsAt (reader e a x replicated)
      abs_nests d e (process_abs s p q) t o x replicated ox m = (
        ox,
        pat_L (suc d) (pat_core e.names p) (opened_within (suc d) e.names p (front (pat_nest (suc d) p) (suc d ∷ proc_nest (suc d) q) t)),
        proc_nests (suc d) (pat_bound p (variables m (binds (pat_core e.names p))) e) q (back (pat_nest (suc d) p) (suc d ∷ proc_nest (suc d) q) t).1 (pat_flat m (binds (pat_core e.names p)) (pat_names e.names p) e.values o) (m + binds (pat_core e.names p)),
      )
      abs_nests d e (function_abs s f r v) t o x replicated ox m =
          let tf = front (field_pats_nest (suc (suc d)) f) (suc (suc d) ∷ (annotation_nest (suc d) r ++ (suc d ∷ val_nest (suc d) v))) t.1 in
          let rest = (back (field_pats_nest (suc (suc d)) f) (suc (suc d) ∷ (annotation_nest (suc d) r ++ (suc d ∷ val_nest (suc d) v))) t.1).1 in
          let tv = (back (annotation_nest (suc d) r) (suc d ∷ val_nest (suc d) v) rest).1 in (
            ox,
            pat_more (suc (L - suc (suc d))) L (function_pat e.names f) (omega (arith, t.0)) (function_within (suc (suc d)) e.names f tf),
            val_nests (suc d) (function_bound f (variables m (binds (function_pat e.names f))) e) v tv (function_flat m (binds (function_pat e.names f)) f e o)
                (answer_channel e.names f (variables m (binds (function_pat e.names f)))) (answer_flat m (binds (function_pat e.names f)) e.names f) (m + binds (function_pat e.names f)),
          )

      dec_nests : (d : ℕ) (e : Around) (x : Dec) → Ok (dec_nest d x) → Flat e.values → (rest : Around → Placed) → ((e : Around) → Flat e.values → NestsAt (rest e)) → NestsAt (dec_core e x rest)
      dec_nests d e (new_dec s x r) t o rest h m = h _ (tt, o) (m + 1)
      dec_nests d e (run_dec s p) t o rest h m = (proc_nests d e p t.1 o m, h e o m)
      dec_nests d e (let_dec s p v) t o rest h m = (
        (tt, pat_L d (pat_core e.names p) (opened_within d e.names p (front (pat_nest d p) (d ∷ val_nest d v) t.1)), h (pat_bound p (variables (m + 1) (binds (pat_core e.names p))) e) (pat_flat (m + 1) (binds (pat_core e.names p)) (pat_names e.names p) e.values o) (m + 1 + binds (pat_core e.names p))),
        val_nests d e v (back (pat_nest d p) (d ∷ val_nest d v) t.1).1 o (Var m) tt (m + 1),
      )
      dec_nests d e (def_dec s no_definitions) t o rest h m = h _ o m
      dec_nests d e (def_dec s (more_definitions ds x a)) t o rest h m =
          channels_nest (length (definition_names (more_definitions ds x a))) _ (λ xs fl. let more = binding_flat (definition_names (more_definitions ds x a)) xs e.values fl o in
          served_nests _ xs _ (fit_append Serves (servers (bound (definition_names (more_definitions ds x a)) xs e) ds) _ (servers_nest d _ ds (front (definitions_nest d ds) (d ∷ abs_nest d a) t.1) more)
          ((λ f of. abs_nests d _ a (back (definitions_nest d ds) (d ∷ abs_nest d a) t.1).1 more f true (flat_L f of)), tt)) fl (h _ more)) m
      dec_nests d e (alias_dec s x r) t o rest h m = h e o m
      dec_nests d e (operator_dec s x xs r) t o rest h m = h e o m
      dec_nests d e (await_dec s v) t o rest h m = ((tt, unit_pat_nests L some_room, h e o _), val_nests d e v (front (val_nest d v) (d ∷ []) t) o (Var m) tt (m + 1))

      decs_nests : (d : ℕ) (e : Around) (ds : Decs) → Ok (decs_nest d ds) → Flat e.values → (rest : Around → Placed) → ((e : Around) → Flat e.values → NestsAt (rest e)) → NestsAt (decs_core e ds rest)
      decs_nests d e no_decs t o rest h m = h e o m
      decs_nests d e (more_decs ds x) t o rest h m =
          decs_nests d e ds (front (decs_nest d ds) (dec_nest d x) t) o _ (λ e2 o2 m2. dec_nests d e2 x (back (decs_nest d ds) (dec_nest d x) t) o2 rest h m2) m

      servers_nest : (d : ℕ) (e : Around) (ds : Definitions) → Ok (definitions_nest d ds) → Flat e.values → AllByRecursion Serves (servers e ds)
      servers_nest d e no_definitions t o = tt
      servers_nest d e (more_definitions ds x a) t o =
          let r = (back (definitions_nest d ds) (d ∷ (abs_nest d a ++ d ∷ [])) t).1 in
          fit_append Serves (servers e ds) _ (servers_nest d e ds (front (definitions_nest d ds) (d ∷ (abs_nest d a ++ d ∷ [])) t) o) ((λ f of. abs_nests d e a (front (abs_nest d a) (d ∷ []) r) o f true (flat_L f of)), tt)

      proc_nests : (d : ℕ) (e : Around) (p : Proc) → Ok (proc_nest d p) → Flat e.values → NestsAt (proc_core e p)
      proc_nests d e (send_proc s c v) t o m =
          let tc = front (chan_nest d c) (d ∷ val_nest d v) t in
          let tv = (back (chan_nest d c) (d ∷ val_nest d v) t).1 in
          with_at (L - d) (simple_chan e c) (sending_chan e c) _ (simple_chan_within d e c o tc) (chan_nests d e c tc o)
          (λ x ox m2. with_at (L - d) (simple e v) (sending e v) _ (simple_within d e v o tv) (val_nests d e v tv o) (λ y oy m3. (all_L d x ox, all_L d y oy)) m2) m
      proc_nests d e (receive_proc s c a) t o m =
          let tc = front (chan_nest d c) (d ∷ abs_nest d a) t in
          with_at (L - d) (simple_chan e c) (sending_chan e c) _ (simple_chan_within d e c o tc) (chan_nests d e c tc o) (λ x ox m2. abs_nests d e a (back (chan_nest d c) (d ∷ abs_nest d a) t).1 o x false (all_L d x ox) m2) m
      proc_nests d e (serve_proc s c a) t o m =
          let tc = front (chan_nest d c) (d ∷ abs_nest d a) t in
          with_at (L - d) (simple_chan e c) (sending_chan e c) _ (simple_chan_within d e c o tc) (chan_nests d e c tc o) (λ x ox m2. abs_nests d e a (back (chan_nest d c) (d ∷ abs_nest d a) t).1 o x true (all_L d x ox) m2) m
      proc_nests d e (if_proc s c p q) t o m =
          let r1 = back (val_nest (suc d) c) (suc d ∷ (proc_nest (suc d) p ++ (suc d ∷ proc_nest (suc d) q))) t.1 in
          let r2 = back (proc_nest (suc d) p) (suc d ∷ proc_nest (suc d) q) r1.1 in
          let tc = front (val_nest (suc d) c) (suc d ∷ (proc_nest (suc d) p ++ (suc d ∷ proc_nest (suc d) q))) t.1 in
          with_at (L - suc d) (simple e c) (sending e c) _ (simple_within (suc d) e c o tc) (val_nests (suc d) e c tc o)
          (λ b ob m2. (all_L (suc d) b ob, proc_nests (suc d) e p (front (proc_nest (suc d) p) (suc d ∷ proc_nest (suc d) q) r1.1) o m2, proc_nests (suc d) e q r2.1 o m2)) m
      proc_nests d e (inert_proc s) t o m = tt
      proc_nests d e (group_proc s ds no_procs) t o m = decs_nests (suc d) e ds (front (decs_nest (suc d) ds) (suc d ∷ []) t.1) o _ (λ e2 o2 m2. tt) m
      proc_nests d e (group_proc s ds (more_procs ps p)) t o m =
          let r = back (decs_nest (suc d) ds) (procs_nest (suc d) ps ++ (proc_nest (suc d) p ++ suc d ∷ [])) t.1 in
          let r2 = back (procs_nest (suc d) ps) (proc_nest (suc d) p ++ suc d ∷ []) r in
          decs_nests (suc d) e ds (front (decs_nest (suc d) ds) (procs_nest (suc d) ps ++ (proc_nest (suc d) p ++ suc d ∷ [])) t.1) o _
          (λ e2 o2 m2. side_nests (procs_core e2 (more_procs ps p)) (fit_append NestsAt (procs_core e2 ps) (proc_core e2 p ∷ []) (procs_nests (suc d) e2 ps (front (procs_nest (suc d) ps) (proc_nest (suc d) p ++ suc d ∷ []) r) o2)
          (proc_nests (suc d) e2 p (front (proc_nest (suc d) p) (suc d ∷ []) r2) o2, tt)) m2) m

      procs_nests : (d : ℕ) (e : Around) (ps : Procs) → Ok (procs_nest d ps) → Flat e.values → AllByRecursion NestsAt (procs_core e ps)
      procs_nests d e no_procs t o = tt
      procs_nests d e (more_procs ps p) t o =
          fit_append NestsAt (procs_core e ps) (proc_core e p ∷ []) (procs_nests d e ps (front (procs_nest d ps) (proc_nest d p ++ d ∷ []) t) o)
          (proc_nests d e p (front (proc_nest d p) (d ∷ []) (back (procs_nest d ps) (proc_nest d p ++ d ∷ []) t)) o, tt)

pub program_nests : TranslationNests
program_nests names ds limit room t = decs_nests limit room 0 (record { names = names; values = [] }) ds t tt (λ e. inert) (λ e o m. tt) 0
