-- The outline of each form of the grammar reads as the phrase that says its scopes.
use Rattle.std.proofs.Common.{◌≡◌, List, [], ◌∷◌, ◌++◌, Some, None, refl, sym, ◌∙◌, ap, ap₂, subst, append-nil}
use Rattle.pict_syntax.specs.declared.id.Id.{Id}
use Rattle.pict_syntax.specs.Trees.{TypeTree, top_type, int_type, char_type, string_type, bool_type, use_type, both_type, read_type, write_type, respond_type, fields_type, apply_type, rec_type, TypeBinder, type_binder, Bound, unbounded, bound, TypeTrees, no_types, more_types, TypeBinders, no_binders, more_binders, LabelledTypes, no_labelled_types, more_labelled_types, RType, Pat, bind_pat, any_pat, fields_pat, fold_pat, FieldPats, field_pats, Pats, no_pats, more_pats, LabelledPats, no_labelled_pats, more_labelled_pats, Dec, new_dec, run_dec, let_dec, def_dec, alias_dec, operator_dec, await_dec, Decs, no_decs, more_decs, Definitions, no_definitions, more_definitions, Abs, process_abs, function_abs, Chan, use_chan, fold_chan, block_chan, apply_chan, right_chan, left_chan, Val, of_chan, number_val, character_val, string_val, true_val, false_val, fields_val, if_val, lambda_val, Vals, no_vals, more_vals, FieldVals, field_vals, LabelledVals, no_labelled_vals, more_labelled_vals, Proc, send_proc, receive_proc, serve_proc, if_proc, inert_proc, group_proc, Procs, no_procs, more_procs}
use Rattle.pict_scope.specs.Outlines.{Outline, empty, ◌▸◌, binds_type, binds_value, once}
use Rattle.pict_scope.specs.Forms.{in_type, in_types, in_labelled_types, in_binders, in_binder, in_bound, in_annotation, in_pattern_binder, in_pattern_binders, in_pat, in_field_pats, in_pats, in_labelled_pats, with_parameters, defined, in_dec, in_decs, in_definitions, in_abs, in_chan, in_val, in_vals, in_field_vals, in_labelled_vals, in_proc, in_procs}
use Rattle.pict_syntax.specs.declared.code.Code.TheVariants.{S3}
use Rattle.pict_named.specs.Phrases.{Phrase, nothing, ◌⨾◌, over_values, over_types, Use, value_uses, type_uses}
use Rattle.pict_named.specs.Extents.{type_phrase, types_phrase, labelled_types_phrase, binders_before, binder_before, bound_phrase, annotation_phrase, pat_phrase, fields_before, pats_phrase, labelled_pats_phrase, pat_values, fields_values, pats_values, labelled_pats_values, identifier_of, binders_types, pat_types, fields_types, pats_types, labelled_pats_types, parameters_over, defined_values, dec_before, decs_before, definitions_phrase, abs_phrase, chan_phrase, val_phrase, vals_phrase, field_vals_phrase, labelled_vals_phrase, proc_phrase, procs_phrase}
use Rattle.pict_named.proofs.Standing.{onto, stands, value_uses_of, type_uses_of}
use Rattle.pict_named.proofs.Reading.{Reads, Is, Binds, InPattern, reads, is_empty, is_value_use, is_type_use, is_both, is_group, is_once, is_defined, is_named, binds_none, binds_is, binds_both, binds_group, binds_once, binds_alone, binds_bound, binds_pattern_bound, binds_names, reads_behind, closes, reads_alone, binds_pattern, binds_let, pattern_none, pattern_type_use, pattern_once, pattern_group, pattern_closed, pattern_binds, pattern_named, pattern_bound, pattern_behind, pattern_before, pattern_both}

neither : {us vs : List Use} → us ≡ [] → vs ≡ [] → (us ++ vs) ≡ []
neither h k = ap₂ (λ us vs. us ++ vs) h k

both_same : {us vs ws xs : List Use} → us ≡ vs → ws ≡ xs → (us ++ ws) ≡ (vs ++ xs)
both_same h k = ap₂ (λ us ws. us ++ ws) h k

all_behind : {us vs ws xs : List Use} → us ≡ [] → vs ≡ [] → ws ≡ xs → (us ++ ws) ≡ (vs ++ xs)
all_behind h k i = both_same (h ∙ sym k) i

no_more : {o : Outline} {vs ts : List Id} → InPattern o (vs ++ []) ts → InPattern o vs ts
no_more {o = o} {vs = vs} {ts = ts} h = subst (λ xs. InPattern o xs ts) (append-nil vs) h

-- types
mutual
  is_type : (t : TypeTree) → Is (in_type t) (type_phrase t)
  is_type (top_type s) = is_empty
  is_type (int_type s) = is_empty
  is_type (char_type s) = is_empty
  is_type (string_type s) = is_empty
  is_type (bool_type s) = is_empty
  is_type (use_type s n) = is_type_use
  is_type (both_type s t) = is_type t
  is_type (read_type s t) = is_type t
  is_type (write_type s t) = is_type t
  is_type (respond_type s t) = is_type t
  is_type (fields_type s bs ts ls) = closes (reads_behind (binds_group (binds_binders bs)) (reads (is_both (is_types ts) (is_group (is_labelled_types ls)))))
  is_type (apply_type s x ts) = is_both is_type_use (is_types ts)
  is_type (rec_type s x t) = closes (reads_behind binds_alone (reads (is_type t)))

  is_types : (ts : TypeTrees) → Is (in_types ts) (types_phrase ts)
  is_types no_types = is_empty
  is_types (more_types ts t) = is_both (is_types ts) (is_type t)

  is_labelled_types : (ls : LabelledTypes) → Is (in_labelled_types ls) (labelled_types_phrase ls)
  is_labelled_types no_labelled_types = is_empty
  is_labelled_types (more_labelled_types ls l t) = is_both (is_labelled_types ls) (is_once (is_type t))

  binds_binders : (bs : TypeBinders) → Binds (in_binders bs) (binders_before bs)
  binds_binders no_binders = binds_none
  binds_binders (more_binders bs b) = binds_both (binds_binders bs) (binds_binder b)

  binds_binder : (b : TypeBinder) → Binds (in_binder b) (binder_before b)
  binds_binder (type_binder s x k b) = binds_once (binds_bound (is_bound b))

  is_bound : (b : Bound) → Is (in_bound b) (bound_phrase b)
  is_bound unbounded = is_empty
  is_bound (bound t) = is_type t

is_annotation : (r : RType) → Is (in_annotation r) (annotation_phrase r)
is_annotation None = is_empty
is_annotation (Some t) = is_type t

-- types use no values
mutual
  no_values : (t : TypeTree) (around : List Id) → value_uses around (type_phrase t) ≡ []
  no_values (top_type s) around = refl
  no_values (int_type s) around = refl
  no_values (char_type s) around = refl
  no_values (string_type s) around = refl
  no_values (bool_type s) around = refl
  no_values (use_type s n) around = refl
  no_values (both_type s t) around = no_values t around
  no_values (read_type s t) around = no_values t around
  no_values (write_type s t) around = no_values t around
  no_values (respond_type s t) around = no_values t around
  no_values (fields_type s bs ts ls) around = only_behind bs around (types_phrase ts ⨾ labelled_types_phrase ls) ∙ neither (no_values_in ts around) (no_values_labelled ls around)
  no_values (apply_type s x ts) around = no_values_in ts around
  no_values (rec_type s x t) around = no_values t around

  no_values_in : (ts : TypeTrees) (around : List Id) → value_uses around (types_phrase ts) ≡ []
  no_values_in no_types around = refl
  no_values_in (more_types ts t) around = neither (no_values_in ts around) (no_values t around)

  no_values_labelled : (ls : LabelledTypes) (around : List Id) → value_uses around (labelled_types_phrase ls) ≡ []
  no_values_labelled no_labelled_types around = refl
  no_values_labelled (more_labelled_types ls l t) around = neither (no_values_labelled ls around) (no_values t around)

  only_behind : (bs : TypeBinders) (around : List Id) (p : Phrase) → value_uses around (binders_before bs p) ≡ value_uses around p
  only_behind no_binders around p = refl
  only_behind (more_binders bs b) around p = only_behind bs around (binder_before b p) ∙ only_behind_one b around p

  only_behind_one : (b : TypeBinder) (around : List Id) (p : Phrase) → value_uses around (binder_before b p) ≡ value_uses around p
  only_behind_one (type_binder s x k unbounded) around p = refl
  only_behind_one (type_binder s x k (bound t)) around p = ap (λ us. us ++ value_uses around p) (no_values t around)

-- types bind nothing in the pattern that they stand in
mutual
  pattern_type_ : (t : TypeTree) → InPattern (in_type t) [] []
  pattern_type_ (top_type s) = pattern_none
  pattern_type_ (int_type s) = pattern_none
  pattern_type_ (char_type s) = pattern_none
  pattern_type_ (string_type s) = pattern_none
  pattern_type_ (bool_type s) = pattern_none
  pattern_type_ (use_type s n) = pattern_type_use
  pattern_type_ (both_type s t) = pattern_type_ t
  pattern_type_ (read_type s t) = pattern_type_ t
  pattern_type_ (write_type s t) = pattern_type_ t
  pattern_type_ (respond_type s t) = pattern_type_ t
  pattern_type_ (fields_type s bs ts ls) = pattern_closed (pattern_behind (pattern_group (pattern_type_binders bs)) (pattern_behind (pattern_types_ ts) (pattern_group (pattern_labelled_types ls))))
  pattern_type_ (apply_type s x ts) = pattern_behind pattern_type_use (pattern_types_ ts)
  pattern_type_ (rec_type s x t) = pattern_closed (pattern_behind (pattern_binds pattern_none) (pattern_type_ t))

  pattern_types_ : (ts : TypeTrees) → InPattern (in_types ts) [] []
  pattern_types_ no_types = pattern_none
  pattern_types_ (more_types ts t) = pattern_behind (pattern_types_ ts) (pattern_type_ t)

  pattern_labelled_types : (ls : LabelledTypes) → InPattern (in_labelled_types ls) [] []
  pattern_labelled_types no_labelled_types = pattern_none
  pattern_labelled_types (more_labelled_types ls l t) = pattern_behind (pattern_labelled_types ls) (pattern_once (pattern_type_ t))

  pattern_type_binders : (bs : TypeBinders) → InPattern (in_binders bs) [] []
  pattern_type_binders no_binders = pattern_none
  pattern_type_binders (more_binders bs b) = pattern_behind (pattern_type_binders bs) (pattern_type_binder b)

  pattern_type_binder : (b : TypeBinder) → InPattern (in_binder b) [] []
  pattern_type_binder (type_binder s x k b) = pattern_once (pattern_binds (pattern_bound_ b))

  pattern_bound_ : (b : Bound) → InPattern (in_bound b) [] []
  pattern_bound_ unbounded = pattern_none
  pattern_bound_ (bound t) = pattern_type_ t

pattern_annotation : (r : RType) → InPattern (in_annotation r) [] []
pattern_annotation None = pattern_none
pattern_annotation (Some t) = pattern_type_ t

-- patterns
binds_pattern_binder : (b : TypeBinder) → Binds (in_pattern_binder b) (binder_before b)
binds_pattern_binder (type_binder s x k b) = binds_pattern_bound (is_bound b)

binds_pattern_binders : (bs : TypeBinders) → Binds (in_pattern_binders bs) (binders_before bs)
binds_pattern_binders no_binders = binds_none
binds_pattern_binders (more_binders bs b) = binds_both (binds_pattern_binders bs) (binds_pattern_binder b)

mutual
  is_pat : (p : Pat) → Is (in_pat p) (pat_phrase p)
  is_pat (bind_pat s x r) = is_named (is_annotation r)
  is_pat (any_pat s r) = is_annotation r
  is_pat (fields_pat s f) = closes (reads_alone (binds_fields f))
  is_pat (fold_pat s r p) = is_both (is_annotation r) (is_pat p)

  binds_fields : (f : FieldPats) → Binds (in_field_pats f) (fields_before f)
  binds_fields (field_pats bs ps ls) = binds_both (binds_pattern_binders bs) (binds_both (binds_is (is_pats ps)) (binds_is (is_group (is_labelled_pats ls))))

  is_pats : (ps : Pats) → Is (in_pats ps) (pats_phrase ps)
  is_pats no_pats = is_empty
  is_pats (more_pats ps p) = is_both (is_pats ps) (is_pat p)

  is_labelled_pats : (ls : LabelledPats) → Is (in_labelled_pats ls) (labelled_pats_phrase ls)
  is_labelled_pats no_labelled_pats = is_empty
  is_labelled_pats (more_labelled_pats ls l p) = is_both (is_labelled_pats ls) (is_once (is_pat p))

pattern_binder : (b : TypeBinder) → InPattern (in_pattern_binder b) [] (identifier_of b ∷ [])
pattern_binder (type_binder s x k b) = pattern_bound (pattern_bound_ b)

pattern_binders : (bs : TypeBinders) → InPattern (in_pattern_binders bs) [] (binders_types bs)
pattern_binders no_binders = pattern_none
pattern_binders (more_binders bs b) = pattern_both (pattern_binders bs) (pattern_binder b)

mutual
  pattern_pat : (p : Pat) → InPattern (in_pat p) (pat_values p) (pat_types p)
  pattern_pat (bind_pat s x r) = pattern_named (pattern_annotation r)
  pattern_pat (any_pat s r) = pattern_annotation r
  pattern_pat (fields_pat s f) = pattern_closed (pattern_fields f)
  pattern_pat (fold_pat s r p) = pattern_behind (pattern_annotation r) (pattern_pat p)

  pattern_fields : (f : FieldPats) → InPattern (in_field_pats f) (fields_values f) (fields_types f)
  pattern_fields (field_pats bs ps ls) = no_more (pattern_both (pattern_binders bs) (pattern_both (pattern_pats ps) (pattern_group (pattern_labelled_pats ls))))

  pattern_pats : (ps : Pats) → InPattern (in_pats ps) (pats_values ps) (pats_types ps)
  pattern_pats no_pats = pattern_none
  pattern_pats (more_pats ps p) = pattern_both (pattern_pats ps) (pattern_pat p)

  pattern_labelled_pats : (ls : LabelledPats) → InPattern (in_labelled_pats ls) (labelled_pats_values ls) (labelled_pats_types ls)
  pattern_labelled_pats no_labelled_pats = pattern_none
  pattern_labelled_pats (more_labelled_pats ls l p) = pattern_both (pattern_labelled_pats ls) (pattern_once (pattern_pat p))

-- the parameters of an operator
binds_parameters : (xs : List Id) (o : Outline) (f : Phrase → Phrase) → Binds o f → Binds (with_parameters o xs) (λ p. f (parameters_over xs p))
binds_parameters [] o f h = h
binds_parameters (x ∷ xs) o f h = binds_parameters xs (o ▸ once S3 x ▸ binds_type x empty) (λ p. f (over_types (x ∷ []) p)) (binds_both h (binds_once binds_alone))

-- the names of a `def`
onto_both : (xs ys around : List Id) → onto (xs ++ ys) around ≡ onto ys (onto xs around)
onto_both [] ys around = refl
onto_both (x ∷ xs) ys around = onto_both xs ys (x ∷ around)

pub onto_defined : (ds : Definitions) (around : List Id) → onto (defined ds) around ≡ defined_values ds ++ around
onto_defined no_definitions around = refl
onto_defined (more_definitions ds x f) around = onto_both (defined ds) (x ∷ []) around ∙ ap (λ xs. x ∷ xs) (onto_defined ds around)

-- a channel binds over what is behind its type, and a type uses no values
binds_new : {o : Outline} {q : Phrase} (x : Id) → Is o q → ((around : List Id) → value_uses around q ≡ []) → Binds (binds_value x ▸ o) (λ p. q ⨾ over_values (x ∷ []) p)
unfolding stands value_uses_of type_uses_of
binds_new {o = o} {q = q} x h n = record {
  values = λ g p. all_behind (h.values (record g { values = x ∷ g.values }) ∙ n (x ∷ g.values)) (n g.values) (ap (λ xs. value_uses xs p) (h.keeps_values (record g { values = x ∷ g.values })));
  types_ = λ g p. both_same (h.types_ (record g { values = x ∷ g.values })) (ap (λ xs. type_uses xs p) (h.keeps_types (record g { values = x ∷ g.values })));
}

-- declarations, abstractions, values and processes
mutual
  binds_dec : (d : Dec) → Binds (in_dec d) (dec_before d)
  binds_dec (new_dec s x t) = binds_new x (is_type t) (no_values t)
  binds_dec (run_dec s p) = binds_is (is_proc p)
  binds_dec (let_dec s p v) = binds_let (reads (is_pat p)) (pattern_pat p) (is_val v)
  binds_dec (def_dec s ds) = binds_both (binds_names (defined ds) (defined_values ds) (onto_defined ds)) (binds_is (is_group (is_definitions ds)))
  binds_dec (alias_dec s x t) = binds_bound (is_type t)
  binds_dec (operator_dec s x xs t) = binds_bound (closes (reads_behind (binds_group (binds_parameters xs empty (λ p. p) binds_none)) (reads (is_type t))))
  binds_dec (await_dec s v) = binds_is (is_val v)

  pub binds_decs : (ds : Decs) → Binds (in_decs ds) (decs_before ds)
  binds_decs no_decs = binds_none
  binds_decs (more_decs ds d) = binds_both (binds_decs ds) (binds_dec d)

  pub is_definitions : (ds : Definitions) → Is (in_definitions ds) (definitions_phrase ds)
  is_definitions no_definitions = is_empty
  is_definitions (more_definitions ds x f) = is_both (is_definitions ds) (is_once (is_defined (is_abs f)))

  is_abs : (f : Abs) → Is (in_abs f) (abs_phrase f)
  is_abs (process_abs s p q) = closes (reads_behind (binds_pattern (reads (is_pat p)) (pattern_pat p)) (reads (is_proc q)))
  is_abs (function_abs s f r v) =
      closes (reads_behind (binds_pattern (reads_behind (binds_fields f) (reads (is_annotation r))) (pattern_before (pattern_fields f) (pattern_annotation r))) (reads (is_val v)))

  is_chan : (c : Chan) → Is (in_chan c) (chan_phrase c)
  is_chan (use_chan s n) = is_value_use
  is_chan (fold_chan s r v) = is_both (is_annotation r) (is_val v)
  is_chan (block_chan s ds v) = closes (reads_behind (binds_decs ds) (reads (is_val v)))
  is_chan (apply_chan s v f) = is_both (is_val v) (is_field_vals f)
  is_chan (right_chan s x vs) = is_both is_value_use (is_vals vs)
  is_chan (left_chan s x vs) = is_both is_value_use (is_vals vs)

  is_val : (v : Val) → Is (in_val v) (val_phrase v)
  is_val (of_chan c) = is_chan c
  is_val (number_val s n) = is_empty
  is_val (character_val s b) = is_empty
  is_val (string_val s b) = is_empty
  is_val (true_val s) = is_empty
  is_val (false_val s) = is_empty
  is_val (fields_val s f) = is_field_vals f
  is_val (if_val s c v w) = is_both (is_val c) (is_both (is_val v) (is_val w))
  is_val (lambda_val s f) = is_abs f

  is_vals : (vs : Vals) → Is (in_vals vs) (vals_phrase vs)
  is_vals no_vals = is_empty
  is_vals (more_vals vs v) = is_both (is_vals vs) (is_val v)

  is_field_vals : (f : FieldVals) → Is (in_field_vals f) (field_vals_phrase f)
  is_field_vals (field_vals ts vs ls) = is_both (is_types ts) (is_both (is_vals vs) (is_group (is_labelled_vals ls)))

  is_labelled_vals : (ls : LabelledVals) → Is (in_labelled_vals ls) (labelled_vals_phrase ls)
  is_labelled_vals no_labelled_vals = is_empty
  is_labelled_vals (more_labelled_vals ls l v) = is_both (is_labelled_vals ls) (is_once (is_val v))

  is_proc : (p : Proc) → Is (in_proc p) (proc_phrase p)
  is_proc (send_proc s c v) = is_both (is_chan c) (is_val v)
  is_proc (receive_proc s c f) = is_both (is_chan c) (is_abs f)
  is_proc (serve_proc s c f) = is_both (is_chan c) (is_abs f)
  is_proc (if_proc s v p q) = is_both (is_val v) (is_both (is_proc p) (is_proc q))
  is_proc (inert_proc s) = is_empty
  is_proc (group_proc s ds ps) = closes (reads_behind (binds_decs ds) (reads (is_procs ps)))

  is_procs : (ps : Procs) → Is (in_procs ps) (procs_phrase ps)
  is_procs no_procs = is_empty
  is_procs (more_procs ps p) = is_both (is_procs ps) (is_proc p)

-- a whole program
pub program_reads : (p : Decs) → Reads (in_decs p) (decs_before p nothing)
program_reads p = reads_alone (binds_decs p)
