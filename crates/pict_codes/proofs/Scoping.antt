-- The codes of scopes.
use Rattle.std.proofs.Common.{◌≡◌, ℕ, List, [], ◌∷◌, ◌++◌, Bool, true, false, Option, Some, None, inl, inr, refl, subst}
use Rattle.pict_syntax.specs.declared.code.Code.{Code}
use Rattle.pict_syntax.specs.declared.code.Code.TheVariants.{S3, S4}
use Rattle.pict_syntax.specs.declared.id.Id.{Id}
use Rattle.pict_syntax.specs.declared.span.Span.{Span}
use Rattle.pict_syntax.specs.Trees.{TypeTree, top_type, int_type, char_type, string_type, bool_type, use_type, both_type, read_type, write_type, respond_type, fields_type, apply_type, rec_type, TypeBinder, type_binder, Bound, unbounded, bound, TypeTrees, no_types, more_types, TypeBinders, no_binders, more_binders, LabelledTypes, no_labelled_types, more_labelled_types, RType, Pat, bind_pat, any_pat, fields_pat, fold_pat, FieldPats, field_pats, Pats, no_pats, more_pats, LabelledPats, no_labelled_pats, more_labelled_pats, Dec, new_dec, run_dec, let_dec, def_dec, alias_dec, operator_dec, await_dec, Decs, no_decs, more_decs, Definitions, no_definitions, more_definitions, Abs, process_abs, function_abs, Chan, use_chan, fold_chan, block_chan, apply_chan, right_chan, left_chan, Val, of_chan, number_val, character_val, string_val, true_val, false_val, fields_val, if_val, lambda_val, Vals, no_vals, more_vals, FieldVals, field_vals, LabelledVals, no_labelled_vals, more_labelled_vals, Proc, send_proc, receive_proc, serve_proc, if_proc, inert_proc, group_proc, Procs, no_procs, more_procs}
use Rattle.pict_syntax.specs.Stops.{Stop}
use Rattle.pict_binders.specs.Numbered.{nearest}
use Rattle.pict_scope.specs.Around.{Around, is_among}
use Rattle.pict_scope.specs.Marks.{Mark, value_used, type_used, value_bound, stands_twice, first_stop}
use Rattle.pict_scope.specs.Outlines.{Outline, empty, ◌▸◌, closed, value_use, type_use, binds_value, binds_type, binds_all, defines, pattern_value, pattern_type, pattern, group, once, opens, marks, twice_if, twice_if_bound, bound_as}
use Rattle.pict_scope.specs.Forms.{in_type, in_types, in_labelled_types, in_binders, in_binder, in_bound, in_annotation, in_pattern_binder, in_pattern_binders, in_pat, in_field_pats, in_pats, in_labelled_pats, with_parameters, in_dec, in_decs, in_definitions, in_abs, in_chan, in_val, in_vals, in_field_vals, in_labelled_vals, in_proc, in_procs}
use Rattle.pict_scope.specs.Scopes.{outermost, program_marks, scope_stop}
use Rattle.pict_codes.specs.Codes.{IsOneOf, scope_codes}
use Rattle.pict_codes.specs.Laws.{ScopeCodes}

-- each name that may stand once is refused with such a code
abbrev IsCoded : Outline → Type 0
IsCoded empty = Unit {0}
IsCoded (o ▸ p) = IsCoded o × IsCoded p
IsCoded (closed o) = IsCoded o
IsCoded (value_use s n) = Unit {0}
IsCoded (type_use s n) = Unit {0}
IsCoded (binds_value x) = Unit {0}
IsCoded (binds_type x o) = IsCoded o
IsCoded (binds_all xs) = Unit {0}
IsCoded (defines x) = Unit {0}
IsCoded (pattern_value x) = Unit {0}
IsCoded (pattern_type x o) = IsCoded o
IsCoded (pattern o p) = IsCoded o × IsCoded p
IsCoded (group o) = IsCoded o
IsCoded (once c x) = IsOneOf scope_codes c

abbrev MarkIsCoded : Mark → Type 0
MarkIsCoded (stands_twice c s) = IsOneOf scope_codes c
MarkIsCoded _ = Unit {0}

abbrev AreCoded : List Mark → Type 0
AreCoded [] = Unit {0}
AreCoded (m ∷ ms) = MarkIsCoded m × AreCoded ms

both_coded : (ms ns : List Mark) → AreCoded ms → AreCoded ns → AreCoded (ms ++ ns)
both_coded [] ns h k = k
both_coded (m ∷ ms) ns h k = (h.0, both_coded ms ns h.1 k)

of_s3 : IsOneOf scope_codes S3
of_s3 = inr (inr (inl refl))

of_s4 : IsOneOf scope_codes S4
of_s4 = inr (inr (inr (inl refl)))

twice_coded : (b : Bool) (c : Code) (x : Id) → IsOneOf scope_codes c → AreCoded (twice_if b c x)
twice_coded true c x h = (h, tt)
twice_coded false c x h = tt

bound_coded : (o : Option ℕ) (x : Id) → AreCoded (twice_if_bound o x)
bound_coded (Some k) x = (of_s3, tt)
bound_coded None x = tt

as_coded : (o : Option ℕ) → AreCoded (bound_as o)
as_coded (Some k) = (tt, tt)
as_coded None = tt

marks_coded : (o : Outline) (a : Around) → IsCoded o → AreCoded (marks o a)
unfolding marks
marks_coded empty a h = tt
marks_coded (o ▸ p) a h = both_coded (marks o a) (marks p (opens o a)) (marks_coded o a h.0) (marks_coded p (opens o a) h.1)
marks_coded (closed o) a h = marks_coded o a h
marks_coded (value_use s n) a h = (tt, tt)
marks_coded (type_use s n) a h = (tt, tt)
marks_coded (binds_value x) a h = (tt, tt)
marks_coded (binds_type x o) a h = marks_coded o _ h
marks_coded (binds_all xs) a h = tt
marks_coded (defines x) a h = as_coded (nearest a.values x.name.0)
marks_coded (pattern_value x) a h = both_coded (twice_if_bound (nearest a.pattern_values x.name.0) x) _ (bound_coded (nearest a.pattern_values x.name.0) x) (tt, tt)
marks_coded (pattern_type x o) a h = both_coded (twice_if_bound (nearest a.pattern_types x.name.0) x) _ (bound_coded (nearest a.pattern_types x.name.0) x) (marks_coded o _ h)
marks_coded (pattern o p) a h = both_coded (marks o _) _ (marks_coded o _ h.0) (marks_coded p _ h.1)
marks_coded (group o) a h = marks_coded o _ h
marks_coded (once c x) a h = twice_coded (is_among a.group x.name.0) c x h

-- the outlines of programs
mutual
  type_coded : (t : TypeTree) → IsCoded (in_type t)
  type_coded (top_type s) = tt
  type_coded (int_type s) = tt
  type_coded (char_type s) = tt
  type_coded (string_type s) = tt
  type_coded (bool_type s) = tt
  type_coded (use_type s n) = tt
  type_coded (both_type s t) = type_coded t
  type_coded (read_type s t) = type_coded t
  type_coded (write_type s t) = type_coded t
  type_coded (respond_type s t) = type_coded t
  type_coded (fields_type s bs ts ls) = (binders_coded bs, (types_coded ts, labelled_types_coded ls))
  type_coded (apply_type s x ts) = (tt, types_coded ts)
  type_coded (rec_type s x t) = (tt, type_coded t)

  types_coded : (ts : TypeTrees) → IsCoded (in_types ts)
  types_coded no_types = tt
  types_coded (more_types ts t) = (types_coded ts, type_coded t)

  labelled_types_coded : (ls : LabelledTypes) → IsCoded (in_labelled_types ls)
  labelled_types_coded no_labelled_types = tt
  labelled_types_coded (more_labelled_types ls l t) = (labelled_types_coded ls, (of_s4, type_coded t))

  binders_coded : (bs : TypeBinders) → IsCoded (in_binders bs)
  binders_coded no_binders = tt
  binders_coded (more_binders bs b) = (binders_coded bs, binder_coded b)

  binder_coded : (b : TypeBinder) → IsCoded (in_binder b)
  binder_coded (type_binder s x k b) = (of_s3, type_bound_coded b)

  type_bound_coded : (b : Bound) → IsCoded (in_bound b)
  type_bound_coded unbounded = tt
  type_bound_coded (bound t) = type_coded t

annotation_coded : (r : RType) → IsCoded (in_annotation r)
annotation_coded None = tt
annotation_coded (Some t) = type_coded t

pattern_binder_coded : (b : TypeBinder) → IsCoded (in_pattern_binder b)
pattern_binder_coded (type_binder s x k b) = type_bound_coded b

pattern_binders_coded : (bs : TypeBinders) → IsCoded (in_pattern_binders bs)
pattern_binders_coded no_binders = tt
pattern_binders_coded (more_binders bs b) = (pattern_binders_coded bs, pattern_binder_coded b)

mutual
  pat_coded : (p : Pat) → IsCoded (in_pat p)
  pat_coded (bind_pat s x r) = (tt, annotation_coded r)
  pat_coded (any_pat s r) = annotation_coded r
  pat_coded (fields_pat s f) = field_pats_coded f
  pat_coded (fold_pat s r p) = (annotation_coded r, pat_coded p)

  field_pats_coded : (f : FieldPats) → IsCoded (in_field_pats f)
  field_pats_coded (field_pats bs ps ls) = (pattern_binders_coded bs, (pats_coded ps, labelled_pats_coded ls))

  pats_coded : (ps : Pats) → IsCoded (in_pats ps)
  pats_coded no_pats = tt
  pats_coded (more_pats ps p) = (pats_coded ps, pat_coded p)

  labelled_pats_coded : (ls : LabelledPats) → IsCoded (in_labelled_pats ls)
  labelled_pats_coded no_labelled_pats = tt
  labelled_pats_coded (more_labelled_pats ls l p) = (labelled_pats_coded ls, (of_s4, pat_coded p))

parameters_coded : (o : Outline) (xs : List Id) → IsCoded o → IsCoded (with_parameters o xs)
parameters_coded o [] h = h
parameters_coded o (x ∷ xs) h = parameters_coded _ xs (h, (of_s3, tt))

mutual
  dec_coded : (d : Dec) → IsCoded (in_dec d)
  dec_coded (new_dec s x t) = (tt, type_coded t)
  dec_coded (run_dec s p) = proc_coded p
  dec_coded (let_dec s p v) = (pat_coded p, val_coded v)
  dec_coded (def_dec s ds) = (tt, definitions_coded ds)
  dec_coded (alias_dec s x t) = type_coded t
  dec_coded (operator_dec s x xs t) = (parameters_coded empty xs tt, type_coded t)
  dec_coded (await_dec s v) = val_coded v

  decs_coded : (ds : Decs) → IsCoded (in_decs ds)
  decs_coded no_decs = tt
  decs_coded (more_decs ds d) = (decs_coded ds, dec_coded d)

  definitions_coded : (ds : Definitions) → IsCoded (in_definitions ds)
  definitions_coded no_definitions = tt
  definitions_coded (more_definitions ds x f) = (definitions_coded ds, (of_s3, (tt, abs_coded f)))

  abs_coded : (f : Abs) → IsCoded (in_abs f)
  abs_coded (process_abs s p q) = ((pat_coded p, tt), proc_coded q)
  abs_coded (function_abs s f r v) = (((field_pats_coded f, annotation_coded r), tt), val_coded v)

  chan_coded : (c : Chan) → IsCoded (in_chan c)
  chan_coded (use_chan s n) = tt
  chan_coded (fold_chan s r v) = (annotation_coded r, val_coded v)
  chan_coded (block_chan s ds v) = (decs_coded ds, val_coded v)
  chan_coded (apply_chan s v f) = (val_coded v, field_vals_coded f)
  chan_coded (right_chan s x vs) = (tt, vals_coded vs)
  chan_coded (left_chan s x vs) = (tt, vals_coded vs)

  val_coded : (v : Val) → IsCoded (in_val v)
  val_coded (of_chan c) = chan_coded c
  val_coded (number_val s n) = tt
  val_coded (character_val s b) = tt
  val_coded (string_val s b) = tt
  val_coded (true_val s) = tt
  val_coded (false_val s) = tt
  val_coded (fields_val s f) = field_vals_coded f
  val_coded (if_val s c v w) = (val_coded c, (val_coded v, val_coded w))
  val_coded (lambda_val s f) = abs_coded f

  vals_coded : (vs : Vals) → IsCoded (in_vals vs)
  vals_coded no_vals = tt
  vals_coded (more_vals vs v) = (vals_coded vs, val_coded v)

  field_vals_coded : (f : FieldVals) → IsCoded (in_field_vals f)
  field_vals_coded (field_vals ts vs ls) = (types_coded ts, (vals_coded vs, labelled_vals_coded ls))

  labelled_vals_coded : (ls : LabelledVals) → IsCoded (in_labelled_vals ls)
  labelled_vals_coded no_labelled_vals = tt
  labelled_vals_coded (more_labelled_vals ls l v) = (labelled_vals_coded ls, (of_s4, val_coded v))

  proc_coded : (p : Proc) → IsCoded (in_proc p)
  proc_coded (send_proc s c v) = (chan_coded c, val_coded v)
  proc_coded (receive_proc s c f) = (chan_coded c, abs_coded f)
  proc_coded (serve_proc s c f) = (chan_coded c, abs_coded f)
  proc_coded (if_proc s v p q) = (val_coded v, (proc_coded p, proc_coded q))
  proc_coded (inert_proc s) = tt
  proc_coded (group_proc s ds ps) = (decs_coded ds, procs_coded ps)

  procs_coded : (ps : Procs) → IsCoded (in_procs ps)
  procs_coded no_procs = tt
  procs_coded (more_procs ps p) = (procs_coded ps, proc_coded p)

abbrev StopIsCoded : Option Stop → Type 0
StopIsCoded None = Unit {0}
StopIsCoded (Some x) = IsOneOf scope_codes x.0

stop_coded : (ms : List Mark) → AreCoded ms → StopIsCoded (first_stop ms)
stop_coded [] h = tt
stop_coded (value_used s None ∷ ms) h = inl refl
stop_coded (value_used s (Some t) ∷ ms) h = stop_coded ms h.1
stop_coded (type_used s None ∷ ms) h = inr (inl refl)
stop_coded (type_used s (Some n) ∷ ms) h = stop_coded ms h.1
stop_coded (value_bound n ∷ ms) h = stop_coded ms h.1
stop_coded (stands_twice c s ∷ ms) h = h.0

abbrev some : Stop → Option Stop
some x = Some x

code_of : (o : Option Stop) (c : Code) (i : Span) → StopIsCoded o → o ≡ some (c, i) → IsOneOf scope_codes c
code_of None c i h e = absurd cc
code_of (Some x) c i h e = let f : x ≡ (c, i) = cc in subst (λ y. IsOneOf scope_codes y.0) f h

pub scope_codes_alone : ScopeCodes
scope_codes_alone texts p c i h = code_of (scope_stop texts p) c i (stop_coded (program_marks texts p) (marks_coded (in_decs p) (outermost texts) (decs_coded p))) h
