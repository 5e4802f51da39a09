-- Where a rule of scopes fails in a program is one of the program's places, and nothing is said to be absent.
use Rattle.std.proofs.Common.{◌≡◌, ℕ, Bool, true, false, List, [], ◌∷◌, ◌++◌, Option, Some, None, subst}
use Rattle.pict_syntax.specs.declared.code.Code.{Code}
use Rattle.pict_syntax.specs.declared.id.Id.{Id}
use Rattle.pict_syntax.specs.declared.span.Span.{Span}
use Rattle.pict_syntax.specs.Trees.{TypeTree, top_type, int_type, char_type, string_type, bool_type, use_type, both_type, read_type, write_type, respond_type, fields_type, apply_type, rec_type, TypeBinder, type_binder, Bound, unbounded, bound, TypeTrees, no_types, more_types, TypeBinders, no_binders, more_binders, LabelledTypes, no_labelled_types, more_labelled_types, RType, Pat, bind_pat, any_pat, fields_pat, fold_pat, FieldPats, field_pats, Pats, no_pats, more_pats, LabelledPats, no_labelled_pats, more_labelled_pats, Dec, new_dec, run_dec, let_dec, def_dec, alias_dec, operator_dec, await_dec, Decs, no_decs, more_decs, Definitions, no_definitions, more_definitions, Abs, process_abs, function_abs, Chan, use_chan, fold_chan, block_chan, apply_chan, right_chan, left_chan, Val, of_chan, number_val, character_val, string_val, true_val, false_val, fields_val, if_val, lambda_val, Vals, no_vals, more_vals, FieldVals, field_vals, LabelledVals, no_labelled_vals, more_labelled_vals, Proc, send_proc, receive_proc, serve_proc, if_proc, inert_proc, group_proc, Procs, no_procs, more_procs}
use Rattle.pict_syntax.specs.Stops.{Stop}
use Rattle.pict_binders.specs.Numbered.{nearest}
use Rattle.pict_scope.specs.Around.{Around, is_among}
use Rattle.pict_scope.specs.Marks.{Mark, value_used, type_used, value_bound, stands_twice, first_stop}
use Rattle.pict_scope.specs.Outlines.{Outline, empty, ◌▸◌, closed, value_use, type_use, binds_value, binds_type, binds_all, defines, pattern_value, pattern_type, pattern, group, once, opens, marks, twice_if, twice_if_bound, bound_as}
use Rattle.pict_scope.specs.Forms.{in_type, in_types, in_labelled_types, in_binders, in_binder, in_bound, in_annotation, in_pattern_binder, in_pattern_binders, in_pat, in_field_pats, in_pats, in_labelled_pats, with_parameters, in_dec, in_decs, in_definitions, in_abs, in_chan, in_val, in_vals, in_field_vals, in_labelled_vals, in_proc, in_procs}
use Rattle.pict_scope.specs.Scopes.{outermost, program_marks, scope_stop}
use Rattle.pict_front.proofs.Standing.{Line, TypeStands, TypesStand, LabelledTypesStand, BinderStands, BoundStands, BindersStand, AnnotationStands, PatStands, FieldPatsStand, PatsStand, LabelledPatsStand, IdsStand, DecStands, DecsStand, DefinitionsStand, AbsStands, ChanStands, ValStands, ValsStand, FieldValsStand, LabelledValsStand, ProcStands, ProcsStand}

module _ (P : Span → Type 0) where
  abbrev MarkStands : Mark → Type 0
  MarkStands (value_used s t) = P s
  MarkStands (type_used s n) = P s
  MarkStands (value_bound n) = Unit {0}
  MarkStands (stands_twice c s) = Line P (c, s)

  abbrev MarksStand : List Mark → Type 0
  MarksStand [] = Unit {0}
  MarksStand (m ∷ ms) = MarkStands m × MarksStand ms

  abbrev StopStands : Option Stop → Type 0
  StopStands None = Unit {0}
  StopStands (Some stop) = Line P stop

  first_stands : (ms : List Mark) → MarksStand ms → StopStands (first_stop ms)
  first_stands [] h = tt
  first_stands (value_used s None ∷ ms) h = (tt, h.0)
  first_stands (value_used s (Some t) ∷ ms) h = first_stands ms h.1
  first_stands (type_used s None ∷ ms) h = (tt, h.0)
  first_stands (type_used s (Some n) ∷ ms) h = first_stands ms h.1
  first_stands (value_bound n ∷ ms) h = first_stands ms h.1
  first_stands (stands_twice c s ∷ ms) h = h.0

  both : (xs ys : List Mark) → MarksStand xs → MarksStand ys → MarksStand (xs ++ ys)
  both [] ys h k = k
  both (x ∷ xs) ys h k = (h.0, both xs ys h.1 k)

  -- what an outline marks stands where its names do
  abbrev OutlineStands : Outline → Type 0
  OutlineStands empty = Unit {0}
  OutlineStands (o ▸ p) = OutlineStands o × OutlineStands p
  OutlineStands (closed o) = OutlineStands o
  OutlineStands (value_use s n) = P s
  OutlineStands (type_use s n) = P s
  OutlineStands (binds_value x) = Unit {0}
  OutlineStands (binds_type x o) = OutlineStands o
  OutlineStands (binds_all xs) = Unit {0}
  OutlineStands (defines x) = Unit {0}
  OutlineStands (pattern_value x) = P x.span
  OutlineStands (pattern_type x o) = P x.span × OutlineStands o
  OutlineStands (pattern o p) = OutlineStands o × OutlineStands p
  OutlineStands (group o) = OutlineStands o
  OutlineStands (once c x) = Line P (c, x.span)

  twice_stands : (b : Bool) (c : Code) (x : Id) → Line P (c, x.span) → MarksStand (twice_if b c x)
  twice_stands true c x h = (h, tt)
  twice_stands false c x h = tt

  bound_twice_stands : (o : Option ℕ) (x : Id) → P x.span → MarksStand (twice_if_bound o x)
  bound_twice_stands (Some n) x h = ((tt, h), tt)
  bound_twice_stands None x h = tt

  bound_stands : (o : Option ℕ) → MarksStand (bound_as o)
  bound_stands (Some n) = (tt, tt)
  bound_stands None = tt

  marks_stand : (o : Outline) (a : Around) → OutlineStands o → MarksStand (marks o a)
  unfolding marks opens
  marks_stand empty a h = tt
  marks_stand (o ▸ p) a h = both (marks o a) (marks p (opens o a)) (marks_stand o a h.0) (marks_stand p (opens o a) h.1)
  marks_stand (closed o) a h = marks_stand o a h
  marks_stand (value_use s n) a h = (h, tt)
  marks_stand (type_use s n) a h = (h, tt)
  marks_stand (binds_value x) a h = (tt, tt)
  marks_stand (binds_type x o) a h = marks_stand o _ h
  marks_stand (binds_all xs) a h = tt
  marks_stand (defines x) a h = bound_stands (nearest a.values x.name.0)
  marks_stand (pattern_value x) a h = both _ _ (bound_twice_stands (nearest a.pattern_values x.name.0) x h) (tt, tt)
  marks_stand (pattern_type x o) a h = both _ _ (bound_twice_stands (nearest a.pattern_types x.name.0) x h.0) (marks_stand o _ h.1)
  marks_stand (pattern o p) a h = both _ _ (marks_stand o _ h.0) (marks_stand p _ h.1)
  marks_stand (group o) a h = marks_stand o _ h
  marks_stand (once c x) a h = twice_stands (is_among a.group x.name.0) c x h

  -- ---- each form of the grammar

  mutual
    type_outline : (t : TypeTree) → TypeStands P t → OutlineStands (in_type t)
    type_outline (top_type s) h = tt
    type_outline (int_type s) h = tt
    type_outline (char_type s) h = tt
    type_outline (string_type s) h = tt
    type_outline (bool_type s) h = tt
    type_outline (use_type s n) h = h
    type_outline (both_type s t) h = type_outline t h.1
    type_outline (read_type s t) h = type_outline t h.1
    type_outline (write_type s t) h = type_outline t h.1
    type_outline (respond_type s t) h = type_outline t h.1
    type_outline (fields_type s bs ts ls) h = (binders_outline bs h.1.0, (types_outline ts h.1.1.0, labelled_types_outline ls h.1.1.1))
    type_outline (apply_type s x ts) h = (h.1.0, types_outline ts h.1.1)
    type_outline (rec_type s x t) h = (tt, type_outline t h.1.1)

    types_outline : (ts : TypeTrees) → TypesStand P ts → OutlineStands (in_types ts)
    types_outline no_types h = tt
    types_outline (more_types ts t) h = (types_outline ts h.0, type_outline t h.1)

    labelled_types_outline : (ls : LabelledTypes) → LabelledTypesStand P ls → OutlineStands (in_labelled_types ls)
    labelled_types_outline no_labelled_types h = tt
    labelled_types_outline (more_labelled_types ls x t) h = (labelled_types_outline ls h.0, ((tt, h.1.0), type_outline t h.1.1))

    binders_outline : (bs : TypeBinders) → BindersStand P bs → OutlineStands (in_binders bs)
    binders_outline no_binders h = tt
    binders_outline (more_binders bs b) h = (binders_outline bs h.0, binder_outline b h.1)

    binder_outline : (b : TypeBinder) → BinderStands P b → OutlineStands (in_binder b)
    binder_outline (type_binder s x k b) h = ((tt, h.1.0), bound_outline b h.1.1)

    bound_outline : (b : Bound) → BoundStands P b → OutlineStands (in_bound b)
    bound_outline unbounded h = tt
    bound_outline (bound t) h = type_outline t h

  annotation_outline : (r : RType) → AnnotationStands P r → OutlineStands (in_annotation r)
  annotation_outline None h = tt
  annotation_outline (Some t) h = type_outline t h

  pattern_binder_outline : (b : TypeBinder) → BinderStands P b → OutlineStands (in_pattern_binder b)
  pattern_binder_outline (type_binder s x k b) h = (h.1.0, bound_outline b h.1.1)

  pattern_binders_outline : (bs : TypeBinders) → BindersStand P bs → OutlineStands (in_pattern_binders bs)
  pattern_binders_outline no_binders h = tt
  pattern_binders_outline (more_binders bs b) h = (pattern_binders_outline bs h.0, pattern_binder_outline b h.1)

  mutual
    pat_outline : (p : Pat) → PatStands P p → OutlineStands (in_pat p)
    pat_outline (bind_pat s x r) h = (h.1.0, annotation_outline r h.1.1)
    pat_outline (any_pat s r) h = annotation_outline r h.1
    pat_outline (fields_pat s f) h = field_pats_outline f h.1
    pat_outline (fold_pat s r p) h = (annotation_outline r h.1.0, pat_outline p h.1.1)

    field_pats_outline : (f : FieldPats) → FieldPatsStand P f → OutlineStands (in_field_pats f)
    field_pats_outline (field_pats bs ps ls) h = (pattern_binders_outline bs h.0, (pats_outline ps h.1.0, labelled_pats_outline ls h.1.1))

    pats_outline : (ps : Pats) → PatsStand P ps → OutlineStands (in_pats ps)
    pats_outline no_pats h = tt
    pats_outline (more_pats ps p) h = (pats_outline ps h.0, pat_outline p h.1)

    labelled_pats_outline : (ls : LabelledPats) → LabelledPatsStand P ls → OutlineStands (in_labelled_pats ls)
    labelled_pats_outline no_labelled_pats h = tt
    labelled_pats_outline (more_labelled_pats ls x p) h = (labelled_pats_outline ls h.0, ((tt, h.1.0), pat_outline p h.1.1))

  parameters_outline : (o : Outline) (xs : List Id) → OutlineStands o → IdsStand P xs → OutlineStands (with_parameters o xs)
  parameters_outline o [] h k = h
  parameters_outline o (x ∷ xs) h k = parameters_outline _ xs (h, ((tt, k.0), tt)) k.1

  mutual
    dec_outline : (d : Dec) → DecStands P d → OutlineStands (in_dec d)
    dec_outline (new_dec s x t) h = (tt, type_outline t h.1.1)
    dec_outline (run_dec s p) h = proc_outline p h.1
    dec_outline (let_dec s p v) h = (pat_outline p h.1.0, val_outline v h.1.1)
    dec_outline (def_dec s ds) h = (tt, definitions_outline ds h.1)
    dec_outline (alias_dec s x t) h = type_outline t h.1.1
    dec_outline (operator_dec s x xs t) h = (parameters_outline empty xs tt h.1.1.0, type_outline t h.1.1.1)
    dec_outline (await_dec s v) h = val_outline v h.1

    decs_outline : (ds : Decs) → DecsStand P ds → OutlineStands (in_decs ds)
    decs_outline no_decs h = tt
    decs_outline (more_decs ds d) h = (decs_outline ds h.0, dec_outline d h.1)

    definitions_outline : (ds : Definitions) → DefinitionsStand P ds → OutlineStands (in_definitions ds)
    definitions_outline no_definitions h = tt
    definitions_outline (more_definitions ds x a) h = (definitions_outline ds h.0, ((tt, h.1.0), (tt, abs_outline a h.1.1)))

    abs_outline : (a : Abs) → AbsStands P a → OutlineStands (in_abs a)
    abs_outline (process_abs s p q) h = ((pat_outline p h.1.0, tt), proc_outline q h.1.1)
    abs_outline (function_abs s f r v) h = (((field_pats_outline f h.1.0, annotation_outline r h.1.1.0), tt), val_outline v h.1.1.1)

    chan_outline : (c : Chan) → ChanStands P c → OutlineStands (in_chan c)
    chan_outline (use_chan s n) h = h
    chan_outline (fold_chan s r v) h = (annotation_outline r h.1.0, val_outline v h.1.1)
    chan_outline (block_chan s ds v) h = (decs_outline ds h.1.0, val_outline v h.1.1)
    chan_outline (apply_chan s v f) h = (val_outline v h.1.0, field_vals_outline f h.1.1)
    chan_outline (right_chan s x vs) h = (h.1.0, vals_outline vs h.1.1)
    chan_outline (left_chan s x vs) h = (h.1.0, vals_outline vs h.1.1)

    val_outline : (v : Val) → ValStands P v → OutlineStands (in_val v)
    val_outline (of_chan c) h = chan_outline c h
    val_outline (number_val s n) h = tt
    val_outline (character_val s b) h = tt
    val_outline (string_val s b) h = tt
    val_outline (true_val s) h = tt
    val_outline (false_val s) h = tt
    val_outline (fields_val s f) h = field_vals_outline f h.1
    val_outline (if_val s c v w) h = (val_outline c h.1.0, (val_outline v h.1.1.0, val_outline w h.1.1.1))
    val_outline (lambda_val s a) h = abs_outline a h.1

    vals_outline : (vs : Vals) → ValsStand P vs → OutlineStands (in_vals vs)
    vals_outline no_vals h = tt
    vals_outline (more_vals vs v) h = (vals_outline vs h.0, val_outline v h.1)

    field_vals_outline : (f : FieldVals) → FieldValsStand P f → OutlineStands (in_field_vals f)
    field_vals_outline (field_vals ts vs ls) h = (types_outline ts h.0, (vals_outline vs h.1.0, labelled_vals_outline ls h.1.1))

    labelled_vals_outline : (ls : LabelledVals) → LabelledValsStand P ls → OutlineStands (in_labelled_vals ls)
    labelled_vals_outline no_labelled_vals h = tt
    labelled_vals_outline (more_labelled_vals ls x v) h = (labelled_vals_outline ls h.0, ((tt, h.1.0), val_outline v h.1.1))

    proc_outline : (p : Proc) → ProcStands P p → OutlineStands (in_proc p)
    proc_outline (send_proc s c v) h = (chan_outline c h.1.0, val_outline v h.1.1)
    proc_outline (receive_proc s c a) h = (chan_outline c h.1.0, abs_outline a h.1.1)
    proc_outline (serve_proc s c a) h = (chan_outline c h.1.0, abs_outline a h.1.1)
    proc_outline (if_proc s v p q) h = (val_outline v h.1.0, (proc_outline p h.1.1.0, proc_outline q h.1.1.1))
    proc_outline (inert_proc s) h = tt
    proc_outline (group_proc s ds ps) h = (decs_outline ds h.1.0, procs_outline ps h.1.1)

    procs_outline : (ps : Procs) → ProcsStand P ps → OutlineStands (in_procs ps)
    procs_outline no_procs h = tt
    procs_outline (more_procs ps p) h = (procs_outline ps h.0, proc_outline p h.1)

  -- the stop of a program whose places all have the property
  pub scope_stands : (names : List (List ℕ)) (p : Decs) (c : Code) (s : Span) → DecsStand P p → scope_stop names p ≡ Some (c, s) → Line P (c, s)
  scope_stands names p c s h is =
      let stands : StopStands (scope_stop names p) = first_stands (program_marks names p) (marks_stand (in_decs p) (outermost names) (decs_outline p h)) in
      subst StopStands is stands
