-- Where no rule of scopes fails in a program, no label stands twice in a phrase of it.
use Rattle.std.proofs.Common.{◌≡◌, ℕ, List, [], ◌∷◌, Bool, true, false, ◌||◌, Some, None, refl, sym, ◌∙◌, subst}
use Rattle.std.specs.Prelude.{nat_eq}
use Rattle.std.proofs.lemmas.Bool.{eq-eqb}
use Rattle.pict_syntax.specs.declared.code.Code.{Code}
use Rattle.pict_syntax.specs.declared.code.Code.TheVariants.{S4}
use Rattle.pict_syntax.specs.declared.id.Id.{Id}
use Rattle.pict_syntax.specs.Trees.{TypeTree, top_type, int_type, char_type, string_type, bool_type, use_type, both_type, read_type, write_type, respond_type, fields_type, apply_type, rec_type, TypeBinder, type_binder, Bound, unbounded, bound, TypeTrees, no_types, more_types, TypeBinders, no_binders, more_binders, LabelledTypes, no_labelled_types, more_labelled_types, RType, Pat, bind_pat, any_pat, fields_pat, fold_pat, FieldPats, field_pats, Pats, no_pats, more_pats, LabelledPats, no_labelled_pats, more_labelled_pats, Dec, new_dec, run_dec, let_dec, def_dec, alias_dec, operator_dec, await_dec, Decs, no_decs, more_decs, Definitions, no_definitions, more_definitions, Abs, process_abs, function_abs, Chan, use_chan, fold_chan, block_chan, apply_chan, right_chan, left_chan, Val, of_chan, number_val, character_val, string_val, true_val, false_val, fields_val, if_val, lambda_val, Vals, no_vals, more_vals, FieldVals, field_vals, LabelledVals, no_labelled_vals, more_labelled_vals, Proc, send_proc, receive_proc, serve_proc, if_proc, inert_proc, group_proc, Procs, no_procs, more_procs}
use Rattle.pict_binders.specs.Numbered.{nearest}
use Rattle.pict_scope.specs.Around.{Around, is_among, with_values, with_group, past_type, before_pattern, behind_pattern}
use Rattle.pict_scope.specs.Marks.{first_stop}
use Rattle.pict_scope.specs.Outlines.{Outline, empty, ◌▸◌, closed, value_use, type_use, binds_value, binds_type, binds_all, defines, pattern_value, pattern_type, pattern, group, once, opens, marks, twice_if, twice_if_bound}
use Rattle.pict_scope.specs.Forms.{in_type, in_types, in_labelled_types, in_binders, in_binder, in_bound, in_annotation, in_pattern_binder, in_pattern_binders, in_pat, in_field_pats, in_pats, in_labelled_pats, in_dec, in_decs, in_definitions, in_abs, in_chan, in_val, in_vals, in_field_vals, in_labelled_vals, in_proc, in_procs}
use Rattle.pict_scope.specs.Scopes.{outermost}
use Rattle.pict_scope.specs.DistinctLabels.{IsNewLabel, HasDistinctLabels, TypesHaveDistinctLabels, AreDistinct, BindersHaveDistinctLabels, BinderHasDistinctLabels, BoundHasDistinctLabels, IsNewPattern, IsNewValue, AnnotationHasDistinctLabels, PatHasDistinctLabels, FieldPatsHaveDistinctLabels, PatsHaveDistinctLabels, LabelledPatsAreDistinct, DecHasDistinctLabels, DecsHaveDistinctLabels, DefinitionsHaveDistinctLabels, AbsHasDistinctLabels, ChanHasDistinctLabels, ValHasDistinctLabels, ValsHaveDistinctLabels, FieldValsHaveDistinctLabels, LabelledValsAreDistinct, ProcHasDistinctLabels, ProcsHaveDistinctLabels}
use Rattle.pict_scope.specs.Laws.{NoLabelTwice}
use Rattle.pict_scope.proofs.Clean.{left_clean, right_clean}

-- what stands in the group of a place stands in it further on
values_group : (xs : List Id) (a : Around) → (with_values xs a).group ≡ a.group
values_group [] a = refl
values_group (x ∷ xs) a = values_group xs _

one_more : (m n : ℕ) (ms : List ℕ) → is_among ms n ≡ true → is_among (m ∷ ms) n ≡ true
one_more m n ms h = go (nat_eq m n)
  where
    go : (b : Bool) → (b || is_among ms n) ≡ true
    go true = refl
    go false = h

itself : (m : ℕ) (ms : List ℕ) → is_among (m ∷ ms) m ≡ true
itself m ms = let e : nat_eq m m ≡ true = eq-eqb m m refl in rw e refl

group_grows : (o : Outline) (a : Around) (n : ℕ) → is_among a.group n ≡ true → is_among (opens o a).group n ≡ true
unfolding opens
group_grows empty a n h = h
group_grows (o ▸ p) a n h = group_grows p (opens o a) n (group_grows o a n h)
group_grows (closed o) a n h = group_grows o a n h
group_grows (value_use s m) a n h = h
group_grows (type_use s m) a n h = h
group_grows (binds_value x) a n h = h
group_grows (binds_type x o) a n h = group_grows o _ n h
group_grows (binds_all xs) a n h = subst (λ ms. is_among ms n ≡ true) (sym (values_group xs a)) h
group_grows (defines x) a n h = h
group_grows (pattern_value x) a n h = h
group_grows (pattern_type x o) a n h = group_grows o _ n h
group_grows (pattern o p) a n h = group_grows p _ n (group_grows o _ n h)
group_grows (group o) a n h = h
group_grows (once c x) a n h = one_more x.name.0 n a.group h

no_way : {b : Bool} → b ≡ true → b ≡ false → ⊥
no_way p q = let z : true ≡ false = sym p ∙ q in cc

-- one name more: what isn't in the group behind it is another name, and wasn't in the group before
pub other_name : (c : Code) (x : Id) (o : Outline) (a : Around) (n : ℕ) → is_among (opens (once c x ▸ o) a).group n ≡ false → n ≡ x.name.0 → ⊥
unfolding opens
other_name c x o a n h e = no_way (group_grows o _ n (subst (λ m. is_among (x.name.0 ∷ a.group) m ≡ true) (sym e) (itself x.name.0 a.group))) h

pub not_before : (o : Outline) (a : Around) (n : ℕ) → is_among (opens o a).group n ≡ false → is_among a.group n ≡ false
not_before o a n h = go (is_among a.group n) refl
  where
    go : (b : Bool) → is_among a.group n ≡ b → is_among a.group n ≡ false
    go false e = e
    go true e = absurd (no_way (group_grows o a n e) h)

-- a name that is no refusal isn't in the group yet
pub not_yet : (b : Bool) (c : Code) (x : Id) → first_stop (twice_if b c x) ≡ None → b ≡ false
not_yet false c x h = refl
not_yet true c x h = absurd cc

-- an outline in which no rule fails, at some place
record IsClean (o : Outline) : Type 0 where
  around : Around
  clean : first_stop (marks o around) ≡ None

first : {o p : Outline} → IsClean (o ▸ p) → IsClean o
unfolding marks
first {o = o} {p = p} h = record { around = h.around; clean = left_clean (marks o h.around) (marks p (opens o h.around)) h.clean }

second : {o p : Outline} → IsClean (o ▸ p) → IsClean p
unfolding marks
second {o = o} {p = p} h = record { around = opens o h.around; clean = right_clean (marks o h.around) (marks p (opens o h.around)) h.clean }

in_closed : {o : Outline} → IsClean (closed o) → IsClean o
unfolding marks
in_closed h = record { around = h.around; clean = h.clean }

in_group : {o : Outline} → IsClean (group o) → IsClean o
unfolding marks
in_group h = record { around = with_group [] h.around; clean = h.clean }

in_binding : {x : Id} {o : Outline} → IsClean (binds_type x o) → IsClean o
unfolding marks
in_binding h = record { around = past_type h.around; clean = h.clean }

in_pattern_type : {x : Id} {o : Outline} → IsClean (pattern_type x o) → IsClean o
unfolding marks
in_pattern_type {x = x} {o = o} h = record { around = past_type h.around; clean = right_clean (twice_if_bound (nearest h.around.pattern_types x.name.0) x) (marks o (past_type h.around)) h.clean }

of_pattern : {o p : Outline} → IsClean (pattern o p) → IsClean o
unfolding marks
of_pattern {o = o} {p = p} h =
    let a = before_pattern h.around in
    record { around = a; clean = left_clean (marks o a) (marks p (behind_pattern h.around (opens o a))) h.clean }

behind_pattern_ : {o p : Outline} → IsClean (pattern o p) → IsClean p
unfolding marks
behind_pattern_ {o = o} {p = p} h =
    let a = before_pattern h.around in
    let b = behind_pattern h.around (opens o a) in
    record { around = b; clean = right_clean (marks o a) (marks p b) h.clean }

-- a list that grows by a label and what it labels: the label is not in the group before it
label_new : {o p : Outline} {c : Code} {x : Id} (h : IsClean (o ▸ once c x ▸ p)) → is_among (opens o h.around).group x.name.0 ≡ false
unfolding marks
label_new {o = o} {p = p} {c = c} {x = x} h =
    let a = opens o h.around in
    let b = is_among a.group x.name.0 in
    not_yet b c x (left_clean (twice_if b c x) (marks p (opens (once c x) a)) (right_clean (marks o h.around) (marks (once c x ▸ p) a) h.clean))

new_type : (n : ℕ) (ls : LabelledTypes) (a : Around) → is_among (opens (in_labelled_types ls) a).group n ≡ false → IsNewLabel n ls
unfolding opens
new_type n no_labelled_types a h = tt
new_type n (more_labelled_types ls l t) a h = (new_type n ls a (not_before (once S4 l ▸ in_type t) (opens (in_labelled_types ls) a) n h), other_name S4 l (in_type t) (opens (in_labelled_types ls) a) n h)

new_pattern : (n : ℕ) (ls : LabelledPats) (a : Around) → is_among (opens (in_labelled_pats ls) a).group n ≡ false → IsNewPattern n ls
unfolding opens
new_pattern n no_labelled_pats a h = tt
new_pattern n (more_labelled_pats ls l p) a h = (new_pattern n ls a (not_before (once S4 l ▸ in_pat p) (opens (in_labelled_pats ls) a) n h), other_name S4 l (in_pat p) (opens (in_labelled_pats ls) a) n h)

new_value : (n : ℕ) (ls : LabelledVals) (a : Around) → is_among (opens (in_labelled_vals ls) a).group n ≡ false → IsNewValue n ls
unfolding opens
new_value n no_labelled_vals a h = tt
new_value n (more_labelled_vals ls l v) a h = (new_value n ls a (not_before (once S4 l ▸ in_val v) (opens (in_labelled_vals ls) a) n h), other_name S4 l (in_val v) (opens (in_labelled_vals ls) a) n h)

mutual
  type_distinct : (t : TypeTree) → IsClean (in_type t) → HasDistinctLabels t
  type_distinct (top_type s) h = tt
  type_distinct (int_type s) h = tt
  type_distinct (char_type s) h = tt
  type_distinct (string_type s) h = tt
  type_distinct (bool_type s) h = tt
  type_distinct (use_type s n) h = tt
  type_distinct (both_type s t) h = type_distinct t h
  type_distinct (read_type s t) h = type_distinct t h
  type_distinct (write_type s t) h = type_distinct t h
  type_distinct (respond_type s t) h = type_distinct t h
  type_distinct (fields_type s bs ts ls) h =
      let k = second (in_closed h) in
      (binders_distinct bs (in_group (first (in_closed h))), (types_distinct ts (first k), labelled_distinct ls (in_group (second k))))
  type_distinct (apply_type s x ts) h = types_distinct ts (second h)
  type_distinct (rec_type s x t) h = type_distinct t (second (in_closed h))

  types_distinct : (ts : TypeTrees) → IsClean (in_types ts) → TypesHaveDistinctLabels ts
  types_distinct no_types h = tt
  types_distinct (more_types ts t) h = (types_distinct ts (first h), type_distinct t (second h))

  labelled_distinct : (ls : LabelledTypes) → IsClean (in_labelled_types ls) → AreDistinct ls
  labelled_distinct no_labelled_types h = tt
  labelled_distinct (more_labelled_types ls l t) h = (labelled_distinct ls (first h), (new_type l.name.0 ls h.around (label_new h), type_distinct t (second (second h))))

  binders_distinct : (bs : TypeBinders) → IsClean (in_binders bs) → BindersHaveDistinctLabels bs
  binders_distinct no_binders h = tt
  binders_distinct (more_binders bs b) h = (binders_distinct bs (first h), binder_distinct b (second h))

  binder_distinct : (b : TypeBinder) → IsClean (in_binder b) → BinderHasDistinctLabels b
  binder_distinct (type_binder s x k b) h = bound_distinct b (in_binding (second h))

  bound_distinct : (b : Bound) → IsClean (in_bound b) → BoundHasDistinctLabels b
  bound_distinct unbounded h = tt
  bound_distinct (bound t) h = type_distinct t h

annotation_distinct : (r : RType) → IsClean (in_annotation r) → AnnotationHasDistinctLabels r
annotation_distinct None h = tt
annotation_distinct (Some t) h = type_distinct t h

own_binder : (b : TypeBinder) → IsClean (in_pattern_binder b) → BinderHasDistinctLabels b
own_binder (type_binder s x k b) h = bound_distinct b (in_pattern_type h)

own_binders : (bs : TypeBinders) → IsClean (in_pattern_binders bs) → BindersHaveDistinctLabels bs
own_binders no_binders h = tt
own_binders (more_binders bs b) h = (own_binders bs (first h), own_binder b (second h))

mutual
  pat_distinct : (p : Pat) → IsClean (in_pat p) → PatHasDistinctLabels p
  pat_distinct (bind_pat s x r) h = annotation_distinct r (second h)
  pat_distinct (any_pat s r) h = annotation_distinct r h
  pat_distinct (fields_pat s f) h = field_pats_distinct f (in_closed h)
  pat_distinct (fold_pat s r p) h = (annotation_distinct r (first h), pat_distinct p (second h))

  field_pats_distinct : (f : FieldPats) → IsClean (in_field_pats f) → FieldPatsHaveDistinctLabels f
  field_pats_distinct (field_pats bs ps ls) h =
      let k = second h in
      (own_binders bs (first h), (pats_distinct ps (first k), labelled_pats_distinct ls (in_group (second k))))

  pats_distinct : (ps : Pats) → IsClean (in_pats ps) → PatsHaveDistinctLabels ps
  pats_distinct no_pats h = tt
  pats_distinct (more_pats ps p) h = (pats_distinct ps (first h), pat_distinct p (second h))

  labelled_pats_distinct : (ls : LabelledPats) → IsClean (in_labelled_pats ls) → LabelledPatsAreDistinct ls
  labelled_pats_distinct no_labelled_pats h = tt
  labelled_pats_distinct (more_labelled_pats ls l p) h = (labelled_pats_distinct ls (first h), (new_pattern l.name.0 ls h.around (label_new h), pat_distinct p (second (second h))))

mutual
  dec_distinct : (d : Dec) → IsClean (in_dec d) → DecHasDistinctLabels d
  dec_distinct (new_dec s x t) h = type_distinct t (second h)
  dec_distinct (run_dec s p) h = proc_distinct p h
  dec_distinct (let_dec s p v) h = (pat_distinct p (of_pattern h), val_distinct v (behind_pattern_ h))
  dec_distinct (def_dec s ds) h = definitions_distinct ds (in_group (second h))
  dec_distinct (alias_dec s x t) h = type_distinct t (in_binding h)
  dec_distinct (operator_dec s x xs t) h = type_distinct t (second (in_closed (in_binding h)))
  dec_distinct (await_dec s v) h = val_distinct v h

  decs_distinct : (ds : Decs) → IsClean (in_decs ds) → DecsHaveDistinctLabels ds
  decs_distinct no_decs h = tt
  decs_distinct (more_decs ds d) h = (decs_distinct ds (first h), dec_distinct d (second h))

  definitions_distinct : (ds : Definitions) → IsClean (in_definitions ds) → DefinitionsHaveDistinctLabels ds
  definitions_distinct no_definitions h = tt
  definitions_distinct (more_definitions ds x a) h = (definitions_distinct ds (first h), abs_distinct a (second (second (second h))))

  abs_distinct : (a : Abs) → IsClean (in_abs a) → AbsHasDistinctLabels a
  abs_distinct (process_abs s p q) h = let k = in_closed h in (pat_distinct p (of_pattern (first k)), proc_distinct q (second k))
  abs_distinct (function_abs s f r v) h =
      let k = in_closed h in
      let m = of_pattern (first k) in
      (field_pats_distinct f (first m), (annotation_distinct r (second m), val_distinct v (second k)))

  chan_distinct : (c : Chan) → IsClean (in_chan c) → ChanHasDistinctLabels c
  chan_distinct (use_chan s n) h = tt
  chan_distinct (fold_chan s r v) h = (annotation_distinct r (first h), val_distinct v (second h))
  chan_distinct (block_chan s ds v) h = let k = in_closed h in (decs_distinct ds (first k), val_distinct v (second k))
  chan_distinct (apply_chan s v f) h = (val_distinct v (first h), field_vals_distinct f (second h))
  chan_distinct (right_chan s x vs) h = vals_distinct vs (second h)
  chan_distinct (left_chan s x vs) h = vals_distinct vs (second h)

  val_distinct : (v : Val) → IsClean (in_val v) → ValHasDistinctLabels v
  val_distinct (of_chan c) h = chan_distinct c h
  val_distinct (number_val s n) h = tt
  val_distinct (character_val s b) h = tt
  val_distinct (string_val s b) h = tt
  val_distinct (true_val s) h = tt
  val_distinct (false_val s) h = tt
  val_distinct (fields_val s f) h = field_vals_distinct f h
  val_distinct (if_val s c v w) h = let k = second h in (val_distinct c (first h), (val_distinct v (first k), val_distinct w (second k)))
  val_distinct (lambda_val s a) h = abs_distinct a h

  vals_distinct : (vs : Vals) → IsClean (in_vals vs) → ValsHaveDistinctLabels vs
  vals_distinct no_vals h = tt
  vals_distinct (more_vals vs v) h = (vals_distinct vs (first h), val_distinct v (second h))

  field_vals_distinct : (f : FieldVals) → IsClean (in_field_vals f) → FieldValsHaveDistinctLabels f
  field_vals_distinct (field_vals ts vs ls) h =
      let k = second h in
      (types_distinct ts (first h), (vals_distinct vs (first k), labelled_vals_distinct ls (in_group (second k))))

  labelled_vals_distinct : (ls : LabelledVals) → IsClean (in_labelled_vals ls) → LabelledValsAreDistinct ls
  labelled_vals_distinct no_labelled_vals h = tt
  labelled_vals_distinct (more_labelled_vals ls l v) h = (labelled_vals_distinct ls (first h), (new_value l.name.0 ls h.around (label_new h), val_distinct v (second (second h))))

  proc_distinct : (p : Proc) → IsClean (in_proc p) → ProcHasDistinctLabels p
  proc_distinct (send_proc s c v) h = (chan_distinct c (first h), val_distinct v (second h))
  proc_distinct (receive_proc s c a) h = (chan_distinct c (first h), abs_distinct a (second h))
  proc_distinct (serve_proc s c a) h = (chan_distinct c (first h), abs_distinct a (second h))
  proc_distinct (if_proc s v p q) h = let k = second h in (val_distinct v (first h), (proc_distinct p (first k), proc_distinct q (second k)))
  proc_distinct (inert_proc s) h = tt
  proc_distinct (group_proc s ds ps) h = let k = in_closed h in (decs_distinct ds (first k), procs_distinct ps (second k))

  procs_distinct : (ps : Procs) → IsClean (in_procs ps) → ProcsHaveDistinctLabels ps
  procs_distinct no_procs h = tt
  procs_distinct (more_procs ps p) h = (procs_distinct ps (first h), proc_distinct p (second h))

pub scoped_distinct : NoLabelTwice
scoped_distinct texts p h = decs_distinct p (record { around = outermost texts; clean = h })
