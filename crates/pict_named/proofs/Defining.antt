-- The names of a `def` are bound where they are read.
use Rattle.std.proofs.Common.{◌≡◌, ℕ, nat_eq, Bool, true, false, if◌then◌else◌, List, [], ◌∷◌, ◌++◌, Some, None, refl, sym, ◌∙◌, ap, subst, eqb-true, eq-eqb}
use Rattle.pict_syntax.specs.declared.code.Code.TheVariants.{S3}
use Rattle.pict_syntax.specs.declared.id.Id.{Id}
use Rattle.pict_syntax.specs.Trees.{TypeTree, top_type, int_type, char_type, string_type, bool_type, use_type, both_type, read_type, write_type, respond_type, fields_type, apply_type, rec_type, TypeBinder, type_binder, Bound, unbounded, bound, TypeTrees, no_types, more_types, TypeBinders, no_binders, more_binders, LabelledTypes, no_labelled_types, more_labelled_types, RType, Pat, bind_pat, any_pat, fields_pat, fold_pat, FieldPats, field_pats, Pats, no_pats, more_pats, LabelledPats, no_labelled_pats, more_labelled_pats, Dec, new_dec, run_dec, let_dec, def_dec, alias_dec, operator_dec, await_dec, Decs, no_decs, more_decs, Definitions, no_definitions, more_definitions, Abs, process_abs, function_abs, Chan, use_chan, fold_chan, block_chan, apply_chan, right_chan, left_chan, Val, of_chan, number_val, character_val, string_val, true_val, false_val, fields_val, if_val, lambda_val, Vals, no_vals, more_vals, FieldVals, field_vals, LabelledVals, no_labelled_vals, more_labelled_vals, Proc, send_proc, receive_proc, serve_proc, if_proc, inert_proc, group_proc, Procs, no_procs, more_procs}
use Rattle.pict_scope.specs.Around.{Around, is_among, with_group, before_pattern, behind_pattern}
use Rattle.pict_scope.specs.Marks.{first_stop}
use Rattle.pict_scope.specs.Outlines.{Outline, empty, ◌▸◌, closed, value_use, type_use, binds_value, binds_type, binds_all, defines, pattern_value, pattern_type, pattern, group, once, opens, marks}
use Rattle.pict_scope.specs.Forms.{in_type, in_types, in_labelled_types, in_binders, in_binder, in_bound, in_annotation, in_pattern_binder, in_pattern_binders, in_pat, in_field_pats, in_pats, in_labelled_pats, with_parameters, defined, in_dec, in_decs, in_definitions, in_abs, in_chan, in_val, in_vals, in_field_vals, in_labelled_vals, in_proc, in_procs}
use Rattle.pict_scope.proofs.Clean.{left_clean, right_clean}
use Rattle.pict_scope.proofs.LabelsScoped.{other_name, not_before, not_yet}
use Rattle.pict_named.specs.Extents.{defined_values}
use Rattle.pict_named.proofs.Standing.{Ids, no_pattern, some, stands}
use Rattle.pict_named.proofs.Values.{Defined, first_id}
use Rattle.pict_named.proofs.Trees.{is_definitions, onto_defined}

abbrev NoDefines : Outline → Type 0
NoDefines (o ▸ p) = NoDefines o × NoDefines p
NoDefines (closed o) = NoDefines o
NoDefines (binds_type x o) = NoDefines o
NoDefines (defines x) = ⊥
NoDefines (pattern_type x o) = NoDefines o
NoDefines (pattern o p) = NoDefines o × NoDefines p
NoDefines (group o) = NoDefines o
NoDefines _ = Unit {0}

none_defined : (o : Outline) (g : Ids) → NoDefines o → Defined o g
unfolding Defined
none_defined empty g h = tt
none_defined (o ▸ p) g h = (none_defined o g h.0, none_defined p (stands o g) h.1)
none_defined (closed o) g h = none_defined o g h
none_defined (value_use s n) g h = tt
none_defined (type_use s n) g h = tt
none_defined (binds_value x) g h = tt
none_defined (binds_type x o) g h = none_defined o g h
none_defined (binds_all xs) g h = tt
none_defined (defines x) g h = absurd h
none_defined (pattern_value x) g h = tt
none_defined (pattern_type x o) g h = none_defined o g h
none_defined (pattern o p) g h = (none_defined o (no_pattern g) h.0, none_defined p g h.1)
none_defined (group o) g h = none_defined o g h
none_defined (once c x) g h = tt

-- types and patterns define nothing
mutual
  type_none : (t : TypeTree) → NoDefines (in_type t)
  type_none (top_type s) = tt
  type_none (int_type s) = tt
  type_none (char_type s) = tt
  type_none (string_type s) = tt
  type_none (bool_type s) = tt
  type_none (use_type s n) = tt
  type_none (both_type s t) = type_none t
  type_none (read_type s t) = type_none t
  type_none (write_type s t) = type_none t
  type_none (respond_type s t) = type_none t
  type_none (fields_type s bs ts ls) = (binders_none bs, (types_none ts, labelled_types_none ls))
  type_none (apply_type s x ts) = (tt, types_none ts)
  type_none (rec_type s x t) = (tt, type_none t)

  types_none : (ts : TypeTrees) → NoDefines (in_types ts)
  types_none no_types = tt
  types_none (more_types ts t) = (types_none ts, type_none t)

  labelled_types_none : (ls : LabelledTypes) → NoDefines (in_labelled_types ls)
  labelled_types_none no_labelled_types = tt
  labelled_types_none (more_labelled_types ls l t) = (labelled_types_none ls, (tt, type_none t))

  binders_none : (bs : TypeBinders) → NoDefines (in_binders bs)
  binders_none no_binders = tt
  binders_none (more_binders bs b) = (binders_none bs, binder_none b)

  binder_none : (b : TypeBinder) → NoDefines (in_binder b)
  binder_none (type_binder s x k b) = (tt, type_bound_none b)

  type_bound_none : (b : Bound) → NoDefines (in_bound b)
  type_bound_none unbounded = tt
  type_bound_none (bound t) = type_none t

annotation_none : (r : RType) → NoDefines (in_annotation r)
annotation_none None = tt
annotation_none (Some t) = type_none t

pattern_binder_none : (b : TypeBinder) → NoDefines (in_pattern_binder b)
pattern_binder_none (type_binder s x k b) = type_bound_none b

pattern_binders_none : (bs : TypeBinders) → NoDefines (in_pattern_binders bs)
pattern_binders_none no_binders = tt
pattern_binders_none (more_binders bs b) = (pattern_binders_none bs, pattern_binder_none b)

mutual
  pat_none : (p : Pat) → NoDefines (in_pat p)
  pat_none (bind_pat s x r) = (tt, annotation_none r)
  pat_none (any_pat s r) = annotation_none r
  pat_none (fields_pat s f) = field_pats_none f
  pat_none (fold_pat s r p) = (annotation_none r, pat_none p)

  field_pats_none : (f : FieldPats) → NoDefines (in_field_pats f)
  field_pats_none (field_pats bs ps ls) = (pattern_binders_none bs, (pats_none ps, labelled_pats_none ls))

  pats_none : (ps : Pats) → NoDefines (in_pats ps)
  pats_none no_pats = tt
  pats_none (more_pats ps p) = (pats_none ps, pat_none p)

  labelled_pats_none : (ls : LabelledPats) → NoDefines (in_labelled_pats ls)
  labelled_pats_none no_labelled_pats = tt
  labelled_pats_none (more_labelled_pats ls l p) = (labelled_pats_none ls, (tt, pat_none p))

parameters_none : (o : Outline) (xs : List Id) → NoDefines o → NoDefines (with_parameters o xs)
parameters_none o [] h = h
parameters_none o (x ∷ xs) h = parameters_none _ xs (h, (tt, tt))

-- an outline in which no rule fails, at some place
record IsClean (o : Outline) : Type 0 where
  around : Around
  clean : first_stop (marks o around) ≡ None

first : {o p : Outline} → IsClean (o ▸ p) → IsClean o
unfolding marks
first {o = o} {p = p} h = record { around = h.around; clean = left_clean (marks o h.around) (marks p (opens o h.around)) h.clean }

second : {o p : Outline} → IsClean (o ▸ p) → IsClean p
unfolding marks
second {o = o} {p = p} h = record { around = opens o h.around; clean = right_clean (marks o h.around) (marks p (opens o h.around)) h.clean }

inside : {o : Outline} → IsClean (closed o) → IsClean o
unfolding marks
inside h = record { around = h.around; clean = h.clean }

inside_group : {o : Outline} → IsClean (group o) → IsClean o
unfolding marks
inside_group h = record { around = with_group [] h.around; clean = h.clean }

behind : {o p : Outline} → IsClean (pattern o p) → IsClean p
unfolding marks
behind {o = o} {p = p} h =
    let d = behind_pattern h.around (opens o (before_pattern h.around)) in
    record { around = d; clean = right_clean (marks o (before_pattern h.around)) (marks p d) h.clean }

-- the names of a `def` are distinct
abbrev IsNew : ℕ → Definitions → Type 0
IsNew n no_definitions = Unit {0}
IsNew n (more_definitions ds x f) = IsNew n ds × (n ≡ x.name.0 → ⊥)

abbrev AreNew : Definitions → Type 0
AreNew no_definitions = Unit {0}
AreNew (more_definitions ds x f) = AreNew ds × IsNew x.name.0 ds

is_new : (ds : Definitions) (a : Around) (n : ℕ) → is_among (opens (in_definitions ds) a).group n ≡ false → IsNew n ds
unfolding opens
is_new no_definitions a n h = tt
is_new (more_definitions ds x f) a n h =
    let b = opens (in_definitions ds) a in
    (is_new ds a n (not_before (once S3 x ▸ defines x ▸ in_abs f) b n h), other_name S3 x (defines x ▸ in_abs f) b n h)

first_time : (x : Id) (a : Around) → first_stop (marks (once S3 x) a) ≡ None → is_among a.group x.name.0 ≡ false
unfolding marks
first_time x a h = not_yet (is_among a.group x.name.0) S3 x h

are_new : (ds : Definitions) → IsClean (in_definitions ds) → AreNew ds
unfolding marks
are_new no_definitions h = tt
are_new (more_definitions ds x f) h =
    let b = opens (in_definitions ds) h.around in
    let c : first_stop (marks (once S3 x ▸ defines x ▸ in_abs f) b) ≡ None = right_clean (marks (in_definitions ds) h.around) (marks (once S3 x ▸ defines x ▸ in_abs f) b) h.clean in
    (are_new ds (first h), is_new ds h.around x.name.0 (first_time x b (left_clean (marks (once S3 x) b) (marks (defines x ▸ in_abs f) (opens (once S3 x) b)) c)))

-- and so each is the nearest of its name behind all of them
abbrev AllKnown : Definitions → List Id → Type 0
AllKnown no_definitions xs = Unit {0}
AllKnown (more_definitions ds x f) xs = AllKnown ds xs × (first_id xs x.name.0 ≡ Some x)

at_head : (x : Id) (xs : List Id) → first_id (x ∷ xs) x.name.0 ≡ Some x
at_head x xs = ap (λ b. if b then some x else first_id xs x.name.0) (eq-eqb x.name.0 x.name.0 refl)

past_head : (x y : Id) (xs : List Id) → (x.name.0 ≡ y.name.0 → ⊥) → first_id (x ∷ xs) y.name.0 ≡ first_id xs y.name.0
past_head x y xs h = go (nat_eq x.name.0 y.name.0) refl
  where
    go : (b : Bool) → nat_eq x.name.0 y.name.0 ≡ b → (if b then some x else first_id xs y.name.0) ≡ first_id xs y.name.0
    go true e = absurd (h (eqb-true x.name.0 y.name.0 e))
    go false e = refl

known_further : (ds : Definitions) (x : Id) (xs : List Id) → IsNew x.name.0 ds → AllKnown ds xs → AllKnown ds (x ∷ xs)
known_further no_definitions x xs n h = tt
known_further (more_definitions ds y f) x xs n h = (known_further ds x xs n.0 h.0, past_head x y xs n.1 ∙ h.1)

all_known : (ds : Definitions) (xs : List Id) → AreNew ds → AllKnown ds (defined_values ds ++ xs)
all_known no_definitions xs h = tt
all_known (more_definitions ds x f) xs h = (known_further ds x (defined_values ds ++ xs) h.1 (all_known ds xs h.0), at_head x (defined_values ds ++ xs))

mutual
  unfolding Defined stands

  dec_defined : (d : Dec) (g : Ids) → IsClean (in_dec d) → Defined (in_dec d) g
  dec_defined (new_dec s x t) g c = (tt, none_defined (in_type t) (stands (binds_value x) g) (type_none t))
  dec_defined (run_dec s p) g c = proc_defined p g c
  dec_defined (let_dec s p v) g c = (none_defined (in_pat p) (no_pattern g) (pat_none p), val_defined v g (behind c))
  dec_defined (def_dec s ds) g c =
      let d : IsClean (in_definitions ds) = inside_group (second c) in
      (tt, definitions_defined ds (stands (binds_all (defined ds)) g) d (subst (AllKnown ds) (sym (onto_defined ds g.values)) (all_known ds g.values (are_new ds d))))
  dec_defined (alias_dec s x t) g c = none_defined (in_type t) g (type_none t)
  dec_defined (operator_dec s x xs t) g c = none_defined (in_dec (operator_dec s x xs t)) g (parameters_none empty xs tt, type_none t)
  dec_defined (await_dec s v) g c = val_defined v g c

  decs_defined : (ds : Decs) (g : Ids) → IsClean (in_decs ds) → Defined (in_decs ds) g
  decs_defined no_decs g c = tt
  decs_defined (more_decs ds d) g c = (decs_defined ds g (first c), dec_defined d (stands (in_decs ds) g) (second c))

  definitions_defined : (ds : Definitions) (g : Ids) → IsClean (in_definitions ds) → AllKnown ds g.values → Defined (in_definitions ds) g
  definitions_defined no_definitions g c h = tt
  definitions_defined (more_definitions ds x f) g c h =
      let b = stands (in_definitions ds) g in
      (definitions_defined ds g (first c) h.0, (tt, (subst (λ xs. first_id xs x.name.0 ≡ Some x) (sym ((is_definitions ds).keeps_values g)) h.1, abs_defined f b (second (second (second c))))))

  abs_defined : (f : Abs) (g : Ids) → IsClean (in_abs f) → Defined (in_abs f) g
  abs_defined (process_abs s p q) g c = (none_defined (pattern (in_pat p) empty) g (pat_none p, tt), proc_defined q (stands (pattern (in_pat p) empty) g) (second (inside c)))
  abs_defined (function_abs s f r v) g c =
      (none_defined (pattern (in_field_pats f ▸ in_annotation r) empty) g ((field_pats_none f, annotation_none r), tt), val_defined v (stands (pattern (in_field_pats f ▸ in_annotation r) empty) g) (second (inside c)))

  chan_defined : (c : Chan) (g : Ids) → IsClean (in_chan c) → Defined (in_chan c) g
  chan_defined (use_chan s n) g c = tt
  chan_defined (fold_chan s r v) g c = (none_defined (in_annotation r) g (annotation_none r), val_defined v (stands (in_annotation r) g) (second c))
  chan_defined (block_chan s ds v) g c = (decs_defined ds g (first (inside c)), val_defined v (stands (in_decs ds) g) (second (inside c)))
  chan_defined (apply_chan s v f) g c = (val_defined v g (first c), field_vals_defined f (stands (in_val v) g) (second c))
  chan_defined (right_chan s x vs) g c = (tt, vals_defined vs g (second c))
  chan_defined (left_chan s x vs) g c = (tt, vals_defined vs g (second c))

  val_defined : (v : Val) (g : Ids) → IsClean (in_val v) → Defined (in_val v) g
  val_defined (of_chan c) g h = chan_defined c g h
  val_defined (number_val s n) g c = tt
  val_defined (character_val s b) g c = tt
  val_defined (string_val s b) g c = tt
  val_defined (true_val s) g c = tt
  val_defined (false_val s) g c = tt
  val_defined (fields_val s f) g c = field_vals_defined f g c
  val_defined (if_val s c v w) g h =
      (val_defined c g (first h), (val_defined v (stands (in_val c) g) (first (second h)), val_defined w (stands (in_val v) (stands (in_val c) g)) (second (second h))))
  val_defined (lambda_val s f) g c = abs_defined f g c

  vals_defined : (vs : Vals) (g : Ids) → IsClean (in_vals vs) → Defined (in_vals vs) g
  vals_defined no_vals g c = tt
  vals_defined (more_vals vs v) g c = (vals_defined vs g (first c), val_defined v (stands (in_vals vs) g) (second c))

  field_vals_defined : (f : FieldVals) (g : Ids) → IsClean (in_field_vals f) → Defined (in_field_vals f) g
  field_vals_defined (field_vals ts vs ls) g c =
      (none_defined (in_types ts) g (types_none ts), (vals_defined vs (stands (in_types ts) g) (first (second c)), labelled_vals_defined ls (stands (in_vals vs) (stands (in_types ts) g)) (inside_group (second (second c)))))

  labelled_vals_defined : (ls : LabelledVals) (g : Ids) → IsClean (in_labelled_vals ls) → Defined (in_labelled_vals ls) g
  labelled_vals_defined no_labelled_vals g c = tt
  labelled_vals_defined (more_labelled_vals ls l v) g c = (labelled_vals_defined ls g (first c), (tt, val_defined v (stands (in_labelled_vals ls) g) (second (second c))))

  proc_defined : (p : Proc) (g : Ids) → IsClean (in_proc p) → Defined (in_proc p) g
  proc_defined (send_proc s c v) g h = (chan_defined c g (first h), val_defined v (stands (in_chan c) g) (second h))
  proc_defined (receive_proc s c f) g h = (chan_defined c g (first h), abs_defined f (stands (in_chan c) g) (second h))
  proc_defined (serve_proc s c f) g h = (chan_defined c g (first h), abs_defined f (stands (in_chan c) g) (second h))
  proc_defined (if_proc s v p q) g h =
      (val_defined v g (first h), (proc_defined p (stands (in_val v) g) (first (second h)), proc_defined q (stands (in_proc p) (stands (in_val v) g)) (second (second h))))
  proc_defined (inert_proc s) g c = tt
  proc_defined (group_proc s ds ps) g c = (decs_defined ds g (first (inside c)), procs_defined ps (stands (in_decs ds) g) (second (inside c)))

  procs_defined : (ps : Procs) (g : Ids) → IsClean (in_procs ps) → Defined (in_procs ps) g
  procs_defined no_procs g c = tt
  procs_defined (more_procs ps p) g c = (procs_defined ps g (first c), proc_defined p (stands (in_procs ps) g) (second c))

pub all_defined : (p : Decs) (g : Ids) (a : Around) → first_stop (marks (in_decs p) a) ≡ None → Defined (in_decs p) g
all_defined p g a c = decs_defined p g (record { around = a; clean = c })
