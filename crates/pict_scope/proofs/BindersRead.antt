-- Each target that is no primitive is one of the binders that the program has.
use Rattle.std.proofs.Common.{◌≡◌, ℕ, suc, ◌+◌, ◌<◌, Bool, true, false, nat_eq, not, cond, List, [], ◌∷◌, ◌++◌, map, length, Option, Some, None, ◌⊎◌, inl, inr, refl, sym, ◌∙◌, ap, subst, arith}
use Rattle.std.specs.Prelude.{if◌then◌else◌}
use Rattle.std.specs.List.{position_or_len}
use Rattle.std.proofs.lemmas.Bool.{eqb-true, eq-eqb}
use Rattle.pict_syntax.specs.declared.code.Code.{Code}
use Rattle.pict_syntax.specs.declared.code.Code.TheVariants.{S3, S4}
use Rattle.pict_syntax.specs.declared.id.Id.{Id}
use Rattle.pict_syntax.specs.Trees.{TypeTree, top_type, int_type, char_type, string_type, bool_type, use_type, both_type, read_type, write_type, respond_type, fields_type, apply_type, rec_type, TypeBinder, type_binder, Bound, unbounded, bound, TypeTrees, no_types, more_types, TypeBinders, no_binders, more_binders, LabelledTypes, no_labelled_types, more_labelled_types, RType, Pat, bind_pat, any_pat, fields_pat, fold_pat, FieldPats, field_pats, Pats, no_pats, more_pats, LabelledPats, no_labelled_pats, more_labelled_pats, Dec, new_dec, run_dec, let_dec, def_dec, alias_dec, operator_dec, await_dec, Decs, no_decs, more_decs, Definitions, no_definitions, more_definitions, Abs, process_abs, function_abs, Chan, use_chan, fold_chan, block_chan, apply_chan, right_chan, left_chan, Val, of_chan, number_val, character_val, string_val, true_val, false_val, fields_val, if_val, lambda_val, Vals, no_vals, more_vals, FieldVals, field_vals, LabelledVals, no_labelled_vals, more_labelled_vals, Proc, send_proc, receive_proc, serve_proc, if_proc, inert_proc, group_proc, Procs, no_procs, more_procs}
use Rattle.pict_binders.specs.declared.binders.Binder.{Binder}
use Rattle.pict_binders.specs.Numbered.{nearest}
use Rattle.pict_scope.specs.declared.target.Target.{Target}
use Rattle.pict_scope.specs.declared.target.Target.TheVariants.{Prim, Binder as BinderTarget}
use Rattle.pict_scope.specs.Around.{Around, is_among, with_value, with_values, with_group}
use Rattle.pict_scope.specs.Marks.{Mark, first_stop, value_meanings, binders_read, by_place}
use Rattle.pict_scope.specs.Outlines.{Outline, empty, ◌▸◌, binds_type, binds_all, defines, group, once, opens, marks, twice_if, bound_as}
use Rattle.pict_scope.specs.Forms.{in_type, in_types, in_labelled_types, in_binders, in_binder, in_bound, in_annotation, in_pattern_binder, in_pattern_binders, in_pat, in_field_pats, in_pats, in_labelled_pats, with_parameters, defined, in_dec, in_decs, in_definitions, in_abs, in_chan, in_val, in_vals, in_field_vals, in_labelled_vals, in_proc, in_procs}
use Rattle.pict_scope.specs.Scopes.{outermost, program_marks}
use Rattle.pict_scope.specs.Laws.{TargetsAreBinders, AreAmongBinders}
use Rattle.pict_scope.proofs.Clean.{left_clean, right_clean}
use Rattle.pict_scope.proofs.Reading.{binders_both}
use Rattle.pict_scope.proofs.LabelsScoped.{not_yet, not_before, other_name}
use Rattle.pict_scope.proofs.KnownBinders.{StandsIn, EachIn, EachKnown, AreKnown, in_left, in_right, Known, IsFine, empty_fine, then_fine, closed_fine, value_use_fine, type_use_fine, binds_value_fine, binds_type_fine, defines_fine, pattern_value_fine, pattern_type_fine, pattern_fine, group_fine, once_fine}

-- types, patterns
mutual
  type_fine : (t : TypeTree) → IsFine (in_type t)
  type_fine (top_type s) = empty_fine
  type_fine (int_type s) = empty_fine
  type_fine (char_type s) = empty_fine
  type_fine (string_type s) = empty_fine
  type_fine (bool_type s) = empty_fine
  type_fine (use_type s n) = type_use_fine s n.0
  type_fine (both_type s t) = type_fine t
  type_fine (read_type s t) = type_fine t
  type_fine (write_type s t) = type_fine t
  type_fine (respond_type s t) = type_fine t
  type_fine (fields_type s bs ts ls) =
      closed_fine _ (then_fine _ _ (group_fine _ (binders_fine bs)) (then_fine _ _ (types_fine ts) (group_fine _ (labelled_types_fine ls))))
  type_fine (apply_type s x ts) = then_fine _ _ (type_use_fine x.span x.name.0) (types_fine ts)
  type_fine (rec_type s x t) = closed_fine _ (then_fine _ _ (binds_type_fine x empty empty_fine) (type_fine t))

  types_fine : (ts : TypeTrees) → IsFine (in_types ts)
  types_fine no_types = empty_fine
  types_fine (more_types ts t) = then_fine _ _ (types_fine ts) (type_fine t)

  labelled_types_fine : (ls : LabelledTypes) → IsFine (in_labelled_types ls)
  labelled_types_fine no_labelled_types = empty_fine
  labelled_types_fine (more_labelled_types ls l t) = then_fine _ _ (labelled_types_fine ls) (then_fine _ _ (once_fine S4 l) (type_fine t))

  binders_fine : (bs : TypeBinders) → IsFine (in_binders bs)
  binders_fine no_binders = empty_fine
  binders_fine (more_binders bs b) = then_fine _ _ (binders_fine bs) (binder_fine b)

  binder_fine : (b : TypeBinder) → IsFine (in_binder b)
  binder_fine (type_binder s x k b) = then_fine _ _ (once_fine S3 x) (binds_type_fine x _ (bound_fine b))

  bound_fine : (b : Bound) → IsFine (in_bound b)
  bound_fine unbounded = empty_fine
  bound_fine (bound t) = type_fine t

annotation_fine : (r : RType) → IsFine (in_annotation r)
annotation_fine None = empty_fine
annotation_fine (Some t) = type_fine t

own_binder_fine : (b : TypeBinder) → IsFine (in_pattern_binder b)
own_binder_fine (type_binder s x k b) = pattern_type_fine x _ (bound_fine b)

own_binders_fine : (bs : TypeBinders) → IsFine (in_pattern_binders bs)
own_binders_fine no_binders = empty_fine
own_binders_fine (more_binders bs b) = then_fine _ _ (own_binders_fine bs) (own_binder_fine b)

mutual
  pat_fine : (p : Pat) → IsFine (in_pat p)
  pat_fine (bind_pat s x r) = then_fine _ _ (pattern_value_fine x) (annotation_fine r)
  pat_fine (any_pat s r) = annotation_fine r
  pat_fine (fields_pat s f) = closed_fine _ (field_pats_fine f)
  pat_fine (fold_pat s r p) = then_fine _ _ (annotation_fine r) (pat_fine p)

  field_pats_fine : (f : FieldPats) → IsFine (in_field_pats f)
  field_pats_fine (field_pats bs ps ls) = then_fine _ _ (own_binders_fine bs) (then_fine _ _ (pats_fine ps) (group_fine _ (labelled_pats_fine ls)))

  pats_fine : (ps : Pats) → IsFine (in_pats ps)
  pats_fine no_pats = empty_fine
  pats_fine (more_pats ps p) = then_fine _ _ (pats_fine ps) (pat_fine p)

  labelled_pats_fine : (ls : LabelledPats) → IsFine (in_labelled_pats ls)
  labelled_pats_fine no_labelled_pats = empty_fine
  labelled_pats_fine (more_labelled_pats ls l p) = then_fine _ _ (labelled_pats_fine ls) (then_fine _ _ (once_fine S4 l) (pat_fine p))

parameters_fine : (o : Outline) (xs : List Id) → IsFine o → IsFine (with_parameters o xs)
parameters_fine o [] f = f
parameters_fine o (x ∷ xs) f = parameters_fine (o ▸ once S3 x ▸ binds_type x empty) xs (then_fine _ _ f (then_fine _ _ (once_fine S3 x) (binds_type_fine x empty empty_fine)))

-- the names of a `def` are apart
abbrev IsApart : ℕ → List Id → Type 0
IsApart n [] = Unit {0}
IsApart n (y ∷ ys) = (nat_eq y.name.0 n ≡ false) × IsApart n ys

abbrev AreApart : List Id → Type 0
AreApart [] = Unit {0}
AreApart (x ∷ xs) = IsApart x.name.0 xs × AreApart xs

apart_both : (n : ℕ) (xs ys : List Id) → IsApart n xs → IsApart n ys → IsApart n (xs ++ ys)
apart_both n [] ys h k = k
apart_both n (x ∷ xs) ys h k = (h.0, apart_both n xs ys h.1 k)

not_equal : (m n : ℕ) → (n ≡ m → ⊥) → nat_eq m n ≡ false
not_equal m n h = go (nat_eq m n) refl
  where
    go : (b : Bool) → nat_eq m n ≡ b → nat_eq m n ≡ false
    go false e = e
    go true e = absurd (h (sym (eqb-true m n e)))

turned : (m n : ℕ) → nat_eq m n ≡ false → nat_eq n m ≡ false
turned m n h = not_equal n m (λ e. let z : true ≡ false = sym (eq-eqb m n e) ∙ h in cc)

apart_last : (xs : List Id) (x : Id) → AreApart xs → IsApart x.name.0 xs → AreApart (xs ++ x ∷ [])
apart_last [] x h k = (tt, tt)
apart_last (y ∷ ys) x h k = (apart_both y.name.0 ys (x ∷ []) h.0 (turned y.name.0 x.name.0 k.0, tt), apart_last ys x h.1 k.1)

-- a name that isn't in the group behind definitions is none of theirs
apart_from : (ds : Definitions) (a : Around) (n : ℕ) → is_among (opens (in_definitions ds) a).group n ≡ false → IsApart n (defined ds)
unfolding opens
apart_from no_definitions a n h = tt
apart_from (more_definitions ds x f) a n h =
    let e = opens (in_definitions ds) a in
    apart_both n (defined ds) (x ∷ []) (apart_from ds a n (not_before (once S3 x ▸ defines x ▸ in_abs f) e n h)) (not_equal x.name.0 n (other_name S3 x (defines x ▸ in_abs f) e n h), tt)

definitions_apart : (ds : Definitions) (a : Around) → first_stop (marks (in_definitions ds) a) ≡ None → AreApart (defined ds)
unfolding marks
definitions_apart no_definitions a h = tt
definitions_apart (more_definitions ds x f) a h =
    let e = opens (in_definitions ds) a in
    let b = is_among e.group x.name.0 in
    let later = marks (defines x ▸ in_abs f) (opens (once S3 x) e) in
    let new : b ≡ false = not_yet b S3 x (left_clean (twice_if b S3 x) later (right_clean (marks (in_definitions ds) a) (marks (once S3 x ▸ defines x ▸ in_abs f) e) h)) in
    apart_last (defined ds) x (definitions_apart ds a (left_clean (marks (in_definitions ds) a) (marks (once S3 x ▸ defines x ▸ in_abs f) e) h)) (apart_from ds a x.name.0 new)

-- definitions leave the binders of values around them as they are
abs_keeps : (f : Abs) (a : Around) → (opens (in_abs f) a).values ≡ a.values
unfolding opens
abs_keeps (process_abs s p q) a = refl
abs_keeps (function_abs s f r v) a = refl

definitions_keep : (ds : Definitions) (a : Around) → (opens (in_definitions ds) a).values ≡ a.values
unfolding opens
definitions_keep no_definitions a = refl
definitions_keep (more_definitions ds x f) a = abs_keeps f (opens (defines x) (opens (once S3 x) (opens (in_definitions ds) a))) ∙ definitions_keep ds a

-- the number of each name that is defined is known
abbrev AreFound : List ℕ → List Binder → List Id → Type 0
AreFound all bs [] = Unit {0}
AreFound all bs (x ∷ xs) = ((k : ℕ) → nearest bs x.name.0 ≡ Some k → StandsIn all k) × AreFound all bs xs

found_both : (all : List ℕ) (bs : List Binder) (xs ys : List Id) → AreFound all bs xs → AreFound all bs ys → AreFound all bs (xs ++ ys)
found_both all bs [] ys h k = k
found_both all bs (x ∷ xs) ys h k = (h.0, found_both all bs xs ys h.1 k)

bound_read : (all : List ℕ) (q : Option ℕ) (k : ℕ) → EachIn all (binders_read (bound_as q)) → q ≡ Some k → StandsIn all k
bound_read all None k h e = absurd cc
bound_read all (Some m) k h e = let z : m ≡ k = cc in subst (StandsIn all) z h.0

past_once : (all : List ℕ) (b : Bool) (c : Code) (x : Id) (ms : List Mark) → EachIn all (binders_read (twice_if b c x ++ ms)) → EachIn all (binders_read ms)
past_once all false c x ms h = h
past_once all true c x ms h = h

definitions_found : (all : List ℕ) (ds : Definitions) (a : Around) → EachIn all (binders_read (marks (in_definitions ds) a)) → AreFound all a.values (defined ds)
unfolding opens marks
definitions_found all no_definitions a h = tt
definitions_found all (more_definitions ds x f) a h =
    let e = opens (in_definitions ds) a in
    let ms = marks (in_definitions ds) a in
    let b = is_among e.group x.name.0 in
    let q = nearest e.values x.name.0 in
    let last = marks (in_abs f) (opens (defines x) (opens (once S3 x) e)) in
    let read : EachIn all (binders_read ms ++ binders_read (twice_if b S3 x ++ (bound_as q ++ last))) = subst (EachIn all) (binders_both ms (twice_if b S3 x ++ (bound_as q ++ last))) h in
    let mine : EachIn all (binders_read (bound_as q) ++ binders_read last) = subst (EachIn all) (binders_both (bound_as q) last) (past_once all b S3 x (bound_as q ++ last) (in_right all (binders_read ms) _ read)) in
    found_both all a.values (defined ds) (x ∷ []) (definitions_found all ds a (in_left all (binders_read ms) _ read))
    (λ k is. bound_read all q k (in_left all (binders_read (bound_as q)) (binders_read last) mine) (ap (λ bs. nearest bs x.name.0) (definitions_keep ds a) ∙ is), tt)

-- what is bound later has other names
nearest_past : (xs : List Id) (a : Around) (n : ℕ) → IsApart n xs → nearest (with_values xs a).values n ≡ nearest a.values n
nearest_past [] a n h = refl
nearest_past (x ∷ xs) a n h = nearest_past xs (with_value x a) n h.1 ∙ ap (λ b. if b then Some a.next_value else nearest a.values n) h.0

own_number : (x : Id) (a : Around) → nearest (with_value x a).values x.name.0 ≡ Some a.next_value
own_number x a = ap (λ b. if b then Some a.next_value else nearest a.values x.name.0) (eq-eqb x.name.0 x.name.0 refl)

all_known : (all : List ℕ) (xs : List Id) (a : Around) → AreApart xs → EachKnown all a.values → AreFound all (with_values xs a).values xs → EachKnown all (with_values xs a).values
all_known all [] a h k l = k
all_known all (x ∷ xs) a h k l =
    let mine : StandsIn all a.next_value = l.0 a.next_value (nearest_past xs (with_value x a) x.name.0 h.0 ∙ own_number x a) in
    all_known all xs (with_value x a) h.1 (mine, k) l.1

pub same_patterns : (xs : List Id) (a : Around) → (with_values xs a).pattern_values ≡ a.pattern_values
same_patterns [] a = refl
same_patterns (x ∷ xs) a = same_patterns xs (with_value x a)

def_fine : (ds : Definitions) → IsFine (in_definitions ds) → IsFine (binds_all (defined ds) ▸ group (in_definitions ds))
unfolding opens marks
def_fine ds f = record {
  fine = λ all a g.
      let b = with_values (defined ds) a in
      let c = with_group [] b in
      let values = all_known all (defined ds) a (definitions_apart ds c g.clean) g.known.values (definitions_found all ds c g.read) in
      let known : Known all b = record { values = values; pattern_values = subst (EachKnown all) (sym (same_patterns (defined ds) a)) g.known.pattern_values } in
      let inside = f.fine all c (record { known = record { values = known.values; pattern_values = known.pattern_values }; clean = g.clean; read = g.read }) in
      record { known = record { values = inside.known.values; pattern_values = inside.known.pattern_values }; meanings = inside.meanings };
}

-- declarations, values and processes
mutual
  dec_fine : (d : Dec) → IsFine (in_dec d)
  dec_fine (new_dec s x t) = then_fine _ _ (binds_value_fine x) (type_fine t)
  dec_fine (run_dec s p) = proc_fine p
  dec_fine (let_dec s p v) = pattern_fine _ _ (pat_fine p) (val_fine v)
  dec_fine (def_dec s ds) = def_fine ds (definitions_fine ds)
  dec_fine (alias_dec s x t) = binds_type_fine x _ (type_fine t)
  dec_fine (operator_dec s x xs t) = binds_type_fine x _ (closed_fine _ (then_fine _ _ (group_fine _ (parameters_fine empty xs empty_fine)) (type_fine t)))
  dec_fine (await_dec s v) = val_fine v

  decs_fine : (ds : Decs) → IsFine (in_decs ds)
  decs_fine no_decs = empty_fine
  decs_fine (more_decs ds d) = then_fine _ _ (decs_fine ds) (dec_fine d)

  definitions_fine : (ds : Definitions) → IsFine (in_definitions ds)
  definitions_fine no_definitions = empty_fine
  definitions_fine (more_definitions ds x f) = then_fine _ _ (definitions_fine ds) (then_fine _ _ (once_fine S3 x) (then_fine _ _ (defines_fine x) (abs_fine f)))

  abs_fine : (f : Abs) → IsFine (in_abs f)
  abs_fine (process_abs s p q) = closed_fine _ (then_fine _ _ (pattern_fine _ empty (pat_fine p) empty_fine) (proc_fine q))
  abs_fine (function_abs s f r v) = closed_fine _ (then_fine _ _ (pattern_fine _ empty (then_fine _ _ (field_pats_fine f) (annotation_fine r)) empty_fine) (val_fine v))

  chan_fine : (c : Chan) → IsFine (in_chan c)
  chan_fine (use_chan s n) = value_use_fine s n.0
  chan_fine (fold_chan s r v) = then_fine _ _ (annotation_fine r) (val_fine v)
  chan_fine (block_chan s ds v) = closed_fine _ (then_fine _ _ (decs_fine ds) (val_fine v))
  chan_fine (apply_chan s v f) = then_fine _ _ (val_fine v) (field_vals_fine f)
  chan_fine (right_chan s x vs) = then_fine _ _ (value_use_fine x.span x.name.0) (vals_fine vs)
  chan_fine (left_chan s x vs) = then_fine _ _ (value_use_fine x.span x.name.0) (vals_fine vs)

  val_fine : (v : Val) → IsFine (in_val v)
  val_fine (of_chan c) = chan_fine c
  val_fine (number_val s n) = empty_fine
  val_fine (character_val s b) = empty_fine
  val_fine (string_val s b) = empty_fine
  val_fine (true_val s) = empty_fine
  val_fine (false_val s) = empty_fine
  val_fine (fields_val s f) = field_vals_fine f
  val_fine (if_val s c v w) = then_fine _ _ (val_fine c) (then_fine _ _ (val_fine v) (val_fine w))
  val_fine (lambda_val s a) = abs_fine a

  vals_fine : (vs : Vals) → IsFine (in_vals vs)
  vals_fine no_vals = empty_fine
  vals_fine (more_vals vs v) = then_fine _ _ (vals_fine vs) (val_fine v)

  field_vals_fine : (f : FieldVals) → IsFine (in_field_vals f)
  field_vals_fine (field_vals ts vs ls) = then_fine _ _ (types_fine ts) (then_fine _ _ (vals_fine vs) (group_fine _ (labelled_vals_fine ls)))

  labelled_vals_fine : (ls : LabelledVals) → IsFine (in_labelled_vals ls)
  labelled_vals_fine no_labelled_vals = empty_fine
  labelled_vals_fine (more_labelled_vals ls l v) = then_fine _ _ (labelled_vals_fine ls) (then_fine _ _ (once_fine S4 l) (val_fine v))

  proc_fine : (p : Proc) → IsFine (in_proc p)
  proc_fine (send_proc s c v) = then_fine _ _ (chan_fine c) (val_fine v)
  proc_fine (receive_proc s c a) = then_fine _ _ (chan_fine c) (abs_fine a)
  proc_fine (serve_proc s c a) = then_fine _ _ (chan_fine c) (abs_fine a)
  proc_fine (if_proc s v p q) = then_fine _ _ (val_fine v) (then_fine _ _ (proc_fine p) (proc_fine q))
  proc_fine (inert_proc s) = empty_fine
  proc_fine (group_proc s ds ps) = closed_fine _ (then_fine _ _ (decs_fine ds) (procs_fine ps))

  procs_fine : (ps : Procs) → IsFine (in_procs ps)
  procs_fine no_procs = empty_fine
  procs_fine (more_procs ps p) = then_fine _ _ (procs_fine ps) (proc_fine p)

-- the place of a number that stands in a list
place_below : (all : List ℕ) (n : ℕ) → StandsIn all n → position_or_len (λ m. nat_eq n m) all < length all
place_below [] n h = absurd h
place_below (m ∷ ms) n h = go (place_below ms n) (nat_eq n m) refl h
  where
    go : (StandsIn ms n → position_or_len (λ k. nat_eq n k) ms < length ms) → (b : Bool) → nat_eq n m ≡ b → (n ≡ m) ⊎ StandsIn ms n → cond (not b) (1 + position_or_len (λ k. nat_eq n k) ms) 0 < suc (length ms)
    go r true e k = omega arith
    go r false e (inl same) = absurd (let z : true ≡ false = sym (eq-eqb n m same) ∙ e in cc)
    go r false e (inr k) = let below = r k in omega (arith, below)

one_more_in : (m : ℕ) (all ns : List ℕ) → EachIn all ns → EachIn (m ∷ all) ns
one_more_in m all [] h = tt
one_more_in m all (n ∷ ns) h = (inr h.0, one_more_in m all ns h.1)

in_itself : (ns : List ℕ) → EachIn ns ns
in_itself [] = tt
in_itself (n ∷ ns) = (inl refl, one_more_in n ns ns (in_itself ns))

among : (all : List ℕ) (ts : List Target) → AreKnown all ts → AreAmongBinders (length all) (map (by_place all) ts)
among all [] h = tt
among all (Prim p ∷ ts) h = (tt, among all ts h.1)
among all (BinderTarget n ∷ ts) h = (place_below all n h.0, among all ts h.1)

pub targets_are_binders : TargetsAreBinders
targets_are_binders texts p h =
    let all = binders_read (program_marks texts p) in
    let whole = decs_fine p in
    let gives = whole.fine all (outermost texts) (record { known = record { values = tt; pattern_values = tt }; clean = h; read = in_itself all }) in
    among all (value_meanings (program_marks texts p)) gives.meanings
