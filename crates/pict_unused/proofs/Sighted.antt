-- The items of a program stand where scopes have its marks.
use Rattle.std.proofs.Common.{◌≡◌, ℕ, nat_eq, Bool, true, false, List, [], ◌∷◌, ◌++◌, Option, Some, None, refl, sym, ◌∙◌, ap, subst, append_assoc, append-nil, rules}
use Rattle.std.specs.Prelude.{IsSome, if◌then◌else◌}
use Rattle.pict_syntax.specs.declared.code.Code.{Code}
use Rattle.pict_syntax.specs.declared.span.Span.{Span}
use Rattle.pict_syntax.specs.declared.id.Id.{Id}
use Rattle.pict_syntax.specs.declared.code.Code.TheVariants.{S3}
use Rattle.pict_syntax.specs.Trees.{TypeTree, top_type, int_type, char_type, string_type, bool_type, use_type, both_type, read_type, write_type, respond_type, fields_type, apply_type, rec_type, TypeBinder, type_binder, Bound, unbounded, bound, TypeTrees, no_types, more_types, TypeBinders, no_binders, more_binders, LabelledTypes, no_labelled_types, more_labelled_types, RType, Pat, bind_pat, any_pat, fields_pat, fold_pat, FieldPats, field_pats, Pats, no_pats, more_pats, LabelledPats, no_labelled_pats, more_labelled_pats, Dec, new_dec, run_dec, let_dec, def_dec, alias_dec, operator_dec, await_dec, Decs, no_decs, more_decs, Definitions, no_definitions, more_definitions, Abs, process_abs, function_abs, Chan, use_chan, fold_chan, block_chan, apply_chan, right_chan, left_chan, Val, of_chan, number_val, character_val, string_val, true_val, false_val, fields_val, if_val, lambda_val, Vals, no_vals, more_vals, FieldVals, field_vals, LabelledVals, no_labelled_vals, more_labelled_vals, Proc, send_proc, receive_proc, serve_proc, if_proc, inert_proc, group_proc, Procs, no_procs, more_procs}
use Rattle.pict_binders.specs.declared.binders.Binder.{Binder}
use Rattle.pict_binders.specs.Numbered.{nearest}
use Rattle.pict_scope.specs.Around.{Around, past_type, before_pattern, behind_pattern, with_value, with_values, with_group}
use Rattle.pict_scope.specs.Marks.{Mark, value_used, type_used, value_bound, stands_twice}
use Rattle.pict_scope.specs.Outlines.{Outline, empty, ◌▸◌, closed, value_use, type_use, binds_value, binds_type, binds_all, defines, pattern_value, pattern_type, pattern, group, once, opens, marks, twice_if, twice_if_bound, bound_as}
use Rattle.pict_scope.specs.Forms.{in_type, in_types, in_labelled_types, in_binders, in_binder, in_bound, in_annotation, in_pattern_binders, in_pat, in_field_pats, in_pats, in_labelled_pats, with_parameters, defined, in_dec, in_decs, in_definitions, in_abs, in_chan, in_val, in_vals, in_field_vals, in_labelled_vals, in_proc, in_procs}
use Rattle.pict_scope.specs.Scopes.{outermost}
use Rattle.pict_unused.specs.declared.item.Role.{Role}
use Rattle.pict_unused.specs.declared.item.Role.TheVariants.{Sent, Received, Called, HandedOn}
use Rattle.pict_unused.specs.declared.item.Form.{Form}
use Rattle.pict_unused.specs.declared.item.Form.TheVariants.{New, Def, Pattern}
use Rattle.pict_unused.specs.declared.item.Item.{Item}
use Rattle.pict_unused.specs.declared.item.Item.TheVariants.{Use, Bind}
use Rattle.pict_unused.specs.Items.{then_pat, then_field_pats, then_pats, then_labelled_pats, then_dec, then_decs, then_definitions, then_abs, then_chan, then_val, then_vals, then_field_vals, then_labelled_vals, then_proc, then_procs}
use Rattle.pict_unused.specs.Sights.{used, bound as bound_sight, sights_of_marks, sights_of_items, ItemsAreMarks}

marks_both : (ms ns : List Mark) → sights_of_marks (ms ++ ns) ≡ sights_of_marks ms ++ sights_of_marks ns
marks_both [] ns = refl
marks_both (value_used s t ∷ ms) ns = ap (λ l. used s ∷ l) (marks_both ms ns)
marks_both (type_used s t ∷ ms) ns = marks_both ms ns
marks_both (value_bound n ∷ ms) ns = ap (λ l. bound_sight ∷ l) (marks_both ms ns)
marks_both (stands_twice c s ∷ ms) ns = marks_both ms ns

items_both : (is js : List Item) → sights_of_items (is ++ js) ≡ sights_of_items is ++ sights_of_items js
items_both [] js = refl
items_both (Use role s ∷ is) js = ap (λ l. used s ∷ l) (items_both is js)
items_both (Bind form x ∷ is) js = ap (λ l. bound_sight ∷ l) (items_both is js)

-- behind these items stand those that an outline marks, whatever is around it
Adds : Outline → List Item → List Item → Type 0
Adds o before after = (a : Around) → sights_of_items after ≡ sights_of_items before ++ sights_of_marks (marks o a)

-- the same of marks one after the other
both : (before between after : List Item) (ms ns : List Mark) → sights_of_items between ≡ sights_of_items before ++ sights_of_marks ms → sights_of_items after ≡ sights_of_items between ++ sights_of_marks ns
    → sights_of_items after ≡ sights_of_items before ++ sights_of_marks (ms ++ ns)
both before between after ms ns h k =
    k ∙ (ap (λ l. l ++ sights_of_marks ns) h
    ∙ (append_assoc (sights_of_items before) (sights_of_marks ms) (sights_of_marks ns) ∙ ap (λ l. sights_of_items before ++ l) (sym (marks_both ms ns))))

adds_none : (is : List Item) → Adds empty is is
unfolding marks Adds
adds_none is a = sym (append-nil (sights_of_items is))

adds_then : (o p : Outline) (is js ks : List Item) → Adds o is js → Adds p js ks → Adds (o ▸ p) is ks
unfolding marks Adds
adds_then o p is js ks h k a = both is js ks (marks o a) (marks p (opens o a)) (h a) (k (opens o a))

adds_closed : (o : Outline) (is js : List Item) → Adds o is js → Adds (closed o) is js
unfolding marks Adds
adds_closed o is js h a = h a

adds_group : (o : Outline) (is js : List Item) → Adds o is js → Adds (group o) is js
unfolding marks Adds
adds_group o is js h a = h (with_group [] a)

adds_use : (is : List Item) (role : Role) (s : Span) (n : ℕ) → Adds (value_use s n) is (is ++ Use role s ∷ [])
unfolding marks Adds
adds_use is role s n a = items_both is (Use role s ∷ [])

adds_type_use : (is : List Item) (s : Span) (n : ℕ) → Adds (type_use s n) is is
unfolding marks Adds
adds_type_use is s n a = sym (append-nil (sights_of_items is))

adds_value : (is : List Item) (form : Form) (x : Id) → Adds (binds_value x) is (is ++ Bind form x ∷ [])
unfolding marks Adds
adds_value is form x a = items_both is (Bind form x ∷ [])

adds_type : (o : Outline) (is : List Item) (x : Id) → Adds o is is → Adds (binds_type x o) is is
unfolding marks Adds
adds_type o is x h a = h _

not_twice : (b : Bool) (c : Code) (x : Id) → sights_of_marks (twice_if b c x) ≡ []
not_twice true c x = refl
not_twice false c x = refl

adds_once : (is : List Item) (c : Code) (x : Id) → Adds (once c x) is is
unfolding marks Adds
adds_once is c x a = sym (append-nil (sights_of_items is)) ∙ ap (λ l. sights_of_items is ++ l) (sym (not_twice _ c x))

bound_after : (o : Option ℕ) (x : Id) (n : ℕ) → sights_of_marks (twice_if_bound o x ++ value_bound n ∷ []) ≡ bound_sight ∷ []
bound_after (Some m) x n = refl
bound_after None x n = refl

adds_pattern_value : (is : List Item) (form : Form) (x : Id) → Adds (pattern_value x) is (is ++ Bind form x ∷ [])
unfolding marks Adds
adds_pattern_value is form x a = items_both is (Bind form x ∷ []) ∙ ap (λ l. sights_of_items is ++ l) (sym (bound_after _ x _))

none_twice : (o : Option ℕ) (x : Id) (ms : List Mark) → sights_of_marks (twice_if_bound o x ++ ms) ≡ sights_of_marks ms
none_twice (Some m) x ms = refl
none_twice None x ms = refl

adds_pattern_type : (o : Outline) (is : List Item) (x : Id) → Adds o is is → Adds (pattern_type x o) is is
unfolding marks Adds
adds_pattern_type o is x h a = h (past_type a) ∙ ap (λ l. sights_of_items is ++ l) (sym (none_twice (nearest a.pattern_types x.name.0) x (marks o (past_type a))))

adds_pattern : (o p : Outline) (is js ks : List Item) → Adds o is js → Adds p js ks → Adds (pattern o p) is ks
unfolding marks Adds
adds_pattern o p is js ks h k a =
    let inside = before_pattern a in
    let outside = behind_pattern a (opens o inside) in
    both is js ks (marks o inside) (marks p outside) (h inside) (k outside)

-- ---- types mark no value

mutual
  type_adds : (is : List Item) (t : TypeTree) → Adds (in_type t) is is
  type_adds is (top_type s) = adds_none is
  type_adds is (int_type s) = adds_none is
  type_adds is (char_type s) = adds_none is
  type_adds is (string_type s) = adds_none is
  type_adds is (bool_type s) = adds_none is
  type_adds is (use_type s n) = adds_type_use is s n.0
  type_adds is (both_type s t) = type_adds is t
  type_adds is (read_type s t) = type_adds is t
  type_adds is (write_type s t) = type_adds is t
  type_adds is (respond_type s t) = type_adds is t
  type_adds is (fields_type s bs ts ls) =
      adds_closed _ is is (adds_then _ _ is is is (adds_group _ is is (binders_add is bs)) (adds_then _ _ is is is (types_add is ts) (adds_group _ is is (labelled_types_add is ls))))
  type_adds is (apply_type s x ts) = adds_then _ _ is is is (adds_type_use is x.span x.name.0) (types_add is ts)
  type_adds is (rec_type s x t) = adds_closed _ is is (adds_then _ _ is is is (adds_type empty is x (adds_none is)) (type_adds is t))

  types_add : (is : List Item) (ts : TypeTrees) → Adds (in_types ts) is is
  types_add is no_types = adds_none is
  types_add is (more_types ts t) = adds_then _ _ is is is (types_add is ts) (type_adds is t)

  labelled_types_add : (is : List Item) (ls : LabelledTypes) → Adds (in_labelled_types ls) is is
  labelled_types_add is no_labelled_types = adds_none is
  labelled_types_add is (more_labelled_types ls l t) = adds_then _ _ is is is (labelled_types_add is ls) (adds_then _ _ is is is (adds_once is _ l) (type_adds is t))

  binders_add : (is : List Item) (bs : TypeBinders) → Adds (in_binders bs) is is
  binders_add is no_binders = adds_none is
  binders_add is (more_binders bs b) = adds_then _ _ is is is (binders_add is bs) (binder_adds is b)

  binder_adds : (is : List Item) (b : TypeBinder) → Adds (in_binder b) is is
  binder_adds is (type_binder s x k b) = adds_then _ _ is is is (adds_once is _ x) (adds_type _ is x (bound_adds is b))

  bound_adds : (is : List Item) (b : Bound) → Adds (in_bound b) is is
  bound_adds is unbounded = adds_none is
  bound_adds is (bound t) = type_adds is t

annotation_adds : (is : List Item) (r : RType) → Adds (in_annotation r) is is
annotation_adds is None = adds_none is
annotation_adds is (Some t) = type_adds is t

parameters_add : (is : List Item) (o : Outline) (xs : List Id) → Adds o is is → Adds (with_parameters o xs) is is
parameters_add is o [] h = h
parameters_add is o (x ∷ xs) h = parameters_add is _ xs (adds_then _ _ is is is h (adds_then _ _ is is is (adds_once is S3 x) (adds_type empty is x (adds_none is))))

-- ---- patterns

pattern_binders_add : (is : List Item) (bs : TypeBinders) → Adds (in_pattern_binders bs) is is
pattern_binders_add is no_binders = adds_none is
pattern_binders_add is (more_binders bs (type_binder s x k b)) = adds_then _ _ is is is (pattern_binders_add is bs) (adds_pattern_type _ is x (bound_adds is b))

mutual
  unfolding then_pat

  pat_adds : (is : List Item) (p : Pat) → Adds (in_pat p) is (then_pat is p)
  pat_adds is (bind_pat s x r) = adds_then _ _ is _ _ (adds_pattern_value is Pattern x) (annotation_adds _ r)
  pat_adds is (any_pat s r) = annotation_adds is r
  pat_adds is (fields_pat s f) = adds_closed _ is _ (field_pats_add is f)
  pat_adds is (fold_pat s r p) = adds_then _ _ is is _ (annotation_adds is r) (pat_adds is p)

  field_pats_add : (is : List Item) (f : FieldPats) → Adds (in_field_pats f) is (then_field_pats is f)
  field_pats_add is (field_pats bs ps ls) = adds_then _ _ is is _ (pattern_binders_add is bs) (adds_then _ _ is _ _ (pats_add is ps) (adds_group _ _ _ (labelled_pats_add _ ls)))

  pats_add : (is : List Item) (ps : Pats) → Adds (in_pats ps) is (then_pats is ps)
  pats_add is no_pats = adds_none is
  pats_add is (more_pats ps p) = adds_then _ _ is _ _ (pats_add is ps) (pat_adds _ p)

  labelled_pats_add : (is : List Item) (ls : LabelledPats) → Adds (in_labelled_pats ls) is (then_labelled_pats is ls)
  labelled_pats_add is no_labelled_pats = adds_none is
  labelled_pats_add is (more_labelled_pats ls l p) = adds_then _ _ is _ _ (labelled_pats_add is ls) (adds_then _ _ _ _ _ (adds_once _ _ l) (pat_adds _ p))

-- ---- the names of a `def` are bound before any of them is read

Knows : Definitions → List Binder → Type 0
Knows no_definitions bs = Unit {0}
Knows (more_definitions ds x abs) bs = Knows ds bs × IsSome (nearest bs x.name.0)

some_either : (c : Bool) (k : ℕ) (o : Option ℕ) → IsSome o → IsSome (if c then Some k else o)
some_either true k o h = search rules
some_either false k o h = h

some_same : (c : Bool) (k : ℕ) (o : Option ℕ) → c ≡ true → IsSome (if c then Some k else o)
some_same true k o e = search rules
some_same false k o e = absurd cc

same_number : (n : ℕ) → nat_eq n n ≡ true
same_number n = search rules

keeps : (xs : List Id) (a : Around) (n : ℕ) → IsSome (nearest a.values n) → IsSome (nearest (with_values xs a).values n)
keeps [] a n h = h
keeps (x ∷ xs) a n h = keeps xs (with_value x a) n (some_either _ _ _ h)

values_both : (xs ys : List Id) (a : Around) → with_values (xs ++ ys) a ≡ with_values ys (with_values xs a)
values_both [] ys a = refl
values_both (x ∷ xs) ys a = values_both xs ys (with_value x a)

known : (xs ys : List Id) (x : Id) (a : Around) → IsSome (nearest (with_values (xs ++ x ∷ ys) a).values x.name.0)
known xs ys x a =
    subst (λ b. IsSome (nearest b.values x.name.0)) (sym (values_both xs (x ∷ ys) a))
    (keeps ys (with_value x (with_values xs a)) x.name.0 (some_same _ _ _ (same_number x.name.0)))

all_known : (ds : Definitions) (ys : List Id) (a : Around) → Knows ds (with_values (defined ds ++ ys) a).values
unfolding Knows
all_known no_definitions ys a = tt
all_known (more_definitions ds x abs) ys a =
    subst (λ xs. Knows ds (with_values xs a).values × IsSome (nearest (with_values xs a).values x.name.0)) (sym (append_assoc (defined ds) (x ∷ []) ys))
    (all_known ds (x ∷ ys) a, known (defined ds) ys x a)

same_outside : (abs : Abs) (a : Around) → (opens (in_abs abs) a).values ≡ a.values
unfolding opens
same_outside (process_abs s p q) a = refl
same_outside (function_abs s f r v) a = refl

same_values : (ds : Definitions) (a : Around) → (opens (in_definitions ds) a).values ≡ a.values
unfolding opens
same_values no_definitions a = refl
same_values (more_definitions ds x abs) a = same_outside abs _ ∙ same_values ds a

bound_known : (o : Option ℕ) → IsSome o → sights_of_marks (bound_as o) ≡ bound_sight ∷ []
bound_known (Some n) h = refl
bound_known None h = absurd cc

-- the same of definitions, where their names are bound
AddsKnown : Definitions → List Item → List Item → Type 0
AddsKnown ds before after = (a : Around) → Knows ds a.values → sights_of_items after ≡ sights_of_items before ++ sights_of_marks (marks (in_definitions ds) a)

none_known : (is : List Item) → AddsKnown no_definitions is is
unfolding marks AddsKnown
none_known is a k = sym (append-nil (sights_of_items is))

one_known : (is before after : List Item) (ds : Definitions) (x : Id) (abs : Abs) → AddsKnown ds is before → Adds (in_abs abs) (before ++ Bind Def x ∷ []) after → AddsKnown (more_definitions ds x abs) is after
unfolding marks opens Adds AddsKnown Knows
one_known is before after ds x abs h k a known =
    let b = opens (in_definitions ds) a in
    let here = before ++ Bind Def x ∷ [] in
    let bound : IsSome (nearest b.values x.name.0) = subst (λ bs. IsSome (nearest bs x.name.0)) (sym (same_values ds a)) known.1 in
    both is before after (marks (in_definitions ds) a) _ (h a known.0)
    (both before before after (marks (once S3 x) b) _ (adds_once before S3 x b)
    (both before here after (marks (defines x) (opens (once S3 x) b)) _
    (items_both before (Bind Def x ∷ []) ∙ ap (λ l. sights_of_items before ++ l) (sym (bound_known _ bound)))
    (k _)))

def_adds : (is js : List Item) (ds : Definitions) → AddsKnown ds is js → Adds (binds_all (defined ds) ▸ group (in_definitions ds)) is js
unfolding marks opens Adds AddsKnown
def_adds is js ds h a =
    h (with_group [] (with_values (defined ds) a)) (subst (λ xs. Knows ds (with_values xs a).values) (append-nil (defined ds)) (all_known ds [] a))

-- ---- declarations, abstractions, values and processes

mutual
  unfolding then_dec

  dec_adds : (is : List Item) (d : Dec) → Adds (in_dec d) is (then_dec is d)
  dec_adds is (new_dec s x t) = adds_then _ _ is _ _ (adds_value is New x) (type_adds _ t)
  dec_adds is (run_dec s p) = proc_adds is p
  dec_adds is (let_dec s p v) = adds_pattern _ _ is _ _ (pat_adds is p) (val_adds _ HandedOn v)
  dec_adds is (def_dec s ds) = def_adds is _ ds (definitions_add is ds)
  dec_adds is (alias_dec s x t) = adds_type _ is x (type_adds is t)
  dec_adds is (operator_dec s x xs t) = adds_type _ is x (adds_closed _ is is (adds_then _ _ is is is (adds_group _ is is (parameters_add is empty xs (adds_none is))) (type_adds is t)))
  dec_adds is (await_dec s v) = val_adds is HandedOn v

  decs_add : (is : List Item) (ds : Decs) → Adds (in_decs ds) is (then_decs is ds)
  decs_add is no_decs = adds_none is
  decs_add is (more_decs ds d) = adds_then _ _ is _ _ (decs_add is ds) (dec_adds _ d)

  definitions_add : (is : List Item) (ds : Definitions) → AddsKnown ds is (then_definitions is ds)
  definitions_add is no_definitions = none_known is
  definitions_add is (more_definitions ds x abs) = one_known is _ _ ds x abs (definitions_add is ds) (abs_adds _ abs)

  abs_adds : (is : List Item) (abs : Abs) → Adds (in_abs abs) is (then_abs is abs)
  abs_adds is (process_abs s p q) = adds_closed _ is _ (adds_then _ _ is _ _ (adds_pattern _ _ is _ _ (pat_adds is p) (adds_none _)) (proc_adds _ q))
  abs_adds is (function_abs s f r v) =
      adds_closed _ is _ (adds_then _ _ is _ _ (adds_pattern _ _ is _ _ (adds_then _ _ is _ _ (field_pats_add is f) (annotation_adds _ r)) (adds_none _)) (val_adds _ HandedOn v))

  chan_adds : (is : List Item) (role : Role) (c : Chan) → Adds (in_chan c) is (then_chan is role c)
  chan_adds is role (use_chan s n) = adds_use is role s n.0
  chan_adds is role (fold_chan s r v) = adds_then _ _ is is _ (annotation_adds is r) (val_adds is HandedOn v)
  chan_adds is role (block_chan s ds v) = adds_closed _ is _ (adds_then _ _ is _ _ (decs_add is ds) (val_adds _ HandedOn v))
  chan_adds is role (apply_chan s v f) = adds_then _ _ is _ _ (val_adds is Called v) (field_vals_add _ f)
  chan_adds is role (right_chan s x vs) = adds_then _ _ is _ _ (adds_use is Called x.span x.name.0) (vals_add _ vs)
  chan_adds is role (left_chan s x vs) = adds_then _ _ is _ _ (adds_use is Called x.span x.name.0) (vals_add _ vs)

  val_adds : (is : List Item) (role : Role) (v : Val) → Adds (in_val v) is (then_val is role v)
  val_adds is role (of_chan c) = chan_adds is role c
  val_adds is role (number_val s n) = adds_none is
  val_adds is role (character_val s b) = adds_none is
  val_adds is role (string_val s b) = adds_none is
  val_adds is role (true_val s) = adds_none is
  val_adds is role (false_val s) = adds_none is
  val_adds is role (fields_val s f) = field_vals_add is f
  val_adds is role (if_val s c v w) = adds_then _ _ is _ _ (val_adds is HandedOn c) (adds_then _ _ _ _ _ (val_adds _ HandedOn v) (val_adds _ HandedOn w))
  val_adds is role (lambda_val s a) = abs_adds is a

  vals_add : (is : List Item) (vs : Vals) → Adds (in_vals vs) is (then_vals is vs)
  vals_add is no_vals = adds_none is
  vals_add is (more_vals vs v) = adds_then _ _ is _ _ (vals_add is vs) (val_adds _ HandedOn v)

  field_vals_add : (is : List Item) (f : FieldVals) → Adds (in_field_vals f) is (then_field_vals is f)
  field_vals_add is (field_vals ts vs ls) = adds_then _ _ is is _ (types_add is ts) (adds_then _ _ is _ _ (vals_add is vs) (adds_group _ _ _ (labelled_vals_add _ ls)))

  labelled_vals_add : (is : List Item) (ls : LabelledVals) → Adds (in_labelled_vals ls) is (then_labelled_vals is ls)
  labelled_vals_add is no_labelled_vals = adds_none is
  labelled_vals_add is (more_labelled_vals ls l v) = adds_then _ _ is _ _ (labelled_vals_add is ls) (adds_then _ _ _ _ _ (adds_once _ _ l) (val_adds _ HandedOn v))

  proc_adds : (is : List Item) (p : Proc) → Adds (in_proc p) is (then_proc is p)
  proc_adds is (send_proc s c v) = adds_then _ _ is _ _ (chan_adds is Sent c) (val_adds _ HandedOn v)
  proc_adds is (receive_proc s c a) = adds_then _ _ is _ _ (chan_adds is Received c) (abs_adds _ a)
  proc_adds is (serve_proc s c a) = adds_then _ _ is _ _ (chan_adds is Received c) (abs_adds _ a)
  proc_adds is (if_proc s v p q) = adds_then _ _ is _ _ (val_adds is HandedOn v) (adds_then _ _ _ _ _ (proc_adds _ p) (proc_adds _ q))
  proc_adds is (inert_proc s) = adds_none is
  proc_adds is (group_proc s ds ps) = adds_closed _ is _ (adds_then _ _ is _ _ (decs_add is ds) (procs_add _ ps))

  procs_add : (is : List Item) (ps : Procs) → Adds (in_procs ps) is (then_procs is ps)
  procs_add is no_procs = adds_none is
  procs_add is (more_procs ps p) = adds_then _ _ is _ _ (procs_add is ps) (proc_adds _ p)

pub items_are_marks : ItemsAreMarks
unfolding Adds
items_are_marks texts p = sym (decs_add [] p (outermost texts))
