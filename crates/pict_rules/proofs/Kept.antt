-- What stands around a place is the same behind a phrase that binds nothing there.
use Rattle.std.proofs.Common.{◌≡◌, ℕ, List, [], ◌∷◌, Some, None, refl, ◌∙◌}
use Rattle.pict_syntax.specs.declared.code.Code.{Code}
use Rattle.pict_syntax.specs.declared.span.Span.{Span}
use Rattle.pict_syntax.specs.declared.id.Id.{Id}
use Rattle.pict_syntax.specs.Trees.{TypeTree, top_type, int_type, char_type, string_type, bool_type, use_type, both_type, read_type, write_type, respond_type, fields_type, apply_type, rec_type, TypeBinder, type_binder, Bound, unbounded, bound, TypeTrees, no_types, more_types, TypeBinders, no_binders, more_binders, LabelledTypes, no_labelled_types, more_labelled_types, RType, Abs, process_abs, function_abs, Chan, use_chan, fold_chan, block_chan, apply_chan, right_chan, left_chan, Val, of_chan, number_val, character_val, string_val, true_val, false_val, fields_val, if_val, lambda_val, Vals, no_vals, more_vals, FieldVals, field_vals, LabelledVals, no_labelled_vals, more_labelled_vals, Proc, send_proc, receive_proc, serve_proc, if_proc, inert_proc, group_proc, Procs, no_procs, more_procs, Definitions, no_definitions, more_definitions}
use Rattle.pict_scope.specs.Around.{Around, with_values}
use Rattle.pict_scope.specs.Outlines.{Outline, empty, ◌▸◌, closed, value_use, type_use, binds_value, binds_type, binds_all, defines, pattern_value, pattern_type, pattern, group, once, opens}
use Rattle.pict_scope.specs.Forms.{in_type, in_types, in_labelled_types, in_binders, in_binder, in_bound, in_annotation, in_abs, in_chan, in_val, in_vals, in_field_vals, in_labelled_vals, in_proc, in_procs, in_definitions}

-- the texts of the names never change
values_texts : (xs : List Id) (a : Around) → (with_values xs a).texts ≡ a.texts
values_texts [] a = refl
values_texts (x ∷ xs) a = values_texts xs _

pub same_texts : (o : Outline) (a : Around) → (opens o a).texts ≡ a.texts
unfolding opens
same_texts empty a = refl
same_texts (o ▸ p) a = same_texts p (opens o a) ∙ same_texts o a
same_texts (closed o) a = same_texts o a
same_texts (value_use s n) a = refl
same_texts (type_use s n) a = refl
same_texts (binds_value x) a = refl
same_texts (binds_type x o) a = same_texts o _
same_texts (binds_all xs) a = values_texts xs a
same_texts (defines x) a = refl
same_texts (pattern_value x) a = refl
same_texts (pattern_type x o) a = same_texts o _
same_texts (pattern o p) a = same_texts p _ ∙ same_texts o _
same_texts (group o) a = same_texts o _
same_texts (once c x) a = refl

-- behind the outline the same values and types are bound
pub record Keeps (o : Outline) : Type 0 where
  pub values : (a : Around) → (opens o a).values ≡ a.values
  pub types_ : (a : Around) → (opens o a).types_ ≡ a.types_

-- and so in the pattern that is being read
pub record KeepsPattern (o : Outline) : Type 0 where
  pub values : (a : Around) → (opens o a).pattern_values ≡ a.pattern_values
  pub types_ : (a : Around) → (opens o a).pattern_types ≡ a.pattern_types

pub keeps_empty : Keeps empty
unfolding opens
keeps_empty = record { values = λ a. refl; types_ = λ a. refl }

pub keeps_both : {o p : Outline} → Keeps o → Keeps p → Keeps (o ▸ p)
unfolding opens
keeps_both {o = o} h k = record { values = λ a. k.values (opens o a) ∙ h.values a; types_ = λ a. k.types_ (opens o a) ∙ h.types_ a }

pub keeps_closed : (o : Outline) → Keeps (closed o)
unfolding opens
keeps_closed o = record { values = λ a. refl; types_ = λ a. refl }

pub keeps_group : {o : Outline} → Keeps o → Keeps (group o)
unfolding opens
keeps_group h = record { values = λ a. h.values _; types_ = λ a. h.types_ _ }

pub keeps_value_use : {s : Span} {n : ℕ} → Keeps (value_use s n)
unfolding opens
keeps_value_use = record { values = λ a. refl; types_ = λ a. refl }

keeps_type_use : {s : Span} {n : ℕ} → Keeps (type_use s n)
unfolding opens
keeps_type_use = record { values = λ a. refl; types_ = λ a. refl }

pub keeps_once : {c : Code} {x : Id} → Keeps (once c x)
unfolding opens
keeps_once = record { values = λ a. refl; types_ = λ a. refl }

pub keeps_defines : {x : Id} → Keeps (defines x)
unfolding opens
keeps_defines = record { values = λ a. refl; types_ = λ a. refl }

mutual
  pub keeps_type : (t : TypeTree) → Keeps (in_type t)
  keeps_type (top_type s) = keeps_empty
  keeps_type (int_type s) = keeps_empty
  keeps_type (char_type s) = keeps_empty
  keeps_type (string_type s) = keeps_empty
  keeps_type (bool_type s) = keeps_empty
  keeps_type (use_type s n) = keeps_type_use
  keeps_type (both_type s t) = keeps_type t
  keeps_type (read_type s t) = keeps_type t
  keeps_type (write_type s t) = keeps_type t
  keeps_type (respond_type s t) = keeps_type t
  keeps_type (fields_type s bs ts ls) = keeps_closed _
  keeps_type (apply_type s x ts) = keeps_both keeps_type_use (keeps_types ts)
  keeps_type (rec_type s x t) = keeps_closed _

  pub keeps_types : (ts : TypeTrees) → Keeps (in_types ts)
  keeps_types no_types = keeps_empty
  keeps_types (more_types ts t) = keeps_both (keeps_types ts) (keeps_type t)

pub keeps_bound : (b : Bound) → Keeps (in_bound b)
keeps_bound unbounded = keeps_empty
keeps_bound (bound t) = keeps_type t

pub keeps_annotation : (r : RType) → Keeps (in_annotation r)
keeps_annotation None = keeps_empty
keeps_annotation (Some t) = keeps_type t

pub keeps_abs : (f : Abs) → Keeps (in_abs f)
keeps_abs (process_abs s p q) = keeps_closed _
keeps_abs (function_abs s f r v) = keeps_closed _

mutual
  pub keeps_chan : (c : Chan) → Keeps (in_chan c)
  keeps_chan (use_chan s n) = keeps_value_use
  keeps_chan (fold_chan s r v) = keeps_both (keeps_annotation r) (keeps_val v)
  keeps_chan (block_chan s ds v) = keeps_closed _
  keeps_chan (apply_chan s v f) = keeps_both (keeps_val v) (keeps_field_vals f)
  keeps_chan (right_chan s x vs) = keeps_both keeps_value_use (keeps_vals vs)
  keeps_chan (left_chan s x vs) = keeps_both keeps_value_use (keeps_vals vs)

  pub keeps_val : (v : Val) → Keeps (in_val v)
  keeps_val (of_chan c) = keeps_chan c
  keeps_val (number_val s n) = keeps_empty
  keeps_val (character_val s b) = keeps_empty
  keeps_val (string_val s b) = keeps_empty
  keeps_val (true_val s) = keeps_empty
  keeps_val (false_val s) = keeps_empty
  keeps_val (fields_val s f) = keeps_field_vals f
  keeps_val (if_val s c v w) = keeps_both (keeps_val c) (keeps_both (keeps_val v) (keeps_val w))
  keeps_val (lambda_val s a) = keeps_abs a

  pub keeps_vals : (vs : Vals) → Keeps (in_vals vs)
  keeps_vals no_vals = keeps_empty
  keeps_vals (more_vals vs v) = keeps_both (keeps_vals vs) (keeps_val v)

  pub keeps_field_vals : (f : FieldVals) → Keeps (in_field_vals f)
  keeps_field_vals (field_vals ts vs ls) = keeps_both (keeps_types ts) (keeps_both (keeps_vals vs) (keeps_group (keeps_labelled_vals ls)))

  pub keeps_labelled_vals : (ls : LabelledVals) → Keeps (in_labelled_vals ls)
  keeps_labelled_vals no_labelled_vals = keeps_empty
  keeps_labelled_vals (more_labelled_vals ls l v) = keeps_both (keeps_labelled_vals ls) (keeps_both keeps_once (keeps_val v))

mutual
  pub keeps_proc : (p : Proc) → Keeps (in_proc p)
  keeps_proc (send_proc s c v) = keeps_both (keeps_chan c) (keeps_val v)
  keeps_proc (receive_proc s c a) = keeps_both (keeps_chan c) (keeps_abs a)
  keeps_proc (serve_proc s c a) = keeps_both (keeps_chan c) (keeps_abs a)
  keeps_proc (if_proc s v p q) = keeps_both (keeps_val v) (keeps_both (keeps_proc p) (keeps_proc q))
  keeps_proc (inert_proc s) = keeps_empty
  keeps_proc (group_proc s ds ps) = keeps_closed _

  pub keeps_procs : (ps : Procs) → Keeps (in_procs ps)
  keeps_procs no_procs = keeps_empty
  keeps_procs (more_procs ps p) = keeps_both (keeps_procs ps) (keeps_proc p)

pub keeps_definitions : (ds : Definitions) → Keeps (in_definitions ds)
keeps_definitions no_definitions = keeps_empty
keeps_definitions (more_definitions ds x a) = keeps_both (keeps_definitions ds) (keeps_both keeps_once (keeps_both keeps_defines (keeps_abs a)))

-- types bind nothing in the pattern that they stand in
pattern_empty : KeepsPattern empty
unfolding opens
pattern_empty = record { values = λ a. refl; types_ = λ a. refl }

pub pattern_both : {o p : Outline} → KeepsPattern o → KeepsPattern p → KeepsPattern (o ▸ p)
unfolding opens
pattern_both {o = o} h k = record { values = λ a. k.values (opens o a) ∙ h.values a; types_ = λ a. k.types_ (opens o a) ∙ h.types_ a }

pattern_closed : {o : Outline} → KeepsPattern o → KeepsPattern (closed o)
unfolding opens
pattern_closed h = record { values = λ a. h.values a; types_ = λ a. h.types_ a }

pattern_group : {o : Outline} → KeepsPattern o → KeepsPattern (group o)
unfolding opens
pattern_group h = record { values = λ a. h.values _; types_ = λ a. h.types_ _ }

pattern_type_use : {s : Span} {n : ℕ} → KeepsPattern (type_use s n)
unfolding opens
pattern_type_use = record { values = λ a. refl; types_ = λ a. refl }

pattern_once : {c : Code} {x : Id} → KeepsPattern (once c x)
unfolding opens
pattern_once = record { values = λ a. refl; types_ = λ a. refl }

pattern_binds : {x : Id} {o : Outline} → KeepsPattern o → KeepsPattern (binds_type x o)
unfolding opens
pattern_binds h = record { values = λ a. h.values _; types_ = λ a. h.types_ _ }

mutual
  pub pattern_keeps_type : (t : TypeTree) → KeepsPattern (in_type t)
  pattern_keeps_type (top_type s) = pattern_empty
  pattern_keeps_type (int_type s) = pattern_empty
  pattern_keeps_type (char_type s) = pattern_empty
  pattern_keeps_type (string_type s) = pattern_empty
  pattern_keeps_type (bool_type s) = pattern_empty
  pattern_keeps_type (use_type s n) = pattern_type_use
  pattern_keeps_type (both_type s t) = pattern_keeps_type t
  pattern_keeps_type (read_type s t) = pattern_keeps_type t
  pattern_keeps_type (write_type s t) = pattern_keeps_type t
  pattern_keeps_type (respond_type s t) = pattern_keeps_type t
  pattern_keeps_type (fields_type s bs ts ls) = pattern_closed (pattern_both (pattern_group (pattern_keeps_binders bs)) (pattern_both (pattern_keeps_types ts) (pattern_group (pattern_keeps_labelled ls))))
  pattern_keeps_type (apply_type s x ts) = pattern_both pattern_type_use (pattern_keeps_types ts)
  pattern_keeps_type (rec_type s x t) = pattern_closed (pattern_both (pattern_binds pattern_empty) (pattern_keeps_type t))

  pattern_keeps_types : (ts : TypeTrees) → KeepsPattern (in_types ts)
  pattern_keeps_types no_types = pattern_empty
  pattern_keeps_types (more_types ts t) = pattern_both (pattern_keeps_types ts) (pattern_keeps_type t)

  pattern_keeps_labelled : (ls : LabelledTypes) → KeepsPattern (in_labelled_types ls)
  pattern_keeps_labelled no_labelled_types = pattern_empty
  pattern_keeps_labelled (more_labelled_types ls l t) = pattern_both (pattern_keeps_labelled ls) (pattern_both pattern_once (pattern_keeps_type t))

  pattern_keeps_binders : (bs : TypeBinders) → KeepsPattern (in_binders bs)
  pattern_keeps_binders no_binders = pattern_empty
  pattern_keeps_binders (more_binders bs b) = pattern_both (pattern_keeps_binders bs) (pattern_keeps_binder b)

  pattern_keeps_binder : (b : TypeBinder) → KeepsPattern (in_binder b)
  pattern_keeps_binder (type_binder s x k b) = pattern_both pattern_once (pattern_binds (pattern_keeps_bound b))

  pub pattern_keeps_bound : (b : Bound) → KeepsPattern (in_bound b)
  pattern_keeps_bound unbounded = pattern_empty
  pattern_keeps_bound (bound t) = pattern_keeps_type t

pub pattern_keeps_annotation : (r : RType) → KeepsPattern (in_annotation r)
pattern_keeps_annotation None = pattern_empty
pattern_keeps_annotation (Some t) = pattern_keeps_type t
