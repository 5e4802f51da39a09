-- The outline of each form of the grammar.
use Rattle.std.specs.Prelude.{List, [], ◌∷◌, ◌++◌, Some, None}
use Rattle.pict_syntax.specs.declared.code.Code.TheVariants.{S3, S4}
use Rattle.pict_syntax.specs.declared.id.Id.{Id}
use Rattle.pict_syntax.specs.Trees.{TypeTree, top_type, int_type, char_type, string_type, bool_type, use_type, both_type, read_type, write_type, respond_type, fields_type, apply_type, rec_type, TypeBinder, type_binder, Bound, unbounded, bound, TypeTrees, no_types, more_types, TypeBinders, no_binders, more_binders, LabelledTypes, no_labelled_types, more_labelled_types, RType, Pat, bind_pat, any_pat, fields_pat, fold_pat, FieldPats, field_pats, Pats, no_pats, more_pats, LabelledPats, no_labelled_pats, more_labelled_pats, Dec, new_dec, run_dec, let_dec, def_dec, alias_dec, operator_dec, await_dec, Decs, no_decs, more_decs, Definitions, no_definitions, more_definitions, Abs, process_abs, function_abs, Chan, use_chan, fold_chan, block_chan, apply_chan, right_chan, left_chan, Val, of_chan, number_val, character_val, string_val, true_val, false_val, fields_val, if_val, lambda_val, Vals, no_vals, more_vals, FieldVals, field_vals, LabelledVals, no_labelled_vals, more_labelled_vals, Proc, send_proc, receive_proc, serve_proc, if_proc, inert_proc, group_proc, Procs, no_procs, more_procs}
use Rattle.pict_scope.specs.Outlines.{Outline, empty, ◌▸◌, closed, value_use, type_use, binds_value, binds_type, binds_all, defines, pattern_value, pattern_type, pattern, group, once}

-- types. A type binder of a record binds over its later fields, and not over its own bound
abbrev mutual
  pub in_type : TypeTree → Outline
  in_type (top_type s) = empty
  in_type (int_type s) = empty
  in_type (char_type s) = empty
  in_type (string_type s) = empty
  in_type (bool_type s) = empty
  in_type (use_type s n) = type_use s n.0
  in_type (both_type s t) = in_type t
  in_type (read_type s t) = in_type t
  in_type (write_type s t) = in_type t
  in_type (respond_type s t) = in_type t
  in_type (fields_type s bs ts ls) = closed (group (in_binders bs) ▸ in_types ts ▸ group (in_labelled_types ls))
  in_type (apply_type s x ts) = type_use x.span x.name.0 ▸ in_types ts
  in_type (rec_type s x t) = closed (binds_type x empty ▸ in_type t)

  pub in_types : TypeTrees → Outline
  in_types no_types = empty
  in_types (more_types ts t) = in_types ts ▸ in_type t

  pub in_labelled_types : LabelledTypes → Outline
  in_labelled_types no_labelled_types = empty
  in_labelled_types (more_labelled_types ls l t) = in_labelled_types ls ▸ once S4 l ▸ in_type t

  pub in_binders : TypeBinders → Outline
  in_binders no_binders = empty
  in_binders (more_binders bs b) = in_binders bs ▸ in_binder b

  pub in_binder : TypeBinder → Outline
  in_binder (type_binder s x k b) = once S3 x ▸ binds_type x (in_bound b)

  pub in_bound : Bound → Outline
  in_bound unbounded = empty
  in_bound (bound t) = in_type t

abbrev pub in_annotation : RType → Outline
in_annotation None = empty
in_annotation (Some t) = in_type t

-- patterns. A type binder of a nested record binds over the later fields of that record, and over the body
abbrev pub in_pattern_binder : TypeBinder → Outline
in_pattern_binder (type_binder s x k b) = pattern_type x (in_bound b)

abbrev pub in_pattern_binders : TypeBinders → Outline
in_pattern_binders no_binders = empty
in_pattern_binders (more_binders bs b) = in_pattern_binders bs ▸ in_pattern_binder b

abbrev mutual
  pub in_pat : Pat → Outline
  in_pat (bind_pat s x r) = pattern_value x ▸ in_annotation r
  in_pat (any_pat s r) = in_annotation r
  in_pat (fields_pat s f) = closed (in_field_pats f)
  in_pat (fold_pat s r p) = in_annotation r ▸ in_pat p

  pub in_field_pats : FieldPats → Outline
  in_field_pats (field_pats bs ps ls) = in_pattern_binders bs ▸ in_pats ps ▸ group (in_labelled_pats ls)

  pub in_pats : Pats → Outline
  in_pats no_pats = empty
  in_pats (more_pats ps p) = in_pats ps ▸ in_pat p

  pub in_labelled_pats : LabelledPats → Outline
  in_labelled_pats no_labelled_pats = empty
  in_labelled_pats (more_labelled_pats ls l p) = in_labelled_pats ls ▸ once S4 l ▸ in_pat p

-- the parameters of an operator
abbrev pub with_parameters : Outline → List Id → Outline
with_parameters o [] = o
with_parameters o (x ∷ xs) = with_parameters (o ▸ once S3 x ▸ binds_type x empty) xs

-- the names of a `def`
abbrev pub defined : Definitions → List Id
defined no_definitions = []
defined (more_definitions ds x a) = defined ds ++ x ∷ []

-- declarations, abstractions, values and processes
abbrev mutual
  pub in_dec : Dec → Outline
  in_dec (new_dec s x t) = binds_value x ▸ in_type t
  in_dec (run_dec s p) = in_proc p
  in_dec (let_dec s p v) = pattern (in_pat p) (in_val v)
  in_dec (def_dec s ds) = binds_all (defined ds) ▸ group (in_definitions ds)
  in_dec (alias_dec s x t) = binds_type x (in_type t)
  in_dec (operator_dec s x xs t) = binds_type x (closed (group (with_parameters empty xs) ▸ in_type t))
  in_dec (await_dec s v) = in_val v

  pub in_decs : Decs → Outline
  in_decs no_decs = empty
  in_decs (more_decs ds d) = in_decs ds ▸ in_dec d

  pub in_definitions : Definitions → Outline
  in_definitions no_definitions = empty
  in_definitions (more_definitions ds x a) = in_definitions ds ▸ once S3 x ▸ defines x ▸ in_abs a

  -- a type binder directly among a function's fields binds over the type of the answer
  pub in_abs : Abs → Outline
  in_abs (process_abs s p q) = closed (pattern (in_pat p) empty ▸ in_proc q)
  in_abs (function_abs s f r v) = closed (pattern (in_field_pats f ▸ in_annotation r) empty ▸ in_val v)

  pub in_chan : Chan → Outline
  in_chan (use_chan s n) = value_use s n.0
  in_chan (fold_chan s r v) = in_annotation r ▸ in_val v
  in_chan (block_chan s ds v) = closed (in_decs ds ▸ in_val v)
  in_chan (apply_chan s v f) = in_val v ▸ in_field_vals f
  in_chan (right_chan s x vs) = value_use x.span x.name.0 ▸ in_vals vs
  in_chan (left_chan s x vs) = value_use x.span x.name.0 ▸ in_vals vs

  pub in_val : Val → Outline
  in_val (of_chan c) = in_chan c
  in_val (number_val s n) = empty
  in_val (character_val s b) = empty
  in_val (string_val s b) = empty
  in_val (true_val s) = empty
  in_val (false_val s) = empty
  in_val (fields_val s f) = in_field_vals f
  in_val (if_val s c v w) = in_val c ▸ in_val v ▸ in_val w
  in_val (lambda_val s a) = in_abs a

  pub in_vals : Vals → Outline
  in_vals no_vals = empty
  in_vals (more_vals vs v) = in_vals vs ▸ in_val v

  pub in_field_vals : FieldVals → Outline
  in_field_vals (field_vals ts vs ls) = in_types ts ▸ in_vals vs ▸ group (in_labelled_vals ls)

  pub in_labelled_vals : LabelledVals → Outline
  in_labelled_vals no_labelled_vals = empty
  in_labelled_vals (more_labelled_vals ls l v) = in_labelled_vals ls ▸ once S4 l ▸ in_val v

  pub in_proc : Proc → Outline
  in_proc (send_proc s c v) = in_chan c ▸ in_val v
  in_proc (receive_proc s c a) = in_chan c ▸ in_abs a
  in_proc (serve_proc s c a) = in_chan c ▸ in_abs a
  in_proc (if_proc s v p q) = in_val v ▸ in_proc p ▸ in_proc q
  in_proc (inert_proc s) = empty
  in_proc (group_proc s ds ps) = closed (in_decs ds ▸ in_procs ps)

  pub in_procs : Procs → Outline
  in_procs no_procs = empty
  in_procs (more_procs ps p) = in_procs ps ▸ in_proc p
