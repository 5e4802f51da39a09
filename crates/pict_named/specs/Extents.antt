-- The scopes of a program by the form of its tree: of each form, its parts in reading order, and which of them are the scope of its
-- binders.
use Rattle.std.specs.Prelude.{List, [], ◌∷◌, ◌++◌, Some, None}
use Rattle.pict_syntax.specs.declared.id.Id.{Id}
use Rattle.pict_syntax.specs.Trees.{TypeTree, top_type, int_type, char_type, string_type, bool_type, use_type, both_type, read_type, write_type, respond_type, fields_type, apply_type, rec_type, TypeBinder, type_binder, Bound, unbounded, bound, TypeTrees, no_types, more_types, TypeBinders, no_binders, more_binders, LabelledTypes, no_labelled_types, more_labelled_types, RType, Pat, bind_pat, any_pat, fields_pat, fold_pat, FieldPats, field_pats, Pats, no_pats, more_pats, LabelledPats, no_labelled_pats, more_labelled_pats, Dec, new_dec, run_dec, let_dec, def_dec, alias_dec, operator_dec, await_dec, Decs, no_decs, more_decs, Definitions, no_definitions, more_definitions, Abs, process_abs, function_abs, Chan, use_chan, fold_chan, block_chan, apply_chan, right_chan, left_chan, Val, of_chan, number_val, character_val, string_val, true_val, false_val, fields_val, if_val, lambda_val, Vals, no_vals, more_vals, FieldVals, field_vals, LabelledVals, no_labelled_vals, more_labelled_vals, Proc, send_proc, receive_proc, serve_proc, if_proc, inert_proc, group_proc, Procs, no_procs, more_procs}
use Rattle.pict_named.specs.Phrases.{Phrase, nothing, uses_value, uses_type, ◌⨾◌, over_values, over_types}

-- types. The `X` of `(rec X = T)` binds over `T`
abbrev mutual
  pub type_phrase : TypeTree → Phrase
  type_phrase (top_type s) = nothing
  type_phrase (int_type s) = nothing
  type_phrase (char_type s) = nothing
  type_phrase (string_type s) = nothing
  type_phrase (bool_type s) = nothing
  type_phrase (use_type s n) = uses_type n.0
  type_phrase (both_type s t) = type_phrase t
  type_phrase (read_type s t) = type_phrase t
  type_phrase (write_type s t) = type_phrase t
  type_phrase (respond_type s t) = type_phrase t
  type_phrase (fields_type s bs ts ls) = binders_before bs (types_phrase ts ⨾ labelled_types_phrase ls)
  type_phrase (apply_type s x ts) = uses_type x.name.0 ⨾ types_phrase ts
  type_phrase (rec_type s x t) = over_types (x ∷ []) (type_phrase t)

  pub types_phrase : TypeTrees → Phrase
  types_phrase no_types = nothing
  types_phrase (more_types ts t) = types_phrase ts ⨾ type_phrase t

  pub labelled_types_phrase : LabelledTypes → Phrase
  labelled_types_phrase no_labelled_types = nothing
  labelled_types_phrase (more_labelled_types ls l t) = labelled_types_phrase ls ⨾ type_phrase t

  -- the type binders of a record, with its fields behind them: each binds over the later fields, and not over its own bound
  pub binders_before : TypeBinders → Phrase → Phrase
  binders_before no_binders fields = fields
  binders_before (more_binders bs b) fields = binders_before bs (binder_before b fields)

  pub binder_before : TypeBinder → Phrase → Phrase
  binder_before (type_binder s x k b) fields = bound_phrase b ⨾ over_types (x ∷ []) fields

  pub bound_phrase : Bound → Phrase
  bound_phrase unbounded = nothing
  bound_phrase (bound t) = type_phrase t

abbrev pub annotation_phrase : RType → Phrase
annotation_phrase None = nothing
annotation_phrase (Some t) = type_phrase t

-- patterns
abbrev mutual
  pub pat_phrase : Pat → Phrase
  pat_phrase (bind_pat s x r) = annotation_phrase r
  pat_phrase (any_pat s r) = annotation_phrase r
  pat_phrase (fields_pat s f) = fields_before f nothing
  pat_phrase (fold_pat s r p) = annotation_phrase r ⨾ pat_phrase p

  -- the fields of a record pattern, with what is behind them in the scope of the type binders directly among them
  pub fields_before : FieldPats → Phrase → Phrase
  fields_before (field_pats bs ps ls) rest = binders_before bs (pats_phrase ps ⨾ labelled_pats_phrase ls ⨾ rest)

  pub pats_phrase : Pats → Phrase
  pats_phrase no_pats = nothing
  pats_phrase (more_pats ps p) = pats_phrase ps ⨾ pat_phrase p

  pub labelled_pats_phrase : LabelledPats → Phrase
  labelled_pats_phrase no_labelled_pats = nothing
  labelled_pats_phrase (more_labelled_pats ls l p) = labelled_pats_phrase ls ⨾ pat_phrase p

-- the binders of values in a pattern, the last first
abbrev mutual
  pub pat_values : Pat → List Id
  pat_values (bind_pat s x r) = x ∷ []
  pat_values (any_pat s r) = []
  pat_values (fields_pat s f) = fields_values f
  pat_values (fold_pat s r p) = pat_values p

  pub fields_values : FieldPats → List Id
  fields_values (field_pats bs ps ls) = labelled_pats_values ls ++ pats_values ps

  pub pats_values : Pats → List Id
  pats_values no_pats = []
  pats_values (more_pats ps p) = pat_values p ++ pats_values ps

  pub labelled_pats_values : LabelledPats → List Id
  labelled_pats_values no_labelled_pats = []
  labelled_pats_values (more_labelled_pats ls l p) = pat_values p ++ labelled_pats_values ls

-- and those of types
abbrev pub identifier_of : TypeBinder → Id
identifier_of (type_binder s x k b) = x

abbrev pub binders_types : TypeBinders → List Id
binders_types no_binders = []
binders_types (more_binders bs b) = identifier_of b ∷ binders_types bs

abbrev mutual
  pub pat_types : Pat → List Id
  pat_types (bind_pat s x r) = []
  pat_types (any_pat s r) = []
  pat_types (fields_pat s f) = fields_types f
  pat_types (fold_pat s r p) = pat_types p

  pub fields_types : FieldPats → List Id
  fields_types (field_pats bs ps ls) = (labelled_pats_types ls ++ pats_types ps) ++ binders_types bs

  pub pats_types : Pats → List Id
  pats_types no_pats = []
  pats_types (more_pats ps p) = pat_types p ++ pats_types ps

  pub labelled_pats_types : LabelledPats → List Id
  labelled_pats_types no_labelled_pats = []
  labelled_pats_types (more_labelled_pats ls l p) = pat_types p ++ labelled_pats_types ls

-- the scope of a pattern's binders
abbrev pub over_pattern : List Id → List Id → Phrase → Phrase
over_pattern values types_ p = over_values values (over_types types_ p)

-- the parameters of an operator bind over its body
abbrev pub parameters_over : List Id → Phrase → Phrase
parameters_over [] body = body
parameters_over (x ∷ xs) body = over_types (x ∷ []) (parameters_over xs body)

-- the names of a `def`, the last first
abbrev pub defined_values : Definitions → List Id
defined_values no_definitions = []
defined_values (more_definitions ds x f) = x ∷ defined_values ds

-- declarations, abstractions, values and processes
abbrev mutual
  -- a declaration, with the declarations behind it in its list and the body of the list: it binds over these. A `def` binds over all
  -- its abstractions as well; no pattern binds in its own value, and no type in its own definition
  pub dec_before : Dec → Phrase → Phrase
  dec_before (new_dec s x t) rest = type_phrase t ⨾ over_values (x ∷ []) rest
  dec_before (run_dec s p) rest = proc_phrase p ⨾ rest
  dec_before (let_dec s p v) rest = pat_phrase p ⨾ val_phrase v ⨾ over_pattern (pat_values p) (pat_types p) rest
  dec_before (def_dec s ds) rest = over_values (defined_values ds) (definitions_phrase ds ⨾ rest)
  dec_before (alias_dec s x t) rest = type_phrase t ⨾ over_types (x ∷ []) rest
  dec_before (operator_dec s x xs t) rest = parameters_over xs (type_phrase t) ⨾ over_types (x ∷ []) rest
  dec_before (await_dec s v) rest = val_phrase v ⨾ rest

  pub decs_before : Decs → Phrase → Phrase
  decs_before no_decs body = body
  decs_before (more_decs ds d) body = decs_before ds (dec_before d body)

  pub definitions_phrase : Definitions → Phrase
  definitions_phrase no_definitions = nothing
  definitions_phrase (more_definitions ds x f) = definitions_phrase ds ⨾ abs_phrase f

  -- a pattern binds over the body. A type binder directly among a function's fields binds over its result type, and one in a nested
  -- pattern doesn't
  pub abs_phrase : Abs → Phrase
  abs_phrase (process_abs s p q) = pat_phrase p ⨾ over_pattern (pat_values p) (pat_types p) (proc_phrase q)
  abs_phrase (function_abs s f r v) = fields_before f (annotation_phrase r) ⨾ over_pattern (fields_values f) (fields_types f) (val_phrase v)

  pub chan_phrase : Chan → Phrase
  chan_phrase (use_chan s n) = uses_value n.0
  chan_phrase (fold_chan s r v) = annotation_phrase r ⨾ val_phrase v
  chan_phrase (block_chan s ds v) = decs_before ds (val_phrase v)
  chan_phrase (apply_chan s v f) = val_phrase v ⨾ field_vals_phrase f
  chan_phrase (right_chan s x vs) = uses_value x.name.0 ⨾ vals_phrase vs
  chan_phrase (left_chan s x vs) = uses_value x.name.0 ⨾ vals_phrase vs

  pub val_phrase : Val → Phrase
  val_phrase (of_chan c) = chan_phrase c
  val_phrase (number_val s n) = nothing
  val_phrase (character_val s b) = nothing
  val_phrase (string_val s b) = nothing
  val_phrase (true_val s) = nothing
  val_phrase (false_val s) = nothing
  val_phrase (fields_val s f) = field_vals_phrase f
  val_phrase (if_val s c v w) = val_phrase c ⨾ val_phrase v ⨾ val_phrase w
  val_phrase (lambda_val s f) = abs_phrase f

  pub vals_phrase : Vals → Phrase
  vals_phrase no_vals = nothing
  vals_phrase (more_vals vs v) = vals_phrase vs ⨾ val_phrase v

  pub field_vals_phrase : FieldVals → Phrase
  field_vals_phrase (field_vals ts vs ls) = types_phrase ts ⨾ vals_phrase vs ⨾ labelled_vals_phrase ls

  pub labelled_vals_phrase : LabelledVals → Phrase
  labelled_vals_phrase no_labelled_vals = nothing
  labelled_vals_phrase (more_labelled_vals ls l v) = labelled_vals_phrase ls ⨾ val_phrase v

  pub proc_phrase : Proc → Phrase
  proc_phrase (send_proc s c v) = chan_phrase c ⨾ val_phrase v
  proc_phrase (receive_proc s c f) = chan_phrase c ⨾ abs_phrase f
  proc_phrase (serve_proc s c f) = chan_phrase c ⨾ abs_phrase f
  proc_phrase (if_proc s v p q) = val_phrase v ⨾ proc_phrase p ⨾ proc_phrase q
  proc_phrase (inert_proc s) = nothing
  proc_phrase (group_proc s ds ps) = decs_before ds (procs_phrase ps)

  pub procs_phrase : Procs → Phrase
  procs_phrase no_procs = nothing
  procs_phrase (more_procs ps p) = procs_phrase ps ⨾ proc_phrase p

-- a whole program: its declarations, with nothing behind them
abbrev pub program_phrase : Decs → Phrase
program_phrase p = decs_before p nothing
