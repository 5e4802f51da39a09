-- A program renamed apart: each binder of a value gets a name of its own, and each use the name of its binder, as the scopes
-- tell it. Each part is renamed at the place where the scopes read it; types, labels and places stay.
use Rattle.std.specs.Prelude.{ℕ, ◌+◌, List, [], length, Option, Some, None}
use Rattle.pict_syntax.specs.declared.code.Code.TheVariants.{S3, S4}
use Rattle.pict_syntax.specs.declared.id.Id.{Id}
use Rattle.pict_syntax.specs.declared.name.Name.{Name}
use Rattle.pict_syntax.specs.Trees.{Pat, bind_pat, any_pat, fields_pat, fold_pat, FieldPats, field_pats, Pats, no_pats, more_pats, LabelledPats, no_labelled_pats, more_labelled_pats, Dec, new_dec, run_dec, let_dec, def_dec, alias_dec, operator_dec, await_dec, Decs, no_decs, more_decs, Definitions, no_definitions, more_definitions, Abs, process_abs, function_abs, Chan, use_chan, fold_chan, block_chan, apply_chan, right_chan, left_chan, Val, of_chan, number_val, character_val, string_val, true_val, false_val, fields_val, if_val, lambda_val, Vals, no_vals, more_vals, FieldVals, field_vals, LabelledVals, no_labelled_vals, more_labelled_vals, Proc, send_proc, receive_proc, serve_proc, if_proc, inert_proc, group_proc, Procs, no_procs, more_procs}
use Rattle.pict_binders.specs.Numbered.{nearest}
use Rattle.pict_scope.specs.Around.{Around, with_values, with_group, before_pattern, behind_pattern}
use Rattle.pict_scope.specs.Outlines.{empty, ◌▸◌, pattern, once, defines, opens}
use Rattle.pict_scope.specs.Forms.{in_types, in_annotation, in_pattern_binders, in_pat, in_field_pats, in_pats, in_labelled_pats, defined, in_decs, in_definitions, in_chan, in_val, in_vals, in_labelled_vals, in_proc, in_procs}
use Rattle.pict_scope.specs.Scopes.{outermost}

-- the own name of the binder with this number: the names from `base` on are no names of the program
abbrev pub own : ℕ → ℕ → Name
own base k = record { 0 = base + k }

-- a name by the number of its binder; one without binder, which is that of a primitive, stays
abbrev pub own_or : ℕ → Name → Option ℕ → Name
own_or base n None = n
own_or base n (Some k) = own base k

-- a name that is used or defined at a place
abbrev pub renamed : ℕ → Around → Name → Name
renamed base a n = own_or base n (nearest a.values n.0)

abbrev pub renamed_id : ℕ → Around → Id → Id
renamed_id base a x = record { name = renamed base a x.name; span = x.span }

-- the identifier of the next binder of a value
abbrev pub next_id : ℕ → Around → Id → Id
next_id base a x = record { name = own base a.next_value; span = x.span }

-- patterns
unfoldable mutual
  pub apart_pat : ℕ → Around → Pat → Pat
  apart_pat base a (bind_pat s x r) = bind_pat s (next_id base a x) r
  apart_pat base a (any_pat s r) = any_pat s r
  apart_pat base a (fields_pat s f) = fields_pat s (apart_fields base a f)
  apart_pat base a (fold_pat s r p) = fold_pat s r (apart_pat base (opens (in_annotation r) a) p)

  pub apart_fields : ℕ → Around → FieldPats → FieldPats
  apart_fields base a (field_pats bs ps ls) =
      field_pats bs (apart_pats base (opens (in_pattern_binders bs) a) ps)
      (apart_labelled_pats base (with_group [] (opens (in_pats ps) (opens (in_pattern_binders bs) a))) ls)

  pub apart_pats : ℕ → Around → Pats → Pats
  apart_pats base a no_pats = no_pats
  apart_pats base a (more_pats ps p) = more_pats (apart_pats base a ps) (apart_pat base (opens (in_pats ps) a) p)

  pub apart_labelled_pats : ℕ → Around → LabelledPats → LabelledPats
  apart_labelled_pats base a no_labelled_pats = no_labelled_pats
  apart_labelled_pats base a (more_labelled_pats ls l p) =
      more_labelled_pats (apart_labelled_pats base a ls) l (apart_pat base (opens (once S4 l) (opens (in_labelled_pats ls) a)) p)

-- declarations, abstractions, values and processes
unfoldable mutual
  pub apart_dec : ℕ → Around → Dec → Dec
  apart_dec base a (new_dec s x t) = new_dec s (next_id base a x) t
  apart_dec base a (run_dec s p) = run_dec s (apart_proc base a p)
  apart_dec base a (let_dec s p v) =
      let_dec s (apart_pat base (before_pattern a) p) (apart_val base (behind_pattern a (opens (in_pat p) (before_pattern a))) v)
  apart_dec base a (def_dec s ds) = def_dec s (apart_definitions base (with_group [] (with_values (defined ds) a)) ds)
  apart_dec base a (alias_dec s x t) = alias_dec s x t
  apart_dec base a (operator_dec s x xs t) = operator_dec s x xs t
  apart_dec base a (await_dec s v) = await_dec s (apart_val base a v)

  pub apart_decs : ℕ → Around → Decs → Decs
  apart_decs base a no_decs = no_decs
  apart_decs base a (more_decs ds d) = more_decs (apart_decs base a ds) (apart_dec base (opens (in_decs ds) a) d)

  -- the names of a `def` are bound around all of it
  pub apart_definitions : ℕ → Around → Definitions → Definitions
  apart_definitions base a no_definitions = no_definitions
  apart_definitions base a (more_definitions ds x f) =
      more_definitions (apart_definitions base a ds) (renamed_id base a x)
      (apart_abs base (opens (defines x) (opens (once S3 x) (opens (in_definitions ds) a))) f)

  pub apart_abs : ℕ → Around → Abs → Abs
  apart_abs base a (process_abs s p q) =
      process_abs s (apart_pat base (before_pattern a) p) (apart_proc base (opens (pattern (in_pat p) empty) a) q)
  apart_abs base a (function_abs s f r v) =
      function_abs s (apart_fields base (before_pattern a) f) r (apart_val base (opens (pattern (in_field_pats f ▸ in_annotation r) empty) a) v)

  pub apart_chan : ℕ → Around → Chan → Chan
  apart_chan base a (use_chan s n) = use_chan s (renamed base a n)
  apart_chan base a (fold_chan s r v) = fold_chan s r (apart_val base (opens (in_annotation r) a) v)
  apart_chan base a (block_chan s ds v) = block_chan s (apart_decs base a ds) (apart_val base (opens (in_decs ds) a) v)
  apart_chan base a (apply_chan s f vs) = apply_chan s (apart_val base a f) (apart_field_vals base (opens (in_val f) a) vs)
  apart_chan base a (right_chan s f vs) = right_chan s (renamed_id base a f) (apart_vals base a vs)
  apart_chan base a (left_chan s f vs) = left_chan s (renamed_id base a f) (apart_vals base a vs)

  pub apart_val : ℕ → Around → Val → Val
  apart_val base a (of_chan c) = of_chan (apart_chan base a c)
  apart_val base a (number_val s n) = number_val s n
  apart_val base a (character_val s b) = character_val s b
  apart_val base a (string_val s b) = string_val s b
  apart_val base a (true_val s) = true_val s
  apart_val base a (false_val s) = false_val s
  apart_val base a (fields_val s f) = fields_val s (apart_field_vals base a f)
  apart_val base a (if_val s c v w) =
      if_val s (apart_val base a c) (apart_val base (opens (in_val c) a) v) (apart_val base (opens (in_val v) (opens (in_val c) a)) w)
  apart_val base a (lambda_val s f) = lambda_val s (apart_abs base a f)

  pub apart_vals : ℕ → Around → Vals → Vals
  apart_vals base a no_vals = no_vals
  apart_vals base a (more_vals vs v) = more_vals (apart_vals base a vs) (apart_val base (opens (in_vals vs) a) v)

  pub apart_field_vals : ℕ → Around → FieldVals → FieldVals
  apart_field_vals base a (field_vals ts vs ls) =
      field_vals ts (apart_vals base (opens (in_types ts) a) vs)
      (apart_labelled_vals base (with_group [] (opens (in_vals vs) (opens (in_types ts) a))) ls)

  pub apart_labelled_vals : ℕ → Around → LabelledVals → LabelledVals
  apart_labelled_vals base a no_labelled_vals = no_labelled_vals
  apart_labelled_vals base a (more_labelled_vals ls l v) =
      more_labelled_vals (apart_labelled_vals base a ls) l (apart_val base (opens (once S4 l) (opens (in_labelled_vals ls) a)) v)

  pub apart_proc : ℕ → Around → Proc → Proc
  apart_proc base a (send_proc s c v) = send_proc s (apart_chan base a c) (apart_val base (opens (in_chan c) a) v)
  apart_proc base a (receive_proc s c f) = receive_proc s (apart_chan base a c) (apart_abs base (opens (in_chan c) a) f)
  apart_proc base a (serve_proc s c f) = serve_proc s (apart_chan base a c) (apart_abs base (opens (in_chan c) a) f)
  apart_proc base a (if_proc s v p q) =
      if_proc s (apart_val base a v) (apart_proc base (opens (in_val v) a) p) (apart_proc base (opens (in_proc p) (opens (in_val v) a)) q)
  apart_proc base a (inert_proc s) = inert_proc s
  apart_proc base a (group_proc s ds ps) = group_proc s (apart_decs base a ds) (apart_procs base (opens (in_decs ds) a) ps)

  pub apart_procs : ℕ → Around → Procs → Procs
  apart_procs base a no_procs = no_procs
  apart_procs base a (more_procs ps p) = more_procs (apart_procs base a ps) (apart_proc base (opens (in_procs ps) a) p)

-- the whole program
abbrev pub apart : List (List ℕ) → Decs → Decs
apart names p = apart_decs (length names) (outermost names) p
