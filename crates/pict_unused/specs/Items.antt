-- The uses of values in a program, each with the role in which it stands, and the binders of values, in reading order.
-- `then_x so_far t` are the items so far, and behind them those of `t`.
use Rattle.std.specs.Prelude.{List, [], ◌∷◌, ◌++◌}
use Rattle.pict_syntax.specs.Trees.{Pat, bind_pat, any_pat, fields_pat, fold_pat, FieldPats, field_pats, Pats, no_pats, more_pats, LabelledPats, no_labelled_pats, more_labelled_pats, Dec, new_dec, run_dec, let_dec, def_dec, alias_dec, operator_dec, await_dec, Decs, no_decs, more_decs, Definitions, no_definitions, more_definitions, Abs, process_abs, function_abs, Chan, use_chan, fold_chan, block_chan, apply_chan, right_chan, left_chan, Val, of_chan, number_val, character_val, string_val, true_val, false_val, fields_val, if_val, lambda_val, Vals, no_vals, more_vals, FieldVals, field_vals, LabelledVals, no_labelled_vals, more_labelled_vals, Proc, send_proc, receive_proc, serve_proc, if_proc, inert_proc, group_proc, Procs, no_procs, more_procs}
use Rattle.pict_unused.specs.declared.item.Role.{Role}
use Rattle.pict_unused.specs.declared.item.Role.TheVariants.{Sent, Received, Called, HandedOn}
use Rattle.pict_unused.specs.declared.item.Form.TheVariants.{New, Def, Pattern}
use Rattle.pict_unused.specs.declared.item.Item.{Item}
use Rattle.pict_unused.specs.declared.item.Item.TheVariants.{Use, Bind}

unfoldable mutual
  pub then_pat : List Item → Pat → List Item
  then_pat so_far (bind_pat s x r) = so_far ++ Bind Pattern x ∷ []
  then_pat so_far (any_pat s r) = so_far
  then_pat so_far (fields_pat s f) = then_field_pats so_far f
  then_pat so_far (fold_pat s r p) = then_pat so_far p

  pub then_field_pats : List Item → FieldPats → List Item
  then_field_pats so_far (field_pats bs ps ls) = then_labelled_pats (then_pats so_far ps) ls

  pub then_pats : List Item → Pats → List Item
  then_pats so_far no_pats = so_far
  then_pats so_far (more_pats ps p) = then_pat (then_pats so_far ps) p

  pub then_labelled_pats : List Item → LabelledPats → List Item
  then_labelled_pats so_far no_labelled_pats = so_far
  then_labelled_pats so_far (more_labelled_pats ls l p) = then_pat (then_labelled_pats so_far ls) p

-- A channel or a value that is a name alone stands in the role that is given; all else that it may be uses its parts in their own.
unfoldable mutual
  pub then_dec : List Item → Dec → List Item
  then_dec so_far (new_dec s x t) = so_far ++ Bind New x ∷ []
  then_dec so_far (run_dec s p) = then_proc so_far p
  then_dec so_far (let_dec s p v) = then_val (then_pat so_far p) HandedOn v
  then_dec so_far (def_dec s ds) = then_definitions so_far ds
  then_dec so_far (alias_dec s x t) = so_far
  then_dec so_far (operator_dec s x xs t) = so_far
  then_dec so_far (await_dec s v) = then_val so_far HandedOn v

  pub then_decs : List Item → Decs → List Item
  then_decs so_far no_decs = so_far
  then_decs so_far (more_decs ds d) = then_dec (then_decs so_far ds) d

  pub then_definitions : List Item → Definitions → List Item
  then_definitions so_far no_definitions = so_far
  then_definitions so_far (more_definitions ds x a) = then_abs (then_definitions so_far ds ++ Bind Def x ∷ []) a

  pub then_abs : List Item → Abs → List Item
  then_abs so_far (process_abs s p q) = then_proc (then_pat so_far p) q
  then_abs so_far (function_abs s f r v) = then_val (then_field_pats so_far f) HandedOn v

  pub then_chan : List Item → Role → Chan → List Item
  then_chan so_far role (use_chan s n) = so_far ++ Use role s ∷ []
  then_chan so_far role (fold_chan s r v) = then_val so_far HandedOn v
  then_chan so_far role (block_chan s ds v) = then_val (then_decs so_far ds) HandedOn v
  then_chan so_far role (apply_chan s v f) = then_field_vals (then_val so_far Called v) f
  then_chan so_far role (right_chan s x vs) = then_vals (so_far ++ Use Called x.span ∷ []) vs
  then_chan so_far role (left_chan s x vs) = then_vals (so_far ++ Use Called x.span ∷ []) vs

  pub then_val : List Item → Role → Val → List Item
  then_val so_far role (of_chan c) = then_chan so_far role c
  then_val so_far role (number_val s n) = so_far
  then_val so_far role (character_val s b) = so_far
  then_val so_far role (string_val s b) = so_far
  then_val so_far role (true_val s) = so_far
  then_val so_far role (false_val s) = so_far
  then_val so_far role (fields_val s f) = then_field_vals so_far f
  then_val so_far role (if_val s c v w) = then_val (then_val (then_val so_far HandedOn c) HandedOn v) HandedOn w
  then_val so_far role (lambda_val s a) = then_abs so_far a

  pub then_vals : List Item → Vals → List Item
  then_vals so_far no_vals = so_far
  then_vals so_far (more_vals vs v) = then_val (then_vals so_far vs) HandedOn v

  pub then_field_vals : List Item → FieldVals → List Item
  then_field_vals so_far (field_vals ts vs ls) = then_labelled_vals (then_vals so_far vs) ls

  pub then_labelled_vals : List Item → LabelledVals → List Item
  then_labelled_vals so_far no_labelled_vals = so_far
  then_labelled_vals so_far (more_labelled_vals ls l v) = then_val (then_labelled_vals so_far ls) HandedOn v

  pub then_proc : List Item → Proc → List Item
  then_proc so_far (send_proc s c v) = then_val (then_chan so_far Sent c) HandedOn v
  then_proc so_far (receive_proc s c a) = then_abs (then_chan so_far Received c) a
  then_proc so_far (serve_proc s c a) = then_abs (then_chan so_far Received c) a
  then_proc so_far (if_proc s v p q) = then_proc (then_proc (then_val so_far HandedOn v) p) q
  then_proc so_far (inert_proc s) = so_far
  then_proc so_far (group_proc s ds ps) = then_procs (then_decs so_far ds) ps

  pub then_procs : List Item → Procs → List Item
  then_procs so_far no_procs = so_far
  then_procs so_far (more_procs ps p) = then_proc (then_procs so_far ps) p

-- those of a program
abbrev pub items_of : Decs → List Item
items_of ds = then_decs [] ds
