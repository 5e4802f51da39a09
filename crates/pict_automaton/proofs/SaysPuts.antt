-- A phrase that is put at its place has been read behind what was read there.
use Rattle.std.proofs.Common.{[], ◌∷◌, refl, None, Some}
use Rattle.pict_syntax.specs.declared.span.Span.{Span}
use Rattle.pict_syntax.specs.declared.id.Id.{Id}
use Rattle.pict_syntax.specs.declared.token.TokenKind.TheVariants.{Sign}
use Rattle.pict_syntax.specs.declared.token.Sign.TheVariants.{Underscore}
use Rattle.pict_syntax.specs.Trees.{TypeTree, both_type, read_type, write_type, respond_type, TypeBinder, type_binder, bound, RType, Pat, bind_pat, any_pat, Dec, new_dec, run_dec, let_dec, alias_dec, operator_dec, Abs, process_abs, function_abs, Chan, Val, of_chan, if_val, lambda_val, Proc, send_proc, receive_proc, serve_proc, if_proc}
use Rattle.pict_syntax.specs.Phrases.{◌▸◌, at, ident, join}
use Rattle.pict_syntax.specs.Grammar.{type_span, pat_span, abs_span, chan_span, val_span, proc_span, annotated_end, IsType, IsBinder, IsRType, IsPat, AreTypeArguments, IsDec, IsAbs, IsChan, IsVal, IsProc}
use Rattle.pict_automaton.specs.Places.{asks_once, asks_always, both, read, write, respond, ValuePlace, in_let, in_function, in_send, in_side, in_field, in_label, in_fold, in_else, waiting, ProcessPlace, in_run, in_process, in_else_process, in_bar, in_then_process, in_paren_either, in_then_either, ProcessPlaces, process_only, process_either, ValuePlaces, value_only, value_either, Place, for_value, for_process, for_either, DeclarationPlace, top_declarations, paren_declarations, AbstractionPlace, in_definition, in_lambda, in_input, PatternPlace, in_let_pattern, in_abstraction_pattern, in_fold_pattern, in_field_pattern, in_label_pattern, TypePlace, in_new, in_alias, in_operator, in_bind, in_any, in_result, in_pattern_fold_type, in_fold_type, in_bound, in_prefix, in_type_field, in_type_label, in_type_apply, in_rec, in_argument, BinderPlace, of_patterns, of_types}
use Rattle.pict_automaton.specs.Machine.{after_declaration, put_abstraction, put_process, put_processes, put_value, put_values, put_channel, put_pattern, put_binder, put_type}
use Rattle.pict_automaton.proofs.Inclusions.{Sub, same, then, assoc, under, join1, join2, join3, join4, join6, add_nothing, from_nothing, never_behind, a_led, a_joined}
use Rattle.pict_automaton.proofs.Says.{value_says, process_says, processes_says, values_says, place_says, declaration_says, abstraction_says, pattern_says, type_says, binder_says, state_says}

any_node : {i : Span} (r : RType) → Sub (at (Sign Underscore) i ▸ IsRType r) (IsPat (any_pat (join i (annotated_end i r)) r))
unfolding IsPat
any_node {i} r = record { «in» = λ ts h. (i, (refl, h)) }

pub any_bare : {i : Span} → Sub (at (Sign Underscore) i) (IsPat (any_pat i None))
any_bare {i} = then add_nothing (any_node None)

pub bind_bare : (x : Id) → Sub (ident x) (IsPat (bind_pat x.span x None))
unfolding IsPat
bind_bare x = then add_nothing (a_joined x.span x.span)

pub put_declaration_says : (d : Dec) (p : DeclarationPlace) → Sub (declaration_says p ▸ IsDec d) (place_says (after_declaration d p))
unfolding IsDec
put_declaration_says d (top_declarations ds) = same
put_declaration_says d (paren_declarations o ds (for_value p)) = join2 same
put_declaration_says d (paren_declarations o ds (for_process p)) = join2 same
put_declaration_says d (paren_declarations o ds (for_either p)) = join2 same

mutual
  unfolding IsDec

  pub put_abstraction_says : (p : AbstractionPlace) (a : Abs) → Sub (abstraction_says p ▸ IsAbs a) (state_says (put_abstraction a p))
  put_abstraction_says (in_definition i ds x p) a = join3 same
  put_abstraction_says (in_lambda i p) a = then (join1 (a_led (abs_span a))) (put_values_says p (lambda_val (join i (abs_span a)) a))
  put_abstraction_says (in_input asks_once c p) a = then (join1 (then assoc (a_joined (chan_span c) (abs_span a)))) (put_processes_says p (receive_proc (join (chan_span c) (abs_span a)) c a))
  put_abstraction_says (in_input asks_always c p) a = then (join1 (then assoc (a_joined (chan_span c) (abs_span a)))) (put_processes_says p (serve_proc (join (chan_span c) (abs_span a)) c a))

  pub put_process_says : (p : ProcessPlace) (r : Proc) → Sub (process_says p ▸ IsProc r) (state_says (put_process r p))
  put_process_says (in_run i p) r = then (join1 (a_led (proc_span r))) (put_declaration_says (run_dec (join i (proc_span r)) r) p)
  put_process_says (in_process q p) r = then (join1 (then assoc (a_joined (pat_span q) (proc_span r)))) (put_abstraction_says p (process_abs (join (pat_span q) (proc_span r)) q r))
  put_process_says (in_else_process i a q p) r = then (join1 (then (join4 same) (a_led (proc_span r)))) (put_processes_says p (if_proc (join i (proc_span r)) a q r))
  put_process_says (in_bar o ds rs p) r = join3 same
  put_process_says (in_then_process i a p) r = join3 same

  pub put_processes_says : (p : ProcessPlaces) (r : Proc) → Sub (processes_says p ▸ IsProc r) (state_says (put_processes r p))
  put_processes_says (process_only p) r = put_process_says p r
  put_processes_says (process_either (in_paren_either o ds p)) r = join2 (under from_nothing)
  put_processes_says (process_either (in_then_either i a p)) r = join3 same

  pub put_value_says : (p : ValuePlace) (v : Val) → Sub (value_says p ▸ IsVal v) (state_says (put_value v p))
  put_value_says (in_let i r p) v = then (join1 (then (join2 same) (a_led (val_span v)))) (put_declaration_says (let_dec (join i (val_span v)) r v) p)
  put_value_says (in_function o f r p) v = then (join1 (then (join4 same) (a_led (val_span v)))) (put_abstraction_says p (function_abs (join o (val_span v)) f r v))
  put_value_says (in_send c p) v = then (join1 (then assoc (a_joined (chan_span c) (val_span v)))) (put_processes_says p (send_proc (join (chan_span c) (val_span v)) c v))
  put_value_says (in_side d o x vs p) v = join4 same
  put_value_says (in_field p ts vs) v = join2 same
  put_value_says (in_label p ts vs ls x) v = join3 (join2 same)
  put_value_says (in_fold o r p) v = join3 same
  put_value_says (in_else i a b p) v = then (join1 (then (join4 same) (a_led (val_span v)))) (put_values_says p (if_val (join i (val_span v)) a b v))
  put_value_says (waiting w) v = same

  pub put_values_says : (p : ValuePlaces) (v : Val) → Sub (values_says p ▸ IsVal v) (state_says (put_values v p))
  put_values_says (value_only p) v = put_value_says p v
  put_values_says (value_either p) v = same

pub put_channel_says : (c : Chan) (q : Place) → Sub (place_says q ▸ IsChan c) (state_says (put_channel c q))
unfolding IsDec
put_channel_says c (for_value p) = put_value_says p (of_chan c)
put_channel_says c (for_process p) = same
put_channel_says c (for_either p) = same

pub put_pattern_says : (q : Pat) (p : PatternPlace) → Sub (pattern_says p ▸ IsPat q) (state_says (put_pattern q p))
unfolding IsPat
put_pattern_says q (in_let_pattern i p) = join1 same
put_pattern_says q (in_abstraction_pattern p) = same
put_pattern_says q (in_fold_pattern o r p) = join3 same
put_pattern_says q (in_field_pattern p bs ps) = join2 same
put_pattern_says q (in_label_pattern p bs ps ls x) = join3 (join2 same)

pub put_binder_says : (b : TypeBinder) (p : BinderPlace) → Sub (binder_says p ▸ IsBinder b) (state_says (put_binder b p))
unfolding IsType
put_binder_says b (of_patterns p bs) = join1 same
put_binder_says b (of_types o bs p) = join2 same

pub put_type_says : (p : TypePlace) (t : TypeTree) → Sub (type_says p ▸ IsType t) (state_says (put_type t p))
unfolding IsType IsPat IsDec AreTypeArguments
put_type_says (in_new i x p) t = then (join1 (then (join2 same) (a_led (type_span t)))) (put_declaration_says (new_dec (join i (type_span t)) x t) p)
put_type_says (in_alias i x p) t = then (join1 (then (join2 same) (a_led (type_span t)))) (put_declaration_says (alias_dec (join i (type_span t)) x t) p)
put_type_says (in_operator i x [] p) t = never_behind
put_type_says (in_operator i x (y ∷ ys) p) t = then (join1 (then (join6 same) (a_led (type_span t)))) (put_declaration_says (operator_dec (join i (type_span t)) x (y ∷ ys) t) p)
put_type_says (in_bind x p) t = then (join1 (then assoc (a_joined x.span (type_span t)))) (put_pattern_says (bind_pat (join x.span (type_span t)) x (Some t)) p)
put_type_says (in_any i p) t = then (join1 (then assoc (any_node (Some t)))) (put_pattern_says (any_pat (join i (type_span t)) (Some t)) p)
put_type_says (in_result o f p) t = join4 same
put_type_says (in_pattern_fold_type o p) t = join3 same
put_type_says (in_fold_type o p) t = join3 same
put_type_says (in_bound h x None p) t = then (join1 (then (join2 same) (a_led (type_span t)))) (put_binder_says (type_binder (join h (type_span t)) x None (bound t)) p)
put_type_says (in_bound h x (Some k) p) t = then (join1 (then (join4 same) (a_led (type_span t)))) (put_binder_says (type_binder (join h (type_span t)) x (Some k) (bound t)) p)
put_type_says (in_prefix both i p) t = then (join1 (a_led (type_span t))) (put_type_says p (both_type (join i (type_span t)) t))
put_type_says (in_prefix read i p) t = then (join1 (a_led (type_span t))) (put_type_says p (read_type (join i (type_span t)) t))
put_type_says (in_prefix write i p) t = then (join1 (a_led (type_span t))) (put_type_says p (write_type (join i (type_span t)) t))
put_type_says (in_prefix respond i p) t = then (join1 (a_led (type_span t))) (put_type_says p (respond_type (join i (type_span t)) t))
put_type_says (in_type_field o bs ts p) t = join3 same
put_type_says (in_type_label o bs ts ls x p) t = join4 (join2 same)
put_type_says (in_type_apply o x ts p) t = join3 same
put_type_says (in_rec o x p) t = join4 same
put_type_says (in_argument p ts) t = join2 same
