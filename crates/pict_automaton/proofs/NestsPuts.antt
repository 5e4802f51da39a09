-- A phrase that is put at its place is nested as in the tree that it joins, and no deeper than the place.
use Rattle.std.proofs.Common.{ℕ, suc, List, ◌++◌, ◌≡◌, ◌≤◌, refl, ◌∙◌, append_assoc, None, Some, arith}
use Rattle.pict_syntax.specs.Trees.{TypeTree, both_type, read_type, write_type, respond_type, TypeBinder, type_binder, bound, Pat, bind_pat, any_pat, Dec, new_dec, run_dec, let_dec, alias_dec, operator_dec, Abs, process_abs, function_abs, Chan, Val, of_chan, if_val, lambda_val, Proc, send_proc, receive_proc, serve_proc, if_proc}
use Rattle.pict_syntax.specs.Phrases.{join}
use Rattle.pict_syntax.specs.Grammar.{type_span, pat_span, abs_span, chan_span, val_span, proc_span}
use Rattle.pict_automaton.specs.Places.{asks_once, asks_always, both, read, write, respond, ValuePlace, in_let, in_function, in_send, in_side, in_field, in_label, in_fold, in_else, waiting, ProcessPlace, in_run, in_process, in_else_process, in_bar, in_then_process, in_paren_either, in_then_either, ProcessPlaces, process_only, process_either, ValuePlaces, value_only, value_either, Place, for_value, for_process, for_either, DeclarationPlace, top_declarations, paren_declarations, AbstractionPlace, in_definition, in_lambda, in_input, PatternPlace, in_let_pattern, in_abstraction_pattern, in_fold_pattern, in_field_pattern, in_label_pattern, TypePlace, in_new, in_alias, in_operator, in_bind, in_any, in_result, in_pattern_fold_type, in_fold_type, in_bound, in_prefix, in_type_field, in_type_label, in_type_apply, in_rec, in_argument, BinderPlace, of_patterns, of_types, State}
use Rattle.pict_automaton.specs.Machine.{put_declaration, put_abstraction, put_process, put_processes, put_value, put_values, put_channel, put_pattern, put_binder, put_type}
use Rattle.pict_syntax.specs.Nesting.{type_nest, binder_nest, pat_nest, arguments_nest, dec_nest, abs_nest, chan_nest, val_nest, proc_nest}
use Rattle.pict_automaton.specs.Depth.{value_depth, process_depth, processes_depth, values_depth, place_depth, declaration_depth, abstraction_depth, pattern_depth, type_depth, binder_depth, depth}
use Rattle.pict_automaton.proofs.Nests.{value_nests, process_nests, processes_nests, values_nests, place_nests, declaration_nests, abstraction_nests, pattern_nests, type_nests, binder_nests, state_nests}

-- behind the nestings of a place of depth `d` those of a phrase stand, and the state is no deeper
pub record Puts (d : ℕ) (before : List ℕ → List ℕ) (new : List ℕ) (y : State) : Type 0 where
  pub within : depth y ≤ d
  pub joins : (ns : List ℕ) → state_nests y ns ≡ before (new ++ ns)

-- a place within one construct more, or within as many
pub inner : {d : ℕ} {A B : List ℕ → List ℕ} {M N : List ℕ} {y : State} → Puts d A M y → ((ns : List ℕ) → A (M ++ ns) ≡ B (N ++ ns)) → Puts (suc d) B N y
inner {d} f e = record { within = omega (arith, f.within); joins = λ ns. f.joins ns ∙ e ns }

pub level : {d : ℕ} {A B : List ℕ → List ℕ} {M N : List ℕ} {y : State} → Puts d A M y → ((ns : List ℕ) → A (M ++ ns) ≡ B (N ++ ns)) → Puts d B N y
level f e = record { within = f.within; joins = λ ns. f.joins ns ∙ e ns }

pub ready : {B : List ℕ → List ℕ} {N : List ℕ} {y : State} → ((ns : List ℕ) → state_nests y ns ≡ B (N ++ ns)) → Puts (depth y) B N y
ready e = record { within = omega arith; joins = e }

pub put_declaration_nests : (d : Dec) (p : DeclarationPlace) → Puts (declaration_depth p) (declaration_nests p) (dec_nest (declaration_depth p) d) (put_declaration d p)
unfolding dec_nest
put_declaration_nests d (top_declarations ds) = ready (λ ns. simp append_assoc refl)
put_declaration_nests d (paren_declarations o ds (for_value p)) = ready (λ ns. simp append_assoc refl)
put_declaration_nests d (paren_declarations o ds (for_process p)) = ready (λ ns. simp append_assoc refl)
put_declaration_nests d (paren_declarations o ds (for_either p)) = ready (λ ns. simp append_assoc refl)

mutual
  unfolding dec_nest

  pub put_abstraction_nests : (p : AbstractionPlace) (a : Abs) → Puts (abstraction_depth p) (abstraction_nests p) (abs_nest (abstraction_depth p) a) (put_abstraction a p)
  put_abstraction_nests (in_definition i ds x p) a = ready (λ ns. refl)
  put_abstraction_nests (in_lambda i p) a = level (put_values_nests p (lambda_val (join i (abs_span a)) a)) (λ ns. refl)
  put_abstraction_nests (in_input asks_once c p) a = level (put_processes_nests p (receive_proc (join (chan_span c) (abs_span a)) c a)) (λ ns. simp append_assoc refl)
  put_abstraction_nests (in_input asks_always c p) a = level (put_processes_nests p (serve_proc (join (chan_span c) (abs_span a)) c a)) (λ ns. simp append_assoc refl)

  pub put_process_nests : (p : ProcessPlace) (r : Proc) → Puts (process_depth p) (process_nests p) (proc_nest (process_depth p) r) (put_process r p)
  put_process_nests (in_run i p) r = level (put_declaration_nests (run_dec (join i (proc_span r)) r) p) (λ ns. refl)
  put_process_nests (in_process q p) r = inner (put_abstraction_nests p (process_abs (join (pat_span q) (proc_span r)) q r)) (λ ns. simp append_assoc refl)
  put_process_nests (in_else_process i a q p) r = inner (put_processes_nests p (if_proc (join i (proc_span r)) a q r)) (λ ns. simp append_assoc refl)
  put_process_nests (in_bar o ds rs p) r = ready (λ ns. refl)
  put_process_nests (in_then_process i a p) r = ready (λ ns. refl)

  pub put_processes_nests : (p : ProcessPlaces) (r : Proc) → Puts (processes_depth p) (processes_nests p) (proc_nest (processes_depth p) r) (put_processes r p)
  put_processes_nests (process_only p) r = put_process_nests p r
  put_processes_nests (process_either (in_paren_either o ds p)) r = ready (λ ns. refl)
  put_processes_nests (process_either (in_then_either i a p)) r = ready (λ ns. refl)

  pub put_value_nests : (p : ValuePlace) (v : Val) → Puts (value_depth p) (value_nests p) (val_nest (value_depth p) v) (put_value v p)
  put_value_nests (in_let i r p) v = level (put_declaration_nests (let_dec (join i (val_span v)) r v) p) (λ ns. simp append_assoc refl)
  put_value_nests (in_function o f r p) v = inner (put_abstraction_nests p (function_abs (join o (val_span v)) f r v)) (λ ns. simp append_assoc refl)
  put_value_nests (in_send c p) v = level (put_processes_nests p (send_proc (join (chan_span c) (val_span v)) c v)) (λ ns. simp append_assoc refl)
  put_value_nests (in_side d o x vs p) v = ready (λ ns. simp append_assoc refl)
  put_value_nests (in_field p ts vs) v = ready (λ ns. simp append_assoc refl)
  put_value_nests (in_label p ts vs ls x) v = ready (λ ns. simp append_assoc refl)
  put_value_nests (in_fold o r p) v = ready (λ ns. refl)
  put_value_nests (in_else i a b p) v = inner (put_values_nests p (if_val (join i (val_span v)) a b v)) (λ ns. simp append_assoc refl)
  put_value_nests (waiting w) v = ready (λ ns. refl)

  pub put_values_nests : (p : ValuePlaces) (v : Val) → Puts (values_depth p) (values_nests p) (val_nest (values_depth p) v) (put_values v p)
  put_values_nests (value_only p) v = put_value_nests p v
  put_values_nests (value_either p) v = ready (λ ns. refl)

pub put_channel_nests : (c : Chan) (q : Place) → Puts (place_depth q) (place_nests q) (chan_nest (place_depth q) c) (put_channel c q)
unfolding dec_nest
put_channel_nests c (for_value p) = put_value_nests p (of_chan c)
put_channel_nests c (for_process p) = ready (λ ns. refl)
put_channel_nests c (for_either p) = ready (λ ns. refl)

pub put_pattern_nests : (q : Pat) (p : PatternPlace) → Puts (pattern_depth p) (pattern_nests p) (pat_nest (pattern_depth p) q) (put_pattern q p)
unfolding pat_nest
put_pattern_nests q (in_let_pattern i p) = ready (λ ns. refl)
put_pattern_nests q (in_abstraction_pattern p) = ready (λ ns. refl)
put_pattern_nests q (in_fold_pattern o r p) = ready (λ ns. refl)
put_pattern_nests q (in_field_pattern p bs ps) = ready (λ ns. simp append_assoc refl)
put_pattern_nests q (in_label_pattern p bs ps ls x) = ready (λ ns. simp append_assoc refl)

pub put_binder_nests : (b : TypeBinder) (p : BinderPlace) → Puts (binder_depth p) (binder_nests p) (binder_nest (binder_depth p) b) (put_binder b p)
unfolding type_nest
put_binder_nests b (of_patterns p bs) = ready (λ ns. simp append_assoc refl)
put_binder_nests b (of_types o bs p) = ready (λ ns. simp append_assoc refl)

pub put_type_nests : (p : TypePlace) (t : TypeTree) → Puts (type_depth p) (type_nests p) (type_nest (type_depth p) t) (put_type t p)
unfolding type_nest pat_nest dec_nest arguments_nest
put_type_nests (in_new i x p) t = level (put_declaration_nests (new_dec (join i (type_span t)) x t) p) (λ ns. refl)
put_type_nests (in_alias i x p) t = level (put_declaration_nests (alias_dec (join i (type_span t)) x t) p) (λ ns. refl)
put_type_nests (in_operator i x ys p) t = level (put_declaration_nests (operator_dec (join i (type_span t)) x ys t) p) (λ ns. simp append_assoc refl)
put_type_nests (in_bind x p) t = level (put_pattern_nests (bind_pat (join x.span (type_span t)) x (Some t)) p) (λ ns. refl)
put_type_nests (in_any i p) t = level (put_pattern_nests (any_pat (join i (type_span t)) (Some t)) p) (λ ns. refl)
put_type_nests (in_result o f p) t = ready (λ ns. refl)
put_type_nests (in_pattern_fold_type o p) t = ready (λ ns. refl)
put_type_nests (in_fold_type o p) t = ready (λ ns. refl)
put_type_nests (in_bound h x None p) t = level (put_binder_nests (type_binder (join h (type_span t)) x None (bound t)) p) (λ ns. refl)
put_type_nests (in_bound h x (Some k) p) t = level (put_binder_nests (type_binder (join h (type_span t)) x (Some k) (bound t)) p) (λ ns. simp append_assoc refl)
put_type_nests (in_prefix both i p) t = inner (put_type_nests p (both_type (join i (type_span t)) t)) (λ ns. refl)
put_type_nests (in_prefix read i p) t = inner (put_type_nests p (read_type (join i (type_span t)) t)) (λ ns. refl)
put_type_nests (in_prefix write i p) t = inner (put_type_nests p (write_type (join i (type_span t)) t)) (λ ns. refl)
put_type_nests (in_prefix respond i p) t = inner (put_type_nests p (respond_type (join i (type_span t)) t)) (λ ns. refl)
put_type_nests (in_type_field o bs ts p) t = ready (λ ns. simp append_assoc refl)
put_type_nests (in_type_label o bs ts ls x p) t = ready (λ ns. simp append_assoc refl)
put_type_nests (in_type_apply o x ts p) t = ready (λ ns. simp append_assoc refl)
put_type_nests (in_rec o x p) t = ready (λ ns. refl)
put_type_nests (in_argument p ts) t = ready (λ ns. simp append_assoc refl)
