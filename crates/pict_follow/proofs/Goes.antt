-- A phrase that is put at its place leads to a state that goes on.
use Rattle.std.proofs.Common.{Some}
use Rattle.pict_syntax.specs.Trees.{TypeTree, TypeBinder, type_binder, bound, Pat, bind_pat, any_pat, Abs, process_abs, function_abs, Chan, Val, of_chan, if_val, lambda_val, Proc, send_proc, receive_proc, serve_proc, if_proc}
use Rattle.pict_syntax.specs.Phrases.{join}
use Rattle.pict_syntax.specs.Grammar.{type_span, pat_span, abs_span, chan_span, val_span, proc_span}
use Rattle.pict_automaton.specs.Places.{asks_once, asks_always, prefixed, ValuePlace, in_function, in_send, in_else, ProcessPlace, in_process, in_else_process, in_paren_either, in_then_either, ProcessPlaces, process_only, process_either, ValuePlaces, value_only, value_either, Place, for_value, AbstractionPlace, in_definition, in_lambda, in_input, PatternPlace, in_let_pattern, TypePlace, in_bind, in_any, in_bound, in_prefix, BinderPlace, of_patterns, of_types}
use Rattle.pict_automaton.specs.Machine.{put_abstraction, put_process, put_processes, put_value, put_values, put_channel, put_pattern, put_binder, put_type}
use Rattle.pict_automaton.proofs.Finish.{Going}

mutual
  pub put_abstraction_goes : (p : AbstractionPlace) (a : Abs) → Going (put_abstraction a p)
  put_abstraction_goes (in_definition i ds x p) a = tt
  put_abstraction_goes (in_lambda i p) a = put_values_goes p (lambda_val (join i (abs_span a)) a)
  put_abstraction_goes (in_input asks_once c p) a = put_processes_goes p (receive_proc (join (chan_span c) (abs_span a)) c a)
  put_abstraction_goes (in_input asks_always c p) a = put_processes_goes p (serve_proc (join (chan_span c) (abs_span a)) c a)

  pub put_process_goes : (p : ProcessPlace) (r : Proc) → Going (put_process r p)
  put_process_goes (in_process q p) r = put_abstraction_goes p (process_abs (join (pat_span q) (proc_span r)) q r)
  put_process_goes (in_else_process i a q p) r = put_processes_goes p (if_proc (join i (proc_span r)) a q r)
  put_process_goes _ r = tt

  pub put_processes_goes : (p : ProcessPlaces) (r : Proc) → Going (put_processes r p)
  put_processes_goes (process_only p) r = put_process_goes p r
  put_processes_goes (process_either (in_paren_either o ds p)) r = tt
  put_processes_goes (process_either (in_then_either i a p)) r = tt

  pub put_value_goes : (p : ValuePlace) (v : Val) → Going (put_value v p)
  put_value_goes (in_function o f r p) v = put_abstraction_goes p (function_abs (join o (val_span v)) f r v)
  put_value_goes (in_send c p) v = put_processes_goes p (send_proc (join (chan_span c) (val_span v)) c v)
  put_value_goes (in_else i a b p) v = put_values_goes p (if_val (join i (val_span v)) a b v)
  put_value_goes _ v = tt

  pub put_values_goes : (p : ValuePlaces) (v : Val) → Going (put_values v p)
  put_values_goes (value_only p) v = put_value_goes p v
  put_values_goes (value_either p) v = tt

pub put_channel_goes : (q : Place) (c : Chan) → Going (put_channel c q)
put_channel_goes (for_value p) c = put_value_goes p (of_chan c)
put_channel_goes _ c = tt

pub put_pattern_goes : (p : PatternPlace) (q : Pat) → Going (put_pattern q p)
put_pattern_goes (in_let_pattern i p) q = tt
put_pattern_goes _ q = tt

pub put_binder_goes : (p : BinderPlace) (b : TypeBinder) → Going (put_binder b p)
put_binder_goes (of_patterns p bs) b = tt
put_binder_goes (of_types o bs p) b = tt

pub put_type_goes : (p : TypePlace) (t : TypeTree) → Going (put_type t p)
put_type_goes (in_bind x p) t = put_pattern_goes p (bind_pat (join x.span (type_span t)) x (Some t))
put_type_goes (in_any i p) t = put_pattern_goes p (any_pat (join i (type_span t)) (Some t))
put_type_goes (in_bound h x k p) t = put_binder_goes p (type_binder (join h (type_span t)) x k (bound t))
put_type_goes (in_prefix m i p) t = put_type_goes p (prefixed m (join i (type_span t)) t)
put_type_goes _ t = tt
