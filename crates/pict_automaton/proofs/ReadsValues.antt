-- The machine reads values, processes and declarations.
use Rattle.std.proofs.Common.{◌≡◌, List, [], ◌∷◌, ◌++◌, refl, sym, ap, ◌∙◌, append_assoc, append-nil, None, Some}
use Rattle.pict_syntax.specs.declared.span.Span.{Span}
use Rattle.pict_syntax.specs.declared.id.Id.{Id}
use Rattle.pict_syntax.specs.declared.token.Token.{Token}
use Rattle.pict_syntax.specs.declared.token.TokenKind.{TokenKind}
use Rattle.pict_syntax.specs.declared.token.TokenKind.TheVariants.{Keyword, Sign}
use Rattle.pict_syntax.specs.declared.token.Keyword.TheVariants.{Def, New, Rec, Run, TypeDefinition, Val as ValKeyword}
use Rattle.pict_syntax.specs.declared.token.Sign.TheVariants.{Equals, Colon}
use Rattle.pict_syntax.specs.Trees.{no_binders, TypeTrees, no_types, more_types, RType, FieldPats, Dec, new_dec, run_dec, let_dec, def_dec, alias_dec, operator_dec, await_dec, Decs, no_decs, more_decs, Definitions, no_definitions, more_definitions, Abs, process_abs, function_abs, Chan, use_chan, fold_chan, block_chan, apply_chan, right_chan, left_chan, Val, of_chan, number_val, character_val, string_val, true_val, false_val, fields_val, if_val, lambda_val, Vals, no_vals, more_vals, FieldVals, field_vals, LabelledVals, no_labelled_vals, more_labelled_vals, Proc, send_proc, receive_proc, serve_proc, if_proc, inert_proc, group_proc, Procs, no_procs, more_procs}
use Rattle.pict_syntax.specs.Phrases.{◌▸◌, at, sign, ident, idents}
use Rattle.pict_syntax.specs.Grammar.{type_span, pat_span, abs_span, chan_span, val_span, proc_span, IsRType, AreFieldPats, AreTypeArguments, IsDec, AreDecs, AreDefinitionsAnd, IsAbs, IsChan, IsVal, AreFieldVals, AreVals, AreLabelledVals, IsProc, AreProcsBar}
use Rattle.pict_automaton.specs.Places.{State, need, in_let, in_function, in_send, in_side, in_field, in_label, in_fold, in_else, waiting, at_top, in_test, in_run, in_process, in_else_process, in_paren_either, ProcessPlaces, process_only, ValuePlaces, value_only, value_either, Place, for_value, for_either, DeclarationPlace, top_declarations, paren_declarations, AbstractionPlace, in_definition, in_lambda, in_input, asks_once, asks_always, FieldsPlace, in_record, in_apply, in_let_pattern, in_parameters, in_new, in_alias, in_operator, in_result, in_fold_type, in_argument, definition_keyword, have_definition, operator_parameters, need_abstraction, abstraction_open, abstraction_parameters, fold_keyword, after_arguments, after_values, after_binders, Side, rightward, leftward, arguments}
use Rattle.pict_automaton.specs.Machine.{id, of_processes, of_values, paren_values, parens, put_declaration, put_abstraction, put_values, put_processes, put_channel, step, run, ended}
use Rattle.pict_automaton.proofs.Reading.{Ahead, anything, next, Reads, follow, then_any, one, first, some_keyword, first_keyword, some_sign, first_sign, empty, no_reads, then_falls, falls_then, weaken, weaken_falls, always, falls, onto, reads_names, led_reads, between_reads, closed_reads, joined_reads, Starts, starts_at, starts_with, starts_keyword, starts_sign, starts_name, starts_led, starts_between, starts_joined, starts_closed, starts_never, starts_also, starts_behind, Leads, leads_nothing, leads_more, leads_both, calm_next, then_next, then_leads}
use Rattle.pict_automaton.proofs.Ahead.{Calm, NotColon, NotRec, NotSide, Applies, StartsVal, value_applies, value_calm, applies_side, Closes, closes_applies, closes_calm, closes_rec}
use Rattle.pict_automaton.proofs.ReadsTypes.{reads_type}
use Rattle.pict_automaton.proofs.ReadsPatterns.{reads_pattern, reads_field_patterns, reads_abstraction_pattern, rec_field_patterns, patterns_end, parameters_close}
use Rattle.pict_automaton.proofs.ValuePlaces.{put_item, one_item_value, Behind, behind, reads_name, symbol_named, reads_use, open_paren, paren_processes, rec_step, fold_falls, close_block, apply_falls, named_paren, side_falls, if_values, then_values, then_value, else_value, if_processes, then_processes, then_process, put_then, open_record, lambda_step, put_channel_processes, with_declarations, declaration_values, declaration_place, after_place, declaration_begins, await_step, definition_falls, processes_place, put_processes_place, field_other, field_name_falls, arguments_fall, values_behind, values_end, label_begins, label_equals, close_record, close_apply}

-- what phrases begin with
starts_channel : (c : Chan) → Starts StartsVal (IsChan c)
unfolding IsDec
starts_channel (use_chan s n) = starts_name n s tt (λ y. tt)
starts_channel (fold_chan s r v) = starts_between tt
starts_channel (block_chan s no_decs v) = starts_never
starts_channel (block_chan s (more_decs ds d) v) = starts_between tt
starts_channel (apply_chan s v f) = starts_between tt
starts_channel (right_chan s x (more_vals (more_vals vs v) w)) = starts_between tt
starts_channel (right_chan s x _) = starts_never
starts_channel (left_chan s x (more_vals (more_vals vs v) w)) = starts_between tt
starts_channel (left_chan s x _) = starts_never

starts_value : (v : Val) → Starts StartsVal (IsVal v)
unfolding IsDec
starts_value (of_chan c) = starts_channel c
starts_value (number_val s n) = starts_at tt
starts_value (character_val s b) = starts_at tt
starts_value (string_val s b) = starts_at tt
starts_value (true_val s) = starts_at tt
starts_value (false_val s) = starts_at tt
starts_value (fields_val s f) = starts_between tt
starts_value (if_val s a b c) = starts_led (val_span c) tt
starts_value (lambda_val s a) = starts_led (abs_span a) tt

starts_process : (p : Proc) → Starts Calm (IsProc p)
unfolding IsDec
starts_process (send_proc s c v) = starts_joined (chan_span c) (val_span v) (starts_with (starts_also value_calm (starts_channel c)))
starts_process (receive_proc s c a) = starts_joined (chan_span c) (abs_span a) (starts_with (starts_also value_calm (starts_channel c)))
starts_process (serve_proc s c a) = starts_joined (chan_span c) (abs_span a) (starts_with (starts_also value_calm (starts_channel c)))
starts_process (if_proc s a p q) = starts_led (proc_span q) tt
starts_process (inert_proc s) = starts_between tt
starts_process (group_proc s ds no_procs) = starts_never
starts_process (group_proc s ds (more_procs ps p)) = starts_between tt

pub starts_declaration : (d : Dec) → Starts Calm (IsDec d)
unfolding IsDec
starts_declaration (new_dec s x t) = starts_led (type_span t) tt
starts_declaration (run_dec s p) = starts_led (proc_span p) tt
starts_declaration (let_dec s p v) = starts_led (val_span v) tt
starts_declaration (def_dec s no_definitions) = starts_never
starts_declaration (def_dec s (more_definitions ds x a)) = starts_led (abs_span a) tt
starts_declaration (alias_dec s x t) = starts_led (type_span t) tt
starts_declaration (operator_dec s x [] t) = starts_never
starts_declaration (operator_dec s x (y ∷ ys) t) = starts_led (type_span t) tt
starts_declaration (await_dec s v) = starts_closed (val_span v) (starts_also value_calm (starts_value v))

leads_values : {P : TokenKind → Type 0} → ((k : TokenKind) → StartsVal k → P k) → (vs : Vals) → Leads P (AreVals vs)
unfolding IsDec
leads_values w no_vals = leads_nothing
leads_values w (more_vals vs v) = leads_more (leads_values w vs) (starts_also w (starts_value v))

leads_labelled_values : {P : TokenKind → Type 0} → ((k : TokenKind) → StartsVal k → P k) → (ls : LabelledVals) → Leads P (AreLabelledVals ls)
unfolding IsDec
leads_labelled_values w no_labelled_vals = leads_nothing
leads_labelled_values w (more_labelled_vals ls x v) = leads_more (leads_labelled_values w ls) (starts_also w (starts_with (starts_at tt)))

leads_type_arguments : (ts : TypeTrees) → Leads Applies (AreTypeArguments ts)
unfolding AreTypeArguments
leads_type_arguments no_types = leads_nothing
leads_type_arguments (more_types ts t) = leads_more (leads_type_arguments ts) (starts_with (starts_sign tt))

leads_field_values : (f : FieldVals) → Leads Applies (AreFieldVals f)
unfolding IsDec
leads_field_values (field_vals ts vs ls) = leads_both (leads_type_arguments ts) (leads_both (leads_values value_applies vs) (leads_labelled_values value_applies ls))

leads_processes_bar : (ps : Procs) → Leads Calm (AreProcsBar ps)
unfolding IsDec
leads_processes_bar no_procs = leads_nothing
leads_processes_bar (more_procs ps p) = leads_more (leads_processes_bar ps) (starts_with (starts_process p))

-- parts that need the reading of a value
folded : {z : State} (r : RType) (v : Val) (o : Span) (q : Place) → Reads anything (need (for_value (in_fold o r q))) (IsVal v) z → Reads anything (fold_keyword o q) (IsRType r ▸ IsVal v) z
folded None v o q f = then_any empty (falls_then (λ l r h c. (starts_also value_colon (starts_value v)).begins l r h) (fold_falls o q) f)
  where
    value_colon : (k : TokenKind) → StartsVal k → NotColon k
    value_colon (Sign Colon) h = h
    value_colon k h = tt
folded (Some t) v o q f = then_any (first_sign (λ i. refl) (reads_type t (in_fold_type o q))) f

side_value : (v : Val) (d : Side) (o : Span) (x : Id) (vs : Vals) (q : Place) → Reads anything (need (for_value (in_side d o x vs q))) (IsVal v) (arguments d o x (more_vals vs v) q) → Reads anything (arguments d o x vs q) (IsVal v) (arguments d o x (more_vals vs v) q)
side_value v d o x vs q f = falls_then (λ l r h c. (starts_value v).begins l r h) (side_falls d o x vs q) f

function_rest : {z : State} (r : RType) (o : Span) (f : FieldPats) (p : AbstractionPlace) (v : Val) → Reads anything (need (for_value (in_function o f r p))) (IsVal v) z → Reads anything (abstraction_parameters o f p) (IsRType r ▸ (sign Equals ▸ IsVal v)) z
function_rest None o f p v g = then_any empty (first_sign (λ i. refl) g)
function_rest (Some t) o f p v g = then_any (first_sign (λ i. refl) (reads_type t (in_result o f p))) (first_sign (λ i. refl) g)

params : (f : FieldPats) (o : Span) (p : AbstractionPlace) → Reads (next Closes) (abstraction_open o p) (AreFieldPats f) (patterns_end (in_parameters o p) f)
params f o p = falls_then (λ l r h c. (rec_field_patterns f).leads l r h (calm_next closes_rec r c)) (falls same) (weaken (calm_next closes_calm) (reads_field_patterns f (in_parameters o p)))
  where
    same : (k : TokenKind) (i : Span) → NotRec k → step k i (abstraction_open o p) ≡ step k i (after_binders (in_parameters o p) no_binders)
    same (Keyword Rec) i h = absurd h
    same k i h = refl

field_value : (v : Val) (p : FieldsPlace) (ts : TypeTrees) (vs : Vals) → Reads anything (need (for_value (in_field p ts vs))) (IsVal v) (after_values p ts (more_vals vs v)) → Reads (next Calm) (after_values p ts vs) (IsVal v) (after_values p ts (more_vals vs v))
unfolding IsDec
field_value (of_chan (use_chan s n)) p ts vs f = reads_names n s (then_falls (one refl) (field_name_falls p ts vs (id n s))) (λ y. one refl)
field_value (of_chan (fold_chan s r v)) p ts vs f = field_other p ts vs (starts_between tt) f
field_value (of_chan (block_chan s no_decs v)) p ts vs f = no_reads
field_value (of_chan (block_chan s (more_decs ds d) v)) p ts vs f = field_other p ts vs (starts_between tt) f
field_value (of_chan (apply_chan s v g)) p ts vs f = field_other p ts vs (starts_between tt) f
field_value (of_chan (right_chan s x (more_vals (more_vals us v) w))) p ts vs f = field_other p ts vs (starts_between tt) f
field_value (of_chan (right_chan s x _)) p ts vs f = no_reads
field_value (of_chan (left_chan s x (more_vals (more_vals us v) w))) p ts vs f = field_other p ts vs (starts_between tt) f
field_value (of_chan (left_chan s x _)) p ts vs f = no_reads
field_value (number_val s n) p ts vs f = field_other p ts vs (starts_at tt) f
field_value (character_val s b) p ts vs f = field_other p ts vs (starts_at tt) f
field_value (string_val s b) p ts vs f = field_other p ts vs (starts_at tt) f
field_value (true_val s) p ts vs f = field_other p ts vs (starts_at tt) f
field_value (false_val s) p ts vs f = field_other p ts vs (starts_at tt) f
field_value (fields_val s g) p ts vs f = field_other p ts vs (starts_between tt) f
field_value (if_val s a b c) p ts vs f = field_other p ts vs (starts_led (val_span c) tt) f
field_value (lambda_val s a) p ts vs f = field_other p ts vs (starts_led (abs_span a) tt) f

reads_type_arguments : (ts : TypeTrees) (p : FieldsPlace) → Reads anything (after_arguments p no_types) (AreTypeArguments ts) (after_arguments p ts)
unfolding AreTypeArguments
reads_type_arguments no_types p = empty
reads_type_arguments (more_types ts t) p = then_any (reads_type_arguments ts p) (first_sign (λ i. refl) (reads_type t (in_argument p ts)))

reads_idents : (ys : List Id) (j : Span) (x : Id) (zs : List Id) (p : DeclarationPlace) → Reads anything (operator_parameters j x zs p) (idents ys) (operator_parameters j x (zs ++ ys) p)
unfolding idents
reads_idents [] j x zs p = onto empty (ap (λ l. operator_parameters j x l p) (sym (append-nil zs)))
reads_idents (y ∷ ys) j x zs p = first refl (onto (reads_idents ys j x (zs ++ y ∷ []) p) (ap (λ l. operator_parameters j x l p) (append_assoc zs (y ∷ []) ys)))

-- a declaration is the last one, or more is to come; only where more is to come is the end of a `def` seen
data End : Type 0 where
  last followed : End

abbrev ahead : End → Ahead
ahead last = anything
ahead followed = next Calm

abbrev DefThen : End → Dec → Type 0
DefThen c (def_dec s ds) = (r : List Token) → ahead c r → next Calm r
DefThen c _ = Unit {0}

calm_then : (d : Dec) → DefThen followed d
calm_then (def_dec s ds) = λ r h. h
calm_then _ = tt

mutual
  unfolding IsDec

  pub reads_channel : (c : Chan) (q : Place) → Reads (Behind q) (need q) (IsChan c) (put_channel c q)
  reads_channel (use_chan s n) q = reads_use n s q
  reads_channel (fold_chan s r v) q =
      between_reads (λ s. put_channel (fold_chan s r v) q) (λ i j. first (open_paren q i)
      (then_any (first_keyword (rec_step q i) (folded r v i q (onto (reads_value v (value_only (in_fold i r q))) (one_item_value v (in_fold i r q))))) (one refl)))
  reads_channel (block_chan s no_decs v) q = no_reads
  reads_channel (block_chan s (more_decs ds d) v) q =
      between_reads (λ s. put_channel (block_chan s (more_decs ds d) v) q) (λ i j. first (open_paren q i)
      (then_next {P = NotSide} (starts_at tt)
      (then_next {P = Calm} (starts_with (starts_declaration d)) (reads_declarations ds (paren_declarations i no_decs q))
      (then_next {P = Calm} (starts_also value_calm (starts_value v)) (reads_declaration followed d (calm_then d) (paren_declarations i ds q))
      (weaken (behind (parens i (more_decs ds d) q)) (reads_value v (paren_values i (more_decs ds d) q)))))
      (one (close_block q v i j ds d))))
  reads_channel (apply_chan s v f) q =
      between_reads (λ s. put_channel (apply_chan s v f) q) (λ i j. first (open_paren q i)
      (then_next {P = Closes} (starts_at tt)
      (follow {C = next Applies} (λ ts r h c. (leads_field_values f).leads ts r h (calm_next closes_applies r c))
      (then_falls (weaken (λ r h. behind (parens i no_decs q) r (calm_next applies_side r h)) (reads_value v (paren_values i no_decs q))) (apply_falls q v i))
      (weaken (calm_next closes_calm) (reads_field_values f (in_apply i v q))))
      (one (close_apply f (in_apply i v q) j))))
  reads_channel (right_chan s x (more_vals (more_vals vs v) w)) q =
      between_reads (λ s. put_channel (right_chan s x (more_vals (more_vals vs v) w)) q) (λ i j. first (open_paren q i)
      (then_any
      (then_any (reads_name x.name x.span (one (named_paren q x.name i x.span)) (λ y. symbol_named x.name y x.span (parens i no_decs q)))
      (first_sign (λ k. refl) (then_any (reads_side vs rightward i x q)
      (then_any (side_value v rightward i x vs q (onto (reads_value v (value_only (in_side rightward i x vs q))) (one_item_value v (in_side rightward i x vs q))))
      (side_value w rightward i x (more_vals vs v) q (onto (reads_value w (value_only (in_side rightward i x (more_vals vs v) q))) (one_item_value w (in_side rightward i x (more_vals vs v) q))))))))
      (one refl)))
  reads_channel (right_chan s x _) q = no_reads
  reads_channel (left_chan s x (more_vals (more_vals vs v) w)) q =
      between_reads (λ s. put_channel (left_chan s x (more_vals (more_vals vs v) w)) q) (λ i j. first (open_paren q i)
      (then_any
      (then_any (reads_name x.name x.span (one (named_paren q x.name i x.span)) (λ y. symbol_named x.name y x.span (parens i no_decs q)))
      (first_sign (λ k. refl) (then_any (reads_side vs leftward i x q)
      (then_any (side_value v leftward i x vs q (onto (reads_value v (value_only (in_side leftward i x vs q))) (one_item_value v (in_side leftward i x vs q))))
      (side_value w leftward i x (more_vals vs v) q (onto (reads_value w (value_only (in_side leftward i x (more_vals vs v) q))) (one_item_value w (in_side leftward i x (more_vals vs v) q))))))))
      (one refl)))
  reads_channel (left_chan s x _) q = no_reads

  pub reads_value : (v : Val) (q : ValuePlaces) → Reads (Behind (of_values q)) (need (of_values q)) (IsVal v) (put_item v q)
  reads_value (of_chan c) q = reads_channel c (of_values q)
  reads_value (number_val s n) (value_only p) = one refl
  reads_value (number_val s n) (value_either p) = one refl
  reads_value (character_val s b) (value_only p) = one refl
  reads_value (character_val s b) (value_either p) = one refl
  reads_value (string_val s b) (value_only p) = one refl
  reads_value (string_val s b) (value_either p) = one refl
  reads_value (true_val s) (value_only p) = one refl
  reads_value (true_val s) (value_either p) = one refl
  reads_value (false_val s) (value_only p) = one refl
  reads_value (false_val s) (value_either p) = one refl
  reads_value (fields_val s f) q =
      between_reads (λ s. put_values (fields_val s f) q) (λ i j. first (open_record q i)
      (then_next {P = Calm} (starts_at tt) (reads_field_values f (in_record i q)) (one (close_record f (in_record i q) j))))
  reads_value (if_val s a b c) q =
      led_reads (val_span c) (λ s. put_values (if_val s a b c) q) (λ i. first (if_values q i)
      (then_any (onto (reads_value a (value_only (waiting (in_test i (of_values q))))) (one_item_value a (waiting (in_test i (of_values q)))))
      (first_keyword (then_value q a i)
      (then_next {P = NotSide} (starts_with (starts_keyword tt)) (weaken (behind (of_values (then_values i a q))) (reads_value b (then_values i a q)))
      (first_keyword (else_value q b a i) (always (onto (reads_value c (value_only (in_else i a b q))) (one_item_value c (in_else i a b q)))))))))
  reads_value (lambda_val s a) q = led_reads (abs_span a) (λ s. put_values (lambda_val s a) q) (λ i. first (lambda_step q i) (always (reads_abstraction a (in_lambda i q))))

  reads_side : (vs : Vals) (d : Side) (o : Span) (x : Id) (q : Place) → Reads anything (arguments d o x no_vals q) (AreVals vs) (arguments d o x vs q)
  reads_side no_vals d o x q = empty
  reads_side (more_vals vs v) d o x q = then_any (reads_side vs d o x q) (side_value v d o x vs q (onto (reads_value v (value_only (in_side d o x vs q))) (one_item_value v (in_side d o x vs q))))

  reads_field_values : (f : FieldVals) (p : FieldsPlace) → Reads (next Calm) (after_arguments p no_types) (AreFieldVals f) (values_end p f)
  reads_field_values (field_vals ts vs ls) p =
      then_leads (leads_both (leads_values value_calm vs) (leads_labelled_values value_calm ls))
      (then_falls (always (reads_type_arguments ts p)) (arguments_fall p ts))
      (then_leads (leads_labelled_values value_calm ls) (reads_values vs p ts) (reads_labelled_values ls p ts vs))

  reads_values : (vs : Vals) (p : FieldsPlace) (ts : TypeTrees) → Reads (next Calm) (after_values p ts no_vals) (AreVals vs) (after_values p ts vs)
  reads_values no_vals p ts = empty
  reads_values (more_vals vs v) p ts = then_next (starts_also value_calm (starts_value v)) (reads_values vs p ts) (field_value v p ts vs (onto (reads_value v (value_only (in_field p ts vs))) (one_item_value v (in_field p ts vs))))

  reads_labelled_values : (ls : LabelledVals) (p : FieldsPlace) (ts : TypeTrees) (vs : Vals) → Reads (next Calm) (after_values p ts vs) (AreLabelledVals ls) (values_behind p ts vs ls)
  reads_labelled_values no_labelled_vals p ts vs = empty
  reads_labelled_values (more_labelled_vals ls x v) p ts vs =
      then_next {P = Calm} (starts_with (starts_at tt)) (reads_labelled_values ls p ts vs)
      (first (label_begins ls p ts vs x) (first_sign (label_equals ls p ts vs x) (always (onto (reads_value v (value_only (in_label p ts vs ls x))) (one_item_value v (in_label p ts vs ls x))))))

  pub reads_abstraction : (a : Abs) (p : AbstractionPlace) → Reads anything (need_abstraction p) (IsAbs a) (put_abstraction a p)
  reads_abstraction (process_abs s r q) p =
      joined_reads (pat_span r) (proc_span q) (λ s. put_abstraction (process_abs s r q) p)
      (then_next {P = NotColon} (starts_with (starts_sign tt)) (reads_abstraction_pattern r p) (first_sign (λ i. refl) (reads_process q (process_only (in_process r p)))))
  reads_abstraction (function_abs s f r v) p =
      led_reads (val_span v) (λ s. put_abstraction (function_abs s f r v) p) (λ i. first refl
      (then_next {P = Closes} (starts_with (starts_sign tt)) (params f i p)
      (first_sign (parameters_close f (in_parameters i p)) (function_rest r i f p v (onto (reads_value v (value_only (in_function i f r p))) (one_item_value v (in_function i f r p)))))))

  pub reads_process : (r : Proc) (q : ProcessPlaces) → Reads anything (need (of_processes q)) (IsProc r) (put_processes r q)
  reads_process (send_proc s c v) q =
      joined_reads (chan_span c) (val_span v) (λ s. put_processes (send_proc s c v) q)
      (then_next {P = NotSide} (starts_with (starts_sign tt)) (weaken (behind (of_processes q)) (onto (reads_channel c (of_processes q)) (put_channel_processes q c)))
      (first_sign (λ i. refl) (onto (reads_value v (value_only (in_send c q))) (one_item_value v (in_send c q)))))
  reads_process (receive_proc s c a) q =
      joined_reads (chan_span c) (abs_span a) (λ s. put_processes (receive_proc s c a) q)
      (then_next {P = NotSide} (starts_with (starts_sign tt)) (weaken (behind (of_processes q)) (onto (reads_channel c (of_processes q)) (put_channel_processes q c)))
      (first_sign (λ i. refl) (reads_abstraction a (in_input asks_once c q))))
  reads_process (serve_proc s c a) q =
      joined_reads (chan_span c) (abs_span a) (λ s. put_processes (serve_proc s c a) q)
      (then_next {P = NotSide} (starts_with (starts_sign tt)) (weaken (behind (of_processes q)) (onto (reads_channel c (of_processes q)) (put_channel_processes q c)))
      (first_sign (λ i. refl) (reads_abstraction a (in_input asks_always c q))))
  reads_process (if_proc s a r t) q =
      led_reads (proc_span t) (λ s. put_processes (if_proc s a r t) q) (λ i. first (if_processes q i)
      (then_any (onto (reads_value a (value_only (waiting (in_test i (of_processes q))))) (one_item_value a (waiting (in_test i (of_processes q)))))
      (first_keyword (then_process q a i)
      (then_any (onto (reads_process r (then_processes i a q)) (put_then q r a i))
      (first_keyword (λ k. refl) (reads_process t (process_only (in_else_process i a r q))))))))
  reads_process (inert_proc s) q = between_reads (λ s. put_processes (inert_proc s) q) (λ i j. first (open_paren (of_processes q) i ∙ ap need (paren_processes i no_decs q)) (then_any empty (one refl)))
  reads_process (group_proc s ds no_procs) q = no_reads
  reads_process (group_proc s ds (more_procs ps p)) q =
      between_reads (λ s. put_processes (group_proc s ds (more_procs ps p)) q) (λ i j. first (open_paren (of_processes q) i)
      (then_any
      (then_next {P = Calm} (starts_behind (leads_processes_bar ps) (starts_process p))
      (onto (reads_declarations ds (paren_declarations i no_decs (of_processes q))) (ap need (paren_processes i ds q)))
      (then_any (reads_processes_bar ps i ds q) (onto (reads_process p (processes_place i ds ps q)) (put_processes_place ps p i ds q))))
      (one refl)))

  reads_processes_bar : (ps : Procs) (o : Span) (ds : Decs) (q : ProcessPlaces) → Reads anything (need (for_either (in_paren_either o ds q))) (AreProcsBar ps) (need (of_processes (processes_place o ds ps q)))
  reads_processes_bar no_procs o ds q = empty
  reads_processes_bar (more_procs ps p) o ds q =
      then_any (reads_processes_bar ps o ds q) (then_any (onto (reads_process p (processes_place o ds ps q)) (put_processes_place ps p o ds q)) (some_sign (λ i. refl)))

  pub reads_declarations : (ds : Decs) (p : DeclarationPlace) → Reads (next Calm) (need (declaration_place (with_declarations p no_decs))) (AreDecs ds) (need (declaration_place (with_declarations p ds)))
  reads_declarations no_decs p = empty
  reads_declarations (more_decs ds d) p = then_next (starts_declaration d) (reads_declarations ds p) (onto (reads_declaration followed d (calm_then d) (with_declarations p ds)) (ap need (after_place p ds d)))

  reads_declaration : (c : End) (d : Dec) → DefThen c d → (p : DeclarationPlace) → Reads (ahead c) (need (declaration_place p)) (IsDec d) (put_declaration d p)
  reads_declaration c (new_dec s x t) w p = led_reads (type_span t) (λ s. put_declaration (new_dec s x t) p) (λ i. first (declaration_begins p New tt i) (first refl (first_sign (λ k. refl) (always (reads_type t (in_new i x p))))))
  reads_declaration c (run_dec s r) w p = led_reads (proc_span r) (λ s. put_declaration (run_dec s r) p) (λ i. first (declaration_begins p Run tt i) (always (reads_process r (process_only (in_run i p)))))
  reads_declaration c (let_dec s r v) w p =
      led_reads (val_span v) (λ s. put_declaration (let_dec s r v) p) (λ i. first (declaration_begins p ValKeyword tt i)
      (then_next {P = NotColon} (starts_with (starts_sign tt)) (reads_pattern r (in_let_pattern i p))
      (first_sign (λ k. refl) (always (onto (reads_value v (value_only (in_let i r p))) (one_item_value v (in_let i r p)))))))
  reads_declaration c (def_dec s no_definitions) w p = no_reads
  reads_declaration c (def_dec s (more_definitions ds x a)) w p =
      led_reads (abs_span a) (λ s. put_declaration (def_dec s (more_definitions ds x a)) p) (λ i. then_falls
      (first (declaration_begins p Def tt i) (then_any (reads_definitions ds i p) (first refl (always (reads_abstraction a (in_definition i ds x p))))))
      (weaken_falls w (definition_falls i ds x a p)))
  reads_declaration c (alias_dec s x t) w p = led_reads (type_span t) (λ s. put_declaration (alias_dec s x t) p) (λ i. first (declaration_begins p TypeDefinition tt i) (first refl (first_sign (λ k. refl) (always (reads_type t (in_alias i x p))))))
  reads_declaration c (operator_dec s x [] t) w p = no_reads
  reads_declaration c (operator_dec s x (y ∷ ys) t) w p =
      led_reads (type_span t) (λ s. put_declaration (operator_dec s x (y ∷ ys) t) p) (λ i. first (declaration_begins p TypeDefinition tt i)
      (first_sign (λ k. refl) (first refl (first refl (then_any (reads_idents ys i x (y ∷ []) p)
      (first_sign (λ k. refl) (first_sign (λ k. refl) (always (reads_type t (in_operator i x (y ∷ ys) p))))))))))
  reads_declaration c (await_dec s v) w p =
      closed_reads (val_span v) (λ s. put_declaration (await_dec s v) p) (λ j.
      then_next {P = NotSide} (starts_at tt) (weaken (behind (declaration_place p)) (reads_value v (declaration_values p))) (one (await_step p v j)))

  pub reads_definitions : (ds : Definitions) (i : Span) (p : DeclarationPlace) → Reads anything (definition_keyword i no_definitions p) (AreDefinitionsAnd ds) (definition_keyword i ds p)
  reads_definitions no_definitions i p = empty
  reads_definitions (more_definitions ds x a) i p =
      then_any (reads_definitions ds i p) (first refl (then_any (reads_abstraction a (in_definition i ds x p)) (some_keyword (λ k. refl))))

-- a `def` to its last body
pub reads_definition : (ds : Definitions) (x : Id) (a : Abs) (i : Span) (p : DeclarationPlace) → Reads anything (need (declaration_place p)) (at (Keyword Def) i ▸ (AreDefinitionsAnd ds ▸ (ident x ▸ IsAbs a))) (have_definition i ds x a p)
reads_definition ds x a i p = first (declaration_begins p Def tt i) (then_any (reads_definitions ds i p) (first refl (reads_abstraction a (in_definition i ds x p))))

-- the last declaration of a text
pub ends_declaration : (d : Dec) (ds : Decs) (ts : List Token) → IsDec d ts → ended (run (need (for_value (waiting (at_top ds)))) ts) ≡ Some (more_decs ds d)
unfolding IsDec
ends_declaration (def_dec s no_definitions) ds ts h = absurd h
ends_declaration (def_dec s (more_definitions es x a)) ds ts h =
    ap (λ l. ended (run (need (for_value (waiting (at_top ds)))) l)) (sym (append-nil ts))
    ∙ ap ended ((reads_definition es x a h.0 (top_declarations ds)).runs ts [] h.2 tt)
    ∙ ap (λ z. Some (more_decs ds (def_dec z (more_definitions es x a)))) (sym h.1)
ends_declaration d ds ts h =
    ap (λ l. ended (run (need (for_value (waiting (at_top ds)))) l)) (sym (append-nil ts))
    ∙ ap ended ((reads_declaration last d tt (top_declarations ds)).runs ts [] h tt)
