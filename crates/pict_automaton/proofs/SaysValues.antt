-- A token that is read has been read behind what was read: declarations, values and processes; and all states.
use Rattle.std.proofs.Common.{List, [], ◌∷◌, ◌++◌, None}
use Rattle.pict_syntax.specs.declared.name.Name.{Name}
use Rattle.pict_syntax.specs.declared.span.Span.{Span}
use Rattle.pict_syntax.specs.declared.id.Id.{Id}
use Rattle.pict_syntax.specs.declared.token.TokenKind.{TokenKind}
use Rattle.pict_syntax.specs.declared.token.TokenKind.TheVariants.{Identifier, Symbol, Keyword, Number, Character, String, Sign}
use Rattle.pict_syntax.specs.declared.token.Keyword.{Keyword as AnyKeyword}
use Rattle.pict_syntax.specs.declared.token.Keyword.TheVariants.{And, Def, Else, False, If, New, Rec, Run, Then, True, TypeDefinition, Val as ValKeyword}
use Rattle.pict_syntax.specs.declared.token.Sign.{Sign as AnySign}
use Rattle.pict_syntax.specs.declared.token.Sign.TheVariants.{Bang, Question, QuestionStar, Equals, Bar, OpenParen, CloseParen, OpenBracket, CloseBracket, Colon, Semicolon, Less, Greater, Backslash, Hash}
use Rattle.pict_syntax.specs.Trees.{TypeTree, TypeTrees, no_types, no_binders, RType, FieldPats, def_dec, await_dec, Decs, no_decs, more_decs, Definitions, more_definitions, Abs, Chan, use_chan, fold_chan, block_chan, apply_chan, right_chan, left_chan, Val, of_chan, number_val, character_val, string_val, true_val, false_val, fields_val, Vals, no_vals, more_vals, FieldVals, field_vals, LabelledVals, no_labelled_vals, Proc, inert_proc, group_proc, Procs, more_procs}
use Rattle.pict_syntax.specs.Phrases.{Phrase, nothing, ◌▸◌, at, keyword, ident, idents, name, join}
use Rattle.pict_syntax.specs.Grammar.{abs_span, val_span, IsType, AreTypeArguments, IsDec, AreDecs, IsChan, IsVal, AreFieldVals}
use Rattle.pict_automaton.specs.Places.{Side, rightward, leftward, ValuePlace, in_side, in_field, in_fold, waiting, Wait, at_top, in_test, in_then, in_paren, ProcessPlace, EitherPlace, in_paren_either, in_then_either, ProcessPlaces, process_only, process_either, ValuePlaces, value_only, value_either, Place, for_value, for_process, for_either, DeclarationPlace, top_declarations, paren_declarations, AbstractionPlace, FieldsPlace, in_record, in_apply, in_abstraction_pattern, in_parameters, State, stop, need, fresh_name, arguments, have_channel, have_value, have_either, have_process, have_processes, new_keyword, new_name, let_pattern, definition_keyword, have_definition, type_keyword, alias_name, operator_open, operator_parameters, operator_closed, need_abstraction, abstraction_open, abstraction_pattern, abstraction_parameters, abstraction_result, need_pattern, pattern_open, pattern_rec, pattern_folded, have_bind, have_any, after_binders, after_patterns, pattern_name, after_pattern_labels, pattern_label, binder_hash, binder_name, need_kind, kind_arguments, kind_mark, kind_arrow, kind_result, binder_kind, need_type, type_open, rec_keyword, rec_name, rec_body, operator_arguments, after_type_binders, after_types, type_name, after_type_labels, type_label, fold_keyword, fold_body, after_arguments, after_values, value_name, after_labels, value_label}
use Rattle.pict_automaton.specs.Machine.{id, then_place, after_declaration, begin_declaration, begin_first, step_new_keyword, step_new_name, step_definition_keyword, step_type_keyword, step_alias_name, step_operator_open, close_operator, step_operator_parameters, step_operator_closed, step_need_abstraction, step_abstraction_open, step_abstraction_parameters, step_abstraction_result, name_value, declaration_value, keyword_value, sign_value, begin_value, begin_process, name_either, declaration_either, keyword_either, close_inert, sign_either, begin_either, step_need, step_have_definition, close_values, step_values, step_value_name, step_labels, step_value_label, step_arguments_of, step_fold_keyword, step_fold_body, close_side, step_side, close_paren, step_first, step_paren, step_top, step_test, step_then, step_wait, step_either, step_channel_value, step_channel, step_used, step_fresh_name, step_process, step_processes, step}
use Rattle.pict_automaton.proofs.Inclusions.{Sub, same, then, assoc, under, over, apart2, join1, join2, join3, join4, join5, join6, a_keyword, a_sign, an_identifier, a_symbol, add_nothing, from_nothing, drop_nothing, never_first, gone, a_led, a_closed, closing}
use Rattle.pict_automaton.proofs.Says.{defined_operator, value_says, wait_says, process_says, either_says, processes_says, values_says, place_says, declaration_says, abstraction_says, fields_says, state_says}
use Rattle.pict_automaton.proofs.SaysPuts.{put_declaration_says, put_processes_says, put_value_says, put_values_says, put_channel_says}
use Rattle.pict_automaton.proofs.SaysTypes.{begin_type_says, step_type_open_says, step_rec_keyword_says, step_rec_name_says, step_rec_body_says, step_operator_arguments_says, step_types_says, step_type_name_says, step_type_labels_says, step_type_label_says, step_type_binders_says, begin_pattern_says, step_pattern_open_says, step_pattern_rec_says, step_pattern_folded_says, step_patterns_says, step_pattern_labels_says, step_pattern_label_says, step_binders_says, step_let_pattern_says, step_abstraction_pattern_says, step_bind_says, step_any_says, step_pattern_name_says, step_hash_says, step_binder_name_says, step_need_kind_says, step_kind_arguments_says, step_kind_mark_says, step_kind_arrow_says, step_kind_result_says, step_binder_kind_says}

-- declarations
begin_declaration_says : (k : AnyKeyword) (i : Span) (p : DeclarationPlace) → Sub (declaration_says p ▸ at (Keyword k) i) (state_says (begin_declaration k i p))
unfolding IsDec
begin_declaration_says New i p = same
begin_declaration_says Run i p = same
begin_declaration_says ValKeyword i p = same
begin_declaration_says Def i p = under add_nothing
begin_declaration_says TypeDefinition i p = same
begin_declaration_says _ i p = gone

begin_first_says : (k : AnyKeyword) (i o : Span) (q : Place) → Sub ((place_says q ▸ (at (Sign OpenParen) o ▸ nothing)) ▸ at (Keyword k) i) (state_says (begin_first k i o q (paren_declarations o no_decs q)))
unfolding IsDec
begin_first_says Rec i o q = join2 (then drop_nothing a_keyword)
begin_first_says k i o q = begin_declaration_says k i (paren_declarations o no_decs q)

step_new_keyword_says : (k : TokenKind) (i j : Span) (p : DeclarationPlace) → Sub (state_says (new_keyword j p) ▸ at k i) (state_says (step_new_keyword k i j p))
step_new_keyword_says (Identifier n) i j p = join1 same
step_new_keyword_says _ i j p = gone

step_new_name_says : (k : TokenKind) (i j : Span) (x : Id) (p : DeclarationPlace) → Sub (state_says (new_name j x p) ▸ at k i) (state_says (step_new_name k i j x p))
step_new_name_says (Sign Colon) i j x p = join2 (under a_sign)
step_new_name_says _ i j x p = gone

step_definition_keyword_says : (k : TokenKind) (i j : Span) (ds : Definitions) (p : DeclarationPlace) → Sub (state_says (definition_keyword j ds p) ▸ at k i) (state_says (step_definition_keyword k i j ds p))
step_definition_keyword_says (Identifier n) i j ds p = join2 same
step_definition_keyword_says _ i j ds p = gone

step_type_keyword_says : (k : TokenKind) (i j : Span) (p : DeclarationPlace) → Sub (state_says (type_keyword j p) ▸ at k i) (state_says (step_type_keyword k i j p))
step_type_keyword_says (Identifier n) i j p = join1 same
step_type_keyword_says (Sign OpenParen) i j p = join1 (under a_sign)
step_type_keyword_says _ i j p = gone

step_alias_name_says : (k : TokenKind) (i j : Span) (x : Id) (p : DeclarationPlace) → Sub (state_says (alias_name j x p) ▸ at k i) (state_says (step_alias_name k i j x p))
step_alias_name_says (Sign Equals) i j x p = join2 (under a_sign)
step_alias_name_says _ i j x p = gone

step_operator_open_says : (k : TokenKind) (i j : Span) (p : DeclarationPlace) → Sub (state_says (operator_open j p) ▸ at k i) (state_says (step_operator_open k i j p))
unfolding idents
step_operator_open_says (Identifier n) i j p = join2 (under add_nothing)
step_operator_open_says _ i j p = gone

idents_more : (ys : List Id) (z : Id) → Sub (idents ys ▸ ident z) (idents (ys ++ z ∷ []))
unfolding idents
idents_more [] z = then drop_nothing add_nothing
idents_more (y ∷ ys) z = then assoc (under (idents_more ys z))

close_operator_says : (i j : Span) (x : Id) (ys : List Id) (p : DeclarationPlace) → Sub (state_says (operator_parameters j x ys p) ▸ at (Sign CloseParen) i) (state_says (close_operator j x ys p))
unfolding idents
close_operator_says i j x [] p = gone
close_operator_says i j x (y ∷ ys) p = join5 (under a_sign)

step_operator_parameters_says : (k : TokenKind) (i j : Span) (x : Id) (ys : List Id) (p : DeclarationPlace) → Sub (state_says (operator_parameters j x ys p) ▸ at k i) (state_says (step_operator_parameters k i j x ys p))
step_operator_parameters_says (Identifier n) i j x ys p = join4 (idents_more ys (id n i))
step_operator_parameters_says (Sign CloseParen) i j x ys p = close_operator_says i j x ys p
step_operator_parameters_says _ i j x ys p = gone

define_operator_says : (i j : Span) (x : Id) (ys : List Id) (p : DeclarationPlace) → Sub (state_says (operator_closed j x ys p) ▸ at (Sign Equals) i) (declaration_says p ▸ defined_operator j x ys)
define_operator_says i j x [] p = join1 never_first
define_operator_says i j x (y ∷ ys) p = join6 (under a_sign)

step_operator_closed_says : (k : TokenKind) (i j : Span) (x : Id) (ys : List Id) (p : DeclarationPlace) → Sub (state_says (operator_closed j x ys p) ▸ at k i) (state_says (step_operator_closed k i j x ys p))
step_operator_closed_says (Sign Equals) i j x ys p = define_operator_says i j x ys p
step_operator_closed_says _ i j x ys p = gone

-- abstractions
step_need_abstraction_says : (k : TokenKind) (i : Span) (p : AbstractionPlace) → Sub (abstraction_says p ▸ at k i) (state_says (step_need_abstraction k i p))
step_need_abstraction_says (Sign OpenParen) i p = same
step_need_abstraction_says k i p = begin_pattern_says k i (in_abstraction_pattern p)

step_abstraction_open_says : (k : TokenKind) (i o : Span) (p : AbstractionPlace) → Sub (state_says (abstraction_open o p) ▸ at k i) (state_says (step_abstraction_open k i o p))
unfolding IsType
step_abstraction_open_says (Keyword Rec) i o p = join1 (under a_keyword)
step_abstraction_open_says k i o p = then (over add_nothing) (step_binders_says k i (in_parameters o p) no_binders)

step_abstraction_parameters_says : (k : TokenKind) (i o : Span) (f : FieldPats) (p : AbstractionPlace) → Sub (state_says (abstraction_parameters o f p) ▸ at k i) (state_says (step_abstraction_parameters k i o f p))
step_abstraction_parameters_says (Sign Colon) i o f p = join3 (under a_sign)
step_abstraction_parameters_says (Sign Equals) i o f p = join3 (under (then a_sign from_nothing))
step_abstraction_parameters_says _ i o f p = gone

step_abstraction_result_says : (k : TokenKind) (i o : Span) (f : FieldPats) (t : TypeTree) (p : AbstractionPlace) → Sub (state_says (abstraction_result o f t p) ▸ at k i) (state_says (step_abstraction_result k i o f t p))
step_abstraction_result_says (Sign Equals) i o f t p = join4 (under a_sign)
step_abstraction_result_says _ i o f t p = gone

-- values
name_value_says : (n : Name) (i : Span) (p : ValuePlace) → Sub (value_says p ▸ name n i) (state_says (name_value n i p))
unfolding IsDec
name_value_says n i (waiting (in_paren o no_decs p)) = join2 drop_nothing
name_value_says n i p = put_value_says p (of_chan (use_chan i n))

declaration_value_says : (k : AnyKeyword) (i : Span) (p : ValuePlace) → Sub (value_says p ▸ at (Keyword k) i) (state_says (declaration_value k i p))
unfolding IsDec
declaration_value_says k i (waiting (at_top ds)) = begin_declaration_says k i (top_declarations ds)
declaration_value_says k i (waiting (in_paren o no_decs p)) = begin_first_says k i o (for_value p)
declaration_value_says k i (waiting (in_paren o (more_decs ds d) p)) = begin_declaration_says k i (paren_declarations o (more_decs ds d) (for_value p))
declaration_value_says k i p = gone

keyword_value_says : (k : AnyKeyword) (i : Span) (p : ValuePlace) → Sub (value_says p ▸ at (Keyword k) i) (state_says (keyword_value k i p))
unfolding IsDec
keyword_value_says True i p = put_value_says p (true_val i)
keyword_value_says False i p = put_value_says p (false_val i)
keyword_value_says If i p = same
keyword_value_says k i p = declaration_value_says k i p

sign_value_says : (m : AnySign) (i : Span) (p : ValuePlace) → Sub (value_says p ▸ at (Sign m) i) (state_says (sign_value m i p))
unfolding IsDec AreTypeArguments
sign_value_says OpenParen i p = under add_nothing
sign_value_says OpenBracket i p = add_nothing
sign_value_says Backslash i p = same
sign_value_says _ i p = gone

begin_value_says : (k : TokenKind) (i : Span) (p : ValuePlace) → Sub (value_says p ▸ at k i) (state_says (begin_value k i p))
unfolding IsDec
begin_value_says (Identifier n) i p = then (under an_identifier) (name_value_says n i p)
begin_value_says (Symbol y n) i p = then (under a_symbol) (name_value_says n i p)
begin_value_says (Number n) i p = put_value_says p (number_val i n)
begin_value_says (Character b) i p = put_value_says p (character_val i b)
begin_value_says (String b) i p = put_value_says p (string_val i b)
begin_value_says (Keyword k) i p = keyword_value_says k i p
begin_value_says (Sign m) i p = sign_value_says m i p

begin_process_says : (k : TokenKind) (i : Span) (p : ProcessPlace) → Sub (process_says p ▸ at k i) (state_says (begin_process k i p))
unfolding IsDec
begin_process_says (Identifier n) i p = under an_identifier
begin_process_says (Symbol y n) i p = under a_symbol
begin_process_says (Keyword If) i p = same
begin_process_says (Sign OpenParen) i p = under add_nothing
begin_process_says _ i p = gone

name_either_says : (n : Name) (i : Span) (p : EitherPlace) → Sub (either_says p ▸ name n i) (state_says (name_either n i p))
unfolding IsDec
name_either_says n i (in_paren_either o no_decs (process_only p)) = join2 drop_nothing
name_either_says n i (in_paren_either o no_decs (process_either p)) = join2 drop_nothing
name_either_says n i (in_paren_either o (more_decs ds d) p) = same
name_either_says n i (in_then_either j a p) = same

declaration_either_says : (k : AnyKeyword) (i : Span) (p : EitherPlace) → Sub (either_says p ▸ at (Keyword k) i) (state_says (declaration_either k i p))
unfolding IsDec
declaration_either_says k i (in_paren_either o no_decs (process_only p)) = begin_first_says k i o (for_process p)
declaration_either_says k i (in_paren_either o no_decs (process_either p)) = begin_first_says k i o (for_either p)
declaration_either_says k i (in_paren_either o (more_decs ds d) (process_only p)) = begin_declaration_says k i (paren_declarations o (more_decs ds d) (for_process p))
declaration_either_says k i (in_paren_either o (more_decs ds d) (process_either p)) = begin_declaration_says k i (paren_declarations o (more_decs ds d) (for_either p))
declaration_either_says k i (in_then_either j a p) = gone

keyword_either_says : (k : AnyKeyword) (i : Span) (p : EitherPlace) → Sub (either_says p ▸ at (Keyword k) i) (state_says (keyword_either k i p))
unfolding IsDec
keyword_either_says True i p = same
keyword_either_says False i p = same
keyword_either_says If i p = same
keyword_either_says k i p = declaration_either_says k i p

close_inert_says : (i : Span) (p : EitherPlace) → Sub (either_says p ▸ at (Sign CloseParen) i) (state_says (close_inert i p))
unfolding IsDec
close_inert_says i (in_paren_either o no_decs p) = then (join1 closing) (put_processes_says p (inert_proc (join o i)))
close_inert_says i p = gone

sign_either_says : (m : AnySign) (i : Span) (p : EitherPlace) → Sub (either_says p ▸ at (Sign m) i) (state_says (sign_either m i p))
unfolding IsDec AreTypeArguments
sign_either_says OpenParen i p = under add_nothing
sign_either_says OpenBracket i p = add_nothing
sign_either_says Backslash i p = same
sign_either_says CloseParen i p = close_inert_says i p
sign_either_says _ i p = gone

begin_either_says : (k : TokenKind) (i : Span) (p : EitherPlace) → Sub (either_says p ▸ at k i) (state_says (begin_either k i p))
unfolding IsDec
begin_either_says (Identifier n) i p = then (under an_identifier) (name_either_says n i p)
begin_either_says (Symbol y n) i p = then (under a_symbol) (name_either_says n i p)
begin_either_says (Number n) i p = same
begin_either_says (Character b) i p = same
begin_either_says (String b) i p = same
begin_either_says (Keyword k) i p = keyword_either_says k i p
begin_either_says (Sign m) i p = sign_either_says m i p

step_need_says : (k : TokenKind) (i : Span) (q : Place) → Sub (place_says q ▸ at k i) (state_says (step_need k i q))
step_need_says k i (for_value p) = begin_value_says k i p
step_need_says k i (for_process p) = begin_process_says k i p
step_need_says k i (for_either p) = begin_either_says k i p

step_have_definition_says : (k : TokenKind) (i j : Span) (ds : Definitions) (x : Id) (a : Abs) (p : DeclarationPlace) → Sub (state_says (have_definition j ds x a p) ▸ at k i) (state_says (step_have_definition k i j ds x a p))
unfolding IsDec
step_have_definition_says (Keyword And) i j ds x a p = join2 (join2 (under a_keyword))
step_have_definition_says k i j ds x a p =
    then (over (then (under (a_led (abs_span a))) (put_declaration_says (def_dec (join j (abs_span a)) (more_definitions ds x a)) p)))
    (step_need_says k i (after_declaration (def_dec (join j (abs_span a)) (more_definitions ds x a)) p))

-- fields
close_values_says : (m : AnySign) (i : Span) (p : FieldsPlace) (f : FieldVals) → Sub ((fields_says p ▸ AreFieldVals f) ▸ at (Sign m) i) (state_says (close_values m i p f))
unfolding IsDec
close_values_says CloseBracket i (in_record o p) f = then (over assoc) (then (join1 closing) (put_values_says p (fields_val (join o i) f)))
close_values_says CloseParen i (in_apply o v q) f = then (over (join2 same)) (then (join1 closing) (put_channel_says (apply_chan (join o i) v f) q))
close_values_says _ i p f = gone

step_values_says : (k : TokenKind) (i : Span) (p : FieldsPlace) (ts : TypeTrees) (vs : Vals) → Sub (state_says (after_values p ts vs) ▸ at k i) (state_says (step_values k i p ts vs))
unfolding IsDec
step_values_says (Sign CloseBracket) i p ts vs = then (over (under (under add_nothing))) (close_values_says CloseBracket i p (field_vals ts vs no_labelled_vals))
step_values_says (Sign CloseParen) i p ts vs = then (over (under (under add_nothing))) (close_values_says CloseParen i p (field_vals ts vs no_labelled_vals))
step_values_says (Identifier n) i p ts vs = join2 same
step_values_says k i p ts vs = begin_value_says k i (in_field p ts vs)

step_value_name_says : (k : TokenKind) (i : Span) (p : FieldsPlace) (ts : TypeTrees) (vs : Vals) (x : Id) → Sub (state_says (value_name p ts vs x) ▸ at k i) (state_says (step_value_name k i p ts vs x))
unfolding IsDec
step_value_name_says (Sign Equals) i p ts vs x = join3 (then (under a_sign) from_nothing)
step_value_name_says k i p ts vs x = then (over (under (under (under an_identifier)))) (step_values_says k i p ts (more_vals vs (of_chan (use_chan x.span x.name))))

step_labels_says : (k : TokenKind) (i : Span) (p : FieldsPlace) (ts : TypeTrees) (vs : Vals) (ls : LabelledVals) → Sub (state_says (after_labels p ts vs ls) ▸ at k i) (state_says (step_labels k i p ts vs ls))
unfolding IsDec
step_labels_says (Sign CloseBracket) i p ts vs ls = close_values_says CloseBracket i p (field_vals ts vs ls)
step_labels_says (Sign CloseParen) i p ts vs ls = close_values_says CloseParen i p (field_vals ts vs ls)
step_labels_says (Identifier n) i p ts vs ls = join3 same
step_labels_says _ i p ts vs ls = gone

step_value_label_says : (k : TokenKind) (i : Span) (p : FieldsPlace) (ts : TypeTrees) (vs : Vals) (ls : LabelledVals) (x : Id) → Sub (state_says (value_label p ts vs ls x) ▸ at k i) (state_says (step_value_label k i p ts vs ls x))
step_value_label_says (Sign Equals) i p ts vs ls x = join4 (under a_sign)
step_value_label_says _ i p ts vs ls x = gone

step_arguments_says : (k : TokenKind) (i : Span) (p : FieldsPlace) (ts : TypeTrees) → Sub (state_says (after_arguments p ts) ▸ at k i) (state_says (step_arguments_of k i p ts))
unfolding IsDec
step_arguments_says (Sign Hash) i p ts = join1 (under a_sign)
step_arguments_says k i p ts = then (over (under add_nothing)) (step_values_says k i p ts no_vals)

step_fold_keyword_says : (k : TokenKind) (i o : Span) (q : Place) → Sub (state_says (fold_keyword o q) ▸ at k i) (state_says (step_fold_keyword k i o q))
step_fold_keyword_says (Sign Colon) i o q = join2 (under a_sign)
step_fold_keyword_says k i o q = then (over (under (under add_nothing))) (begin_value_says k i (in_fold o None q))

step_fold_body_says : (k : TokenKind) (i o : Span) (r : RType) (v : Val) (q : Place) → Sub (state_says (fold_body o r v q) ▸ at k i) (state_says (step_fold_body k i o r v q))
unfolding IsDec
step_fold_body_says (Sign CloseParen) i o r v q = then (join1 closing) (put_channel_says (fold_chan (join o i) r v) q)
step_fold_body_says _ i o r v q = gone

close_side_says : (i : Span) (d : Side) (o : Span) (x : Id) (vs : Vals) (q : Place) → Sub (state_says (arguments d o x vs q) ▸ at (Sign CloseParen) i) (state_says (close_side i d o x vs q))
unfolding IsDec
close_side_says i rightward o x (more_vals (more_vals vs v) w) q = then (over (under (under (under (under assoc))))) (then (join1 closing) (put_channel_says (right_chan (join o i) x (more_vals (more_vals vs v) w)) q))
close_side_says i leftward o x (more_vals (more_vals vs v) w) q = then (over (under (under (under (under assoc))))) (then (join1 closing) (put_channel_says (left_chan (join o i) x (more_vals (more_vals vs v) w)) q))
close_side_says i d o x _ q = gone

step_side_says : (k : TokenKind) (i : Span) (d : Side) (o : Span) (x : Id) (vs : Vals) (q : Place) → Sub (state_says (arguments d o x vs q) ▸ at k i) (state_says (step_side k i d o x vs q))
step_side_says (Sign CloseParen) i d o x vs q = close_side_says i d o x vs q
step_side_says k i d o x vs q = begin_value_says k i (in_side d o x vs q)

-- behind a value in parentheses
abbrev paren_says : Span → Decs → Place → Val → Phrase
paren_says o ds q v = (place_says q ▸ (at (Sign OpenParen) o ▸ AreDecs ds)) ▸ IsVal v

close_paren_says : (i : Span) (v : Val) (o : Span) (ds : Decs) (q : Place) → Sub (paren_says o ds q v ▸ at (Sign CloseParen) i) (state_says (close_paren i v o ds q))
unfolding IsDec AreTypeArguments
close_paren_says i v o no_decs q = then (over (join2 (then drop_nothing (then add_nothing (under (then add_nothing (under add_nothing))))))) (then (join1 closing) (put_channel_says (apply_chan (join o i) v (field_vals no_types no_vals no_labelled_vals)) q))
close_paren_says i v o (more_decs ds d) q = then (over (join2 assoc)) (then (join1 closing) (put_channel_says (block_chan (join o i) (more_decs ds d) v) q))

step_first_says : (k : TokenKind) (i : Span) (v : Val) (o : Span) (ds : Decs) (q : Place) → Sub (paren_says o ds q v ▸ at k i) (state_says (step_first k i v o ds q))
unfolding IsDec AreTypeArguments
step_first_says k i v o no_decs q = then (over (then (join2 drop_nothing) add_nothing)) (step_arguments_says k i (in_apply o v q) no_types)
step_first_says k i v o (more_decs ds d) q = gone

step_paren_says : (k : TokenKind) (i : Span) (v : Val) (o : Span) (ds : Decs) (q : Place) → Sub (paren_says o ds q v ▸ at k i) (state_says (step_paren k i v o ds q))
unfolding IsDec
step_paren_says (Sign Semicolon) i v o ds q = then assoc (then (under (a_closed (val_span v))) (put_declaration_says (await_dec (join (val_span v) i) v) (paren_declarations o ds q)))
step_paren_says (Sign CloseParen) i v o ds q = close_paren_says i v o ds q
step_paren_says k i v o ds q = step_first_says k i v o ds q

step_top_says : (k : TokenKind) (i : Span) (v : Val) (ds : Decs) → Sub ((AreDecs ds ▸ IsVal v) ▸ at k i) (state_says (step_top k i v ds))
unfolding IsDec
step_top_says (Sign Semicolon) i v ds = then assoc (under (a_closed (val_span v)))
step_top_says _ i v ds = gone

then_place_says : (q : Place) (v : Val) (i j : Span) → Sub (((place_says q ▸ at (Keyword If) j) ▸ IsVal v) ▸ at (Keyword Then) i) (place_says (then_place j v q))
then_place_says (for_value p) v i j = then (over assoc) (join2 (under a_keyword))
then_place_says (for_process p) v i j = then (over assoc) (join2 (under a_keyword))
then_place_says (for_either p) v i j = then (over assoc) (join2 (under a_keyword))

step_test_says : (k : TokenKind) (i : Span) (v : Val) (j : Span) (q : Place) → Sub (((place_says q ▸ at (Keyword If) j) ▸ IsVal v) ▸ at k i) (state_says (step_test k v j q))
step_test_says (Keyword Then) i v j q = then_place_says q v i j
step_test_says _ i v j q = gone

step_then_says : (k : TokenKind) (i : Span) (v : Val) (j : Span) (a : Val) (q : ValuePlaces) → Sub (((values_says q ▸ (at (Keyword If) j ▸ (IsVal a ▸ keyword Then))) ▸ IsVal v) ▸ at k i) (state_says (step_then k v j a q))
step_then_says (Keyword Else) i v j a q = then (over (join3 same)) (join4 (under a_keyword))
step_then_says _ i v j a q = gone

step_wait_says : (k : TokenKind) (i : Span) (v : Val) (w : Wait) → Sub ((wait_says w ▸ IsVal v) ▸ at k i) (state_says (step_wait k i v w))
step_wait_says k i v (at_top ds) = step_top_says k i v ds
step_wait_says k i v (in_test j q) = step_test_says k i v j q
step_wait_says k i v (in_then j a p) = step_then_says k i v j a (value_only p)
step_wait_says k i v (in_paren o ds p) = step_paren_says k i v o ds (for_value p)

step_either_says : (k : TokenKind) (i : Span) (v : Val) (p : EitherPlace) → Sub ((either_says p ▸ IsVal v) ▸ at k i) (state_says (step_either k i v p))
step_either_says k i v (in_paren_either o ds (process_only p)) = step_paren_says k i v o ds (for_process p)
step_either_says k i v (in_paren_either o ds (process_either p)) = step_paren_says k i v o ds (for_either p)
step_either_says k i v (in_then_either j a p) = step_then_says k i v j a (value_either p)

step_channel_value_says : (k : TokenKind) (i : Span) (c : Chan) (p : ProcessPlaces) → Sub ((processes_says p ▸ IsChan c) ▸ at k i) (state_says (step_channel_value k i c p))
unfolding IsDec
step_channel_value_says k i c (process_only p) = gone
step_channel_value_says k i c (process_either p) = step_either_says k i (of_chan c) p

step_channel_says : (k : TokenKind) (i : Span) (c : Chan) (p : ProcessPlaces) → Sub ((processes_says p ▸ IsChan c) ▸ at k i) (state_says (step_channel k i c p))
step_channel_says (Sign Bang) i c p = join1 (under a_sign)
step_channel_says (Sign Question) i c p = join1 (under a_sign)
step_channel_says (Sign QuestionStar) i c p = join1 (under a_sign)
step_channel_says k i c p = step_channel_value_says k i c p

step_used_says : (k : TokenKind) (i o : Span) (x : Id) (q : Place) → Sub (state_says (fresh_name o x q) ▸ at k i) (state_says (step_used k i o x q))
unfolding IsDec
step_used_says k i o x (for_value p) = then (over (then (under (under from_nothing)) apart2)) (step_wait_says k i (of_chan (use_chan x.span x.name)) (in_paren o no_decs p))
step_used_says k i o x (for_process p) = then (over (then (under (under from_nothing)) apart2)) (step_channel_says k i (use_chan x.span x.name) (process_either (in_paren_either o no_decs (process_only p))))
step_used_says k i o x (for_either p) = then (over (then (under (under from_nothing)) apart2)) (step_channel_says k i (use_chan x.span x.name) (process_either (in_paren_either o no_decs (process_either p))))

step_fresh_name_says : (k : TokenKind) (i o : Span) (x : Id) (q : Place) → Sub (state_says (fresh_name o x q) ▸ at k i) (state_says (step_fresh_name k i o x q))
unfolding IsDec
step_fresh_name_says (Sign Greater) i o x q = join2 (under (then a_sign add_nothing))
step_fresh_name_says (Sign Less) i o x q = join2 (under (then a_sign add_nothing))
step_fresh_name_says k i o x q = step_used_says k i o x q

step_process_says : (k : TokenKind) (i : Span) (r : Proc) (j : Span) (a : Val) (p : ProcessPlaces) → Sub (state_says (have_process r j a p) ▸ at k i) (state_says (step_process k r j a p))
step_process_says (Keyword Else) i r j a p = join4 (under a_keyword)
step_process_says _ i r j a p = gone

step_processes_says : (k : TokenKind) (i o : Span) (ds : Decs) (rs : Procs) (r : Proc) (p : ProcessPlaces) → Sub (state_says (have_processes o ds rs r p) ▸ at k i) (state_says (step_processes k i o ds rs r p))
unfolding IsDec
step_processes_says (Sign Bar) i o ds rs r p = join3 (join1 (under a_sign))
step_processes_says (Sign CloseParen) i o ds rs r p = then (join1 closing) (put_processes_says p (group_proc (join o i) ds (more_procs rs r)))
step_processes_says _ i o ds rs r p = gone

pub step_says : (k : TokenKind) (i : Span) (x : State) → Sub (state_says x ▸ at k i) (state_says (step k i x))
step_says k i stop = gone
step_says k i (need p) = step_need_says k i p
step_says k i (fresh_name o x p) = step_fresh_name_says k i o x p
step_says k i (arguments d o x vs p) = step_side_says k i d o x vs p
step_says k i (have_channel c p) = step_channel_says k i c p
step_says k i (have_value v p) = step_wait_says k i v p
step_says k i (have_either v p) = step_either_says k i v p
step_says k i (have_process q j a p) = step_process_says k i q j a p
step_says k i (have_processes o ds rs q p) = step_processes_says k i o ds rs q p
step_says k i (new_keyword j p) = step_new_keyword_says k i j p
step_says k i (new_name j x p) = step_new_name_says k i j x p
step_says k i (let_pattern j q p) = step_let_pattern_says k i j q p
step_says k i (definition_keyword j ds p) = step_definition_keyword_says k i j ds p
step_says k i (have_definition j ds x a p) = step_have_definition_says k i j ds x a p
step_says k i (type_keyword j p) = step_type_keyword_says k i j p
step_says k i (alias_name j x p) = step_alias_name_says k i j x p
step_says k i (operator_open j p) = step_operator_open_says k i j p
step_says k i (operator_parameters j x ys p) = step_operator_parameters_says k i j x ys p
step_says k i (operator_closed j x ys p) = step_operator_closed_says k i j x ys p
step_says k i (need_abstraction p) = step_need_abstraction_says k i p
step_says k i (abstraction_open o p) = step_abstraction_open_says k i o p
step_says k i (abstraction_pattern q p) = step_abstraction_pattern_says k i q p
step_says k i (abstraction_parameters o f p) = step_abstraction_parameters_says k i o f p
step_says k i (abstraction_result o f t p) = step_abstraction_result_says k i o f t p
step_says k i (need_pattern p) = begin_pattern_says k i p
step_says k i (pattern_open o p) = step_pattern_open_says k i o p
step_says k i (pattern_rec o p) = step_pattern_rec_says k i o p
step_says k i (pattern_folded o r q p) = step_pattern_folded_says k i o r q p
step_says k i (have_bind x p) = step_bind_says k i x p
step_says k i (have_any j p) = step_any_says k i j p
step_says k i (after_binders p bs) = step_binders_says k i p bs
step_says k i (after_patterns p bs ps) = step_patterns_says k i p bs ps
step_says k i (pattern_name p bs ps x) = step_pattern_name_says k i p bs ps x
step_says k i (after_pattern_labels p bs ps ls) = step_pattern_labels_says k i p bs ps ls
step_says k i (pattern_label p bs ps ls x) = step_pattern_label_says k i p bs ps ls x
step_says k i (binder_hash h p) = step_hash_says k i h p
step_says k i (binder_name h x p) = step_binder_name_says k i h x p
step_says k i (need_kind h x p) = step_need_kind_says k i h x p
step_says k i (kind_arguments h x ms p) = step_kind_arguments_says k i h x ms p
step_says k i (kind_mark h x ms m p) = step_kind_mark_says k i h x ms m p
step_says k i (kind_arrow h x ms p) = step_kind_arrow_says k i h x ms p
step_says k i (kind_result h x ms p) = step_kind_result_says k i h x ms p
step_says k i (binder_kind h x c j p) = step_binder_kind_says k i h x c j p
step_says k i (need_type p) = begin_type_says k i p
step_says k i (type_open o p) = step_type_open_says k i o p
step_says k i (rec_keyword o p) = step_rec_keyword_says k i o p
step_says k i (rec_name o x p) = step_rec_name_says k i o x p
step_says k i (rec_body o x t p) = step_rec_body_says k i o x t p
step_says k i (operator_arguments o x ts p) = step_operator_arguments_says k i o x ts p
step_says k i (after_type_binders o bs p) = step_type_binders_says k i o bs p
step_says k i (after_types o bs ts p) = step_types_says k i o bs ts p
step_says k i (type_name o bs ts x p) = step_type_name_says k i o bs ts x p
step_says k i (after_type_labels o bs ts ls p) = step_type_labels_says k i o bs ts ls p
step_says k i (type_label o bs ts ls x p) = step_type_label_says k i o bs ts ls x p
step_says k i (fold_keyword o p) = step_fold_keyword_says k i o p
step_says k i (fold_body o r v p) = step_fold_body_says k i o r v p
step_says k i (after_arguments p ts) = step_arguments_says k i p ts
step_says k i (after_values p ts vs) = step_values_says k i p ts vs
step_says k i (value_name p ts vs x) = step_value_name_says k i p ts vs x
step_says k i (after_labels p ts vs ls) = step_labels_says k i p ts vs ls
step_says k i (value_label p ts vs ls x) = step_value_label_says k i p ts vs ls x
