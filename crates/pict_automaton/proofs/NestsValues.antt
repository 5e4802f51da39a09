-- A token adds its nesting: declarations, values and processes; and all states.
use Rattle.std.proofs.Common.{ℕ, suc, zero, List, [], ◌∷◌, ◌++◌, ◌≡◌, refl, ap, append_assoc, append-nil, None}
use Rattle.pict_syntax.specs.declared.name.Name.{Name}
use Rattle.pict_syntax.specs.declared.span.Span.{Span}
use Rattle.pict_syntax.specs.declared.id.Id.{Id}
use Rattle.pict_syntax.specs.declared.token.TokenKind.{TokenKind}
use Rattle.pict_syntax.specs.declared.token.TokenKind.TheVariants.{Identifier, Symbol, Keyword, Number, Character, String, Sign}
use Rattle.pict_syntax.specs.declared.token.Keyword.{Keyword as AnyKeyword}
use Rattle.pict_syntax.specs.declared.token.Keyword.TheVariants.{And, Def, Else, False, If, New, Rec, Run, Then, True, TypeDefinition, Val as ValKeyword}
use Rattle.pict_syntax.specs.declared.token.Sign.{Sign as AnySign}
use Rattle.pict_syntax.specs.declared.token.Sign.TheVariants.{Bang, Question, QuestionStar, Equals, Bar, OpenParen, CloseParen, OpenBracket, CloseBracket, Colon, Semicolon, Less, Greater, Backslash, Hash, Underscore}
use Rattle.pict_syntax.specs.Trees.{TypeTree, TypeTrees, no_types, no_binders, RType, FieldPats, Dec, def_dec, await_dec, Decs, no_decs, more_decs, Definitions, more_definitions, Abs, Chan, use_chan, fold_chan, block_chan, apply_chan, right_chan, left_chan, Val, of_chan, number_val, character_val, string_val, true_val, false_val, fields_val, Vals, no_vals, more_vals, FieldVals, field_vals, LabelledVals, no_labelled_vals, Proc, inert_proc, group_proc, Procs, more_procs}
use Rattle.pict_syntax.specs.Phrases.{join}
use Rattle.pict_syntax.specs.Grammar.{abs_span, val_span}
use Rattle.pict_automaton.specs.Places.{Side, rightward, leftward, ValuePlace, in_side, in_field, in_fold, waiting, Wait, at_top, in_test, in_then, in_paren, ProcessPlace, EitherPlace, in_paren_either, in_then_either, ProcessPlaces, process_only, process_either, ValuePlaces, value_only, value_either, Place, for_value, for_process, for_either, DeclarationPlace, top_declarations, paren_declarations, AbstractionPlace, FieldsPlace, in_record, in_apply, in_parameters, State, stop, need, fresh_name, arguments, have_channel, have_value, have_either, have_process, have_processes, new_keyword, new_name, let_pattern, definition_keyword, have_definition, type_keyword, alias_name, operator_open, operator_parameters, operator_closed, need_abstraction, abstraction_open, abstraction_pattern, abstraction_parameters, abstraction_result, need_pattern, pattern_open, pattern_rec, pattern_folded, have_bind, have_any, after_binders, after_patterns, pattern_name, after_pattern_labels, pattern_label, binder_hash, binder_name, need_kind, kind_arguments, kind_mark, kind_arrow, kind_result, binder_kind, need_type, type_open, rec_keyword, rec_name, rec_body, operator_arguments, after_type_binders, after_types, type_name, after_type_labels, type_label, fold_keyword, fold_body, after_arguments, after_values, value_name, after_labels, value_label}
use Rattle.pict_syntax.specs.Nesting.{names_nest, type_nest, arguments_nest, dec_nest, decs_nest, val_nest, field_vals_nest}
use Rattle.pict_automaton.specs.Depth.{wait_depth, process_depth, either_depth, values_depth, value_depth, place_depth, declaration_depth, abstraction_depth, fields_depth, depth}
use Rattle.pict_automaton.proofs.Nests.{value_nests, wait_nests, process_nests, either_nests, values_nests, place_nests, declaration_nests, abstraction_nests, fields_nests, state_nests}
use Rattle.pict_automaton.proofs.NestsPuts.{put_declaration_nests, put_processes_nests, put_value_nests, put_values_nests, put_channel_nests}
use Rattle.pict_automaton.proofs.NestsAdds.{Adds, stopped, stays, opens, opens_two, shuts, ends, closes, behind}
use Rattle.pict_automaton.specs.Machine.{id, then_place, after_declaration, begin_declaration, begin_first, step_new_keyword, step_new_name, step_definition_keyword, step_type_keyword, step_alias_name, step_operator_open, close_operator, step_operator_parameters, step_operator_closed, step_need_abstraction, step_abstraction_open, step_abstraction_parameters, step_abstraction_result, name_value, declaration_value, keyword_value, sign_value, begin_value, begin_process, name_either, declaration_either, keyword_either, close_inert, sign_either, begin_either, step_need, step_have_definition, close_values, step_values, step_value_name, step_labels, step_value_label, step_arguments_of, step_fold_keyword, step_fold_body, close_side, step_side, close_paren, step_first, step_paren, step_top, step_test, step_then, step_wait, step_either, step_channel_value, step_channel, step_used, step_fresh_name, step_process, step_processes, step}
use Rattle.pict_automaton.proofs.NestsTypes.{begin_type_nests, step_type_open_nests, step_rec_keyword_nests, step_rec_name_nests, step_rec_body_nests, step_operator_arguments_nests, step_types_nests, step_type_name_nests, step_type_labels_nests, step_type_label_nests, step_type_binders_nests, begin_pattern_nests, step_pattern_open_nests, step_pattern_rec_nests, step_pattern_folded_nests, step_patterns_nests, step_pattern_labels_nests, step_pattern_label_nests, step_binders_nests, step_let_pattern_nests, step_abstraction_pattern_nests, step_bind_nests, step_any_nests, step_pattern_name_nests, step_hash_nests, step_binder_name_nests, step_need_kind_nests, step_kind_arguments_nests, step_kind_mark_nests, step_kind_arrow_nests, step_kind_result_nests, step_binder_kind_nests}

-- declarations
begin_declaration_nests : (k : AnyKeyword) (i : Span) (p : DeclarationPlace) → Adds (declaration_depth p) (declaration_nests p) (begin_declaration k i p)
unfolding dec_nest
begin_declaration_nests New i p = stays (λ ns. refl)
begin_declaration_nests Run i p = stays (λ ns. refl)
begin_declaration_nests ValKeyword i p = stays (λ ns. refl)
begin_declaration_nests Def i p = stays (λ ns. refl)
begin_declaration_nests TypeDefinition i p = stays (λ ns. refl)
begin_declaration_nests _ i p = stopped

begin_first_nests : (k : AnyKeyword) (i o : Span) (q : Place) → Adds (suc (place_depth q)) (λ ns. place_nests q (suc (place_depth q) ∷ ns)) (begin_first k i o q (paren_declarations o no_decs q))
unfolding dec_nest
begin_first_nests Rec i o q = stays (λ ns. refl)
begin_first_nests k i o q = begin_declaration_nests k i (paren_declarations o no_decs q)

step_new_keyword_nests : (k : TokenKind) (i j : Span) (p : DeclarationPlace) → Adds (depth (new_keyword j p)) (state_nests (new_keyword j p)) (step_new_keyword k i j p)
step_new_keyword_nests (Identifier n) i j p = stays (λ ns. refl)
step_new_keyword_nests _ i j p = stopped

step_new_name_nests : (k : TokenKind) (i j : Span) (x : Id) (p : DeclarationPlace) → Adds (depth (new_name j x p)) (state_nests (new_name j x p)) (step_new_name k i j x p)
step_new_name_nests (Sign Colon) i j x p = stays (λ ns. refl)
step_new_name_nests _ i j x p = stopped

step_definition_keyword_nests : (k : TokenKind) (i j : Span) (ds : Definitions) (p : DeclarationPlace) → Adds (depth (definition_keyword j ds p)) (state_nests (definition_keyword j ds p)) (step_definition_keyword k i j ds p)
step_definition_keyword_nests (Identifier n) i j ds p = stays (λ ns. refl)
step_definition_keyword_nests _ i j ds p = stopped

step_type_keyword_nests : (k : TokenKind) (i j : Span) (p : DeclarationPlace) → Adds (depth (type_keyword j p)) (state_nests (type_keyword j p)) (step_type_keyword k i j p)
step_type_keyword_nests (Identifier n) i j p = stays (λ ns. refl)
step_type_keyword_nests (Sign OpenParen) i j p = opens refl (λ ns. refl)
step_type_keyword_nests _ i j p = stopped

step_alias_name_nests : (k : TokenKind) (i j : Span) (x : Id) (p : DeclarationPlace) → Adds (depth (alias_name j x p)) (state_nests (alias_name j x p)) (step_alias_name k i j x p)
step_alias_name_nests (Sign Equals) i j x p = stays (λ ns. refl)
step_alias_name_nests _ i j x p = stopped

step_operator_open_nests : (k : TokenKind) (i j : Span) (p : DeclarationPlace) → Adds (depth (operator_open j p)) (state_nests (operator_open j p)) (step_operator_open k i j p)
unfolding names_nest
step_operator_open_nests (Identifier n) i j p = stays (λ ns. refl)
step_operator_open_nests _ i j p = stopped

names_more : (d : ℕ) (ys : List Id) (z : Id) (ns : List ℕ) → names_nest d (ys ++ z ∷ []) ++ ns ≡ names_nest d ys ++ (d ∷ ns)
unfolding names_nest
names_more d [] z ns = refl
names_more d (y ∷ ys) z ns = ap (λ l. d ∷ l) (names_more d ys z ns)

close_operator_nests : (j : Span) (x : Id) (ys : List Id) (p : DeclarationPlace) → Adds (depth (operator_parameters j x ys p)) (state_nests (operator_parameters j x ys p)) (close_operator j x ys p)
close_operator_nests j x [] p = stopped
close_operator_nests j x (y ∷ ys) p = shuts (λ ns. refl)

step_operator_parameters_nests : (k : TokenKind) (i j : Span) (x : Id) (ys : List Id) (p : DeclarationPlace) → Adds (depth (operator_parameters j x ys p)) (state_nests (operator_parameters j x ys p)) (step_operator_parameters k i j x ys p)
step_operator_parameters_nests (Identifier n) i j x ys p = stays (λ ns. ap (λ l. declaration_nests p (declaration_depth p ∷ (suc (declaration_depth p) ∷ (suc (declaration_depth p) ∷ l)))) (names_more (suc (declaration_depth p)) ys (id n i) ns))
step_operator_parameters_nests (Sign CloseParen) i j x ys p = close_operator_nests j x ys p
step_operator_parameters_nests _ i j x ys p = stopped

step_operator_closed_nests : (k : TokenKind) (i j : Span) (x : Id) (ys : List Id) (p : DeclarationPlace) → Adds (depth (operator_closed j x ys p)) (state_nests (operator_closed j x ys p)) (step_operator_closed k i j x ys p)
step_operator_closed_nests (Sign Equals) i j x ys p = stays (λ ns. refl)
step_operator_closed_nests _ i j x ys p = stopped

-- abstractions
step_need_abstraction_nests : (k : TokenKind) (i : Span) (p : AbstractionPlace) → Adds (abstraction_depth p) (abstraction_nests p) (step_need_abstraction k i p)
unfolding type_nest
step_need_abstraction_nests (Identifier n) i p = opens refl (λ ns. refl)
step_need_abstraction_nests (Sign Underscore) i p = opens refl (λ ns. refl)
step_need_abstraction_nests (Sign OpenBracket) i p = opens_two refl (λ ns. refl)
step_need_abstraction_nests (Sign OpenParen) i p = opens_two refl (λ ns. refl)
step_need_abstraction_nests _ i p = stopped

step_abstraction_open_nests : (k : TokenKind) (i o : Span) (p : AbstractionPlace) → Adds (depth (abstraction_open o p)) (state_nests (abstraction_open o p)) (step_abstraction_open k i o p)
unfolding type_nest
step_abstraction_open_nests (Keyword Rec) i o p = stays (λ ns. refl)
step_abstraction_open_nests k i o p = step_binders_nests k i (in_parameters o p) no_binders

step_abstraction_parameters_nests : (k : TokenKind) (i o : Span) (f : FieldPats) (p : AbstractionPlace) → Adds (depth (abstraction_parameters o f p)) (state_nests (abstraction_parameters o f p)) (step_abstraction_parameters k i o f p)
step_abstraction_parameters_nests (Sign Colon) i o f p = stays (λ ns. refl)
step_abstraction_parameters_nests (Sign Equals) i o f p = stays (λ ns. refl)
step_abstraction_parameters_nests _ i o f p = stopped

step_abstraction_result_nests : (k : TokenKind) (i o : Span) (f : FieldPats) (t : TypeTree) (p : AbstractionPlace) → Adds (depth (abstraction_result o f t p)) (state_nests (abstraction_result o f t p)) (step_abstraction_result k i o f t p)
step_abstraction_result_nests (Sign Equals) i o f t p = stays (λ ns. refl)
step_abstraction_result_nests _ i o f t p = stopped

-- values
name_value_nests : (n : Name) (i : Span) (p : ValuePlace) → Adds (value_depth p) (value_nests p) (name_value n i p)
unfolding dec_nest
name_value_nests n i (waiting (in_paren o no_decs p)) = stays (λ ns. refl)
name_value_nests n i p = ends (put_value_nests p (of_chan (use_chan i n))) (λ ns. refl)

declaration_value_nests : (k : AnyKeyword) (i : Span) (p : ValuePlace) → Adds (value_depth p) (value_nests p) (declaration_value k i p)
unfolding dec_nest
declaration_value_nests k i (waiting (at_top ds)) = begin_declaration_nests k i (top_declarations ds)
declaration_value_nests k i (waiting (in_paren o no_decs p)) = begin_first_nests k i o (for_value p)
declaration_value_nests k i (waiting (in_paren o (more_decs ds d) p)) = begin_declaration_nests k i (paren_declarations o (more_decs ds d) (for_value p))
declaration_value_nests k i p = stopped

keyword_value_nests : (k : AnyKeyword) (i : Span) (p : ValuePlace) → Adds (value_depth p) (value_nests p) (keyword_value k i p)
unfolding dec_nest
keyword_value_nests True i p = ends (put_value_nests p (true_val i)) (λ ns. refl)
keyword_value_nests False i p = ends (put_value_nests p (false_val i)) (λ ns. refl)
keyword_value_nests If i p = opens refl (λ ns. refl)
keyword_value_nests k i p = declaration_value_nests k i p

sign_value_nests : (m : AnySign) (i : Span) (p : ValuePlace) → Adds (value_depth p) (value_nests p) (sign_value m i p)
unfolding dec_nest arguments_nest
sign_value_nests OpenParen i p = opens refl (λ ns. refl)
sign_value_nests OpenBracket i p = opens refl (λ ns. refl)
sign_value_nests Backslash i p = stays (λ ns. refl)
sign_value_nests _ i p = stopped

begin_value_nests : (k : TokenKind) (i : Span) (p : ValuePlace) → Adds (value_depth p) (value_nests p) (begin_value k i p)
unfolding dec_nest
begin_value_nests (Identifier n) i p = name_value_nests n i p
begin_value_nests (Symbol y n) i p = name_value_nests n i p
begin_value_nests (Number n) i p = ends (put_value_nests p (number_val i n)) (λ ns. refl)
begin_value_nests (Character b) i p = ends (put_value_nests p (character_val i b)) (λ ns. refl)
begin_value_nests (String b) i p = ends (put_value_nests p (string_val i b)) (λ ns. refl)
begin_value_nests (Keyword k) i p = keyword_value_nests k i p
begin_value_nests (Sign m) i p = sign_value_nests m i p

begin_process_nests : (k : TokenKind) (i : Span) (p : ProcessPlace) → Adds (process_depth p) (process_nests p) (begin_process k i p)
unfolding dec_nest
begin_process_nests (Identifier n) i p = stays (λ ns. refl)
begin_process_nests (Symbol y n) i p = stays (λ ns. refl)
begin_process_nests (Keyword If) i p = opens refl (λ ns. refl)
begin_process_nests (Sign OpenParen) i p = opens refl (λ ns. refl)
begin_process_nests _ i p = stopped

name_either_nests : (n : Name) (i : Span) (p : EitherPlace) → Adds (either_depth p) (either_nests p) (name_either n i p)
unfolding dec_nest
name_either_nests n i (in_paren_either o no_decs (process_only p)) = stays (λ ns. refl)
name_either_nests n i (in_paren_either o no_decs (process_either p)) = stays (λ ns. refl)
name_either_nests n i (in_paren_either o (more_decs ds d) p) = stays (λ ns. refl)
name_either_nests n i (in_then_either j a p) = stays (λ ns. refl)

declaration_either_nests : (k : AnyKeyword) (i : Span) (p : EitherPlace) → Adds (either_depth p) (either_nests p) (declaration_either k i p)
unfolding dec_nest
declaration_either_nests k i (in_paren_either o no_decs (process_only p)) = begin_first_nests k i o (for_process p)
declaration_either_nests k i (in_paren_either o no_decs (process_either p)) = begin_first_nests k i o (for_either p)
declaration_either_nests k i (in_paren_either o (more_decs ds d) (process_only p)) = begin_declaration_nests k i (paren_declarations o (more_decs ds d) (for_process p))
declaration_either_nests k i (in_paren_either o (more_decs ds d) (process_either p)) = begin_declaration_nests k i (paren_declarations o (more_decs ds d) (for_either p))
declaration_either_nests k i (in_then_either j a p) = stopped

keyword_either_nests : (k : AnyKeyword) (i : Span) (p : EitherPlace) → Adds (either_depth p) (either_nests p) (keyword_either k i p)
unfolding dec_nest
keyword_either_nests True i p = stays (λ ns. refl)
keyword_either_nests False i p = stays (λ ns. refl)
keyword_either_nests If i p = opens refl (λ ns. refl)
keyword_either_nests k i p = declaration_either_nests k i p

close_inert_nests : (i : Span) (p : EitherPlace) → Adds (either_depth p) (either_nests p) (close_inert i p)
unfolding dec_nest
close_inert_nests i (in_paren_either o no_decs p) = closes (put_processes_nests p (inert_proc (join o i))) (λ ns. refl)
close_inert_nests i p = stopped

sign_either_nests : (m : AnySign) (i : Span) (p : EitherPlace) → Adds (either_depth p) (either_nests p) (sign_either m i p)
unfolding dec_nest arguments_nest
sign_either_nests OpenParen i p = opens refl (λ ns. refl)
sign_either_nests OpenBracket i p = opens refl (λ ns. refl)
sign_either_nests Backslash i p = stays (λ ns. refl)
sign_either_nests CloseParen i p = close_inert_nests i p
sign_either_nests _ i p = stopped

begin_either_nests : (k : TokenKind) (i : Span) (p : EitherPlace) → Adds (either_depth p) (either_nests p) (begin_either k i p)
unfolding dec_nest
begin_either_nests (Identifier n) i p = name_either_nests n i p
begin_either_nests (Symbol y n) i p = name_either_nests n i p
begin_either_nests (Number n) i p = stays (λ ns. refl)
begin_either_nests (Character b) i p = stays (λ ns. refl)
begin_either_nests (String b) i p = stays (λ ns. refl)
begin_either_nests (Keyword k) i p = keyword_either_nests k i p
begin_either_nests (Sign m) i p = sign_either_nests m i p

step_need_nests : (k : TokenKind) (i : Span) (q : Place) → Adds (place_depth q) (place_nests q) (step_need k i q)
step_need_nests k i (for_value p) = begin_value_nests k i p
step_need_nests k i (for_process p) = begin_process_nests k i p
step_need_nests k i (for_either p) = begin_either_nests k i p

-- the token behind a whole declaration
behind_declaration_nests : (k : TokenKind) (i : Span) (d : Dec) (p : DeclarationPlace) → Adds (declaration_depth p) (λ ns. declaration_nests p (dec_nest (declaration_depth p) d ++ ns)) (step_need k i (after_declaration d p))
behind_declaration_nests k i d (top_declarations ds) = behind (put_declaration_nests d (top_declarations ds)).joins (step_need_nests k i (after_declaration d (top_declarations ds)))
behind_declaration_nests k i d (paren_declarations o ds (for_value p)) = behind (put_declaration_nests d (paren_declarations o ds (for_value p))).joins (step_need_nests k i (after_declaration d (paren_declarations o ds (for_value p))))
behind_declaration_nests k i d (paren_declarations o ds (for_process p)) = behind (put_declaration_nests d (paren_declarations o ds (for_process p))).joins (step_need_nests k i (after_declaration d (paren_declarations o ds (for_process p))))
behind_declaration_nests k i d (paren_declarations o ds (for_either p)) = behind (put_declaration_nests d (paren_declarations o ds (for_either p))).joins (step_need_nests k i (after_declaration d (paren_declarations o ds (for_either p))))

step_have_definition_nests : (k : TokenKind) (i j : Span) (ds : Definitions) (x : Id) (a : Abs) (p : DeclarationPlace) → Adds (depth (have_definition j ds x a p)) (state_nests (have_definition j ds x a p)) (step_have_definition k i j ds x a p)
unfolding dec_nest
step_have_definition_nests (Keyword And) i j ds x a p = stays (λ ns. simp append_assoc refl)
step_have_definition_nests k i j ds x a p = behind (λ ns. simp append_assoc refl) (behind_declaration_nests k i (def_dec (join j (abs_span a)) (more_definitions ds x a)) p)

-- fields
close_values_nests : (m : AnySign) (i : Span) (p : FieldsPlace) (f : FieldVals) → Adds (fields_depth p) (λ ns. fields_nests p (field_vals_nest (fields_depth p) f ++ ns)) (close_values m i p f)
unfolding dec_nest
close_values_nests CloseBracket i (in_record o p) f = closes (put_values_nests p (fields_val (join o i) f)) (λ ns. simp append_assoc refl)
close_values_nests CloseParen i (in_apply o v q) f = closes (put_channel_nests (apply_chan (join o i) v f) q) (λ ns. simp append_assoc refl)
close_values_nests _ i p f = stopped

step_values_nests : (k : TokenKind) (i : Span) (p : FieldsPlace) (ts : TypeTrees) (vs : Vals) → Adds (depth (after_values p ts vs)) (state_nests (after_values p ts vs)) (step_values k i p ts vs)
unfolding dec_nest
step_values_nests (Sign CloseBracket) i p ts vs = behind (λ ns. simp (append_assoc, append-nil) refl) (close_values_nests CloseBracket i p (field_vals ts vs no_labelled_vals))
step_values_nests (Sign CloseParen) i p ts vs = behind (λ ns. simp (append_assoc, append-nil) refl) (close_values_nests CloseParen i p (field_vals ts vs no_labelled_vals))
step_values_nests (Identifier n) i p ts vs = stays (λ ns. refl)
step_values_nests k i p ts vs = begin_value_nests k i (in_field p ts vs)

step_value_name_nests : (k : TokenKind) (i : Span) (p : FieldsPlace) (ts : TypeTrees) (vs : Vals) (x : Id) → Adds (depth (value_name p ts vs x)) (state_nests (value_name p ts vs x)) (step_value_name k i p ts vs x)
unfolding dec_nest
step_value_name_nests (Sign Equals) i p ts vs x = stays (λ ns. refl)
step_value_name_nests k i p ts vs x = behind (λ ns. simp append_assoc refl) (step_values_nests k i p ts (more_vals vs (of_chan (use_chan x.span x.name))))

step_labels_nests : (k : TokenKind) (i : Span) (p : FieldsPlace) (ts : TypeTrees) (vs : Vals) (ls : LabelledVals) → Adds (depth (after_labels p ts vs ls)) (state_nests (after_labels p ts vs ls)) (step_labels k i p ts vs ls)
unfolding dec_nest
step_labels_nests (Sign CloseBracket) i p ts vs ls = behind (λ ns. simp append_assoc refl) (close_values_nests CloseBracket i p (field_vals ts vs ls))
step_labels_nests (Sign CloseParen) i p ts vs ls = behind (λ ns. simp append_assoc refl) (close_values_nests CloseParen i p (field_vals ts vs ls))
step_labels_nests (Identifier n) i p ts vs ls = stays (λ ns. refl)
step_labels_nests _ i p ts vs ls = stopped

step_value_label_nests : (k : TokenKind) (i : Span) (p : FieldsPlace) (ts : TypeTrees) (vs : Vals) (ls : LabelledVals) (x : Id) → Adds (depth (value_label p ts vs ls x)) (state_nests (value_label p ts vs ls x)) (step_value_label k i p ts vs ls x)
step_value_label_nests (Sign Equals) i p ts vs ls x = stays (λ ns. refl)
step_value_label_nests _ i p ts vs ls x = stopped

step_arguments_nests : (k : TokenKind) (i : Span) (p : FieldsPlace) (ts : TypeTrees) → Adds (depth (after_arguments p ts)) (state_nests (after_arguments p ts)) (step_arguments_of k i p ts)
unfolding dec_nest
step_arguments_nests (Sign Hash) i p ts = stays (λ ns. refl)
step_arguments_nests k i p ts = step_values_nests k i p ts no_vals

step_fold_keyword_nests : (k : TokenKind) (i o : Span) (q : Place) → Adds (depth (fold_keyword o q)) (state_nests (fold_keyword o q)) (step_fold_keyword k i o q)
step_fold_keyword_nests (Sign Colon) i o q = stays (λ ns. refl)
step_fold_keyword_nests k i o q = begin_value_nests k i (in_fold o None q)

step_fold_body_nests : (k : TokenKind) (i o : Span) (r : RType) (v : Val) (q : Place) → Adds (depth (fold_body o r v q)) (state_nests (fold_body o r v q)) (step_fold_body k i o r v q)
unfolding dec_nest
step_fold_body_nests (Sign CloseParen) i o r v q = closes (put_channel_nests (fold_chan (join o i) r v) q) (λ ns. simp append_assoc refl)
step_fold_body_nests _ i o r v q = stopped

close_side_nests : (i : Span) (d : Side) (o : Span) (x : Id) (vs : Vals) (q : Place) → Adds (depth (arguments d o x vs q)) (state_nests (arguments d o x vs q)) (close_side i d o x vs q)
unfolding dec_nest
close_side_nests i rightward o x (more_vals (more_vals vs v) w) q = closes (put_channel_nests (right_chan (join o i) x (more_vals (more_vals vs v) w)) q) (λ ns. simp append_assoc refl)
close_side_nests i leftward o x (more_vals (more_vals vs v) w) q = closes (put_channel_nests (left_chan (join o i) x (more_vals (more_vals vs v) w)) q) (λ ns. simp append_assoc refl)
close_side_nests i d o x _ q = stopped

step_side_nests : (k : TokenKind) (i : Span) (d : Side) (o : Span) (x : Id) (vs : Vals) (q : Place) → Adds (depth (arguments d o x vs q)) (state_nests (arguments d o x vs q)) (step_side k i d o x vs q)
step_side_nests (Sign CloseParen) i d o x vs q = close_side_nests i d o x vs q
step_side_nests k i d o x vs q = begin_value_nests k i (in_side d o x vs q)

-- behind a value in parentheses
abbrev paren_nests : Decs → Place → Val → List ℕ → List ℕ
paren_nests ds q v ns = place_nests q (suc (place_depth q) ∷ (decs_nest (suc (place_depth q)) ds ++ (val_nest (suc (place_depth q)) v ++ ns)))

close_paren_nests : (i : Span) (v : Val) (o : Span) (ds : Decs) (q : Place) → Adds (suc (place_depth q)) (paren_nests ds q v) (close_paren i v o ds q)
unfolding dec_nest arguments_nest
close_paren_nests i v o no_decs q = closes (put_channel_nests (apply_chan (join o i) v (field_vals no_types no_vals no_labelled_vals)) q) (λ ns. ap (λ l. place_nests q (suc (place_depth q) ∷ l)) (append_assoc (val_nest (suc (place_depth q)) v) (suc (place_depth q) ∷ []) ns))
close_paren_nests i v o (more_decs ds d) q = closes (put_channel_nests (block_chan (join o i) (more_decs ds d) v) q) (λ ns. simp append_assoc refl)

step_first_nests : (k : TokenKind) (i : Span) (v : Val) (o : Span) (ds : Decs) (q : Place) → Adds (suc (place_depth q)) (paren_nests ds q v) (step_first k i v o ds q)
unfolding dec_nest arguments_nest
step_first_nests k i v o no_decs q = step_arguments_nests k i (in_apply o v q) no_types
step_first_nests k i v o (more_decs ds d) q = stopped

step_paren_nests : (k : TokenKind) (i : Span) (v : Val) (o : Span) (ds : Decs) (q : Place) → Adds (suc (place_depth q)) (paren_nests ds q v) (step_paren k i v o ds q)
unfolding dec_nest
step_paren_nests (Sign Semicolon) i v o ds q = ends (put_declaration_nests (await_dec (join (val_span v) i) v) (paren_declarations o ds q)) (λ ns. simp append_assoc refl)
step_paren_nests (Sign CloseParen) i v o ds q = close_paren_nests i v o ds q
step_paren_nests k i v o ds q = step_first_nests k i v o ds q

step_top_nests : (k : TokenKind) (i : Span) (v : Val) (ds : Decs) → Adds zero (λ ns. decs_nest zero ds ++ (val_nest zero v ++ ns)) (step_top k i v ds)
unfolding dec_nest
step_top_nests (Sign Semicolon) i v ds = ends (put_declaration_nests (await_dec (join (val_span v) i) v) (top_declarations ds)) (λ ns. simp append_assoc refl)
step_top_nests _ i v ds = stopped

then_place_nests : (q : Place) (v : Val) (j : Span) → Adds (suc (place_depth q)) (λ ns. place_nests q (suc (place_depth q) ∷ (val_nest (suc (place_depth q)) v ++ ns))) (need (then_place j v q))
then_place_nests (for_value p) v j = stays (λ ns. refl)
then_place_nests (for_process p) v j = stays (λ ns. refl)
then_place_nests (for_either p) v j = stays (λ ns. refl)

step_test_nests : (k : TokenKind) (v : Val) (j : Span) (q : Place) → Adds (suc (place_depth q)) (λ ns. place_nests q (suc (place_depth q) ∷ (val_nest (suc (place_depth q)) v ++ ns))) (step_test k v j q)
step_test_nests (Keyword Then) v j q = then_place_nests q v j
step_test_nests _ v j q = stopped

step_then_nests : (k : TokenKind) (v : Val) (j : Span) (a : Val) (q : ValuePlaces) → Adds (suc (values_depth q)) (λ ns. values_nests q (suc (values_depth q) ∷ (val_nest (suc (values_depth q)) a ++ (suc (values_depth q) ∷ (val_nest (suc (values_depth q)) v ++ ns))))) (step_then k v j a q)
step_then_nests (Keyword Else) v j a q = stays (λ ns. refl)
step_then_nests _ v j a q = stopped

step_wait_nests : (k : TokenKind) (i : Span) (v : Val) (w : Wait) → Adds (wait_depth w) (λ ns. wait_nests w (val_nest (wait_depth w) v ++ ns)) (step_wait k i v w)
step_wait_nests k i v (at_top ds) = step_top_nests k i v ds
step_wait_nests k i v (in_test j q) = step_test_nests k v j q
step_wait_nests k i v (in_then j a p) = step_then_nests k v j a (value_only p)
step_wait_nests k i v (in_paren o ds p) = step_paren_nests k i v o ds (for_value p)

step_either_nests : (k : TokenKind) (i : Span) (v : Val) (p : EitherPlace) → Adds (either_depth p) (λ ns. either_nests p (val_nest (either_depth p) v ++ ns)) (step_either k i v p)
step_either_nests k i v (in_paren_either o ds (process_only p)) = step_paren_nests k i v o ds (for_process p)
step_either_nests k i v (in_paren_either o ds (process_either p)) = step_paren_nests k i v o ds (for_either p)
step_either_nests k i v (in_then_either j a p) = step_then_nests k v j a (value_either p)

step_channel_value_nests : (k : TokenKind) (i : Span) (c : Chan) (p : ProcessPlaces) → Adds (depth (have_channel c p)) (state_nests (have_channel c p)) (step_channel_value k i c p)
unfolding dec_nest
step_channel_value_nests k i c (process_only p) = stopped
step_channel_value_nests k i c (process_either p) = step_either_nests k i (of_chan c) p

step_channel_nests : (k : TokenKind) (i : Span) (c : Chan) (p : ProcessPlaces) → Adds (depth (have_channel c p)) (state_nests (have_channel c p)) (step_channel k i c p)
step_channel_nests (Sign Bang) i c p = stays (λ ns. refl)
step_channel_nests (Sign Question) i c p = stays (λ ns. refl)
step_channel_nests (Sign QuestionStar) i c p = stays (λ ns. refl)
step_channel_nests k i c p = step_channel_value_nests k i c p

step_used_nests : (k : TokenKind) (i o : Span) (x : Id) (q : Place) → Adds (depth (fresh_name o x q)) (state_nests (fresh_name o x q)) (step_used k i o x q)
unfolding dec_nest
step_used_nests k i o x (for_value p) = step_wait_nests k i (of_chan (use_chan x.span x.name)) (in_paren o no_decs p)
step_used_nests k i o x (for_process p) = step_channel_nests k i (use_chan x.span x.name) (process_either (in_paren_either o no_decs (process_only p)))
step_used_nests k i o x (for_either p) = step_channel_nests k i (use_chan x.span x.name) (process_either (in_paren_either o no_decs (process_either p)))

step_fresh_name_nests : (k : TokenKind) (i o : Span) (x : Id) (q : Place) → Adds (depth (fresh_name o x q)) (state_nests (fresh_name o x q)) (step_fresh_name k i o x q)
unfolding dec_nest
step_fresh_name_nests (Sign Greater) i o x q = stays (λ ns. refl)
step_fresh_name_nests (Sign Less) i o x q = stays (λ ns. refl)
step_fresh_name_nests k i o x q = step_used_nests k i o x q

step_process_nests : (k : TokenKind) (r : Proc) (j : Span) (a : Val) (p : ProcessPlaces) → Adds (depth (have_process r j a p)) (state_nests (have_process r j a p)) (step_process k r j a p)
step_process_nests (Keyword Else) r j a p = stays (λ ns. refl)
step_process_nests _ r j a p = stopped

step_processes_nests : (k : TokenKind) (i o : Span) (ds : Decs) (rs : Procs) (r : Proc) (p : ProcessPlaces) → Adds (depth (have_processes o ds rs r p)) (state_nests (have_processes o ds rs r p)) (step_processes k i o ds rs r p)
unfolding dec_nest
step_processes_nests (Sign Bar) i o ds rs r p = stays (λ ns. simp append_assoc refl)
step_processes_nests (Sign CloseParen) i o ds rs r p = closes (put_processes_nests p (group_proc (join o i) ds (more_procs rs r))) (λ ns. simp append_assoc refl)
step_processes_nests _ i o ds rs r p = stopped

pub step_nests : (k : TokenKind) (i : Span) (x : State) → Adds (depth x) (state_nests x) (step k i x)
step_nests k i stop = stopped
step_nests k i (need p) = step_need_nests k i p
step_nests k i (fresh_name o x p) = step_fresh_name_nests k i o x p
step_nests k i (arguments d o x vs p) = step_side_nests k i d o x vs p
step_nests k i (have_channel c p) = step_channel_nests k i c p
step_nests k i (have_value v p) = step_wait_nests k i v p
step_nests k i (have_either v p) = step_either_nests k i v p
step_nests k i (have_process q j a p) = step_process_nests k q j a p
step_nests k i (have_processes o ds rs q p) = step_processes_nests k i o ds rs q p
step_nests k i (new_keyword j p) = step_new_keyword_nests k i j p
step_nests k i (new_name j x p) = step_new_name_nests k i j x p
step_nests k i (let_pattern j q p) = step_let_pattern_nests k i j q p
step_nests k i (definition_keyword j ds p) = step_definition_keyword_nests k i j ds p
step_nests k i (have_definition j ds x a p) = step_have_definition_nests k i j ds x a p
step_nests k i (type_keyword j p) = step_type_keyword_nests k i j p
step_nests k i (alias_name j x p) = step_alias_name_nests k i j x p
step_nests k i (operator_open j p) = step_operator_open_nests k i j p
step_nests k i (operator_parameters j x ys p) = step_operator_parameters_nests k i j x ys p
step_nests k i (operator_closed j x ys p) = step_operator_closed_nests k i j x ys p
step_nests k i (need_abstraction p) = step_need_abstraction_nests k i p
step_nests k i (abstraction_open o p) = step_abstraction_open_nests k i o p
step_nests k i (abstraction_pattern q p) = step_abstraction_pattern_nests k i q p
step_nests k i (abstraction_parameters o f p) = step_abstraction_parameters_nests k i o f p
step_nests k i (abstraction_result o f t p) = step_abstraction_result_nests k i o f t p
step_nests k i (need_pattern p) = begin_pattern_nests k i p
step_nests k i (pattern_open o p) = step_pattern_open_nests k i o p
step_nests k i (pattern_rec o p) = step_pattern_rec_nests k i o p
step_nests k i (pattern_folded o r q p) = step_pattern_folded_nests k i o r q p
step_nests k i (have_bind x p) = step_bind_nests k i x p
step_nests k i (have_any j p) = step_any_nests k i j p
step_nests k i (after_binders p bs) = step_binders_nests k i p bs
step_nests k i (after_patterns p bs ps) = step_patterns_nests k i p bs ps
step_nests k i (pattern_name p bs ps x) = step_pattern_name_nests k i p bs ps x
step_nests k i (after_pattern_labels p bs ps ls) = step_pattern_labels_nests k i p bs ps ls
step_nests k i (pattern_label p bs ps ls x) = step_pattern_label_nests k i p bs ps ls x
step_nests k i (binder_hash h p) = step_hash_nests k i h p
step_nests k i (binder_name h x p) = step_binder_name_nests k i h x p
step_nests k i (need_kind h x p) = step_need_kind_nests k i h x p
step_nests k i (kind_arguments h x ms p) = step_kind_arguments_nests k i h x ms p
step_nests k i (kind_mark h x ms m p) = step_kind_mark_nests k i h x ms m p
step_nests k i (kind_arrow h x ms p) = step_kind_arrow_nests k i h x ms p
step_nests k i (kind_result h x ms p) = step_kind_result_nests k i h x ms p
step_nests k i (binder_kind h x c j p) = step_binder_kind_nests k i h x c j p
step_nests k i (need_type p) = begin_type_nests k i p
step_nests k i (type_open o p) = step_type_open_nests k i o p
step_nests k i (rec_keyword o p) = step_rec_keyword_nests k i o p
step_nests k i (rec_name o x p) = step_rec_name_nests k i o x p
step_nests k i (rec_body o x t p) = step_rec_body_nests k i o x t p
step_nests k i (operator_arguments o x ts p) = step_operator_arguments_nests k i o x ts p
step_nests k i (after_type_binders o bs p) = step_type_binders_nests k i o bs p
step_nests k i (after_types o bs ts p) = step_types_nests k i o bs ts p
step_nests k i (type_name o bs ts x p) = step_type_name_nests k i o bs ts x p
step_nests k i (after_type_labels o bs ts ls p) = step_type_labels_nests k i o bs ts ls p
step_nests k i (type_label o bs ts ls x p) = step_type_label_nests k i o bs ts ls x p
step_nests k i (fold_keyword o p) = step_fold_keyword_nests k i o p
step_nests k i (fold_body o r v p) = step_fold_body_nests k i o r v p
step_nests k i (after_arguments p ts) = step_arguments_nests k i p ts
step_nests k i (after_values p ts vs) = step_values_nests k i p ts vs
step_nests k i (value_name p ts vs x) = step_value_name_nests k i p ts vs x
step_nests k i (after_labels p ts vs ls) = step_labels_nests k i p ts vs ls
step_nests k i (value_label p ts vs ls x) = step_value_label_nests k i p ts vs ls x
