-- What has been read at each place and in each state.
use Rattle.std.proofs.Common.{List, [], ◌∷◌, Option, None, Some}
use Rattle.pict_syntax.specs.declared.span.Span.{Span}
use Rattle.pict_syntax.specs.declared.id.Id.{Id}
use Rattle.pict_syntax.specs.declared.type_tree.Mark.{Mark}
use Rattle.pict_syntax.specs.declared.type_tree.Mark.TheVariants as mark
use Rattle.pict_syntax.specs.declared.token.SymbolName.TheVariants as symbol_name
use Rattle.pict_syntax.specs.declared.token.TokenKind.TheVariants.{Keyword, Sign}
use Rattle.pict_syntax.specs.declared.token.Keyword.TheVariants.{Def, Else, If, New, Rec, Run, Then, TypeDefinition, Val as ValKeyword, TypeKind}
use Rattle.pict_syntax.specs.declared.token.Sign.{Sign as AnySign}
use Rattle.pict_syntax.specs.declared.token.Sign.TheVariants.{Bang, Question, QuestionStar, Equals, OpenParen, CloseParen, OpenBracket, Colon, Less, Greater, Backslash, Caret, Slash, Hash, Underscore, Arrow}
use Rattle.pict_syntax.specs.Phrases.{Phrase, nothing, never, ◌▸◌, at, keyword, sign, symbol, ident, idents, name}
use Rattle.pict_syntax.specs.Trees.{KindTree}
use Rattle.pict_syntax.specs.Grammar.{AreMarks, IsKind, SomeKind, IsType, AreTypes, AreLabelledTypes, AreBinders, IsRType, IsPat, AreFieldPats, ArePats, AreLabelledPats, AreTypeArguments, AreDecs, AreDefinitionsAnd, IsAbs, IsChan, IsVal, AreVals, AreLabelledVals, IsProc, AreProcsBar}
use Rattle.pict_automaton.specs.Places.{Side, rightward, leftward, Ask, asks_once, asks_always, Prefix, both, read, write, respond, ValuePlace, in_let, in_function, in_send, in_side, in_field, in_label, in_fold, in_else, waiting, Wait, at_top, in_test, in_then, in_paren, ProcessPlace, in_run, in_process, in_else_process, in_bar, in_then_process, EitherPlace, in_paren_either, in_then_either, ProcessPlaces, process_only, process_either, ValuePlaces, value_only, value_either, Place, for_value, for_process, for_either, DeclarationPlace, top_declarations, paren_declarations, AbstractionPlace, in_definition, in_lambda, in_input, FieldsPlace, in_record, in_apply, PatternPlace, in_let_pattern, in_abstraction_pattern, in_fold_pattern, in_field_pattern, in_label_pattern, FieldPatternsPlace, in_pattern_record, in_parameters, TypePlace, in_new, in_alias, in_operator, in_bind, in_any, in_result, in_pattern_fold_type, in_fold_type, in_bound, in_prefix, in_type_field, in_type_label, in_type_apply, in_rec, in_argument, BinderPlace, of_patterns, of_types, State, stop, need, fresh_name, arguments, have_channel, have_value, have_either, have_process, have_processes, new_keyword, new_name, let_pattern, definition_keyword, have_definition, type_keyword, alias_name, operator_open, operator_parameters, operator_closed, need_abstraction, abstraction_open, abstraction_pattern, abstraction_parameters, abstraction_result, need_pattern, pattern_open, pattern_rec, pattern_folded, have_bind, have_any, after_binders, after_patterns, pattern_name, after_pattern_labels, pattern_label, binder_hash, binder_name, need_kind, kind_arguments, kind_mark, kind_arrow, kind_result, binder_kind, need_type, type_open, rec_keyword, rec_name, rec_body, operator_arguments, after_type_binders, after_types, type_name, after_type_labels, type_label, fold_keyword, fold_body, after_arguments, after_values, value_name, after_labels, value_label}

abbrev pub side_sign : Side → AnySign
side_sign rightward = Greater
side_sign leftward = Less

abbrev pub ask_sign : Ask → AnySign
ask_sign asks_once = Question
ask_sign asks_always = QuestionStar

abbrev pub prefix_sign : Prefix → AnySign
prefix_sign both = Caret
prefix_sign read = Question
prefix_sign write = Bang
prefix_sign respond = Slash

-- an operator's words, up to its closing parenthesis, and to what stands behind it
abbrev pub closed_operator : Span → Id → List Id → Phrase
closed_operator i x [] = never
closed_operator i x (y ∷ ys) = at (Keyword TypeDefinition) i ▸ (sign OpenParen ▸ (ident x ▸ (ident y ▸ (idents ys ▸ sign CloseParen))))

abbrev pub defined_operator : Span → Id → List Id → Phrase
defined_operator i x [] = never
defined_operator i x (y ∷ ys) = at (Keyword TypeDefinition) i ▸ (sign OpenParen ▸ (ident x ▸ (ident y ▸ (idents ys ▸ (sign CloseParen ▸ sign Equals)))))

-- what stands between a binder's identifier and its bound
abbrev pub bound_keywords : Option KindTree → Phrase
bound_keywords None = sign Less
bound_keywords (Some k) = sign Colon ▸ (SomeKind k ▸ sign Less)

-- a mark up to its `Type`
abbrev pub mark_symbol : Mark → Phrase
mark_symbol mark.Plain = nothing
mark_symbol mark.Plus = symbol symbol_name.Plus
mark_symbol mark.Minus = symbol symbol_name.Minus

-- a kind up to its arrow, and up to its result
abbrev pub arrow_keywords : List Mark → Phrase
arrow_keywords [] = never
arrow_keywords (m ∷ ms) = sign OpenParen ▸ (AreMarks (m ∷ ms) ▸ sign Arrow)

abbrev pub result_keywords : List Mark → Phrase
result_keywords [] = never
result_keywords (m ∷ ms) = sign OpenParen ▸ (AreMarks (m ∷ ms) ▸ (sign Arrow ▸ keyword TypeKind))

abbrev mutual
  pub value_says : ValuePlace → Phrase
  value_says (in_let i r p) = declaration_says p ▸ (at (Keyword ValKeyword) i ▸ (IsPat r ▸ sign Equals))
  value_says (in_function o f r p) = abstraction_says p ▸ (at (Sign OpenParen) o ▸ (AreFieldPats f ▸ (sign CloseParen ▸ (IsRType r ▸ sign Equals))))
  value_says (in_send c p) = processes_says p ▸ (IsChan c ▸ sign Bang)
  value_says (in_side d o x vs p) = place_says p ▸ (at (Sign OpenParen) o ▸ (name x.name x.span ▸ (sign (side_sign d) ▸ AreVals vs)))
  value_says (in_field p ts vs) = fields_says p ▸ (AreTypeArguments ts ▸ AreVals vs)
  value_says (in_label p ts vs ls x) = fields_says p ▸ (AreTypeArguments ts ▸ (AreVals vs ▸ (AreLabelledVals ls ▸ (ident x ▸ sign Equals))))
  value_says (in_fold o r p) = place_says p ▸ (at (Sign OpenParen) o ▸ (keyword Rec ▸ IsRType r))
  value_says (in_else i a b p) = values_says p ▸ (at (Keyword If) i ▸ (IsVal a ▸ (keyword Then ▸ (IsVal b ▸ keyword Else))))
  value_says (waiting w) = wait_says w

  pub wait_says : Wait → Phrase
  wait_says (at_top ds) = AreDecs ds
  wait_says (in_test i p) = place_says p ▸ at (Keyword If) i
  wait_says (in_then i a p) = value_says p ▸ (at (Keyword If) i ▸ (IsVal a ▸ keyword Then))
  wait_says (in_paren o ds p) = value_says p ▸ (at (Sign OpenParen) o ▸ AreDecs ds)

  pub process_says : ProcessPlace → Phrase
  process_says (in_run i p) = declaration_says p ▸ at (Keyword Run) i
  process_says (in_process r p) = abstraction_says p ▸ (IsPat r ▸ sign Equals)
  process_says (in_else_process i a r p) = processes_says p ▸ (at (Keyword If) i ▸ (IsVal a ▸ (keyword Then ▸ (IsProc r ▸ keyword Else))))
  process_says (in_bar o ds rs p) = processes_says p ▸ (at (Sign OpenParen) o ▸ (AreDecs ds ▸ AreProcsBar rs))
  process_says (in_then_process i a p) = process_says p ▸ (at (Keyword If) i ▸ (IsVal a ▸ keyword Then))

  pub either_says : EitherPlace → Phrase
  either_says (in_paren_either o ds p) = processes_says p ▸ (at (Sign OpenParen) o ▸ AreDecs ds)
  either_says (in_then_either i a p) = either_says p ▸ (at (Keyword If) i ▸ (IsVal a ▸ keyword Then))

  pub processes_says : ProcessPlaces → Phrase
  processes_says (process_only p) = process_says p
  processes_says (process_either p) = either_says p

  pub values_says : ValuePlaces → Phrase
  values_says (value_only p) = value_says p
  values_says (value_either p) = either_says p

  pub place_says : Place → Phrase
  place_says (for_value p) = value_says p
  place_says (for_process p) = process_says p
  place_says (for_either p) = either_says p

  pub declaration_says : DeclarationPlace → Phrase
  declaration_says (top_declarations ds) = AreDecs ds
  declaration_says (paren_declarations o ds p) = place_says p ▸ (at (Sign OpenParen) o ▸ AreDecs ds)

  pub abstraction_says : AbstractionPlace → Phrase
  abstraction_says (in_definition i ds x p) = declaration_says p ▸ (at (Keyword Def) i ▸ (AreDefinitionsAnd ds ▸ ident x))
  abstraction_says (in_lambda i p) = values_says p ▸ at (Sign Backslash) i
  abstraction_says (in_input a c p) = processes_says p ▸ (IsChan c ▸ sign (ask_sign a))

  pub fields_says : FieldsPlace → Phrase
  fields_says (in_record o p) = values_says p ▸ at (Sign OpenBracket) o
  fields_says (in_apply o v p) = place_says p ▸ (at (Sign OpenParen) o ▸ IsVal v)

abbrev mutual
  pub pattern_says : PatternPlace → Phrase
  pattern_says (in_let_pattern i p) = declaration_says p ▸ at (Keyword ValKeyword) i
  pattern_says (in_abstraction_pattern p) = abstraction_says p
  pattern_says (in_fold_pattern o r p) = pattern_says p ▸ (at (Sign OpenParen) o ▸ (keyword Rec ▸ IsRType r))
  pattern_says (in_field_pattern p bs ps) = patterns_says p ▸ (AreBinders bs ▸ ArePats ps)
  pattern_says (in_label_pattern p bs ps ls x) = patterns_says p ▸ (AreBinders bs ▸ (ArePats ps ▸ (AreLabelledPats ls ▸ (ident x ▸ sign Equals))))

  pub patterns_says : FieldPatternsPlace → Phrase
  patterns_says (in_pattern_record o p) = pattern_says p ▸ at (Sign OpenBracket) o
  patterns_says (in_parameters o p) = abstraction_says p ▸ at (Sign OpenParen) o

abbrev mutual
  pub type_says : TypePlace → Phrase
  type_says (in_new i x p) = declaration_says p ▸ (at (Keyword New) i ▸ (ident x ▸ sign Colon))
  type_says (in_alias i x p) = declaration_says p ▸ (at (Keyword TypeDefinition) i ▸ (ident x ▸ sign Equals))
  type_says (in_operator i x ys p) = declaration_says p ▸ defined_operator i x ys
  type_says (in_bind x p) = pattern_says p ▸ (ident x ▸ sign Colon)
  type_says (in_any i p) = pattern_says p ▸ (at (Sign Underscore) i ▸ sign Colon)
  type_says (in_result o f p) = abstraction_says p ▸ (at (Sign OpenParen) o ▸ (AreFieldPats f ▸ (sign CloseParen ▸ sign Colon)))
  type_says (in_pattern_fold_type o p) = pattern_says p ▸ (at (Sign OpenParen) o ▸ (keyword Rec ▸ sign Colon))
  type_says (in_fold_type o p) = place_says p ▸ (at (Sign OpenParen) o ▸ (keyword Rec ▸ sign Colon))
  type_says (in_bound h x k p) = binder_says p ▸ (at (Sign Hash) h ▸ (ident x ▸ bound_keywords k))
  type_says (in_prefix m i p) = type_says p ▸ at (Sign (prefix_sign m)) i
  type_says (in_type_field o bs ts p) = type_says p ▸ (at (Sign OpenBracket) o ▸ (AreBinders bs ▸ AreTypes ts))
  type_says (in_type_label o bs ts ls x p) = type_says p ▸ (at (Sign OpenBracket) o ▸ (AreBinders bs ▸ (AreTypes ts ▸ (AreLabelledTypes ls ▸ (ident x ▸ sign Equals)))))
  type_says (in_type_apply o x ts p) = type_says p ▸ (at (Sign OpenParen) o ▸ (ident x ▸ AreTypes ts))
  type_says (in_rec o x p) = type_says p ▸ (at (Sign OpenParen) o ▸ (keyword Rec ▸ (ident x ▸ sign Equals)))
  type_says (in_argument p ts) = fields_says p ▸ (AreTypeArguments ts ▸ sign Hash)

  pub binder_says : BinderPlace → Phrase
  binder_says (of_patterns p bs) = patterns_says p ▸ AreBinders bs
  binder_says (of_types o bs p) = type_says p ▸ (at (Sign OpenBracket) o ▸ AreBinders bs)

-- what has been read; where the machine stopped, anything may have been
abbrev pub state_says : State → Phrase
state_says stop = λ ts. Unit {0}
state_says (need p) = place_says p
state_says (fresh_name o x p) = place_says p ▸ (at (Sign OpenParen) o ▸ name x.name x.span)
state_says (arguments d o x vs p) = place_says p ▸ (at (Sign OpenParen) o ▸ (name x.name x.span ▸ (sign (side_sign d) ▸ AreVals vs)))
state_says (have_channel c p) = processes_says p ▸ IsChan c
state_says (have_value v w) = wait_says w ▸ IsVal v
state_says (have_either v p) = either_says p ▸ IsVal v
state_says (have_process r i a p) = processes_says p ▸ (at (Keyword If) i ▸ (IsVal a ▸ (keyword Then ▸ IsProc r)))
state_says (have_processes o ds rs r p) = processes_says p ▸ (at (Sign OpenParen) o ▸ (AreDecs ds ▸ (AreProcsBar rs ▸ IsProc r)))
state_says (new_keyword i p) = declaration_says p ▸ at (Keyword New) i
state_says (new_name i x p) = declaration_says p ▸ (at (Keyword New) i ▸ ident x)
state_says (let_pattern i r p) = declaration_says p ▸ (at (Keyword ValKeyword) i ▸ IsPat r)
state_says (definition_keyword i ds p) = declaration_says p ▸ (at (Keyword Def) i ▸ AreDefinitionsAnd ds)
state_says (have_definition i ds x a p) = declaration_says p ▸ (at (Keyword Def) i ▸ (AreDefinitionsAnd ds ▸ (ident x ▸ IsAbs a)))
state_says (type_keyword i p) = declaration_says p ▸ at (Keyword TypeDefinition) i
state_says (alias_name i x p) = declaration_says p ▸ (at (Keyword TypeDefinition) i ▸ ident x)
state_says (operator_open i p) = declaration_says p ▸ (at (Keyword TypeDefinition) i ▸ sign OpenParen)
state_says (operator_parameters i x ys p) = declaration_says p ▸ (at (Keyword TypeDefinition) i ▸ (sign OpenParen ▸ (ident x ▸ idents ys)))
state_says (operator_closed i x ys p) = declaration_says p ▸ closed_operator i x ys
state_says (need_abstraction p) = abstraction_says p
state_says (abstraction_open o p) = abstraction_says p ▸ at (Sign OpenParen) o
state_says (abstraction_pattern r p) = abstraction_says p ▸ IsPat r
state_says (abstraction_parameters o f p) = abstraction_says p ▸ (at (Sign OpenParen) o ▸ (AreFieldPats f ▸ sign CloseParen))
state_says (abstraction_result o f t p) = abstraction_says p ▸ (at (Sign OpenParen) o ▸ (AreFieldPats f ▸ (sign CloseParen ▸ (sign Colon ▸ IsType t))))
state_says (need_pattern p) = pattern_says p
state_says (pattern_open o p) = pattern_says p ▸ at (Sign OpenParen) o
state_says (pattern_rec o p) = pattern_says p ▸ (at (Sign OpenParen) o ▸ keyword Rec)
state_says (pattern_folded o r q p) = pattern_says p ▸ (at (Sign OpenParen) o ▸ (keyword Rec ▸ (IsRType r ▸ IsPat q)))
state_says (have_bind x p) = pattern_says p ▸ ident x
state_says (have_any i p) = pattern_says p ▸ at (Sign Underscore) i
state_says (after_binders p bs) = patterns_says p ▸ AreBinders bs
state_says (after_patterns p bs ps) = patterns_says p ▸ (AreBinders bs ▸ ArePats ps)
state_says (pattern_name p bs ps x) = patterns_says p ▸ (AreBinders bs ▸ (ArePats ps ▸ ident x))
state_says (after_pattern_labels p bs ps ls) = patterns_says p ▸ (AreBinders bs ▸ (ArePats ps ▸ AreLabelledPats ls))
state_says (pattern_label p bs ps ls x) = patterns_says p ▸ (AreBinders bs ▸ (ArePats ps ▸ (AreLabelledPats ls ▸ ident x)))
state_says (binder_hash h p) = binder_says p ▸ at (Sign Hash) h
state_says (binder_name h x p) = binder_says p ▸ (at (Sign Hash) h ▸ ident x)
state_says (need_kind h x p) = binder_says p ▸ (at (Sign Hash) h ▸ (ident x ▸ sign Colon))
state_says (kind_arguments h x ms p) = binder_says p ▸ (at (Sign Hash) h ▸ (ident x ▸ (sign Colon ▸ (sign OpenParen ▸ AreMarks ms))))
state_says (kind_mark h x ms m p) = binder_says p ▸ (at (Sign Hash) h ▸ (ident x ▸ (sign Colon ▸ (sign OpenParen ▸ (AreMarks ms ▸ mark_symbol m)))))
state_says (kind_arrow h x ms p) = binder_says p ▸ (at (Sign Hash) h ▸ (ident x ▸ (sign Colon ▸ arrow_keywords ms)))
state_says (kind_result h x ms p) = binder_says p ▸ (at (Sign Hash) h ▸ (ident x ▸ (sign Colon ▸ result_keywords ms)))
state_says (binder_kind h x k j p) = binder_says p ▸ (at (Sign Hash) h ▸ (ident x ▸ (sign Colon ▸ IsKind k j)))
state_says (need_type p) = type_says p
state_says (type_open o p) = type_says p ▸ at (Sign OpenParen) o
state_says (rec_keyword o p) = type_says p ▸ (at (Sign OpenParen) o ▸ keyword Rec)
state_says (rec_name o x p) = type_says p ▸ (at (Sign OpenParen) o ▸ (keyword Rec ▸ ident x))
state_says (rec_body o x t p) = type_says p ▸ (at (Sign OpenParen) o ▸ (keyword Rec ▸ (ident x ▸ (sign Equals ▸ IsType t))))
state_says (operator_arguments o x ts p) = type_says p ▸ (at (Sign OpenParen) o ▸ (ident x ▸ AreTypes ts))
state_says (after_type_binders o bs p) = type_says p ▸ (at (Sign OpenBracket) o ▸ AreBinders bs)
state_says (after_types o bs ts p) = type_says p ▸ (at (Sign OpenBracket) o ▸ (AreBinders bs ▸ AreTypes ts))
state_says (type_name o bs ts x p) = type_says p ▸ (at (Sign OpenBracket) o ▸ (AreBinders bs ▸ (AreTypes ts ▸ ident x)))
state_says (after_type_labels o bs ts ls p) = type_says p ▸ (at (Sign OpenBracket) o ▸ (AreBinders bs ▸ (AreTypes ts ▸ AreLabelledTypes ls)))
state_says (type_label o bs ts ls x p) = type_says p ▸ (at (Sign OpenBracket) o ▸ (AreBinders bs ▸ (AreTypes ts ▸ (AreLabelledTypes ls ▸ ident x))))
state_says (fold_keyword o p) = place_says p ▸ (at (Sign OpenParen) o ▸ keyword Rec)
state_says (fold_body o r v p) = place_says p ▸ (at (Sign OpenParen) o ▸ (keyword Rec ▸ (IsRType r ▸ IsVal v)))
state_says (after_arguments p ts) = fields_says p ▸ AreTypeArguments ts
state_says (after_values p ts vs) = fields_says p ▸ (AreTypeArguments ts ▸ AreVals vs)
state_says (value_name p ts vs x) = fields_says p ▸ (AreTypeArguments ts ▸ (AreVals vs ▸ ident x))
state_says (after_labels p ts vs ls) = fields_says p ▸ (AreTypeArguments ts ▸ (AreVals vs ▸ AreLabelledVals ls))
state_says (value_label p ts vs ls x) = fields_says p ▸ (AreTypeArguments ts ▸ (AreVals vs ▸ (AreLabelledVals ls ▸ ident x)))
