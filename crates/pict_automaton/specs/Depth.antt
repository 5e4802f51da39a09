-- How many of the constructs that count for nesting are open at each place and in each state: pairs of brackets,
-- conditionals, type prefixes, and abstractions from their first token on. A place counts those in which the phrase
-- stands that is to come there. The nesting of a token that is read is the greater of the depths before and behind it.
use Rattle.std.specs.Prelude.{ℕ, suc, zero}
use Rattle.pict_automaton.specs.Places.{ValuePlace, in_let, in_function, in_send, in_side, in_field, in_label, in_fold, in_else, waiting, Wait, at_top, in_test, in_then, in_paren, ProcessPlace, in_run, in_process, in_else_process, in_bar, in_then_process, EitherPlace, in_paren_either, in_then_either, ProcessPlaces, process_only, process_either, ValuePlaces, value_only, value_either, Place, for_value, for_process, for_either, DeclarationPlace, top_declarations, paren_declarations, AbstractionPlace, in_definition, in_lambda, in_input, FieldsPlace, in_record, in_apply, PatternPlace, in_let_pattern, in_abstraction_pattern, in_fold_pattern, in_field_pattern, in_label_pattern, FieldPatternsPlace, in_pattern_record, in_parameters, TypePlace, in_new, in_alias, in_operator, in_bind, in_any, in_result, in_pattern_fold_type, in_fold_type, in_bound, in_prefix, in_type_field, in_type_label, in_type_apply, in_rec, in_argument, BinderPlace, of_patterns, of_types, State, stop, need, fresh_name, arguments, have_channel, have_value, have_either, have_process, have_processes, new_keyword, new_name, let_pattern, definition_keyword, have_definition, type_keyword, alias_name, operator_open, operator_parameters, operator_closed, need_abstraction, abstraction_open, abstraction_pattern, abstraction_parameters, abstraction_result, need_pattern, pattern_open, pattern_rec, pattern_folded, have_bind, have_any, after_binders, after_patterns, pattern_name, after_pattern_labels, pattern_label, binder_hash, binder_name, need_kind, kind_arguments, kind_mark, kind_arrow, kind_result, binder_kind, need_type, type_open, rec_keyword, rec_name, rec_body, operator_arguments, after_type_binders, after_types, type_name, after_type_labels, type_label, fold_keyword, fold_body, after_arguments, after_values, value_name, after_labels, value_label}

abbrev mutual
  pub value_depth : ValuePlace → ℕ
  value_depth (in_let i r p) = declaration_depth p
  value_depth (in_function o f r p) = suc (abstraction_depth p)
  value_depth (in_send c p) = processes_depth p
  value_depth (in_side d o x vs p) = suc (place_depth p)
  value_depth (in_field p ts vs) = fields_depth p
  value_depth (in_label p ts vs ls x) = fields_depth p
  value_depth (in_fold o r p) = suc (place_depth p)
  value_depth (in_else i a b p) = suc (values_depth p)
  value_depth (waiting w) = wait_depth w

  pub wait_depth : Wait → ℕ
  wait_depth (at_top ds) = zero
  wait_depth (in_test i p) = suc (place_depth p)
  wait_depth (in_then i a p) = suc (value_depth p)
  wait_depth (in_paren o ds p) = suc (value_depth p)

  pub process_depth : ProcessPlace → ℕ
  process_depth (in_run i p) = declaration_depth p
  process_depth (in_process r p) = suc (abstraction_depth p)
  process_depth (in_else_process i a r p) = suc (processes_depth p)
  process_depth (in_bar o ds rs p) = suc (processes_depth p)
  process_depth (in_then_process i a p) = suc (process_depth p)

  pub either_depth : EitherPlace → ℕ
  either_depth (in_paren_either o ds p) = suc (processes_depth p)
  either_depth (in_then_either i a p) = suc (either_depth p)

  pub processes_depth : ProcessPlaces → ℕ
  processes_depth (process_only p) = process_depth p
  processes_depth (process_either p) = either_depth p

  pub values_depth : ValuePlaces → ℕ
  values_depth (value_only p) = value_depth p
  values_depth (value_either p) = either_depth p

  pub place_depth : Place → ℕ
  place_depth (for_value p) = value_depth p
  place_depth (for_process p) = process_depth p
  place_depth (for_either p) = either_depth p

  pub declaration_depth : DeclarationPlace → ℕ
  declaration_depth (top_declarations ds) = zero
  declaration_depth (paren_declarations o ds p) = suc (place_depth p)

  -- the abstraction that is to come isn't counted yet
  pub abstraction_depth : AbstractionPlace → ℕ
  abstraction_depth (in_definition i ds x p) = declaration_depth p
  abstraction_depth (in_lambda i p) = values_depth p
  abstraction_depth (in_input a c p) = processes_depth p

  pub fields_depth : FieldsPlace → ℕ
  fields_depth (in_record o p) = suc (values_depth p)
  fields_depth (in_apply o v p) = suc (place_depth p)

abbrev mutual
  pub pattern_depth : PatternPlace → ℕ
  pattern_depth (in_let_pattern i p) = declaration_depth p
  pattern_depth (in_abstraction_pattern p) = suc (abstraction_depth p)
  pattern_depth (in_fold_pattern o r p) = suc (pattern_depth p)
  pattern_depth (in_field_pattern p bs ps) = patterns_depth p
  pattern_depth (in_label_pattern p bs ps ls x) = patterns_depth p

  pub patterns_depth : FieldPatternsPlace → ℕ
  patterns_depth (in_pattern_record o p) = suc (pattern_depth p)
  patterns_depth (in_parameters o p) = suc (suc (abstraction_depth p))

abbrev mutual
  pub type_depth : TypePlace → ℕ
  type_depth (in_new i x p) = declaration_depth p
  type_depth (in_alias i x p) = declaration_depth p
  type_depth (in_operator i x ys p) = declaration_depth p
  type_depth (in_bind x p) = pattern_depth p
  type_depth (in_any i p) = pattern_depth p
  type_depth (in_result o f p) = suc (abstraction_depth p)
  type_depth (in_pattern_fold_type o p) = suc (pattern_depth p)
  type_depth (in_fold_type o p) = suc (place_depth p)
  type_depth (in_bound h x k p) = binder_depth p
  type_depth (in_prefix m i p) = suc (type_depth p)
  type_depth (in_type_field o bs ts p) = suc (type_depth p)
  type_depth (in_type_label o bs ts ls x p) = suc (type_depth p)
  type_depth (in_type_apply o x ts p) = suc (type_depth p)
  type_depth (in_rec o x p) = suc (type_depth p)
  type_depth (in_argument p ts) = fields_depth p

  pub binder_depth : BinderPlace → ℕ
  binder_depth (of_patterns p bs) = patterns_depth p
  binder_depth (of_types o bs p) = suc (type_depth p)

abbrev pub depth : State → ℕ
depth stop = zero
depth (need p) = place_depth p
depth (fresh_name o x p) = suc (place_depth p)
depth (arguments d o x vs p) = suc (place_depth p)
depth (have_channel c p) = processes_depth p
depth (have_value v w) = wait_depth w
depth (have_either v p) = either_depth p
depth (have_process r i a p) = suc (processes_depth p)
depth (have_processes o ds rs r p) = suc (processes_depth p)
depth (new_keyword i p) = declaration_depth p
depth (new_name i x p) = declaration_depth p
depth (let_pattern i r p) = declaration_depth p
depth (definition_keyword i ds p) = declaration_depth p
depth (have_definition i ds x a p) = declaration_depth p
depth (type_keyword i p) = declaration_depth p
depth (alias_name i x p) = declaration_depth p
depth (operator_open i p) = suc (declaration_depth p)
depth (operator_parameters i x ys p) = suc (declaration_depth p)
depth (operator_closed i x ys p) = declaration_depth p
depth (need_abstraction p) = abstraction_depth p
depth (abstraction_open o p) = suc (suc (abstraction_depth p))
depth (abstraction_pattern r p) = suc (abstraction_depth p)
depth (abstraction_parameters o f p) = suc (abstraction_depth p)
depth (abstraction_result o f t p) = suc (abstraction_depth p)
depth (need_pattern p) = pattern_depth p
depth (pattern_open o p) = suc (pattern_depth p)
depth (pattern_rec o p) = suc (pattern_depth p)
depth (pattern_folded o r q p) = suc (pattern_depth p)
depth (have_bind x p) = pattern_depth p
depth (have_any i p) = pattern_depth p
depth (after_binders p bs) = patterns_depth p
depth (after_patterns p bs ps) = patterns_depth p
depth (pattern_name p bs ps x) = patterns_depth p
depth (after_pattern_labels p bs ps ls) = patterns_depth p
depth (pattern_label p bs ps ls x) = patterns_depth p
depth (binder_hash h p) = binder_depth p
depth (binder_name h x p) = binder_depth p
depth (need_kind h x p) = binder_depth p
depth (kind_arguments h x ms p) = suc (binder_depth p)
depth (kind_mark h x ms m p) = suc (binder_depth p)
depth (kind_arrow h x ms p) = suc (binder_depth p)
depth (kind_result h x ms p) = suc (binder_depth p)
depth (binder_kind h x k j p) = binder_depth p
depth (need_type p) = type_depth p
depth (type_open o p) = suc (type_depth p)
depth (rec_keyword o p) = suc (type_depth p)
depth (rec_name o x p) = suc (type_depth p)
depth (rec_body o x t p) = suc (type_depth p)
depth (operator_arguments o x ts p) = suc (type_depth p)
depth (after_type_binders o bs p) = suc (type_depth p)
depth (after_types o bs ts p) = suc (type_depth p)
depth (type_name o bs ts x p) = suc (type_depth p)
depth (after_type_labels o bs ts ls p) = suc (type_depth p)
depth (type_label o bs ts ls x p) = suc (type_depth p)
depth (fold_keyword o p) = suc (place_depth p)
depth (fold_body o r v p) = suc (place_depth p)
depth (after_arguments p ts) = fields_depth p
depth (after_values p ts vs) = fields_depth p
depth (value_name p ts vs x) = fields_depth p
depth (after_labels p ts vs ls) = fields_depth p
depth (value_label p ts vs ls x) = fields_depth p
