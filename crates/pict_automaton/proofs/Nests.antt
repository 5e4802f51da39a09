-- The nestings of what has been read at each place and in each state, before further ones.
use Rattle.std.proofs.Common.{ℕ, suc, zero, List, ◌∷◌, ◌++◌, Option, None, Some}
use Rattle.pict_syntax.specs.declared.id.Id.{Id}
use Rattle.pict_syntax.specs.declared.type_tree.Mark.{Mark}
use Rattle.pict_syntax.specs.declared.type_tree.Mark.TheVariants as mark
use Rattle.pict_automaton.specs.Places.{ValuePlace, in_let, in_function, in_send, in_side, in_field, in_label, in_fold, in_else, waiting, Wait, at_top, in_test, in_then, in_paren, ProcessPlace, in_run, in_process, in_else_process, in_bar, in_then_process, EitherPlace, in_paren_either, in_then_either, ProcessPlaces, process_only, process_either, ValuePlaces, value_only, value_either, Place, for_value, for_process, for_either, DeclarationPlace, top_declarations, paren_declarations, AbstractionPlace, in_definition, in_lambda, in_input, FieldsPlace, in_record, in_apply, PatternPlace, in_let_pattern, in_abstraction_pattern, in_fold_pattern, in_field_pattern, in_label_pattern, FieldPatternsPlace, in_pattern_record, in_parameters, TypePlace, in_new, in_alias, in_operator, in_bind, in_any, in_result, in_pattern_fold_type, in_fold_type, in_bound, in_prefix, in_type_field, in_type_label, in_type_apply, in_rec, in_argument, BinderPlace, of_patterns, of_types, State, stop, need, fresh_name, arguments, have_channel, have_value, have_either, have_process, have_processes, new_keyword, new_name, let_pattern, definition_keyword, have_definition, type_keyword, alias_name, operator_open, operator_parameters, operator_closed, need_abstraction, abstraction_open, abstraction_pattern, abstraction_parameters, abstraction_result, need_pattern, pattern_open, pattern_rec, pattern_folded, have_bind, have_any, after_binders, after_patterns, pattern_name, after_pattern_labels, pattern_label, binder_hash, binder_name, need_kind, kind_arguments, kind_mark, kind_arrow, kind_result, binder_kind, need_type, type_open, rec_keyword, rec_name, rec_body, operator_arguments, after_type_binders, after_types, type_name, after_type_labels, type_label, fold_keyword, fold_body, after_arguments, after_values, value_name, after_labels, value_label}
use Rattle.pict_syntax.specs.Trees.{KindTree}
use Rattle.pict_syntax.specs.Nesting.{names_nest, marks_nest, kind_nest, type_nest, types_nest, labelled_types_nest, binders_nest, annotation_nest, pat_nest, field_pats_nest, pats_nest, labelled_pats_nest, arguments_nest, decs_nest, definitions_nest, abs_nest, chan_nest, val_nest, vals_nest, labelled_vals_nest, proc_nest, procs_nest}
use Rattle.pict_automaton.specs.Depth.{value_depth, wait_depth, process_depth, either_depth, processes_depth, values_depth, place_depth, declaration_depth, abstraction_depth, fields_depth, pattern_depth, patterns_depth, type_depth, binder_depth}

-- what stands between a binder's identifier and its bound, in `d` constructs
abbrev pub bound_nests : ℕ → Option KindTree → List ℕ → List ℕ
bound_nests d None ns = d ∷ ns
bound_nests d (Some k) ns = d ∷ (kind_nest d k ++ (d ∷ ns))

-- a mark up to its `Type`
abbrev pub mark_nests : ℕ → Mark → List ℕ → List ℕ
mark_nests d mark.Plain ns = ns
mark_nests d mark.Plus ns = d ∷ ns
mark_nests d mark.Minus ns = d ∷ ns

-- an operator's parameters and their brackets
abbrev pub operator_nests : ℕ → List Id → List ℕ → List ℕ
operator_nests d ys ns = d ∷ (suc d ∷ (suc d ∷ (names_nest (suc d) ys ++ ns)))

abbrev mutual
  pub value_nests : ValuePlace → List ℕ → List ℕ
  value_nests (in_let i r p) ns = declaration_nests p (declaration_depth p ∷ (pat_nest (declaration_depth p) r ++ (declaration_depth p ∷ ns)))
  value_nests (in_function o f r p) ns = abstraction_nests p (suc (suc (abstraction_depth p)) ∷ (field_pats_nest (suc (suc (abstraction_depth p))) f ++ (suc (suc (abstraction_depth p)) ∷ (annotation_nest (suc (abstraction_depth p)) r ++ (suc (abstraction_depth p) ∷ ns)))))
  value_nests (in_send c p) ns = processes_nests p (chan_nest (processes_depth p) c ++ (processes_depth p ∷ ns))
  value_nests (in_side d o x vs p) ns = place_nests p (suc (place_depth p) ∷ (suc (place_depth p) ∷ (suc (place_depth p) ∷ (vals_nest (suc (place_depth p)) vs ++ ns))))
  value_nests (in_field p ts vs) ns = fields_nests p (arguments_nest (fields_depth p) ts ++ (vals_nest (fields_depth p) vs ++ ns))
  value_nests (in_label p ts vs ls x) ns = fields_nests p (arguments_nest (fields_depth p) ts ++ (vals_nest (fields_depth p) vs ++ (labelled_vals_nest (fields_depth p) ls ++ (fields_depth p ∷ (fields_depth p ∷ ns)))))
  value_nests (in_fold o r p) ns = place_nests p (suc (place_depth p) ∷ (suc (place_depth p) ∷ (annotation_nest (suc (place_depth p)) r ++ ns)))
  value_nests (in_else i a b p) ns = values_nests p (suc (values_depth p) ∷ (val_nest (suc (values_depth p)) a ++ (suc (values_depth p) ∷ (val_nest (suc (values_depth p)) b ++ (suc (values_depth p) ∷ ns)))))
  value_nests (waiting w) ns = wait_nests w ns

  pub wait_nests : Wait → List ℕ → List ℕ
  wait_nests (at_top ds) ns = decs_nest zero ds ++ ns
  wait_nests (in_test i p) ns = place_nests p (suc (place_depth p) ∷ ns)
  wait_nests (in_then i a p) ns = value_nests p (suc (value_depth p) ∷ (val_nest (suc (value_depth p)) a ++ (suc (value_depth p) ∷ ns)))
  wait_nests (in_paren o ds p) ns = value_nests p (suc (value_depth p) ∷ (decs_nest (suc (value_depth p)) ds ++ ns))

  pub process_nests : ProcessPlace → List ℕ → List ℕ
  process_nests (in_run i p) ns = declaration_nests p (declaration_depth p ∷ ns)
  process_nests (in_process r p) ns = abstraction_nests p (pat_nest (suc (abstraction_depth p)) r ++ (suc (abstraction_depth p) ∷ ns))
  process_nests (in_else_process i a r p) ns = processes_nests p (suc (processes_depth p) ∷ (val_nest (suc (processes_depth p)) a ++ (suc (processes_depth p) ∷ (proc_nest (suc (processes_depth p)) r ++ (suc (processes_depth p) ∷ ns)))))
  process_nests (in_bar o ds rs p) ns = processes_nests p (suc (processes_depth p) ∷ (decs_nest (suc (processes_depth p)) ds ++ (procs_nest (suc (processes_depth p)) rs ++ ns)))
  process_nests (in_then_process i a p) ns = process_nests p (suc (process_depth p) ∷ (val_nest (suc (process_depth p)) a ++ (suc (process_depth p) ∷ ns)))

  pub either_nests : EitherPlace → List ℕ → List ℕ
  either_nests (in_paren_either o ds p) ns = processes_nests p (suc (processes_depth p) ∷ (decs_nest (suc (processes_depth p)) ds ++ ns))
  either_nests (in_then_either i a p) ns = either_nests p (suc (either_depth p) ∷ (val_nest (suc (either_depth p)) a ++ (suc (either_depth p) ∷ ns)))

  pub processes_nests : ProcessPlaces → List ℕ → List ℕ
  processes_nests (process_only p) ns = process_nests p ns
  processes_nests (process_either p) ns = either_nests p ns

  pub values_nests : ValuePlaces → List ℕ → List ℕ
  values_nests (value_only p) ns = value_nests p ns
  values_nests (value_either p) ns = either_nests p ns

  pub place_nests : Place → List ℕ → List ℕ
  place_nests (for_value p) ns = value_nests p ns
  place_nests (for_process p) ns = process_nests p ns
  place_nests (for_either p) ns = either_nests p ns

  pub declaration_nests : DeclarationPlace → List ℕ → List ℕ
  declaration_nests (top_declarations ds) ns = decs_nest zero ds ++ ns
  declaration_nests (paren_declarations o ds p) ns = place_nests p (suc (place_depth p) ∷ (decs_nest (suc (place_depth p)) ds ++ ns))

  pub abstraction_nests : AbstractionPlace → List ℕ → List ℕ
  abstraction_nests (in_definition i ds x p) ns = declaration_nests p (declaration_depth p ∷ (definitions_nest (declaration_depth p) ds ++ (declaration_depth p ∷ ns)))
  abstraction_nests (in_lambda i p) ns = values_nests p (values_depth p ∷ ns)
  abstraction_nests (in_input a c p) ns = processes_nests p (chan_nest (processes_depth p) c ++ (processes_depth p ∷ ns))

  pub fields_nests : FieldsPlace → List ℕ → List ℕ
  fields_nests (in_record o p) ns = values_nests p (suc (values_depth p) ∷ ns)
  fields_nests (in_apply o v p) ns = place_nests p (suc (place_depth p) ∷ (val_nest (suc (place_depth p)) v ++ ns))

abbrev mutual
  pub pattern_nests : PatternPlace → List ℕ → List ℕ
  pattern_nests (in_let_pattern i p) ns = declaration_nests p (declaration_depth p ∷ ns)
  pattern_nests (in_abstraction_pattern p) ns = abstraction_nests p ns
  pattern_nests (in_fold_pattern o r p) ns = pattern_nests p (suc (pattern_depth p) ∷ (suc (pattern_depth p) ∷ (annotation_nest (suc (pattern_depth p)) r ++ ns)))
  pattern_nests (in_field_pattern p bs ps) ns = patterns_nests p (binders_nest (patterns_depth p) bs ++ (pats_nest (patterns_depth p) ps ++ ns))
  pattern_nests (in_label_pattern p bs ps ls x) ns = patterns_nests p (binders_nest (patterns_depth p) bs ++ (pats_nest (patterns_depth p) ps ++ (labelled_pats_nest (patterns_depth p) ls ++ (patterns_depth p ∷ (patterns_depth p ∷ ns)))))

  pub patterns_nests : FieldPatternsPlace → List ℕ → List ℕ
  patterns_nests (in_pattern_record o p) ns = pattern_nests p (suc (pattern_depth p) ∷ ns)
  patterns_nests (in_parameters o p) ns = abstraction_nests p (suc (suc (abstraction_depth p)) ∷ ns)

abbrev mutual
  pub type_nests : TypePlace → List ℕ → List ℕ
  type_nests (in_new i x p) ns = declaration_nests p (declaration_depth p ∷ (declaration_depth p ∷ (declaration_depth p ∷ ns)))
  type_nests (in_alias i x p) ns = declaration_nests p (declaration_depth p ∷ (declaration_depth p ∷ (declaration_depth p ∷ ns)))
  type_nests (in_operator i x ys p) ns = declaration_nests p (operator_nests (declaration_depth p) ys (suc (declaration_depth p) ∷ (declaration_depth p ∷ ns)))
  type_nests (in_bind x p) ns = pattern_nests p (pattern_depth p ∷ (pattern_depth p ∷ ns))
  type_nests (in_any i p) ns = pattern_nests p (pattern_depth p ∷ (pattern_depth p ∷ ns))
  type_nests (in_result o f p) ns = abstraction_nests p (suc (suc (abstraction_depth p)) ∷ (field_pats_nest (suc (suc (abstraction_depth p))) f ++ (suc (suc (abstraction_depth p)) ∷ (suc (abstraction_depth p) ∷ ns))))
  type_nests (in_pattern_fold_type o p) ns = pattern_nests p (suc (pattern_depth p) ∷ (suc (pattern_depth p) ∷ (suc (pattern_depth p) ∷ ns)))
  type_nests (in_fold_type o p) ns = place_nests p (suc (place_depth p) ∷ (suc (place_depth p) ∷ (suc (place_depth p) ∷ ns)))
  type_nests (in_bound h x k p) ns = binder_nests p (binder_depth p ∷ (binder_depth p ∷ bound_nests (binder_depth p) k ns))
  type_nests (in_prefix m i p) ns = type_nests p (suc (type_depth p) ∷ ns)
  type_nests (in_type_field o bs ts p) ns = type_nests p (suc (type_depth p) ∷ (binders_nest (suc (type_depth p)) bs ++ (types_nest (suc (type_depth p)) ts ++ ns)))
  type_nests (in_type_label o bs ts ls x p) ns = type_nests p (suc (type_depth p) ∷ (binders_nest (suc (type_depth p)) bs ++ (types_nest (suc (type_depth p)) ts ++ (labelled_types_nest (suc (type_depth p)) ls ++ (suc (type_depth p) ∷ (suc (type_depth p) ∷ ns))))))
  type_nests (in_type_apply o x ts p) ns = type_nests p (suc (type_depth p) ∷ (suc (type_depth p) ∷ (types_nest (suc (type_depth p)) ts ++ ns)))
  type_nests (in_rec o x p) ns = type_nests p (suc (type_depth p) ∷ (suc (type_depth p) ∷ (suc (type_depth p) ∷ (suc (type_depth p) ∷ ns))))
  type_nests (in_argument p ts) ns = fields_nests p (arguments_nest (fields_depth p) ts ++ (fields_depth p ∷ ns))

  pub binder_nests : BinderPlace → List ℕ → List ℕ
  binder_nests (of_patterns p bs) ns = patterns_nests p (binders_nest (patterns_depth p) bs ++ ns)
  binder_nests (of_types o bs p) ns = type_nests p (suc (type_depth p) ∷ (binders_nest (suc (type_depth p)) bs ++ ns))

-- what has been read; where the machine stopped nothing is said
abbrev pub state_nests : State → List ℕ → List ℕ
state_nests stop ns = ns
state_nests (need p) ns = place_nests p ns
state_nests (fresh_name o x p) ns = place_nests p (suc (place_depth p) ∷ (suc (place_depth p) ∷ ns))
state_nests (arguments d o x vs p) ns = place_nests p (suc (place_depth p) ∷ (suc (place_depth p) ∷ (suc (place_depth p) ∷ (vals_nest (suc (place_depth p)) vs ++ ns))))
state_nests (have_channel c p) ns = processes_nests p (chan_nest (processes_depth p) c ++ ns)
state_nests (have_value v w) ns = wait_nests w (val_nest (wait_depth w) v ++ ns)
state_nests (have_either v p) ns = either_nests p (val_nest (either_depth p) v ++ ns)
state_nests (have_process r i a p) ns = processes_nests p (suc (processes_depth p) ∷ (val_nest (suc (processes_depth p)) a ++ (suc (processes_depth p) ∷ (proc_nest (suc (processes_depth p)) r ++ ns))))
state_nests (have_processes o ds rs r p) ns = processes_nests p (suc (processes_depth p) ∷ (decs_nest (suc (processes_depth p)) ds ++ (procs_nest (suc (processes_depth p)) rs ++ (proc_nest (suc (processes_depth p)) r ++ ns))))
state_nests (new_keyword i p) ns = declaration_nests p (declaration_depth p ∷ ns)
state_nests (new_name i x p) ns = declaration_nests p (declaration_depth p ∷ (declaration_depth p ∷ ns))
state_nests (let_pattern i r p) ns = declaration_nests p (declaration_depth p ∷ (pat_nest (declaration_depth p) r ++ ns))
state_nests (definition_keyword i ds p) ns = declaration_nests p (declaration_depth p ∷ (definitions_nest (declaration_depth p) ds ++ ns))
state_nests (have_definition i ds x a p) ns = declaration_nests p (declaration_depth p ∷ (definitions_nest (declaration_depth p) ds ++ (declaration_depth p ∷ (abs_nest (declaration_depth p) a ++ ns))))
state_nests (type_keyword i p) ns = declaration_nests p (declaration_depth p ∷ ns)
state_nests (alias_name i x p) ns = declaration_nests p (declaration_depth p ∷ (declaration_depth p ∷ ns))
state_nests (operator_open i p) ns = declaration_nests p (declaration_depth p ∷ (suc (declaration_depth p) ∷ ns))
state_nests (operator_parameters i x ys p) ns = declaration_nests p (operator_nests (declaration_depth p) ys ns)
state_nests (operator_closed i x ys p) ns = declaration_nests p (operator_nests (declaration_depth p) ys (suc (declaration_depth p) ∷ ns))
state_nests (need_abstraction p) ns = abstraction_nests p ns
state_nests (abstraction_open o p) ns = abstraction_nests p (suc (suc (abstraction_depth p)) ∷ ns)
state_nests (abstraction_pattern r p) ns = abstraction_nests p (pat_nest (suc (abstraction_depth p)) r ++ ns)
state_nests (abstraction_parameters o f p) ns = abstraction_nests p (suc (suc (abstraction_depth p)) ∷ (field_pats_nest (suc (suc (abstraction_depth p))) f ++ (suc (suc (abstraction_depth p)) ∷ ns)))
state_nests (abstraction_result o f t p) ns = abstraction_nests p (suc (suc (abstraction_depth p)) ∷ (field_pats_nest (suc (suc (abstraction_depth p))) f ++ (suc (suc (abstraction_depth p)) ∷ (suc (abstraction_depth p) ∷ (type_nest (suc (abstraction_depth p)) t ++ ns)))))
state_nests (need_pattern p) ns = pattern_nests p ns
state_nests (pattern_open o p) ns = pattern_nests p (suc (pattern_depth p) ∷ ns)
state_nests (pattern_rec o p) ns = pattern_nests p (suc (pattern_depth p) ∷ (suc (pattern_depth p) ∷ ns))
state_nests (pattern_folded o r q p) ns = pattern_nests p (suc (pattern_depth p) ∷ (suc (pattern_depth p) ∷ (annotation_nest (suc (pattern_depth p)) r ++ (pat_nest (suc (pattern_depth p)) q ++ ns))))
state_nests (have_bind x p) ns = pattern_nests p (pattern_depth p ∷ ns)
state_nests (have_any i p) ns = pattern_nests p (pattern_depth p ∷ ns)
state_nests (after_binders p bs) ns = patterns_nests p (binders_nest (patterns_depth p) bs ++ ns)
state_nests (after_patterns p bs ps) ns = patterns_nests p (binders_nest (patterns_depth p) bs ++ (pats_nest (patterns_depth p) ps ++ ns))
state_nests (pattern_name p bs ps x) ns = patterns_nests p (binders_nest (patterns_depth p) bs ++ (pats_nest (patterns_depth p) ps ++ (patterns_depth p ∷ ns)))
state_nests (after_pattern_labels p bs ps ls) ns = patterns_nests p (binders_nest (patterns_depth p) bs ++ (pats_nest (patterns_depth p) ps ++ (labelled_pats_nest (patterns_depth p) ls ++ ns)))
state_nests (pattern_label p bs ps ls x) ns = patterns_nests p (binders_nest (patterns_depth p) bs ++ (pats_nest (patterns_depth p) ps ++ (labelled_pats_nest (patterns_depth p) ls ++ (patterns_depth p ∷ ns))))
state_nests (binder_hash h p) ns = binder_nests p (binder_depth p ∷ ns)
state_nests (binder_name h x p) ns = binder_nests p (binder_depth p ∷ (binder_depth p ∷ ns))
state_nests (need_kind h x p) ns = binder_nests p (binder_depth p ∷ (binder_depth p ∷ (binder_depth p ∷ ns)))
state_nests (kind_arguments h x ms p) ns = binder_nests p (binder_depth p ∷ (binder_depth p ∷ (binder_depth p ∷ (suc (binder_depth p) ∷ (marks_nest (suc (binder_depth p)) ms ++ ns)))))
state_nests (kind_mark h x ms m p) ns = binder_nests p (binder_depth p ∷ (binder_depth p ∷ (binder_depth p ∷ (suc (binder_depth p) ∷ (marks_nest (suc (binder_depth p)) ms ++ mark_nests (suc (binder_depth p)) m ns)))))
state_nests (kind_arrow h x ms p) ns = binder_nests p (binder_depth p ∷ (binder_depth p ∷ (binder_depth p ∷ (suc (binder_depth p) ∷ (marks_nest (suc (binder_depth p)) ms ++ (suc (binder_depth p) ∷ ns))))))
state_nests (kind_result h x ms p) ns = binder_nests p (binder_depth p ∷ (binder_depth p ∷ (binder_depth p ∷ (suc (binder_depth p) ∷ (marks_nest (suc (binder_depth p)) ms ++ (suc (binder_depth p) ∷ (suc (binder_depth p) ∷ ns)))))))
state_nests (binder_kind h x k j p) ns = binder_nests p (binder_depth p ∷ (binder_depth p ∷ (binder_depth p ∷ (kind_nest (binder_depth p) k ++ ns))))
state_nests (need_type p) ns = type_nests p ns
state_nests (type_open o p) ns = type_nests p (suc (type_depth p) ∷ ns)
state_nests (rec_keyword o p) ns = type_nests p (suc (type_depth p) ∷ (suc (type_depth p) ∷ ns))
state_nests (rec_name o x p) ns = type_nests p (suc (type_depth p) ∷ (suc (type_depth p) ∷ (suc (type_depth p) ∷ ns)))
state_nests (rec_body o x t p) ns = type_nests p (suc (type_depth p) ∷ (suc (type_depth p) ∷ (suc (type_depth p) ∷ (suc (type_depth p) ∷ (type_nest (suc (type_depth p)) t ++ ns)))))
state_nests (operator_arguments o x ts p) ns = type_nests p (suc (type_depth p) ∷ (suc (type_depth p) ∷ (types_nest (suc (type_depth p)) ts ++ ns)))
state_nests (after_type_binders o bs p) ns = type_nests p (suc (type_depth p) ∷ (binders_nest (suc (type_depth p)) bs ++ ns))
state_nests (after_types o bs ts p) ns = type_nests p (suc (type_depth p) ∷ (binders_nest (suc (type_depth p)) bs ++ (types_nest (suc (type_depth p)) ts ++ ns)))
state_nests (type_name o bs ts x p) ns = type_nests p (suc (type_depth p) ∷ (binders_nest (suc (type_depth p)) bs ++ (types_nest (suc (type_depth p)) ts ++ (suc (type_depth p) ∷ ns))))
state_nests (after_type_labels o bs ts ls p) ns = type_nests p (suc (type_depth p) ∷ (binders_nest (suc (type_depth p)) bs ++ (types_nest (suc (type_depth p)) ts ++ (labelled_types_nest (suc (type_depth p)) ls ++ ns))))
state_nests (type_label o bs ts ls x p) ns = type_nests p (suc (type_depth p) ∷ (binders_nest (suc (type_depth p)) bs ++ (types_nest (suc (type_depth p)) ts ++ (labelled_types_nest (suc (type_depth p)) ls ++ (suc (type_depth p) ∷ ns)))))
state_nests (fold_keyword o p) ns = place_nests p (suc (place_depth p) ∷ (suc (place_depth p) ∷ ns))
state_nests (fold_body o r v p) ns = place_nests p (suc (place_depth p) ∷ (suc (place_depth p) ∷ (annotation_nest (suc (place_depth p)) r ++ (val_nest (suc (place_depth p)) v ++ ns))))
state_nests (after_arguments p ts) ns = fields_nests p (arguments_nest (fields_depth p) ts ++ ns)
state_nests (after_values p ts vs) ns = fields_nests p (arguments_nest (fields_depth p) ts ++ (vals_nest (fields_depth p) vs ++ ns))
state_nests (value_name p ts vs x) ns = fields_nests p (arguments_nest (fields_depth p) ts ++ (vals_nest (fields_depth p) vs ++ (fields_depth p ∷ ns)))
state_nests (after_labels p ts vs ls) ns = fields_nests p (arguments_nest (fields_depth p) ts ++ (vals_nest (fields_depth p) vs ++ (labelled_vals_nest (fields_depth p) ls ++ ns)))
state_nests (value_label p ts vs ls x) ns = fields_nests p (arguments_nest (fields_depth p) ts ++ (vals_nest (fields_depth p) vs ++ (labelled_vals_nest (fields_depth p) ls ++ (fields_depth p ∷ ns))))
