-- What the parser's values stand for.
use Rattle.std.specs.Prelude.{◌≡◌, option_map, Result, Ok, Err}
use Rattle.std.specs.Prelude.{Vec}
use Rattle.std.specs.declared.alloc.Global.{Global}
use Rattle.pict_syntax.specs.declared.type_tree.TypeTree.{TypeTree as RTypeTree}
use Rattle.pict_syntax.specs.declared.type_tree.TypeBinder.{TypeBinder as RTypeBinder}
use Rattle.pict_syntax.specs.declared.type_tree.LabelledType.{LabelledType as RLabelledType}
use Rattle.pict_syntax.specs.declared.pattern.Pat.{Pat as RPat}
use Rattle.pict_syntax.specs.declared.pattern.LabelledPat.{LabelledPat as RLabelledPat}
use Rattle.pict_syntax.specs.declared.tree.Dec.{Dec as RDec}
use Rattle.pict_syntax.specs.declared.tree.Definition.{Definition as RDefinition}
use Rattle.pict_syntax.specs.declared.tree.Val.{Val as RVal}
use Rattle.pict_syntax.specs.declared.tree.LabelledVal.{LabelledVal as RLabelledVal}
use Rattle.pict_syntax.specs.declared.tree.Proc.{Proc as RProc}
use Rattle.pict_syntax.specs.PlainTrees.{kind_of, type_of, types_on, binders_on, labelled_types_on, annotation_of, pat_of, field_pats_of, pats_on, labelled_pats_on, abs_of, chan_of, val_of, proc_of, definitions_on, decs_on, vals_on, labelled_vals_on, procs_on}
use Rattle.pict_syntax.specs.Trees.{TypeTrees, TypeBinders, LabelledTypes, Pats, LabelledPats, Decs, Definitions, Vals, LabelledVals, Procs, no_types, no_binders, no_labelled_types, no_pats, no_labelled_pats, no_decs, no_definitions, no_vals, no_labelled_vals, no_procs}
use Rattle.pict_parse_states.specs.declared.places.Side.{Side as RSide}
use Rattle.pict_parse_states.specs.declared.places.Side.TheVariants.{Rightward, Leftward}
use Rattle.pict_parse_states.specs.declared.places.Ask.{Ask as RAsk}
use Rattle.pict_parse_states.specs.declared.places.Ask.TheVariants.{Once, Always}
use Rattle.pict_parse_states.specs.declared.places.Prefix.{Prefix as RPrefix}
use Rattle.pict_parse_states.specs.declared.places.Prefix.TheVariants.{Both, Read, Write, Respond}
use Rattle.pict_parse_states.specs.declared.places.ValuePlace.{ValuePlace as RValuePlace, Let as VLet, Function' as VFunction, Send as VSend, Side as VSide, Field' as VField, Label' as VLabel, Fold as VFold, Else as VElse, Waiting as VWaiting}
use Rattle.pict_parse_states.specs.declared.places.Wait.{Wait as RWait, Top as WTop, Test as WTest, Then' as WThen, Paren' as WParen}
use Rattle.pict_parse_states.specs.declared.places.ProcessPlace.{ProcessPlace as RProcessPlace, Run as PRun, Process' as PProcess, Else as PElse, Bar as PBar, Then' as PThen}
use Rattle.pict_parse_states.specs.declared.places.EitherPlace.{EitherPlace as REitherPlace, Paren as EParen, Then' as EThen}
use Rattle.pict_parse_states.specs.declared.places.ProcessPlaces.{ProcessPlaces as RProcessPlaces, Only' as POnly, Either' as PEither}
use Rattle.pict_parse_states.specs.declared.places.ValuePlaces.{ValuePlaces as RValuePlaces, Only' as VOnly, Either' as VEither}
use Rattle.pict_parse_states.specs.declared.places.Place.{Place as RPlace, Value' as ForVal, Process' as ForProc, Either' as ForEither}
use Rattle.pict_parse_states.specs.declared.places.DeclarationPlace.{DeclarationPlace as RDeclarationPlace, Top as DTop, Paren as DParen}
use Rattle.pict_parse_states.specs.declared.places.AbstractionPlace.{AbstractionPlace as RAbstractionPlace, Definition as ADef, Lambda as ALambda, Input as AInput}
use Rattle.pict_parse_states.specs.declared.places.FieldsPlace.{FieldsPlace as RFieldsPlace, Record as FRecord, Apply as FApply}
use Rattle.pict_parse_states.specs.declared.places.PatternPlaceIn.{PatternPlaceIn, Let as QLet, Abstraction as QAbs, Fold' as QFold, Field' as QField, Label' as QLabel}
use Rattle.pict_parse_states.specs.declared.places.FieldPatternsPlaceIn.{FieldPatternsPlaceIn, Record' as QRecord, Parameters as QParams}
use Rattle.pict_parse_states.specs.declared.places.TypePlaceIn.{TypePlaceIn, New as TNew, Alias as TAlias, Operator as TOperator, Bind as TBind, Any as TAny, Result as TResult, PatternFold as TPatFold, Fold as TFold, Bound' as TBound, Prefix' as TPrefix, Field' as TField, Label' as TLabel, Apply' as TApply, Rec' as TRec, Argument as TArgument}
use Rattle.pict_parse_states.specs.declared.places.BinderPlaceIn.{BinderPlaceIn, Patterns as BPats, Types' as BTypes}
use Rattle.pict_parse_states.specs.declared.states.State.{State as RState}
use Rattle.pict_parse_states.specs.declared.states.State.TheVariants.{Need, FreshName, Arguments, HaveChannel, HaveValue, HaveEither, HaveProcess, HaveProcesses, NewKeyword, NewName, LetPattern, DefinitionKeyword, HaveDefinition, TypeKeyword, AliasName, OperatorOpen, OperatorParameters, OperatorClosed, NeedAbstraction, AbstractionOpen, AbstractionPattern, AbstractionParameters, AbstractionResult, NeedPattern, PatternOpen, PatternRec, PatternFolded, HaveBind, HaveAny, AfterBinders, AfterPatterns, PatternName, AfterPatternLabels, PatternLabel, BinderHash, BinderName, NeedKind, KindArguments, KindMark, KindArrow, KindResult, BinderKind, NeedType, TypeOpen, RecKeyword, RecName, RecBody, OperatorArguments, AfterTypeBinders, AfterTypes, TypeName, AfterTypeLabels, TypeLabel, FoldKeyword, FoldBody, AfterArguments, AfterValues, ValueName, AfterLabels, ValueLabel}
use Rattle.pict_parse_states.specs.declared.states.Fault.{Fault}
use Rattle.pict_parse_states.specs.declared.states.Fault.TheVariants.{Unexpected, Memory}
use Rattle.pict_automaton.specs.Places.{Side, rightward, leftward, Ask, asks_once, asks_always, Prefix, both, read, write, respond, ValuePlace, in_let, in_function, in_send, in_side, in_field, in_label, in_fold, in_else, waiting, Wait, at_top, in_test, in_then, in_paren, ProcessPlace, in_run, in_process, in_else_process, in_bar, in_then_process, EitherPlace, in_paren_either, in_then_either, ProcessPlaces, process_only, process_either, ValuePlaces, value_only, value_either, Place, for_value, for_process, for_either, DeclarationPlace, top_declarations, paren_declarations, AbstractionPlace, in_definition, in_lambda, in_input, FieldsPlace, in_record, in_apply, PatternPlace, in_let_pattern, in_abstraction_pattern, in_fold_pattern, in_field_pattern, in_label_pattern, FieldPatternsPlace, in_pattern_record, in_parameters, TypePlace, in_new, in_alias, in_operator, in_bind, in_any, in_result, in_pattern_fold_type, in_fold_type, in_bound, in_prefix, in_type_field, in_type_label, in_type_apply, in_rec, in_argument, BinderPlace, of_patterns, of_types, State, stop, need, fresh_name, arguments, have_channel, have_value, have_either, have_process, have_processes, new_keyword, new_name, let_pattern, definition_keyword, have_definition, type_keyword, alias_name, operator_open, operator_parameters, operator_closed, need_abstraction, abstraction_open, abstraction_pattern, abstraction_parameters, abstraction_result, need_pattern, pattern_open, pattern_rec, pattern_folded, have_bind, have_any, after_binders, after_patterns, pattern_name, after_pattern_labels, pattern_label, binder_hash, binder_name, need_kind, kind_arguments, kind_mark, kind_arrow, kind_result, binder_kind, need_type, type_open, rec_keyword, rec_name, rec_body, operator_arguments, after_type_binders, after_types, type_name, after_type_labels, type_label, fold_keyword, fold_body, after_arguments, after_values, value_name, after_labels, value_label}

-- the trees that a vector holds, as a plain list
abbrev pub types_in : Vec RTypeTree Global → TypeTrees
types_in ts = types_on no_types ts.items

abbrev pub binders_in : Vec RTypeBinder Global → TypeBinders
binders_in bs = binders_on no_binders bs.items

abbrev pub labelled_types_in : Vec RLabelledType Global → LabelledTypes
labelled_types_in ls = labelled_types_on no_labelled_types ls.items

abbrev pub pats_in : Vec RPat Global → Pats
pats_in ps = pats_on no_pats ps.items

abbrev pub labelled_pats_in : Vec RLabelledPat Global → LabelledPats
labelled_pats_in ls = labelled_pats_on no_labelled_pats ls.items

abbrev pub decs_in : Vec RDec Global → Decs
decs_in ds = decs_on no_decs ds.items

abbrev pub definitions_in : Vec RDefinition Global → Definitions
definitions_in ds = definitions_on no_definitions ds.items

abbrev pub vals_in : Vec RVal Global → Vals
vals_in vs = vals_on no_vals vs.items

abbrev pub labelled_vals_in : Vec RLabelledVal Global → LabelledVals
labelled_vals_in ls = labelled_vals_on no_labelled_vals ls.items

abbrev pub procs_in : Vec RProc Global → Procs
procs_in ps = procs_on no_procs ps.items

abbrev pub side_of : RSide → Side
side_of Rightward = rightward
side_of Leftward = leftward

abbrev pub ask_of : RAsk → Ask
ask_of Once = asks_once
ask_of Always = asks_always

abbrev pub prefix_of : RPrefix → Prefix
prefix_of Both = both
prefix_of Read = read
prefix_of Write = write
prefix_of Respond = respond

abbrev mutual
  pub value_place_of : RValuePlace → ValuePlace
  value_place_of (VLet i r p) = in_let i (pat_of r) (declaration_place_of p)
  value_place_of (VFunction o f r _ p) = in_function o (field_pats_of f) (annotation_of r) (abstraction_place_of p)
  value_place_of (VSend c p) = in_send (chan_of c) (processes_place_of p)
  value_place_of (VSide d o x vs p) = in_side (side_of d) o x (vals_in vs) (place_of p)
  value_place_of (VField _ p ts vs) = in_field (fields_place_of p) (types_in ts) (vals_in vs)
  value_place_of (VLabel _ p ts vs ls x) = in_label (fields_place_of p) (types_in ts) (vals_in vs) (labelled_vals_in ls) x
  value_place_of (VFold o r p) = in_fold o (annotation_of r) (place_of p)
  value_place_of (VElse i a b p) = in_else i (val_of a) (val_of b) (values_place_of p)
  value_place_of (VWaiting w) = waiting (wait_of w)

  pub wait_of : RWait → Wait
  wait_of (WTop ds) = at_top (decs_in ds)
  wait_of (WTest i p) = in_test i (place_of p)
  wait_of (WThen i a _ p) = in_then i (val_of a) (value_place_of p)
  wait_of (WParen o ds _ p) = in_paren o (decs_in ds) (value_place_of p)

  pub process_place_of : RProcessPlace → ProcessPlace
  process_place_of (PRun i p) = in_run i (declaration_place_of p)
  process_place_of (PProcess r _ p) = in_process (pat_of r) (abstraction_place_of p)
  process_place_of (PElse i a r p) = in_else_process i (val_of a) (proc_of r) (processes_place_of p)
  process_place_of (PBar o ds rs p) = in_bar o (decs_in ds) (procs_in rs) (processes_place_of p)
  process_place_of (PThen i a _ p) = in_then_process i (val_of a) (process_place_of p)

  pub either_place_of : REitherPlace → EitherPlace
  either_place_of (EParen o ds p) = in_paren_either o (decs_in ds) (processes_place_of p)
  either_place_of (EThen i a _ p) = in_then_either i (val_of a) (either_place_of p)

  pub processes_place_of : RProcessPlaces → ProcessPlaces
  processes_place_of (POnly _ p) = process_only (process_place_of p)
  processes_place_of (PEither _ p) = process_either (either_place_of p)

  pub values_place_of : RValuePlaces → ValuePlaces
  values_place_of (VOnly _ p) = value_only (value_place_of p)
  values_place_of (VEither _ p) = value_either (either_place_of p)

  pub place_of : RPlace → Place
  place_of (ForVal _ p) = for_value (value_place_of p)
  place_of (ForProc _ p) = for_process (process_place_of p)
  place_of (ForEither _ p) = for_either (either_place_of p)

  pub declaration_place_of : RDeclarationPlace → DeclarationPlace
  declaration_place_of (DTop ds) = top_declarations (decs_in ds)
  declaration_place_of (DParen o ds p) = paren_declarations o (decs_in ds) (place_of p)

  pub abstraction_place_of : RAbstractionPlace → AbstractionPlace
  abstraction_place_of (ADef i ds x p) = in_definition i (definitions_in ds) x (declaration_place_of p)
  abstraction_place_of (ALambda i p) = in_lambda i (values_place_of p)
  abstraction_place_of (AInput a c p) = in_input (ask_of a) (chan_of c) (processes_place_of p)

  pub fields_place_of : RFieldsPlace → FieldsPlace
  fields_place_of (FRecord o p) = in_record o (values_place_of p)
  fields_place_of (FApply o v p) = in_apply o (val_of v) (place_of p)

abbrev pub RPatternPlace : Type 0
RPatternPlace = PatternPlaceIn RDeclarationPlace RAbstractionPlace

abbrev pub RFieldPatternsPlace : Type 0
RFieldPatternsPlace = FieldPatternsPlaceIn RDeclarationPlace RAbstractionPlace

abbrev mutual
  pub pattern_place_of : RPatternPlace → PatternPlace
  pattern_place_of (QLet i p) = in_let_pattern i (declaration_place_of p)
  pattern_place_of (QAbs p) = in_abstraction_pattern (abstraction_place_of p.value)
  pattern_place_of (QFold o r _ p) = in_fold_pattern o (annotation_of r) (pattern_place_of p)
  pattern_place_of (QField _ p bs ps) = in_field_pattern (patterns_place_of p) (binders_in bs) (pats_in ps)
  pattern_place_of (QLabel _ p bs ps ls x) = in_label_pattern (patterns_place_of p) (binders_in bs) (pats_in ps) (labelled_pats_in ls) x

  pub patterns_place_of : RFieldPatternsPlace → FieldPatternsPlace
  patterns_place_of (QRecord o _ p) = in_pattern_record o (pattern_place_of p)
  patterns_place_of (QParams o p) = in_parameters o (abstraction_place_of p.value)

abbrev pub RTypePlace : Type 0
RTypePlace = TypePlaceIn RPlace RDeclarationPlace RAbstractionPlace RFieldsPlace

abbrev pub RBinderPlace : Type 0
RBinderPlace = BinderPlaceIn RPlace RDeclarationPlace RAbstractionPlace RFieldsPlace

abbrev mutual
  pub type_place_of : RTypePlace → TypePlace
  type_place_of (TNew i x p) = in_new i x (declaration_place_of p)
  type_place_of (TAlias i x p) = in_alias i x (declaration_place_of p)
  type_place_of (TOperator i x ys p) = in_operator i x ys.items (declaration_place_of p)
  type_place_of (TBind x p) = in_bind x (pattern_place_of p.value)
  type_place_of (TAny i p) = in_any i (pattern_place_of p.value)
  type_place_of (TResult o f p) = in_result o (field_pats_of f) (abstraction_place_of p.value)
  type_place_of (TPatFold o p) = in_pattern_fold_type o (pattern_place_of p.value)
  type_place_of (TFold o p) = in_fold_type o (place_of p)
  type_place_of (TBound h x k _ p) = in_bound h x (option_map kind_of k) (binder_place_of p)
  type_place_of (TPrefix m i _ p) = in_prefix (prefix_of m) i (type_place_of p)
  type_place_of (TField o bs ts _ p) = in_type_field o (binders_in bs) (types_in ts) (type_place_of p)
  type_place_of (TLabel o bs ts ls x _ p) = in_type_label o (binders_in bs) (types_in ts) (labelled_types_in ls) x (type_place_of p)
  type_place_of (TApply o x ts _ p) = in_type_apply o x (types_in ts) (type_place_of p)
  type_place_of (TRec o x _ p) = in_rec o x (type_place_of p)
  type_place_of (TArgument p ts) = in_argument (fields_place_of p.value) (types_in ts)

  pub binder_place_of : RBinderPlace → BinderPlace
  binder_place_of (BPats p bs) = of_patterns (patterns_place_of p.value) (binders_in bs)
  binder_place_of (BTypes o bs _ p) = of_types o (binders_in bs) (type_place_of p)

abbrev pub parse_state : RState → State
parse_state (Need p) = need (place_of p)
parse_state (FreshName o x p) = fresh_name o x (place_of p)
parse_state (Arguments d o x vs p) = arguments (side_of d) o x (vals_in vs) (place_of p)
parse_state (HaveChannel c p) = have_channel (chan_of c) (processes_place_of p)
parse_state (HaveValue v w) = have_value (val_of v) (wait_of w)
parse_state (HaveEither v p) = have_either (val_of v) (either_place_of p.value)
parse_state (HaveProcess r i a p) = have_process (proc_of r) i (val_of a) (processes_place_of p)
parse_state (HaveProcesses o ds rs r p) = have_processes o (decs_in ds) (procs_in rs) (proc_of r) (processes_place_of p)
parse_state (NewKeyword i p) = new_keyword i (declaration_place_of p)
parse_state (NewName i x p) = new_name i x (declaration_place_of p)
parse_state (LetPattern i r p) = let_pattern i (pat_of r) (declaration_place_of p)
parse_state (DefinitionKeyword i ds p) = definition_keyword i (definitions_in ds) (declaration_place_of p)
parse_state (HaveDefinition i ds x a p) = have_definition i (definitions_in ds) x (abs_of a) (declaration_place_of p)
parse_state (TypeKeyword i p) = type_keyword i (declaration_place_of p)
parse_state (AliasName i x p) = alias_name i x (declaration_place_of p)
parse_state (OperatorOpen i p) = operator_open i (declaration_place_of p)
parse_state (OperatorParameters i x ys p) = operator_parameters i x ys.items (declaration_place_of p)
parse_state (OperatorClosed i x ys p) = operator_closed i x ys.items (declaration_place_of p)
parse_state (NeedAbstraction p) = need_abstraction (abstraction_place_of p.value)
parse_state (AbstractionOpen o p) = abstraction_open o (abstraction_place_of p.value)
parse_state (AbstractionPattern r p) = abstraction_pattern (pat_of r) (abstraction_place_of p.value)
parse_state (AbstractionParameters o f p) = abstraction_parameters o (field_pats_of f) (abstraction_place_of p.value)
parse_state (AbstractionResult o f t p) = abstraction_result o (field_pats_of f) (type_of t) (abstraction_place_of p.value)
parse_state (NeedPattern p) = need_pattern (pattern_place_of p.value)
parse_state (PatternOpen o p) = pattern_open o (pattern_place_of p.value)
parse_state (PatternRec o p) = pattern_rec o (pattern_place_of p.value)
parse_state (PatternFolded o r q p) = pattern_folded o (annotation_of r) (pat_of q) (pattern_place_of p.value)
parse_state (HaveBind x p) = have_bind x (pattern_place_of p.value)
parse_state (HaveAny i p) = have_any i (pattern_place_of p.value)
parse_state (AfterBinders p bs) = after_binders (patterns_place_of p.value) (binders_in bs)
parse_state (AfterPatterns p bs ps) = after_patterns (patterns_place_of p.value) (binders_in bs) (pats_in ps)
parse_state (PatternName p bs ps x) = pattern_name (patterns_place_of p.value) (binders_in bs) (pats_in ps) x
parse_state (AfterPatternLabels p bs ps ls) = after_pattern_labels (patterns_place_of p.value) (binders_in bs) (pats_in ps) (labelled_pats_in ls)
parse_state (PatternLabel p bs ps ls x) = pattern_label (patterns_place_of p.value) (binders_in bs) (pats_in ps) (labelled_pats_in ls) x
parse_state (BinderHash h p) = binder_hash h (binder_place_of p.value)
parse_state (BinderName h x p) = binder_name h x (binder_place_of p.value)
parse_state (NeedKind h x p) = need_kind h x (binder_place_of p.value)
parse_state (KindArguments h x ms p) = kind_arguments h x ms.items (binder_place_of p.value)
parse_state (KindMark h x ms m p) = kind_mark h x ms.items m (binder_place_of p.value)
parse_state (KindArrow h x ms p) = kind_arrow h x ms.items (binder_place_of p.value)
parse_state (KindResult h x ms p) = kind_result h x ms.items (binder_place_of p.value)
parse_state (BinderKind h x k j p) = binder_kind h x (kind_of k) j (binder_place_of p.value)
parse_state (NeedType p) = need_type (type_place_of p.value)
parse_state (TypeOpen o p) = type_open o (type_place_of p.value)
parse_state (RecKeyword o p) = rec_keyword o (type_place_of p.value)
parse_state (RecName o x p) = rec_name o x (type_place_of p.value)
parse_state (RecBody o x t p) = rec_body o x (type_of t) (type_place_of p.value)
parse_state (OperatorArguments o x ts p) = operator_arguments o x (types_in ts) (type_place_of p.value)
parse_state (AfterTypeBinders o bs p) = after_type_binders o (binders_in bs) (type_place_of p.value)
parse_state (AfterTypes o bs ts p) = after_types o (binders_in bs) (types_in ts) (type_place_of p.value)
parse_state (TypeName o bs ts x p) = type_name o (binders_in bs) (types_in ts) x (type_place_of p.value)
parse_state (AfterTypeLabels o bs ts ls p) = after_type_labels o (binders_in bs) (types_in ts) (labelled_types_in ls) (type_place_of p.value)
parse_state (TypeLabel o bs ts ls x p) = type_label o (binders_in bs) (types_in ts) (labelled_types_in ls) x (type_place_of p.value)
parse_state (FoldKeyword o p) = fold_keyword o (place_of p)
parse_state (FoldBody o r v p) = fold_body o (annotation_of r) (val_of v) (place_of p)
parse_state (AfterArguments p ts) = after_arguments (fields_place_of p.value) (types_in ts)
parse_state (AfterValues p ts vs) = after_values (fields_place_of p.value) (types_in ts) (vals_in vs)
parse_state (ValueName p ts vs x) = value_name (fields_place_of p.value) (types_in ts) (vals_in vs) x
parse_state (AfterLabels p ts vs ls) = after_labels (fields_place_of p.value) (types_in ts) (vals_in vs) (labelled_vals_in ls)
parse_state (ValueLabel p ts vs ls x) = value_label (fields_place_of p.value) (types_in ts) (vals_in vs) (labelled_vals_in ls) x

-- the answer is this state, or a refusal where it is `stop`, unless memory ran out
abbrev pub GivesState : Result RState Fault → State → Type 0
GivesState (Ok x) y = parse_state x ≡ y
GivesState (Err Unexpected) y = y ≡ stop
GivesState (Err Memory) y = Unit {0}

-- the answer is this place, unless memory ran out
abbrev pub GivesPlace : Result RPlace Fault → Place → Type 0
GivesPlace (Ok x) y = place_of x ≡ y
GivesPlace (Err e) y = e ≡ Memory
